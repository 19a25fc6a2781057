-- How the paths to the nodes at an address end, from the verdict of each.
use Rattle.std.proofs.Common.{◌≡◌, ℕ, ◌+◌, ◌<◌, ◌⊎◌, inl, inr, ⊎_elim, List, length, take, false, Option, Some, None, refl, ap, sym, ◌∙◌, subst, arith}
use Rattle.std.specs.Prelude.{slice_get, ◌↔◌, IfSome, IfNone}
use Rattle.std.specs.List.{Contains}
use Rattle.std.proofs.Math.ListN.{get_or}
use Rattle.std.proofs.lemmas.Bool.{false≢true}
use Rattle.std.proofs.lemmas.List.{take_more}
use Rattle.std.proofs.lemmas.List.Elements.{Contains-push_cases}
use Rattle.std.proofs.lemmas.Option.{slice_get-get_or, slice_get_within, same_Some, none-some}
use Rattle.path_model.specs.declared.graph.Node.{Node}
use Rattle.path_model.specs.Graph.{address_of}
use Rattle.node_spec.specs.declared.verdict.Kept.TheVariants.{EachAddress}
use Rattle.node_spec.specs.declared.verdict.NodeVerdict.{NodeVerdict}
use Rattle.node_spec.specs.declared.verdict.NodeVerdict.TheVariants.{Hits, Misses, Both}
use Rattle.node_spec.specs.Plan.{IsNodeAt, AllHave}
use Rattle.node_spec.specs.Verdict.{HasWays, HaveWays}
use Rattle.report_plan.specs.declared.merge.Sought.{Sought}
use Rattle.report_plan.specs.declared.merge.Sought.TheVariants.{Hitting, Missing, Keeping}
use Rattle.report_plan.specs.Place.{AreSources}
use Rattle.report_plan.specs.Sources.{is_sought, IsSought}

-- a fact that holds where nothing was found
pub none-found : (o : Option ℕ) (P : Type 0) → o ≡ None → IfNone o P → P
none-found None P is none = none
none-found (Some n) P is none = absurd (none-some n (sym is))

-- a fact of what was found
pub some-found : (o : Option ℕ) (P : ℕ → Type 0) (n : ℕ) → o ≡ Some n → IfSome o P → P n
some-found None P n is some = absurd (none-some n is)
some-found (Some m) P n is some = subst P (same_Some m n is) some

-- a node whose verdict isn't sought isn't sought
pub not-sought : (verdicts : List NodeVerdict) (sought : Sought) (n : ℕ) (verdict : NodeVerdict)
    → slice_get verdicts n ≡ Some verdict → is_sought sought verdict ≡ false → IsSought verdicts sought n → ⊥
not-sought verdicts sought n verdict has never it =
    let same : it.0 ≡ verdict = same_Some it.0 verdict (sym it.1 ∙ has) in
    false≢true (sym never ∙ ap (is_sought sought) (sym same) ∙ it.2)

-- where none of the first i is sought, and neither is the next, none of the first i + 1 is
pub none-more : (verdicts : List NodeVerdict) (sought : Sought) (here : List ℕ) (i : ℕ) → i < length here
    → ((n : ℕ) → Contains (take i here) n → IsSought verdicts sought n → ⊥)
    → (IsSought verdicts sought (get_or here i 0) → ⊥)
    → (n : ℕ) → Contains (take (i + 1) here) n → IsSought verdicts sought n → ⊥
none-more verdicts sought here i inside none next n listed it =
    let P : List ℕ → Type 0 = λ prefix. Contains prefix n in
    let Q : ℕ → Type 0 = λ n. IsSought verdicts sought n in
    ⊎_elim
    (λ (earlier : Contains (take i here) n). none n earlier it)
    (λ (last : get_or here i 0 ≡ n). next (subst Q (sym last) it))
    (Contains-push_cases (take i here) (get_or here i 0) n (subst P (take_more here i 0 inside) listed))

-- a node that was sought because it always hits does
pub sought-hits : (verdicts : List NodeVerdict) (n : ℕ) → IsSought verdicts Hitting n → slice_get verdicts n ≡ Some Hits
sought-hits verdicts n (Hits, is, so) = is
sought-hits verdicts n (Misses, is, so) = absurd (false≢true so)
sought-hits verdicts n (Both None, is, so) = absurd (false≢true so)
sought-hits verdicts n (Both (Some ways), is, so) = absurd (false≢true so)

-- one that was sought because it always misses does
pub sought-misses : (verdicts : List NodeVerdict) (n : ℕ) → IsSought verdicts Missing n
    → slice_get verdicts n ≡ Some Misses
sought-misses verdicts n (Hits, is, so) = absurd (false≢true so)
sought-misses verdicts n (Misses, is, so) = is
sought-misses verdicts n (Both None, is, so) = absurd (false≢true so)
sought-misses verdicts n (Both (Some ways), is, so) = absurd (false≢true so)

-- the nodes are those at the address, and each has a verdict
pub record AreThose (nodes : List Node) (verdicts : List NodeVerdict) (address : ℕ) (here : List ℕ) : Type 0 where
  pub one_each : length verdicts ≡ length nodes
  pub members : (n : ℕ) → Contains here n ↔ IsNodeAt nodes address n

module _ (nodes : List Node) (verdicts : List NodeVerdict) (address : ℕ) (here : List ℕ)
    (are : AreThose nodes verdicts address here) where
  -- each node at the address has a verdict
  pub those-inside : (n : ℕ) → Contains here n → n < length verdicts
  those-inside n listed = let at = (are.members n).0 listed in omega (arith, at.inside, are.one_each)

  module _ (ways : HaveWays nodes verdicts EachAddress)
      (none_keeps : (n : ℕ) → Contains here n → IsSought verdicts Keeping n → ⊥) where
    -- where no node there keeps ways, no path there can do both
    never-both : (n : ℕ) → IsNodeAt nodes address n → slice_get verdicts n ≡ Some (Both None) → ⊥
    never-both n at is =
        let (m, found) = ways n is in
        let there : HasWays verdicts m × (address_of nodes m ≡ address_of nodes n) = found in
        let ((kept, has), same) = there in
        let within = slice_get_within verdicts m (Both (Some kept)) has in
        let at_m : IsNodeAt nodes address m =
        record { inside = omega (arith, within, are.one_each); at = same ∙ at.at } in
        none_keeps m ((are.members m).1 at_m) (Both (Some kept), has, refl)

    -- so each node there always hits, or always misses
    hits-or_misses : (n : ℕ) (verdict : NodeVerdict) → IsNodeAt nodes address n → slice_get verdicts n ≡ Some verdict
        → IsSought verdicts Hitting n ⊎ IsSought verdicts Missing n
    hits-or_misses n Hits at is = inl (Hits, is, refl)
    hits-or_misses n Misses at is = inr (Misses, is, refl)
    hits-or_misses n (Both None) at is = absurd (never-both n at is)
    hits-or_misses n (Both (Some kept)) at is =
        absurd (none_keeps n ((are.members n).1 at) (Both (Some kept), is, refl))

    either : (n : ℕ) → IsNodeAt nodes address n → IsSought verdicts Hitting n ⊎ IsSought verdicts Missing n
    either n at =
        let inside : n < length verdicts = omega (arith, at.inside, are.one_each) in
        hits-or_misses n (get_or verdicts n Hits) at (slice_get-get_or verdicts n Hits inside)

    -- where none misses, all hit
    pub all-hit : (n : ℕ) → Contains here n → ((m : ℕ) → Contains here m → IsSought verdicts Missing m → ⊥)
        → AllHave nodes verdicts address Hits
    all-hit n some none = record {
      some = (n, (are.members n).0 some);
      each = λ m at. ⊎_elim
          (λ (hits : IsSought verdicts Hitting m). sought-hits verdicts m hits)
          (λ (misses : IsSought verdicts Missing m). absurd (none m ((are.members m).1 at) misses))
          (either m at);
    }

    -- where none hits, all miss
    pub all-miss : (n : ℕ) → Contains here n → ((m : ℕ) → Contains here m → IsSought verdicts Hitting m → ⊥)
        → AllHave nodes verdicts address Misses
    all-miss n some none = record {
      some = (n, (are.members n).0 some);
      each = λ m at. ⊎_elim
          (λ (hits : IsSought verdicts Hitting m). absurd (none m ((are.members m).1 at) hits))
          (λ (misses : IsSought verdicts Missing m). sought-misses verdicts m misses)
          (either m at);
    }

    -- where none hits or misses, there is none
    pub none-there : ((m : ℕ) → Contains here m → IsSought verdicts Hitting m → ⊥)
        → ((m : ℕ) → Contains here m → IsSought verdicts Missing m → ⊥)
        → (n : ℕ) → IsNodeAt nodes address n → ⊥
    none-there no_hit no_miss n at = ⊎_elim
        (λ (hits : IsSought verdicts Hitting n). no_hit n ((are.members n).1 at) hits)
        (λ (misses : IsSought verdicts Missing n). no_miss n ((are.members n).1 at) misses)
        (either n at)

    -- where one hits and one misses, a way comes from each
    pub sources-apart : (hit miss : ℕ) → Contains here hit → IsSought verdicts Hitting hit → Contains here miss
        → IsSought verdicts Missing miss → AreSources nodes verdicts address hit miss
    sources-apart hit miss hit_listed hits miss_listed misses = inr (
      λ n keeps. none_keeps n ((are.members n).1 keeps.0) (Both (Some keeps.1.0), keeps.1.1, refl),
      ((are.members hit).0 hit_listed, sought-hits verdicts hit hits),
      ((are.members miss).0 miss_listed, sought-misses verdicts miss misses),
    )
