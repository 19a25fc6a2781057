-- Some of the nodes of a view, judged one after another.
use Rattle.std.proofs.Common.{◌≡◌, ◌⊎◌, ℕ, ◌+◌, ◌<◌, ◌≤◌, inl, inr, List, [], ◌∷◌, ◌++◌, length, Option, Some, None, refl, sym, ap, subst, ◌∙◌, arith}
use Rattle.std.proofs.lemmas.Bool.{cases_eq, cases_lt}
use Rattle.std.proofs.lemmas.List.{get_or_past}
use Rattle.std.proofs.lemmas.Option.{none-some}
use Rattle.std.proofs.lemmas.List.Elements.{Contains-push, Contains-push_cases, Contains-append_left}
use Rattle.std.specs.List.{Contains}
use Rattle.std.specs.Prelude.{unwrap_or}
use Rattle.cache_spec.specs.declared.start.Start.{Start}
use Rattle.focus_spec.specs.Younger.{fetch_at}
use Rattle.path_model.specs.Graph.{address_of}
use Rattle.node_spec.specs.declared.verdict.Kept.{Kept}
use Rattle.node_spec.specs.declared.verdict.Kept.TheVariants.{EachAddress}
use Rattle.set_view.specs.View.{View}
use Rattle.node_verdicts.specs.declared.judged.Ends.{Ends}
use Rattle.node_verdicts.specs.declared.judged.Ends.TheVariants.{Hits, Misses, Both}
use Rattle.node_verdicts.specs.declared.judged.Judged.{Judged}
use Rattle.node_verdicts.specs.Judged.{IsEnds, HasPaths, HavePathsAt, Serves, AreJudged, addresses_with}

-- nothing is among none
pub none_there : {X : Type 0} (x : X) → Contains [] x → ⊥
none_there x (k, inside, is) = absurd (omega (arith, inside))

-- the nodes below the count are judged, as far as they are within what is looked at; paths are kept at a node of each of
-- the addresses, and spared at no other address
pub record AreSoFar (view : View) (start : Start) (kept : Kept) (Within : ℕ → Type 0) (count : ℕ) (addresses : List ℕ)
    (judged : List Judged) : Type 0 where
  pub below : (one : Judged) → Contains judged one → one.node < count
  pub within : (one : Judged) → Contains judged one → Within one.node
  pub right : (one : Judged) → Contains judged one → IsEnds view.nodes view.geometry start one.node one.ends
  pub all : (n : ℕ) → n < count → Within n → (one : Judged) × Contains judged one × (one.node ≡ n)
  pub spared : (one : Judged) → Contains judged one → one.ends ≡ Both None
      → (kept ≡ EachAddress) × Contains addresses (address_of view.nodes one.node)
  pub have : (a : ℕ) → Contains addresses a → (m : ℕ) × (address_of view.nodes m ≡ a) × HavePathsAt judged m

-- at first there are none
pub so_far_none : (view : View) (start : Start) (kept : Kept) (Within : ℕ → Type 0) (addresses : List ℕ)
    (judged : List Judged) → addresses ≡ [] → judged ≡ [] → AreSoFar view start kept Within 0 addresses judged
so_far_none view start kept Within addresses judged no_addresses none =
    subst (AreSoFar view start kept Within 0 addresses) (sym none)
    (subst (λ (xs : List ℕ). AreSoFar view start kept Within 0 xs []) (sym no_addresses) (record {
      below = λ one there. absurd (none_there one there);
      within = λ one there. absurd (none_there one there);
      right = λ one there. absurd (none_there one there);
      all = λ n below is. absurd (omega (arith, below));
      spared = λ one there is. absurd (none_there one there);
      have = λ a there. absurd (none_there a there);
    }))

-- more nodes, none of which is looked at
pub so_far_to : (view : View) (start : Start) (kept : Kept) (Within : ℕ → Type 0) (count next : ℕ) (addresses : List ℕ)
    (judged : List Judged) → AreSoFar view start kept Within count addresses judged → count ≤ next
    → ((n : ℕ) → count ≤ n → n < next → Within n → ⊥) → AreSoFar view start kept Within next addresses judged
so_far_to view start kept Within count next addresses judged are more other = record {
  below = λ one there. omega (arith, are.below one there, more);
  within = are.within;
  right = are.right;
  all = λ n below is. elim (cases_lt n count) [
    | inl before ↦ are.all n before is
    | inr past ↦ absurd (other n past below is)
  ];
  spared = are.spared;
  have = are.have;
}

-- one more node that isn't looked at
pub so_far_passed : (view : View) (start : Start) (kept : Kept) (Within : ℕ → Type 0) (count : ℕ) (addresses : List ℕ)
    (judged : List Judged) → AreSoFar view start kept Within count addresses judged
    → (Within count → ⊥) → AreSoFar view start kept Within (count + 1) addresses judged
so_far_passed view start kept Within count addresses judged are other =
    so_far_to view start kept Within count (count + 1) addresses judged are (omega arith)
    (λ n past below is. other (subst Within (omega (arith, past, below)) is))

-- where paths are kept at the node, its address is added
addresses_kept : (ends : Ends) (at : ℕ) (addresses : List ℕ) → HasPaths ends
    → addresses_with ends at addresses ≡ addresses ++ at ∷ []
addresses_kept Hits at addresses (paths, is) = absurd (cc is)
addresses_kept Misses at addresses (paths, is) = absurd (cc is)
addresses_kept (Both None) at addresses (paths, is) = absurd (cc is)
addresses_kept (Both (Some kept)) at addresses (paths, is) = refl

-- an address that is among them now was before, or is that of the node, whose paths are kept
address_cases : (ends : Ends) (at : ℕ) (addresses : List ℕ) (a : ℕ) → Contains (addresses_with ends at addresses) a
    → Contains addresses a ⊎ (HasPaths ends × (at ≡ a))
address_cases Hits at addresses a there = inl there
address_cases Misses at addresses a there = inl there
address_cases (Both None) at addresses a there = inl there
address_cases (Both (Some paths)) at addresses a there = elim (Contains-push_cases addresses at a there) [
  | inl before ↦ inl before
  | inr same ↦ inr ((paths, refl), same)
]

-- no address is lost
address_left : (ends : Ends) (at : ℕ) (addresses : List ℕ) (a : ℕ) → Contains addresses a
    → Contains (addresses_with ends at addresses) a
address_left Hits at addresses a there = there
address_left Misses at addresses a there = there
address_left (Both None) at addresses a there = there
address_left (Both (Some paths)) at addresses a there = Contains-append_left addresses (at ∷ []) a there

-- a node with paths still has them after one more node
have_more : (judged : List Judged) (last : Judged) (m : ℕ) → HavePathsAt judged m → (last.node ≡ m → ⊥)
    → HavePathsAt (judged ++ last ∷ []) m
have_more judged last m have other =
    let (one, there, is) = have.some in
    record {
      some = (one, Contains-append_left judged (last ∷ []) one there, is);
      each = λ one there at. elim (Contains-push_cases judged last one there) [
        | inl before ↦ have.each one before at
        | inr same ↦ absurd (other (ap (λ (j : Judged). j.node) same ∙ at))
      ];
    }

-- the last node has paths if its own are kept, and it wasn't among those before
have_last : (judged : List Judged) (last : Judged) → HasPaths last.ends
    → ((one : Judged) → Contains judged one → one.node < last.node) → HavePathsAt (judged ++ last ∷ []) last.node
have_last judged last has below = record {
  some = (last, Contains-push judged last, refl);
  each = λ one there at. elim (Contains-push_cases judged last one there) [
    | inl before ↦ absurd (omega (arith, below one before, at))
    | inr same ↦ subst (λ (j : Judged). HasPaths j.ends) same has
  ];
}

module _ (view : View) (start : Start) (kept : Kept) (Within : ℕ → Type 0) (count : ℕ) (addresses : List ℕ)
    (judged : List Judged) (are : AreSoFar view start kept Within count addresses judged) (is : Within count)
    (ends : Ends) (right : IsEnds view.nodes view.geometry start count ends)
    (spared : ends ≡ Both None → (kept ≡ EachAddress) × Contains addresses (address_of view.nodes count)) where
  -- the node that is added
  abbrev last : Judged
  last = record { node = count; ends = ends }

  -- its address
  abbrev at : ℕ
  at = address_of view.nodes count

  -- paths are spared only at addresses that have some
  spared_more : (one : Judged) → Contains (judged ++ last ∷ []) one → one.ends ≡ Both None
      → (kept ≡ EachAddress) × Contains (addresses_with ends at addresses) (address_of view.nodes one.node)
  spared_more one there none = elim (Contains-push_cases judged last one there) [
    | inl before ↦
        let old = are.spared one before none in
        (old.0, address_left ends at addresses (address_of view.nodes one.node) old.1)
    | inr same ↦
        let old = spared (ap (λ (j : Judged). j.ends) same ∙ none) in (
          old.0,
          address_left ends at addresses (address_of view.nodes one.node)
              (subst (λ (j : Judged). Contains addresses (address_of view.nodes j.node)) same old.1),
        )
  ]

  -- each address has a node with paths
  have_with : (a : ℕ) → Contains (addresses_with ends at addresses) a
      → (m : ℕ) × (address_of view.nodes m ≡ a) × HavePathsAt (judged ++ last ∷ []) m
  have_with a there = elim (address_cases ends at addresses a there) [
    | inl before ↦
        let (m, is, have) = are.have a before in
        let (one, among, node) = have.some in
        let below = are.below one among in
        (m, is, have_more judged last m have (λ same. omega (arith, below, node, same)))
    | inr (has, is) ↦ (count, is, have_last judged last has are.below)
  ]

  so_far_added : AreSoFar view start kept Within (count + 1) (addresses_with ends at addresses) (judged ++ last ∷ [])
  so_far_added = record {
    below = λ one there. elim (Contains-push_cases judged last one there) [
      | inl before ↦ omega (arith, are.below one before)
      | inr same ↦ omega (arith, ap (λ (j : Judged). j.node) same)
    ];
    within = λ one there. elim (Contains-push_cases judged last one there) [
      | inl before ↦ are.within one before
      | inr same ↦ subst (λ (j : Judged). Within j.node) same is
    ];
    right = λ one there. elim (Contains-push_cases judged last one there) [
      | inl before ↦ are.right one before
      | inr same ↦ subst (λ (j : Judged). IsEnds view.nodes view.geometry start j.node j.ends) same right
    ];
    all = λ n below at. elim (cases_eq count n) [
      | inl here ↦ (last, Contains-push judged last, here)
      | inr before ↦
          let (one, there, is) = are.all n (omega (arith, below, before)) at in
          (one, Contains-append_left judged (last ∷ []) one there, is)
    ];
    spared = spared_more;
    have = have_with;
  }

  -- one more node that is looked at
  pub so_far_more : (more : List Judged) (with_it : List ℕ) → more ≡ judged ++ last ∷ []
      → with_it ≡ addresses_with ends at addresses → AreSoFar view start kept Within (count + 1) with_it more
  so_far_more more with_it more_is with_is =
      subst (AreSoFar view start kept Within (count + 1) with_it) (sym more_is)
      (subst (λ (xs : List ℕ). AreSoFar view start kept Within (count + 1) xs (judged ++ last ∷ [])) (sym with_is)
      so_far_added)

-- where paths are spared those of another node at the address serve
serves_by : (view : View) (kept : Kept) (n m : ℕ) → kept ≡ EachAddress
    → address_of view.nodes m ≡ address_of view.nodes n → Serves view.nodes kept n m
serves_by view kept n m is at = subst (λ (k : Kept). Serves view.nodes k n m) (sym is) at

-- all of them
pub so_far_all : (view : View) (start : Start) (kept : Kept) (Within : ℕ → Type 0) (count : ℕ) (addresses : List ℕ)
    (judged : List Judged) → AreSoFar view start kept Within count addresses judged
    → ((n : ℕ) → Within n → n < count) → AreJudged view.nodes view.geometry start kept Within judged
so_far_all view start kept Within count addresses judged are below = record {
  within = are.within;
  right = are.right;
  all = λ n is. are.all n (below n is) is;
  served = λ one there none.
      let (is, among) = are.spared one there none in
      let (m, at, have) = are.have (address_of view.nodes one.node) among in
      (m, serves_by view kept one.node m is at, have);
}

-- a node that fetches a block is one of those that are viewed
pub fetch_inside : (fetches : List (Option ℕ)) (n block : ℕ) → fetch_at fetches n ≡ Some block → n < length fetches
fetch_inside fetches n block is = elim (cases_lt n (length fetches)) [
  | inl inside ↦ inside
  | inr past ↦ absurd (none-some block (sym (get_or_past fetches n None past) ∙ is))
]

-- no node fetches two blocks
pub fetches_one : (view : View) (n one two : ℕ) → fetch_at view.fetches n ≡ Some one → fetch_at view.fetches n ≡ Some two
    → one ≡ two
fetches_one view n one two first second = ap (λ (o : Option ℕ). unwrap_or o 0) (sym first ∙ second)
