-- Families whose marks are those of all paths to a node have exactly the most younger sets there too, absent exactly
-- where a path leaves a large one, or none.
use Rattle.std.proofs.Common.{◌≡◌, ℕ, ◌<◌, List, length, ltb, Option, Some, None, Contains, inl, inr, refl, subst, ap, ◌∙◌}
use Rattle.std.proofs.lemmas.Bool.{ltb-true, true_from_ne_false}
use Rattle.path_model.specs.declared.graph.Node.{Node}
use Rattle.set_list.specs.SetList.{IsSubset}
use Rattle.set_list.specs.RisingSets.{same_from_subsets}
use Rattle.focus_spec.specs.Focus.{younger_after, warm_after, MayBeLarge, IsMostYounger, AreMost}
use Rattle.focus_values.specs.Marks.{Setting, under, lost}
use Rattle.focus_values.specs.Families.{AreFit, HasOver}
use Rattle.focus_values.proofs.Small.{set-rising}
use Rattle.focus_values.proofs.Meaning.{marks-true, marks_from}
use Rattle.focus_values.proofs.Outcome.{marks_two, IsLocal, AreWithin}
use Rattle.focus_values.proofs.Exact.{one-under, under-one, one-lost, lost-one, IsLeft, left-local, left-set, AreAbove, AreReached}

module _ (g : Setting) (nodes : List Node) (n : ℕ) (least : List (List ℕ)) where
  -- the warm set that a path leaves
  abbrev Warm : List ℕ → Option (List ℕ)
  Warm earlier = warm_after g.fetches g.start g.block earlier

  -- the younger set that it leaves
  abbrev Younger : List ℕ → Option (List ℕ)
  Younger earlier = younger_after g.fetches g.block earlier

  -- where the most sets are absent some path leaves a large younger set or none
  absent_large : AreReached g nodes n least None → MayBeLarge nodes g.fetches g.ways g.block n
  absent_large reached =
      let path = reached lost refl in
      (Younger path.0, (path.0, path.1, refl), lost-one g (Warm path.0) (Younger path.0) path.2)

  module _ (within : AreWithin g) (sets : List (List ℕ)) (fit : AreFit g least (Some sets))
      (above : AreAbove g nodes n least (Some sets)) (reached : AreReached g nodes n least (Some sets)) where
    -- some path leaves the younger set
    abbrev Remains : List ℕ → Type 0
    Remains = IsLeft g nodes n None

    -- then it is local
    younger-local : (set : List ℕ) → Remains set → IsLocal g set
    younger-local = left-local g nodes n within None tt

    -- where they are there no path leaves a large one or none
    never_large : MayBeLarge nodes g.fetches g.ways g.block n → ⊥
    never_large large =
        let w : Option (List ℕ) = Warm large.1.0 in
        (marks-true g least (Some sets) lost (above large.1.0 large.1.1 lost
        (ap (λ (y : Option (List ℕ)). marks_two g w y lost) large.1.2 ∙ one-lost g w large.0 large.2))).1

    -- so each has few numbers
    few_left : (set : List ℕ) → Remains set → length set < g.ways
    few_left set left = ltb-true (length set) g.ways
        (true_from_ne_false (ltb (length set) g.ways) (λ large. never_large (Some set, left, large)))

    -- and is included in one of the most
    in_most : (set : List ℕ) → Remains set → HasOver sets set
    in_most set left =
        let few = few_left set left in
        let w : Option (List ℕ) = Warm left.0 in
        let is = left-set g nodes n within None tt set left few in
        (marks-true g least (Some sets) (under set) (above left.0 left.1 (under set)
        (ap (λ (y : Option (List ℕ)). marks_two g w y (under set)) left.2
        ∙ one-under g w set set few is (λ x has. has)))).1

    -- a path leaves each of the most
    most_left : (s : List ℕ) → Contains sets s → Remains s
    most_left s there =
        let s_is = fit.most_sets s there in
        let path = reached (under s) (marks_from g least (Some sets) (under s) s_is (s, there, λ x has. has)) in
        elim (under-one g (Warm path.0) (Younger path.0) s path.2) [
          | inl large ↦ absurd (never_large (Younger path.0, (path.0, path.1, refl), large))
          | inr one ↦
              let left : Remains one.0 = (path.0, path.1, one.1) in
              let more = in_most one.0 left in
              let is_s = fit.highest s there more.0 more.1 (λ x has. more.2 x (one.3 x has)) in
              let back : IsSubset one.0 s = subst (IsSubset one.0) is_s more.2 in
              let same = same_from_subsets one.0 s (younger-local one.0 left).rising (set-rising g s s_is) back
              one.3 in
              subst Remains same left
        ]

    -- and no other that includes it
    most_most : (s : List ℕ) → Contains sets s → (other : List ℕ) → Remains other → IsSubset s other → other ≡ s
    most_most s there other left subset =
        let more = in_most other left in
        let is_s = fit.highest s there more.0 more.1 (λ x has. more.2 x (subset x has)) in
        same_from_subsets other s (younger-local other left).rising (set-rising g s (fit.most_sets s there))
        (subst (IsSubset other) is_s more.2) subset

    -- the most younger sets are exact
    exact_sets : (s : List ℕ) → (Contains sets s → IsMostYounger nodes g.fetches g.block n s) × (IsMostYounger nodes
        g.fetches g.block n s → Contains sets s)
    exact_sets s = (
      λ there. record { left = most_left s there; most = most_most s there },
      λ is.
          let more = in_most s is.left in
          subst (Contains sets) (is.most more.0 (most_left more.0 more.1) more.2) more.1,
    )

-- absent ones or not
pub exact_most : (g : Setting) (nodes : List Node) → AreWithin g → (n : ℕ) (least : List (List ℕ))
    (most : Option (List (List ℕ))) → AreFit g least most → AreAbove g nodes n least most
    → AreReached g nodes n least most → AreMost nodes g.fetches g.ways g.block n most
exact_most g nodes within n least None fit above reached = absent_large g nodes n least reached
exact_most g nodes within n least (Some sets) fit above reached = (
  never_large g nodes n least within sets fit above reached,
  exact_sets g nodes n least within sets fit above reached,
)
