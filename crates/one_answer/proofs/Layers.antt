-- A system of steps determines its layers, and after an empty one all are empty.
use Rattle.std.proofs.Common.{◌≡◌, ℕ, ◌+◌, ◌<◌, List, [], ◌∷◌, ◌++◌, length, refl, ap, subst, arith, inl, inr}
use Rattle.std.specs.Prelude.{◌⊎◌, Result}
use Rattle.std.specs.List.{AllByRecursion}
use Rattle.std.specs.Cmp.{IsTotalOrder}
use Rattle.std.specs.declared.cmp.Ordering.{Ordering}
use Rattle.list_lemmas.proofs.Members.{empty-none}
use Rattle.transition_spec.specs.Path.{IsPath}
use Rattle.transition_spec.specs.Layer.{IsReachedIn, IsInLayer, IsLayer, AreLayersFrom}
use Rattle.one_answer.proofs.Listed.{same_sorted}

-- the last layer of these is one of the earlier ones of those
abbrev pub EndsWithin : {C : Type 0} → List (List C) → List C → List (List C) → Type 0
EndsWithin {C} earlier last others = (rest : List (List C)) × (others ≡ earlier ++ last ∷ rest)

module _ {C F : Type 0} (step : C → Result (List C) F) (start : C) (order : C → C → Ordering)
    (total : IsTotalOrder order) where
  -- a layer has one list
  pub one_layer : (n : ℕ) (layer other : List C) → IsLayer step start order n layer → IsLayer step start order n other
      → layer ≡ other
  one_layer n layer other is is' =
      same_sorted order total layer other is.sorted is'.sorted (λ c has. (is'.members c).1 ((is.members c).0 has))
      (λ c has. (is.members c).1 ((is'.members c).0 has))

  -- a member of the next layer follows one of the layer
  from_layer : (n : ℕ) (c : C) → ((m : ℕ) → m < n + 1 → IsReachedIn step start m c → ⊥) → (earlier : List C)
      → length earlier ≡ n + 1
      → IsPath step start (c ∷ earlier) → (b : C) × IsInLayer step start n b
  from_layer n c no_sooner [] long path = absurd (omega (arith, long))
  from_layer n c no_sooner (b ∷ earlier) long path = (
    b,
    record {
      reached = (earlier, omega (arith, long), path.1);
      no_sooner = λ m sooner (before, short, way).
          no_sooner (m + 1) (omega (arith, sooner)) (b ∷ before, omega (arith, short), (path.0, way));
    },
  )

  -- after an empty layer comes an empty one
  none_next : (n : ℕ) (layer : List C) → IsLayer step start order n [] → IsLayer step start order (n + 1) layer
      → layer ≡ []
  none_next n layer empty is =
      empty-none layer (λ c has.
      let it = (is.members c).0 has in
      let (earlier, long, path) = it.reached in
      let (b, before) = from_layer n c it.no_sooner earlier long path in
      let (k, lt, at) = (empty.members b).1 before in omega (arith, lt))

  -- and so all after it are
  pub none_after : (n : ℕ) (layers : List (List C)) → IsLayer step start order n []
      → AreLayersFrom step start order (n + 1) layers
      → AllByRecursion (λ (layer : List C). layer ≡ []) layers
  none_after n [] empty are = tt
  none_after n (layer ∷ layers) empty are =
      let none = none_next n layer empty are.0 in
      (none, none_after (n + 1) layers (subst (IsLayer step start order (n + 1)) none are.0) are.1)

  -- those after some layers, where one of them is empty
  pub none_from : (n : ℕ) (earlier rest : List (List C)) → AreLayersFrom step start order n (earlier ++ [] ∷ rest)
      → AllByRecursion (λ (layer : List C). layer ≡ []) rest
  none_from n [] rest are = none_after n rest are.0 are.1
  none_from n (layer ∷ earlier) rest are = none_from (n + 1) earlier rest are.1

  -- of two lists of layers one is as long as the other, or ends within it
  pub meet : (n : ℕ) (earlier others : List (List C)) (last end : List C)
      → AreLayersFrom step start order n (earlier ++ last ∷ [])
      → AreLayersFrom step start order n (others ++ end ∷ [])
      → ((earlier ≡ others) × (last ≡ end)) ⊎ (EndsWithin earlier last others ⊎ EndsWithin others end earlier)
  meet n [] [] last end are are' = inl (refl, one_layer n last end are.0 are'.0)
  meet n [] (other ∷ others) last end are are' =
      let same : other ≡ last = one_layer n other last are'.0 are.0 in inr (inl (others, ap (λ l. l ∷ others) same))
  meet n (layer ∷ earlier) [] last end are are' =
      let same : layer ≡ end = one_layer n layer end are.0 are'.0 in inr (inr (earlier, ap (λ l. l ∷ earlier) same))
  meet n (layer ∷ earlier) (other ∷ others) last end are are' =
      let same : layer ≡ other = one_layer n layer other are.0 are'.0 in
      elim (meet (n + 1) earlier others last end are.1 are'.1) [
        | inl (rest, ends) ↦ inl (cc (same, rest), ends)
        | inr (inl (rest, is)) ↦ inr (inl (rest, cc (same, is)))
        | inr (inr (rest, is)) ↦ inr (inr (rest, cc (same, is)))
      ]
