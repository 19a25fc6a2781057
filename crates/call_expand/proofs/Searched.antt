-- A search layer by layer finds exactly the layers, over any step function.
use Rattle.std.proofs.Common.{◌≡◌, ℕ, ◌+◌, ◌≤◌, inl, inr, ⊎_elim, List, [], ◌∷◌, ◌++◌, length, refl, sym, subst, arith, lit<, lit≤}
use Rattle.std.specs.Prelude.{Contains, Result}
use Rattle.std.specs.List.Sorted.{IsStrictlySortedBy}
use Rattle.std.specs.declared.cmp.Ordering.{Ordering}
use Rattle.std.proofs.Math.Nat.{eq-or-lt_of_le}
use Rattle.std.proofs.lemmas.List.Elements.{Contains-append_left, Contains-append_cases}
use Rattle.list_lemmas.proofs.Members.{has-only}
use Rattle.transition_spec.specs.Path.{IsPath, IsSuccessor}
use Rattle.transition_spec.specs.Layer.{IsReachedIn, IsLayer, AreLayersFrom}
use Rattle.call_expand.specs.Search.{IsSearched, AreNext}

module _ {C F : Type 0} (step : C → Result (List C) F) (start : C) (order : C → C → Ordering) where
  -- a path of one member ends at the start
  short : (earlier : List C) (c : C) → length earlier ≡ 0 → IsPath step start (c ∷ earlier) → c ≡ start
  short [] c long path = path
  short (b ∷ earlier) c long path = absurd (omega arith)

  -- a longer one ends at a successor of the member before
  longer : (earlier : List C) (c : C) (n : ℕ) → length earlier ≡ n + 1 → IsPath step start (c ∷ earlier)
      → (b : C) × IsReachedIn step start n b × IsSuccessor step b c
  longer [] c n long path = absurd (omega arith)
  longer (b ∷ earlier) c n long path = (b, (earlier, omega arith, path.1), path.0)

  -- a successor is reached one step later
  later : (b c : C) (n : ℕ) → IsReachedIn step start n b → IsSuccessor step b c → IsReachedIn step start (n + 1) c
  later b c n reached follows = (b ∷ reached.0, omega (arith, reached.1), (follows, reached.2))

  -- the start alone is searched
  pub begun : IsSearched step start 0 [] (start ∷ [])
  begun = record {
    reached = λ c has. (0, lit≤ tt, ([], refl, has-only start c has));
    last_reached = λ c has. ([], refl, has-only start c has);
    covered = λ m c within reached.
        let same : c ≡ start = short reached.0 c (omega (arith, reached.1)) reached.2 in
        (0, lit< tt, sym same);
    closed = λ b c has follows. absurd (omega (arith, has.1));
  }

  -- the start alone is layer 0
  pub first_layer : IsLayer step start order 0 (start ∷ [])
  unfolding IsStrictlySortedBy
  first_layer = record {
    sorted = (tt, tt);
    members = λ c. (
      λ has. record {
        reached = ([], refl, has-only start c has);
        no_sooner = λ m sooner reached. absurd (omega arith);
      },
      λ layer. (0, lit< tt, sym (short layer.reached.0 c layer.reached.1 layer.reached.2)),
    );
  }

  module _ (n : ℕ) (before last next : List C) (searched : IsSearched step start n before last)
      (is : AreNext step order before last next) where
    -- a state of the next list is reached one step later
    next_reached : (c : C) → Contains next c → IsReachedIn step start (n + 1) c
    next_reached c has =
        let from = is.follow c has in
        later from.0 c n (searched.last_reached from.0 from.1) from.2

    -- a state that at most n + 1 steps reach is among all of them
    covered_more : (m : ℕ) (c : C) → m ≤ n + 1 → IsReachedIn step start m c → Contains ((before ++ last) ++ next) c
    covered_more m c within reached =
        elim (eq-or-lt_of_le within) as (λ h. Contains ((before ++ last) ++ next) c) [
          | inl same ↦
              let from = longer reached.0 c n (omega (arith, reached.1)) reached.2 in
              ⊎_elim
              (λ (has : Contains before from.0). Contains-append_left (before ++ last) next c
              (searched.closed from.0 c has from.2))
              (λ (has : Contains last from.0). is.all from.0 c has from.2)
              (Contains-append_cases before last from.0 (searched.covered n from.0 (omega arith) from.1))
          | inr sooner ↦ Contains-append_left (before ++ last) next c (searched.covered m c (omega arith) reached)
        ]

    -- the states with the next list are searched
    pub searched_more : IsSearched step start (n + 1) (before ++ last) next
    searched_more = record {
      reached = λ c has.
          ⊎_elim
          (λ (old : Contains (before ++ last) c).
          let reached = searched.reached c old in (reached.0, omega (arith, reached.1), reached.2))
          (λ (new : Contains next c). (n + 1, omega arith, next_reached c new))
          (Contains-append_cases (before ++ last) next c has);
      last_reached = next_reached;
      covered = covered_more;
      closed = λ b c has follows.
          ⊎_elim
          (λ (old : Contains before b). Contains-append_left (before ++ last) next c (searched.closed b c old follows))
          (λ (new : Contains last b). is.all b c new follows)
          (Contains-append_cases before last b has);
    }

    -- the next list is the next layer
    pub next_layer : IsLayer step start order (n + 1) next
    next_layer = record {
      sorted = is.sorted;
      members = λ c. (
        λ has. record {
          reached = next_reached c has;
          no_sooner = λ m sooner reached. is.unseen c has (searched.covered m c (omega arith) reached);
        },
        λ layer.
            ⊎_elim
            (λ (old : Contains (before ++ last) c).
            let reached = searched.reached c old in
            absurd (layer.no_sooner reached.0 (omega (arith, reached.1)) reached.2))
            (λ (new : Contains next c). new)
            (Contains-append_cases (before ++ last) next c (covered_more (n + 1) c (omega arith) layer.reached)),
      );
    }

  -- one layer more
  pub layers_more : (k j : ℕ) (layers : List (List C)) (layer : List C) → k + length layers ≡ j
      → AreLayersFrom step start order k layers
      → IsLayer step start order j layer → AreLayersFrom step start order k (layers ++ layer ∷ [])
  layers_more k j [] layer at are is =
      let P : ℕ → Type 0 = λ j. IsLayer step start order j layer in
      let same : j ≡ k = omega arith in (subst P same is, tt)
  layers_more k j (first ∷ layers) layer at are is = (are.0, layers_more (k + 1) j layers layer (omega arith) are.1 is)
