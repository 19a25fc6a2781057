-- Counting the moves from a node to the last one of its run.
use Rattle.std.proofs.Common.{◌≡◌, ℕ, suc, ◌+◌, ◌<◌, ◌≤◌, ⊎_elim, List, [], ◌∷◌, ◌++◌, length, get_or, refl, ap, sym, ◌∙◌, subst, arith}
use Rattle.std.specs.Prelude.{slice_get, slice_index_or}
use Rattle.std.proofs.lemmas.Bool.{cases_eq}
use Rattle.std.proofs.lemmas.List.{get_or_append_left, get_or_push, length_push}
use Rattle.path_model.specs.declared.graph.Node.{Node}
use Rattle.line_blocks.specs.declared.plan.Run.{Run}
use Rattle.line_blocks.specs.Runs.{head_of}
use Rattle.line_blocks.specs.Expand.{next_in}
use Rattle.line_blocks.specs.Ways.{IsLast, HasMoves, AllMoveOn, after_moves}

-- these moves lead from the node to a node, and not past the last one of a run
pub record IsCounted (nodes : List Node) (numbers : List ℕ) (runs : List Run) (n at moves : ℕ) : Type 0 where
  pub is : at ≡ after_moves nodes n moves
  pub sooner : (k : ℕ) → k < moves → IsLast numbers runs (after_moves nodes n k) → ⊥
  pub few : moves ≤ at
  pub inside : at < length nodes

-- the runs before this one have their moves
pub record AreCounted (nodes : List Node) (numbers : List ℕ) (runs : List Run) (count : ℕ) (moves : List ℕ)
    : Type 0 where
  pub one_each : length moves ≡ count
  pub each : (p : ℕ) → p < count → HasMoves nodes numbers runs (head_of runs p) (slice_index_or moves p 0)

module _ (nodes : List Node) (numbers : List ℕ) (runs : List Run) where
  -- no move leads from the node to itself
  pub counted_first : (n : ℕ) → n < length nodes → IsCounted nodes numbers runs n n 0
  counted_first n inside = record {
    is = refl;
    sooner = λ k less. absurd (omega (arith, less));
    few = omega arith;
    inside = inside;
  }

  -- one move more
  pub counted_more : (n at moves : ℕ) → AllMoveOn nodes numbers runs → (IsLast numbers runs at → ⊥)
      → IsCounted nodes numbers runs n at moves
      → IsCounted nodes numbers runs n (next_in (slice_get nodes at)) (moves + 1)
  counted_more n at moves on other counted =
      let next = on at counted.inside other in
      let more : suc moves ≡ moves + 1 = omega arith in
      record {
        is = ap (λ (k : ℕ). next_in (slice_get nodes k)) counted.is ∙ ap (after_moves nodes n) more;
        sooner = λ k less. ⊎_elim
            (λ (same : k ≡ moves).
            subst (λ (m : ℕ). IsLast numbers runs m → ⊥) (counted.is ∙ ap (after_moves nodes n) (sym same)) other)
            (λ (apart : k ≡ moves → ⊥). counted.sooner k (omega (arith, less, apart)))
            (cases_eq k moves);
        few = omega (arith, counted.few, next.0);
        inside = next.1;
      }

  -- at the last node all are counted
  pub counted_all : (n at moves : ℕ) → IsLast numbers runs at → IsCounted nodes numbers runs n at moves
      → HasMoves nodes numbers runs n moves
  counted_all n at moves last counted = record {
    last = subst (IsLast numbers runs) counted.is last;
    sooner = counted.sooner;
  }

  -- at first no run has its moves
  pub moves_none : (moves : List ℕ) → moves ≡ [] → AreCounted nodes numbers runs 0 moves
  moves_none moves none = record {
    one_each = ap length none;
    each = λ p less. absurd (omega (arith, less));
  }

  -- those of one run more
  pub moves_more : (count more : ℕ) (moves longer : List ℕ) → longer ≡ moves ++ more ∷ []
      → HasMoves nodes numbers runs (head_of runs count) more → AreCounted nodes numbers runs count moves
      → AreCounted nodes numbers runs (count + 1) longer
  moves_more count more moves longer is has counted = record {
    one_each = ap length is ∙ omega (arith, length_push moves more, counted.one_each);
    each = λ p less.
        subst (λ (xs : List ℕ). HasMoves nodes numbers runs (head_of runs p) (slice_index_or xs p 0)) (sym is)
        (⊎_elim
        (λ (same : p ≡ count).
        let last : get_or (moves ++ more ∷ []) p 0 ≡ more =
        get_or_push moves more 0 p (counted.one_each ∙ sym same) in
        subst (λ (m : ℕ). HasMoves nodes numbers runs (head_of runs p) m) (sym last)
        (subst (λ (q : ℕ). HasMoves nodes numbers runs (head_of runs q) more) (sym same) has))
        (λ (other : p ≡ count → ⊥).
        let before : p < count = omega (arith, less, other) in
        let kept : get_or (moves ++ more ∷ []) p 0 ≡ get_or moves p 0 =
        get_or_append_left moves (more ∷ []) 0 p (omega (arith, before, counted.one_each)) in
        subst (λ (m : ℕ). HasMoves nodes numbers runs (head_of runs p) m) (sym kept) (counted.each p before))
        (cases_eq p count));
  }
