-- The open fetches of a block, judged in the order of their list.
use Rattle.std.proofs.Common.{◌≡◌, ℕ, ◌+◌, ◌<◌, ◌≤◌, inl, inr, List, length, get_or, sym, ◌∙◌, subst, arith}
use Rattle.std.specs.List.{Contains}
use Rattle.std.proofs.lemmas.Bool.{cases_eq, cases_lt}
use Rattle.std.proofs.lemmas.Grind.{get_or_default_zero}
use Rattle.node_spec.specs.declared.verdict.Kept.{Kept}
use Rattle.node_verdicts.specs.Aged.{Aged, IsOpen}
use Rattle.node_verdicts.specs.Judged.{AreJudged}
use Rattle.node_verdicts.specs.Open.{AreOpenOf}
use Rattle.node_verdicts.specs.declared.judged.Judged.{Judged}
use Rattle.node_verdicts.proofs.Block.{AreSoFar, so_far_to, so_far_all}

-- the nodes before a place of the list are judged: those below some count
pub record AreListed (a : Aged) (kept : Kept) (block : ℕ) (nodes : List ℕ) (place : ℕ) (addresses : List ℕ)
    (judged : List Judged) : Type 0 where
  pub count : ℕ
  pub before : (k : ℕ) → k < place → get_or nodes k 0 < count
  pub after : (k : ℕ) → place ≤ k → k < length nodes → count ≤ get_or nodes k 0
  pub so_far : AreSoFar a.view a.start kept (IsOpen a block) count addresses judged

-- a member of a list by its place
pub placed : (nodes : List ℕ) (n : ℕ) → Contains nodes n → (k : ℕ) × (k < length nodes) × (get_or nodes k 0 ≡ n)
placed nodes n (k, inside, is) = (k, inside, sym (get_or_default_zero nodes k n inside) ∙ is)

-- at first none is judged
pub listed_none : (a : Aged) (kept : Kept) (block : ℕ) (nodes addresses : List ℕ) (judged : List Judged)
    → AreSoFar a.view a.start kept (IsOpen a block) 0 addresses judged → AreListed a kept block nodes 0 addresses judged
listed_none a kept block nodes addresses judged are = record {
  count = 0;
  before = λ k below. absurd (omega (arith, below));
  after = λ k past inside. omega arith;
  so_far = are;
}

module _ (a : Aged) (kept : Kept) (block : ℕ) (nodes : List ℕ) (exactly : AreOpenOf a block nodes) where
  -- no open fetch stands between the nodes before a place and the one there
  pub listed_to : (place : ℕ) (addresses : List ℕ) (judged : List Judged)
      → AreListed a kept block nodes place addresses judged → place < length nodes
      → AreSoFar a.view a.start kept (IsOpen a block) (get_or nodes place 0) addresses judged
  listed_to place addresses judged are inside =
      so_far_to a.view a.start kept (IsOpen a block) are.count (get_or nodes place 0) addresses judged are.so_far
      (are.after place (omega arith) inside)
      (λ n past below is.
      let (k, within, at) = placed nodes n ((exactly.members n).1 is) in
      elim (cases_lt k place) [
        | inl before ↦ omega (arith, are.before k before, at, past)
        | inr later ↦ elim (cases_eq k place) [
          | inl here ↦ omega (arith, subst (λ (i : ℕ). get_or nodes i 0 ≡ n) here at, below)
          | inr other ↦ omega (arith, exactly.rising place k 0 (omega (arith, later, other)) within, at, below)
        ]
      ])

  -- the node at the place is judged too
  pub listed_more : (place : ℕ) (addresses with_it : List ℕ) (judged more : List Judged)
      → AreListed a kept block nodes place addresses judged → place < length nodes
      → AreSoFar a.view a.start kept (IsOpen a block) (get_or nodes place 0 + 1) with_it more
      → AreListed a kept block nodes (place + 1) with_it more
  listed_more place addresses with_it judged more are inside so_far = record {
    count = get_or nodes place 0 + 1;
    before = λ k below. elim (cases_eq k place) [
      | inl here ↦ subst (λ (i : ℕ). get_or nodes i 0 < get_or nodes place 0 + 1) (sym here) (omega arith)
      | inr other ↦ omega (arith, exactly.rising k place 0 (omega (arith, below, other)) inside)
    ];
    after = λ k past within. omega (arith, exactly.rising place k 0 (omega (arith, past)) within);
    so_far = so_far;
  }

  -- all of them are
  pub listed_all : (place : ℕ) (addresses : List ℕ) (judged : List Judged)
      → AreListed a kept block nodes place addresses judged → place ≡ length nodes
      → AreJudged a.view.nodes a.view.geometry a.start kept (IsOpen a block) judged
  listed_all place addresses judged are all =
      so_far_all a.view a.start kept (IsOpen a block) are.count addresses judged are.so_far (λ n is.
      let (k, inside, at) = placed nodes n ((exactly.members n).1 is) in
      omega (arith, are.before k (omega (arith, inside, all)), at))
