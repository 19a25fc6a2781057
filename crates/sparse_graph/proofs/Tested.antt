-- What the test of a plan finds.
use Rattle.std.proofs.Common.{◌≡◌, ◌↔◌, ◌⊎◌, ℕ, ◌<◌, Bool, true, false, IsTrue, inl, inr, ⊎_elim, List, length, Some, sym, subst}
use Rattle.std.specs.Prelude.{slice_get}
use Rattle.std.specs.List.Sorted.{IsStrictlyIncreasing}
use Rattle.std.proofs.lemmas.Option.{slice_get_within, slice_get-get_or, get_or_from_slice_get}
use Rattle.path_model.specs.declared.graph.Node.{Node}
use Rattle.path_model.proofs.Edges.{leads-from_successor, successor-from_node}
use Rattle.sparse_graph.specs.Plan.{IsPlan, IsKept, IsLed, PassesOn, AreOwn, LeadsTo, IsNearer, lead_of, rank_of, origin_of}
use Rattle.sparse_graph.proofs.Edges.{there_or_not}

-- both successors lead to this place
abbrev BothLead : List ℕ → Node → ℕ → Type 0
BothLead leads here place = LeadsTo leads here.first place × LeadsTo leads here.second place

-- one of them has a smaller rank
abbrev OneNearer : List ℕ → Node → ℕ → Type 0
OneNearer ranks here rank = IsNearer ranks here.first rank ⊎ IsNearer ranks here.second rank

module _ (nodes : List Node) (leads ranks : List ℕ) (n : ℕ) (here : Node) (found : slice_get nodes n ≡ Some here) where
  -- a node passes on by its two successors
  passes : BothLead leads here (lead_of leads n) → OneNearer ranks here (rank_of ranks n)
      → PassesOn nodes leads ranks n
  passes both one = record {
    alike = λ m edge. ⊎_elim
        (λ (first : here.first ≡ Some m). both.0 m first)
        (λ (second : here.second ≡ Some m). both.1 m second)
        (leads-from_successor nodes n m here found edge);
    nearer = ⊎_elim
        (λ (is : IsNearer ranks here.first (rank_of ranks n)).
        (is.0, successor-from_node nodes n is.0 here found (inl is.1), is.2))
        (λ (is : IsNearer ranks here.second (rank_of ranks n)).
        (is.0, successor-from_node nodes n is.0 here found (inr is.1), is.2))
        one;
  }

  -- and back
  both-from_passes : PassesOn nodes leads ranks n → BothLead leads here (lead_of leads n)
  both-from_passes passed = (
    λ m first. passed.alike m (successor-from_node nodes n m here found (inl first)),
    λ m second. passed.alike m (successor-from_node nodes n m here found (inr second)),
  )

  --
  one-from_passes : PassesOn nodes leads ranks n → OneNearer ranks here (rank_of ranks n)
  one-from_passes passed =
      let next = passed.nearer in
      ⊎_elim
      (λ (first : here.first ≡ Some next.0). inl (next.0, first, next.2))
      (λ (second : here.second ≡ Some next.0). inr (next.0, second, next.2))
      (leads-from_successor nodes n next.0 here found next.1)

  -- the two tests of a node, the first of them passed
  pub passes_then : (place rank : ℕ) (both one : Bool) → place ≡ lead_of leads n → rank ≡ rank_of ranks n
      → (IsTrue both ↔ BothLead leads here place) → (IsTrue one ↔ OneNearer ranks here rank) → both ≡ true
      → IsTrue one ↔ PassesOn nodes leads ranks n
  passes_then place rank both one is_place is_rank tests_both tests_one held = (
    λ t. passes
        (subst (BothLead leads here) is_place (tests_both.0 held))
        (subst (OneNearer ranks here) is_rank (tests_one.0 t)),
    λ passed. tests_one.1 (subst (OneNearer ranks here) (sym is_rank) (one-from_passes passed)),
  )

  -- the first of them failed
  pub passes_else : (place : ℕ) (both : Bool) → place ≡ lead_of leads n → (IsTrue both ↔ BothLead leads here place)
      → both ≡ false → IsTrue both ↔ PassesOn nodes leads ranks n
  passes_else place both is_place tests_both failed = (
    λ t. absurd (cc),
    λ passed. tests_both.1 (subst (BothLead leads here) (sym is_place) (both-from_passes passed)),
  )

module _ (nodes : List Node) (kept leads ranks : List ℕ) where
  -- nodes that are led, and kept ones that lead to themselves, are a plan
  pub made_plan : length leads ≡ length nodes → slice_get kept 0 ≡ Some 0 → IsStrictlyIncreasing kept
      → AreOwn (length nodes) kept leads (length kept) → ((n : ℕ) → n < length nodes → IsLed nodes kept leads ranks n)
      → IsPlan nodes kept leads ranks
  made_plan one_each first rising own led = record {
    rising = rising;
    first = first;
    one_each = one_each;
    inside = λ n inside. (led n inside).0;
    own = λ p n at.
        let here = own p (slice_get_within kept p n at) in
        let same : origin_of kept p ≡ n = get_or_from_slice_get kept p n 0 at in
        (subst (λ (k : ℕ). k < length nodes) same here.0, subst (λ (k : ℕ). lead_of leads k ≡ p) same here.1);
    dropped = λ n inside not. ⊎_elim
        (λ (is : IsKept kept leads n). absurd (not is))
        (λ (passed : PassesOn nodes leads ranks n). passed)
        (led n inside).1;
  }

  -- a plan has each node led
  pub led-from_plan : IsPlan nodes kept leads ranks → (n : ℕ) → n < length nodes → IsLed nodes kept leads ranks n
  led-from_plan plan n inside = (
    plan.inside n inside,
    ⊎_elim
        (λ (is : IsKept kept leads n). inl is)
        (λ (not : IsKept kept leads n → ⊥). inr (plan.dropped n inside not))
        (there_or_not (slice_get kept (lead_of leads n)) n),
  )

  -- and each kept one leading to itself
  pub own-from_plan : IsPlan nodes kept leads ranks → AreOwn (length nodes) kept leads (length kept)
  own-from_plan plan p inside = plan.own p (origin_of kept p) (slice_get-get_or kept p 0 inside)
