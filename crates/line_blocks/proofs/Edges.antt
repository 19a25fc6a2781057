-- The edges of a graph and those of its runs.
use Rattle.std.proofs.Common.{◌≡◌, ℕ, zero, suc, ◌<◌, ◌≤◌, ◌⊎◌, inl, inr, ⊎_elim, Bool, cond, List, [], ◌∷◌, length, map, Option, Some, None, refl, ap, sym, ◌∙◌, subst, arith, IsTrue, unwrap_or}
use Rattle.std.specs.Prelude.{slice_get, Ok}
use Rattle.std.specs.Option.{option_map, option_to_list}
use Rattle.std.proofs.lemmas.Bool.{cases_eq, ne_eqb}
use Rattle.std.proofs.lemmas.Bool.Decides.{nat_tests}
use Rattle.std.proofs.lemmas.List.{length-map}
use Rattle.std.proofs.lemmas.Option.{same_Some, slice_get_within, slice_get-map}
use Rattle.list_lemmas.proofs.Members.{found-inside}
use Rattle.transition_spec.specs.Path.{IsSuccessor, IsLetter}
use Rattle.path_model.specs.declared.graph.Node.{Node}
use Rattle.path_model.specs.Graph.{IsGraph, graph_step, successors, address, address_of, are_fit}
use Rattle.path_model.proofs.Edges.{node-from_successor, leads-from_successor, successor-from_node, fit_at}
use Rattle.line_blocks.specs.declared.plan.Run.{Run}
use Rattle.line_blocks.specs.Runs.{Runs, IsPlan, IsHead, IsHeadIf, IsInner, IsPassed, IsPassedBy, IsLeft, run_of, head_of, last_of, head_in, last_in, second_by, node_by, run_node}
use Rattle.line_blocks.specs.Expand.{next_in}

-- a node is the first of its run, or it isn't
pub head_or_not : (numbers : List ℕ) (runs : List Run) (n : ℕ) → IsHead numbers runs n ⊎ (IsHead numbers runs n → ⊥)
head_or_not numbers runs n = cases_eq (head_of runs (run_of numbers n)) n

-- a successor, by its run
pub run_down : (number : ℕ → ℕ) (count : ℕ) (first second : Option ℕ) (m : ℕ) → IsTrue (are_fit count first second)
    → (first ≡ Some m) ⊎ (second ≡ Some m)
    → (option_map number first ≡ Some (number m))
    ⊎ (second_by (option_map number first) (option_map number second) ≡ Some (number m))
run_down number count None None m fit leads = elim leads [ inl is ↦ absurd (cc) | inr is ↦ absurd (cc) ]
run_down number count None (Some y) m fit leads = absurd (cc)
run_down number count (Some x) None m fit leads =
    elim leads [ inl is ↦ inl (ap (option_map number) is) | inr is ↦ absurd (cc) ]
run_down number count (Some x) (Some y) m fit leads = elim leads [
  | inl is ↦ inl (ap (option_map number) is)
  | inr is ↦
      let same : number y ≡ number m = ap number (same_Some y m is) in
      elim (cases_eq (number y) (number x)) [
        | inl twice ↦ inl (ap Some (sym twice ∙ same))
        | inr other ↦ inr (grind (arith, nat_tests))
      ]
]

-- and back
run_up : (number : ℕ → ℕ) (first second : Option ℕ) (q : ℕ)
    → (option_map number first ≡ Some q) ⊎ (second_by (option_map number first) (option_map number second) ≡ Some q)
    → (m : ℕ) × ((first ≡ Some m) ⊎ (second ≡ Some m)) × (number m ≡ q)
run_up number None second q leads = elim leads [ inl is ↦ absurd (cc) | inr is ↦ absurd (cc) ]
run_up number (Some x) None q leads =
    elim leads [ inl is ↦ (x, inl refl, same_Some (number x) q is) | inr is ↦ absurd (cc) ]
run_up number (Some x) (Some y) q leads = elim leads [
  | inl is ↦ (x, inl refl, same_Some (number x) q is)
  | inr is ↦ (y, inr refl, grind (arith, nat_tests))
]

-- the only successor of a node that goes on with its run
passed_to : (nodes : List Node) (r : Runs) (n m : ℕ) (first second : Option ℕ)
    → IsPassedBy r.nodes r.shape r.numbers r.runs n first second → (first ≡ Some m) ⊎ (second ≡ Some m)
    → IsInner r.nodes r.shape r.numbers r.runs n m
passed_to nodes r n m None second passed leads = absurd passed
passed_to nodes r n m (Some x) None passed leads = elim leads [
  | inl is ↦ subst (IsInner r.nodes r.shape r.numbers r.runs n) (same_Some x m is) passed
  | inr is ↦ absurd (cc)
]
passed_to nodes r n m (Some x) (Some y) passed leads = absurd passed

-- a successor that is the first of its run
head_if : (numbers : List ℕ) (runs : List Run) (o : Option ℕ) (m : ℕ) → IsHeadIf numbers runs o → o ≡ Some m
    → IsHead numbers runs m
head_if numbers runs o m heads is = subst (IsHeadIf numbers runs) is heads

-- the next node of a run
pub record IsNextOf (r : Runs) (n m : ℕ) : Type 0 where
  pub inner : IsInner r.nodes r.shape r.numbers r.runs n m
  pub edge : IsSuccessor (graph_step r.nodes) n m

-- runs by a plan, and their nodes
pub record AreMade (r : Runs) : Type 0 where
  pub whole : IsGraph r.nodes
  pub plan : IsPlan r.nodes r.shape r.numbers r.runs
  pub made : r.small ≡ map (run_node r.nodes r.numbers) r.runs

module _ (r : Runs) (are : AreMade r) where
  -- node 0 is a node, and the first of run 0
  pub zero_inside : 0 < length r.nodes
  zero_inside = omega (arith, are.whole.some)

  pub run_inside : (n : ℕ) → n < length r.nodes → run_of r.numbers n < length r.runs
  run_inside n inside = (are.plan.1 n inside).0

  pub some_run : 0 < length r.runs
  some_run = omega (arith, run_inside 0 zero_inside)

  pub zero_run : run_of r.numbers 0 ≡ 0
  zero_run = ap (run_of r.numbers) (sym are.plan.0) ∙ (are.plan.2 0 some_run).1

  pub zero_head : IsHead r.numbers r.runs 0
  zero_head = ap (head_of r.runs) zero_run ∙ are.plan.0

  -- the first node of a run is that
  pub head_is : (p : ℕ) → p < length r.runs → IsHead r.numbers r.runs (head_of r.runs p)
  head_is p inside = ap (head_of r.runs) (are.plan.2 p inside).1

  -- a node that isn't the first of its run isn't node 0
  pub later_positive : (n : ℕ) → (IsHead r.numbers r.runs n → ⊥) → 1 ≤ n
  later_positive zero later = absurd (later zero_head)
  later_positive (suc n) later = omega arith

  -- the only successor of a node that goes on with its run
  passed_edge : (n m : ℕ) → IsPassed r.nodes r.shape r.numbers r.runs n (slice_get r.nodes n)
      → IsSuccessor (graph_step r.nodes) n m → IsInner r.nodes r.shape r.numbers r.runs n m
  passed_edge n m passed edge =
      let named = node-from_successor r.nodes n m edge in
      passed_to r.nodes r n m named.0.first named.0.second
      (subst (IsPassed r.nodes r.shape r.numbers r.runs n) named.1 passed) named.2

  -- where a run is left, a run begins
  left_edge : (p m : ℕ) → p < length r.runs → IsSuccessor (graph_step r.nodes) (last_of r.runs p) m
      → IsHead r.numbers r.runs m
  left_edge p m inside edge =
      let named = node-from_successor r.nodes (last_of r.runs p) m edge in
      let left : IsLeft r.numbers r.runs (Some named.0) =
      subst (IsLeft r.numbers r.runs) named.1 (are.plan.2 p inside).3 in
      ⊎_elim
      (λ (is : named.0.first ≡ Some m). head_if r.numbers r.runs named.0.first m left.0 is)
      (λ (is : named.0.second ≡ Some m). head_if r.numbers r.runs named.0.second m left.1 is)
      named.2

  -- an edge has a node before it
  pub edge_inside : (n m : ℕ) → IsSuccessor (graph_step r.nodes) n m → n < length r.nodes
  edge_inside n m edge = let named = node-from_successor r.nodes n m edge in slice_get_within r.nodes n named.0 named.1

  -- an edge to a node that isn't the first of its run comes from that run and from the same block
  pub inner_edge : (n m : ℕ) → IsSuccessor (graph_step r.nodes) n m → (IsHead r.numbers r.runs m → ⊥)
      → IsInner r.nodes r.shape r.numbers r.runs n m
  inner_edge n m edge not =
      let led = are.plan.1 n (edge_inside n m edge) in
      ⊎_elim
      (λ (last : last_of r.runs (run_of r.numbers n) ≡ n).
      absurd (not (left_edge (run_of r.numbers n) m led.0
      (subst (λ (k : ℕ). IsSuccessor (graph_step r.nodes) k m) (sym last) edge))))
      (λ (passed : IsPassed r.nodes r.shape r.numbers r.runs n (slice_get r.nodes n)). passed_edge n m passed edge)
      led.1

  -- a run as a node
  pub small_node : (p : ℕ) (run : Run) → slice_get r.runs p ≡ Some run
      → slice_get r.small p ≡ Some (run_node r.nodes r.numbers run)
  small_node p run at =
      ap (λ (small : List Node). slice_get small p) are.made
      ∙ (slice_get-map (run_node r.nodes r.numbers) r.runs p ∙ ap (option_map (run_node r.nodes r.numbers)) at)

  -- what its node fetches is what its first node does
  address_by : (numbers : List ℕ) (at : ℕ) (o : Option Node) → address (Some (node_by numbers at o)) ≡ at
  address_by numbers at None = refl
  address_by numbers at (Some node) = refl

  pub run_address : (p : ℕ) → p < length r.runs → address_of r.small p ≡ address_of r.nodes (head_of r.runs p)
  run_address p inside =
      let found = found-inside r.runs p inside in
      let run : Run = found.0 in
      ap address (small_node p run found.1)
      ∙ (address_by r.numbers (address_of r.nodes run.head) (slice_get r.nodes run.last)
      ∙ ap (λ (o : Option Run). address_of r.nodes (head_in o)) (sym found.1))

  -- a run with its last node
  last_node : (p : ℕ) (node : Node) → p < length r.runs → slice_get r.nodes (last_of r.runs p) ≡ Some node
      → (at : ℕ) × (slice_get r.small p ≡ Some (node_by r.numbers at (Some node)))
  last_node p node inside found =
      let run = found-inside r.runs p inside in
      let last : last_of r.runs p ≡ run.0.last = ap last_in run.1 in (
        address_of r.nodes run.0.head,
        small_node p run.0 run.1
            ∙ ap (λ (o : Option Node). Some (node_by r.numbers (address_of r.nodes run.0.head) o))
            (ap (slice_get r.nodes) (sym last) ∙ found),
      )

  -- an edge to the first node of a run is one of the runs
  pub head_edge : (n m : ℕ) → IsSuccessor (graph_step r.nodes) n m → IsHead r.numbers r.runs m
      → IsSuccessor (graph_step r.small) (run_of r.numbers n) (run_of r.numbers m)
  head_edge n m edge head =
      let led = are.plan.1 n (edge_inside n m edge) in
      ⊎_elim
      (λ (last : last_of r.runs (run_of r.numbers n) ≡ n).
      let named = node-from_successor r.nodes n m edge in
      let node : Node = named.0 in
      let small = last_node (run_of r.numbers n) node led.0 (ap (slice_get r.nodes) last ∙ named.1) in
      successor-from_node r.small (run_of r.numbers n) (run_of r.numbers m) (node_by r.numbers small.0 (Some node)) small.1
      (run_down (run_of r.numbers) (length r.nodes) node.first node.second m
      (fit_at r.nodes (length r.nodes) n node are.whole.fit named.1) named.2))
      (λ (passed : IsPassed r.nodes r.shape r.numbers r.runs n (slice_get r.nodes n)).
      absurd ((passed_edge n m passed edge).0 head))
      led.1

  -- a run that has a node has a number
  pub small_inside : (p q : ℕ) → IsSuccessor (graph_step r.small) p q → p < length r.runs
  small_inside p q edge =
      let named = node-from_successor r.small p q edge in
      subst (λ (count : ℕ). p < count)
      (ap (λ (small : List Node). length small) are.made ∙ length-map r.runs (run_node r.nodes r.numbers))
      (slice_get_within r.small p named.0 named.1)

  -- the last node of a run, where it is left
  left_node : (o : Option Node) → IsLeft r.numbers r.runs o → (node : Node) × (o ≡ Some node)
  left_node None left = absurd left
  left_node (Some node) left = (node, refl)

  -- an edge of the runs is one from the last node of the one to the first node of the other
  pub edge_back : (p q : ℕ) → IsSuccessor (graph_step r.small) p q
      → IsSuccessor (graph_step r.nodes) (last_of r.runs p) (head_of r.runs q)
  edge_back p q edge =
      let inside : p < length r.runs = small_inside p q edge in
      let found = left_node (slice_get r.nodes (last_of r.runs p)) (are.plan.2 p inside).3 in
      let node : Node = found.0 in
      let small = last_node p node inside found.1 in
      let up = run_up (run_of r.numbers) node.first node.second q
      (leads-from_successor r.small p q (node_by r.numbers small.0 (Some node)) small.1 edge) in
      let to : IsSuccessor (graph_step r.nodes) (last_of r.runs p) up.0 =
      successor-from_node r.nodes (last_of r.runs p) up.0 node found.1 up.1 in
      let head : head_of r.runs (run_of r.numbers up.0) ≡ up.0 = left_edge p up.0 inside to in
      subst (λ (m : ℕ). IsSuccessor (graph_step r.nodes) (last_of r.runs p) m)
      (sym head ∙ ap (head_of r.runs) up.2) to

  -- the letter of two runs' successors is that of their first nodes
  letter_up : (first second : Option ℕ) (q : ℕ) (letter : List ℕ) → IsTrue (are_fit (length r.nodes) first second)
      → IsHeadIf r.numbers r.runs first → IsHeadIf r.numbers r.runs second
      → IsLetter (successors (Some (node_by r.numbers 0 (Some (record { at = 0; first = first; second = second }))))) q letter
      → IsLetter (successors (Some (record { at = 0; first = first; second = second }))) (head_of r.runs q) letter
  letter_up None None q letter fit one two is = is
  letter_up None (Some y) q letter fit one two is = absurd (cc)
  letter_up (Some x) None q letter fit one two is = is
  letter_up (Some x) (Some y) q letter fit one two is = elim (cases_eq (run_of r.numbers y) (run_of r.numbers x)) [
    | inl same ↦
        let alike : x ≡ y = sym one ∙ (ap (head_of r.runs) (sym same) ∙ two) in
        absurd (grind (arith, nat_tests))
    | inr other ↦
        let apart : second_by (Some (run_of r.numbers x)) (Some (run_of r.numbers y)) ≡ Some (run_of r.numbers y) =
        ap (λ (b : Bool). cond b None (Some (run_of r.numbers y)))
        (ne_eqb (run_of r.numbers y) (run_of r.numbers x) other) in
        let both : IsLetter {C = ℕ} {F = Unit {0}} (Ok (run_of r.numbers x ∷ run_of r.numbers y ∷ [])) q letter =
        subst (λ (o : Option ℕ).
        IsLetter {C = ℕ} {F = Unit {0}} (Ok (run_of r.numbers x ∷ option_to_list o)) q letter) apart is in
        elim both [
          | inl to ↦ inl (ap (head_of r.runs) to.0 ∙ one, to.1)
          | inr to ↦ inr (ap (head_of r.runs) to.0 ∙ two, to.1)
        ]
  ]

  -- the letter of a move between runs is that of the move between their nodes
  pub letter_back : (p q : ℕ) (letter : List ℕ) → IsSuccessor (graph_step r.small) p q
      → IsLetter (graph_step r.small p) q letter
      → IsLetter (graph_step r.nodes (last_of r.runs p)) (head_of r.runs q) letter
  letter_back p q letter edge is =
      let inside : p < length r.runs = small_inside p q edge in
      let left = (are.plan.2 p inside).3 in
      let found = left_node (slice_get r.nodes (last_of r.runs p)) left in
      let node : Node = found.0 in
      let small = last_node p node inside found.1 in
      let heads : IsLeft r.numbers r.runs (Some node) = subst (IsLeft r.numbers r.runs) found.1 left in
      let fit = fit_at r.nodes (length r.nodes) (last_of r.runs p) node are.whole.fit found.1 in
      subst (λ (o : Option Node). IsLetter (successors o) (head_of r.runs q) letter) (sym found.1)
      (letter_up node.first node.second q letter fit heads.0 heads.1
      (subst (λ (o : Option Node). IsLetter (successors o) q letter) small.1 is))

  -- the node that a node goes on to is in its run
  passed_next : (n : ℕ) (first second : Option ℕ) → IsPassedBy r.nodes r.shape r.numbers r.runs n first second
      → IsInner r.nodes r.shape r.numbers r.runs n (unwrap_or first 0)
  passed_next n None second passed = absurd passed
  passed_next n (Some m) None passed = passed
  passed_next n (Some m) (Some other) passed = absurd passed

  -- it is the first successor
  passed_first : (n : ℕ) (first second : Option ℕ) → IsPassedBy r.nodes r.shape r.numbers r.runs n first second
      → first ≡ Some (unwrap_or first 0)
  passed_first n None second passed = absurd passed
  passed_first n (Some m) second passed = refl

  -- so it is the next one
  next_from : (n : ℕ) (o : Option Node) → slice_get r.nodes n ≡ o → IsPassed r.nodes r.shape r.numbers r.runs n o
      → IsNextOf r n (next_in o)
  next_from n None found passed = absurd passed
  next_from n (Some node) found passed = record {
    inner = passed_next n node.first node.second passed;
    edge = successor-from_node r.nodes n (unwrap_or node.first 0) node found
        (inl (passed_first n node.first node.second passed));
  }

  -- a node that isn't the last of its run has a next one
  pub next_of : (n : ℕ) → n < length r.nodes → (last_of r.runs (run_of r.numbers n) ≡ n → ⊥)
      → IsNextOf r n (next_in (slice_get r.nodes n))
  next_of n inside other = ⊎_elim
      (λ (last : last_of r.runs (run_of r.numbers n) ≡ n). absurd (other last))
      (λ (passed : IsPassed r.nodes r.shape r.numbers r.runs n (slice_get r.nodes n)).
      next_from n (slice_get r.nodes n) refl passed)
      (are.plan.1 n inside).1
