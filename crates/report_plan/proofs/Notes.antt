-- What is noted at each node: a smaller one that leads to it.
use Rattle.std.proofs.Common.{◌≡◌, ℕ, ◌+◌, ◌<◌, ◌≤◌, ◌⊎◌, inl, inr, ⊎_elim, List, length, Option, Some, None, refl, ap, sym, ◌∙◌, subst, arith, set, take, drop, ◌++◌}
use Rattle.std.specs.Prelude.{slice_get, slice_index}
use Rattle.std.specs.List.{range_with_len}
use Rattle.std.proofs.Math.ListN.{get_or}
use Rattle.std.proofs.lemmas.Bool.{cases_eq, cases_lt}
use Rattle.std.proofs.lemmas.Bool.Decides.{nat_tests}
use Rattle.std.proofs.lemmas.List.{get_or-set_same, get_or-set_other, get_or_past, length-set, take-append-le, take_all}
use Rattle.std.proofs.lemmas.List.FromFn.{length-range_with_len, get_or-range_with_len}
use Rattle.std.proofs.lemmas.Option.{same_Some, none-some}
use Rattle.transition_spec.specs.Path.{IsSuccessor}
use Rattle.path_model.specs.declared.graph.Node.{Node}
use Rattle.path_model.specs.Graph.{IsGraph, graph_step}
use Rattle.report_plan.specs.Kept.{AreBefore, AreNoted, noted}
use Rattle.path_model.proofs.Edges.{successor-from_node, node-from_successor}

-- a note is made where the number is greater and has a place, and no other place changes
pub record NotesOne (before after : List ℕ) (from : ℕ) (to : Option ℕ) : Type 0 where
  pub as_long : length after ≡ length before
  pub made : (m : ℕ) → to ≡ Some m → from < m → m < length before → slice_index after m ≡ from
  pub else_same : (m : ℕ)
      → (slice_index after m ≡ slice_index before m) ⊎ ((to ≡ Some m) × (from < m) × (slice_index after m ≡ from))

-- a note is one
pub noted-one : (before : List ℕ) (from : ℕ) (to : Option ℕ) → NotesOne before (noted before from to) from to
noted-one before from None = record {
  as_long = refl;
  made = λ m is. absurd (none-some m is);
  else_same = λ m. inl refl;
}
noted-one before from (Some to) = ⊎_elim
    (λ (up : from < to).
    let is : noted before from (Some to) ≡ set before to from = grind (arith, nat_tests) in
    let P : List ℕ → Type 0 = λ after. NotesOne before after from (Some to) in
    subst P (sym is) (record {
      as_long = length-set before to from;
      made = λ m same less within. let P : ℕ → Type 0 = λ k. get_or (set before to from) k 0 ≡ from in
          subst P (same_Some to m same) (get_or-set_same before to from 0 (omega (arith, same_Some to m same)));
      else_same = λ m. ⊎_elim
          (λ (same : m ≡ to). at_place m same up)
          (λ (other : m ≡ to → ⊥). inl (get_or-set_other before to m from 0 other))
          (cases_eq m to);
    }))
    (λ (down : to ≤ from).
    let is : noted before from (Some to) ≡ before = grind (arith, nat_tests) in
    let P : List ℕ → Type 0 = λ after. NotesOne before after from (Some to) in
    subst P (sym is) (record {
      as_long = refl;
      made = λ m same up. let e = same_Some to m same in absurd (omega arith);
      else_same = λ m. inl refl;
    }))
    (cases_lt from to)
  where
    at_place : (m : ℕ) → m ≡ to → from < to
        → (get_or (set before to from) m 0 ≡ get_or before m 0)
        ⊎ ((Some to ≡ Some m) × (from < m) × (get_or (set before to from) m 0 ≡ from))
    at_place m same up = ⊎_elim
        (λ (within : to < length before).
        let P : ℕ → Type 0 = λ k. get_or (set before to from) k 0 ≡ from in
        inr (ap Some (sym same), omega arith, subst P (sym same) (get_or-set_same before to from 0 within)))
        (λ (past : length before ≤ to).
        inl (get_or_past (set before to from) m 0 (omega (arith, length-set before to from)) ∙ sym
        (get_or_past before m 0 (omega arith))))
        (cases_lt to (length before))

-- the same, of an equal list
pub note-made : (before after : List ℕ) (from : ℕ) (to : Option ℕ) → after ≡ noted before from to
    → NotesOne before after from to
note-made before after from to is = let P : List ℕ → Type 0 =
    λ after. NotesOne before after from to in subst P (sym is) (noted-one before from to)

-- at first each node is noted at itself, which tells of none
pub none-noted : (nodes : List Node) (before : List ℕ) → before ≡ range_with_len 0 (length nodes)
    → AreNoted nodes 0 before
none-noted nodes before is =
    let P : List ℕ → Type 0 = λ before. AreNoted nodes 0 before in
    subst P (sym is) (record {
      one_each = length-range_with_len 0 (length nodes);
      sound = λ m inside less. absurd (omega (arith, get_or-range_with_len 0 (length nodes) m 0 inside));
      complete = λ n m none. absurd (omega arith);
    })

-- after both successors of node i
pub noted-more : (nodes : List Node) (before mid after : List ℕ) (i : ℕ) (node : Node) → slice_get nodes i ≡ Some node
    → NotesOne before mid i node.first → NotesOne mid after i node.second → AreNoted nodes i before
    → AreNoted nodes (i + 1) after
noted-more nodes before mid after i node found one two were = record {
  one_each = two.as_long ∙ one.as_long ∙ were.one_each;
  sound = λ m inside less. ⊎_elim
      (λ (same : slice_index after m ≡ slice_index mid m). ⊎_elim
      (λ (as_before : slice_index mid m ≡ slice_index before m).
      let P : ℕ → Type 0 = λ n. IsSuccessor (graph_step nodes) n m in
      subst P (sym (same ∙ as_before)) (were.sound m inside (omega arith)))
      (λ (first : (node.first ≡ Some m) × (i < m) × (slice_index mid m ≡ i)).
      let P : ℕ → Type 0 = λ n. IsSuccessor (graph_step nodes) n m in
      subst P (sym (same ∙ first.2)) (successor-from_node nodes i m node found (inl first.0)))
      (one.else_same m))
      (λ (second : (node.second ≡ Some m) × (i < m) × (slice_index after m ≡ i)).
      let P : ℕ → Type 0 = λ n. IsSuccessor (graph_step nodes) n m in
      subst P (sym second.2) (successor-from_node nodes i m node found (inr second.0)))
      (two.else_same m);
  complete = λ n m below up inside leads. ⊎_elim
      (λ (same : n ≡ i).
      let named = node-from_successor nodes n m leads in
      let is : named.0 ≡ node = same_Some named.0 node (cc) in
      ⊎_elim
      (λ (first : named.0.first ≡ Some m). still mid after node.second i m two
      (omega (arith, one.made m (cc) (omega arith) (omega (arith, were.one_each)))))
      (λ (second : named.0.second ≡ Some m). omega (
        arith,
        two.made m (cc) (omega arith) (omega (arith, were.one_each, one.as_long)),
      ))
      named.2)
      (λ (other : n ≡ i → ⊥). still mid after node.second i m two
      (still before mid node.first i m one (were.complete n m (omega arith) up inside leads)))
      (cases_eq n i);
}
  where
    still : (before after : List ℕ) (to : Option ℕ) (i m : ℕ) → NotesOne before after i to → slice_index before m < m
        → slice_index after m < m
    still before after to i m one less = ⊎_elim
        (λ (same : slice_index after m ≡ slice_index before m). omega arith)
        (λ (new : (to ≡ Some m) × (i < m) × (slice_index after m ≡ i)). omega (arith, new.1, new.2))
        (one.else_same m)

-- a row that was lent whole and came back is the new one
pub row-back : (new old : List ℕ) (len : ℕ) → len ≡ length old → length new ≡ length old
    → take len (new ++ drop (length new) old) ≡ new
row-back new old len is same =
    take-append-le len new (drop (length new) old) (omega arith) ∙ take_all len new (omega arith)

-- where all nodes of a graph are noted, each but the first has a smaller one before it
pub all-noted : (nodes : List Node) (before : List ℕ) → IsGraph nodes → AreNoted nodes (length nodes) before
    → AreBefore nodes before
all-noted nodes before graph are =
    let smaller : (m : ℕ) → 1 ≤ m → m < length nodes → slice_index before m < m =
    λ m some inside. let reached = graph.reached m some inside in are.complete reached.0 m (omega (arith, reached.1))
    reached.1 inside reached.2 in
    record {
      one_each = are.one_each;
      smaller = smaller;
      leads = λ m some inside. are.sound m inside (smaller m some inside);
    }
