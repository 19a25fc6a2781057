-- The marks, one node further.
use Rattle.std.proofs.Common.{rules, ◌≡◌, ℕ, zero, suc, ◌+◌, ◌-◌, ◌<◌, ◌≤◌, ◌⊎◌, IsTrue, take, drop, replicate, inl, inr, ⊎_elim, Bool, true, false, List, length, Some, refl, sym, ◌∙◌, arith}
use Rattle.std.specs.Prelude.{slice_get, slice_index_or}
use Rattle.std.proofs.lemmas.Bool.{cases_eq}
use Rattle.std.proofs.lemmas.Option.{same_Some}
use Rattle.std.specs.List.{list_all}
use Rattle.std.proofs.Math.ListN.{get_or}
use Rattle.std.proofs.lemmas.List.{places}
use Rattle.std.proofs.lemmas.List.Elements.{All-get_or, All-from_get_or}
use Rattle.std.proofs.lemmas.List.Sums.{AllPass-from_list_all, list_all-from_AllPass}
use Rattle.path_model.specs.declared.graph.Node.{Node}
use Rattle.path_model.specs.Marks.{IsMarked, AreMarked, MarksOne}
use Rattle.path_model.proofs.Edges.{successor-from_node, node-from_successor}

-- a mark is set, or it isn't
set_or_not : (b : Bool) → (b ≡ true) ⊎ (b ≡ true → ⊥)
set_or_not true = inl refl
set_or_not false = inr (λ (h : false ≡ true). absurd (cc))

-- what a set mark comes from, where one successor was marked
mark_cases : (before after : List Bool) (from : ℕ) (to : _) (m : ℕ) → MarksOne before after from to → IsMarked after m
    → IsMarked before m ⊎ ((to ≡ Some m) × (from < m))
mark_cases before after from to m one marked = ⊎_elim
    (λ (already : IsMarked before m). inl already)
    (λ (new : IsMarked before m → ⊥). inr (one.no_other m marked new))
    (set_or_not (slice_index_or before m false))

-- after both successors of node i
pub marked_more : (nodes : List Node) (marks mid after : List Bool) (i : ℕ) (node : Node)
    → slice_get nodes i ≡ Some node
    → MarksOne marks mid i node.first → MarksOne mid after i node.second → AreMarked nodes i marks
    → AreMarked nodes (i + 1) after
marked_more nodes marks mid after i node found one two were = record {
  sound = λ m marked. ⊎_elim
      (λ (earlier : IsMarked mid m). ⊎_elim
      (λ (earliest : IsMarked marks m). were.sound m earliest)
      (λ (first : (node.first ≡ Some m) × (i < m)). (
        i,
        first.1,
        successor-from_node nodes i m node found (inl first.0),
      ))
      (mark_cases marks mid i node.first m one earlier))
      (λ (second : (node.second ≡ Some m) × (i < m)). (
        i,
        second.1,
        successor-from_node nodes i m node found (inr second.0),
      ))
      (mark_cases mid after i node.second m two marked);
  complete = λ n m within up below leads. ⊎_elim
      (λ (same : n ≡ i).
      let named = node-from_successor nodes n m leads in
      let is : named.0 ≡ node = same_Some named.0 node (cc) in
      ⊎_elim
      (λ (first : named.0.first ≡ Some m). two.kept m (one.set m (cc) (omega arith)
      (omega (arith, one.as_long, two.as_long))))
      (λ (second : named.0.second ≡ Some m). two.set m (cc) (omega arith) (omega (arith, one.as_long, two.as_long)))
      named.2)
      (λ (other : n ≡ i → ⊥). two.kept m (one.kept m (were.complete n m (omega arith) up
      (omega (arith, one.as_long, two.as_long)) leads)))
      (cases_eq n i);
}

-- no mark is set at first
pub unmarked : (n m : ℕ) → slice_index_or (replicate n false) m false ≡ false
unmarked zero m = refl
unmarked (suc n) zero = refl
unmarked (suc n) (suc m) = unmarked n m

-- where all marks from 1 to below the count are set, each is
pub all_set-marked : (marks : List Bool) (count : ℕ)
    → IsTrue (list_all (λ marked. marked) (take (count - 1) (drop 1 marks))) → (m : ℕ) → 1 ≤ m → m < count
    → count ≤ length marks → IsMarked marks m
all_set-marked marks count all m up below long =
    let each = AllPass-from_list_all (λ (marked : Bool). marked) (take (count - 1) (drop 1 marks)) all in
    let here = All-get_or (λ (marked : Bool). marked ≡ true) (take (count - 1) (drop 1 marks)) (m - 1) false
    (search (rules, places)) each in
    let same : get_or (take (count - 1) (drop 1 marks)) (m - 1) false ≡ get_or marks m false = grind (arith, places) in
    sym same ∙ here

-- where each is set, all are
pub marked-all_set : (marks : List Bool) (count : ℕ) → count ≤ length marks
    → ((m : ℕ) → 1 ≤ m → m < count → IsMarked marks m)
    → IsTrue (list_all (λ marked. marked) (take (count - 1) (drop 1 marks)))
marked-all_set marks count long each =
    let from_one : List Bool = take (count - 1) (drop 1 marks) in
    let long_one : length from_one ≡ count - 1 = search (rules, places) in
    list_all-from_AllPass (λ (marked : Bool). marked) from_one
    (All-from_get_or (λ (marked : Bool). marked ≡ true) from_one false
    (λ i below.
    let same : get_or from_one i false ≡ get_or marks (i + 1) false = grind (arith, places) in
    same ∙ each (i + 1) (omega arith) (omega arith)))
