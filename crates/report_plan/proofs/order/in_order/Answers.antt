use Rattle.std.proofs.Common.{ℕ, List, subst, rules, IsPermutation}
use Rattle.std.proofs.lemmas.List.Sorted.{IsNonDecreasingBy-from_sort_by_key}
use Rattle.path_model.specs.Graph.{address_of}
use Rattle.report_plan.proofs.Placed.{sorted-in_order}
use Rattle.report_plan.proofs.order.in_order.Goals as goal

pub returns : goal.returns
returns c =
    let nodes = c.args.nodes.now in
    let sorted = c.in_ok-sort_by_key.ensures in
    let is = c.in_ok-order.ensures in
    let P : List ℕ → Type 0 = λ numbers. IsPermutation numbers c.sort_by_key.new.self.items in
    sorted-in_order nodes c.sort_by_key.new.self.items
    (IsNonDecreasingBy-from_sort_by_key (address_of nodes) _ sorted.sorted (λ a r q k. search rules))
    (subst P is sorted.permutation)
