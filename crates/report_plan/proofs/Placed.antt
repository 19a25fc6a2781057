-- The nodes at an address, among all of them in order of address.
use Rattle.std.proofs.Common.{◌≡◌, ℕ, ◌+◌, ◌-◌, ◌<◌, ◌≤◌, ⊎_elim, List, length, take, drop, zero-add, sym, ◌∙◌, subst, arith, rules}
use Rattle.std.specs.Prelude.{◌↔◌}
use Rattle.std.specs.List.{AllWithin, Contains, range_with_len}
use Rattle.std.specs.List.Sorted.{IsPermutation, IsNonDecreasingBy}
use Rattle.std.proofs.Math.ListN.{get_or}
use Rattle.std.proofs.lemmas.Bool.{cases_lt}
use Rattle.std.proofs.lemmas.List.{places}
use Rattle.std.proofs.lemmas.List.FromFn.{length-range_with_len, get_or-range_with_len}
use Rattle.std.proofs.lemmas.List.Sorted.{Contains-permutation, IsPermutation-sym, length_permutation}
use Rattle.path_model.specs.declared.graph.Node.{Node}
use Rattle.path_model.specs.Graph.{address_of}
use Rattle.node_spec.specs.Plan.{IsNodeAt}
use Rattle.report_plan.specs.Kept.{AreInOrder}

-- the numbers from 0 on are those below the count
range-members : (count n : ℕ) → Contains (range_with_len 0 count) n ↔ (n < count)
range-members count n = (
  λ (k, within, same). omega (
    arith,
    get_or-range_with_len 0 count k n (omega (arith, length-range_with_len 0 count)),
    length-range_with_len 0 count,
    same,
  ),
  λ below. (n, omega (arith, length-range_with_len 0 count), get_or-range_with_len 0 count n n below ∙ zero-add n),
)

-- the numbers from 0 on, in order of address
pub sorted-in_order : (nodes : List Node) (order : List ℕ) → IsNonDecreasingBy (address_of nodes) order
    → IsPermutation (range_with_len 0 (length nodes)) order → AreInOrder nodes order
sorted-in_order nodes order rising moved = record {
  one_each = length_permutation (range_with_len 0 (length nodes)) order moved ∙ length-range_with_len 0 (length nodes);
  rising = rising;
  members = λ n. (
    λ inside. (range-members (length nodes) n).0 (Contains-permutation order (range_with_len 0 (length nodes)) n
        (IsPermutation-sym (range_with_len 0 (length nodes)) order moved) inside),
    λ below. Contains-permutation (range_with_len 0 (length nodes)) order n moved
        ((range-members (length nodes) n).1 below),
  );
}

-- the first `count` nodes are below the address, and no other is
pub record AreBelow (nodes : List Node) (order : List ℕ) (address count : ℕ) : Type 0 where
  pub below : AllWithin (λ n. address_of nodes n < address) order 0 count
  pub others : AllWithin (λ n. address ≤ address_of nodes n) order count (length order)
  pub within : count ≤ length order

-- the first `count` nodes are at or below the address, and no other is
pub record AreUpTo (nodes : List Node) (order : List ℕ) (address count : ℕ) : Type 0 where
  pub up_to : AllWithin (λ n. address_of nodes n ≤ address) order 0 count
  pub others : AllWithin (λ n. address < address_of nodes n) order count (length order)
  pub within : count ≤ length order

-- those below are no more than those up to the address
pub below-up_to : (nodes : List Node) (order : List ℕ) (address first last : ℕ) → AreBelow nodes order address first
    → AreUpTo nodes order address last → first ≤ last
below-up_to nodes order address first last below up_to = ⊎_elim
    (λ (less : last < first).
    let one = below.below last 0 (omega arith) less in
    let other = up_to.others last 0 (omega arith) (omega (arith, below.within)) in
    absurd (omega arith))
    (λ (fine : first ≤ last). fine)
    (cases_lt last first)

-- those between are the nodes at the address
pub between-at : (nodes : List Node) (order : List ℕ) (address first last : ℕ) → AreInOrder nodes order
    → AreBelow nodes order address first
    → AreUpTo nodes order address last → (n : ℕ)
    → Contains (take (last - first) (drop first order)) n ↔ IsNodeAt nodes address n
between-at nodes order address first last are below up_to n = (here-at, at-here)
  where
    here-at : Contains (take (last - first) (drop first order)) n → IsNodeAt nodes address n
    here-at (k, inside, same) =
        let within = up_to.within in
        let before = below-up_to nodes order address first last below up_to in
        let long : length (take (last - first) (drop first order)) ≡ last - first = search (rules, places) in
        let place : get_or (take (last - first) (drop first order)) k n ≡ get_or order (first + k) n =
        grind (arith, places) in
        let is : get_or order (first + k) n ≡ n = sym place ∙ same in
        let P : ℕ → Type 0 = λ m. address ≤ address_of nodes m in
        let Q : ℕ → Type 0 = λ m. address_of nodes m ≤ address in
        let one = subst P is (below.others (first + k) n (omega arith) (omega arith)) in
        let other = subst Q is (up_to.up_to (first + k) n (omega arith) (omega arith)) in
        record {
          inside = (are.members n).0 (first + k, omega arith, is);
          at = omega arith;
        }

    at-here : IsNodeAt nodes address n → Contains (take (last - first) (drop first order)) n
    at-here at =
        let within = up_to.within in
        let listed = (are.members n).1 at.inside in
        let k : ℕ = listed.0 in
        let P : ℕ → Type 0 = λ m. address_of nodes m < address in
        let Q : ℕ → Type 0 = λ m. address < address_of nodes m in
        let from : first ≤ k = ⊎_elim
        (λ (less : k < first). let under = subst P listed.2 (below.below k n (omega arith) less) in absurd
        (omega (arith, at.at)))
        (λ (fine : first ≤ k). fine)
        (cases_lt k first) in
        let to : k < last = ⊎_elim
        (λ (fine : k < last). fine)
        (λ (more : last ≤ k). let above = subst Q listed.2 (up_to.others k n more listed.1) in absurd
        (omega (arith, at.at)))
        (cases_lt k last) in
        let long : length (take (last - first) (drop first order)) ≡ last - first = search (rules, places) in
        let place : get_or (take (last - first) (drop first order)) (k - first) n ≡ get_or order k n =
        grind (arith, places) in
        (k - first, omega arith, place ∙ listed.2)
