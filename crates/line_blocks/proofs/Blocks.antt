-- The blocks of a set that both graphs fetch.
use Rattle.std.proofs.Common.{◌≡◌, ◌==◌, ◌↔◌, ⊎_elim, ℕ, zero, suc, ◌<◌, cond, List, length, Some, None, ap, sym, ◌∙◌, subst, arith, Contains}
use Rattle.std.proofs.lemmas.List.{length-map}
use Rattle.std.proofs.lemmas.Option.{slice_get-get_or}
use Rattle.list_lemmas.proofs.Members.{has-map, has-found, from-map, found-inside}
use Rattle.cache_spec.specs.Geometry.{block_of, set_of}
use Rattle.cache_spec.specs.Blocks.{AreBlocks, LieIn}
use Rattle.path_model.specs.declared.graph.Node.{Node}
use Rattle.path_model.specs.Graph.{address, address_of, addresses_of}
use Rattle.line_blocks.specs.Runs.{Runs, AreRuns, IsHead, run_node, run_of, head_of}
use Rattle.line_blocks.proofs.Edges.{head_or_not, inner_edge, later_positive, run_address, run_inside}
use Rattle.line_blocks.proofs.Walks.{base}

-- an address that is fetched is that of a node
address_from : (nodes : List Node) (at : ℕ) → Contains (addresses_of nodes) at
    → (n : ℕ) × (n < length nodes) × (address_of nodes n ≡ at)
address_from nodes at has =
    let from = from-map (λ (node : Node). node.at) nodes at has in
    let node : Node = from.0 in
    let k : ℕ = from.1.0 in
    (k, from.1.1, ap address (slice_get-get_or nodes k node from.1.1 ∙ ap Some from.1.2) ∙ from.2)

-- and the address of a node is fetched
address_to : (nodes : List Node) (n : ℕ) → n < length nodes → Contains (addresses_of nodes) (address_of nodes n)
address_to nodes n inside =
    let found = found-inside nodes n inside in
    subst (λ (at : ℕ). Contains (addresses_of nodes) at) (sym (ap address found.1))
    (has-map (λ (node : Node). node.at) nodes found.0 (has-found nodes n found.0 found.1))

module _ (r : Runs) (are : AreRuns r) where
  -- there are as many nodes of runs as runs
  pub as_many : length r.small ≡ length r.runs
  as_many = ap (λ (small : List Node). length small) are.made ∙ length-map r.runs (run_node r.nodes r.numbers)

  -- a node fetches the block that the first node of its run does
  same_block : (bound n : ℕ) → n < bound → n < length r.nodes
      → block_of r.shape (address_of r.nodes n)
      ≡ block_of r.shape (address_of r.nodes (head_of r.runs (run_of r.numbers n)))
  same_block zero n small inside = absurd (omega (arith, small))
  same_block (suc bound) n small inside = ⊎_elim
      (λ (head : IsHead r.numbers r.runs n). ap (λ (k : ℕ). block_of r.shape (address_of r.nodes k)) (sym head))
      (λ (later : IsHead r.numbers r.runs n → ⊥).
      let before = are.whole.reached n (later_positive r (base r are) n later) inside in
      let d : ℕ = before.0 in
      let inner = inner_edge r (base r are) d n before.2 later in
      let rest = same_block bound d (omega (arith, before.1, small)) (omega (arith, before.1, inside)) in
      inner.2 ∙ (rest
      ∙ ap (λ (p : ℕ). block_of r.shape (address_of r.nodes (head_of r.runs p))) (sym inner.1)))
      (head_or_not r.numbers r.runs n)

  -- a node fetches the block that its run does
  pub run_block : (n : ℕ) → n < length r.nodes
      → block_of r.shape (address_of r.nodes n) ≡ block_of r.shape (address_of r.small (run_of r.numbers n))
  run_block n inside =
      let enough : n < suc n = omega arith in
      let p : ℕ = run_of r.numbers n in
      same_block (suc n) n enough inside
      ∙ ap (block_of r.shape) (sym (run_address r (base r are) p (run_inside r (base r are) n inside)))

  module _ (set : ℕ) where
    -- a block that the whole graph fetches, the runs do
    lies_down : (block : ℕ) → LieIn (addresses_of r.nodes) r.shape set block
        → LieIn (addresses_of r.small) r.shape set block
    lies_down block lies =
        let at : ℕ = lies.0 in
        let from = address_from r.nodes at lies.1 in
        let n : ℕ = from.0 in
        let p : ℕ = run_of r.numbers n in
        let inside : p < length r.runs = run_inside r (base r are) n from.1 in
        let same : block_of r.shape (address_of r.small p) ≡ block_of r.shape at =
        sym (run_block n from.1) ∙ ap (block_of r.shape) from.2 in (
          address_of r.small p,
          address_to r.small p (subst (λ (count : ℕ). p < count) (sym as_many) inside),
          ap (λ (b : ℕ). cond (set_of r.shape b == set) (Some b) None) same ∙ lies.2,
        )

    -- and back
    lies_up : (block : ℕ) → LieIn (addresses_of r.small) r.shape set block
        → LieIn (addresses_of r.nodes) r.shape set block
    lies_up block lies =
        let at : ℕ = lies.0 in
        let from = address_from r.small at lies.1 in
        let p : ℕ = from.0 in
        let inside : p < length r.runs = subst (λ (count : ℕ). p < count) as_many from.1 in
        let same : address_of r.nodes (head_of r.runs p) ≡ at =
        sym (run_address r (base r are) p inside) ∙ from.2 in (
          at,
          subst (λ (a : ℕ). Contains (addresses_of r.nodes) a) same
              (address_to r.nodes (head_of r.runs p) (are.plan.2 p inside).0),
          lies.2,
        )

    pub blocks_alike : (blocks : List ℕ) → AreBlocks (addresses_of r.nodes) r.shape set blocks
        ↔ AreBlocks (addresses_of r.small) r.shape set blocks
    blocks_alike blocks = (
      λ are_blocks. record {
        rising = are_blocks.rising;
        members = λ block. (
          λ has. lies_down block ((are_blocks.members block).0 has),
          λ lies. (are_blocks.members block).1 (lies_up block lies),
        );
      },
      λ are_blocks. record {
        rising = are_blocks.rising;
        members = λ block. (
          λ has. lies_up block ((are_blocks.members block).0 has),
          λ lies. (are_blocks.members block).1 (lies_down block lies),
        );
      },
    )
