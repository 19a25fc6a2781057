-- The blocks that both graphs fetch of a set.
use Rattle.std.proofs.Common.{◌≡◌, ℕ, ◌<◌, List, length, Some, ap, sym, ◌∙◌, subst, arith, Contains}
use Rattle.std.proofs.lemmas.Bool.Decides.{nat_tests}
use Rattle.std.proofs.lemmas.Option.{slice_get_within, slice_get-get_or}
use Rattle.list_lemmas.proofs.Members.{has-map, has-found, from-map, found-inside}
use Rattle.cache_spec.specs.Geometry.{Geometry, block_of, set_of}
use Rattle.cache_spec.specs.Blocks.{AreBlocks, LieIn, block_in}
use Rattle.path_model.specs.declared.graph.Node.{Node}
use Rattle.path_model.specs.Graph.{address, address_of, addresses_of}
use Rattle.sparse_graph.specs.Plan.{lead_of}
use Rattle.sparse_graph.specs.Sparse.{Sparse, IsSparse, KeepsSet}
use Rattle.sparse_graph.proofs.Edges.{as_many, origin}
use Rattle.sparse_graph.proofs.Fates.{same_address}

-- an address that is fetched is that of a node
address_from : (nodes : List Node) (at : ℕ) → Contains (addresses_of nodes) at
    → (n : ℕ) × (n < length nodes) × (address_of nodes n ≡ at)
address_from nodes at has =
    let from = from-map (λ (node : Node). node.at) nodes at has in
    let node : Node = from.0 in
    let k : ℕ = from.1.0 in
    (k, from.1.1, ap address (slice_get-get_or nodes k node from.1.1 ∙ ap Some from.1.2) ∙ from.2)

-- and the address of a node is fetched
address_to : (nodes : List Node) (n : ℕ) → n < length nodes → Contains (addresses_of nodes) (address_of nodes n)
address_to nodes n inside =
    let found = found-inside nodes n inside in
    let node : Node = found.0 in
    subst (λ (at : ℕ). Contains (addresses_of nodes) at) (sym (ap address found.1))
    (has-map (λ (node : Node). node.at) nodes node (has-found nodes n node found.1))

-- an address in a block of the set lies in the set
in_set : (g : Geometry) (set at block : ℕ) → block_in g set at ≡ Some block → set_of g (block_of g at) ≡ set
in_set g set at block is = grind (arith, nat_tests)

module _ (sparse : Sparse) (is : IsSparse sparse) (g : Geometry) (set : ℕ) (keeps : KeepsSet sparse g set) where
  -- a block that the sparse graph fetches is one that the whole one does
  lies_up : (block : ℕ) → LieIn (addresses_of sparse.small) g set block → LieIn (addresses_of sparse.nodes) g set block
  lies_up block lies =
      let at : ℕ = lies.0 in
      let from = address_from sparse.small at lies.1 in
      let there = origin sparse is from.0 from.1 in
      let n : ℕ = there.0 in
      let same : address_of sparse.nodes n ≡ at = sym (same_address sparse is from.0 n there.1) ∙ from.2 in (
        at,
        subst (λ (a : ℕ). Contains (addresses_of sparse.nodes) a) same
            (address_to sparse.nodes n (is.plan.own from.0 n there.1).0),
        lies.2,
      )

  -- and back
  lies_down : (block : ℕ) → LieIn (addresses_of sparse.nodes) g set block
      → LieIn (addresses_of sparse.small) g set block
  lies_down block lies =
      let at : ℕ = lies.0 in
      let from = address_from sparse.nodes at lies.1 in
      let n : ℕ = from.0 in
      let kept = keeps n from.1
      (subst (λ (a : ℕ). set_of g (block_of g a) ≡ set) (sym from.2) (in_set g set at block lies.2)) in
      let p : ℕ = lead_of sparse.leads n in
      let same : address_of sparse.small p ≡ at = same_address sparse is p n kept ∙ from.2 in
      let inside : p < length sparse.small =
      subst (λ (c : ℕ). p < c) (sym (as_many sparse is)) (slice_get_within sparse.kept p n kept) in
      (at, subst (λ (a : ℕ). Contains (addresses_of sparse.small) a) same (address_to sparse.small p inside), lies.2)

  -- the blocks of the set are the same
  pub blocks_up : (blocks : List ℕ) → AreBlocks (addresses_of sparse.small) g set blocks
      → AreBlocks (addresses_of sparse.nodes) g set blocks
  blocks_up blocks are = record {
    rising = are.rising;
    members = λ block. (
      λ has. lies_up block ((are.members block).0 has),
      λ lies. (are.members block).1 (lies_down block lies),
    );
  }

  --
  pub blocks_down : (blocks : List ℕ) → AreBlocks (addresses_of sparse.nodes) g set blocks
      → AreBlocks (addresses_of sparse.small) g set blocks
  blocks_down blocks are = record {
    rising = are.rising;
    members = λ block. (
      λ has. lies_down block ((are.members block).0 has),
      λ lies. (are.members block).1 (lies_up block lies),
    );
  }
