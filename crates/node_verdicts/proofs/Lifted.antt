-- Judgements on a sparse graph, carried to the graph that it stands for.
use Rattle.std.proofs.Common.{◌≡◌, ℕ, ◌<◌, ◌≤◌, ◌↔◌, Bool, true, false, List, length, reverse, Some, None, refl, sym, ap, subst, ◌∙◌, arith}
use Rattle.std.proofs.lemmas.Option.{slice_get_within, slice_get-get_or, get_or_from_slice_get}
use Rattle.std.specs.Prelude.{slice_get}
use Rattle.cache_spec.specs.Blocks.{AreBlocks, HaveFew}
use Rattle.cache_spec.specs.Geometry.{Geometry, block_of, set_of}
use Rattle.cache_spec.specs.declared.start.Start.{Start}
use Rattle.transition_spec.specs.Path.{IsPath}
use Rattle.path_model.specs.declared.graph.Node.{Node}
use Rattle.path_model.specs.Graph.{graph_step, address_of, addresses_of}
use Rattle.focus_spec.specs.Fate.{AllEnd, PathCanEnd}
use Rattle.focus_plain.specs.Judged.{IsPathTo}
use Rattle.node_spec.specs.declared.verdict.Kept.{Kept}
use Rattle.node_spec.specs.declared.verdict.Kept.TheVariants.{EachNode, EachAddress}
use Rattle.set_view.specs.declared.fetched.ViewFault.{ViewFault}
use Rattle.set_view.specs.declared.fetched.ViewFault.TheVariants.{TooManyBlocks, OutOfMemory}
use Rattle.sparse_graph.specs.Plan.{origin_of, lead_of}
use Rattle.sparse_graph.specs.Sparse.{Sparse, IsSparse, KeepsSets}
use Rattle.sparse_graph.specs.Expand.{IsExpanded}
use Rattle.sparse_graph.proofs.Blocks.{blocks_up, blocks_down}
use Rattle.sparse_graph.proofs.Edges.{as_many}
use Rattle.sparse_graph.proofs.Fates.{same_address, all_down, all_up, expanded_ends, expanded_can}
use Rattle.sparse_graph.proofs.Steps.{origin_inside}
use Rattle.node_verdicts.specs.declared.judged.Ends.{Ends}
use Rattle.node_verdicts.specs.declared.judged.Ends.TheVariants.{Hits, Misses, Both}
use Rattle.node_verdicts.specs.declared.judged.Judged.{Judged}
use Rattle.node_verdicts.specs.Judged.{block_at, set_at, IsFetcherOf, IsEnds, HasPaths, HavePathsAt, Serves, AreJudged}
use Rattle.node_verdicts.specs.Lifted.{HavePaths, IsLiftedEnds, AreLifted}
use Rattle.node_verdicts.specs.Ranges.{AreFew, IsFaultWithin}

-- the paths of a right judgement are paths of the graph
pub ends_paths : (nodes : List Node) (g : Geometry) (start : Start) (n : ℕ) (ends : Ends)
    → IsEnds nodes g start n ends → HavePaths nodes ends
ends_paths nodes g start n Hits right = tt
ends_paths nodes g start n Misses right = tt
ends_paths nodes g start n (Both None) right = tt
ends_paths nodes g start n (Both (Some paths)) (hit, miss) = (
  subst (λ (xs : List ℕ). IsPath (graph_step nodes) 0 xs) (sym hit.ends) hit.is_path,
  subst (λ (xs : List ℕ). IsPath (graph_step nodes) 0 xs) (sym miss.ends) miss.is_path,
)

-- paths are kept after as before
lifted_paths : (sparse : Sparse) (ends lifted : Ends) → IsLiftedEnds sparse ends lifted → HasPaths ends
    → HasPaths lifted
lifted_paths sparse Hits lifted is (paths, has) = absurd (cc has)
lifted_paths sparse Misses lifted is (paths, has) = absurd (cc has)
lifted_paths sparse (Both None) lifted is (paths, has) = absurd (cc has)
lifted_paths sparse (Both (Some one)) lifted (whole, is, hit, miss) (paths, has) = (whole, is)

-- and none where there were none
lifted_none : (sparse : Sparse) (ends lifted : Ends) → IsLiftedEnds sparse ends lifted → lifted ≡ Both None
    → ends ≡ Both None
lifted_none sparse Hits lifted is none = absurd (cc (is, none))
lifted_none sparse Misses lifted is none = absurd (cc (is, none))
lifted_none sparse (Both None) lifted is none = refl
lifted_none sparse (Both (Some one)) lifted (whole, is, hit, miss) none = absurd (cc (is, none))

-- what holds of a sparse graph and its sets, by the laws of sparse graphs
pub record Laws (sparse : Sparse) (g : Geometry) (start : Start) (low high : ℕ) : Type 0 where
  pub fates : (p : ℕ) (hits : Bool) → p < length sparse.kept
      → low ≤ set_at sparse.nodes g (origin_of sparse.kept p) → set_at sparse.nodes g (origin_of sparse.kept p) < high
      → AllEnd sparse.nodes g start (origin_of sparse.kept p) hits ↔ AllEnd sparse.small g start p hits
  pub paths : (p : ℕ) (hits : Bool) (members whole : List ℕ) → p < length sparse.kept
      → low ≤ set_at sparse.nodes g (origin_of sparse.kept p) → set_at sparse.nodes g (origin_of sparse.kept p) < high
      → IsExpanded sparse members whole → IsPathTo sparse.small g start p hits members
      → IsPathTo sparse.nodes g start (origin_of sparse.kept p) hits whole
  pub blocks : (set : ℕ) (blocks : List ℕ) → low ≤ set → set < high
      → AreBlocks (addresses_of sparse.nodes) g set blocks ↔ AreBlocks (addresses_of sparse.small) g set blocks
  pub count : length sparse.small ≡ length sparse.kept
  pub inside : (p : ℕ) → p < length sparse.kept → origin_of sparse.kept p < length sparse.nodes
  pub addresses : (p : ℕ) → p < length sparse.kept
      → address_of sparse.small p ≡ address_of sparse.nodes (origin_of sparse.kept p)
  pub leads : (p : ℕ) → p < length sparse.kept → lead_of sparse.leads (origin_of sparse.kept p) ≡ p
  pub kept : (n : ℕ) → n < length sparse.nodes → low ≤ set_at sparse.nodes g n → set_at sparse.nodes g n < high
      → (lead_of sparse.leads n < length sparse.kept) × (origin_of sparse.kept (lead_of sparse.leads n) ≡ n)

-- these hold of a sparse graph that keeps the nodes which fetch the sets
pub laws_of : (sparse : Sparse) (g : Geometry) (start : Start) (low high : ℕ) → IsSparse sparse
    → KeepsSets sparse g low high → Laws sparse g start low high
laws_of sparse g start low high is keeps =
    let origin : (p : ℕ) → p < length sparse.kept → slice_get sparse.kept p ≡ Some (origin_of sparse.kept p) =
    λ p inside. slice_get-get_or sparse.kept p 0 inside in
    record {
      fates = λ p hits inside above below.
          let n = origin_of sparse.kept p in
          let all = keeps (set_at sparse.nodes g n) above below in (
            all_down sparse is g start p n (origin p inside) all hits,
            all_up sparse is g start p n (origin p inside) all hits,
          );
      paths = λ p hits members whole inside above below expanded to.
          let n = origin_of sparse.kept p in
          let (earlier, path, whole_is) =
          expanded_ends sparse members whole to.earlier p n expanded to.ends (origin p inside) in
          let can = expanded_can sparse is g start members whole to.earlier p n hits
          (keeps (set_at sparse.nodes g n) above below) expanded to.ends (origin p inside)
          (subst (λ (xs : List ℕ). PathCanEnd sparse.small g start xs hits) (sym to.ends) to.fate) in
          record {
            earlier = earlier;
            ends = whole_is;
            is_path = path;
            fate = subst (λ (xs : List ℕ). PathCanEnd sparse.nodes g start xs hits) whole_is can;
          };
      blocks = λ set blocks above below.
          (blocks_down sparse is g set (keeps set above below) blocks, blocks_up sparse is g set (keeps set above below) blocks);
      count = as_many sparse is;
      inside = λ p inside. origin_inside sparse is p inside;
      addresses = λ p inside. same_address sparse is p (origin_of sparse.kept p) (origin p inside);
      leads = λ p inside. (is.plan.own p (origin_of sparse.kept p) (origin p inside)).1;
      kept = λ n inside above below.
          let at = keeps (set_at sparse.nodes g n) above below n inside refl in (
            slice_get_within sparse.kept (lead_of sparse.leads n) n at,
            get_or_from_slice_get sparse.kept (lead_of sparse.leads n) n 0 at,
          );
    }

module _ (sparse : Sparse) (g : Geometry) (start : Start) (low high : ℕ) (laws : Laws sparse g start low high) where
  module _ (p : ℕ) (inside : p < length sparse.kept)
      (above : low ≤ set_at sparse.nodes g (origin_of sparse.kept p))
      (below : set_at sparse.nodes g (origin_of sparse.kept p) < high) where
    -- what is right of a node of the sparse graph is so of its origin
    right_origin : (ends lifted : Ends) → IsEnds sparse.small g start p ends → IsLiftedEnds sparse ends lifted
        → IsEnds sparse.nodes g start (origin_of sparse.kept p) lifted
    right_origin Hits lifted right is =
        subst (IsEnds sparse.nodes g start (origin_of sparse.kept p)) (sym is)
        ((laws.fates p true inside above below).1 right)
    right_origin Misses lifted right is =
        subst (IsEnds sparse.nodes g start (origin_of sparse.kept p)) (sym is)
        ((laws.fates p false inside above below).1 right)
    right_origin (Both None) lifted (misses, hits) is =
        subst (IsEnds sparse.nodes g start (origin_of sparse.kept p)) (sym is) (
          λ all. misses ((laws.fates p true inside above below).0 all),
          λ all. hits ((laws.fates p false inside above below).0 all),
        )
    right_origin (Both (Some paths)) lifted (hit, miss) (whole, is, hit_whole, miss_whole) =
        subst (IsEnds sparse.nodes g start (origin_of sparse.kept p)) (sym is) (
          laws.paths p true (reverse paths.hit.items) (reverse whole.hit.items) inside above below hit_whole hit,
          laws.paths p false (reverse paths.miss.items) (reverse whole.miss.items) inside above below miss_whole miss,
        )

  module _ (Among : ℕ → Type 0) (of : (block : ℕ) → Among block → (low ≤ set_of g block) × (set_of g block < high)) where
    -- a node of the sparse graph that fetches one of these blocks is a kept one
    fetcher_kept : (p : ℕ) → IsFetcherOf sparse.small g Among p → p < length sparse.kept
    fetcher_kept p fetcher = omega (arith, fetcher.inside, laws.count)

    -- and its origin fetches it too
    fetcher_origin : (p : ℕ) → IsFetcherOf sparse.small g Among p
        → IsFetcherOf sparse.nodes g Among (origin_of sparse.kept p)
    fetcher_origin p fetcher =
        let inside = fetcher_kept p fetcher in
        record {
          inside = laws.inside p inside;
          among = subst Among (ap (block_of g) (laws.addresses p inside)) fetcher.among;
        }

    -- each node that fetches one of the blocks is the origin of one that does
    fetcher_lead : (n : ℕ) → IsFetcherOf sparse.nodes g Among n
        → (p : ℕ) × IsFetcherOf sparse.small g Among p × (origin_of sparse.kept p ≡ n)
    fetcher_lead n fetcher =
        let (above, below) = of (block_at sparse.nodes g n) fetcher.among in
        let (inside, is) = laws.kept n fetcher.inside above below in
        let p = lead_of sparse.leads n in
        let same : block_at sparse.nodes g n ≡ block_at sparse.small g p =
        sym (ap (block_of g) (laws.addresses p inside) ∙ ap (block_at sparse.nodes g) is) in (
          p,
          record { inside = omega (arith, inside, laws.count); among = subst Among same fetcher.among },
          is,
        )

  -- two nodes of one origin are one
  one_origin : (p q : ℕ) → p < length sparse.kept → q < length sparse.kept
      → origin_of sparse.kept p ≡ origin_of sparse.kept q → p ≡ q
  one_origin p q first second same =
      sym (laws.leads p first) ∙ ap (lead_of sparse.leads) same ∙ laws.leads q second

  -- the origin of one node serves that of another where the one serves the other
  serves_origin : (k : Kept) (p q : ℕ) → p < length sparse.kept → q < length sparse.kept
      → Serves sparse.small k p q → Serves sparse.nodes k (origin_of sparse.kept p) (origin_of sparse.kept q)
  serves_origin EachNode p q first second same = ap (origin_of sparse.kept) same
  serves_origin EachAddress p q first second same =
      sym (laws.addresses q second) ∙ same ∙ laws.addresses p first

  module _ (kept : Kept) (Among : ℕ → Type 0)
      (of : (block : ℕ) → Among block → (low ≤ set_of g block) × (set_of g block < high)) (judged lifted : List Judged)
      (are : AreJudged sparse.small g start kept (IsFetcherOf sparse.small g Among) judged)
      (carried : AreLifted sparse judged lifted) where
    -- a node with paths has them on the whole graph
    have_origin : (p : ℕ) → HavePathsAt judged p → HavePathsAt lifted (origin_of sparse.kept p)
    have_origin p have =
        let (one, there, node) = have.some in
        let (other, among, is) = carried.each one there in
        record {
          some = (other, among, is.node ∙ ap (origin_of sparse.kept) node);
          each = λ x in_lifted at.
              let (y, before, from) = carried.none_else x in_lifted in
              let inside = fetcher_kept Among of y.node (are.within y before) in
              let below = fetcher_kept Among of one.node (are.within one there) in
              let same = one_origin y.node one.node inside below
              (sym from.node ∙ at ∙ ap (origin_of sparse.kept) (sym node)) in
              lifted_paths sparse y.ends x.ends from.ends (have.each y before (same ∙ node));
        }

    -- what was judged on the sparse graph is judged on the whole one
    pub judged_whole : AreJudged sparse.nodes g start kept (IsFetcherOf sparse.nodes g Among) lifted
    judged_whole = record {
      within = λ other there.
          let (one, before, is) = carried.none_else other there in
          subst (IsFetcherOf sparse.nodes g Among) (sym is.node) (fetcher_origin Among of one.node (are.within one before));
      right = λ other there.
          let (one, before, is) = carried.none_else other there in
          let fetcher = are.within one before in
          let origin = fetcher_origin Among of one.node fetcher in
          let (above, below) = of (block_at sparse.nodes g (origin_of sparse.kept one.node)) origin.among in
          subst (λ (n : ℕ). IsEnds sparse.nodes g start n other.ends) (sym is.node)
          (right_origin one.node (fetcher_kept Among of one.node fetcher) above below one.ends other.ends
          (are.right one before) is.ends);
      all = λ n fetcher.
          let (p, small, at) = fetcher_lead Among of n fetcher in
          let (one, there, node) = are.all p small in
          let (other, among, is) = carried.each one there in
          (other, among, is.node ∙ ap (origin_of sparse.kept) node ∙ at);
      served = λ other there none.
          let (one, before, is) = carried.none_else other there in
          let (m, serves, have) = are.served one before (lifted_none sparse one.ends other.ends is.ends none) in
          let (with_paths, among, node) = have.some in
          let inside = fetcher_kept Among of one.node (are.within one before) in
          let below : m < length sparse.kept =
          subst (λ (k : ℕ). k < length sparse.kept) node
          (fetcher_kept Among of with_paths.node (are.within with_paths among)) in (
            origin_of sparse.kept m,
            subst (λ (n : ℕ). Serves sparse.nodes kept n (origin_of sparse.kept m)) (sym is.node)
                (serves_origin kept one.node m inside below serves),
            have_origin m have,
          );
    }

  -- few blocks are fetched by the whole graph where few are by the sparse one
  few_set : (set : ℕ) → low ≤ set → set < high → HaveFew (addresses_of sparse.small) g set
      → HaveFew (addresses_of sparse.nodes) g set
  few_set set above below (count, (blocks, are, long), few) =
      (count, (blocks, (laws.blocks set blocks above below).1 are, long), few)

  pub few_whole : AreFew sparse.small g low high → AreFew sparse.nodes g low high
  few_whole few set above below = few_set set above below (few set above below)

  -- and why nothing was found is the same
  pub fault_whole : (fault : ViewFault) → IsFaultWithin sparse.small g low high fault
      → IsFaultWithin sparse.nodes g low high fault
  fault_whole (TooManyBlocks which count) many =
      let (blocks, are, long) = many.has in
      record {
        above = many.above;
        below = many.below;
        earlier = λ set above before.
            few_set set above (omega (arith, before, many.below)) (many.earlier set above before);
        has = (blocks, (laws.blocks which blocks many.above many.below).1 are, long);
        many = many.many;
      }
  fault_whole OutOfMemory nothing = nothing

  -- few blocks are fetched by the sparse graph where few are by the whole one
  pub few_small : (set : ℕ) → low ≤ set → set < high → HaveFew (addresses_of sparse.nodes) g set
      → HaveFew (addresses_of sparse.small) g set
  few_small set above below (count, (blocks, are, long), few) =
      (count, (blocks, (laws.blocks set blocks above below).0 are, long), few)

  module _ (nodes : List Node) (block : ℕ) (nodes_are : sparse.nodes ≡ nodes) (above : low ≤ set_of g block)
      (below : set_of g block < high) where
    -- what is judged of the nodes that fetch a block on the sparse graph is judged on the whole one
    pub block_whole : (kept : Kept) (judged lifted : List Judged)
        → AreJudged sparse.small g start kept (IsFetcherOf sparse.small g (λ other. other ≡ block)) judged
        → AreLifted sparse judged lifted
        → AreJudged nodes g start kept (IsFetcherOf nodes g (λ other. other ≡ block)) lifted
    block_whole kept judged lifted are carried =
        subst (λ (ns : List Node). AreJudged ns g start kept (IsFetcherOf ns g (λ other. other ≡ block)) lifted) nodes_are
        (judged_whole kept (λ other. other ≡ block)
        (λ other is.
        let same : set_of g other ≡ set_of g block = ap (set_of g) is in
        (omega (arith, above, same), omega (arith, below, same)))
        judged lifted are carried)

    -- and few blocks of its set are fetched there too
    pub block_few : HaveFew (addresses_of nodes) g (set_of g block)
        → HaveFew (addresses_of sparse.small) g (set_of g block)
    block_few few =
        few_small (set_of g block) above below
        (subst (λ (ns : List Node). HaveFew (addresses_of ns) g (set_of g block)) (sym nodes_are) few)
