-- Ranges of sets, and what is found of them.
use Rattle.std.specs.Prelude.{◌≡◌, ℕ, ◌+◌, ◌<◌, ◌≤◌, min, max, List, Option, Some, None}
use Rattle.cache_spec.specs.Geometry.{Geometry}
use Rattle.cache_spec.specs.Blocks.{block_limit, HaveBlocks, HaveFew}
use Rattle.path_model.specs.declared.graph.Node.{Node}
use Rattle.path_model.specs.Graph.{addresses_of}
use Rattle.set_view.specs.declared.fetched.ViewFault.{ViewFault}
use Rattle.set_view.specs.declared.fetched.ViewFault.TheVariants.{TooManyBlocks, OutOfMemory}
use Rattle.sparse_graph.specs.Sparse.{IsSparse, KeepsSets}
use Rattle.node_verdicts.specs.declared.ranges.Span.{Span}
use Rattle.node_verdicts.specs.declared.ranges.SpanGraph.{SpanGraph}
use Rattle.node_verdicts.specs.Judged.{set_at, IsFetcher}

-- a span with one more set
abbrev pub widened : Option Span → ℕ → Span
widened None set = record { first = set; last = set }
widened (Some span) set = record { first = min span.first set; last = max span.last set }

-- a span of sets from `low` to below `high`, outside of which no node fetches one of them
pub record IsSpan (nodes : List Node) (g : Geometry) (low high : ℕ) (span : Span) : Type 0 where
  pub low_end : low ≤ span.first
  pub some : span.first ≤ span.last
  pub high_end : span.last < high
  pub all : (n : ℕ) → IsFetcher nodes g low high n
      → (span.first ≤ set_at nodes g n) × (set_at nodes g n ≤ span.last)

-- the graph is one of these nodes, and keeps each that fetches a set of its span
pub record IsSpanGraph (nodes : List Node) (g : Geometry) (graph : SpanGraph) : Type 0 where
  pub is_sparse : IsSparse graph.sparse
  pub nodes_are : graph.sparse.nodes ≡ nodes
  pub keeps : KeepsSets graph.sparse g graph.span.first (graph.span.last + 1)

-- few blocks are fetched of each of these sets
abbrev pub AreFew : List Node → Geometry → ℕ → ℕ → Type 0
AreFew nodes g low high = (set : ℕ) → low ≤ set → set < high → HaveFew (addresses_of nodes) g set

-- this is the first of these sets with too many fetched blocks, and has this many
pub record HaveManyWithin (nodes : List Node) (g : Geometry) (low high which count : ℕ) : Type 0 where
  pub above : low ≤ which
  pub below : which < high
  pub earlier : AreFew nodes g low which
  pub has : HaveBlocks (addresses_of nodes) g which count
  pub many : block_limit < count

-- why nothing was found of these sets
abbrev pub IsFaultWithin : List Node → Geometry → ℕ → ℕ → ViewFault → Type 0
IsFaultWithin nodes g low high (TooManyBlocks which count) = HaveManyWithin nodes g low high which count
IsFaultWithin nodes g low high OutOfMemory = Unit {0}
