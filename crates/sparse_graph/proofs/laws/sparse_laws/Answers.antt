use Rattle.std.proofs.Common.{None}
use Rattle.std.proofs.lemmas.Option.{slice_get_within, slice_get-get_or, get_or_from_slice_get}
use Rattle.focus_spec.specs.Younger.{first_warm}
use Rattle.sparse_graph.specs.Plan.{lead_of, origin_of}
use Rattle.sparse_graph.proofs.Edges.{as_many}
use Rattle.sparse_graph.proofs.Steps.{origin_inside}
use Rattle.sparse_graph.proofs.Blocks.{blocks_up, blocks_down}
use Rattle.sparse_graph.proofs.Fates.{same_after, same_address, all_down, all_up, expanded_ends, expanded_can}
use Rattle.sparse_graph.proofs.Paths.{path_down, path_up}
use Rattle.sparse_graph.proofs.laws.sparse_laws.Goals as goal

pub returns-clause-down : goal.returns-clause-down
returns-clause-down c = λ sparse fetch small_fetch m earlier is alike path.
    path_down sparse is fetch small_fetch alike m earlier path

pub returns-clause-up : goal.returns-clause-up
returns-clause-up c = λ sparse fetch small_fetch p n other is alike at path.
    path_up sparse is fetch small_fetch alike p n other at path

pub returns-clause-younger : goal.returns-clause-younger
returns-clause-younger c = λ block one two members others same. same_after block None one two members others same

pub returns-clause-warm : goal.returns-clause-warm
returns-clause-warm c = λ start block one two members others same.
    same_after block (first_warm start) one two members others same

pub returns-clause-fates : goal.returns-clause-fates
returns-clause-fates c = λ sparse g start p n hits is keeps at.
    (all_down sparse is g start p n at keeps hits, all_up sparse is g start p n at keeps hits)

pub returns-clause-blocks : goal.returns-clause-blocks
returns-clause-blocks c = λ sparse g set blocks is keeps.
    (blocks_down sparse is g set keeps blocks, blocks_up sparse is g set keeps blocks)

pub returns-clause-ends : goal.returns-clause-ends
returns-clause-ends c = λ sparse path whole others p n made is_path at.
    expanded_ends sparse path whole others p n made is_path at

pub returns-clause-paths : goal.returns-clause-paths
returns-clause-paths c = λ sparse g start path whole others p n hits is keeps made is_path at can.
    expanded_can sparse is g start path whole others p n hits keeps made is_path at can

pub returns-clause-count : goal.returns-clause-count
returns-clause-count c = λ sparse is. as_many sparse is

pub returns-clause-inside : goal.returns-clause-inside
returns-clause-inside c = λ sparse p is inside. origin_inside sparse is p inside

pub returns-clause-origins : goal.returns-clause-origins
returns-clause-origins c = λ sparse p is inside. slice_get-get_or sparse.kept p 0 inside

pub returns-clause-addresses : goal.returns-clause-addresses
returns-clause-addresses c = λ sparse p is inside.
    same_address sparse is p (origin_of sparse.kept p) (slice_get-get_or sparse.kept p 0 inside)

pub returns-clause-leads : goal.returns-clause-leads
returns-clause-leads c = λ sparse p is inside.
    (is.plan.own p (origin_of sparse.kept p) (slice_get-get_or sparse.kept p 0 inside)).1

pub returns-clause-kept : goal.returns-clause-kept
returns-clause-kept c = λ sparse n at. (
  slice_get_within sparse.kept (lead_of sparse.leads n) n at,
  get_or_from_slice_get sparse.kept (lead_of sparse.leads n) n 0 at,
)
