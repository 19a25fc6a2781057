use Rattle.std.proofs.lemmas.Option.{slice_get-get_or}
use Rattle.sparse_graph.proofs.Tested.{passes_then, passes_else}
use Rattle.sparse_graph.proofs.plan.passes_on.Goals as goal

pub returns-then-both_lead_to : goal.returns-then-both_lead_to
returns-then-both_lead_to c =
    passes_then c.args.nodes.now c.args.leads.now c.args.ranks.now c.args.node _
    (slice_get-get_or c.args.nodes.now c.args.node _ c.requires) c.lead_of.result c.rank_of.result _ _
    c.lead_of.ensures c.rank_of.ensures c.both_lead_to.ensures c.one_is_nearer.ensures c.if-both_lead_to.true

pub returns-else-both_lead_to : goal.returns-else-both_lead_to
returns-else-both_lead_to c =
    passes_else c.args.nodes.now c.args.leads.now c.args.ranks.now c.args.node _
    (slice_get-get_or c.args.nodes.now c.args.node _ c.requires) c.lead_of.result _
    c.lead_of.ensures c.both_lead_to.ensures c.if-both_lead_to.false
