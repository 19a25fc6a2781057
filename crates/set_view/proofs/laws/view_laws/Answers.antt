use Rattle.set_view.proofs.Hits.{view-hits, view-misses}
use Rattle.set_view.proofs.laws.view_laws.Goals as goal

pub returns-clause-hits : goal.returns-clause-hits
returns-clause-hits c = view-hits c.warm_laws.ensures.hits c.warm_laws.ensures.renamed c.graph_laws.ensures.inside

pub returns-clause-misses : goal.returns-clause-misses
returns-clause-misses c =
    view-misses c.warm_laws.ensures.misses c.warm_laws.ensures.renamed c.graph_laws.ensures.inside
