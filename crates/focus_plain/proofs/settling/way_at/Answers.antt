use Rattle.std.proofs.Common.{sym, ◌∙◌}
use Rattle.focus_plain.proofs.Fates.{EndsBySets, noted_inside, noted_way, none_noted}
use Rattle.focus_plain.proofs.settling.way_at.Goals as goal
use Rattle.focus_plain.proofs.settling.way_at.Goals.{After-view_laws}

-- what a path that ends in a fetch of the block can do
law : (c : After-view_laws) → EndsBySets c.args.view.now c.args.found.now.start c.args.found.now.block
law c n earlier path fetches = (
  c.view_laws.ensures.hits c.args.view.now c.args.found.now.start n c.args.found.now.block earlier c.requires.view path
      fetches,
  c.view_laws.ensures.misses c.args.view.now c.args.found.now.start n c.args.found.now.block earlier c.requires.view
      path fetches,
)

pub way_of-requires-clause-inside : goal.way_of-requires-clause-inside
way_of-requires-clause-inside c =
    noted_inside c.args.view.now _ c.args.hits _ _ c.requires.found (sym c.end_at.ensures ∙ c.in-Some.is)

pub returns-in_ok-way_of-in-Some : goal.returns-in_ok-way_of-in-Some
returns-in_ok-way_of-in-Some c =
    let known = (goal.at.returns-in_ok-way_of-in-Some c).After-view_laws in
    noted_way c.args.view.now c.args.found.now c.requires.found (law known) c.args.node c.requires.fetches c.args.hits
    _ _ _ (sym c.end_at.ensures ∙ c.in-Some.is) c.graph.ensures.same c.in_ok-way_of-in-Some.ensures

pub returns-in-None : goal.returns-in-None
returns-in-None c =
    let known = (goal.at.returns-in-None c).After-view_laws in
    none_noted c.args.view.now c.args.found.now c.requires.found (law known) c.args.node c.requires.fetches c.args.hits
    (sym c.end_at.ensures ∙ c.in-None.is)
