use Rattle.std.proofs.Common.{sym, ◌∙◌}
use Rattle.focus_plain.proofs.Fates.{EndsBySets, judged_entry, judged_all, judged_path}
use Rattle.focus_plain.proofs.judging.Judgement.path.Goals as goal
use Rattle.focus_plain.proofs.judging.Judgement.path.Goals.{After-self}

-- what a path that ends in a fetch of the block can do
law : (c : After-self) → EndsBySets c.self.inside.view.now c.self.inside.found.start c.self.inside.found.block
law c n earlier path fetches = (
  c.view_laws.ensures.hits c.self.inside.view.now c.self.inside.found.start n c.self.inside.found.block earlier
      c.self.invariant.is_view path fetches,
  c.view_laws.ensures.misses c.self.inside.view.now c.self.inside.found.start n c.self.inside.found.block earlier
      c.self.invariant.is_view path fetches,
)

pub trace-requires-clause-inside : goal.trace-requires-clause-inside
trace-requires-clause-inside c =
    let known = (goal.at.trace-requires-clause-inside c).After-self in
    judged_entry _ c.self.inside.view.now c.self.inside.found c.self.view_is c.self.invariant (law known) c.args.node c.requires c.args.hits _
    (sym c.end_at.ensures ∙ c.in-Some.is)

pub returns-in_ok-trace-in-Some-clause-some : goal.returns-in_ok-trace-in-Some-clause-some
returns-in_ok-trace-in-Some-clause-some c =
    let known = (goal.at.returns-in_ok-trace-in-Some-clause-some c).After-self in
    judged_path _ c.self.inside.view.now c.self.inside.found c.self.view_is c.self.invariant (law known) c.args.node c.requires c.args.hits _ _ _
    (sym c.end_at.ensures ∙ c.in-Some.is) c.graph.ensures.same c.in_ok-trace-in-Some.ensures.chain
    c.in_ok-trace-in-Some.ensures.path

pub returns-in-None-clause-none : goal.returns-in-None-clause-none
returns-in-None-clause-none c =
    let known = (goal.at.returns-in-None-clause-none c).After-self in
    judged_all _ c.self.inside.view.now c.self.inside.found c.self.view_is c.self.invariant (law known) c.args.node c.requires c.args.hits
    (sym c.end_at.ensures ∙ c.in-None.is)
