use Rattle.std.proofs.Common.{true, false, sym, ◌∙◌}
use Rattle.focus_plain.proofs.Fates.{EndsBySets, judged_inside, judged_all, judged_both}
use Rattle.focus_plain.proofs.judging.Judgement.classification.Goals as goal
use Rattle.focus_plain.proofs.judging.Judgement.classification.Goals.{After-self}

-- what a path that ends in a fetch of the block can do
law : (c : After-self) → EndsBySets c.self.inside.view.now c.self.inside.found.start c.self.inside.found.block
law c n earlier path fetches = (
  c.view_laws.ensures.hits c.self.inside.view.now c.self.inside.found.start n c.self.inside.found.block earlier
      c.self.invariant.is_view path fetches,
  c.view_laws.ensures.misses c.self.inside.view.now c.self.inside.found.start n c.self.inside.found.block earlier
      c.self.invariant.is_view path fetches,
)

pub end_at-requires : goal.end_at-requires
end_at-requires c =
    judged_inside _ c.self.inside.view.now c.self.inside.found c.self.view_is c.self.invariant (law c) c.args.node c.requires true

pub end_at-requires-2 : goal.end_at-requires-2
end_at-requires-2 c =
    let known = (goal.at.end_at-requires-2 c).After-self in
    judged_inside _ c.self.inside.view.now c.self.inside.found c.self.view_is c.self.invariant (law known) c.args.node c.requires false

pub returns-in-Some-Some : goal.returns-in-Some-Some
returns-in-Some-Some c =
    let known = (goal.at.returns-in-Some-Some c).After-self in
    judged_both _ c.self.inside.view.now c.self.inside.found c.self.view_is c.self.invariant (law known) c.args.node c.requires _ _
    (sym c.end_at.ensures ∙ c.in-Some-Some.is-0) (sym c.end_at-2.ensures ∙ c.in-Some-Some.is-1)

pub returns-in-Some-None : goal.returns-in-Some-None
returns-in-Some-None c =
    let known = (goal.at.returns-in-Some-None c).After-self in
    judged_all _ c.self.inside.view.now c.self.inside.found c.self.view_is c.self.invariant (law known) c.args.node c.requires false
    (sym c.end_at-2.ensures ∙ c.in-Some-None.is-1)

pub returns-in-None-default : goal.returns-in-None-default
returns-in-None-default c =
    let known = (goal.at.returns-in-None-default c).After-self in
    judged_all _ c.self.inside.view.now c.self.inside.found c.self.view_is c.self.invariant (law known) c.args.node c.requires true
    (sym c.end_at.ensures ∙ c.in-None-default.is-0)
