use Rattle.std.proofs.Common.{arith}
use Rattle.std.proofs.lemmas.Result.{IfOk-weaker}
use Rattle.path_trail.specs.Ways.{IsWayOf}
use Rattle.node_spec.specs.Plan.{NamesPathTo}
use Rattle.report_plan.specs.Befores.{entries_of}
use Rattle.report_plan.proofs.Back.{length-entries, IsTrail-entries, way-names}
use Rattle.report_plan.proofs.before.way_to.Goals as goal

pub way_of-requires-clause-trail : goal.way_of-requires-clause-trail
way_of-requires-clause-trail c = IsTrail-entries c.args.graph.now c.args.before.now c.requires.before

pub way_of-requires-clause-inside : goal.way_of-requires-clause-inside
way_of-requires-clause-inside c =
    omega (arith, c.requires.inside, c.requires.before.one_each, length-entries c.args.before.now)

pub returns : goal.returns
returns c =
    IfOk-weaker c.way_of.result (IsWayOf c.args.graph.now (entries_of c.args.before.now) c.args.node)
    (NamesPathTo c.args.graph.now c.args.node)
    (λ way is. way-names _ _ _ way (omega (arith, c.requires.inside, c.requires.before.one_each)) is) c.way_of.ensures
