use Rattle.std.proofs.Common.{sym, arith}
use Rattle.report_plan.proofs.Back.{length-entries, node_at-entries}
use Rattle.report_plan.proofs.before.BeforesTrail.node.Goals as goal

pub returns : goal.returns
returns c =
    let before = c.args.self.now in
    sym (node_at-entries before c.args.entry (omega (arith, c.requires, length-entries before)))
