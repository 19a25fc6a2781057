use Rattle.std.proofs.Common.{◌<◌, ℕ, List, length, sym, arith}
use Rattle.std.proofs.lemmas.Option.{get_or_from_slice_get}
use Rattle.age_exists.proofs.Taken.{taken_more}
use Rattle.age_exists.proofs.one_block.values_of.Goals as goal

pub loop-node-preserved : goal.loop-node-preserved
loop-node-preserved c =
    let wanted : List ℕ = c.args.solution.now.values in
    let inside : c.loop-node.node < length wanted = omega arith in
    taken_more wanted c.loop-node.values.items c.push.new.self.items c.loop-node.node c.before-in-loop-node.result.now
    c.loop-node.invariant inside
    (sym (get_or_from_slice_get wanted c.loop-node.node c.before-in-loop-node.result.now 0
    c.before-in-loop-node.ensures.value)) c.in_ok-push.ensures.items
