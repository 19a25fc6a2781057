use Rattle.std.proofs.Common.{◌<◌, length, sym, ap, ◌∙◌, arith}
use Rattle.age_exists.specs.Equations.{own_ages}
use Rattle.age_exists.proofs.Own.{length-own, own-each}
use Rattle.age_exists.proofs.Taken.{taken_more, taken_all}
use Rattle.age_exists.proofs.one_block.own_ages.Goals as goal

pub loop-node-preserved : goal.loop-node-preserved
loop-node-preserved c =
    let view = c.args.view.now in
    let wanted = own_ages view.fetches c.args.ages.now in
    let inside : c.loop-node.node < length view.fetches = omega (
      arith,
      ap length c.nodes.ensures.same,
      ap length c.graph.ensures.same,
      c.blocks-blocks.ensures.view.one_each,
    ) in
    let here : c.loop-node.node < length wanted = omega (arith, inside, length-own view.fetches c.args.ages.now) in
    taken_more wanted c.loop-node.own.items c.push.new.self.items c.loop-node.node c.own_age.result
    c.loop-node.invariant here
    (c.own_age.ensures ∙ sym (own-each view.fetches c.args.ages.now c.loop-node.node inside)) c.in_ok-push.ensures.items

pub returns : goal.returns
returns c =
    let view = c.args.view.now in
    let wanted = own_ages view.fetches c.args.ages.now in
    taken_all wanted c.loop-node.own.items c.loop-node.node c.loop-node.invariant (omega (
      arith,
      ap length c.nodes.ensures.same,
      ap length c.graph.ensures.same,
      c.loop-node-test.false,
      c.blocks-blocks.ensures.view.one_each,
      length-own view.fetches c.args.ages.now,
    ))
