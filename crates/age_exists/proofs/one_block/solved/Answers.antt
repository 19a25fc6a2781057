use Rattle.age_exists.specs.Seen.{seen_as}
use Rattle.age_exists.proofs.Attests.{attested_over}
use Rattle.age_exists.proofs.one_block.solved.Goals as goal

pub attested-requires : goal.attested-requires
attested-requires c =
    let own = c.requires.own in
    let found = c.in_ok-found.found in
    attested_over c.args.view.now c.blocks-blocks.ensures.view c.args.hits c.args.start c.args.own.now own.ages
    c.args.block own.same found.bounds.items (seen_as found.steps) c.in_ok-found.ensures c.requires.block own.sound
