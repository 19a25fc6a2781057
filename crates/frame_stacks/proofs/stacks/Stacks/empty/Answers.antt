use Rattle.std.proofs.Common.{List, sym, subst}
use Rattle.frame_stacks.specs.declared.stacks.StackCell.{StackCell}
use Rattle.frame_stacks.specs.Numbers.{AreNumbered}
use Rattle.frame_stacks.proofs.Indexed.{numbered_empty}
use Rattle.frame_stacks.proofs.stacks.Stacks.empty.Goals as goal

pub invariant_of-result : goal.invariant_of-result
invariant_of-result c =
    let Numbered : List StackCell → Type 0 = λ cells. AreNumbered cells c.new-2.result in
    subst Numbered (sym c.new.ensures.items) (numbered_empty c.new-2.result c.new-2.ensures)
