use Rattle.std.proofs.Common.{◌≡◌, ℕ, List, [], ◌∷◌, ◌++◌, subst, arith}
use Rattle.frame_stacks.specs.declared.stacks.StackCell.{StackCell}
use Rattle.frame_stacks.specs.Stacks.{frames_of}
use Rattle.frame_stacks.proofs.Parted.{goes_further}
use Rattle.frame_stacks.proofs.stacks.Stacks.parting.Goals as goal

abbrev IsMadeBy : ℕ → StackCell → List StackCell → Type 0
IsMadeBy stack cell cells = frames_of cells stack ≡ frames_of cells cell.below ++ cell.frame ∷ []

pub loop-left-preserved-then-left-right : goal.loop-left-preserved-then-left-right
loop-left-preserved-then-left-right c =
    let now = c.loop-left.invariant in
    let made = subst (IsMadeBy c.loop-left.left c.cell-left.result) c.cells-cells.ensures.same
    c.cell-left.ensures.frames in
    record {
      first = goes_further c.args.self.now c.args.a c.loop-left.left c.loop-left.one c.cell-left.result now.first
          (omega arith) c.cell-left.ensures.below made;
      second = now.second;
      one_above = λ _. c.if-left-right.true;
      other_above = λ some. omega (arith, now.other_above some);
      apart = λ some same. omega (arith, now.other_above);
    }

pub loop-left-preserved : goal.loop-left-preserved
loop-left-preserved c =
    let now = c.loop-left.invariant in
    let made = subst (IsMadeBy c.loop-left.right c.cell-right.result) c.cells-cells.ensures.same
    c.cell-right.ensures.frames in
    record {
      first = now.first;
      second = goes_further c.args.self.now c.args.b c.loop-left.right c.loop-left.other c.cell-right.result now.second
          (omega arith) c.cell-right.ensures.below made;
      one_above = λ some. omega (arith, now.one_above some);
      other_above = λ _. omega arith;
      apart = λ some same. omega (arith, now.one_above some);
    }
