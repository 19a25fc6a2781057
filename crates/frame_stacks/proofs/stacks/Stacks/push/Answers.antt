use Rattle.std.proofs.Common.{◌≡◌, ℕ, ◌+◌, ◌≤◌, List, [], ◌∷◌, ◌++◌, length, sym, ap, ◌∙◌, subst, arith}
use Rattle.std.proofs.lemmas.List.{length_push}
use Rattle.std.proofs.lemmas.Grind.{common_steps}
use Rattle.frame_stacks.specs.declared.stacks.StackCell.{StackCell}
use Rattle.frame_stacks.specs.Stacks.{frames_of}
use Rattle.frame_stacks.specs.Numbers.{AreNumbered, Gives}
use Rattle.frame_stacks.proofs.Made.{frames_of-push}
use Rattle.frame_stacks.proofs.Indexed.{numbered_push, numbered_same, known_number, frames_of-push_last}
use Rattle.frame_stacks.proofs.stacks.Stacks.push.Goals as goal
use Rattle.frame_stacks.proofs.stacks.Stacks.push.Goals.{In-Some, In_ok-push, After-len-number}

-- the number that a cell has already is that of the stack that it makes
found : (c : In-Some) → let stacks = c.args.self.now in let number = c.in-Some.number in
    (number ≤ length stacks) × (frames_of stacks number ≡ frames_of stacks c.args.stack ++ c.args.frame ∷ [])
found c =
    let Makes : List StackCell → Type 0 = λ stacks. (c.in-Some.number ≤ length stacks)
    × (frames_of stacks c.in-Some.number ≡ frames_of stacks c.args.stack ++ c.args.frame ∷ []) in
    subst Makes c.self.view_is
    (known_number _ _ (record { below = c.args.stack; frame = c.args.frame }) c.in-Some.number c.self.invariant
    (sym c.get.ensures ∙ c.in-Some.is))

-- a new cell has the next number
is_next : (c : After-len-number) → c.len-number.result ≡ length c.self.inside.cells.items + 1
is_next c = omega (arith, ap length c.in_ok-push.ensures.items, length_push {X = StackCell})

-- the stack below is one of those kept
is_below : (c : In_ok-push) → c.args.stack ≤ length c.self.inside.cells.items
is_below c = omega (arith, ap length c.self.view_is)

pub returns-in-Some-clause-known : goal.returns-in-Some-clause-known
returns-in-Some-clause-known c = (found (goal.at.returns-in-Some-clause-known c).In-Some).0

pub returns-in-Some-clause-frames : goal.returns-in-Some-clause-frames
returns-in-Some-clause-frames c = (found (goal.at.returns-in-Some-clause-frames c).In-Some).1

pub invariant_of-self-in-Err : goal.invariant_of-self-in-Err
invariant_of-self-in-Err c =
    let back : c.self.inside.cells.items ≡ c.pop.new.self.items = grind (arith, common_steps) in
    let Numbered : List StackCell → Type 0 = λ cells. AreNumbered cells c.insert.new.self in
    subst Numbered back (numbered_same c.self.inside.cells.items c.self.inside.numbers c.insert.new.self
    c.self.invariant c.in-Err.ensures.err)

pub invariant_of-self-in_default-insert : goal.invariant_of-self-in_default-insert
invariant_of-self-in_default-insert c =
    let cell : StackCell = record { below = c.args.stack; frame = c.args.frame } in
    let GivesAt : ℕ → Type 0 = Gives c.self.inside.numbers c.insert.new.self cell in
    let Numbered : List StackCell → Type 0 = λ all. AreNumbered all c.insert.new.self in
    let kept = numbered_push _ _ _ cell c.self.invariant (sym c.get.ensures ∙ c.in_default.is)
    (is_below (goal.at.invariant_of-self-in_default-insert c).In_ok-push)
    (subst GivesAt (is_next (goal.at.invariant_of-self-in_default-insert c).After-len-number)
    c.in_default-insert.ensures.ok) in
    subst Numbered (sym c.in_ok-push.ensures.items) kept

pub returns-clause-frames : goal.returns-clause-frames
returns-clause-frames c =
    ap (frames_of c.push.new.self.items) (is_next (goal.at.returns-clause-frames c).After-len-number)
    ∙ ap (λ all. frames_of all (length c.self.inside.cells.items + 1)) c.in_ok-push.ensures.items
    ∙ frames_of-push_last _ _ (is_below (goal.at.returns-clause-frames c).In_ok-push)
    ∙ ap (λ all. frames_of all c.args.stack ++ c.args.frame ∷ []) c.self.view_is

pub returns-clause-kept : goal.returns-clause-kept
returns-clause-kept c =
    λ s inside.
    ap (λ all. frames_of all s) c.in_ok-push.ensures.items
    ∙ frames_of-push c.self.inside.cells.items _ s (omega (arith, ap length c.self.view_is))
    ∙ ap (λ all. frames_of all s) c.self.view_is
