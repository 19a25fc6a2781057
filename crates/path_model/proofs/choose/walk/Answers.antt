use Rattle.std.proofs.Common.{◌≡◌, ℕ, ◌+◌, ◌<◌, List, [], ◌∷◌, length, reverse, ap, sym, ◌∙◌, subst, arith}
use Rattle.std.specs.Prelude.{slice_get}
use Rattle.std.proofs.lemmas.List.{reverse-append, length-reverse}
use Rattle.path_model.specs.Follow.{next_to}
use Rattle.path_model.proofs.Walked.{IsWalked, walked_none, walked_more, stuck, left_over}
use Rattle.path_model.proofs.choose.walk.Goals as goal

pub loop-to-init : goal.loop-to-init
loop-to-init c = walked_none c.args.nodes.now c.args.steps c.args.choices.now (reverse c.args.path.items)
    c.requires.some (ap reverse c.requires.begun)

pub returns-in_default-clause-none : goal.returns-in_default-clause-none
returns-in_default-clause-none c =
    let more : length (reverse c.loop-to.path.items) < c.args.steps =
    omega (arith, length-reverse c.loop-to.path.items, c.len.ensures, c.loop-to-test.true) in
    stuck c.args.nodes.now c.args.steps c.args.choices.now (reverse c.loop-to.path.items) c.loop-to.last c.loop-to.used
    c.requires.graph c.loop-to.invariant more
    (ap (λ o. next_to (slice_get c.args.nodes.now c.loop-to.last) o) (sym c.choice_at.ensures) ∙ sym c.next.ensures
    ∙ c.in_default.is)

pub loop-to-preserved : goal.loop-to-preserved
loop-to-preserved c =
    let more : length (reverse c.loop-to.path.items) < c.args.steps =
    omega (arith, length-reverse c.loop-to.path.items, c.len.ensures, c.loop-to-test.true) in
    let walked = walked_more c.args.nodes.now c.args.steps c.args.choices.now (reverse c.loop-to.path.items)
    c.loop-to.last c.loop-to.used c.in-Some.to c.in-Some.letters c.requires.graph c.loop-to.invariant more
    (ap (λ o. next_to (slice_get c.args.nodes.now c.loop-to.last) o) (sym c.choice_at.ensures) ∙ sym c.next.ensures
    ∙ c.in-Some.is) in
    let pushed : reverse c.push.new.self.items ≡ c.in-Some.to ∷ reverse c.loop-to.path.items =
    ap reverse c.in_ok-push.ensures.items ∙ reverse-append c.loop-to.path.items (c.in-Some.to ∷ []) in
    let P : List ℕ → Type 0 = λ members. IsWalked c.args.nodes.now c.args.steps c.args.choices.now members c.in-Some.to
    (c.loop-to.used + c.in-Some.letters) in
    subst P (sym pushed) walked

pub returns-then-used-choices-clause-none : goal.returns-then-used-choices-clause-none
returns-then-used-choices-clause-none c =
    left_over c.args.nodes.now c.args.steps c.args.choices.now (reverse c.loop-to.path.items) c.loop-to.last
    c.loop-to.used c.requires.graph c.loop-to.invariant
    (omega (arith, length-reverse c.loop-to.path.items, c.len.ensures, c.loop-to-test.false))
    (omega (arith, c.if-used-choices.true))
