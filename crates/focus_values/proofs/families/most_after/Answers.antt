use Rattle.std.proofs.Common.{List, ℕ, ◌<◌, length, Contains, refl, subst}
use Rattle.focus_values.proofs.Made.{made_most_after}
use Rattle.focus_values.proofs.families.most_after.Goals as goal

pub returns-then-not-are_small : goal.returns-then-not-are_small
returns-then-not-are_small c =
    let large = c.if-not-are_small.ensures.large refl in
    let grown = (c.in_ok-more.ensures.sets large.0).0
    (subst (λ (sets : List (List ℕ)). Contains sets large.0) c.sets.ensures.value large.1) in
    rw c.in-Some.is (grown.0, large.0, grown.1, grown.2, large.2)

pub returns : goal.returns
returns c =
    let small = subst (λ (sets : List (List ℕ)). (s : List ℕ) → Contains sets s → length s < c.args.ways)
    c.sets.ensures.value (c.if-not-are_small.ensures.small refl) in
    rw c.in-Some.is (made_most_after c.args.other c.args.ways _ c.in_ok-more.more c.in_ok-most_of.field-0
    c.in_ok-more.ensures.sets small c.in_ok-more.ensures.order.rising c.in_ok-most_of.ensures)
