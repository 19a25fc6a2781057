use Rattle.std.proofs.Common.{◌≡◌, ℕ, ◌<◌, Option, List, [], get_or, length, ◌∙◌, subst}
use Rattle.std.proofs.lemmas.List.{get_or_read}
use Rattle.std.specs.List.{Contains}
use Rattle.focus_plain.specs.Entries.{IsIndex}
use Rattle.focus_plain.proofs.Reached.{above-more}
use Rattle.focus_plain.proofs.reach.is_above.Goals as goal

pub returns-then-has : goal.returns-then-has
returns-then-has c = λ passes.
    let set : List ℕ = get_or c.args.sets.now c.in-Some.index [] in
    let inside : c.in-Some.index < length c.args.sets.now =
    subst (λ (o : Option ℕ). IsIndex c.args.sets.now o) c.in-Some.is c.requires.index in
    let is : c.items.result.now ≡ set = c.items.ensures.value
    ∙ get_or_read c.args.sets.now c.in-Some.index c.index-sets-index.result inside c.index-sets-index.is [] in
    above-more c.args.sets.now c.args.younger c.args.reach c.in-Some.index c.in-Some-reach.reach c.in-Some-more.number
    c.in-Some.is c.in-Some-reach.is c.in-Some-more.is
    (subst (λ (s : List ℕ). Contains s c.in-Some-more.number) is (c.has.ensures.0 c.if-has.true))
    (c.is_above_set-then-has.ensures passes)
