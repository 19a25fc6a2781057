use Rattle.std.proofs.Common.{◌≡◌, ℕ, ◌⊎◌, List, [], get_or, None, Some, sym, ◌∙◌, subst}
use Rattle.std.proofs.lemmas.List.{get_or_read}
use Rattle.std.specs.List.{Contains}
use Rattle.focus_plain.proofs.Reached.{within_alone}
use Rattle.focus_plain.proofs.reach.is_above_set.Goals as goal

pub returns : goal.returns
returns c = λ passes.
    let small : List ℕ = get_or c.args.sets.now c.args.reached [] in
    let large : List ℕ = get_or c.args.sets.now c.args.index [] in
    let small_is : c.items-numbers.result.now ≡ small =
    c.items-numbers.ensures.value ∙ get_or_read _ _ _ c.requires.reached c.index-sets-reached.is [] in
    let large_is : c.items.result.now ≡ large =
    c.items.ensures.value ∙ get_or_read _ _ _ c.requires.index c.index-sets-index.is [] in
    let all = c.all_in.ensures passes in
    within_alone small large (λ x there.
    subst (λ (s : List ℕ). Contains s x ⊎ (None ≡ Some x)) large_is
    (all x (subst (λ (s : List ℕ). Contains s x) (sym small_is) there)))
