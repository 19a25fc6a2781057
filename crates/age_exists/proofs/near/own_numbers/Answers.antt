use Rattle.std.proofs.Common.{ℕ, ◌∷◌, [], ◌++◌, List, Option, Some, ap, sym, ◌∙◌, zero-add}
use Rattle.std.proofs.lemmas.List.FromFn.{map-range_with_len_more}
use Rattle.age_exists.proofs.near.own_numbers.Goals as goal

abbrev own : ℕ → Option ℕ
own n = Some n

pub loop-number-preserved : goal.loop-number-preserved
loop-number-preserved c =
    let n : ℕ = c.loop-number.number in
    c.in_ok-push.ensures.items
    ∙ (ap (λ (l : List (Option ℕ)). l ++ own n ∷ []) c.loop-number.invariant
    ∙ sym (map-range_with_len_more own 0 n n (zero-add n)))
