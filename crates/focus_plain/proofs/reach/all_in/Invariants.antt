use Rattle.std.proofs.Common.{◌≡◌, ℕ, ◌<◌, ◌⊎◌, get_or, Some}
use Rattle.std.specs.List.{Contains}
use Rattle.focus_plain.proofs.reach.all_in.Given as goal

abbrev pub invariant-loop-number : goal.invariant-loop-number
invariant-loop-number l = (k : ℕ) → k < l.number-index → Contains l.others (get_or l.numbers k 0)
    ⊎ (l.more ≡ Some (get_or l.numbers k 0))
