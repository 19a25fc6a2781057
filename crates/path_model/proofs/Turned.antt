-- Paths first member first, turned round.
use Rattle.std.proofs.Common.{◌≡◌, ℕ, ◌+◌, ◌<◌, List, [], ◌∷◌, ◌++◌, length, take, drop, reverse, ap, sym, ◌∙◌, take-append-drop}
use Rattle.std.proofs.Math.ListN.{get_or}
use Rattle.std.proofs.lemmas.List.{take_more, reverse-append}

-- one member more stands first
pub reverse-more : {X : Type 0} (xs : List X) (i : ℕ) (d : X) → i < length xs
    → reverse (take (i + 1) xs) ≡ get_or xs i d ∷ reverse (take i xs)
reverse-more xs i d below =
    ap reverse (take_more xs i d below) ∙ reverse-append (take i xs) (get_or xs i d ∷ [])

-- the first i members stand last
pub reverse-split : {X : Type 0} (xs : List X) (i : ℕ) → reverse xs ≡ reverse (drop i xs) ++ reverse (take i xs)
reverse-split xs i = ap reverse (sym (take-append-drop i xs)) ∙ reverse-append (take i xs) (drop i xs)
