-- A list that a loop makes in order.
use Rattle.std.proofs.Common.{◌≡◌, ℕ, ◌+◌, ◌<◌, ◌≤◌, List, [], ◌∷◌, ◌++◌, length, take, take_all, get_or, sym, ap, ◌∙◌}
use Rattle.std.proofs.lemmas.List.{take_more}

-- one number more
pub taken_more : (wanted made next : List ℕ) (i x : ℕ) → made ≡ take i wanted → i < length wanted
    → x ≡ get_or wanted i 0 → next ≡ made ++ x ∷ [] → next ≡ take (i + 1) wanted
taken_more wanted made next i x so_far inside here pushed =
    pushed
    ∙ (ap (λ (l : List ℕ). l ++ x ∷ []) so_far
    ∙ (ap (λ (y : ℕ). take i wanted ++ y ∷ []) here ∙ sym (take_more wanted i 0 inside)))

-- all of them at the end
pub taken_all : (wanted made : List ℕ) (i : ℕ) → made ≡ take i wanted → length wanted ≤ i → made ≡ wanted
taken_all wanted made i so_far all = so_far ∙ take_all i wanted all
