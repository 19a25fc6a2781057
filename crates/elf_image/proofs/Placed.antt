-- A segment is placed before the first that doesn't begin below it.
use Rattle.std.proofs.Common.{◌≡◌, ℕ, ◌+◌, ◌≤◌, suc, inl, inr, Bool, true, false, Some, None, List, [], ◌∷◌, length, refl, sym, ap, ◌∙◌, cond, arith}
use Rattle.std.specs.Prelude.{nat_le, nat_lt, not}
use Rattle.std.specs.List.{insert, position, position_or_len}
use Rattle.std.proofs.lemmas.Bool.{cases_Bool, cond-true, ltb-false}
use Rattle.std.proofs.lemmas.List.Sums.{prefix_len-le-length}
use Rattle.std.proofs.lemmas.Option.{cond_some, none-some}
use Rattle.elf_spec.specs.declared.segment.Segment.{Segment}
use Rattle.elf_spec.specs.Image.{placed}

-- whether the next segment begins at or above it decides
place_by : (b : Bool) (s next : Segment) (later placed_later : List Segment) (n : ℕ) → placed_later ≡ insert later n s
    → cond b (s ∷ next ∷ later) (next ∷ placed_later) ≡ insert (next ∷ later) (cond (not b) (1 + n) 0) s
place_by true s next later placed_later n e = refl
place_by false s next later placed_later n e =
    let one : 1 + n ≡ suc n = omega arith in
    rw one (ap (λ l. next ∷ l) e)

placed_is : (s : Segment) (others : List Segment)
    → placed s others ≡ insert others (position_or_len (λ next. nat_le s.at next.at) others) s
placed_is s [] = refl
placed_is s (next ∷ others) = place_by (nat_le s.at next.at) s next others _ _ (placed_is s others)

-- its place is that of the first segment that begins at or above it
pub placed_at : (s : Segment) (others : List Segment) (place : ℕ)
    → Some place ≡ position (λ next. nat_le s.at next.at) others
    → placed s others ≡ insert others place s
placed_at s others place found =
    let at = cond_some (nat_lt (position_or_len (λ next. nat_le s.at next.at) others) (length others)) _ place
    (sym found) in
    placed_is s others ∙ ap (λ n. insert others n s) at.1

-- or the end, where there is none
pub placed_last : (s : Segment) (others : List Segment) → None ≡ position (λ next. nat_le s.at next.at) others
    → placed s others ≡ insert others (length others) s
placed_last s others none =
    let place = position_or_len (λ next. nat_le s.at next.at) others in
    let within : place ≤ length others = prefix_len-le-length (λ next. not (nat_le s.at next.at)) others in
    let end : place ≡ length others =
    elim (cases_Bool (nat_lt place (length others))) [
      | inl inside ↦ absurd (none-some place (none ∙ cond-true _ (Some place) None inside))
      | inr past ↦ (let h : length others ≤ place = ltb-false place (length others) past in omega arith)
    ] in
    placed_is s others ∙ ap (λ n. insert others n s) end
