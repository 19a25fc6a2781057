-- What one read leaves of a buffer, and what one write takes of a piece.
use Rattle.std.specs.Prelude.{◌≡◌, ℕ, ◌<◌, ◌≤◌, List, length, drop, Result, IfOk, MatchResult}

-- a read leaves the buffer past the bytes that it gave, and the whole of it where it failed
abbrev pub KeepsRest : {E : Type 0} → Result ℕ E → List ℕ → List ℕ → Type 0
KeepsRest result old new = MatchResult result (λ n. drop n new ≡ drop n old) (λ _. new ≡ old)

-- a write takes no more than the piece has, and at least one byte where it has one
abbrev pub TakesSome : {E : Type 0} → Result ℕ E → List ℕ → Type 0
TakesSome result piece = IfOk result (λ n. (n ≤ length piece) × (0 < length piece → 0 < n))
