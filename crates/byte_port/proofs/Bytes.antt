-- Bytes that go over one piece after another.
use Rattle.std.proofs.Common.{◌≡◌, ℕ, ◌+◌, ◌≤◌, List, ◌++◌, length, take, drop, subst, refl, arith, length-append, slice_range}
use Rattle.std.proofs.Math.Seq.{take-add}
use Rattle.std.proofs.lemmas.Grind.{common_steps}
use Rattle.std.proofs.KnownBytes.{Appends-trans, Consumes-trans}
use Rattle.std.specs.Io.KnownBytes.{Appends, Consumes}
use Rattle.std.specs.declared.option.Option.{Option}
use Rattle.byte_port.specs.Stream.{TakesAtMost}

-- a slice from `at` to the end is what is left after the first `at`
slice_range_to_end : (text : List ℕ) (at : ℕ) → slice_range text at (length text) ≡ drop at text
slice_range_to_end text at = grind (arith, common_steps)

-- after the first `at` bytes of a text come the next n
pub Appends-take : (a b c : Option (List ℕ)) (text : List ℕ) (at n : ℕ)
    → Appends a b (take at text) → Appends b c (take n (slice_range text at (length text)))
    → Appends a c (take (at + n) text)
Appends-take a b c text at n before next =
    let P : List ℕ → Type 0 = λ rest. Appends b c (take n rest) in
    rw (take-add at n text) (Appends-trans a b c (take at text) (take n (drop at text)) before
    (subst P (slice_range_to_end text at) next))

-- two pieces that were taken one after the other
pub TakesAtMost-two : (a b c : Option (List ℕ)) (first second : List ℕ) (most : ℕ)
    → Consumes a b first → Consumes b c second → length first + length second ≤ most → TakesAtMost a c most
TakesAtMost-two a b c first second most before next small = (
  length (first ++ second),
  rw length-append small,
  (first ++ second, refl, Consumes-trans a b c first second before next),
)
