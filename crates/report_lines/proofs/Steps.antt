-- Addresses that stand a step apart, and ranges of them.
use Rattle.std.proofs.Common.{◌≡◌, ℕ, zero, suc, ◌+◌, ◌-◌, ◌*◌, ◌/◌, ◌<◌, ◌≤◌, [], ◌∷◌, refl, ap, subst, sym, arith, inl, inr}
use Rattle.std.specs.Prelude.{Contains}
use Rattle.list_lemmas.proofs.Members.{has-first, has-later, has-cases}
use Rattle.riscv_spec.specs.declared.parcel.Isa.{Isa}
use Rattle.riscv_spec.specs.declared.parcel.Isa.TheVariants.{Rv32i, Rv32ic}
use Rattle.report_spec.specs.Inner.{step_of}
use Rattle.report_spec.specs.Report.{addresses_from, range_addresses}

-- the address n steps after another
abbrev pub after : ℕ → ℕ → ℕ → ℕ
after step first zero = first
after step first (suc n) = after step (first + step) n

-- an address a step apart from others is some steps after the first
pub address_place : (step first n x : ℕ) → Contains (addresses_from step first n) x
    → (i : ℕ) × (i < n) × (x ≡ after step first i)
address_place step first zero x (k, below, is) = absurd (omega (arith, below))
address_place step first (suc n) x has = elim (has-cases first x (addresses_from step (first + step) n) has) [
  | inl same ↦ (0, omega arith, same)
  | inr later ↦ let (i, below, at) = address_place step (first + step) n x later in (suc i, omega (arith, below), at)
]

-- each of these is there
pub address_among : (step first n k : ℕ) → k < n → Contains (addresses_from step first n) (after step first k)
address_among step first zero k below = absurd (omega (arith, below))
address_among step first (suc n) zero below = has-first first (addresses_from step (first + step) n)
address_among step first (suc n) (suc k) below =
    has-later first (after step (first + step) k) (addresses_from step (first + step) n)
    (address_among step (first + step) n k (omega (arith, below)))

-- steps lead on
pub after_least : (step first n : ℕ) → first ≤ after step first n
after_least step first zero = omega arith
after_least step first (suc n) = let later = after_least step (first + step) n in omega (arith, later)

-- there are bytes in a step
pub step_some : (isa : Isa) → 1 ≤ step_of isa
step_some Rv32i = omega arith
step_some Rv32ic = omega arith

-- steps of four bytes, and of two
pub words_after : (first n : ℕ) → after 4 first n ≡ first + 4 * n
words_after first zero = omega arith
words_after first (suc n) = let later = words_after (first + 4) n in omega (arith, later)

pub parcels_after : (first n : ℕ) → after 2 first n ≡ first + 2 * n
parcels_after first zero = omega arith
parcels_after first (suc n) = let later = parcels_after (first + 2) n in omega (arith, later)

-- the address that is n steps after the first has n steps before it
pub steps_before : (isa : Isa) (first n last : ℕ) → last ≡ after (step_of isa) first n
    → (last - first) / step_of isa ≡ n
steps_before Rv32i first n last is = omega (arith, is, words_after first n)
steps_before Rv32ic first n last is = omega (arith, is, parcels_after first n)

-- how many steps a range has
abbrev pub steps_in : Isa → ℕ → ℕ → ℕ
steps_in isa first last = (last - first) / step_of isa

-- its last address is that many steps after its first
pub range_end : (isa : Isa) (first last : ℕ) → Contains (range_addresses (step_of isa) first last) last
    → last ≡ after (step_of isa) first (steps_in isa first last)
range_end isa first last ends =
    let (i, below, at) = address_place (step_of isa) first (steps_in isa first last + 1) last ends in
    subst (λ (k : ℕ). last ≡ after (step_of isa) first k) (sym (steps_before isa first i last at)) at

-- it is its first address and those from the next one on
pub range_first : (isa : Isa) (first last : ℕ)
    → range_addresses (step_of isa) first last
    ≡ first ∷ addresses_from (step_of isa) (first + step_of isa) (steps_in isa first last)
range_first isa first last =
    let more : steps_in isa first last + 1 ≡ suc (steps_in isa first last) = omega arith in
    ap (λ k. addresses_from (step_of isa) first k) more

-- or the range from the next one on, where it doesn't end before
pub range_begins : (isa : Isa) (first last n : ℕ) → last ≡ after (step_of isa) (first + step_of isa) n
    → range_addresses (step_of isa) first last ≡ first ∷ range_addresses (step_of isa) (first + step_of isa) last
range_begins isa first last n is =
    let whole : steps_in isa first last ≡ suc n = steps_before isa first (suc n) last is in
    let left : steps_in isa (first + step_of isa) last ≡ n = steps_before isa (first + step_of isa) n last is in
    let more : steps_in isa first last + 1 ≡ suc (steps_in isa (first + step_of isa) last + 1) =
    rw (whole, left) (omega arith) in
    ap (λ k. addresses_from (step_of isa) first k) more

-- a range that ends where it begins is one address
pub range_alone : (isa : Isa) (first : ℕ) → range_addresses (step_of isa) first first ≡ first ∷ []
range_alone isa first =
    let none : steps_in isa first first ≡ 0 = steps_before isa first 0 first refl in
    let one : steps_in isa first first + 1 ≡ 1 = rw none refl in
    ap (λ k. addresses_from (step_of isa) first k) one
