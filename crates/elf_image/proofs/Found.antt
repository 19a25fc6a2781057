-- Of segments that rise, only the last that begins at or below an address can have the bytes from there on.
use Rattle.std.proofs.Common.{◌≡◌, ℕ, ◌+◌, ◌<◌, ◌≤◌, zero, suc, Bool, true, false, leb, Some, None, List, [], ◌∷◌, length, get_or, All, AllPairs, inl, inr, refl, sym, ap, subst, arith}
use Rattle.std.specs.Prelude.{find}
use Rattle.std.specs.List.Sorted.{IsNonDecreasingBy}
use Rattle.std.proofs.lemmas.Bool.{cases_eq, cases_lt, lt-leb, and_left, and_right}
use Rattle.std.proofs.lemmas.List.Elements.{All-head, All-tail}
use Rattle.elf_spec.specs.declared.segment.Segment.{Segment}
use Rattle.elf_spec.specs.Word.{has_bytes}
use Rattle.elf_image.specs.Fits.{EndsBefore}

-- nothing is found where no element passes
pub find_none : {X : Type 0} (p : X → Bool) (xs : List X) → All (λ x. p x ≡ false) xs → find p xs ≡ None
find_none p [] none = refl
find_none p (x ∷ xs) none =
    let first : p x ≡ false = All-head (λ y. p y ≡ false) x xs none in
    rw first (find_none p xs (All-tail (λ y. p y ≡ false) x xs none))

-- an element that passes is found where none before it does
pub find_here : {X : Type 0} (p : X → Bool) (xs : List X) (i : ℕ) (d : X) → i < length xs → p (get_or xs i d) ≡ true
    → ((k : ℕ) → k < i → p (get_or xs k d) ≡ false) → find p xs ≡ Some (get_or xs i d)
find_here p [] i d within here before = absurd (omega arith)
find_here p (x ∷ xs) zero d within here before = rw here refl
find_here p (x ∷ xs) (suc i) d within here before =
    let first : p x ≡ false = before 0 (omega arith) in
    rw first (find_here p xs i d (omega arith) here (λ k h. before (suc k) (omega arith)))

-- a segment that ends at or below an address has no bytes from there on
pub bytes_after : (size : ℕ) (s : Segment) (p : ℕ) → 0 < size → s.at + s.size ≤ p → has_bytes size p s ≡ false
bytes_after size s p some h = and_right (leb s.at p) _ (lt-leb _ _ (omega arith))

-- nor has one that begins above it
pub bytes_before : (size : ℕ) (s : Segment) (p : ℕ) → p < s.at → has_bytes size p s ≡ false
bytes_before size s p h = and_left _ (leb (p + size) (s.at + s.size)) (lt-leb _ _ h)

-- segments that rise begin in order, and end in order
pub rising_starts : (xs : List Segment) → AllPairs EndsBefore xs → IsNonDecreasingBy (λ s. s.at) xs
rising_starts xs rising = λ i j d le within. elim (cases_eq i j) [
  | inl same ↦ (let e : (get_or xs i d).at ≡ (get_or xs j d).at = ap (λ n. (get_or xs n d).at) same in omega arith)
  | inr other ↦ (let h : EndsBefore (get_or xs i d) (get_or xs j d) = rising i j d (omega arith) within in omega arith)
]

pub rising_ends : (xs : List Segment) → AllPairs EndsBefore xs → IsNonDecreasingBy (λ s. s.at + s.size) xs
rising_ends xs rising = λ i j d le within. elim (cases_eq i j) [
  | inl same ↦ (let e : (get_or xs i d).at + (get_or xs i d).size ≡ (get_or xs j d).at + (get_or xs j d).size = ap
      (λ n. (get_or xs n d).at + (get_or xs n d).size) same in omega arith)
  | inr other ↦ (let h : EndsBefore (get_or xs i d) (get_or xs j d) = rising i j d (omega arith) within in omega arith)
]

-- the last segment that begins at or below an address has the bytes from there on
pub found_last : (size : ℕ) (xs : List Segment) (p last : ℕ) (d : Segment) → 0 < size → AllPairs EndsBefore xs
    → last < length xs → (get_or xs last d).at ≤ p → has_bytes size p (get_or xs last d) ≡ true
    → find (has_bytes size p) xs ≡ Some (get_or xs last d)
found_last size xs p last d some rising within begun here =
    find_here (has_bytes size p) xs last d within here
    (λ k below.
    let h : EndsBefore (get_or xs k d) (get_or xs last d) = rising k last d below within in
    bytes_after size (get_or xs k d) p some (omega arith))

-- or it doesn't, and no segment has them
pub found_nowhere : (size : ℕ) (xs : List Segment) (p last : ℕ) → 0 < size → AllPairs EndsBefore xs → last < length xs
    → ((d : Segment) → (get_or xs last d).at ≤ p)
    → ((d : Segment) → has_bytes size p (get_or xs last d) ≡ false)
    → ((k : ℕ) (d : Segment) → last < k → k < length xs → p < (get_or xs k d).at)
    → find (has_bytes size p) xs ≡ None
found_nowhere size xs p last some rising within begun here above =
    find_none (has_bytes size p) xs
    (λ k d inside. elim (cases_lt k last) [
      | inl below ↦
          let h : EndsBefore (get_or xs k d) (get_or xs last d) = rising k last d below within in
          let b : (get_or xs last d).at ≤ p = begun d in
          bytes_after size (get_or xs k d) p some (omega arith)
      | inr at ↦ elim (cases_eq k last) [
        | inl same ↦ (let P : ℕ → Type 0 = λ n. has_bytes size p (get_or xs n d) ≡ false in subst P (sym same) (here d))
        | inr other ↦ bytes_before size (get_or xs k d) p (above k d (omega arith) inside)
      ]
    ])
