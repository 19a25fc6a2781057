-- The executable segments of a file that passes the tests of its segments: they lie in the file and below the end of the
-- addresses, and are apart.
use Rattle.std.proofs.Common.{◌≡◌, ℕ, ◌+◌, ◌<◌, ◌≤◌, zero, suc, inl, inr, Bool, true, false, ◌&&◌, Option, Some, None, List, [], ◌∷◌, length, get_or, map, All, refl, sym, subst, ◌∙◌, cond, zero-add, arith}
use Rattle.std.specs.Prelude.{find, not, ◌==◌}
use Rattle.std.specs.List.{filter, range_with_len, list_any}
use Rattle.std.proofs.lemmas.Bool.{cond_both, and_parts, and_cases, and_from, ltb-false, eqb-false, false_from_ne_true, not-true, false≢true}
use Rattle.std.proofs.lemmas.List.{length-map}
use Rattle.std.proofs.lemmas.List.Elements.{All-nil, All-cons, All-filter, All-map, All-weaker, filter_passes}
use Rattle.std.proofs.lemmas.List.Folds.{list_any_at}
use Rattle.std.proofs.lemmas.List.FromFn.{length-range_with_len, get_or-range_with_len, length-map-range_with_len}
use Rattle.std.proofs.lemmas.Option.{none-some}
use Rattle.elf_spec.specs.declared.fault.ElfFault.{ElfFault}
use Rattle.elf_spec.specs.declared.fault.ElfFault.TheVariants.{SegmentOutside, SegmentWraps, SegmentsOverlap}
use Rattle.elf_spec.specs.declared.program_header.ProgramHeader.{ProgramHeader}
use Rattle.elf_spec.specs.Header.{header, e_phnum, is_executable, meets, meets_earlier, first_executable}
use Rattle.elf_spec.specs.Image.{segment_of, bytes_outside, addresses_wrap, executable_headers, fails_where, first_fault, in_order, segment_outside, segment_wraps, segments_overlap, no_text, other_header_size, too_many_headers, headers_cut}
use Rattle.elf_image.specs.Fits.{SegmentFits, Fits}
use Rattle.elf_image.specs.Tests.{table_tests, segment_tests}
use Rattle.elf_image.proofs.Faults.{parts, map-None}
use Rattle.elf_image.proofs.Kept.{segments_from}
use Rattle.elf_image.proofs.Rising.{IsApart, AreApart, IsFilled, in_order_all, in_order_pairs, length-in_order}

-- where nothing is found, the first element fails and nothing is found later
fails_on : {X : Type 0} (b : Bool) (x : X) (later : Option X) → cond b (Some x) later ≡ None
    → (b ≡ false) × (later ≡ None)
fails_on true x later none = absurd (none-some x (sym none))
fails_on false x later none = (refl, none)

-- where nothing is found, each element fails
all_fail : {X : Type 0} (p : X → Bool) (xs : List X) → find p xs ≡ None → All (λ x. p x ≡ false) xs
all_fail p [] none = All-nil (λ x. p x ≡ false)
all_fail p (x ∷ xs) none =
    let step = fails_on (p x) x (find p xs) none in
    All-cons (λ y. p y ≡ false) x xs step.0 (all_fail p xs step.1)

-- the numbers from 0 on, by index
number_at : (count i : ℕ) → i < count → get_or (range_with_len 0 count) i 0 ≡ i
number_at count i below = get_or-range_with_len 0 count i 0 below ∙ zero-add i

-- where no executable header has a property, each one lacks it
none_has : (file : List ℕ) (test : ℕ → Bool) → first_executable file test ≡ None → (i : ℕ) → i < e_phnum file
    → is_executable (header file i) ≡ true → test i ≡ false
none_has file test none i below is =
    let numbers = range_with_len 0 (e_phnum file) in
    let within : i < length numbers = rw length-range_with_len below in
    let fails = all_fail (λ i. is_executable (header file i) && test i) numbers none i 0 within in
    let P : ℕ → Type 0 = λ n. (is_executable (header file n) && test n) ≡ false in
    let here : (is_executable (header file i) && test i) ≡ false = subst P (number_at (e_phnum file) i below) fails in
    false_from_ne_true (test i) (λ holds. false≢true (sym here ∙ and_from _ _ is holds))

-- what holds of each executable header holds of those that are kept
kept_all : (P : ProgramHeader → Type 0) (file : List ℕ) (from count : ℕ)
    → ((i : ℕ) → from ≤ i → i < from + count → is_executable (header file i) ≡ true → P (header file i))
    → All P (filter is_executable (map (header file) (range_with_len from count)))
kept_all P file from count each =
    let headers = map (header file) (range_with_len from count) in
    let Q : ProgramHeader → Type 0 = λ h. is_executable h ≡ true → P h in
    let all : All Q headers =
    All-map Q (header file) (range_with_len from count)
    (λ k d inside.
    let below : k < count = rw length-range_with_len at inside in
    let At : ℕ → Type 0 = λ i. Q (header file i) in
    subst At (sym (get_or-range_with_len from count k d below)) (each (from + k) (omega arith) (omega arith))) in
    λ k d inside. All-filter is_executable Q headers all k d inside (filter_passes is_executable headers k d inside)

-- headers that are apart two by two
apart_from : (file : List ℕ) (count from : ℕ)
    → ((i j : ℕ) → from ≤ i → i < j → j < from + count → is_executable (header file i) ≡ true → is_executable
    (header file j) ≡ true → IsApart (segment_of (header file i)) (segment_of (header file j)))
    → AreApart (segments_from file from count)
apart_from file zero from apart = tt
apart_from file (suc count) from apart =
    let here = header file from in
    let rest = filter is_executable (map (header file) (range_with_len (from + 1) count)) in
    let later : AreApart (segments_from file (from + 1) count) =
    apart_from file count (from + 1) (λ i j low lt high is js. apart i j (omega arith) lt (omega arith) is js) in
    cond_both (is_executable here) (here ∷ rest) rest (λ headers. AreApart (map segment_of headers))
    (λ is. (
      All-map (IsApart (segment_of here)) segment_of rest
          (kept_all (λ h. IsApart (segment_of here) (segment_of h)) file (from + 1) count
          (λ j low high js. apart from j (omega arith) (omega arith) (omega arith) is js)),
      later,
    ))
    (λ other. later)

-- two headers that don't meet
apart_unmet : (h other : ProgramHeader) → meets h other ≡ false → IsApart (segment_of other) (segment_of h)
apart_unmet h other unmet =
    elim (and_cases _ _ unmet) [ inl before ↦ inl (ltb-false _ _ before) | inr beyond ↦ inr (ltb-false _ _ beyond) ]

-- where no header meets an earlier one, all are apart
all_apart : (file : List ℕ) → first_executable file (meets_earlier file) ≡ None
    → (i j : ℕ) → i < j → j < e_phnum file → is_executable (header file i) ≡ true → is_executable (header file j) ≡ true
    → IsApart (segment_of (header file i)) (segment_of (header file j))
all_apart file none i j lt below is js =
    let test : ℕ → Bool = λ n. is_executable (header file n) && meets (header file j) (header file n) in
    let within : i < length (range_with_len 0 j) = rw length-range_with_len lt in
    let At : ℕ → Type 0 = λ n. test n ≡ true in
    let unmet : list_any test (range_with_len 0 j) ≡ false = none_has file (meets_earlier file) none j below js in
    apart_unmet (header file j) (header file i)
    (false_from_ne_true _
    (λ met.
    let here : test (get_or (range_with_len 0 j) i 0) ≡ true =
    subst At (sym (number_at j i lt)) (and_from _ _ is met) in
    false≢true (sym unmet ∙ list_any_at test (range_with_len 0 j) i 0 within here)))

-- each executable header has bytes, lies in the file, and ends below the end of the addresses
each_fits : (file : List ℕ) → first_executable file (bytes_outside file) ≡ None
    → first_executable file (addresses_wrap file) ≡ None
    → (i : ℕ) → i < e_phnum file → is_executable (header file i) ≡ true
    → SegmentFits (length file) (segment_of (header file i))
each_fits file inside below i within is = record {
  some =
      let filled : not ((header file i).p_filesz == 0) ≡ true = (and_parts _ _ (and_parts _ _ is).1).1 in
      let other : (header file i).p_filesz ≡ 0 → ⊥ = eqb-false _ _ (not-true _ filled) in
      omega arith;
  inside = ltb-false _ _ (none_has file (bytes_outside file) inside i within is);
  below = ltb-false _ _ (none_has file (addresses_wrap file) below i within is);
}

-- a filter keeps no more than there are
filter_few : {X : Type 0} (p : X → Bool) (xs : List X) → length (filter p xs) ≤ length xs
filter_few p [] = omega arith
filter_few p (x ∷ xs) =
    let rest : length (filter p xs) ≤ length xs = filter_few p xs in
    cond_both (p x) (x ∷ filter p xs) (filter p xs) (λ kept. length kept ≤ length (x ∷ xs)) (λ e. omega arith)
    (λ e. omega arith)

-- a test that passes
passes : (holds : Bool) (fault : ElfFault) → fails_where holds fault ≡ None → holds ≡ false
passes true fault none = absurd (none-some fault (sym none))
passes false fault none = refl

-- what is kept of a file that passes the tests of its table and of its segments
pub kept_fits : (file : List ℕ) → length file ≤ 16777216 → first_fault (table_tests file) ≡ None
    → first_fault (segment_tests file) ≡ None
    → Fits file (in_order (map segment_of (executable_headers file)))
kept_fits file small table segments =
    let outside = parts (segment_outside file) (segment_wraps file ∷ segments_overlap file ∷ no_text file ∷ [])
    segments in
    let wraps = parts (segment_wraps file) (segments_overlap file ∷ no_text file ∷ []) outside.1 in
    let overlap = parts (segments_overlap file) (no_text file ∷ []) wraps.1 in
    let sizes = parts (other_header_size file) (too_many_headers file ∷ headers_cut file ∷ []) table in
    let many = parts (too_many_headers file) (headers_cut file ∷ []) sizes.1 in
    let count = e_phnum file in
    let kept = map segment_of (executable_headers file) in
    let each : All (SegmentFits (length file)) kept =
    All-map (SegmentFits (length file)) segment_of (executable_headers file)
    (kept_all (λ h. SegmentFits (length file) (segment_of h)) file 0 count
    (λ i low high is. each_fits file (map-None SegmentOutside _ outside.0) (map-None SegmentWraps _ wraps.0) i
    (omega arith) is)) in
    let apart : AreApart kept =
    apart_from file count 0 (λ i j low lt high is js. all_apart file (map-None SegmentsOverlap _ overlap.0) i j lt
    (omega arith) is js) in
    let few : e_phnum file ≤ 64 = ltb-false 64 (e_phnum file) (passes _ _ many.0) in
    let headers = map (header file) (range_with_len 0 count) in
    let filtered : length (executable_headers file) ≤ length headers = filter_few is_executable headers in
    let all : length headers ≡ count = length-map-range_with_len (header file) 0 count in
    record {
      each = in_order_all (SegmentFits (length file)) kept each;
      rising = in_order_pairs kept (All-weaker (SegmentFits (length file)) IsFilled (λ s fits. fits.some) kept each)
          apart;
      few = rw (length-in_order kept, length-map (executable_headers file) segment_of) (omega arith);
      small = small;
    }
