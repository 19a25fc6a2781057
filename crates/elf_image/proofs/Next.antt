-- The text of an image is where its segments have words, and the text of parcels where they have parcels.
use Rattle.std.proofs.Common.{◌≡◌, ℕ, ◌+◌, ◌-◌, ◌%◌, ◌^◌, ◌<◌, ◌*◌, ◌/◌, ◌≤◌, inl, inr, List, [], ◌∷◌, length, take, drop, get_or, All, AllPairs, refl, sym, ap, subst, ◌∙◌, leb-true, le-leb, eq-eqb, arith}
use Rattle.std.specs.Prelude.{Bool, true, false, ◌&&◌, ◌||◌, ◌==◌, Option, Some, None, is_some, option_map, find, min, max, if◌then◌else◌}
use Rattle.std.specs.List.{list_any, AllWithin}
use Rattle.std.proofs.lemmas.Bool.{and_parts, and_from, and_right, eqb-true, cases_eq, cases_lt, false≢true}
use Rattle.std.proofs.lemmas.List.{get_or-take, get_or-drop, get_or_default, length-take, length-drop}
use Rattle.std.proofs.lemmas.List.Folds.{list_any_none, list_any_at, Any-from_list_any}
use Rattle.std.proofs.lemmas.Grind.{div_ceil_times}
use Rattle.std.proofs.Math.Nat.{mul-mod_left}
use Rattle.elf_spec.specs.declared.segment.Segment.{Segment}
use Rattle.elf_spec.specs.Number.{u16_at, u32_at}
use Rattle.elf_spec.specs.Image.{Image}
use Rattle.elf_spec.specs.Parcel.{parcel_at, has_parcel, HasParcel, IsNextParcel}
use Rattle.elf_spec.specs.Word.{has_bytes, place_in, word_at, has_word, HasWord, IsNext, IsNextWord}
use Rattle.elf_image.specs.Among.{has_item, some_has_item, IsNextIn, IsNextAmong}
use Rattle.elf_image.specs.Fits.{EndsBefore, SegmentFits}
use Rattle.elf_image.proofs.Found.{bytes_after}
use Rattle.elf_image.proofs.Multiple.{least_multiple}

-- a test that agrees has the same least number
next_same : (f g : ℕ → Bool) (from : ℕ) (next : Option ℕ) → ((n : ℕ) → f n ≡ g n) → IsNext f from next
    → IsNext g from next
next_same f g from None same none = λ n above. sym (same n) ∙ none n above
next_same f g from (Some found) same is = (sym (same found) ∙ is.0, is.1, λ n above h. is.2 n above (same n ∙ h))

-- no segment has an item at an address that isn't a multiple of its size
found_none : (size : ℕ) (segments : List Segment) (p : ℕ)
    → list_any (λ s. false && has_bytes size p s) segments ≡ false
found_none size [] p = refl
found_none size (s ∷ segments) p = found_none size segments p

-- an item is found in the first segment that has it, or later
found_first : {V : Type 0} (f : Segment → V) (b r : Bool) (s : Segment) (later : Option Segment)
    → is_some (option_map f later) ≡ r → is_some (option_map f (if b then Some s else later)) ≡ (b || r)
found_first f true r s later h = refl
found_first f false r s later h = h

-- an item is found where some segment has it
found_any : {V : Type 0} (f : Segment → V) (size : ℕ) (segments : List Segment) (p : ℕ)
    → is_some (option_map f (find (has_bytes size p) segments)) ≡ list_any (λ s. true && has_bytes size p s) segments
found_any f size [] p = refl
found_any f size (s ∷ segments) p = found_first f (has_bytes size p s) _ s _ (found_any f size segments p)

-- both, by whether the address is a multiple of the size
found_by : {V : Type 0} (f : Segment → V) (t : Bool) (size : ℕ) (segments : List Segment) (p : ℕ)
    → list_any (λ s. t && has_bytes size p s) segments ≡ is_some
    (if t then option_map f (find (has_bytes size p) segments) else None)
found_by f true size segments p = sym (found_any f size segments p)
found_by f false size segments p = found_none size segments p

-- an address is in the text where some segment has a word there
text_is : (image : Image) (p : ℕ) → some_has_item 4 image.segments p ≡ has_word image p
unfolding word_at
text_is image p = found_by (λ s. u32_at image.file (s.offset + (p - s.at))) (p % 4 == 0) 4 image.segments p

-- and in the text of parcels where some segment has a parcel there
parcel_is : (image : Image) (p : ℕ) → some_has_item 2 image.segments p ≡ has_parcel image p
unfolding parcel_at
parcel_is image p = found_by (λ s. u16_at image.file (place_in s p)) (p % 2 == 0) 2 image.segments p

-- the next word among the segments is the next of the text
pub next_text : (image : Image) (from : ℕ) (next : Option ℕ) → IsNextAmong 4 image.segments from next
    → IsNextWord image from next
next_text image from next is = next_same (some_has_item 4 image.segments) (has_word image) from next (text_is image) is

-- and the next parcel the next of the text of parcels
pub next_parcel : (image : Image) (from : ℕ) (next : Option ℕ) → IsNextAmong 2 image.segments from next
    → IsNextParcel image from next
next_parcel image from next is =
    next_same (some_has_item 2 image.segments) (has_parcel image) from next (parcel_is image) is

-- an item of a segment begins in it, and ends in it
item_above : (size : ℕ) (s : Segment) (p : ℕ) → has_item size s p ≡ true → s.at ≤ p
item_above size s p has = leb-true _ _ (and_parts _ _ (and_parts _ _ has).1).0

item_inside : (size : ℕ) (s : Segment) (p : ℕ) → has_item size s p ≡ true → p + size ≤ s.at + s.size
item_inside size s p has = leb-true _ _ (and_parts _ _ (and_parts _ _ has).1).1

-- the items lie below the end of the addresses
items_below : (size : ℕ) (image : Image) (p : ℕ) → All (SegmentFits (length image.file)) image.segments
    → some_has_item size image.segments p ≡ true → p + size ≤ 2 ^ 32
items_below size image p each has =
    let some = Any-from_list_any (λ s. has_item size s p) image.segments has in
    let fits = each some.0 some.1 some.2 in
    let P : Segment → Type 0 = λ s. has_item size s p ≡ true in
    let there = subst P (sym some.3) some.4 in
    let inside = item_inside size (get_or image.segments some.0 some.1) p there in
    omega (arith, inside, fits.below)

-- so do the words of the text
pub text_below : (image : Image) (p : ℕ) → All (SegmentFits (length image.file)) image.segments → HasWord image p
    → p + 4 ≤ 2 ^ 32
text_below image p each has = items_below 4 image p each (text_is image p ∙ has)

-- and the parcels
pub parcel_below : (image : Image) (p : ℕ) → All (SegmentFits (length image.file)) image.segments → HasParcel image p
    → p + 2 ≤ 2 ^ 32
parcel_below image p each has = items_below 2 image p each (parcel_is image p ∙ has)

-- the next item of the first segment that has one is the next of all that rise
next_here : (size : ℕ) (xs : List Segment) (p i w : ℕ) (d : Segment) → AllPairs EndsBefore xs → i < length xs
    → IsNextIn size (get_or xs i d) p (Some w)
    → ((k : ℕ) → k < i → IsNextIn size (get_or xs k d) p None) → IsNextAmong size xs p (Some w)
next_here size xs p i w d rising within next before = (
  list_any_at (λ s. has_item size s w) xs i d within next.0,
  next.1,
  λ n above has.
      let some = Any-from_list_any (λ s. has_item size s n) xs has in
      let k = some.0 in
      let P : Segment → Type 0 = λ s. has_item size s n ≡ true in
      let there : has_item size (get_or xs k d) n ≡ true =
      subst P (sym some.3 ∙ get_or_default xs k some.1 d some.2) some.4 in
      elim (cases_lt k i) [
        | inl lower ↦ absurd (false≢true (sym (before k lower n above) ∙ there))
        | inr at ↦ elim (cases_eq k i) [
          | inl same ↦ (let Q : ℕ → Type 0 = λ m. has_item size (get_or xs m d) n ≡ true in next.2 n above
              (subst Q same there))
          | inr other ↦
              let beyond : EndsBefore (get_or xs i d) (get_or xs k d) = rising i k d (omega arith) some.2 in
              let end : w + size ≤ (get_or xs i d).at + (get_or xs i d).size =
              item_inside size (get_or xs i d) w next.0 in
              let start : (get_or xs k d).at ≤ n = item_above size (get_or xs k d) n there in
              omega arith
        ]
      ],
)

-- the multiple that rounding up gives is the next item of a segment that has its bytes
pub rounded_next : (size quotient a p : ℕ) (s : Segment) → 0 < size → a ≡ max s.at p
    → quotient ≡ a / size + min 1 (a % size)
    → quotient * size + size ≤ s.at + s.size → IsNextIn size s p (Some (quotient * size))
rounded_next size quotient a p s some greater is fits =
    let above : a ≤ quotient * size = rw is (div_ceil_times a size some).0 in
    let begun : s.at ≤ quotient * size = omega arith in (
      and_from _ _ (eq-eqb _ _ (mul-mod_left quotient size)) (and_from _ _ (le-leb _ _ begun) (le-leb _ _ fits)),
      omega arith,
      λ n from has.
          let whole : n % size ≡ 0 = eqb-true _ _ (and_parts _ _ has).0 in
          let after : s.at ≤ n = item_above size s n has in
          rw is (least_multiple a size n some whole (omega arith)),
    )

-- a segment that ends at or below an address has no item from there on
none_after : (size : ℕ) (s : Segment) (p : ℕ) → 0 < size → s.at + s.size ≤ p → IsNextIn size s p None
none_after size s p some ended = λ n above. and_right _ _ (bytes_after size s n some (omega arith))

-- the items of a list after the first ones, by index
at_place : (xs items : List Segment) (first k : ℕ) (d : Segment) → items ≡ drop first xs → first ≤ k
    → get_or items (k - first) d ≡ get_or xs k d
at_place xs items first k d beyond at =
    let back : first + (k - first) ≡ k = omega arith in
    ap (λ l. get_or l (k - first) d) beyond ∙ get_or-drop first xs (k - first) d ∙ ap (λ m. get_or xs m d) back

-- no segment has an item where the first ones have ended and some after them, the first of a list, have none
none_before : (size : ℕ) (xs items : List Segment) (p first count k : ℕ) (d : Segment) → 0 < size
    → AllWithin (λ s. s.at + s.size ≤ p) xs 0 first → items ≡ drop first xs
    → All (λ s. IsNextIn size s p None) (take count items) → k < first + count → k < length xs
    → IsNextIn size (get_or xs k d) p None
none_before size xs items p first count k d some ended beyond none below within =
    elim (cases_lt k first) [
      | inl lower ↦ none_after size (get_or xs k d) p some (ended k d (omega arith) lower)
      | inr at ↦
          let P : Segment → Type 0 = λ s. IsNextIn size s p None in
          let long : length items ≡ length xs - first = ap length beyond ∙ length-drop first xs in
          let inside : k - first < length (take count items) = rw length-take (omega arith) in
          let same : get_or (take count items) (k - first) d ≡ get_or xs k d =
          get_or-take count items (k - first) d (omega arith) ∙ at_place xs items first k d beyond at in
          subst P same (none (k - first) d inside)
    ]

-- the item that a walk over the segments after the first ones finds first
pub next_found : (size : ℕ) (xs items : List Segment) (p first index w : ℕ) (d : Segment) → 0 < size
    → AllPairs EndsBefore xs → AllWithin (λ s. s.at + s.size ≤ p) xs 0 first → items ≡ drop first xs
    → index < length items → All (λ s. IsNextIn size s p None) (take index items)
    → IsNextIn size (get_or items index d) p (Some w) → IsNextAmong size xs p (Some w)
next_found size xs items p first index w d some rising ended beyond inside none here =
    let P : Segment → Type 0 = λ s. IsNextIn size s p (Some w) in
    let long : length items ≡ length xs - first = ap length beyond ∙ length-drop first xs in
    let within : first + index < length xs = omega arith in
    let back : first + index - first ≡ index = omega arith in
    let same : get_or items index d ≡ get_or xs (first + index) d =
    ap (λ m. get_or items m d) (sym back) ∙ at_place xs items first (first + index) d beyond (omega arith) in
    next_here size xs p (first + index) w d rising within (subst P same here)
    (λ k lower. none_before size xs items p first index k d some ended beyond none lower (omega arith))

-- or that it finds none
pub next_nowhere : (size : ℕ) (xs items : List Segment) (p first count : ℕ) → 0 < size
    → AllWithin (λ s. s.at + s.size ≤ p) xs 0 first → items ≡ drop first xs → length items ≤ count
    → All (λ s. IsNextIn size s p None) (take count items) → IsNextAmong size xs p None
next_nowhere size xs items p first count some ended beyond all none = λ n above.
    let long : length items ≡ length xs - first = ap length beyond ∙ length-drop first xs in
    list_any_none (λ s. has_item size s n) xs
    (λ k d within. none_before size xs items p first count k d some ended beyond none (omega arith) within n above)
