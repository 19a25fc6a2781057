-- Younger sets and warm sets under other names of the blocks, by their places in a rising list.
use Rattle.std.proofs.Common.{◌≡◌, ℕ, ◌<◌, List, [], ◌∷◌, length, map, Contains, Option, Some, None, option_map, refl, sym, ap, ◌∙◌, inl, inr, arith, eq-eqb}
use Rattle.std.proofs.lemmas.Bool.{cases_eq, cases_order, ne_eqb}
use Rattle.std.proofs.lemmas.List.Elements.{Contains-append_right}
use Rattle.std.proofs.lemmas.List.Kept.{AllPairs-from_increasing}
use Rattle.std.specs.List.Sorted.{IsStrictlyIncreasing}
use Rattle.set_list.specs.Rising.{Contains-cons}
use Rattle.cache_spec.specs.declared.start.Start.{Start}
use Rattle.cache_spec.specs.declared.start.Start.TheVariants.{Empty, Any}
use Rattle.focus_spec.specs.Younger.{with_number, after, after_all, warm, named}
use Rattle.focus_spec.proofs.WithNumber.{with_number-below, with_number-first, with_number-above, Contains-with_number}

-- each number of the list is the place of a block
abbrev ArePlaces : List ℕ → List ℕ → Type 0
ArePlaces blocks set = (local : ℕ) → Contains set local → local < length blocks

-- a lower place has a lower block
named-lt : (blocks : List ℕ) (x y : ℕ) → IsStrictlyIncreasing blocks → x < y → y < length blocks
    → named blocks x < named blocks y
named-lt blocks x y up below inside = AllPairs-from_increasing blocks up x y 0 below inside

-- blocks differ where their places do
named-apart : (blocks : List ℕ) (x y : ℕ) → IsStrictlyIncreasing blocks → x < length blocks → y < length blocks
    → (x ≡ y → ⊥) → named blocks x ≡ named blocks y → ⊥
named-apart blocks x y up x_inside y_inside apart same = elim (cases_order x y) [
  | inl is ↦ apart is
  | inr other ↦ elim other [
    | inl below ↦ let lower = named-lt blocks x y up below y_inside in omega arith
    | inr above ↦ let lower = named-lt blocks y x up above x_inside in omega arith
  ]
]

-- a set with one more block is that of the places
map-with_number : (blocks : List ℕ) (x : ℕ) (set : List ℕ) → IsStrictlyIncreasing blocks → x < length blocks
    → ArePlaces blocks set
    → with_number (named blocks x) (map (named blocks) set) ≡ map (named blocks) (with_number x set)
map-with_number blocks x [] up inside places = refl
map-with_number blocks x (z ∷ zs) up inside places =
    let z_inside = places z ((Contains-cons z zs z).1 (inr refl)) in
    let later = λ (local : ℕ) (there : Contains zs local). places local
    (Contains-append_right (z ∷ []) zs local there) in
    elim (cases_order x z) [
      | inl same ↦
          with_number-first (named blocks x) (named blocks z) (map (named blocks) zs) (ap (named blocks) same)
          ∙ ap (map (named blocks)) (sym (with_number-first x z zs same))
      | inr other ↦ elim other [
        | inl below ↦
            with_number-below (named blocks x) (named blocks z) (map (named blocks) zs)
            (named-lt blocks x z up below z_inside)
            ∙ ap (map (named blocks)) (sym (with_number-below x z zs below))
        | inr above ↦
            with_number-above (named blocks x) (named blocks z) (map (named blocks) zs)
            (named-lt blocks z x up above inside)
            ∙ ap (λ s. named blocks z ∷ s) (map-with_number blocks x zs up inside later)
            ∙ ap (map (named blocks)) (sym (with_number-above x z zs above))
      ]
    ]

-- each fetched number is the place of a block
abbrev pub AreFetchedPlaces : List ℕ → List (Option ℕ) → Type 0
AreFetchedPlaces blocks fetches = (local : ℕ) → Contains fetches (Some local) → local < length blocks

-- so is each that was fetched earlier
places-tail : (blocks : List ℕ) (fetch : Option ℕ) (earlier : List (Option ℕ))
    → AreFetchedPlaces blocks (fetch ∷ earlier) → AreFetchedPlaces blocks earlier
places-tail blocks fetch earlier places local there =
    places local (Contains-append_right (fetch ∷ []) earlier (Some local) there)

-- so is the last one fetched
places-head : (blocks : List ℕ) (other : ℕ) (earlier : List (Option ℕ)) → AreFetchedPlaces blocks (Some other ∷ earlier)
    → other < length blocks
places-head blocks other earlier places = places other (0, omega arith, refl)

-- each number of the set, where there is one, is the place of a block
abbrev AreAllPlaces : List ℕ → Option (List ℕ) → Type 0
AreAllPlaces blocks None = Unit {0}
AreAllPlaces blocks (Some set) = ArePlaces blocks set

-- so it is with one more place
places-with_number : (blocks : List ℕ) (x : ℕ) (set : Option (List ℕ)) → x < length blocks → AreAllPlaces blocks set
    → AreAllPlaces blocks (option_map (with_number x) set)
places-with_number blocks x None inside places = tt
places-with_number blocks x (Some set) inside places =
    λ local there. elim ((Contains-with_number x set local).0 there) [
      | inl old ↦ places local old
      | inr is ↦ omega (arith, is)
    ]

-- so it is after one more fetch
places-after : (blocks : List ℕ) (block other : ℕ) (set : Option (List ℕ)) → other < length blocks
    → AreAllPlaces blocks set → AreAllPlaces blocks (after block (Some other) set)
places-after blocks block other set inside places = elim (cases_eq other block) [
  | inl same ↦ simp (eq-eqb other block same) (λ local there. absurd (omega (arith, there.1)))
  | inr apart ↦ simp (ne_eqb other block apart) (places-with_number blocks other set inside places)
]

-- the numbers of the set after these fetches are those of the first set and of fetched blocks
places-after_all : (blocks : List ℕ) (block : ℕ) (fetches : List (Option ℕ)) (first : Option (List ℕ))
    → AreFetchedPlaces blocks fetches → AreAllPlaces blocks first
    → AreAllPlaces blocks (after_all block fetches first)
places-after_all blocks block [] first places old = old
places-after_all blocks block (None ∷ earlier) first places old =
    places-after_all blocks block earlier first (places-tail blocks None earlier places) old
places-after_all blocks block (Some other ∷ earlier) first places old =
    places-after blocks block other (after_all block earlier first) (places-head blocks other earlier places)
    (places-after_all blocks block earlier first (places-tail blocks (Some other) earlier places) old)

-- one more number under other names
map-option : (blocks : List ℕ) (x : ℕ) (set : Option (List ℕ)) → IsStrictlyIncreasing blocks → x < length blocks
    → AreAllPlaces blocks set
    → option_map (with_number (named blocks x)) (option_map (map (named blocks)) set)
    ≡ option_map (map (named blocks)) (option_map (with_number x) set)
map-option blocks x None up inside places = refl
map-option blocks x (Some set) up inside places = ap (λ s. Some s) (map-with_number blocks x set up inside places)

-- after its own fetch the younger set of a block is empty
pub after-own : (block other : ℕ) (set : Option (List ℕ)) → other ≡ block → after block (Some other) set ≡ Some []
after-own block other set same = simp (eq-eqb other block same)

-- after another block's it has that block
pub after-other : (block other : ℕ) (set : Option (List ℕ)) → (other ≡ block → ⊥)
    → after block (Some other) set ≡ option_map (with_number other) set
after-other block other set apart = simp (ne_eqb other block apart)

-- one more fetch under other names
after-named : (blocks : List ℕ) (block other : ℕ) (set : Option (List ℕ)) → IsStrictlyIncreasing blocks
    → block < length blocks → other < length blocks → AreAllPlaces blocks set
    → after (named blocks block) (Some (named blocks other)) (option_map (map (named blocks)) set)
    ≡ option_map (map (named blocks)) (after block (Some other) set)
after-named blocks block other set up inside other_inside places =
    let known = option_map (map (named blocks)) set in
    elim (cases_eq other block) [
      | inl same ↦
          after-own (named blocks block) (named blocks other) known (ap (named blocks) same)
          ∙ ap (option_map (map (named blocks))) (sym (after-own block other set same))
      | inr apart ↦
          after-other (named blocks block) (named blocks other) known
          (named-apart blocks other block up other_inside inside apart)
          ∙ map-option blocks other set up other_inside places
          ∙ ap (option_map (map (named blocks))) (sym (after-other block other set apart))
    ]

-- the set after some fetches names the same blocks, whether they are given by themselves or by their places
after_all-named : (blocks : List ℕ) (block : ℕ) (fetches : List (Option ℕ)) (first : Option (List ℕ))
    → IsStrictlyIncreasing blocks → block < length blocks → AreFetchedPlaces blocks fetches → AreAllPlaces blocks first
    → after_all (named blocks block) (map (option_map (named blocks)) fetches) (option_map (map (named blocks)) first)
    ≡ option_map (map (named blocks)) (after_all block fetches first)
after_all-named blocks block [] first up inside places old = refl
after_all-named blocks block (None ∷ earlier) first up inside places old =
    after_all-named blocks block earlier first up inside (places-tail blocks None earlier places) old
after_all-named blocks block (Some other ∷ earlier) first up inside places old =
    let later = places-tail blocks (Some other) earlier places in
    ap (after (named blocks block) (Some (named blocks other)))
    (after_all-named blocks block earlier first up inside later old)
    ∙ after-named blocks block other (after_all block earlier first) up inside
    (places-head blocks other earlier places) (places-after_all blocks block earlier first later old)

-- so does a warm set
pub warm-named : (start : Start) (blocks : List ℕ) (block : ℕ) (fetches : List (Option ℕ))
    → IsStrictlyIncreasing blocks → block < length blocks → AreFetchedPlaces blocks fetches
    → warm start (named blocks block) (map (option_map (named blocks)) fetches)
    ≡ option_map (map (named blocks)) (warm start block fetches)
warm-named Empty blocks block fetches up inside places = after_all-named blocks block fetches None up inside places tt
warm-named Any blocks block fetches up inside places =
    after_all-named blocks block fetches (Some []) up inside places (λ local there. absurd (omega (arith, there.1)))
