-- The younger sets and the warm sets that stand in the recency list of a set.
use Rattle.std.proofs.Common.{◌≡◌, ◌↔◌, ℕ, ◌+◌, true, false, IsTrue, IsFalse, cond, ◌||◌, ◌==◌, nat_eq, nat_lt, List, [], get_or, ◌∷◌, length, take, map, Contains, Option, Some, None, option_map, refl, sym, ap, subst, ◌∙◌, inl, inr, arith, eq-eqb, eqb-true}
use Rattle.std.proofs.lemmas.Bool.{cases_eq, cases_order, ne_eqb, cases_Bool, both_ways}
use Rattle.std.proofs.lemmas.Bool.Decides.{nat_tests}
use Rattle.std.proofs.lemmas.Map.Views.{Contains-from_any}
use Rattle.std.proofs.lemmas.List.Folds.{list_any_at}
use Rattle.std.specs.List.Sorted.{IsStrictlyIncreasing}
use Rattle.cache_spec.specs.declared.start.Start.{Start}
use Rattle.cache_spec.specs.declared.start.Start.TheVariants.{Empty, Any}
use Rattle.cache_spec.specs.Contents.{contents}
use Rattle.cache_spec.specs.Geometry.{Geometry, block_of, set_of}
use Rattle.cache_spec.specs.Lru.{is_in}
use Rattle.cache_spec.specs.Distinct.{AreDistinct}
use Rattle.cache_spec.specs.Blocks.{block_in}
use Rattle.cache_spec.specs.Start.{CanEnd}
use Rattle.cache_spec.proofs.Distinct.{others, is_in-others, fetched-distinct}
use Rattle.cache_spec.proofs.Others.{length-others}
use Rattle.cache_spec.proofs.Stack.{stack, contents-stack}
use Rattle.cache_spec.proofs.Starts.{may_hold-none, can_hit-any, can_end-empty, can_miss}
use Rattle.path_model.specs.Best.{best_list}
use Rattle.focus_spec.specs.Younger.{with_number, after, after_all, younger, first_warm, warm, is_small}
use Rattle.set_list.specs.RisingSets.{rising-empty}
use Rattle.focus_spec.proofs.WithNumber.{with_number-below, with_number-first, with_number-above, rising-with_number, with_number-present, length-with_number}
use Rattle.focus_spec.proofs.Recency.{before, before-first, is_in-before, before-others}

-- a rising list and a list without repeats of the same numbers
pub record HasSame (set blocks : List ℕ) : Type 0 where
  pub rising : IsStrictlyIncreasing set
  pub distinct : AreDistinct blocks
  pub long : length set ≡ length blocks
  pub members : (block : ℕ) → is_in set block ≡ is_in blocks block

-- two empty lists
same-none : HasSame [] []
same-none = record { rising = rising-empty; distinct = tt; long = refl; members = λ _. refl }

-- which numbers are in a list with one more
is_in-with_number : (x y : ℕ) (set : List ℕ) → is_in (with_number x set) y ≡ (y == x || is_in set y)
is_in-with_number x y [] = refl
is_in-with_number x y (z ∷ zs) = elim (cases_order x z) [
  | inl same ↦ let e = with_number-first x z zs same in grind (arith, nat_tests)
  | inr other ↦ elim other [
    | inl below ↦ rw (with_number-below x z zs below) refl
    | inr above ↦ let e = with_number-above x z zs above in let more =
        is_in-with_number x y zs in grind (arith, nat_tests)
  ]
]

-- a number that is in a list stands in it
there_from_test : (set : List ℕ) (block : ℕ) → is_in set block ≡ true → Contains set block
there_from_test set block passes = Contains-from_any {eq = nat_eq} eqb-true block set passes

-- a number that is not in a list stands nowhere in it
absent_from_test : (set : List ℕ) (block : ℕ) → is_in set block ≡ false → Contains set block → ⊥
absent_from_test set block fails there =
    let same = eq-eqb block (get_or set there.0 block) (sym there.2) in
    both_ways (is_in set block) fails (list_any_at (nat_eq block) set there.0 block there.1 same)

-- how many numbers a set has with one more, and a list after its fetch
long-with_number : (other : ℕ) (set blocks : List ℕ) → HasSame set blocks
    → length (with_number other set) ≡ length (other ∷ others blocks other)
long-with_number other set blocks same =
    let rest = length-others other blocks same.distinct in
    elim (cases_Bool (is_in blocks other)) [
      | inl old ↦
          let there = there_from_test set other (same.members other ∙ old) in
          let unchanged = ap length (with_number-present other set same.rising there) in
          let left : length (others blocks other) + 1 ≡ length blocks =
          ap (λ b. length (others blocks other) + cond b 1 0) (sym old) ∙ rest in
          omega (arith, unchanged, left, same.long)
      | inr new ↦
          let longer = length-with_number other set (absent_from_test set other (same.members other ∙ new)) in
          let left : length (others blocks other) + 0 ≡ length blocks =
          ap (λ b. length (others blocks other) + cond b 1 0) (sym new) ∙ rest in
          omega (arith, longer, left, same.long)
    ]

-- a rising list with a block has the same numbers as the list after the fetch of the block
HasSame-with : (other : ℕ) (set blocks : List ℕ) → HasSame set blocks
    → HasSame (with_number other set) (other ∷ others blocks other)
HasSame-with other set blocks same = record {
  rising = rising-with_number other set same.rising;
  distinct = fetched-distinct other blocks same.distinct;
  long = long-with_number other set blocks same;
  members = λ block. grind (
    arith,
    nat_tests,
    is_in-with_number other block set,
    is_in-others other block blocks,
    same.members block,
  );
}

-- neither is there, or both are and have the same numbers
abbrev pub AreSame : Option (List ℕ) → Option (List ℕ) → Type 0
AreSame None None = Unit {0}
AreSame None (Some blocks) = ⊥
AreSame (Some set) None = ⊥
AreSame (Some set) (Some blocks) = HasSame set blocks

-- the younger set after the fetch of another block, and the blocks that stand before then
AreSame-with : (other : ℕ) (set blocks : Option (List ℕ)) → AreSame set blocks
    → AreSame (option_map (with_number other) set) (option_map (λ s. other ∷ s)
    (option_map (λ s. others s other) blocks))
AreSame-with other None None same = tt
AreSame-with other None (Some blocks) same = same
AreSame-with other (Some set) None same = same
AreSame-with other (Some set) (Some blocks) same = HasSame-with other set blocks same

-- the younger set after one more fetch
AreSame-after : (block other : ℕ) (set : Option (List ℕ)) (blocks : List ℕ) → AreSame set (before block blocks)
    → AreSame (after block (Some other) set) (before block (other ∷ others blocks other))
AreSame-after block other set blocks same = elim (cases_eq other block) [
  | inl is ↦
      let at = eq-eqb other block is in
      simp at same-none
  | inr apart ↦
      let unlike = ne_eqb other block apart in
      simp (unlike, before-others block other blocks apart) (AreSame-with other set (before block blocks) same)
]

-- after some fetches the set of a block has the blocks that stand before it, where the first set did
pub same-after_all : (block : ℕ) (held : List ℕ) (first : Option (List ℕ)) (fetches : List (Option ℕ))
    → AreSame first (before block held) → AreSame (after_all block fetches first) (before block (stack held fetches))
same-after_all block held first [] same = same
same-after_all block held first (None ∷ earlier) same = same-after_all block held first earlier same
same-after_all block held first (Some other ∷ earlier) same =
    AreSame-after block other (after_all block earlier first) (stack held earlier)
    (same-after_all block held first earlier same)

-- no block stands before one that is held alone
pub same-warm : (start : Start) (block : ℕ) → AreSame (first_warm start) (before block (best_list start block))
same-warm Empty block = tt
same-warm Any block =
    let first = before-first block block [] (eq-eqb block block refl) in
    subst (AreSame (Some [])) (sym first) same-none

-- lists of the same numbers are both small or both not
small-same : (ways : ℕ) (set blocks : Option (List ℕ)) → AreSame set blocks → is_small ways blocks ≡ is_small ways set
small-same ways None None same = refl
small-same ways None (Some blocks) same = absurd same
small-same ways (Some set) None same = absurd same
small-same ways (Some set) (Some blocks) same = ap (λ n. nat_lt n ways) (sym same.long)

-- a block is among the first of the list exactly where its set is small
is_in-stack : (ways block : ℕ) (held : List ℕ) (first : Option (List ℕ)) (fetches : List (Option ℕ))
    → AreSame first (before block held)
    → is_in (take ways (stack held fetches)) block ≡ is_small ways (after_all block fetches first)
is_in-stack ways block held first fetches same =
    is_in-before ways block (stack held fetches)
    ∙ small-same ways (after_all block fetches first) (before block (stack held fetches))
    (same-after_all block held first fetches same)

-- a block is kept exactly where its younger set is small
pub is_in-contents : (g : Geometry) (block set : ℕ) (addresses : List ℕ)
    → is_in (contents g set [] addresses) block ≡ is_small g.ways (younger block (map (block_in g set) addresses))
is_in-contents g block set addresses =
    ap (λ s. is_in s block) (contents-stack g set [] addresses (may_hold-none g set))
    ∙ is_in-stack g.ways block [] None (map (block_in g set) addresses) tt

-- what these addresses fetch of the set of another one's block
abbrev pub fetches_in : Geometry → ℕ → List ℕ → List (Option ℕ)
fetches_in g address addresses = map (block_in g (set_of g (block_of g address))) addresses

-- a fetch can hit exactly where the warm set of its block is small
pub can_hit-warm : (g : Geometry) (start : Start) (address : ℕ) (earlier : List ℕ)
    → CanEnd g start (address ∷ earlier) true
    ↔ IsTrue (is_small g.ways (warm start (block_of g address) (fetches_in g address earlier)))
can_hit-warm g Empty address earlier =
    let block = block_of g address in
    let same = is_in-contents g block (set_of g block) earlier in
    let can = can_end-empty g (address ∷ earlier) true in
    (λ hits. sym same ∙ can.0 hits, λ small. can.1 (same ∙ small))
can_hit-warm g Any address earlier =
    let block = block_of g address in
    let fetches = map (block_in g (set_of g block)) earlier in
    let same = is_in-stack g.ways block (best_list Any block) (first_warm Any) fetches (same-warm Any block) in
    let can = can_hit-any g address earlier in
    (λ hits. sym same ∙ can.0 hits, λ small. can.1 (same ∙ small))

-- a fetch can miss exactly where the younger set of its block isn't small
pub can_miss-younger : (g : Geometry) (start : Start) (address : ℕ) (earlier : List ℕ)
    → CanEnd g start (address ∷ earlier) false
    ↔ IsFalse (is_small g.ways (younger (block_of g address) (fetches_in g address earlier)))
can_miss-younger g start address earlier =
    let block = block_of g address in
    let same = is_in-contents g block (set_of g block) earlier in
    let can = can_miss g start (address ∷ earlier) in
    (λ misses. sym same ∙ can.0 misses, λ large. can.1 (same ∙ large))

-- a set that has the same numbers as some blocks rises
rising_from_same : (set : List ℕ) (blocks : Option (List ℕ)) → AreSame (Some set) blocks → IsStrictlyIncreasing set
rising_from_same set None same = absurd same
rising_from_same set (Some blocks) same = same.rising

-- a warm set rises
pub rising-warm : (start : Start) (block : ℕ) (fetches : List (Option ℕ)) (set : List ℕ)
    → warm start block fetches ≡ Some set → IsStrictlyIncreasing set
rising-warm start block fetches set is =
    let standing = before block (stack (best_list start block) fetches) in
    rising_from_same set standing (subst (λ (o : Option (List ℕ)). AreSame o standing) is
    (same-after_all block (best_list start block) (first_warm start) fetches (same-warm start block)))
