-- What the list that a set starts with changes of a hit.
use Rattle.std.proofs.Common.{◌≡◌, ℕ, zero, suc, ◌≤◌, true, false, ◌↔◌, ◌⊎◌, Bool, IsTrue, IsFalse, Contains, List, [], ◌∷◌, ◌++◌, take, map, Option, Some, None, refl, ap, sym, subst, ◌∙◌, inl, inr, arith}
use Rattle.std.proofs.lemmas.Grind.{common_steps}
use Rattle.std.proofs.lemmas.Bool.{cases_Bool, both_ways}
use Rattle.std.proofs.lemmas.Bool.Decides.{nat_tests}
use Rattle.cache_spec.specs.Contents.{contents, ends_in_hit, ends_in_hit_from}
use Rattle.cache_spec.specs.Geometry.{Geometry, block_of, set_of}
use Rattle.cache_spec.specs.Lru.{is_in}
use Rattle.cache_spec.specs.Blocks.{block_in}
use Rattle.cache_spec.specs.declared.start.Start.{Start}
use Rattle.cache_spec.specs.declared.start.Start.TheVariants.{Empty, Any}
use Rattle.cache_spec.specs.Start.{MayHold, IsStartList, CanEnd}
use Rattle.cache_spec.proofs.Distinct.{is_in-others}
use Rattle.cache_spec.proofs.Stack.{stack, contents-stack, unfetched, stack-held}

-- a block among the first n of a list is among the first n of a longer one
in-longer : (n block : ℕ) (blocks more : List ℕ) → IsTrue (is_in (take n blocks) block)
    → IsTrue (is_in (take n (blocks ++ more)) block)
in-longer zero block blocks more there = grind (arith, nat_tests)
in-longer (suc n) block [] more there = grind (arith, nat_tests)
in-longer (suc n) block (first ∷ blocks) more there =
    grind (arith, nat_tests, common_steps, in-longer n block blocks more)

-- a block among the first n of a list and of what follows it is among the first n where the block alone follows
in-sooner : (n block : ℕ) (blocks more last : List ℕ) → (is_in blocks block ≡ false → last ≡ block ∷ [])
    → IsTrue (is_in (take n (blocks ++ more)) block) → IsTrue (is_in (take n (blocks ++ last)) block)
in-sooner zero block blocks more last alone there = grind (arith, nat_tests)
in-sooner (suc n) block [] more last alone there = rw (alone refl) (grind (arith, nat_tests))
in-sooner (suc n) block (first ∷ blocks) more last alone there =
    grind (arith, nat_tests, common_steps, in-sooner n block blocks more last)

-- a block that is held alone and not fetched is still there alone
unfetched-alone : (block : ℕ) (fetches : List (Option ℕ)) → is_in (stack [] fetches) block ≡ false
    → unfetched (block ∷ []) fetches ≡ block ∷ []
unfetched-alone block [] absent = refl
unfetched-alone block (None ∷ earlier) absent = unfetched-alone block earlier absent
unfetched-alone block (Some other ∷ earlier) absent =
    grind (arith, nat_tests, common_steps, is_in-others other block (stack [] earlier), unfetched-alone block earlier)

-- a list of one block contains that block alone
only : (block other : ℕ) → Contains (block ∷ []) other → other ≡ block
only block other (zero, within, same) = sym same
only block other (suc k, within, same) = absurd (omega arith)

-- a set may hold no block
pub may_hold-none : (g : Geometry) (set : ℕ) → MayHold g set []
may_hold-none g set =
    record { own = λ block there. absurd (omega (arith, there.1)); distinct = tt; few = omega arith }

-- a set that has room for a block may hold one alone
pub may_hold-alone : (g : Geometry) (block : ℕ) → 1 ≤ g.ways → MayHold g (set_of g block) (block ∷ [])
may_hold-alone g block room = record {
  own = λ other there. ap (set_of g) (only block other there);
  distinct = (refl, tt);
  few = room;
}

-- a set that starts with a list may hold it
may_hold-start : (g : Geometry) (start : Start) (set : ℕ) (held : List ℕ) → IsStartList g start set held
    → MayHold g set held
may_hold-start g Empty set held is = subst (MayHold g set) (sym is) (may_hold-none g set)
may_hold-start g Any set held is = is

-- a set may start with no block
start-none : (g : Geometry) (start : Start) (set : ℕ) → IsStartList g start set []
start-none g Empty set = refl
start-none g Any set = may_hold-none g set

-- what is kept from an empty set is kept from any list
kept-longer : (g : Geometry) (set block : ℕ) (held addresses : List ℕ) → MayHold g set held
    → IsTrue (is_in (contents g set [] addresses) block) → IsTrue (is_in (contents g set held addresses) block)
kept-longer g set block held addresses may there =
    let fetches = map (block_in g set) addresses in
    let Keeps : List ℕ → Type 0 = λ blocks. IsTrue (is_in blocks block) in
    let cut = subst Keeps (contents-stack g set [] addresses (may_hold-none g set)) there in
    let longer = in-longer g.ways block (stack [] fetches) (unfetched held fetches) cut in
    subst Keeps (sym (contents-stack g set held addresses may ∙ ap (take g.ways) (stack-held held fetches))) longer

-- what is kept from any list is among the first blocks of the list that begins with it alone
kept-alone : (g : Geometry) (set block : ℕ) (held addresses : List ℕ) → MayHold g set held
    → IsTrue (is_in (contents g set held addresses) block)
    → IsTrue (is_in (take g.ways (stack (block ∷ []) (map (block_in g set) addresses))) block)
kept-alone g set block held addresses may there =
    let fetches = map (block_in g set) addresses in
    let Keeps : List ℕ → Type 0 = λ blocks. IsTrue (is_in (take g.ways blocks) block) in
    let cut = subst (λ (s : List ℕ). IsTrue (is_in s block)) (contents-stack g set held addresses may) there in
    let sooner = in-sooner g.ways block (stack [] fetches) (unfetched held fetches) (unfetched (block ∷ []) fetches)
    (unfetched-alone block fetches) (subst Keeps (stack-held held fetches) cut) in
    subst Keeps (sym (stack-held (block ∷ []) fetches)) sooner

-- the first n blocks have a block only where n is at least 1
room-kept : (n block : ℕ) (blocks : List ℕ) → IsTrue (is_in (take n blocks) block) → 1 ≤ n
room-kept zero block blocks there = absurd (both_ways false refl there)
room-kept (suc n) block blocks there = omega arith

-- where the cache may hold anything, a fetch can hit exactly where its block is among the first blocks of the list that
-- begins with it alone
pub can_hit-any : (g : Geometry) (address : ℕ) (earlier : List ℕ) →
    let block = block_of g address in CanEnd g Any (address ∷ earlier) true ↔ IsTrue (is_in
    (take g.ways (stack (block ∷ []) (map (block_in g (set_of g block)) earlier))) block)
can_hit-any g address earlier =
    let block = block_of g address in
    let set = set_of g block in
    let fetches = map (block_in g set) earlier in (
      λ can. kept-alone g set block can.0 earlier can.1 can.2,
      λ there. let may = may_hold-alone g block (room-kept g.ways block (stack (block ∷ []) fetches) there) in
          (block ∷ [], may, ap (λ blocks. is_in blocks block) (contents-stack g set (block ∷ []) earlier may) ∙ there),
    )

-- the same, by what a set keeps that starts with the block alone, if it has room for a block
pub can_hit-alone : (g : Geometry) (address : ℕ) (earlier : List ℕ) → 1 ≤ g.ways
    → CanEnd g Any (address ∷ earlier) true
    ↔ IsTrue (ends_in_hit_from g (block_of g address ∷ []) (address ∷ earlier))
can_hit-alone g address earlier room =
    let block = block_of g address in
    let may = may_hold-alone g block room in
    let same = ap (λ blocks. is_in blocks block) (contents-stack g (set_of g block) (block ∷ []) earlier may) in
    let can = can_hit-any g address earlier in
    (λ hits. same ∙ can.0 hits, λ hits. can.1 (sym same ∙ hits))

-- from an empty cache a fetch can do what it does there
pub can_end-empty : (g : Geometry) (addresses : List ℕ) (hits : Bool)
    → CanEnd g Empty addresses hits ↔ (ends_in_hit g addresses ≡ hits)
can_end-empty g [] hits = (λ is. sym is, λ is. sym is)
can_end-empty g (address ∷ earlier) hits = (
  λ can. subst (λ (held : List ℕ). ends_in_hit_from g held (address ∷ earlier) ≡ hits) can.1 can.2,
  λ is. ([], refl, is),
)

-- a fetch that can miss misses from an empty cache
misses-empty : (g : Geometry) (start : Start) (address : ℕ) (earlier : List ℕ)
    → CanEnd g start (address ∷ earlier) false → IsFalse (ends_in_hit g (address ∷ earlier))
misses-empty g start address earlier can =
    let block = block_of g address in
    let set = set_of g block in
    elim (cases_Bool (ends_in_hit g (address ∷ earlier))) [
      | inl hits ↦
          let may = may_hold-start g start set can.0 can.1 in
          absurd (both_ways (ends_in_hit_from g can.0 (address ∷ earlier)) can.2
          (kept-longer g set block can.0 earlier may hits))
      | inr misses ↦ misses
    ]

-- a fetch can miss exactly where it misses from an empty cache
pub can_miss : (g : Geometry) (start : Start) (addresses : List ℕ)
    → CanEnd g start addresses false ↔ IsFalse (ends_in_hit g addresses)
can_miss g start [] = (λ is. is, λ is. is)
can_miss g start (address ∷ earlier) = (
  misses-empty g start address earlier,
  λ misses. ([], start-none g start (set_of g (block_of g address)), misses),
)

-- a fetch can hit or can miss
pub can_end : (g : Geometry) (start : Start) (addresses : List ℕ)
    → CanEnd g start addresses true ⊎ CanEnd g start addresses false
can_end g start [] = inr refl
can_end g start (address ∷ earlier) =
    let none = start-none g start (set_of g (block_of g address)) in
    elim (cases_Bool (ends_in_hit g (address ∷ earlier))) [
      | inl hits ↦ inl ([], none, hits)
      | inr misses ↦ inr ([], none, misses)
    ]
