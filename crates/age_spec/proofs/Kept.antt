-- What a set keeps along a path.
use Rattle.std.proofs.Common.{◌≡◌, ℕ, ◌<◌, ◌≤◌, Bool, true, false, cond, ◌==◌, List, [], ◌∷◌, length, Option, Some, None, refl, sym, ap, ◌∙◌, subst, inl, inr, arith}
use Rattle.std.proofs.lemmas.Bool.{cases_eq, cases_order, eq-eqb, ne_eqb}
use Rattle.std.proofs.lemmas.List.{length-take}
use Rattle.std.proofs.lemmas.List.Kept.{AllPairs-from_increasing}
use Rattle.cache_spec.specs.declared.start.Start.{Start}
use Rattle.cache_spec.specs.declared.start.Start.TheVariants.{Empty, Any}
use Rattle.cache_spec.specs.Geometry.{Geometry, block_of, set_of}
use Rattle.cache_spec.specs.Lru.{touch}
use Rattle.cache_spec.specs.Contents.{contents}
use Rattle.cache_spec.specs.Blocks.{block_in}
use Rattle.cache_spec.specs.Distinct.{AreDistinct}
use Rattle.cache_spec.specs.Start.{IsStartList}
use Rattle.cache_spec.proofs.Distinct.{others}
use Rattle.focus_spec.specs.Younger.{named}
use Rattle.set_view.specs.View.{View, IsView}
use Rattle.age_spec.proofs.Places.{touch-distinct}

-- what a fetch makes of what the set keeps
abbrev pub touched : ℕ → Option ℕ → List ℕ → List ℕ
touched k None kept = kept
touched k (Some block) kept = touch k kept block

-- one more fetch
pub contents-more : (g : Geometry) (set : ℕ) (held : List ℕ) (address : ℕ) (earlier : List ℕ)
    → contents g set held (address ∷ earlier) ≡ touched g.ways (block_in g set address) (contents g set held earlier)
contents-more g set held address earlier =
    let kept : List ℕ = contents g set held earlier in
    let block : ℕ = block_of g address in
    elim (set_of g block == set) as (λ (b : Bool). cond b (touch g.ways kept block) kept
    ≡ touched g.ways (cond b (Some block) None) kept) [ true ↦ refl | false ↦ refl ]

-- what the set may start with is distinct, and there is room for it
pub start-distinct : (g : Geometry) (start : Start) (set : ℕ) (held : List ℕ) → IsStartList g start set held
    → AreDistinct held
start-distinct g Empty set held starts = subst AreDistinct (sym starts) tt
start-distinct g Any set held starts = starts.distinct

pub start-few : (g : Geometry) (start : Start) (set : ℕ) (held : List ℕ) → IsStartList g start set held
    → length held ≤ g.ways
start-few g Empty set held starts = omega (arith, ap length starts)
start-few g Any set held starts = starts.few

-- and so is what it keeps later
pub contents-distinct : (g : Geometry) (set : ℕ) (held addresses : List ℕ) → AreDistinct held
    → AreDistinct (contents g set held addresses)
contents-distinct g set held [] distinct = distinct
contents-distinct g set held (address ∷ earlier) distinct =
    let kept : List ℕ = contents g set held earlier in
    let block : ℕ = block_of g address in
    let before : AreDistinct kept = contents-distinct g set held earlier distinct in
    elim (set_of g block == set) as (λ (b : Bool). AreDistinct (cond b (touch g.ways kept block) kept)) [
      | true ↦ touch-distinct g.ways kept block before
      | false ↦ before
    ]

pub contents-few : (g : Geometry) (set : ℕ) (held addresses : List ℕ) → length held ≤ g.ways
    → length (contents g set held addresses) ≤ g.ways
contents-few g set held [] few = few
contents-few g set held (address ∷ earlier) few =
    let kept : List ℕ = contents g set held earlier in
    let block : ℕ = block_of g address in
    let before : length kept ≤ g.ways = contents-few g set held earlier few in
    elim (set_of g block == set) as (λ (b : Bool). length (cond b (touch g.ways kept block) kept) ≤ g.ways) [
      | true ↦ omega (arith, length-take g.ways (block ∷ others kept block))
      | false ↦ before
    ]

-- different local blocks are different blocks
pub named-apart : (view : View) → IsView view → (a b : ℕ) → a < length view.blocks → b < length view.blocks
    → named view.blocks a ≡ named view.blocks b → a ≡ b
named-apart view is a b a_inside b_inside same =
    let rise = AllPairs-from_increasing view.blocks is.blocks.rising in
    elim (cases_order a b) [
      | inl equal ↦ equal
      | inr other ↦ elim other [
        | inl below ↦
            let less : named view.blocks a < named view.blocks b = rise a b 0 below b_inside in
            absurd (omega (arith, same, less))
        | inr above ↦
            let less : named view.blocks b < named view.blocks a = rise b a 0 above a_inside in
            absurd (omega (arith, same, less))
      ]
    ]

some-same : {x y : ℕ} → Some x ≡ Some y → x ≡ y
some-same same = cc

none-some : {y : ℕ} → None ≡ Some y → ⊥
none-some same = cc

-- an address that lies in a block of a set
pub block_in-some : (g : Geometry) (set address block : ℕ) → block_in g set address ≡ Some block
    → (set_of g (block_of g address) ≡ set) × (block_of g address ≡ block)
block_in-some g set address block lies =
    let here : ℕ = block_of g address in
    elim (cases_eq (set_of g here) set) [
      | inl same ↦
          (same, some-same (sym (ap (λ (b : Bool). cond b (Some here) None) (eq-eqb (set_of g here) set same)) ∙ lies))
      | inr apart ↦
          absurd (none-some (sym (ap (λ (b : Bool). cond b (Some here) None) (ne_eqb (set_of g here) set apart)) ∙ lies))
    ]
