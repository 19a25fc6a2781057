-- One set is the first with too many blocks, or none is.
use Rattle.std.proofs.Common.{◌≡◌, ℕ, ◌<◌, ◌≤◌, List, length, ap, subst, arith, ⊎_elim}
use Rattle.std.proofs.lemmas.Bool.{cases_lt}
use Rattle.cache_spec.specs.Geometry.{Geometry}
use Rattle.cache_spec.specs.Blocks.{HaveBlocks, HaveFew, HaveFewInAll, HaveMany}
use Rattle.one_answer.proofs.Listed.{same_rising}

module _ (addresses : List ℕ) (g : Geometry) where
  -- the blocks of a set have one count
  one_count : (set count number : ℕ) → HaveBlocks addresses g set count → HaveBlocks addresses g set number
      → count ≡ number
  one_count set count number (blocks, are, long) (others, are', long') =
      let same : blocks ≡ others = same_rising blocks others are.rising are'.rising
      (λ block has. (are'.members block).1 ((are.members block).0 has))
      (λ block has. (are.members block).1 ((are'.members block).0 has)) in
      omega (arith, long, long', ap length same)

  -- a set doesn't have few of them and many
  few_many : (set count : ℕ) → HaveFew addresses g set → HaveMany addresses g set count → ⊥
  few_many set count (number, have, few) many =
      let same : number ≡ count = one_count set number count have many.has in omega (arith, few, many.many, same)

  -- none is the first with too many where each has few
  pub few_in_all_many : (set count : ℕ) → HaveFewInAll addresses g → HaveMany addresses g set count → ⊥
  few_in_all_many set count few many = few_many set count (few set many.inside) many

  -- none with many comes before the first one
  not_before : (set count other number : ℕ) → HaveMany addresses g set count → HaveMany addresses g other number
      → other ≤ set
  not_before set count other number many many' =
      ⊎_elim
      (λ (before : set < other). absurd (few_many set count (many'.earlier set before) many))
      (λ (later : other ≤ set). later)
      (cases_lt set other)

  -- one set is the first one, with one count
  pub one_many : (set count other number : ℕ) → HaveMany addresses g set count → HaveMany addresses g other number
      → (set ≡ other) × (count ≡ number)
  one_many set count other number many many' =
      let same : set ≡ other = omega (
        arith,
        not_before set count other number many many',
        not_before other number set count many' many,
      ) in
      (same, one_count other count number (subst (λ s. HaveBlocks addresses g s count) same many.has) many'.has)
