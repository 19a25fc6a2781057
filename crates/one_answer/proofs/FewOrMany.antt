-- Each set has few blocks, or one set is the first with too many.
use Rattle.std.proofs.Common.{◌≡◌, ℕ, zero, suc, ◌<◌, ◌≤◌, ◌⊎◌, ◌↔◌, inl, inr, List, [], ◌∷◌, length, refl, sym, subst, arith, below_more}
use Rattle.std.specs.Prelude.{Contains, Option, Some, None, flat_map}
use Rattle.std.specs.Option.{option_to_list}
use Rattle.std.specs.Ordering.{nat_cmp}
use Rattle.std.specs.declared.cmp.Ordering.TheVariants.{Equal}
use Rattle.std.proofs.lemmas.Bool.{cases_lt}
use Rattle.std.proofs.lemmas.Cmp.{nat_cmp_total}
use Rattle.std.proofs.lemmas.Map.Keys.{IsStrictlyIncreasing-from_sorted}
use Rattle.list_lemmas.proofs.Members.{has-none, has-first, has-only}
use Rattle.cache_spec.specs.Geometry.{Geometry}
use Rattle.cache_spec.specs.Blocks.{block_in, block_limit, LieIn, HaveBlocks, HaveFew, HaveFewInAll, HaveMany}
use Rattle.call_expand.proofs.Ordered.{nat_equal}
use Rattle.one_answer.proofs.FlatMapped.{has-flat_map, from-flat_map}
use Rattle.one_answer.proofs.InOrder.{rest_of}

-- what an option has
has-option : (found : Option ℕ) (block : ℕ) → Contains (option_to_list found) block ↔ (found ≡ Some block)
has-option None block = (λ has. absurd (has-none block has), λ is. absurd (cc is))
has-option (Some other) block = (
  λ has. let same = has-only other block has in cc same,
  λ is. let same : block ≡ other = cc is in subst (Contains (other ∷ [])) (sym same) (has-first other []),
)

module _ (addresses : List ℕ) (g : Geometry) where
  -- the blocks of the set that the addresses lie in, as often as an address lies in one
  abbrev blocks_in : ℕ → List ℕ
  blocks_in set = flat_map (λ address. option_to_list (block_in g set address)) addresses

  -- they are those that some address lies in
  has-blocks_in : (set block : ℕ) → Contains (blocks_in set) block ↔ LieIn addresses g set block
  has-blocks_in set block =
      let blocks : ℕ → List ℕ = λ address. option_to_list (block_in g set address) in (
        λ has.
            let (address, there, lies) = from-flat_map blocks addresses block has in
            (address, there, (has-option (block_in g set address) block).0 lies),
        λ (address, there, lies).
            has-flat_map blocks addresses address block there ((has-option (block_in g set address) block).1 lies),
      )

  -- the addresses lie in some number of blocks of the set
  have_some : (set : ℕ) → (count : ℕ) × HaveBlocks addresses g set count
  have_some set =
      let exact = λ (x y : ℕ) (tie : nat_cmp x y ≡ Equal). nat_equal x y (nat_cmp x y) refl tie in
      let (blocks, are) = rest_of nat_cmp nat_cmp_total exact [] (blocks_in set) in (
        length blocks,
        (
          blocks,
          record {
            rising = IsStrictlyIncreasing-from_sorted blocks are.sorted;
            members = λ block. (
              λ has. (has-blocks_in set block).0 (are.found_there block has),
              λ lie. are.all block ((has-blocks_in set block).1 lie),
            );
          },
          refl,
        ),
      )

  -- each set below a number has few, or one of them is the first with too many
  below : (n : ℕ) → n ≤ g.sets
      → ((set : ℕ) → set < n → HaveFew addresses g set) ⊎ ((set : ℕ) × (count : ℕ) × HaveMany addresses g set count)
  below zero within = inl (λ set none. absurd (omega (arith, none)))
  below (suc n) within = elim (below n (omega (arith, within))) [
    | inr many ↦ inr many
    | inl few ↦
        let (count, have) = have_some n in
        elim (cases_lt block_limit count) [
          | inl more ↦ inr (n, count, record { inside = omega (arith, within); earlier = few; has = have; many = more })
          | inr no_more ↦ inl (λ set sooner.
              below_more (HaveFew addresses g) n few (count, have, no_more) set (omega (arith, sooner)))
        ]
  ]

  -- the same of all sets
  pub few_or_many : HaveFewInAll addresses g ⊎ ((set : ℕ) × (count : ℕ) × HaveMany addresses g set count)
  few_or_many = below g.sets (omega arith)
