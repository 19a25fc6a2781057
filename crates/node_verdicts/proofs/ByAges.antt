-- What ages settle, and what they leave open.
use Rattle.std.proofs.Common.{◌≡◌, ◌⊎◌, ℕ, ◌<◌, inl, inr, List, Option, Some, None, length, refl, ap, subst, arith}
use Rattle.std.proofs.lemmas.Bool.{cases_eq, cases_lt}
use Rattle.std.proofs.lemmas.Option.{same_Some, none-some}
use Rattle.cache_spec.specs.declared.start.Start.TheVariants.{Empty}
use Rattle.age_spec.specs.declared.kind.Kind.TheVariants.{Must, May}
use Rattle.age_spec.specs.Ages.{age_of}
use Rattle.age_spec.specs.Settled.{HasUnclear}
use Rattle.age_spec.proofs.Bounded.{solution_rows, solution_bounds, must_hits, may_misses}
use Rattle.age_spec.proofs.Unique.{must_same, may_same}
use Rattle.focus_spec.specs.Younger.{fetch_at}
use Rattle.node_verdicts.specs.Aged.{Aged, AreAges, IsOpen, IsSettled, IsDecided}
use Rattle.node_verdicts.specs.Judged.{IsEnds, addresses_with}
use Rattle.node_verdicts.specs.declared.judged.Ends.{Ends}
use Rattle.node_verdicts.specs.declared.judged.Ends.TheVariants.{Hits, Misses, Both}
use Rattle.node_verdicts.proofs.Block.{fetch_inside, fetches_one}

module _ (a : Aged) (are : AreAges a) (block n : ℕ) (fetches : fetch_at a.view.fetches n ≡ Some block) where
  -- a fetch whose must age is below the ways always hits
  pub hits_by_must : age_of a.must n block < a.view.geometry.ways → IsDecided a n Hits
  hits_by_must young =
      must_hits a.view are.is_view a.start a.must n block
      (solution_bounds a.view are.is_view a.start Must a.must are.must_ages.solution) fetches young

  -- one whose may age is the number of ways always misses
  pub misses_by_may : age_of a.may n block ≡ a.view.geometry.ways → IsDecided a n Misses
  misses_by_may old =
      may_misses a.view are.is_view a.start a.may n block
      (solution_bounds a.view are.is_view a.start May a.may are.may_ages.solution) fetches old

  -- any other one is open: ages aren't above the ways
  pub open_else : (age_of a.must n block < a.view.geometry.ways → ⊥) → (age_of a.may n block ≡ a.view.geometry.ways → ⊥)
      → IsOpen a block n
  open_else not_hit not_miss =
      let inside : n < length a.view.nodes =
      subst (λ (k : ℕ). n < k) are.is_view.one_each (fetch_inside a.view.fetches n block fetches) in
      let must = (solution_rows a.view are.is_view Empty Must a.must are.must_ages.solution).rows n inside in
      let may = (solution_rows a.view are.is_view a.start May a.may are.may_ages.solution).rows n inside in
      record {
        fetches = fetches;
        not_hit = elim (cases_eq (age_of a.must n block) a.view.geometry.ways) [
          | inl same ↦ same
          | inr other ↦ absurd (not_hit (omega (arith, must.few block, other)))
        ];
        not_miss = elim (cases_eq (age_of a.may n block) a.view.geometry.ways) [
          | inl same ↦ absurd (not_miss same)
          | inr other ↦ omega (arith, may.few block, other)
        ];
      }

-- a number is there or not
cases_eq_option : (one : Option ℕ) (two : ℕ) → (one ≡ Some two) ⊎ (one ≡ Some two → ⊥)
cases_eq_option None two = inr (λ same. none-some two same)
cases_eq_option (Some one) two = elim (cases_eq one two) [
  | inl same ↦ inl (ap Some same)
  | inr other ↦ inr (λ same. other (same_Some one two same))
]

-- a fetch is open or not
pub open_or_not : (a : Aged) (block n : ℕ) → IsOpen a block n ⊎ (IsOpen a block n → ⊥)
open_or_not a block n = elim (cases_eq_option (fetch_at a.view.fetches n) block) [
  | inl fetches ↦ elim (cases_eq (age_of a.must n block) a.view.geometry.ways) [
    | inl not_hit ↦ elim (cases_lt (age_of a.may n block) a.view.geometry.ways) [
      | inl not_miss ↦ inl (record { fetches = fetches; not_hit = not_hit; not_miss = not_miss })
      | inr miss ↦ inr (λ is. omega (arith, miss, is.not_miss))
    ]
    | inr hit ↦ inr (λ is. hit is.not_hit)
  ]
  | inr other ↦ inr (λ is. other is.fetches)
]

-- no node is settled and open
pub settled_or_open : (a : Aged) (unclear : List ℕ) (block n : ℕ) → IsSettled a unclear n → IsOpen a block n → ⊥
settled_or_open a unclear block n (other, fetches, not, clear) is =
    not (subst (λ (b : ℕ). IsOpen a b n) (fetches_one a.view n block other is.fetches fetches) is)

-- a block with an unclear fetch has an open one
pub unclear_open : (a : Aged) → AreAges a → (block : ℕ) (u : HasUnclear a.view a.start block) → IsOpen a block u.node
unclear_open a are block u =
    let must : u.must ≡ a.must = must_same a.view u.must a.must u.four.must_ages are.must_ages in
    let may : u.may ≡ a.may = may_same a.view a.start u.may a.may u.four.may_ages are.may_ages in
    let k : ℕ = a.view.geometry.ways in
    record {
      fetches = u.unclear.fetches;
      not_hit = subst (λ (ages : List (List ℕ)). age_of ages u.node block ≡ k) must u.unclear.unclear.not_hit;
      not_miss = subst (λ (ages : List (List ℕ)). age_of ages u.node block < k) may u.unclear.unclear.not_miss;
    }

-- what ages settle is right
pub decided_right : (a : Aged) (n : ℕ) (ends : Ends) → IsDecided a n ends
    → IsEnds a.view.nodes a.view.geometry a.start n ends
decided_right a n Hits decided = decided
decided_right a n Misses decided = decided
decided_right a n (Both paths) decided = absurd decided

-- it has no paths, and needs none
pub decided_with : (a : Aged) (n : ℕ) (ends : Ends) (at : ℕ) (addresses : List ℕ) → IsDecided a n ends
    → addresses_with ends at addresses ≡ addresses
decided_with a n Hits at addresses decided = refl
decided_with a n Misses at addresses decided = refl
decided_with a n (Both paths) at addresses decided = absurd decided

pub decided_not_none : (a : Aged) (n : ℕ) (ends : Ends) → IsDecided a n ends → ends ≡ Both None → ⊥
decided_not_none a n Hits decided none = cc none
decided_not_none a n Misses decided none = cc none
decided_not_none a n (Both paths) decided none = decided
