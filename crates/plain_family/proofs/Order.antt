-- The order of the sets of a family, and the place of a set in it.
use Rattle.std.proofs.Common.{◌≡◌, ℕ, ◌+◌, ◌↔◌, inl, inr, Ok, Err, Result, is_ok, true, List, length, get_or, insert, Contains, AllPairs, refl, sym, ap, subst, ◌∙◌, arith}
use Rattle.std.proofs.lemmas.Bool.{cases_lt}
use mathlib.Core.Bool.{true≢false}
use Rattle.std.proofs.lemmas.Cmp.{nat_list_cmp_total, tied_itself}
use Rattle.std.proofs.lemmas.List.Sorted.{searchable_from_sorted}
use Rattle.std.proofs.lemmas.Map.Lookups.{exact_bytes}
use Rattle.std.specs.Cmp.Lexicographic.{slice_cmp}
use Rattle.std.specs.List.Sorted.{IsBinarySearchResult, IsSearchInRange, IsSortedBy, IsStrictlyIncreasing}
use Rattle.std.specs.Ordering.{nat_cmp, is_lt, ordering_reverse}
use Rattle.std.specs.declared.cmp.Ordering.TheVariants.{Greater}
use Rattle.set_list.specs.Rising.{AllPairs-insert, Contains-insert}
use Rattle.plain_family.specs.Family.{IsBefore, IsFamily, IsPlaceOf}

-- a set after another, the other way round
before_back : (s t : List ℕ) → slice_cmp nat_cmp s t ≡ Greater → IsBefore t s
before_back s t later = nat_list_cmp_total.antisymm t s ∙ ap ordering_reverse later

-- the order, as the search asks for it
sorted_from_ordered : (sets : List (List ℕ)) → AllPairs IsBefore sets
    → IsSortedBy (λ a b. is_lt (slice_cmp nat_cmp a b)) sets
sorted_from_ordered sets ordered k d low inside =
    ap is_lt (nat_list_cmp_total.antisymm (get_or sets (k + 1) d) (get_or sets k d) ∙ ap ordering_reverse
    (ordered k (k + 1) d (omega arith) inside))

-- what the search answers
pub place_from_search : (sets : List (List ℕ)) (s : List ℕ) (r : Result ℕ ℕ) → AllPairs IsBefore sets
    → IsSearchInRange r (length sets)
    → IsBinarySearchResult (λ t. slice_cmp nat_cmp t s) sets r → IsPlaceOf sets s r
place_from_search sets s (Ok i) ordered within found = (i, within, exact_bytes _ _ (found s))
place_from_search sets s (Err i) ordered within found =
    let sorted = sorted_from_ordered sets ordered in
    let parted = found (searchable_from_sorted nat_list_cmp_total (λ t. t) sets s sorted) in (
      within,
      λ k d prefix. parted.0 k d (omega arith) prefix,
      λ k d back inside. before_back (get_or sets k d) s (parted.1 k d back inside),
    )

-- no set comes before itself
never_before_itself : (s : List ℕ) → IsBefore s s → ⊥
never_before_itself s less = let tied = tied_itself nat_list_cmp_total s in cc

-- a set that belongs between others is not there
pub absent : (sets : List (List ℕ)) (s : List ℕ) (i : ℕ) → IsPlaceOf sets s (Err i) → Contains sets s → ⊥
absent sets s i place there = elim (cases_lt there.0 i) [
  | inl prefix ↦ never_before_itself s (subst (λ t. IsBefore t s) there.2 (place.1 there.0 s prefix))
  | inr back ↦ never_before_itself s (subst (λ t. IsBefore s t) there.2 (place.2 there.0 s back there.1))
]

-- whether a set is there
pub is_ok-place : (sets : List (List ℕ)) (s : List ℕ) (r : Result ℕ ℕ) → IsPlaceOf sets s r
    → (is_ok r ≡ true) ↔ Contains sets s
is_ok-place sets s (Ok i) place = (λ _. place, λ _. refl)
is_ok-place sets s (Err i) place = (
  λ same. absurd (true≢false (sym same)),
  λ there. absurd (absent sets s i place there),
)

-- a set put where it belongs
pub IsFamily-insert : (sets : List (List ℕ)) (i : ℕ) (s : List ℕ) → IsFamily sets → IsStrictlyIncreasing s
    → IsPlaceOf sets s (Err i) → IsFamily (insert sets i s)
IsFamily-insert sets i s family up place = record {
  ordered = AllPairs-insert IsBefore sets i s place.0 family.ordered place.1 place.2;
  rising = λ t there. elim ((Contains-insert sets i s t).0 there) [
    | inl before ↦ family.rising t before
    | inr same ↦ subst IsStrictlyIncreasing (sym same) up
  ];
}
