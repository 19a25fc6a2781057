-- The nodes that fetch a block, one after another.
use Rattle.std.proofs.Common.{◌≡◌, ◌≢◌, ℕ, ◌+◌, ◌<◌, ◌↔◌, inl, inr, List, [], ◌∷◌, ◌++◌, length, get_or, Option, Some, None, sym, ap, subst, ◌∙◌, arith}
use Rattle.std.proofs.lemmas.Bool.{cases_eq, cases_lt}
use Rattle.std.proofs.lemmas.List.{get_or_append_left, get_or_push, length_push, get_or_past}
use Rattle.std.proofs.lemmas.List.Elements.{Contains-push, Contains-push_cases, Contains-append_left, Contains-get_or}
use Rattle.std.proofs.lemmas.Option.{none-some}
use Rattle.std.specs.List.{Contains}
use Rattle.std.specs.List.Sorted.{IsStrictlyIncreasing}
use Rattle.focus_spec.specs.Younger.{fetch_at}
use Rattle.set_list.specs.RisingSets.{rising-empty}
use Rattle.focus_plain.specs.Judged.{AreFetchers}

-- the nodes are those below the count that fetch the block, rising
pub record AreFetchersBelow (fetches : List (Option ℕ)) (block count : ℕ) (nodes : List ℕ) : Type 0 where
  pub rising : IsStrictlyIncreasing nodes
  pub members : (n : ℕ) → Contains nodes n ↔ ((n < count) × (fetch_at fetches n ≡ Some block))

-- a number above all others stands after them
rising-push : (nodes : List ℕ) (last : ℕ) → IsStrictlyIncreasing nodes → ((n : ℕ) → Contains nodes n → n < last)
    → IsStrictlyIncreasing (nodes ++ last ∷ [])
rising-push nodes last rising below k inside =
    let long = length_push nodes last in
    let prefix : get_or (nodes ++ last ∷ []) k 0 ≡ get_or nodes k 0 =
    get_or_append_left nodes (last ∷ []) 0 k (omega (arith, long, inside)) in
    elim (cases_eq (length nodes) (k + 1)) [
      | inl end ↦
          let at : get_or (nodes ++ last ∷ []) (k + 1) 0 ≡ last = get_or_push nodes last 0 (k + 1) end in
          omega (arith, prefix, at, below (get_or nodes k 0) (Contains-get_or nodes k 0 (omega (arith, long, inside))))
      | inr before ↦
          let next : get_or (nodes ++ last ∷ []) (k + 1) 0 ≡ get_or nodes (k + 1) 0 =
          get_or_append_left nodes (last ∷ []) 0 (k + 1) (omega (arith, long, inside, before)) in
          omega (arith, prefix, next, rising k (omega (arith, long, inside, before)))
    ]

-- at first there are none
pub fetchers_none : (fetches : List (Option ℕ)) (block : ℕ) (nodes : List ℕ) → nodes ≡ []
    → AreFetchersBelow fetches block 0 nodes
fetchers_none fetches block nodes none = subst (AreFetchersBelow fetches block 0) (sym none) (record {
  rising = rising-empty;
  members = λ n. (λ there. absurd (omega (arith, there.1)), λ is. absurd (omega (arith, is.0)));
})

-- one more
pub fetchers_more : (fetches : List (Option ℕ)) (block count : ℕ) (nodes more : List ℕ)
    → AreFetchersBelow fetches block count nodes → fetch_at fetches count ≡ Some block
    → more ≡ nodes ++ count ∷ [] → AreFetchersBelow fetches block (count + 1) more
fetchers_more fetches block count nodes more are fetched more_is =
    subst (AreFetchersBelow fetches block (count + 1)) (sym more_is) (record {
      rising = rising-push nodes count are.rising (λ n there. ((are.members n).0 there).0);
      members = λ n. (
        λ there. elim (Contains-push_cases nodes count n there) [
          | inl before ↦ let is = (are.members n).0 before in (omega (arith, is.0), is.1)
          | inr last ↦ (omega (arith, last), subst (λ (k : ℕ). fetch_at fetches k ≡ Some block) last fetched)
        ],
        λ is. elim (cases_eq count n) [
          | inl last ↦ subst (Contains (nodes ++ count ∷ [])) last (Contains-push nodes count)
          | inr before ↦
              Contains-append_left nodes (count ∷ []) n ((are.members n).1 (omega (arith, is.0, before), is.1))
        ],
      );
    })

-- one that doesn't fetch the block
pub fetchers_passed : (fetches : List (Option ℕ)) (block count : ℕ) (nodes : List ℕ)
    → AreFetchersBelow fetches block count nodes → fetch_at fetches count ≢ Some block
    → AreFetchersBelow fetches block (count + 1) nodes
fetchers_passed fetches block count nodes are other = record {
  rising = are.rising;
  members = λ n. (
    λ there. let is = (are.members n).0 there in (omega (arith, is.0), is.1),
    λ is. elim (cases_eq count n) [
      | inl last ↦ absurd (other (ap (fetch_at fetches) last ∙ is.1))
      | inr before ↦ (are.members n).1 (omega (arith, is.0, before), is.1)
    ],
  );
}

-- all of them
pub fetchers_all : (fetches : List (Option ℕ)) (block count : ℕ) (nodes : List ℕ) → length fetches ≡ count
    → AreFetchersBelow fetches block count nodes → AreFetchers fetches block nodes
fetchers_all fetches block count nodes long are = record {
  rising = are.rising;
  members = λ n. (
    λ there. ((are.members n).0 there).1,
    λ is. elim (cases_lt n count) [
      | inl below ↦ (are.members n).1 (below, is)
      | inr past ↦ absurd (none-some block (sym (get_or_past fetches n None (omega (arith, past, long))) ∙ is))
    ],
  );
}
