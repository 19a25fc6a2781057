-- The open fetches of each block, found in one pass over the nodes.
use Rattle.std.proofs.Common.{◌≡◌, ℕ, ◌+◌, ◌<◌, inl, inr, List, [], ◌∷◌, ◌++◌, Vec, Global, length, replicate, get_or, sym, ap, ◌∙◌, subst, arith}
use Rattle.std.specs.Prelude.{◌↔◌, slice_set}
use Rattle.std.specs.List.{AllPairs, Contains}
use Rattle.std.proofs.lemmas.Bool.{cases_eq}
use Rattle.std.proofs.lemmas.List.{get_or-map, get_or-replicate, get_or-set_same, get_or-set_other, length-replicate, length-set}
use Rattle.std.proofs.lemmas.List.Elements.{Contains-push, Contains-push_cases, Contains-append_left, Contains-get_or}
use Rattle.std.proofs.lemmas.List.Quantifiers.{all_pairs_push}
use Rattle.node_verdicts.specs.Aged.{Aged, AreAges, IsOpen}
use Rattle.node_verdicts.specs.Open.{items_of, lists_seen, nodes_of, AreEmpty, AreOpen}
use Rattle.node_verdicts.proofs.Block.{none_there, fetch_inside, fetches_one}

-- these are the nodes below the count whose fetch of the block is open
pub record AreBelowOf (a : Aged) (count block : ℕ) (nodes : List ℕ) : Type 0 where
  pub rising : AllPairs (λ n m. n < m) nodes
  pub members : (n : ℕ) → Contains nodes n ↔ ((n < count) × IsOpen a block n)

-- each block has a list of them
pub record AreBelow (a : Aged) (count : ℕ) (lists : List (List ℕ)) : Type 0 where
  pub one_each : length lists ≡ length a.view.blocks
  pub each : (block : ℕ) → block < length lists → AreBelowOf a count block (nodes_of lists block)

-- no node is below 0
none_of : (a : Aged) (block : ℕ) → AreBelowOf a 0 block []
none_of a block = record {
  rising = λ i j d lt within. absurd (omega (arith, lt, within));
  members = λ n. (λ there. absurd (none_there n there), λ is. absurd (omega (arith, is.0)));
}

-- at first there are none
pub below_none : (a : Aged) (lists : List (List ℕ)) → lists ≡ replicate (length a.view.blocks) [] → AreBelow a 0 lists
below_none a lists none =
    let count : ℕ = length a.view.blocks in
    let as_many : length lists ≡ count = ap length none ∙ length-replicate {A = List ℕ} count [] in
    record {
      one_each = as_many;
      each = λ block inside.
          subst (AreBelowOf a 0 block) (sym (ap (λ (xs : List (List ℕ)). nodes_of xs block) none
          ∙ get_or-replicate count block [] [] (omega (arith, inside, as_many)))) (none_of a block);
    }

-- a node whose fetch of the block isn't open
passed_of : (a : Aged) (count block : ℕ) (nodes : List ℕ) → AreBelowOf a count block nodes → (IsOpen a block count → ⊥)
    → AreBelowOf a (count + 1) block nodes
passed_of a count block nodes are other = record {
  rising = are.rising;
  members = λ n. (
    λ there. let is = (are.members n).0 there in (omega (arith, is.0), is.1),
    λ is. elim (cases_eq count n) [
      | inl last ↦ absurd (other (subst (IsOpen a block) (sym last) is.1))
      | inr before ↦ (are.members n).1 (omega (arith, is.0, before), is.1)
    ],
  );
}

-- one whose fetch of it is open
more_of : (a : Aged) (count block : ℕ) (nodes : List ℕ) → AreBelowOf a count block nodes → IsOpen a block count
    → AreBelowOf a (count + 1) block (nodes ++ count ∷ [])
more_of a count block nodes are is_open = record {
  rising = all_pairs_push (λ n m. n < m) nodes count are.rising
      (λ k d inside. ((are.members (get_or nodes k d)).0 (Contains-get_or nodes k d inside)).0);
  members = λ n. (
    λ there. elim (Contains-push_cases nodes count n there) [
      | inl before ↦ let is = (are.members n).0 before in (omega (arith, is.0), is.1)
      | inr last ↦ (omega (arith, last), subst (IsOpen a block) last is_open)
    ],
    λ is. elim (cases_eq count n) [
      | inl last ↦ subst (Contains (nodes ++ count ∷ [])) last (Contains-push nodes count)
      | inr before ↦
          Contains-append_left nodes (count ∷ []) n ((are.members n).1 (omega (arith, is.0, before), is.1))
    ],
  );
}

-- a node that isn't open
pub below_passed : (a : Aged) (count : ℕ) (lists : List (List ℕ)) → AreBelow a count lists
    → ((block : ℕ) → IsOpen a block count → ⊥) → AreBelow a (count + 1) lists
below_passed a count lists are other = record {
  one_each = are.one_each;
  each = λ block inside. passed_of a count block (nodes_of lists block) (are.each block inside) (other block);
}

-- a node whose fetch of a block is open stands after the others of that block
pub below_more : (a : Aged) (count block : ℕ) (lists more : List (List ℕ)) → AreBelow a count lists
    → IsOpen a block count → block < length lists
    → more ≡ slice_set lists block (nodes_of lists block ++ count ∷ []) → AreBelow a (count + 1) more
below_more a count block lists more are is_open inside is = subst (AreBelow a (count + 1)) (sym is) (record {
  one_each = length-set lists block last ∙ are.one_each;
  each = λ local within.
      let below : local < length lists = omega (arith, within, length-set lists block last) in
      elim (cases_eq block local) [
        | inl same ↦
            subst (λ (b : ℕ). AreBelowOf a (count + 1) b (nodes_of (slice_set lists block last) b)) same
            (subst (AreBelowOf a (count + 1) block) (sym (get_or-set_same lists block last [] inside))
            (more_of a count block (nodes_of lists block) (are.each block inside) is_open))
        | inr other ↦
            subst (AreBelowOf a (count + 1) local)
            (sym (get_or-set_other lists block local last [] (λ same. other (sym same))))
            (passed_of a count local (nodes_of lists local) (are.each local below)
            (λ here. other (fetches_one a.view count block local is_open.fetches here.fetches)))
      ];
})
  where
    last : List ℕ
    last = nodes_of lists block ++ count ∷ []

-- all nodes
pub below_all : (a : Aged) (count : ℕ) (lists : List (List ℕ)) → AreBelow a count lists
    → length a.view.fetches ≡ count → AreOpen a lists
below_all a count lists are all = record {
  one_each = are.one_each;
  each = λ block inside.
      let of = are.each block inside in
      record {
        rising = of.rising;
        members = λ n. (
          λ there. ((of.members n).0 there).1,
          λ is. (of.members n).1 (omega (arith, all, fetch_inside a.view.fetches n block is.fetches), is),
        );
      };
}

-- where all lists are empty no fetch is open
pub none_open : (a : Aged) → AreAges a → (lists : List (List ℕ)) → AreOpen a lists → AreEmpty lists
    → (block n : ℕ) → IsOpen a block n → ⊥
none_open a are lists exactly empty block n is =
    let inside : block < length lists = omega (arith, are.is_view.within n block is.fetches, exactly.one_each) in
    none_there n (subst (λ (nodes : List ℕ). Contains nodes n) (empty block inside)
    (((exactly.each block inside).members n).1 is))

-- the list of a block is that of what is kept for it
pub kept_of : (lists : List (Vec ℕ Global)) (block : ℕ) (nodes : Vec ℕ Global) → block < length lists
    → nodes ≡ get_or lists block nodes → nodes.items ≡ nodes_of (lists_seen lists) block
kept_of lists block nodes inside is = ap items_of is ∙ sym (get_or-map items_of lists block nodes [] inside)
