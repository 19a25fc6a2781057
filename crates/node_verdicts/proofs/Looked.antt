-- Blocks with open fetches, judged one after another, and what ages settle beside them.
use Rattle.std.proofs.Common.{◌≡◌, ◌⊎◌, ℕ, ◌+◌, ◌<◌, inl, inr, List, [], ◌∷◌, ◌++◌, length, map, Some, sym, ap, ◌∙◌, subst, arith}
use Rattle.std.specs.List.{Contains}
use Rattle.std.proofs.lemmas.Bool.{cases_eq}
use Rattle.std.proofs.lemmas.List.{length-append, length-map}
use Rattle.std.proofs.lemmas.List.Elements.{Contains-push, Contains-push_cases, Contains-append_left}
use Rattle.std.proofs.lemmas.Option.{slice_get-get_or, get_or_from_slice_get}
use Rattle.focus_spec.specs.Younger.{named}
use Rattle.list_lemmas.proofs.Members.{has-map, from-map}
use Rattle.node_spec.specs.declared.verdict.Kept.{Kept}
use Rattle.age_spec.specs.Settled.{HasUnclear}
use Rattle.node_verdicts.specs.Aged.{Aged, AreAges, IsOpen, IsSettled}
use Rattle.node_verdicts.specs.Found.{AreJobsOf}
use Rattle.node_verdicts.specs.Judged.{AreJudged}
use Rattle.node_verdicts.specs.Open.{AreUnclear, IsClearFetch, IsClearOpen}
use Rattle.node_verdicts.specs.declared.judged.Judged.{Judged}
use Rattle.node_verdicts.proofs.Block.{none_there, fetches_one}
use Rattle.node_verdicts.proofs.ByAges.{open_or_not, settled_or_open, unclear_open}
use Rattle.node_verdicts.proofs.Joined.{judged_none, judged_as, judged_both}

-- an open fetch of one of the first blocks, or of the next one
split : (a : Aged) (count n : ℕ) → IsClearOpen a (count + 1) n
    → IsClearOpen a count n ⊎ (IsOpen a count n × (HasUnclear a.view a.start count → ⊥))
split a count n (block, below, is, clear) = elim (cases_eq block count) [
  | inl last ↦ inr (
    subst (λ (b : ℕ). IsOpen a b n) last is,
    subst (λ (b : ℕ). HasUnclear a.view a.start b → ⊥) last clear,
  )
  | inr before ↦ inl (block, omega (arith, below, before), is, clear)
]

-- the first blocks are among those with one more
wider : (a : Aged) (count n : ℕ) → IsClearOpen a count n → IsClearOpen a (count + 1) n
wider a count n (block, below, is, clear) = (block, omega (arith, below), is, clear)

-- no node is one of the first and one of the next
apart : (a : Aged) (count n : ℕ) → IsClearOpen a count n → IsOpen a count n → ⊥
apart a count n (block, below, other, clear) is =
    omega (arith, below, fetches_one a.view n block count other.fetches is.fetches)

-- where no fetch is open nothing is looked at
pub looked_none : (a : Aged) (kept : Kept) (count : ℕ) (judged : List Judged) → judged ≡ []
    → ((block n : ℕ) → block < count → IsOpen a block n → ⊥)
    → AreJudged a.view.nodes a.view.geometry a.start kept (IsClearOpen a count) judged
looked_none a kept count judged none nobody =
    judged_none a.view.nodes a.view.geometry a.start kept (IsClearOpen a count) judged none
    (λ n (block, below, is, clear). nobody block n below is)

-- the open fetches of one more block
pub looked_more : (a : Aged) (kept : Kept) (count : ℕ) (xs ys all : List Judged)
    → AreJudged a.view.nodes a.view.geometry a.start kept (IsClearOpen a count) xs
    → AreJudged a.view.nodes a.view.geometry a.start kept (IsOpen a count) ys
    → (HasUnclear a.view a.start count → ⊥) → all ≡ xs ++ ys
    → AreJudged a.view.nodes a.view.geometry a.start kept (IsClearOpen a (count + 1)) all
looked_more a kept count xs ys all first second clear is =
    judged_both a.view.nodes a.view.geometry a.start kept (IsClearOpen a count) (IsOpen a count)
    (IsClearOpen a (count + 1)) xs ys first second (apart a count) (wider a count)
    (λ n here. (count, omega arith, here, clear))
    (λ n is. elim (split a count n is) [
      | inl before ↦ inl before
      | inr last ↦ inr last.0
    ])
    all is

-- a block without any, or with an unclear one
pub looked_passed : (a : Aged) (kept : Kept) (count : ℕ) (xs : List Judged)
    → AreJudged a.view.nodes a.view.geometry a.start kept (IsClearOpen a count) xs
    → ((n : ℕ) → IsOpen a count n → (HasUnclear a.view a.start count → ⊥) → ⊥)
    → AreJudged a.view.nodes a.view.geometry a.start kept (IsClearOpen a (count + 1)) xs
looked_passed a kept count xs are none =
    judged_as a.view.nodes a.view.geometry a.start kept (IsClearOpen a count) (IsClearOpen a (count + 1)) xs are
    (wider a count)
    (λ n is. elim (split a count n is) [
      | inl before ↦ before
      | inr last ↦ absurd (none n last.0 last.1)
    ])

-- where no fetch is open no block has an unclear one
pub unclear_none : (a : Aged) → AreAges a → (count : ℕ) (unclear : List ℕ) → unclear ≡ []
    → ((block n : ℕ) → block < count → IsOpen a block n → ⊥) → AreUnclear a count unclear
unclear_none a are count unclear none nobody = record {
  members = λ block. (
    λ there. absurd (none_there block (subst (λ (xs : List ℕ). Contains xs block) none there)),
    λ (below, is). absurd (nobody block is.node below (unclear_open a are block is)),
  );
  most = omega (arith, ap length none);
}

-- one more block with an unclear fetch
pub unclear_more : (a : Aged) (count : ℕ) (xs all : List ℕ) → AreUnclear a count xs → HasUnclear a.view a.start count
    → all ≡ xs ++ count ∷ [] → AreUnclear a (count + 1) all
unclear_more a count xs all are has is = record {
  members = λ block. (
    λ there. elim (Contains-push_cases xs count block (subst (λ (ys : List ℕ). Contains ys block) is there)) [
      | inl before ↦ let old = (are.members block).0 before in (omega (arith, old.0), old.1)
      | inr last ↦ (omega (arith, last), subst (HasUnclear a.view a.start) last has)
    ],
    λ (below, unclear). subst (λ (ys : List ℕ). Contains ys block) (sym is) (elim (cases_eq count block) [
      | inl last ↦ subst (λ (b : ℕ). Contains (xs ++ count ∷ []) b) last (Contains-push xs count)
      | inr before ↦
          Contains-append_left xs (count ∷ []) block ((are.members block).1 (omega (arith, below, before), unclear))
    ]),
  );
  most = omega (arith, are.most, ap length is, length-append xs (count ∷ []));
}

-- one without
pub unclear_passed : (a : Aged) (count : ℕ) (xs : List ℕ) → AreUnclear a count xs
    → (HasUnclear a.view a.start count → ⊥) → AreUnclear a (count + 1) xs
unclear_passed a count xs are none = record {
  members = λ block. (
    λ there. let old = (are.members block).0 there in (omega (arith, old.0), old.1),
    λ (below, unclear). elim (cases_eq count block) [
      | inl last ↦ absurd (none (subst (HasUnclear a.view a.start) (sym last) unclear))
      | inr before ↦ (are.members block).1 (omega (arith, below, before), unclear)
    ],
  );
  most = omega (arith, are.most);
}

-- what is settled beside the unclear blocks, and the open fetches of the others, are the fetches of clear blocks
pub judged_beside : (a : Aged) → AreAges a → (kept : Kept) (unclear : List ℕ) (xs ys all : List Judged)
    → AreUnclear a (length a.view.blocks) unclear
    → AreJudged a.view.nodes a.view.geometry a.start kept (IsSettled a unclear) xs
    → AreJudged a.view.nodes a.view.geometry a.start kept (IsClearOpen a (length a.view.blocks)) ys
    → all ≡ xs ++ ys → AreJudged a.view.nodes a.view.geometry a.start kept (IsClearFetch a.view a.start) all
judged_beside a ages kept unclear xs ys all are first second is =
    judged_both a.view.nodes a.view.geometry a.start kept (IsSettled a unclear)
    (IsClearOpen a (length a.view.blocks)) (IsClearFetch a.view a.start) xs ys first second
    (λ n settled (block, below, opened, clear). settled_or_open a unclear block n settled opened)
    (λ n (block, fetches, not, clear). (
      block,
      fetches,
      λ has. clear ((are.members block).1 (ages.is_view.within n block fetches, has)),
    ))
    (λ n (block, below, opened, clear). (block, opened.fetches, clear))
    (λ n (block, fetches, clear). elim (open_or_not a block n) [
      | inl opened ↦ inr (block, ages.is_view.within n block fetches, opened, clear)
      | inr not ↦ inl (block, fetches, not, λ there. clear ((are.members block).0 there).1)
    ])
    all is

-- the numbers of the unclear blocks are the jobs of the view
pub jobs_unclear : (a : Aged) (unclear jobs : List ℕ) → AreUnclear a (length a.view.blocks) unclear
    → jobs ≡ map (named a.view.blocks) unclear → AreJobsOf a.view a.start (length a.view.blocks) jobs
jobs_unclear a unclear jobs are is = subst (AreJobsOf a.view a.start (length a.view.blocks)) (sym is) (record {
  members = λ number. (
    λ there.
        let (local, among, at) = from-map (named a.view.blocks) unclear number there in
        let (below, has) = (are.members local).0 among in
        (local, below, (slice_get-get_or a.view.blocks local 0 below ∙ ap Some at, has)),
    λ (local, below, (at, has)).
        subst (Contains (map (named a.view.blocks) unclear)) (get_or_from_slice_get a.view.blocks local number 0 at)
        (has-map (named a.view.blocks) unclear local ((are.members local).1 (below, has))),
  );
  most = omega (arith, are.most, length-map unclear (named a.view.blocks));
})
