use Rattle.std.proofs.lemmas.List.Filters.{dedup_is}
use Rattle.std.proofs.lemmas.List.Kept.{Contains-dedup_nat, Contains-from_dedup}
use Rattle.std.proofs.lemmas.List.Sorted.{Contains-permutation, IsPermutation-sym}
use Rattle.std.proofs.lemmas.Map.Keys.{IsStrictlyIncreasing-dedup}
use Rattle.node_verdicts.proofs.verdicts.rising.Goals as goal

pub returns-clause-rising : goal.returns-clause-rising
returns-clause-rising c =
    rw (dedup_is _ _ _ c.dedup.ensures.filtered) (IsStrictlyIncreasing-dedup _ c.in_ok-sort.ensures.sorted)

pub returns-clause-same : goal.returns-clause-same
returns-clause-same c block =
    let moved = c.in_ok-sort.ensures.permutation in
    let is = dedup_is _ _ _ c.dedup.ensures.filtered in (
      λ there.
          let sorted = Contains-from_dedup _ _ block (rw is at there) in
          Contains-permutation _ _ block (IsPermutation-sym _ _ moved) sorted,
      λ there. rw is (Contains-dedup_nat _ block (Contains-permutation _ _ block moved there)),
    )
