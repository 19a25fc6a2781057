use Rattle.std.proofs.Common.{ap, sym, arith, length, List, ℕ, subst}
use Rattle.std.specs.List.{Contains}
use Rattle.std.proofs.lemmas.List.Filters.{dedup_is}
use Rattle.std.proofs.lemmas.List.Kept.{Contains-dedup_nat, Contains-from_dedup}
use Rattle.std.proofs.lemmas.List.Sorted.{Contains-permutation, IsPermutation-sym}
use Rattle.std.proofs.lemmas.Map.Keys.{IsStrictlyIncreasing-dedup}
use Rattle.set_view.proofs.Members.{listed-fetched, fetched-listed, length-blocks_of}
use Rattle.set_view.proofs.fetched.fetched_blocks.Goals as goal

pub returns-clause-fetched : goal.returns-clause-fetched
returns-clause-fetched c =
    let nodes = c.args.nodes.now in
    let g = c.args.geometry.now in
    let listed = c.in_ok-blocks.ensures in
    let moved = c.in_ok-sort.ensures.permutation in
    let is = dedup_is _ _ _ c.dedup.ensures.filtered in
    record {
      rising = rw is (IsStrictlyIncreasing-dedup _ c.in_ok-sort.ensures.sorted);
      members = λ block. (
        λ inside.
            let sorted = Contains-from_dedup _ _ block (rw is at inside) in
            let P : List ℕ → Type 0 = λ xs. Contains xs block in
            listed-fetched nodes g c.args.set block (subst P listed
            (Contains-permutation _ _ block (IsPermutation-sym _ _ moved) sorted)),
        λ fetched.
            let P : List ℕ → Type 0 = λ xs. Contains xs block in
            rw is (Contains-dedup_nat _ block (Contains-permutation _ _ block moved
            (subst P (sym listed) (fetched-listed nodes g c.args.set block fetched)))),
      );
    }

pub returns-clause-few : goal.returns-clause-few
returns-clause-few c =
    omega (
      arith,
      length-blocks_of c.args.nodes.now c.args.geometry.now c.args.set,
      ap length c.in_ok-blocks.ensures,
      c.in_ok-sort.ensures.len,
      c.dedup.ensures.bound,
      c.in_ok-blocks.blocks.ok,
    )
