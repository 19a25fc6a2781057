use Rattle.std.proofs.Common.{◌≡◌, ◌<◌, ℕ, ◌+◌, ◌++◌, List, Vec, Global, Option, Some, None, length, sym, ap, ◌∙◌, subst, arith}
use Rattle.std.specs.Prelude.{IfSome, IfNone}
use Rattle.std.proofs.lemmas.Bool.{eqb-true}
use Rattle.std.proofs.lemmas.List.{append-nil}
use Rattle.node_spec.specs.declared.verdict.Kept.{Kept}
use Rattle.age_spec.specs.Settled.{HasUnclear}
use Rattle.node_verdicts.specs.Aged.{Aged, AreAges, IsOpen}
use Rattle.node_verdicts.specs.Judged.{AreJudged}
use Rattle.node_verdicts.specs.Open.{AreOpenOf, AreUnclear, IsClearOpen, judged_in, unclear_with}
use Rattle.node_verdicts.specs.declared.judged.Judged.{Judged}
use Rattle.node_verdicts.specs.declared.one_set.OpenFound.{OpenFound}
use Rattle.node_verdicts.proofs.ByAges.{unclear_open}
use Rattle.node_verdicts.proofs.Looked.{looked_none, looked_more, looked_passed, unclear_none, unclear_more, unclear_passed}
use Rattle.node_verdicts.proofs.one_set.judge_blocks.Goals as goal
use Rattle.node_verdicts.proofs.one_set.judge_blocks.Goals.{then-not-is_empty+in_ok-judge_block+in_ok-add, else-not-is_empty}

-- what is known once the blocks below the count are looked at
record IsSoFar (a : Aged) (kept : Kept) (count : ℕ) (found : List Judged) (blocks : List ℕ) : Type 0 where
  judged : AreJudged a.view.nodes a.view.geometry a.start kept (IsClearOpen a count) found
  unclear : AreUnclear a count blocks

-- one more block, whose open fetches are judged, or one of whose fetches is unclear
so_far_more : (a : Aged) (kept : Kept) (count : ℕ) (one : Option (Vec Judged Global)) (judged more : List Judged)
    (unclear with_it : List ℕ) → IsSoFar a kept count judged unclear
    → IfSome one (λ xs. AreJudged a.view.nodes a.view.geometry a.start kept (IsOpen a count) xs.items)
    → IfSome one (λ xs. HasUnclear a.view a.start count → ⊥) → IfNone one (HasUnclear a.view a.start count)
    → more ≡ judged ++ judged_in one → with_it ≡ unclear_with one count unclear → IsSoFar a kept (count + 1) more with_it
so_far_more a kept count (Some xs) judged more unclear with_it so_far are clear has more_is with_is = record {
  judged = looked_more a kept count judged xs.items more so_far.judged are clear more_is;
  unclear = subst (AreUnclear a (count + 1)) (sym with_is) (unclear_passed a count unclear so_far.unclear clear);
}
so_far_more a kept count None judged more unclear with_it so_far are clear has more_is with_is = record {
  judged = subst (AreJudged a.view.nodes a.view.geometry a.start kept (IsClearOpen a (count + 1)))
      (sym (more_is ∙ append-nil judged))
      (looked_passed a kept count judged so_far.judged (λ n opened clear. clear has));
  unclear = unclear_more a count unclear with_it so_far.unclear has with_is;
}

pub judge_block-requires-clause-nodes : goal.judge_block-requires-clause-nodes
judge_block-requires-clause-nodes c =
    let all : length c.args.fetches.now ≡ length c.blocks-blocks.result.now =
    c.requires.fetches.one_each
    ∙ sym (ap length (c.blocks-blocks.ensures.same ∙ ap (λ (b : Aged). b.view.blocks) c.ages.view_is)) in
    subst (AreOpenOf c.args.ages.now c.loop-block.block) (sym c.of_block-nodes.ensures)
    (c.requires.fetches.each c.loop-block.block (omega (arith, c.loop-block-test.true, all)))

pub loop-block-init : goal.loop-block-init
loop-block-init c =
    let a : Aged = c.args.ages.now in
    let are : AreAges a = subst AreAges c.ages.view_is c.ages.invariant in
    let nobody : (block n : ℕ) → block < 0 → IsOpen a block n → ⊥ = λ block n below. absurd (omega (arith, below)) in
    record {
      judged = looked_none a c.args.kept 0 c.none-found.result.judged.items c.none-found.ensures.judged nobody;
      unclear = unclear_none a are 0 c.none-found.result.unclear.items c.none-found.ensures.unclear nobody;
    }

pub loop-block-preserved : goal.loop-block-preserved
loop-block-preserved c =
    let a : Aged = c.args.ages.now in
    let are : AreAges a = subst AreAges c.ages.view_is c.ages.invariant in
    let block = c.loop-block.block in
    let before = c.loop-block.found in
    let so_far : IsSoFar a c.args.kept block before.judged.items before.unclear.items = record {
      judged = c.loop-block.invariant.judged;
      unclear = c.loop-block.invariant.unclear;
    } in
    elim c.if-not-is_empty.branch [
      | then-not-is_empty+in_ok-judge_block+in_ok-add w ↦
          let more = so_far_more a c.args.kept block w.in_ok-judge_block.field-0 before.judged.items
          c.if-not-is_empty.found.judged.items before.unclear.items c.if-not-is_empty.found.unclear.items so_far
          w.in_ok-judge_block.ensures.judged w.in_ok-judge_block.ensures.clear w.in_ok-judge_block.ensures.unclear
          (ap (λ (f : OpenFound). f.judged.items) w.found-is ∙ w.in_ok-add.ensures.judged)
          (ap (λ (f : OpenFound). f.unclear.items) w.found-is ∙ w.in_ok-add.ensures.unclear) in
          record { judged = more.judged; unclear = more.unclear }
      | else-not-is_empty w ↦
          let all : length c.args.fetches.now ≡ length c.blocks-blocks.result.now =
          c.requires.fetches.one_each
          ∙ sym (ap length (c.blocks-blocks.ensures.same ∙ ap (λ (b : Aged). b.view.blocks) c.ages.view_is)) in
          let nodes : List ℕ = c.of_block-nodes.result.now in
          let exactly : AreOpenOf a block nodes =
          subst (AreOpenOf a block) (sym c.of_block-nodes.ensures)
          (c.requires.fetches.each block (omega (arith, c.loop-block-test.true, all))) in
          let empty : length nodes ≡ 0 = eqb-true (length nodes) 0 (sym c.is_empty.ensures ∙ w.if-not-is_empty.false) in
          let none : (n : ℕ) → IsOpen a block n → ⊥ =
          λ n is. let (k, inside, at) = (exactly.members n).1 is in omega (arith, inside, empty) in
          subst (λ (f : OpenFound). record {
            judged : AreJudged a.view.nodes a.view.geometry a.start c.args.kept (IsClearOpen a (block + 1)) f.judged.items;
            unclear : AreUnclear a (block + 1) f.unclear.items;
          }) (sym w.found-is) (record {
            judged = looked_passed a c.args.kept block before.judged.items so_far.judged (λ n is clear. none n is);
            unclear = unclear_passed a block before.unclear.items so_far.unclear
                (λ unclear. none unclear.node (unclear_open a are block unclear));
          })
    ]

-- all blocks are looked at
all_blocks : (c : goal.After-loop-block) → c.loop-block.block ≡ length c.args.ages.now.view.blocks
all_blocks c =
    omega (
      arith,
      c.loop-block-test.false,
      c.loop-block.auto.block-end,
      ap length (c.blocks-blocks.ensures.same ∙ ap (λ (b : Aged). b.view.blocks) c.ages.view_is),
    )

pub returns-clause-judged : goal.returns-clause-judged
returns-clause-judged c =
    let a : Aged = c.args.ages.now in
    subst (λ (count : ℕ). AreJudged a.view.nodes a.view.geometry a.start c.args.kept (IsClearOpen a count)
    c.loop-block.found.judged.items) (all_blocks c) c.loop-block.invariant.judged

pub returns-clause-unclear : goal.returns-clause-unclear
returns-clause-unclear c =
    subst (λ (count : ℕ). AreUnclear c.args.ages.now count c.loop-block.found.unclear.items) (all_blocks c)
    c.loop-block.invariant.unclear
