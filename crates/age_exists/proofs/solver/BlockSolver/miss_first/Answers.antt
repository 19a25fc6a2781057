use Rattle.std.proofs.Common.{◌≡◌, ℕ, ◌<◌, false, List, length, Some, sym, ap, ◌∙◌, subst, arith}
use Rattle.std.proofs.lemmas.List.{length-map}
use Rattle.lattice_fix.specs.Framework.{Framework}
use Rattle.focus_spec.specs.Younger.{fetch_at}
use Rattle.age_spec.specs.Ages.{age_at}
use Rattle.age_spec.specs.Exists.{miss_framework}
use Rattle.age_exists.specs.declared.retracing.Step.{Step}
use Rattle.age_exists.specs.FirstBounds.{AreFirstBounds}
use Rattle.age_exists.specs.Seen.{entry_seen, entries_seen}
use Rattle.age_exists.specs.Solving.{Solving, MissesFirst}
use Rattle.age_exists.proofs.Own.{fetch_inside, over_ages}
use Rattle.age_exists.proofs.Missing.{misses_first}
use Rattle.age_exists.proofs.solver.BlockSolver.miss_first.Goals as goal

pub are_all-requires : goal.are_all-requires
are_all-requires c = λ n has.
    let s : Solving = c.args.self.now in
    let steps = c.self.inside.firsts.items in
    let solving = c.self.invariant.solving in
    omega (
      arith,
      fetch_inside s.view n c.args.block (c.requires.fetch n has),
      ap (λ (s : Solving). length s.view.fetches) c.self.view_is,
      solving.is_view.one_each,
      solving.firsts.one_each,
      length-map steps entry_seen,
      ap length c.deref-2.ensures.value,
      c.in_ok-bounds.ensures.one_each,
      ap length c.deref-3.ensures.value,
    )

pub returns : goal.returns
returns c = λ all n has.
    let view = c.self.inside.view.now in
    let start = c.self.inside.start in
    let may = c.self.inside.may.now in
    let steps : List Step = c.self.inside.firsts.items in
    let block : ℕ = c.args.block in
    let bounds : List ℕ = c.in_ok-bounds.bounds.items in
    let solving = c.self.invariant.solving in
    let known : block < length view.blocks =
    subst (λ (s : Solving). block < length s.view.blocks) (sym c.self.view_is) c.requires.block in
    let fetches : fetch_at view.fetches n ≡ Some block =
    subst (λ (s : Solving). fetch_at s.view.fetches n ≡ Some block) (sym c.self.view_is) (c.requires.fetch n has) in
    let read : List Step = c.deref-2.result.now in
    let are : AreFirstBounds (miss_framework view may block) (entries_seen steps) (length steps) bounds =
    subst (λ (l : List Step). AreFirstBounds (miss_framework view may block) (entries_seen l) (length l) bounds)
    c.deref-2.ensures.value
    (subst (λ (F : Framework ℕ). AreFirstBounds F (entries_seen read) (length read) bounds)
    (over_ages view solving.is_view false start c.deref.result.now may block
    (c.deref.ensures.value ∙ c.self.invariant.ages)) c.in_ok-bounds.ensures) in
    let inside : n < length steps = omega (
      arith,
      fetch_inside view n block fetches,
      solving.is_view.one_each,
      solving.firsts.one_each,
      length-map steps entry_seen,
    ) in
    let shown : age_at bounds n ≡ view.geometry.ways =
    ap (λ (l : List ℕ). age_at l n) (sym c.deref-3.ensures.value)
    ∙ (c.are_all.ensures.0 all n has ∙ c.ways.ensures.same) in
    subst (λ (s : Solving). MissesFirst s n) c.self.view_is
    (misses_first _ solving block known n (age_at bounds n) fetches (are.led n inside) shown)
