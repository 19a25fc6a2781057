use Rattle.std.proofs.Common.{refl, sym, ◌∙◌, subst}
use Rattle.std.specs.List.{Contains}
use Rattle.node_verdicts.specs.Aged.{Aged, AreAges}
use Rattle.node_verdicts.proofs.Shown.{hits_of, misses_of, open_fetches, unclear_hit, unclear_miss, none_unclear_first, none_unclear_both}
use Rattle.node_verdicts.proofs.witnesses.find_witnesses.Goals as goal

pub are_shown-requires-clause-fetches : goal.are_shown-requires-clause-fetches
are_shown-requires-clause-fetches c =
    let a : Aged = c.args.ages.now in
    let is = c.in_ok-hit.ensures in
    let hits = hits_of a c.args.solver.now c.args.block c.in_ok-hit.hit c.requires.solver is.view is.start is.block is.hits
    is.bounds in
    open_fetches a (subst AreAges c.ages.view_is c.ages.invariant) c.args.block c.in_ok-hit.hit hits.view hits.block_is
    c.args.nodes.now c.requires.nodes

pub returns-then-not-are_shown-clause-none : goal.returns-then-not-are_shown-clause-none
returns-then-not-are_shown-clause-none c =
    let a : Aged = c.args.ages.now in
    let is = c.in_ok-hit.ensures in
    let hits = hits_of a c.args.solver.now c.args.block c.in_ok-hit.hit c.requires.solver is.view is.start is.block is.hits
    is.bounds in
    unclear_hit a (subst AreAges c.ages.view_is c.ages.invariant) c.args.block c.in_ok-hit.hit hits c.args.nodes.now
    c.requires.nodes (c.if-not-are_shown.ensures.some refl)

pub returns-then-branch-clause-some : goal.returns-then-branch-clause-some
returns-then-branch-clause-some c =
    let a : Aged = c.args.ages.now in
    let is = c.in_ok-hit.ensures in
    let hits = hits_of a c.args.solver.now c.args.block c.in_ok-hit.hit c.requires.solver is.view is.start is.block is.hits
    is.bounds in
    let first = c.in_ok-miss_first.ensures c.if-branch.true in
    let shown = c.are_shown.ensures.all c.if-not-are_shown.false in
    record {
      view = hits.view;
      start = hits.start;
      known = λ n is_open.
          let there : Contains c.args.nodes.now n = (c.requires.nodes.members n).1 is_open in
          record {
            hits = hits.hits;
            view = sym is.view;
            start = sym is.start;
            hit = shown n there;
            miss = first n there;
          };
      clear = none_unclear_first a (subst AreAges c.ages.view_is c.ages.invariant) c.args.block
          c.in_ok-hit.hit hits c.args.nodes.now c.requires.nodes shown c.args.solver.now c.requires.solver first;
    }

pub are_shown-requires-2-clause-fetches : goal.are_shown-requires-2-clause-fetches
are_shown-requires-2-clause-fetches c =
    let a : Aged = c.args.ages.now in
    let is = c.in_ok-miss.ensures in
    let misses = misses_of a c.args.solver.now c.args.block c.in_ok-miss.miss c.requires.solver is.view is.start is.block
    is.hits is.bounds in
    open_fetches a (subst AreAges c.ages.view_is c.ages.invariant) c.args.block c.in_ok-miss.miss misses.view
    misses.block_is c.args.nodes.now c.requires.nodes

pub returns-then-not-are_shown-2-clause-none : goal.returns-then-not-are_shown-2-clause-none
returns-then-not-are_shown-2-clause-none c =
    let a : Aged = c.args.ages.now in
    let is = c.in_ok-miss.ensures in
    let misses = misses_of a c.args.solver.now c.args.block c.in_ok-miss.miss c.requires.solver is.view is.start is.block
    is.hits is.bounds in
    unclear_miss a (subst AreAges c.ages.view_is c.ages.invariant) c.args.block c.in_ok-miss.miss misses c.args.nodes.now
    c.requires.nodes (c.if-not-are_shown-2.ensures.some refl)

pub returns-clause-some : goal.returns-clause-some
returns-clause-some c =
    let a : Aged = c.args.ages.now in
    let hit = c.in_ok-hit.ensures in
    let miss = c.in_ok-miss.ensures in
    let hits = hits_of a c.args.solver.now c.args.block c.in_ok-hit.hit c.requires.solver hit.view hit.start hit.block
    hit.hits hit.bounds in
    let misses = misses_of a c.args.solver.now c.args.block c.in_ok-miss.miss c.requires.solver miss.view miss.start
    miss.block miss.hits miss.bounds in
    let shown = c.are_shown.ensures.all c.if-not-are_shown.false in
    let missed = c.are_shown-2.ensures.all c.if-not-are_shown-2.false in
    record {
      view = hits.view;
      start = hits.start;
      known = λ n is_open.
          let there : Contains c.args.nodes.now n = (c.requires.nodes.members n).1 is_open in
          record {
            hits = hits.hits;
            misses = misses.hits;
            view = misses.view ∙ sym hits.view;
            start = misses.start ∙ sym hits.start;
            hit = shown n there;
            miss = missed n there;
          };
      clear = none_unclear_both a (subst AreAges c.ages.view_is c.ages.invariant) c.args.block
          c.in_ok-hit.hit c.in_ok-miss.miss hits misses c.args.nodes.now c.requires.nodes shown missed;
    }
