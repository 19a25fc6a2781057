use Rattle.std.proofs.Common.{◌≡◌, ◌<◌, ◌≤◌, length, ap, ◌∙◌, arith, length-append}
use Rattle.focus_plain.specs.Entries.{trail_of}
use Rattle.path_model.specs.Graph.{IsGraph}
use Rattle.focus_plain.proofs.Links.{length-trail}
use Rattle.focus_plain.proofs.Begun.{search_begun, spread_more}
use Rattle.focus_plain.proofs.search.find_entries.Goals as goal

pub loop-index-init : goal.loop-index-init
loop-index-init c =
    let same : length c.nodes.result.now ≡ length c.args.focus.now.view.now.nodes =
    ap length (c.nodes.ensures.same ∙ c.graph.ensures.same) in
    let graph : IsGraph c.graph.result.now = c.nodes.ensures.graph in
    let some : 1 ≤ length c.nodes.result.now = omega (arith, graph.some, ap length c.nodes.ensures.same) in
    record {
      search = search_begun c.in_ok-search.search (length c.nodes.result.now) c.args.focus.now.start some
          c.in_ok-search.ensures.entries
          c.in_ok-search.ensures.sets c.in_ok-search.ensures.latest c.args.focus.now.view.now c.args.focus.now.block
          c.requires.some_ways same;
      within = omega arith;
      spread = λ number m below edge. absurd (omega arith);
    }

pub loop-index-preserved : goal.loop-index-preserved
loop-index-preserved c =
    let old = c.loop-index.search in
    let new = c.spread.new.search in
    let inside : c.loop-index.index < length old.entries.items =
    omega (arith, c.loop-index-test.true, c.len.ensures, old.entries.ok.0) in
    let grown = c.in_ok-spread.ensures.extends in
    record {
      search = c.in_ok-spread.ensures.search;
      within = omega (
        arith,
        inside,
        length-trail old.entries.items,
        length-trail new.entries.items,
        ap length grown.trail.1,
        length-append (trail_of old.entries.items) grown.trail.0,
      );
      spread = spread_more c.args.focus.now.view.now c.args.focus.now.start c.args.focus.now.block old new
          c.loop-index.index c.loop-index.invariant.search grown
          inside c.loop-index.invariant.spread c.in_ok-spread.ensures.spread;
    }
