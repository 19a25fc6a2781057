use Rattle.std.proofs.Common.{◌-◌, ◌^◌, ◌≤◌, length}
use Rattle.focus_plain.specs.Entries.{trail_of, seen_of, IsSpread}
use Rattle.focus_plain.specs.Search.{IsSearch}
use Rattle.focus_plain.proofs.search.find_entries.Given as goal

abbrev pub invariant-loop-index : goal.invariant-loop-index
invariant-loop-index l = record {
  search : IsSearch l.focus.view.now l.focus.start l.focus.block l.search;
  within : l.index ≤ length l.search.entries.items;
  spread : IsSpread l.focus.view.now l.focus.block (trail_of l.search.entries.items)
      (seen_of l.search.sets.items l.search.entries.items) l.index;
}

abbrev pub decreases-loop-index : goal.decreases-loop-index
decreases-loop-index l = 2 ^ 32 - l.index
