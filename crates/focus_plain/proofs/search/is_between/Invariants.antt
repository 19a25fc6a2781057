use Rattle.std.proofs.Common.{◌≡◌, ℕ, ◌<◌, true, Some, length}
use Rattle.path_trail.specs.Trail.{node_at}
use Rattle.focus_plain.specs.Entries.{reached_set, trail_of, seen_of, HasBelow, HasAbove}
use Rattle.focus_plain.proofs.Links.{left}
use Rattle.focus_plain.proofs.search.is_between.Given as goal

abbrev pub invariant-loop-next : goal.invariant-loop-next
invariant-loop-next l = record {
  below : l.below ≡ true
      → HasBelow (trail_of l.search.entries.items) (seen_of l.search.sets.items l.search.entries.items) l.to
      (reached_set l.search.sets.items l.reached);
  above : l.above ≡ true
      → HasAbove (trail_of l.search.entries.items) (seen_of l.search.sets.items l.search.entries.items) l.to
      (reached_set l.search.sets.items l.reached);
  next : (number : ℕ) → l.next ≡ Some number
      → (number < length l.search.entries.items) × (node_at (trail_of l.search.entries.items) number ≡ l.to);
}

abbrev pub decreases-loop-next : goal.decreases-loop-next
decreases-loop-next l = left l.next
