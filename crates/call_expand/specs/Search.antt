-- A search layer by layer: what is known of the states so far, and what the next layer is.
use Rattle.std.specs.Prelude.{◌≡◌, ℕ, ◌<◌, ◌≤◌, List, [], ◌∷◌, ◌++◌, length, Result, IsTrue, Contains, take, drop}
use Rattle.std.specs.List.{AllByRecursion, AllZip}
use Rattle.std.specs.List.Sorted.{IsStrictlySortedBy}
use Rattle.std.specs.declared.cmp.Ordering.{Ordering}
use Rattle.transition_spec.specs.Path.{IsSuccessor}
use Rattle.transition_spec.specs.Layer.{IsReachedIn, all_of}
use Rattle.flow_spec.specs.Program.{Program}
use Rattle.flow_spec.specs.Acceptance.{Step, AreLayers, IsFaultless, fetch_limit, is_good_entry}
use Rattle.flow_spec.specs.Successors.{successors}
use Rattle.flow_spec.specs.Configuration.{Configuration, start_of}
use Rattle.frame_stacks.specs.declared.stacks.StackCell.{StackCell}
use Rattle.frame_stacks.specs.Stacks.{AreCells}
use Rattle.call_expand.specs.Expansion.{numbered}
use Rattle.call_expand.specs.Point.{configurations_at, ArePoints, IsEdge}
use Rattle.call_expand.specs.declared.point.Point.{Point}
use Rattle.call_expand.specs.declared.point.Edges.{Edges}
use Rattle.call_expand.specs.declared.search.Search.{Search}

-- the states of layers 0 to n, those of the last layer last; each successor of one before is among them
pub record IsSearched {C F : Type 0} (step : C → Result (List C) F) (start : C) (n : ℕ)
    (before last : List C) : Type 0 where
  pub reached : (c : C) → Contains (before ++ last) c → (m : ℕ) × (m ≤ n) × IsReachedIn step start m c
  pub last_reached : (c : C) → Contains last c → IsReachedIn step start n c
  pub covered : (m : ℕ) (c : C) → m ≤ n → IsReachedIn step start m c → Contains (before ++ last) c
  pub closed : (b c : C) → Contains before b → IsSuccessor step b c → Contains (before ++ last) c

-- the successors of the last layer that aren't among the states so far, in order
pub record AreNext {C F : Type 0} (step : C → Result (List C) F) (order : C → C → Ordering)
    (before last next : List C) : Type 0 where
  pub sorted : IsStrictlySortedBy order next
  pub follow : (c : C) → Contains next c → (b : C) × Contains last b × IsSuccessor step b c
  pub unseen : (c : C) → Contains next c → Contains (before ++ last) c → ⊥
  pub all : (b c : C) → Contains last b → IsSuccessor step b c → Contains ((before ++ last) ++ next) c

-- each configuration but the first follows one with a smaller number
abbrev pub FollowSmaller : Step → List Configuration → Type 0
FollowSmaller step configurations = (m : ℕ) → 1 ≤ m → m < length configurations
    → (n : ℕ) × (n < m) × IsSuccessor step (numbered configurations n) (numbered configurations m)

-- the layers up to the last one, which isn't followed yet; no configuration before it has a fault
pub record IsWalked (step : Step) (program : Program) (before last : List Configuration) : Type 0 where
  pub earlier : List (List Configuration)
  pub all : all_of earlier ≡ before
  pub entry_is_good : IsTrue (is_good_entry program)
  pub are_layers : AreLayers step program.entry (earlier ++ last ∷ [])
  pub faultless : AllByRecursion (IsFaultless step) before
  pub searched : IsSearched step (start_of program.entry) (length earlier) before last
  pub some : 1 ≤ length (before ++ last)
  pub follow_smaller : FollowSmaller step (before ++ last)
  pub begins : numbered (before ++ last) 0 ≡ start_of program.entry
  pub few : length (before ++ last) ≤ fetch_limit

-- the search is at the layer that begins with this number
pub record IsAt (program : Program) (cells : List StackCell) (points : List Point) (edges : List Edges)
    (start : ℕ) : Type 0 where
  pub are_cells : AreCells cells
  pub are_points : ArePoints program cells points
  pub within : start ≤ length points
  pub each : AllZip (IsEdge (successors program) program cells) (take start points) edges
  pub room : length cells ≤ start
  pub walked : IsWalked (successors program) program (configurations_at cells (take start points))
      (configurations_at cells (drop start points))

-- the search has its cells, points and edges at the layer that begins with this number
abbrev pub IsSearchAt : Program → Search → ℕ → Type 0
IsSearchAt program search start =
    IsAt program search.stacks search.known search.edges.items start
