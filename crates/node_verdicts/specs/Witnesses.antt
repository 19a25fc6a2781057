-- Where the paths to the open fetches of a block come from.
use Rattle.std.specs.Prelude.{◌≡◌, ℕ, ◌<◌, Bool, true, false, List, length, Some}
use Rattle.std.specs.List.{Contains}
use Rattle.cache_spec.specs.declared.start.Start.{Start}
use Rattle.focus_spec.specs.Younger.{fetch_at}
use Rattle.set_view.specs.View.{View}
use Rattle.age_spec.specs.Ages.{age_at}
use Rattle.age_spec.specs.Settled.{IsShown, HasUnclear}
use Rattle.age_spec.specs.Sound.{IsWitness}
use Rattle.age_exists.specs.Bounded.{Bounded}
use Rattle.age_exists.specs.Solving.{Solving, MissesFirst}
use Rattle.node_verdicts.specs.declared.witnesses.FirstMisses.{FirstMisses}
use Rattle.node_verdicts.specs.declared.witnesses.BothBounds.{BothBounds}
use Rattle.node_verdicts.specs.declared.witnesses.Witnesses.{Witnesses}
use Rattle.node_verdicts.specs.declared.witnesses.Witnesses.TheVariants.{Firsts, Bounds}
use Rattle.node_verdicts.specs.Aged.{Aged, IsOpen}

-- the view and the ages that a solver has
abbrev pub aged_of : Solving → Aged
aged_of s = record { view = s.view; start = s.start; must = s.must; may = s.may }

-- some path to the node can hit there, or miss where `hits` is false
abbrev pub HasWitness : View → Start → ℕ → Bool → Type 0
HasWitness view start n hits = (members : List ℕ) × IsWitness view start n hits members

-- the bound before a node shows a path
abbrev pub IsBoundShown : Bounded → ℕ → Type 0
IsBoundShown b n = IsShown b.hits b.view.geometry.ways (age_at b.bounds n)

-- the nodes are some that fetch the block
abbrev pub AreFetches : Bounded → List ℕ → Type 0
AreFetches b nodes = (n : ℕ) → Contains nodes n
    → (n < length b.view.nodes) × (fetch_at b.view.fetches n ≡ Some b.block)

-- the node fetches the block, and there is a path that its bound shows
pub record IsShownAt (b : Bounded) (n : ℕ) : Type 0 where
  pub fetches : fetch_at b.view.fetches n ≡ Some b.block
  pub shown : IsBoundShown b n
  pub some : HasWitness b.view b.start n b.hits

-- the same at each of the nodes
abbrev pub AreAllShown : Bounded → List ℕ → Type 0
AreAllShown b nodes = (n : ℕ) → Contains nodes n → IsShownAt b n

-- the bound before one of them shows no path
abbrev pub IsSomeNotShown : Bounded → List ℕ → Type 0
IsSomeNotShown b nodes = (n : ℕ) × Contains nodes n × (IsBoundShown b n → ⊥)

-- the bounds show a path to a hit at the node, and the first path to it can miss there
pub record IsShownFirst (firsts : FirstMisses) (n : ℕ) : Type 0 where
  pub hits : firsts.hit.hits ≡ true
  pub view : firsts.solver.now.view ≡ firsts.hit.view
  pub start : firsts.solver.now.start ≡ firsts.hit.start
  pub hit : IsShownAt firsts.hit n
  pub miss : MissesFirst firsts.solver.now n

-- the bounds show a path to a hit at the node, and one to a miss
pub record AreShownAt (bounds : BothBounds) (n : ℕ) : Type 0 where
  pub hits : bounds.hit.hits ≡ true
  pub misses : bounds.miss.hits ≡ false
  pub view : bounds.miss.view ≡ bounds.hit.view
  pub start : bounds.miss.start ≡ bounds.hit.start
  pub hit : IsShownAt bounds.hit n
  pub miss : IsShownAt bounds.miss n

-- the view whose paths they are
abbrev pub view_of : Witnesses → View
view_of (Firsts firsts) = firsts.hit.view
view_of (Bounds bounds) = bounds.hit.view

-- and what its set may hold at first
abbrev pub start_of : Witnesses → Start
start_of (Firsts firsts) = firsts.hit.start
start_of (Bounds bounds) = bounds.hit.start

-- it is known what the paths can do that end in a node: paths of both kinds are shown
abbrev pub IsKnownAt : Witnesses → ℕ → Type 0
IsKnownAt (Firsts firsts) n = IsShownFirst firsts n
IsKnownAt (Bounds bounds) n = AreShownAt bounds n

-- it is known of each open fetch of the block, none of which is unclear
pub record AreWitnesses (a : Aged) (block : ℕ) (w : Witnesses) : Type 0 where
  pub view : view_of w ≡ a.view
  pub start : start_of w ≡ a.start
  pub known : (n : ℕ) → IsOpen a block n → IsKnownAt w n
  pub clear : HasUnclear a.view a.start block → ⊥
