-- Which verdict is right of a node: it is that of all paths of the graph that end in the node, from each cache that
-- they may start with.
use Rattle.std.specs.Prelude.{◌≡◌, ℕ, Bool, true, false, List, Some, None, slice_get}
use Rattle.cache_spec.specs.Geometry.{Geometry}
use Rattle.cache_spec.specs.declared.start.Start.{Start}
use Rattle.path_model.specs.declared.graph.Node.{Node}
use Rattle.path_model.specs.Graph.{address_of}
use Rattle.focus_spec.specs.Fate.{AllEnd, NamesEnd}
use Rattle.node_spec.specs.declared.verdict.Ways.{Ways}
use Rattle.node_spec.specs.declared.verdict.NodeVerdict.{NodeVerdict}
use Rattle.node_spec.specs.declared.verdict.NodeVerdict.TheVariants.{Hits, Misses, Both}
use Rattle.node_spec.specs.declared.verdict.Kept.{Kept}
use Rattle.node_spec.specs.declared.verdict.Kept.TheVariants.{EachNode, EachAddress}

-- the verdict is right of the node
abbrev pub IsNodeVerdict : List Node → Geometry → Start → ℕ → NodeVerdict → Type 0
IsNodeVerdict nodes g start n Hits = AllEnd nodes g start n true
IsNodeVerdict nodes g start n Misses = AllEnd nodes g start n false
IsNodeVerdict nodes g start n (Both None) =
    (AllEnd nodes g start n true → ⊥) × (AllEnd nodes g start n false → ⊥)
IsNodeVerdict nodes g start n (Both (Some ways)) =
    NamesEnd nodes g start n ways.hit true × NamesEnd nodes g start n ways.miss false

-- the list has a verdict for the node, and it is right
abbrev pub IsRightAt : List Node → Geometry → Start → List NodeVerdict → ℕ → Type 0
IsRightAt nodes g start verdicts n = (verdict : NodeVerdict) × (slice_get verdicts n ≡ Some verdict)
    × IsNodeVerdict nodes g start n verdict

-- the ways of the node are kept
abbrev pub HasWays : List NodeVerdict → ℕ → Type 0
HasWays verdicts n = (ways : Ways) × (slice_get verdicts n ≡ Some (Both (Some ways)))

-- for the node the ways of this one are kept
abbrev pub HasWaysFor : List Node → List NodeVerdict → Kept → ℕ → ℕ → Type 0
HasWaysFor nodes verdicts EachNode n m = HasWays verdicts m × (m ≡ n)
HasWaysFor nodes verdicts EachAddress n m = HasWays verdicts m × (address_of nodes m ≡ address_of nodes n)

-- for each node whose paths can do both, ways are kept
abbrev pub HaveWays : List Node → List NodeVerdict → Kept → Type 0
HaveWays nodes verdicts kept =
    (n : ℕ) → slice_get verdicts n ≡ Some (Both None) → (m : ℕ) × HasWaysFor nodes verdicts kept n m

-- where the lines of a report need them: with contexts each node has its own line
abbrev pub kept_for : Bool → Kept
kept_for true = EachNode
kept_for false = EachAddress
