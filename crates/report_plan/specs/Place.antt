-- Which line stands at a cursor, over numbers of nodes: where paths can do both, which nodes its two ways come from.
use Rattle.std.specs.Prelude.{◌≡◌, ℕ, ◌+◌, ◌≤◌, ◌⊎◌, nat_lt, if◌then◌else◌, List, length, Option, Some, None, option_map, slice_get}
use Rattle.flow_spec.specs.Configuration.{Configuration, fetched}
use Rattle.flow_spec.specs.Successors.{newest}
use Rattle.path_model.specs.declared.graph.Node.{Node}
use Rattle.node_spec.specs.declared.verdict.NodeVerdict.{NodeVerdict}
use Rattle.node_spec.specs.declared.verdict.NodeVerdict.TheVariants.{Hits, Misses, Both}
use Rattle.node_spec.specs.Verdict.{HasWays}
use Rattle.node_spec.specs.Plan.{Layout, IsNodeAt, AllHave, IsBareRange, IsNextLine}
use Rattle.report_plan.specs.declared.place.Ends.{Ends}
use Rattle.report_plan.specs.declared.place.Ends.TheVariants.{AllHit, AllMiss, Either}
use Rattle.report_plan.specs.declared.place.Place.{Place}
use Rattle.report_plan.specs.declared.place.Place.TheVariants.{OfAddress, OfNode, OfRange}

-- the node is at the address and has the verdict
abbrev pub HasAt : List Node → List NodeVerdict → ℕ → NodeVerdict → ℕ → Type 0
HasAt nodes verdicts address verdict n = IsNodeAt nodes address n × (slice_get verdicts n ≡ Some verdict)

-- the node is at the address and keeps its ways
abbrev pub KeepsAt : List Node → List NodeVerdict → ℕ → ℕ → Type 0
KeepsAt nodes verdicts address n = IsNodeAt nodes address n × HasWays verdicts n

-- the two ways of an address come from a node that keeps them; where no node there does, from one that always hits and
-- from one that always misses
abbrev pub AreSources : List Node → List NodeVerdict → ℕ → ℕ → ℕ → Type 0
AreSources nodes verdicts address hit miss =
    (KeepsAt nodes verdicts address hit × (miss ≡ hit))
    ⊎ (((n : ℕ) → KeepsAt nodes verdicts address n → ⊥)
    × HasAt nodes verdicts address Hits hit × HasAt nodes verdicts address Misses miss)

-- how the paths to all nodes at an address end
abbrev pub AreEndsAt : List Node → List NodeVerdict → ℕ → Ends → Type 0
AreEndsAt nodes verdicts address AllHit = AllHave nodes verdicts address Hits
AreEndsAt nodes verdicts address AllMiss = AllHave nodes verdicts address Misses
AreEndsAt nodes verdicts address (Either hit miss) = AreSources nodes verdicts address hit miss

-- how the paths to a node end, by its verdict: where they can do both, both ways come from the node
abbrev pub ends_of : ℕ → NodeVerdict → Ends
ends_of n Hits = AllHit
ends_of n Misses = AllMiss
ends_of n (Both ways) = Either n n

-- the place of the line that begins at an address
abbrev pub IsPlaceAt : Layout → List NodeVerdict → ℕ → Place → Type 0
IsPlaceAt layout verdicts address (OfAddress at ends) = (at ≡ address) × AreEndsAt layout.nodes verdicts address ends
IsPlaceAt layout verdicts address (OfRange first last) = (first ≡ address) × IsBareRange layout first last
IsPlaceAt layout verdicts address (OfNode node at depth back ends) = ⊥

-- the last address that a place speaks of
abbrev pub last_in : Place → ℕ
last_in (OfAddress at ends) = at
last_in (OfNode node at depth back ends) = at
last_in (OfRange first last) = last

-- the first place by address from a cursor on, and the address of the next one after it, if there is one; none where no
-- address with a line is left
abbrev pub IsPlaceByAddress : Layout → List NodeVerdict → ℕ → Option (Place × Option ℕ) → Type 0
IsPlaceByAddress layout verdicts from None = IsNextLine layout from None
IsPlaceByAddress layout verdicts from (Some (place, next)) =
    (address : ℕ) × IsNextLine layout from (Some address) × IsPlaceAt layout verdicts address place
    × IsNextLine layout (last_in place + 1) next

-- the place of the node with a number
abbrev pub IsPlaceOf : List Configuration → List NodeVerdict → ℕ → Place → Type 0
IsPlaceOf configurations verdicts number (OfNode node at depth back ends) =
    (node ≡ number)
    × ((verdict : NodeVerdict) × (slice_get verdicts number ≡ Some verdict) × (ends ≡ ends_of number verdict))
    × ((c : Configuration) × (slice_get configurations number ≡ Some c) × (at ≡ fetched c) × (depth ≡ length c.frames)
    × (back ≡ option_map (λ frame. frame.back) (newest c.frames)))
IsPlaceOf configurations verdicts number (OfAddress at ends) = ⊥
IsPlaceOf configurations verdicts number (OfRange first last) = ⊥

-- the place of a node, and the number after its own, if there is one; none where the number is that of none
abbrev pub IsPlaceByNumber : List Configuration → List NodeVerdict → ℕ → Option (Place × Option ℕ) → Type 0
IsPlaceByNumber configurations verdicts from None = length configurations ≤ from
IsPlaceByNumber configurations verdicts from (Some (place, next)) =
    IsPlaceOf configurations verdicts from place
    × (next ≡ (if nat_lt (from + 1) (length configurations) then Some (from + 1) else None))
