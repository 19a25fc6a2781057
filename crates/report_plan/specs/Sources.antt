-- The nodes that the ways of a line come from, and the line that is made of a place with such ways.
use Rattle.std.specs.Prelude.{◌≡◌, ℕ, Bool, true, false, not, IsTrue, List, Some, None, slice_get}
use Rattle.path_model.specs.declared.graph.Node.{Node}
use Rattle.report_spec.specs.declared.line.Line.{Line}
use Rattle.report_spec.specs.declared.line.Line.TheVariants.{At, Context, Unreachable}
use Rattle.report_spec.specs.declared.line.Verdict.{Verdict}
use Rattle.report_spec.specs.declared.line.Verdict.TheVariants.{AlwaysHit, AlwaysMiss, Unknown}
use Rattle.node_spec.specs.declared.verdict.NodeVerdict.{NodeVerdict}
use Rattle.node_spec.specs.declared.verdict.NodeVerdict.TheVariants.{Hits, Misses, Both}
use Rattle.node_spec.specs.Plan.{IsNodeWay}
use Rattle.report_plan.specs.declared.merge.Sought.{Sought}
use Rattle.report_plan.specs.declared.merge.Sought.TheVariants.{Hitting, Missing, Keeping}
use Rattle.report_plan.specs.declared.place.Ends.{Ends}
use Rattle.report_plan.specs.declared.place.Ends.TheVariants.{AllHit, AllMiss, Either}
use Rattle.report_plan.specs.declared.place.Place.{Place}
use Rattle.report_plan.specs.declared.place.Place.TheVariants.{OfAddress, OfNode, OfRange}

-- a verdict of a node that always hits
abbrev pub for_hits : Sought → Bool
for_hits Hitting = true
for_hits Missing = false
for_hits Keeping = false

-- of one that always misses
abbrev pub for_misses : Sought → Bool
for_misses Hitting = false
for_misses Missing = true
for_misses Keeping = false

-- of one that keeps its ways
abbrev pub for_ways : Sought → Bool
for_ways Hitting = false
for_ways Missing = false
for_ways Keeping = true

-- the verdict is one that is sought
abbrev pub is_sought : Sought → NodeVerdict → Bool
is_sought sought Hits = for_hits sought
is_sought sought Misses = for_misses sought
is_sought sought (Both None) = false
is_sought sought (Both (Some ways)) = for_ways sought

-- the node has such a verdict
abbrev pub IsSought : List NodeVerdict → Sought → ℕ → Type 0
IsSought verdicts sought n =
    (verdict : NodeVerdict) × (slice_get verdicts n ≡ Some verdict) × IsTrue (is_sought sought verdict)

-- a way to a hit, or to a miss where `hits` is false, comes from a node with the verdict: its own where it keeps them,
-- and any to it where each path ends so
abbrev pub gives_way : Bool → NodeVerdict → Bool
gives_way hits Hits = hits
gives_way hits Misses = not hits
gives_way hits (Both None) = false
gives_way hits (Both (Some ways)) = true

-- such a way comes from the node
abbrev pub GivesWay : List NodeVerdict → Bool → ℕ → Type 0
GivesWay verdicts hits n =
    (verdict : NodeVerdict) × (slice_get verdicts n ≡ Some verdict) × IsTrue (gives_way hits verdict)

-- the ways come from the nodes that are named
abbrev pub GiveWays : List NodeVerdict → Ends → Type 0
GiveWays verdicts AllHit = Unit
GiveWays verdicts AllMiss = Unit
GiveWays verdicts (Either hit miss) = GivesWay verdicts true hit × GivesWay verdicts false miss

-- the same of a place
abbrev pub GivesLine : List NodeVerdict → Place → Type 0
GivesLine verdicts (OfAddress at ends) = GiveWays verdicts ends
GivesLine verdicts (OfNode node at depth back ends) = GiveWays verdicts ends
GivesLine verdicts (OfRange first last) = Unit

-- the verdict of a line with ways of the nodes that are named
abbrev pub IsVerdictFrom : List Node → List NodeVerdict → Ends → Verdict → Type 0
IsVerdictFrom nodes verdicts AllHit verdict = verdict ≡ AlwaysHit
IsVerdictFrom nodes verdicts AllMiss verdict = verdict ≡ AlwaysMiss
IsVerdictFrom nodes verdicts (Either a b) AlwaysHit = ⊥
IsVerdictFrom nodes verdicts (Either a b) AlwaysMiss = ⊥
IsVerdictFrom nodes verdicts (Either a b) (Unknown hit miss) =
    IsNodeWay nodes verdicts a true hit × IsNodeWay nodes verdicts b false miss

-- the line of a place with such a verdict
abbrev pub IsLineFrom : List Node → List NodeVerdict → Place → Line → Type 0
IsLineFrom nodes verdicts (OfAddress at ends) line =
    (verdict : Verdict) × (line ≡ At at verdict) × IsVerdictFrom nodes verdicts ends verdict
IsLineFrom nodes verdicts (OfNode node at depth back ends) line =
    (verdict : Verdict) × (line ≡ Context node at depth back verdict) × IsVerdictFrom nodes verdicts ends verdict
IsLineFrom nodes verdicts (OfRange first last) line = line ≡ Unreachable first last
