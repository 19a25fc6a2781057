-- Which verdicts of nodes have valid ways.
use Rattle.std.specs.Prelude.{Bool, true, ◌&&◌, IsTrue, List, Some, None}
use Rattle.std.specs.List.{list_all}
use Rattle.report_spec.specs.Valid.{is_valid_way}
use Rattle.node_spec.specs.declared.verdict.Ways.{Ways}
use Rattle.node_spec.specs.declared.verdict.NodeVerdict.{NodeVerdict}
use Rattle.node_spec.specs.declared.verdict.NodeVerdict.TheVariants.{Hits, Misses, Both}

-- both ways are valid
abbrev pub are_valid_ways : Ways → Bool
are_valid_ways ways = is_valid_way ways.hit && is_valid_way ways.miss

-- the ways are valid where they are kept
abbrev pub is_valid_node_verdict : NodeVerdict → Bool
is_valid_node_verdict Hits = true
is_valid_node_verdict Misses = true
is_valid_node_verdict (Both None) = true
is_valid_node_verdict (Both (Some ways)) = are_valid_ways ways

-- each verdict is valid
abbrev pub AreValid : List NodeVerdict → Type 0
AreValid verdicts = IsTrue (list_all is_valid_node_verdict verdicts)
