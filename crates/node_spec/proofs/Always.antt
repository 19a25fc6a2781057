-- The verdicts that are the same for all paths.
use Rattle.std.specs.Prelude.{Bool, true, false}
use Rattle.report_spec.specs.declared.line.Verdict.{Verdict}
use Rattle.report_spec.specs.declared.line.Verdict.TheVariants.{AlwaysHit, AlwaysMiss}
use Rattle.node_spec.specs.declared.verdict.NodeVerdict.{NodeVerdict}
use Rattle.node_spec.specs.declared.verdict.NodeVerdict.TheVariants.{Hits, Misses}

-- each path hits, or each misses
abbrev pub always : Bool → Verdict
always true = AlwaysHit
always false = AlwaysMiss

-- the same of a node
abbrev pub always_node : Bool → NodeVerdict
always_node true = Hits
always_node false = Misses
