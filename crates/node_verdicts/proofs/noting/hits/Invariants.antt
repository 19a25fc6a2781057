use Rattle.std.proofs.Common.{◌≡◌, replicate}
use Rattle.node_spec.specs.declared.verdict.NodeVerdict.TheVariants.{Hits}
use Rattle.node_verdicts.proofs.noting.hits.Given as goal

abbrev pub invariant-loop : goal.invariant-loop
invariant-loop l = l.verdicts.items ≡ replicate l.counter Hits
