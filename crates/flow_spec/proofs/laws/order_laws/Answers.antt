use Rattle.flow_spec.proofs.Ordered.{less-before, equal-same, greater-after, decided, before-trans}
use Rattle.flow_spec.proofs.laws.order_laws.Goals as goal

pub returns-clause-less : goal.returns-clause-less
returns-clause-less c = less-before

pub returns-clause-equal : goal.returns-clause-equal
returns-clause-equal c = equal-same

pub returns-clause-greater : goal.returns-clause-greater
returns-clause-greater c = greater-after

pub returns-clause-decided : goal.returns-clause-decided
returns-clause-decided c = decided

pub returns-clause-transitive : goal.returns-clause-transitive
returns-clause-transitive c = before-trans
