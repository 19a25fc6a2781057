use Rattle.std.proofs.Common.{reverse, take}
use Rattle.transition_spec.specs.Path.{HasChoices}
use Rattle.path_model.specs.Graph.{graph_step}
use Rattle.path_model.proofs.walk.choices_of.Given as goal

abbrev pub invariant-loop-index : goal.invariant-loop-index
invariant-loop-index l = HasChoices (graph_step l.graph) (reverse (take l.index l.path)) l.letters.items
