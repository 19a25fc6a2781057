use Rattle.path_model.proofs.Reached.{successor_inside, node_reached}
use Rattle.path_model.proofs.graph.graph_laws.Goals as goal

pub returns-clause-inside : goal.returns-clause-inside
returns-clause-inside c = successor_inside

pub returns-clause-reached : goal.returns-clause-reached
returns-clause-reached c = node_reached
