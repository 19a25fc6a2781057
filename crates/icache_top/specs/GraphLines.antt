-- The lines of an expanded graph, which are sent one after another.
use Rattle.std.specs.Prelude.{ℕ, ◌+◌, List, [], ◌∷◌, length, flat_map, option_map}
use Rattle.path_model.specs.declared.graph.Node.{Node}
use Rattle.flow_spec.specs.Configuration.{Configuration}
use Rattle.flow_spec.specs.Successors.{newest}
use Rattle.report_spec.specs.declared.graph_line.GraphLine.{GraphLine}
use Rattle.report_spec.specs.Graph.{graph_line_text}
use Rattle.call_expand.specs.Expansion.{Expansion}

-- the line of a configuration and its node
abbrev pub graph_line : ℕ → Configuration → Node → GraphLine
graph_line number c node = record {
  node = number;
  at = node.at;
  depth = length c.frames;
  back = option_map (λ frame. frame.back) (newest c.frames);
  next = node.first;
  taken = node.second;
}

-- the lines from a number on
abbrev pub graph_lines_from : ℕ → List Configuration → List Node → List GraphLine
graph_lines_from number (c ∷ configurations) (node ∷ nodes) =
    graph_line number c node ∷ graph_lines_from (number + 1) configurations nodes
graph_lines_from number _ _ = []

abbrev pub graph_lines_of : Expansion → List GraphLine
graph_lines_of expanded = graph_lines_from 0 expanded.configurations expanded.nodes

abbrev pub graph_text_of : Expansion → List ℕ
graph_text_of expanded = flat_map graph_line_text (graph_lines_of expanded)
