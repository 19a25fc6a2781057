-- Which text is that of a program's graph: a line for each configuration, in order of number. This project's own format.
use Rattle.std.specs.Prelude.{◌≡◌, ℕ, ◌+◌, List, [], ◌∷◌, ◌++◌, length, map, flat_map, Option, Some, None, Ok, option_map, slice_get, codes, decimal}
use Rattle.std.specs.Option.{option_to_list}
use Rattle.transition_spec.specs.Layer.{all_of}
use Rattle.flow_spec.specs.Program.{Program}
use Rattle.flow_spec.specs.Configuration.{Configuration, fetched}
use Rattle.flow_spec.specs.Successors.{successors, newest}
use Rattle.flow_spec.specs.Acceptance.{Step, IsAccepted}
use Rattle.report_spec.specs.declared.graph_line.GraphLine.{GraphLine}
use Rattle.report_spec.specs.Text.{context_text}

-- where a configuration leads, and the line end
abbrev pub edges_text : Option ℕ → Option ℕ → List ℕ
edges_text None taken = codes " stop\n"
edges_text (Some next) None = codes " next " ++ (decimal next ++ codes "\n")
edges_text (Some next) (Some taken) =
    codes " next " ++ (decimal next ++ (codes " taken " ++ (decimal taken ++ codes "\n")))

abbrev pub graph_line_text : GraphLine → List ℕ
graph_line_text line = context_text line.node line.at line.depth line.back ++ edges_text line.next line.taken

-- the line is that of a configuration with a number: its successors are those with the line's numbers, in order
pub record IsGraphLine (step : Step) (configurations : List Configuration) (number : ℕ) (c : Configuration)
    (line : GraphLine) : Type 0 where
  pub node : line.node ≡ number
  pub at : line.at ≡ fetched c
  pub depth : line.depth ≡ length c.frames
  pub back : line.back ≡ option_map (λ frame. frame.back) (newest c.frames)
  pub first : line.next ≡ None → line.taken ≡ None
  pub goes : (next : List Configuration) × (step c ≡ Ok next)
      × (map (slice_get configurations) (option_to_list line.next ++ option_to_list line.taken) ≡ map Some next)

-- one line for each configuration from a number on
abbrev pub AreGraphLines : Step → List Configuration → ℕ → List Configuration → List GraphLine → Type 0
AreGraphLines step configurations number [] [] = Unit {0}
AreGraphLines step configurations number (c ∷ later) (line ∷ lines) =
    IsGraphLine step configurations number c line × AreGraphLines step configurations (number + 1) later lines
AreGraphLines step configurations number [] (line ∷ lines) = ⊥
AreGraphLines step configurations number (c ∷ later) [] = ⊥

-- the text is that of the graph of the program that begins at the entry
abbrev pub IsGraphText : Program → List ℕ → Type 0
IsGraphText program text =
    (layers : List (List Configuration)) × IsAccepted (successors program) program layers
    × ((lines : List GraphLine) × AreGraphLines (successors program) (all_of layers) 0 (all_of layers) lines
    × (text ≡ flat_map graph_line_text lines))
