-- The letters of moves, as values.
use Rattle.std.specs.Prelude.{ℕ, ◌==◌, if◌then◌else◌, List, [], Option, Some, None, codes}
use Rattle.path_model.specs.declared.graph.Node.{Node}

-- the letter of the move to d by these two successors
abbrev pub letter_by : Option ℕ → Option ℕ → ℕ → List ℕ
letter_by None second d = []
letter_by (Some first) None d = []
letter_by (Some first) (Some second) d = if first == d then codes "n" else codes "t"

-- the letter of the move from this node to d
abbrev pub letter_to : Option Node → ℕ → List ℕ
letter_to None d = []
letter_to (Some node) d = letter_by node.first node.second d
