-- Lines that follow one another, each from the cursor after the one before.
use Rattle.std.specs.Prelude.{◌≡◌, ℕ, Bool, true, false, List, [], ◌∷◌, ◌++◌, Option, Some, None}
use Rattle.report_spec.specs.declared.line.Line.{Line}
use Rattle.node_spec.specs.declared.verdict.NodeVerdict.{NodeVerdict}
use Rattle.node_spec.specs.Plan.{Layout, IsByAddress, IsByNumber}

-- which line, and which cursor after it, stands at a cursor
abbrev pub Stands : Bool → Layout → List NodeVerdict → ℕ → Option (Line × Option ℕ) → Type 0
Stands true layout verdicts = IsByNumber layout.configurations verdicts
Stands false layout verdicts = IsByAddress layout verdicts

-- the lines are all from a cursor on, where there is one
abbrev pub AreAllFrom : (ℕ → Option (Line × Option ℕ) → Type 0) → Option ℕ → List Line → Type 0
AreAllFrom At None lines = lines ≡ []
AreAllFrom At (Some cursor) [] = At cursor None
AreAllFrom At (Some cursor) (line ∷ lines) =
    (next : Option ℕ) × At cursor (Some (line, next)) × AreAllFrom At next lines

-- the lines are those before a cursor: with all from there on they are all lines
abbrev pub AreAllBefore : (ℕ → Option (Line × Option ℕ) → Type 0) → Option ℕ → List Line → Type 0
AreAllBefore At next prefix = (rest : List Line) → AreAllFrom At next rest → AreAllFrom At (Some 0) (prefix ++ rest)
