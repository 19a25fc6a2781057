-- How the bounds of all local blocks are kept.
use Rattle.std.specs.Prelude.{ℕ, List, Vec, map}
use Rattle.std.specs.declared.alloc.Global.{Global}
use Rattle.age_exists.specs.declared.all_blocks.BoundRows.{BoundRows}
use Rattle.age_exists.specs.Columns.{Columns, columns_with}

-- the columns as lists
abbrev pub columns_seen : List (Vec ℕ Global) → List (List ℕ)
columns_seen columns = map (λ column. column.items) columns

-- and what is kept with them
abbrev pub rows_seen : BoundRows → Columns
rows_seen rows = columns_with rows.start rows.own.items (columns_seen rows.columns.items)
