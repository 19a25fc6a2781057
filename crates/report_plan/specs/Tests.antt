-- What the tests know of their verdicts.
use Rattle.std.specs.Prelude.{◌≡◌, ℕ, List, Some, None, slice_get}
use Rattle.node_spec.specs.declared.verdict.NodeVerdict.{NodeVerdict}
use Rattle.node_spec.specs.declared.verdict.NodeVerdict.TheVariants.{Both}

-- each node that can do both keeps its ways
abbrev pub KeepAll : List NodeVerdict → Type 0
KeepAll verdicts = (n : ℕ) → slice_get verdicts n ≡ Some (Both None) → ⊥
