-- What was found of an accepted program: its expanded graph, a right verdict for each node, and ways for its lines.
use Rattle.std.specs.Prelude.{◌≡◌, ℕ, ◌^◌, ◌<◌, Bool, List, length}
use Rattle.elf_spec.specs.Image.{Image}
use Rattle.cache_spec.specs.Geometry.{Geometry}
use Rattle.cache_spec.specs.declared.start.Start.{Start}
use Rattle.riscv_spec.specs.declared.parcel.Isa.{Isa}
use Rattle.transition_spec.specs.Layer.{all_of}
use Rattle.flow_spec.specs.Program.{Program}
use Rattle.flow_spec.specs.Acceptance.{IsAccepted}
use Rattle.flow_spec.specs.Configuration.{Configuration}
use Rattle.flow_spec.specs.Instruction.{IsText}
use Rattle.flow_spec.specs.Successors.{successors}
use Rattle.path_model.specs.declared.graph.Node.{Node}
use Rattle.call_expand.specs.Expansion.{IsGraphOf}
use Rattle.node_spec.specs.declared.verdict.NodeVerdict.{NodeVerdict}
use Rattle.node_spec.specs.Verdict.{IsRightAt, HaveWays, kept_for}

-- the text lies among the addresses
abbrev pub IsWithin : Isa → Image → Type 0
IsWithin isa image = (p : ℕ) → IsText isa image p → p < 2 ^ 32

-- the configurations of the accepted program, their graph, a right verdict for each node, and the ways that the lines
-- need, with contexts or by address
pub record AreFindings (program : Program) (g : Geometry) (start : Start) (contexts : Bool)
    (configurations : List Configuration) (nodes : List Node) (verdicts : List NodeVerdict) : Type 0 where
  pub within : IsWithin program.isa program.image
  pub accepted : (layers : List (List Configuration)) × IsAccepted (successors program) program layers
      × (configurations ≡ all_of layers)
  pub graph : IsGraphOf (successors program) program.entry configurations nodes
  pub one_each : length verdicts ≡ length nodes
  pub right : (n : ℕ) → n < length nodes → IsRightAt nodes g start verdicts n
  pub ways : HaveWays nodes verdicts (kept_for contexts)
