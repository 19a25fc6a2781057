-- Which line of a report stands at a cursor, from one verdict for each node of an expanded program.
use Rattle.std.specs.Prelude.{◌≡◌, ℕ, ◌+◌, ◌<◌, ◌≤◌, nat_lt, Bool, true, false, IsTrue, IsFalse, if◌then◌else◌, List, ◌∷◌, length, Option, Some, None, Contains, option_map, slice_get}
use Rattle.std.specs.List.{AllByRecursion}
use Rattle.elf_spec.specs.Image.{Image}
use Rattle.transition_spec.specs.declared.way.Way.{Way}
use Rattle.transition_spec.specs.Path.{IsPath}
use Rattle.transition_spec.specs.Named.{Names}
use Rattle.riscv_spec.specs.declared.parcel.Isa.{Isa}
use Rattle.flow_spec.specs.declared.frame.Frame.{Frame}
use Rattle.flow_spec.specs.declared.instruction.Instruction.TheVariants.{Word}
use Rattle.flow_spec.specs.Configuration.{Configuration, configuration, fetched}
use Rattle.flow_spec.specs.Instruction.{IsText, instruction_at}
use Rattle.flow_spec.specs.Successors.{newest}
use Rattle.path_model.specs.declared.graph.Node.{Node}
use Rattle.path_model.specs.Graph.{graph_step, address_of}
use Rattle.report_spec.specs.declared.line.Line.{Line}
use Rattle.report_spec.specs.declared.line.Line.TheVariants.{At, Context, Unreachable}
use Rattle.report_spec.specs.declared.line.Verdict.{Verdict}
use Rattle.report_spec.specs.declared.line.Verdict.TheVariants.{AlwaysHit, AlwaysMiss, Unknown}
use Rattle.node_spec.specs.declared.verdict.NodeVerdict.{NodeVerdict}
use Rattle.node_spec.specs.declared.verdict.NodeVerdict.TheVariants.{Hits, Misses, Both}
use Rattle.report_spec.specs.Inner.{step_of}
use Rattle.report_spec.specs.Report.{range_addresses}

-- an expanded program: its text, its configurations, and the nodes with their numbers
pub record Layout : Type 0 where
  pub image : Image
  pub isa : Isa
  pub configurations : List Configuration
  pub nodes : List Node

abbrev pub layout : Image → Isa → List Configuration → List Node → Layout
layout image isa configurations nodes =
    record { image = image; isa = isa; configurations = configurations; nodes = nodes }

-- a node is at the address
pub record IsNodeAt (nodes : List Node) (address n : ℕ) : Type 0 where
  pub inside : n < length nodes
  pub at : address_of nodes n ≡ address

-- the way names a path of the graph that ends in the node
abbrev pub NamesPathTo : List Node → ℕ → Way → Type 0
NamesPathTo nodes n way = (earlier : List ℕ) × IsPath (graph_step nodes) 0 (n ∷ earlier)
    × Names (graph_step nodes) way (n ∷ earlier)

-- the verdict's own way to a hit, or to a miss where `hits` is false; or any way to a node where each path ends so
abbrev pub IsVerdictWay : List Node → ℕ → NodeVerdict → Bool → Way → Type 0
IsVerdictWay nodes n Hits hits way = IsTrue hits × NamesPathTo nodes n way
IsVerdictWay nodes n Misses hits way = IsFalse hits × NamesPathTo nodes n way
IsVerdictWay nodes n (Both None) hits way = ⊥
IsVerdictWay nodes n (Both (Some ways)) hits way = way ≡ (if hits then ways.hit else ways.miss)

-- the node has a verdict, and the way is one to a hit, or to a miss, by it
abbrev pub IsNodeWay : List Node → List NodeVerdict → ℕ → Bool → Way → Type 0
IsNodeWay nodes verdicts n hits way =
    (verdict : NodeVerdict) × (slice_get verdicts n ≡ Some verdict) × IsVerdictWay nodes n verdict hits way

-- the way is one to a hit, or to a miss, of a node at the address
abbrev pub IsWayAt : List Node → List NodeVerdict → ℕ → Bool → Way → Type 0
IsWayAt nodes verdicts address hits way = (n : ℕ) × IsNodeAt nodes address n × IsNodeWay nodes verdicts n hits way

-- some node is at the address, and each node there has the verdict
pub record AllHave (nodes : List Node) (verdicts : List NodeVerdict) (address : ℕ) (verdict : NodeVerdict) : Type 0 where
  pub some : (n : ℕ) × IsNodeAt nodes address n
  pub each : (n : ℕ) → IsNodeAt nodes address n → slice_get verdicts n ≡ Some verdict

-- the one verdict of all nodes at an address
abbrev pub IsMerged : List Node → List NodeVerdict → ℕ → Verdict → Type 0
IsMerged nodes verdicts address AlwaysHit = AllHave nodes verdicts address Hits
IsMerged nodes verdicts address AlwaysMiss = AllHave nodes verdicts address Misses
IsMerged nodes verdicts address (Unknown hit miss) =
    IsWayAt nodes verdicts address true hit × IsWayAt nodes verdicts address false miss

-- no node is at the address
abbrev pub IsBareOf : List Node → ℕ → Type 0
IsBareOf nodes address = (n : ℕ) → IsNodeAt nodes address n → ⊥

-- a configuration fetches the first part of the instruction at the address
abbrev pub IsBegun : List Configuration → ℕ → Type 0
IsBegun configurations address = (frames : List Frame) × Contains configurations (configuration frames address)

-- the address is in the text, no node is at it, and two bytes before it an instruction of four bytes is begun
pub record IsInnerIn (layout : Layout) (address : ℕ) : Type 0 where
  pub text : IsText layout.isa layout.image address
  pub bare : IsBareOf layout.nodes address
  pub begins : ℕ
  pub middle : begins + 2 ≡ address
  pub four_bytes : (code : ℕ) × (instruction_at layout.isa layout.image begins ≡ Some (Word code))
  pub begun : IsBegun layout.configurations begins

-- the address is in the text and isn't inner
abbrev pub HasLineIn : Layout → ℕ → Type 0
HasLineIn layout address = IsText layout.isa layout.image address × (IsInnerIn layout address → ⊥)

-- the least such address at or above one, or none where none is left
abbrev pub IsNextLine : Layout → ℕ → Option ℕ → Type 0
IsNextLine layout from None = (address : ℕ) → from ≤ address → HasLineIn layout address → ⊥
IsNextLine layout from (Some found) =
    HasLineIn layout found × (from ≤ found) × ((address : ℕ) → from ≤ address → HasLineIn layout address → found ≤ address)

-- an address with a line, at which there is no node
pub record IsBare (layout : Layout) (address : ℕ) : Type 0 where
  pub line : HasLineIn layout address
  pub bare : IsBareOf layout.nodes address

-- a range of such addresses that doesn't go on after its last
pub record IsBareRange (layout : Layout) (first last : ℕ) : Type 0 where
  pub ends : Contains (range_addresses (step_of layout.isa) first last) last
  pub bare : AllByRecursion (IsBare layout) (range_addresses (step_of layout.isa) first last)
  pub greatest : IsBare layout (last + step_of layout.isa) → ⊥

-- the line that begins at an address
abbrev pub IsLineAt : Layout → List NodeVerdict → ℕ → Line → Type 0
IsLineAt layout verdicts address (At at verdict) = (at ≡ address) × IsMerged layout.nodes verdicts address verdict
IsLineAt layout verdicts address (Unreachable first last) = (first ≡ address) × IsBareRange layout first last
IsLineAt layout verdicts address (Context node at depth back verdict) = ⊥

-- the last address that a line speaks of
abbrev pub last_of : Line → ℕ
last_of (At at verdict) = at
last_of (Context node at depth back verdict) = at
last_of (Unreachable first last) = last

-- the first line by address from a cursor on, and the address of the next one after it, if there is one; none where no
-- address with a line is left
abbrev pub IsByAddress : Layout → List NodeVerdict → ℕ → Option (Line × Option ℕ) → Type 0
IsByAddress layout verdicts from None = IsNextLine layout from None
IsByAddress layout verdicts from (Some (line, next)) =
    (address : ℕ) × IsNextLine layout from (Some address) × IsLineAt layout verdicts address line
    × IsNextLine layout (last_of line + 1) next

-- the verdict of a line for that of a node
abbrev pub IsVerdictOf : Option NodeVerdict → Verdict → Type 0
IsVerdictOf None verdict = ⊥
IsVerdictOf (Some Hits) verdict = verdict ≡ AlwaysHit
IsVerdictOf (Some Misses) verdict = verdict ≡ AlwaysMiss
IsVerdictOf (Some (Both None)) verdict = ⊥
IsVerdictOf (Some (Both (Some ways))) verdict = verdict ≡ Unknown ways.hit ways.miss

-- the line of the configuration with a number
abbrev pub IsLineOf : List Configuration → List NodeVerdict → ℕ → Line → Type 0
IsLineOf configurations verdicts number (Context node at depth back verdict) =
    (node ≡ number) × IsVerdictOf (slice_get verdicts number) verdict
    × ((c : Configuration) × (slice_get configurations number ≡ Some c) × (at ≡ fetched c) × (depth ≡ length c.frames)
    × (back ≡ option_map (λ frame. frame.back) (newest c.frames)))
IsLineOf configurations verdicts number (At at verdict) = ⊥
IsLineOf configurations verdicts number (Unreachable first last) = ⊥

-- the line of a configuration, and the number after its own, if there is one; none where the number is that of none
abbrev pub IsByNumber : List Configuration → List NodeVerdict → ℕ → Option (Line × Option ℕ) → Type 0
IsByNumber configurations verdicts from None = length configurations ≤ from
IsByNumber configurations verdicts from (Some (line, next)) =
    IsLineOf configurations verdicts from line
    × (next ≡ (if nat_lt (from + 1) (length configurations) then Some (from + 1) else None))
