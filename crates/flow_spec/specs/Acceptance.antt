-- Which programs are accepted, and the one fault of any other: layer by layer, first the fault of the first faulty
-- configuration of a layer, then the limit, then the next layer. This project's own order and limit.
use Rattle.std.specs.Prelude.{◌≡◌, ◌⊎◌, ℕ, ◌<◌, ◌≤◌, Bool, not, IsTrue, List, [], ◌∷◌, ◌++◌, length, Err, IsOk}
use Rattle.std.specs.List.{AllByRecursion}
use Rattle.transition_spec.specs.Layer.{AreLayersFrom, all_of}
use Rattle.flow_spec.specs.declared.fault.FlowFault.{FlowFault}
use Rattle.flow_spec.specs.declared.fault.FlowFault.TheVariants.{BadEntry, TooManyFetches}
use Rattle.flow_spec.specs.Program.{Program}
use Rattle.flow_spec.specs.Transfer.{is_good_target}
use Rattle.flow_spec.specs.Configuration.{Configuration, start_of}
use Rattle.flow_spec.specs.Successors.{Successors}
use Rattle.flow_spec.specs.Order.{configuration_cmp}

abbrev pub Step : Type 0
Step = Configuration → Successors

-- the program may begin at its entry
abbrev pub is_good_entry : Program → Bool
is_good_entry program = is_good_target program.isa program.image program.entry

-- the greatest number of configurations
abbrev pub fetch_limit : ℕ
fetch_limit = 65536

abbrev pub IsFaultless : Step → Configuration → Type 0
IsFaultless step c = IsOk (step c)

-- the layers from the first on
abbrev pub AreLayers : Step → ℕ → List (List Configuration) → Type 0
AreLayers step entry layers = AreLayersFrom step (start_of entry) configuration_cmp 0 layers

-- after these layers comes an empty one, and the program is accepted; its configurations are numbered in their order
pub record IsAccepted (step : Step) (program : Program) (layers : List (List Configuration)) : Type 0 where
  pub entry_is_good : IsTrue (is_good_entry program)
  pub are_layers : AreLayers step program.entry (layers ++ [] ∷ [])
  pub faultless : AllByRecursion (IsFaultless step) (all_of layers)
  pub few : length (all_of layers) ≤ fetch_limit

-- c is the first faulty configuration of its layer, and neither a fault nor the limit was met before
pub record IsFirstFaulty (step : Step) (program : Program) (earlier : List (List Configuration))
    (before : List Configuration) (c : Configuration) (after : List Configuration) : Type 0 where
  pub entry_is_good : IsTrue (is_good_entry program)
  pub are_layers : AreLayers step program.entry (earlier ++ (before ++ c ∷ after) ∷ [])
  pub faultless : AllByRecursion (IsFaultless step) (all_of earlier ++ before)
  pub few : length (all_of earlier ++ (before ++ c ∷ after)) ≤ fetch_limit

-- no layer before the last has a fault, and only with the last one the limit is passed
pub record PassesLimit (step : Step) (program : Program) (earlier : List (List Configuration))
    (last : List Configuration) : Type 0 where
  pub entry_is_good : IsTrue (is_good_entry program)
  pub are_layers : AreLayers step program.entry (earlier ++ last ∷ [])
  pub faultless : AllByRecursion (IsFaultless step) (all_of earlier)
  pub few : length (all_of earlier) ≤ fetch_limit
  pub many : fetch_limit < length (all_of earlier ++ last)

abbrev pub HasBadEntry : Program → FlowFault → Type 0
HasBadEntry program fault = IsTrue (not (is_good_entry program)) × (fault ≡ BadEntry program.entry)

abbrev pub HasFaulty : Step → Program → FlowFault → Type 0
HasFaulty step program fault =
    (earlier : List (List Configuration)) × (before : List Configuration) × (c : Configuration)
    × (after : List Configuration)
    × IsFirstFaulty step program earlier before c after × (step c ≡ Err fault)

abbrev pub HasTooMany : Step → Program → FlowFault → Type 0
HasTooMany step program fault =
    (earlier : List (List Configuration)) × (last : List Configuration)
    × PassesLimit step program earlier last × (fault ≡ TooManyFetches fetch_limit)

-- the program is refused with this fault
abbrev pub IsRefused : Step → Program → FlowFault → Type 0
IsRefused step program fault =
    HasBadEntry program fault ⊎ (HasFaulty step program fault ⊎ HasTooMany step program fault)
