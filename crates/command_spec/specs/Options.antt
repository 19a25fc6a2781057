-- The options of a command in the subject's own words: what is given, and the arguments that it is written with.
use Rattle.std.specs.Prelude.{◌≡◌, ℕ, List, [], ◌∷◌, ◌++◌, map, Option, Some, is_some, Contains}
use Rattle.std.specs.Option.{option_to_list}
use Rattle.command_spec.specs.Plain.{OptionKind, takes_value}

-- an option that is given, with its value if it has one
pub record Given : Type 0 where
  pub name : List ℕ
  pub value : Option (List ℕ)

-- this option with this value
abbrev pub given : List ℕ → List ℕ → Given
given name value = record { name = name; value = Some value }

-- each option is written as its name, with its value after it
abbrev pub arguments_of : List Given → List (List ℕ)
arguments_of [] = []
arguments_of (option ∷ later) = option.name ∷ (option_to_list option.value ++ arguments_of later)

-- the names of the options, in their order
abbrev pub names_in : List Given → List (List ℕ)
names_in options = map (λ (option : Given). option.name) options

-- the command has the option, and it is given a value just where it takes one
abbrev pub IsOption : List OptionKind → Given → Type 0
IsOption kinds option = takes_value kinds option.name ≡ Some (is_some option.value)

-- options of the command, none of them twice
abbrev pub AreOptions : List OptionKind → List Given → Type 0
AreOptions kinds [] = Unit {0}
AreOptions kinds (option ∷ later) =
    IsOption kinds option × (Contains (names_in later) option.name → ⊥) × AreOptions kinds later
