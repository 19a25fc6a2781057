-- The plain form of the options: names with their values, and flags, which have none, in any order; each is one of the
-- command's, and none of them stands twice. An argument is the list of its bytes.
use Rattle.std.specs.Prelude.{ℕ, Bool, true, false, not, ◌&&◌, ◌||◌, List, [], ◌∷◌, Option, Some, None, is_some, bytes_eq, if◌then◌else◌}

-- an option of a command: its name, and whether a value stands after it
pub record OptionKind : Type 0 where
  pub name : List ℕ
  pub takes_value : Bool

-- an option with a value
abbrev pub valued : List ℕ → OptionKind
valued name = record { name = name; takes_value = true }

-- an option without one
abbrev pub flag : List ℕ → OptionKind
flag name = record { name = name; takes_value = false }

-- whether a value stands after the option, if the command has it
abbrev pub takes_value : List OptionKind → List ℕ → Option Bool
takes_value [] name = None
takes_value (kind ∷ kinds) name = if bytes_eq name kind.name then Some kind.takes_value else takes_value kinds name

-- there is such an option, and it takes no value
abbrev pub is_without : Option Bool → Bool
is_without None = false
is_without (Some takes) = not takes

-- the command has the option, and no value stands after it
abbrev pub is_flag : List OptionKind → List ℕ → Bool
is_flag kinds name = is_without (takes_value kinds name)

-- the value after a name
abbrev pub value_of : List OptionKind → List ℕ → List (List ℕ) → Option (List ℕ)
value_of kinds name [] = None
value_of kinds name (last ∷ []) = None
value_of kinds name (first ∷ next ∷ arguments) =
    if is_flag kinds first
    then value_of kinds name (next ∷ arguments)
    else if bytes_eq first name then Some next else value_of kinds name arguments

-- the option stands among the arguments, as a flag or as a name
abbrev pub has_option : List OptionKind → List ℕ → List (List ℕ) → Bool
has_option kinds name [] = false
has_option kinds name (last ∷ []) = bytes_eq last name
has_option kinds name (first ∷ next ∷ arguments) =
    bytes_eq first name
    || (if is_flag kinds first then has_option kinds name (next ∷ arguments) else has_option kinds name arguments)

-- an option of the command that doesn't come again
abbrev pub is_new : List OptionKind → List ℕ → List (List ℕ) → Bool
is_new kinds name later = is_some (takes_value kinds name) && not (has_option kinds name later)

-- arguments that are options of the command, each with its value and none of them twice
abbrev pub is_plain : List OptionKind → List (List ℕ) → Bool
is_plain kinds [] = true
is_plain kinds (last ∷ []) = is_flag kinds last && is_new kinds last []
is_plain kinds (first ∷ next ∷ arguments) =
    if is_flag kinds first
    then is_new kinds first (next ∷ arguments) && is_plain kinds (next ∷ arguments)
    else is_new kinds first arguments && is_plain kinds arguments
