-- How a walk along the arguments goes from option to option.
use Rattle.std.specs.Prelude.{ℕ, List, [], ◌∷◌, Option, Some, None, String, if◌then◌else◌}
use Rattle.std.specs.declared.alloc.Global.{Global}
use Rattle.command_spec.specs.Plain.{OptionKind, is_flag}

-- the arguments after a value
abbrev pub after_value : List (String Global) → Option (List (String Global))
after_value [] = None
after_value (value ∷ rest) = Some rest

-- the arguments after a name and its value, or after a flag alone
abbrev pub after_option : List OptionKind → List ℕ → List (String Global) → Option (List (String Global))
after_option kinds first later = if is_flag kinds first then Some later else after_value later
