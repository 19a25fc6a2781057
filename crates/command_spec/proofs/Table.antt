-- The table of options in the code.
use Rattle.std.proofs.Common.{◌≡◌, ◌∙◌, ℕ, List, [], ◌∷◌, refl, ap}
use Rattle.std.specs.Prelude.{Bool, true, false, Option, Some, map, find, option_map, bytes_eq, cond}
use Rattle.command_spec.specs.Plain.{OptionKind, takes_value}
use Rattle.command_spec.specs.Commands.{kind_of}
use Rattle.command_spec.specs.declared.command.CommandOption.{CommandOption}

-- one of two, as a value stands after it or not
picked : (test : Bool) (option : CommandOption) (rest : Option CommandOption) (later : Option Bool)
    → option_map (λ (o : CommandOption). (kind_of o).takes_value) rest ≡ later
    → option_map (λ (o : CommandOption). (kind_of o).takes_value) (cond test (Some option) rest)
    ≡ cond test (Some (kind_of option).takes_value) later
picked true option rest later is = refl
picked false option rest later is = is

-- the first row of a name says whether a value stands after the option
pub takes_found : (options : List CommandOption) (name : List ℕ)
    → option_map (λ (o : CommandOption). (kind_of o).takes_value) (find (λ (o : CommandOption). bytes_eq name (kind_of o).name) options)
    ≡ takes_value (map kind_of options) name
takes_found [] name = refl
takes_found (option ∷ options) name =
    picked (bytes_eq name (kind_of option).name) option _ _ (takes_found options name)

-- the same of a row that was found, or of none
pub takes_of : (options : List CommandOption) (kinds : List OptionKind) (name : List ℕ) (found : Option CommandOption)
    → map kind_of options ≡ kinds → found ≡ find (λ (o : CommandOption). bytes_eq name (kind_of o).name) options
    → option_map (λ (o : CommandOption). (kind_of o).takes_value) found ≡ takes_value kinds name
takes_of options kinds name found are is =
    ap (option_map (λ (o : CommandOption). (kind_of o).takes_value)) is ∙ takes_found options name
    ∙ ap (λ (ks : List OptionKind). takes_value ks name) are
