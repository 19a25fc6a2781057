-- Values that are spelled and ranged as the rules of their options say. What settings they give stands in Settings.
use Rattle.std.specs.Prelude.{ℕ, Bool, false, ◌&&◌, List, Some, is_some, nat_le, codes, bytes_eq, if◌then◌else◌, IsTrue, Contains}
use Rattle.std.specs.Option.{option_map_or}
use Rattle.cache_spec.specs.Geometry.{is_line, is_set_count, is_way_count}
use Rattle.command_spec.specs.Number.{number_of, address_of}
use Rattle.command_spec.specs.Options.{Given, given}
use Rattle.command_spec.specs.Settings.{start_of, isa_of}

-- a text spells a number that passes a test
abbrev pub spells : (ℕ → Bool) → List ℕ → Bool
spells test text = option_map_or test (number_of text) false

-- a number from 1 to the greatest
abbrev pub is_up_to : ℕ → ℕ → Bool
is_up_to most n = nat_le 1 n && nat_le n most

-- a value is spelled and ranged as the rule of this option says
abbrev pub is_right : List ℕ → List ℕ → Bool
is_right name text =
    if bytes_eq name (codes "--line") then spells is_line text
    else if bytes_eq name (codes "--sets") then spells is_set_count text
    else if bytes_eq name (codes "--ways") then spells is_way_count text
    else if bytes_eq name (codes "--workers") then spells (is_up_to 64) text
    else if bytes_eq name (codes "--nodes") then spells (is_up_to 4194304) text
    else if bytes_eq name (codes "--entry") then is_some (address_of text)
    else if bytes_eq name (codes "--start") then is_some (start_of (Some text))
    else if bytes_eq name (codes "--isa") then is_some (isa_of (Some text))
    else false

-- each value that is given is right
abbrev pub AreRight : List Given → Type 0
AreRight options = (name value : List ℕ) → Contains options (given name value) → IsTrue (is_right name value)
