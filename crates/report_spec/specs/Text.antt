-- The texts of lines: fields with one space between them, and a line end. This project's own format.
use Rattle.std.specs.Prelude.{ℕ, List, [], ◌∷◌, ◌++◌, Option, Some, None, codes, decimal, flat_map}
use Rattle.std.specs.Int.{w32, to_be_bytes}
use Rattle.hex.specs.Hex.{encode_lower}
use Rattle.transition_spec.specs.declared.way.Way.{Way}
use Rattle.report_spec.specs.declared.line.Line.{Line}
use Rattle.report_spec.specs.declared.line.Line.TheVariants.{At, Context, Unreachable}
use Rattle.report_spec.specs.declared.line.Verdict.{Verdict}
use Rattle.report_spec.specs.declared.line.Verdict.TheVariants.{AlwaysHit, AlwaysMiss, Unknown}

-- an address or a word: 0x and eight hexadecimal digits
unfoldable pub address_text : ℕ → List ℕ
address_text address = codes "0x" ++ encode_lower (to_be_bytes w32 address)

-- the letters, or a dash where there are none
abbrev pub choices_text : List ℕ → List ℕ
choices_text [] = codes "-"
choices_text (letter ∷ letters) = letter ∷ letters

abbrev pub way_text : Way → List ℕ
way_text way = decimal way.steps ++ (codes " " ++ choices_text way.choices)

-- a path that hits, and one that misses
abbrev pub unknown_text : Way → Way → List ℕ
unknown_text hit miss = (codes "unknown hit " ++ way_text hit) ++ (codes " miss " ++ way_text miss)

abbrev pub verdict_text : Verdict → List ℕ
verdict_text AlwaysHit = codes "always-hit"
verdict_text AlwaysMiss = codes "always-miss"
verdict_text (Unknown hit miss) = unknown_text hit miss

-- the end of a line that has a verdict
abbrev pub said_text : Verdict → List ℕ
said_text verdict = codes " " ++ (verdict_text verdict ++ codes "\n")

abbrev pub back_text : Option ℕ → List ℕ
back_text None = codes "none"
back_text (Some address) = address_text address

-- the number of a configuration and its address
abbrev pub place_text : ℕ → ℕ → List ℕ
place_text node at = codes "#" ++ (decimal node ++ (codes " " ++ address_text at))

-- how many calls are open, and the newest return address
abbrev pub open_text : ℕ → Option ℕ → List ℕ
open_text depth back = codes " depth " ++ (decimal depth ++ (codes " back " ++ back_text back))

-- a configuration
abbrev pub context_text : ℕ → ℕ → ℕ → Option ℕ → List ℕ
context_text node at depth back = place_text node at ++ open_text depth back

-- a range of addresses that no path reaches
abbrev pub range_text : ℕ → ℕ → List ℕ
range_text first last = (address_text first ++ codes "-") ++ (address_text last ++ codes " unreachable\n")

abbrev pub line_text : Line → List ℕ
line_text (At at verdict) = address_text at ++ said_text verdict
line_text (Context node at depth back verdict) = context_text node at depth back ++ said_text verdict
line_text (Unreachable first last) = range_text first last

-- the lines, one after another
abbrev pub text_of : List Line → List ℕ
text_of lines = flat_map line_text lines
