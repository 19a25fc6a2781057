-- Reading from left to right: a field's value and the text after it, where the text begins with such a field.
-- The clauses of the readers of single fields cite it. What `read_line` gives is said without it, by the texts of lines.
use Rattle.std.specs.Prelude.{◌≡◌, ℕ, ◌^◌, ◌==◌, ◌&&◌, nat_lt, nat_le, Bool, if◌then◌else◌, List, [], ◌∷◌, length, take, drop, Option, Some, None, option_map, codes, decimal, Result, Ok, Err}
use Rattle.std.specs.List.{list_all}
use Rattle.std.specs.Option.{option_or}
use Rattle.std.specs.Str.{bytes_eq}
use Rattle.std.specs.Str.Parse.{digits_value}
use Rattle.std.specs.Int.{w32, from_be_bytes}
use Rattle.hex.specs.Hex.{decode_sized}
use Rattle.transition_spec.specs.declared.way.Way.{Way}
use Rattle.report_spec.specs.declared.line.Line.{Line}
use Rattle.report_spec.specs.declared.line.Line.TheVariants.{Unreachable}
use Rattle.report_spec.specs.declared.line.Verdict.{Verdict}
use Rattle.report_spec.specs.declared.line.Verdict.TheVariants.{AlwaysHit, AlwaysMiss, Unknown}
use Rattle.report_spec.specs.Text.{address_text}
use Rattle.report_spec.specs.Valid.{is_letter, has_back_as_deep}
use Rattle.verdict_report.specs.declared.seen.Subject.{Subject}
use Rattle.verdict_report.specs.declared.seen.Subject.TheVariants.{Address, Configuration}
use Rattle.verdict_report.specs.Seen.{line_with}

-- the second step, if the first found something
infixl 10 ◌>>=◌
abbrev pub ◌>>=◌ : {A B : Type 0} → Option A → (A → Option B) → Option B
(Some x) >>= f = f x
None >>= f = None

-- a value, if the test passes
abbrev pub guarded : {A : Type 0} → Bool → A → Option A
guarded test x = if test then Some x else None

-- a value and the text after it
abbrev pub Read : Type 0 → Type 0
Read A = Option (A × List ℕ)

-- what a function answers, as seen, is what reading gives
abbrev pub Gives : {A B : Type 0} → (A → B) → Option A → Option B → Type 0
Gives seen (Some x) read = read ≡ Some (seen x)
Gives seen None read = read ≡ None

-- what stands after these bytes
unfoldable pub after : List ℕ → List ℕ → Option (List ℕ)
after prefix text = guarded (bytes_eq (take (length prefix) text) prefix) (drop (length prefix) text)

-- the text before the first byte of this value, and the text after that byte
unfoldable pub field_at : ℕ → List ℕ → Read (List ℕ)
field_at end [] = None
field_at end (byte ∷ text) = if byte == end then Some ([], text) else option_map (λ field. (byte ∷ field.0, field.1))
    (field_at end text)

-- the number that has this text
unfoldable pub number_of : List ℕ → Option ℕ
number_of digits = guarded (nat_lt (digits_value 10 digits) (2 ^ 64) && bytes_eq (decimal (digits_value 10 digits))
    digits) (digits_value 10 digits)

-- a number and the space after it
unfoldable pub number_at : List ℕ → Read ℕ
number_at text = do
  field ← field_at 32 text
  n ← number_of field.0
  Some (n, field.1)

-- a number below 2 ^ 32, and the space after it
unfoldable pub small_at : List ℕ → Read ℕ
small_at text = do
  n ← number_at text
  guarded (nat_lt n.0 (2 ^ 32)) n

-- the bytes that pairs of digits spell
abbrev pub spelled : {E : Type 0} → Result (List ℕ) E → Option (List ℕ)
spelled (Ok bytes) = Some bytes
spelled (Err e) = None

-- the address that has this text of ten bytes
unfoldable pub address_of : List ℕ → Option ℕ
address_of prefix = do
  bytes ← spelled (decode_sized (take 8 (drop 2 prefix)) 4)
  guarded (bytes_eq (address_text (from_be_bytes w32 bytes)) prefix) (from_be_bytes w32 bytes)

unfoldable pub address_at : List ℕ → Read ℕ
address_at text = do
  prefix ← guarded (nat_le 10 (length text)) (take 10 text)
  p ← address_of prefix
  Some (p, drop 10 text)

-- letters, or none for a dash
unfoldable pub choices_of : List ℕ → Option (List ℕ)
choices_of [] = None
choices_of (letter ∷ letters) =
    if bytes_eq (letter ∷ letters) (codes "-") then Some []
    else guarded (list_all is_letter (letter ∷ letters)) (letter ∷ letters)

-- a way and the byte at which it ends
unfoldable pub way_at : ℕ → List ℕ → Read Way
way_at end text = do
  steps ← number_at text
  letters ← field_at end steps.1
  choices ← choices_of letters.0
  guarded (nat_lt 0 steps.0) (record { steps = steps.0; choices = choices }, letters.1)

-- both ways, and the line end
unfoldable pub unknown_at : List ℕ → Read Verdict
unknown_at text = do
  rest ← after (codes "unknown hit ") text
  hit ← way_at 32 rest
  rest ← after (codes "miss ") hit.1
  miss ← way_at 10 rest
  Some (Unknown hit.0 miss.0, miss.1)

-- this verdict, and what stands after it
abbrev pub with_rest : Verdict → Option (List ℕ) → Read Verdict
with_rest verdict rest = option_map (λ text. (verdict, text)) rest

-- a verdict and the line end
unfoldable pub verdict_at : List ℕ → Read Verdict
verdict_at text =
    option_or (with_rest AlwaysHit (after (codes "always-hit\n") text))
    (option_or (with_rest AlwaysMiss (after (codes "always-miss\n") text)) (unknown_at text))

-- a space, a verdict and the line end
unfoldable pub said_at : List ℕ → Read Verdict
said_at text = do
  rest ← after (codes " ") text
  verdict_at rest

-- the newest return address, if there is one
unfoldable pub back_at : List ℕ → Read (Option ℕ)
back_at text =
    option_or (option_map (λ rest. (None, rest)) (after (codes "none") text))
    (option_map (λ p. (Some p.0, p.1)) (address_at text))

-- the number of a configuration and its address
unfoldable pub place_at : List ℕ → Read (ℕ × ℕ)
place_at text = do
  rest ← after (codes "#") text
  node ← small_at rest
  at ← address_at node.1
  Some ((node.0, at.0), at.1)

-- how many calls are open, and the newest return address
unfoldable pub calls_at : List ℕ → Read (ℕ × Option ℕ)
calls_at text = do
  rest ← after (codes " depth ") text
  depth ← small_at rest
  rest ← after (codes "back ") depth.1
  back ← back_at rest
  guarded (has_back_as_deep depth.0 back.0) ((depth.0, back.0), back.1)

-- a configuration's number, address and open calls
unfoldable pub configuration_at : List ℕ → Read Subject
configuration_at text = do
  place ← place_at text
  calls ← calls_at place.1
  Some (Configuration place.0.0 place.0.1 calls.0.0 calls.0.1, calls.1)

-- what a line with a verdict speaks of
unfoldable pub subject_at : List ℕ → Read Subject
subject_at text = option_or (configuration_at text) (option_map (λ p. (Address p.0, p.1)) (address_at text))

-- a range and the line end
unfoldable pub range_at : List ℕ → Read Line
range_at text = do
  first ← address_at text
  rest ← after (codes "-") first.1
  last ← address_at rest
  rest ← after (codes " unreachable\n") last.1
  guarded (nat_le first.0 last.0) (Unreachable first.0 last.0, rest)

-- a line with a verdict, and the line end
unfoldable pub verdict_line_at : List ℕ → Read Line
verdict_line_at text = do
  subject ← subject_at text
  said ← said_at subject.1
  Some (line_with subject.0 said.0, said.1)

unfoldable pub line_at : List ℕ → Read Line
line_at text = option_or (range_at text) (verdict_line_at text)

-- the line that has this text
unfoldable pub line_of : List ℕ → Option Line
line_of text = do
  line ← line_at text
  guarded (length line.1 == 0) line.0
