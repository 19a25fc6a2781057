-- Arguments in plain form whose values are right give settings.
use Rattle.std.proofs.Common.{◌≡◌, ◌∙◌, ℕ, List, ◌∷◌, refl, sym, ap, Some, None}
use Rattle.std.specs.Prelude.{Bool, true, false, Option, is_some, option_map, option_and_then, codes}
use Rattle.std.specs.Option.{option_map_or}
use Rattle.std.proofs.lemmas.Bool.{and_from, cond-true}
use Rattle.cache_spec.specs.Geometry.{Geometry, is_in_range, is_line, is_set_count, is_way_count}
use Rattle.riscv_spec.specs.declared.parcel.Isa.{Isa}
use Rattle.command_spec.specs.Number.{number_of, address_of}
use Rattle.command_spec.specs.Plain.{is_plain}
use Rattle.command_spec.specs.Options.{Given, AreOptions, arguments_of}
use Rattle.command_spec.specs.Commands.{name_of, command_of, options_of}
use Rattle.command_spec.specs.Texts.{Texts, pairs_of, plain_of, plain_after}
use Rattle.command_spec.specs.Settings.{settings_of, plain_settings, parsed_settings, or_else, settings_in, ask_for, number_or, number_in, report_in, graph_in, geometry_of, geometry_in, start_of, up_to, graph_of, isa_of, line_in, address_if}
use Rattle.command_spec.specs.Right.{AreRight, is_right, is_up_to, spells}
use Rattle.command_spec.specs.declared.settings.Ask.{Ask}
use Rattle.command_spec.specs.declared.settings.Ask.TheVariants.{Graph}
use Rattle.cache_spec.specs.declared.start.Start.TheVariants.{Empty}
use Rattle.riscv_spec.specs.declared.parcel.Isa.TheVariants.{Rv32i}
use Rattle.command_spec.specs.declared.command.Command.{Command}
use Rattle.command_spec.specs.declared.command.Command.TheVariants as commands
use Rattle.command_spec.specs.declared.settings.Settings.{Settings}
use Rattle.command_spec.proofs.Options.{plain_from, value_to}

-- there is a value
abbrev Has : {A : Type 0} → Option A → Type 0
Has {A} o = (x : A) × (o ≡ Some x)

-- there is a value, and it passes a test
abbrev Passes : (ℕ → Bool) → Option ℕ → Type 0
Passes test o = (n : ℕ) × (o ≡ Some n) × (test n ≡ true)

has_of : {A : Type 0} (o : Option A) → is_some o ≡ true → Has o
has_of None is = absurd (cc is)
has_of (Some x) is = (x, refl)

spelled : (test : ℕ → Bool) (o : Option ℕ) → option_map_or test o false ≡ true → Passes test o
spelled test None is = absurd (cc is)
spelled test (Some n) is = (n, refl, is)

-- a number that is given passes the test as its option's rule says, and the default passes it too
number_passes : (test : ℕ → Bool) (default : ℕ) (value : Option (List ℕ)) → test default ≡ true
    → ((text : List ℕ) → value ≡ Some text → spells test text ≡ true) → Passes test (number_or default value)
number_passes test default None passes right = (default, refl, passes)
number_passes test default (Some text) passes right = spelled test (number_of text) (right text refl)

then_has : {A B : Type 0} (f : A → Option B) (o : Option A) (x : A) → o ≡ Some x → Has (f x)
    → Has (option_and_then f o)
then_has f o x is has = (has.0, ap (option_and_then f) is ∙ has.1)

map_has : {A B : Type 0} (f : A → B) (o : Option A) → Has o → Has (option_map f o)
map_has f o has = (f has.0, ap (option_map f) has.1)

-- a number from 1 to the greatest is taken
taken : (most n : ℕ) → is_up_to most n ≡ true → Has (up_to most n)
taken most n is = (n, cond-true (is_up_to most n) (Some n) None is)

-- three numbers in their ranges are a geometry
geometry_has : (line sets ways : ℕ) → is_line line ≡ true → is_set_count sets ≡ true → is_way_count ways ≡ true
    → Has (geometry_of line sets ways)
geometry_has line sets ways is_l is_s is_w =
    let g : Geometry = record { line = line; sets = sets; ways = ways } in
    (g, cond-true (is_in_range g) (Some g) None (and_from _ _ is_l (and_from _ _ is_s is_w)))

graph_has : (isa : Isa) (line : ℕ) → is_line line ≡ true → Has (graph_of isa line)
graph_has isa line is =
    let ask : Ask = Graph (record { isa = isa; line = line }) in
    (ask, cond-true (is_line line) (Some ask) None is)

start_has : (value : Option (List ℕ)) → ((text : List ℕ) → value ≡ Some text → is_some (start_of (Some text)) ≡ true)
    → Has (start_of value)
start_has None right = (Empty, refl)
start_has (Some text) right = has_of _ (right text refl)

isa_has : (value : Option (List ℕ)) → ((text : List ℕ) → value ≡ Some text → is_some (isa_of (Some text)) ≡ true)
    → Has (isa_of value)
isa_has None right = (Rv32i, refl)
isa_has (Some text) right = has_of _ (right text refl)

address_has : (value : Option (List ℕ)) → ((text : List ℕ) → value ≡ Some text → is_some (address_of text) ≡ true)
    → Has (address_if value)
address_has None right = (None, refl)
address_has (Some text) right = map_has Some (address_of text) (has_of _ (right text refl))

-- the values that are given are right, each for its option
abbrev Right : Texts → Type 0
Right texts = (name text : List ℕ) → texts.value name ≡ Some text → is_right name text ≡ true

module _ (texts : Texts) (right : Right texts) where
  number_right : (name : List ℕ) (default : ℕ) (test : ℕ → Bool) → test default ≡ true
      → ((text : List ℕ) → is_right name text ≡ spells test text) → Passes test (number_in name default texts)
  number_right name default test passes rule =
      number_passes test default (texts.value name) passes (λ text is. sym (rule text) ∙ right name text is)

  line_right : Passes is_line (line_in texts)
  unfolding lib.Count.ones
  line_right = number_right (codes "--line") 32 is_line refl (λ text. refl)

  geometry_right : Has (geometry_in texts)
  unfolding lib.Count.ones
  geometry_right =
      let line = line_right in
      let sets = number_right (codes "--sets") 64 is_set_count refl (λ text. refl) in
      let ways = number_right (codes "--ways") 4 is_way_count refl (λ text. refl) in
      then_has _ _ line.0 line.1
      (then_has _ _ sets.0 sets.1
      (then_has _ _ ways.0 ways.1 (geometry_has line.0 sets.0 ways.0 line.2 sets.2 ways.2)))

  counted : (name : List ℕ) (default most : ℕ) → is_up_to most default ≡ true
      → ((text : List ℕ) → is_right name text ≡ spells (is_up_to most) text)
      → Has (option_and_then (up_to most) (number_in name default texts))
  counted name default most passes rule =
      let n = number_right name default (is_up_to most) passes rule in
      then_has _ _ n.0 n.1 (taken most n.0 n.2)

  report_right : Has (report_in texts)
  report_right =
      let geometry = geometry_right in
      let isa = isa_has (texts.value (codes "--isa")) (right (codes "--isa")) in
      let start = start_has (texts.value (codes "--start")) (right (codes "--start")) in
      let workers = counted (codes "--workers") 4 64 refl (λ text. refl) in
      let nodes = counted (codes "--nodes") 1048576 4194304 refl (λ text. refl) in
      then_has _ _ geometry.0 geometry.1
      (then_has _ _ isa.0 isa.1
      (then_has _ _ start.0 start.1 (then_has _ _ workers.0 workers.1 (map_has _ _ nodes))))

  graph_right : Has (graph_in texts)
  graph_right =
      let isa = isa_has (texts.value (codes "--isa")) (right (codes "--isa")) in
      let line = line_right in
      then_has _ _ isa.0 isa.1 (then_has _ _ line.0 line.1 (graph_has isa.0 line.0 line.2))

  ask_right : (command : Command) → Has (ask_for command texts)
  ask_right commands.Classify = report_right
  ask_right commands.Graph = graph_right

  settings_right : Has (settings_in texts)
  settings_right =
      let ask = ask_right texts.command in
      then_has _ _ ask.0 ask.1
      (map_has _ _ (address_has (texts.value (codes "--entry")) (right (codes "--entry"))))

-- the command of its own name
command_is : (command : Command) → command_of (name_of command) ≡ Some command
command_is commands.Classify = refl
command_is commands.Graph = refl

-- options of a command, written after its name
abbrev written : Command → List Given → List (List ℕ)
written command options = name_of command ∷ arguments_of options

module _ (command : Command) (options : List Given) (are : AreOptions (options_of command) options) where
  plain_is : plain_of (written command options) ≡ Some (pairs_of command (arguments_of options))
  plain_is =
      ap (option_and_then (λ (c : Command). plain_after c (arguments_of options))) (command_is command)
      ∙ cond-true (is_plain (options_of command) (arguments_of options)) (Some (pairs_of command (arguments_of options)))
      None
      (plain_from (options_of command) options are)

  -- settings of the plain form are those of the arguments
  pub read_off : AreRight options
      → (settings : Settings) × (settings_of (written command options) ≡ Some settings)
      × (settings_in (pairs_of command (arguments_of options)) ≡ Some settings)
  unfolding plain_settings
  read_off right =
      let given_right : Right (pairs_of command (arguments_of options)) = λ name text is.
      right name text (value_to (options_of command) options name text are is) in
      let settings = settings_right (pairs_of command (arguments_of options)) given_right in (
        settings.0,
        ap (λ (s : Option Settings). or_else s (parsed_settings (written command options)))
            (ap (option_and_then settings_in) plain_is ∙ settings.1),
        settings.1,
      )
