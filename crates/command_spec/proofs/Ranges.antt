-- What the arguments ask for is in its ranges.
use Rattle.std.proofs.Common.{◌≡◌, ◌≤◌, ℕ, List, refl, Some, None}
use Rattle.std.proofs.lemmas.Bool.{leb-true}
use Rattle.std.specs.Prelude.{◌&&◌, Bool, true, false, Option, IfSome, IsTrue, codes, nat_le, option_map, option_and_then, if◌then◌else◌}
use Rattle.cache_spec.specs.Geometry.{is_line}
use Rattle.riscv_spec.specs.declared.parcel.Isa.{Isa}
use Rattle.command_spec.specs.Texts.{Texts, plain_of, parsed_of}
use Rattle.command_spec.specs.Settings.{settings_of, plain_settings, parsed_settings, or_else, settings_in, ask_for, entry_in, settings_with, report_as, geometry_in, start_in, up_to, number_in, workers_in, nodes_in, graph_of, isa_in, line_in, IsInRange}
use Rattle.command_spec.specs.declared.settings.Ask.{Ask}
use Rattle.command_spec.specs.declared.settings.Ask.TheVariants.{Graph}
use Rattle.command_spec.specs.declared.command.Command.{Command}
use Rattle.command_spec.specs.declared.command.Command.TheVariants as commands
use Rattle.command_spec.specs.declared.settings.Settings.{Settings}

and_then : {A B : Type 0} (P : B → Type 0) (f : A → Option B) (o : Option A) → ((x : A) → IfSome (f x) P)
    → IfSome (option_and_then f o) P
and_then P f None all = tt
and_then P f (Some x) all = all x

mapped : {A B : Type 0} (P : B → Type 0) (f : A → B) (o : Option A) → ((x : A) → P (f x)) → IfSome (option_map f o) P
mapped P f None all = tt
mapped P f (Some x) all = all x

-- the same where something is known of the value
and_known : {A B : Type 0} (P : B → Type 0) (Q : A → Type 0) (f : A → Option B) (o : Option A) → IfSome o Q
    → ((x : A) → Q x → IfSome (f x) P) → IfSome (option_and_then f o) P
and_known P Q f None known all = tt
and_known P Q f (Some x) known all = all x known

-- a number of workers is in its range
abbrev HasWorkers : ℕ → Type 0
HasWorkers workers = (1 ≤ workers) × (workers ≤ 64)

up_to_known : (n : ℕ) (least most : Bool) → nat_le 1 n ≡ least → nat_le n 64 ≡ most
    → IfSome (if least && most then Some n else None) HasWorkers
up_to_known n true true least most = (leb-true 1 n least, leb-true n 64 most)
up_to_known n true false least most = tt
up_to_known n false most least is = tt

workers_known : (given : Option ℕ) → IfSome (option_and_then (up_to 64) given) HasWorkers
workers_known given = and_then HasWorkers (up_to 64) given (λ n. up_to_known n (nat_le 1 n) (nat_le n 64) refl refl)

graph_has : (isa : Isa) (line : ℕ) (test : Bool) → (test ≡ true → IsTrue (is_line line))
    → IfSome (if test then Some (Graph (record { isa = isa; line = line })) else None) IsInRange
graph_has isa line true is = is refl
graph_has isa line false is = tt

ask_has : (command : Command) (texts : Texts) → IfSome (ask_for command texts) IsInRange
ask_has commands.Classify texts =
    and_then IsInRange _ (geometry_in texts) (λ geometry.
    and_then IsInRange _ (isa_in texts) (λ isa.
    and_then IsInRange _ (start_in texts) (λ start.
    and_known IsInRange HasWorkers _ (workers_in texts) (workers_known (number_in (codes "--workers") 4 texts)) (λ workers is.
    mapped IsInRange (report_as texts geometry isa start workers) (nodes_in texts) (λ nodes. is)))))
ask_has commands.Graph texts =
    and_then IsInRange _ (isa_in texts) (λ isa. and_then IsInRange (graph_of isa) (line_in texts)
    (λ line. graph_has isa line (is_line line) (λ is. cc is)))

-- what the settings ask for is in its ranges
abbrev HasRanges : Settings → Type 0
HasRanges settings = IsInRange settings.ask

with_ask : (entry : Option (Option ℕ)) (ask : Option Ask) → IfSome ask IsInRange
    → IfSome (option_and_then (λ a. option_map (λ e. settings_with e a) entry) ask) HasRanges
with_ask entry None has = tt
with_ask entry (Some ask) has = mapped HasRanges (λ e. settings_with e ask) entry (λ e. has)

given_have : (texts : Option Texts) → IfSome (option_and_then settings_in texts) HasRanges
given_have texts =
    and_then HasRanges settings_in texts (λ (t : Texts). with_ask (entry_in t) (ask_for t.command t) (ask_has t.command t))

either_has : (settings others : Option Settings) → IfSome settings HasRanges → IfSome others HasRanges
    → IfSome (or_else settings others) HasRanges
either_has None others first second = second
either_has (Some settings) others first second = first

pub settings_have : (arguments : List (List ℕ)) → IfSome (settings_of arguments) HasRanges
unfolding plain_settings parsed_settings
settings_have arguments =
    either_has (plain_settings arguments) (parsed_settings arguments) (given_have (plain_of arguments))
    (given_have (parsed_of arguments))
