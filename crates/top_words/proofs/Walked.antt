-- What a walk along the arguments knows at each option.
use Rattle.std.proofs.Common.{◌≡◌, ◌≤◌, ◌-◌, ◌&&◌, ◌||◌, ℕ, Bool, true, false, not, List, [], ◌∷◌, length, take, drop, get_or, Some, None, String, bytes_eq, string_bytes, if◌then◌else◌, refl, ap, sym, ◌∙◌, arith}
use Rattle.std.specs.declared.alloc.Global.{Global}
use Rattle.std.proofs.Math.Seq.{take-length}
use Rattle.command_spec.specs.Plain.{OptionKind, value_of, has_option, is_flag, is_new, is_plain}
use Rattle.top_words.specs.Views.{bytes_of}
use Rattle.top_words.specs.Walk.{after_option}

-- the arguments after the first, as a slice pattern binds them
abbrev pub later_of : List (String Global) → List (String Global)
later_of words = take (length words - 1) (drop 1 words)

-- arguments are their first and those after it
first-and-later : (words : List (String Global)) (first : String Global) → 1 ≤ length words
    → first ≡ get_or words 0 first
    → words ≡ first ∷ later_of words
first-and-later [] first some at = absurd (omega arith)
first-and-later (word ∷ words) first some at =
    let count : length (word ∷ words) - 1 ≡ length words = omega arith in
    let same : word ≡ first = sym at in
    rw (count, take-length, same) refl

-- what a walk knows of the first option of the arguments that are left, and of the arguments after it
pub record IsOption (kinds : List OptionKind) (words : List (String Global)) (first : String Global) (text : List ℕ)
    (rest : List (String Global)) : Type 0 where
  pub some : 1 ≤ length words
  pub first_is : first ≡ get_or words 0 first
  pub text_is : text ≡ string_bytes first
  pub rest_is : after_option kinds text (later_of words) ≡ Some rest

-- the arguments at an option, as bytes
bytes-option : (kinds : List OptionKind) (words : List (String Global)) (first : String Global) (text : List ℕ)
    (rest : List (String Global))
    → IsOption kinds words first text rest → bytes_of words ≡ text ∷ bytes_of (later_of words)
bytes-option kinds words first text rest at =
    ap bytes_of (first-and-later words first at.some at.first_is)
    ∙ ap (λ bytes. bytes ∷ bytes_of (later_of words)) (sym at.text_is)

-- the same asked of the arguments after an option, where an argument stands after its name
after-next : {X : Type 0} (flag : Bool) (Q : List (String Global) → X) (next : String Global)
    (words rest : List (String Global))
    → (if flag then Some (next ∷ words) else Some words) ≡ Some rest
    → (if flag then Q (next ∷ words) else Q words) ≡ Q rest
after-next true Q next words rest is = let same : next ∷ words ≡ rest = cc in ap Q same
after-next false Q next words rest is = let same : words ≡ rest = cc in ap Q same

-- nothing stands after an option that is the last argument
after-last : (flag : Bool) (rest : List (String Global)) → (if flag then Some [] else None) ≡ Some rest
    → (flag ≡ true) × ([] ≡ rest)
after-last true rest is = (refl, cc)
after-last false rest is = absurd (cc)

-- a test and one that is passed
and-true : (test : Bool) → (test && true) ≡ test
and-true true = refl
and-true false = refl

-- arguments are in plain form if their first is a new option and those after it are
plain-option : (kinds : List OptionKind) (first : List ℕ) (later rest : List (String Global))
    → after_option kinds first later ≡ Some rest
    → is_plain kinds (first ∷ bytes_of later) ≡ (is_new kinds first (bytes_of rest) && is_plain kinds (bytes_of rest))
plain-option kinds first [] rest is =
    let last = after-last (is_flag kinds first) rest is in
    ap (λ flag. flag && is_new kinds first []) last.0
    ∙ sym (and-true (is_new kinds first []))
    ∙ ap (λ left. is_new kinds first (bytes_of left) && is_plain kinds (bytes_of left)) last.1
plain-option kinds first (next ∷ words) rest is =
    after-next (is_flag kinds first) (λ left. is_new kinds first (bytes_of left) && is_plain kinds (bytes_of left))
    next words rest is

-- the same of the arguments that are left of a walk
pub is_plain-option : (kinds : List OptionKind) (words : List (String Global)) (first : String Global) (text : List ℕ)
    (rest : List (String Global))
    → IsOption kinds words first text rest
    → is_plain kinds (bytes_of words) ≡ (is_new kinds text (bytes_of rest) && is_plain kinds (bytes_of rest))
is_plain-option kinds words first text rest at =
    ap (is_plain kinds) (bytes-option kinds words first text rest at)
    ∙ plain-option kinds text (later_of words) rest at.rest_is

-- an option of another name is passed over
has-option : (kinds : List OptionKind) (name first : List ℕ) (later rest : List (String Global))
    → after_option kinds first later ≡ Some rest → bytes_eq first name ≡ false
    → has_option kinds name (first ∷ bytes_of later) ≡ has_option kinds name (bytes_of rest)
has-option kinds name first [] rest is other =
    other ∙ ap (λ left. has_option kinds name (bytes_of left)) (after-last (is_flag kinds first) rest is).1
has-option kinds name first (next ∷ words) rest is other =
    ap (λ found. found || (if is_flag kinds first then has_option kinds name (bytes_of (next ∷ words))
    else has_option kinds name (bytes_of words))) other
    ∙ after-next (is_flag kinds first) (λ left. has_option kinds name (bytes_of left)) next words rest is

-- the same of the arguments that are left of a walk
pub has_option-option : (kinds : List OptionKind) (name : List ℕ) (words : List (String Global)) (first : String Global)
    (text : List ℕ)
    (rest : List (String Global))
    → IsOption kinds words first text rest → bytes_eq text name ≡ false
    → has_option kinds name (bytes_of words) ≡ has_option kinds name (bytes_of rest)
has_option-option kinds name words first text rest at other =
    ap (has_option kinds name) (bytes-option kinds words first text rest at)
    ∙ has-option kinds name text (later_of words) rest at.rest_is other

-- a flag has no value, and another name's isn't this one's
skipped : {X : Type 0} (flag named : Bool) (skip found later : X) → (named && not flag) ≡ false
    → (if flag then skip else if named then found else later) ≡ (if flag then skip else later)
skipped true named skip found later other = refl
skipped false true skip found later other = absurd (cc)
skipped false false skip found later other = refl

-- the value after a name is after the first option where that isn't it
value-option : (kinds : List OptionKind) (name first : List ℕ) (later rest : List (String Global))
    → after_option kinds first later ≡ Some rest
    → (bytes_eq first name && not (is_flag kinds first)) ≡ false
    → value_of kinds name (first ∷ bytes_of later) ≡ value_of kinds name (bytes_of rest)
value-option kinds name first [] rest is other =
    ap (λ left. value_of kinds name (bytes_of left)) (after-last (is_flag kinds first) rest is).1
value-option kinds name first (next ∷ words) rest is other =
    skipped (is_flag kinds first) (bytes_eq first name) (value_of kinds name (bytes_of (next ∷ words)))
    (Some (string_bytes next))
    (value_of kinds name (bytes_of words)) other
    ∙ after-next (is_flag kinds first) (λ left. value_of kinds name (bytes_of left)) next words rest is

-- the same of the arguments that are left of a walk
pub value_of-option : (kinds : List OptionKind) (name : List ℕ) (words : List (String Global)) (first : String Global)
    (text : List ℕ)
    (rest : List (String Global))
    → IsOption kinds words first text rest → (bytes_eq text name && not (is_flag kinds text)) ≡ false
    → value_of kinds name (bytes_of words) ≡ value_of kinds name (bytes_of rest)
value_of-option kinds name words first text rest at other =
    ap (value_of kinds name) (bytes-option kinds words first text rest at)
    ∙ value-option kinds name text (later_of words) rest at.rest_is other

-- a walk goes on where there is something to go on with
goes-on : (flag : Bool) (left right : List (String Global)) → (if flag then Some left else Some right) ≡ None → ⊥
goes-on true left right ends = cc ends
goes-on false left right ends = cc ends

-- an option whose value is missing has none
value-ended : (kinds : List OptionKind) (name first : List ℕ) (later : List (String Global))
    → after_option kinds first later ≡ None
    → value_of kinds name (first ∷ bytes_of later) ≡ None
value-ended kinds name first [] ends = refl
value-ended kinds name first (next ∷ words) ends = absurd (goes-on (is_flag kinds first) (next ∷ words) words ends)

-- the same of the arguments that are left of a walk
pub value_of-ended : (kinds : List OptionKind) (name : List ℕ) (words : List (String Global)) (first : String Global)
    (text : List ℕ)
    → 1 ≤ length words → first ≡ get_or words 0 first → text ≡ string_bytes first
    → after_option kinds text (later_of words) ≡ None
    → value_of kinds name (bytes_of words) ≡ None
value_of-ended kinds name words first text some at is ends =
    ap (λ (ws : List (String Global)). value_of kinds name (bytes_of ws)) (first-and-later words first some at)
    ∙ ap (λ bytes. value_of kinds name (bytes ∷ bytes_of (later_of words))) (sym is)
    ∙ value-ended kinds name text (later_of words) ends
