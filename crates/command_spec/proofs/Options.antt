-- Options and the arguments that they are written with.
use Rattle.std.proofs.Common.{◌≡◌, ◌⊎◌, ℕ, zero, List, [], ◌∷◌, ◌++◌, refl, sym, ap, subst, ◌∙◌, arith, inl, inr, Some, None}
use Rattle.std.specs.Prelude.{Bool, true, false, not, ◌&&◌, ◌||◌, cond, Option, is_some, Contains, bytes_eq}
use Rattle.std.specs.Option.{option_to_list}
use Rattle.std.proofs.lemmas.Bool.{and_parts, and_from, or_cases, or_left, or_right, not-true, not_from_false, false_from_ne_true, cases_Bool, cond-true, cond-false, true≢false}
use Rattle.std.proofs.lemmas.Slice.Eq.{bytes_eq-Decides}
use Rattle.list_lemmas.proofs.Members.{has-none, has-later, has-cases}
use Rattle.command_spec.specs.Plain.{OptionKind, takes_value, is_without, is_flag, is_new, is_plain, has_option, value_of}
use Rattle.command_spec.specs.Options.{Given, given, IsOption, AreOptions, names_in, arguments_of}

equal : (xs ys : List ℕ) → bytes_eq xs ys ≡ true → xs ≡ ys
equal xs ys is = (bytes_eq-Decides xs ys).0 is

same : (xs ys : List ℕ) → xs ≡ ys → bytes_eq xs ys ≡ true
same xs ys is = (bytes_eq-Decides xs ys).1 is

and_true : (b : Bool) → (b && true) ≡ b
and_true true = refl
and_true false = refl

or_false : (b : Bool) → (b || false) ≡ b
or_false true = refl
or_false false = refl

-- an option with this name, and this value if any
abbrev optional : List ℕ → Option (List ℕ) → Given
optional name value = record { name = name; value = value }

-- what takes no value is an option without one
without_is : (takes : Option Bool) → is_without takes ≡ true → takes ≡ Some false
without_is None without = absurd (cc without)
without_is (Some true) without = absurd (cc without)
without_is (Some false) without = refl

-- an option that isn't without a value takes one
with_is : (takes : Option Bool) → is_without takes ≡ false → is_some takes ≡ true → takes ≡ Some true
with_is None without there = absurd (cc there)
with_is (Some true) without there = refl
with_is (Some false) without there = absurd (cc without)

-- the value that an option gives, or else what the later ones give
abbrev pick : List ℕ → Option (List ℕ) → List ℕ → Option (List ℕ) → Option (List ℕ)
pick first None name rest = rest
pick first (Some value) name rest = cond (bytes_eq first name) (Some value) rest

picked : (first : List ℕ) (own : Option (List ℕ)) (name : List ℕ) (rest : Option (List ℕ)) (value : List ℕ)
    → pick first own name rest ≡ Some value → ((first ≡ name) × (own ≡ Some value)) ⊎ (rest ≡ Some value)
picked first None name rest value is = inr is
picked first (Some own) name rest value is = elim (cases_Bool (bytes_eq first name)) [
  | inl eq ↦ inl (equal first name eq, sym (cond-true (bytes_eq first name) (Some own) rest eq) ∙ is)
  | inr ne ↦ inr (sym (cond-false (bytes_eq first name) (Some own) rest ne) ∙ is)
]

pick_own : (first : List ℕ) (own : Option (List ℕ)) (name : List ℕ) (rest : Option (List ℕ)) (value : List ℕ)
    → first ≡ name → own ≡ Some value → pick first own name rest ≡ Some value
pick_own first None name rest value is own = absurd (cc own)
pick_own first (Some other) name rest value is own =
    cond-true (bytes_eq first name) (Some other) rest (same first name is) ∙ own

pick_later : (first : List ℕ) (own : Option (List ℕ)) (name : List ℕ) (rest : Option (List ℕ))
    → (first ≡ name → ⊥) → pick first own name rest ≡ rest
pick_later first None name rest apart = refl
pick_later first (Some other) name rest apart =
    cond-false (bytes_eq first name) (Some other) rest (false_from_ne_true _ (λ is. apart (equal first name is)))

given_is : (option : Given) (name value : List ℕ) → option.name ≡ name → option.value ≡ Some value
    → option ≡ given name value
given_is option name value is_name is_value =
    ap (λ (n : List ℕ). optional n option.value) is_name ∙ ap (λ (v : Option (List ℕ)). optional name v) is_value

-- the names of options have that of each
name_in : (options : List Given) (option : Given) → Contains options option → Contains (names_in options) option.name
name_in [] option has = absurd (has-none option has)
name_in (first ∷ options) option has = elim (has-cases first option options has) [
  | inl is ↦ (zero, omega arith, sym (ap (λ (o : Given). o.name) is))
  | inr later ↦ has-later first.name option.name (names_in options) (name_in options option later)
]

module _ (kinds : List OptionKind) where
  -- the option takes a value just where one is given
  abbrev IsTaken : List ℕ → Option (List ℕ) → Type 0
  IsTaken first value = IsOption kinds (optional first value)

  -- ---- what stands among the arguments

  has_flag : (name first : List ℕ) (words : List (List ℕ)) → is_flag kinds first ≡ true
      → has_option kinds name (first ∷ words) ≡ (bytes_eq first name || has_option kinds name words)
  has_flag name first [] flag = sym (or_false (bytes_eq first name))
  has_flag name first (next ∷ words) flag =
      ap (λ (rest : Bool). bytes_eq first name || rest)
      (cond-true (is_flag kinds first) (has_option kinds name (next ∷ words)) (has_option kinds name words) flag)

  has_value : (name first value : List ℕ) (words : List (List ℕ)) → is_flag kinds first ≡ false
      → has_option kinds name (first ∷ value ∷ words) ≡ (bytes_eq first name || has_option kinds name words)
  has_value name first value words flag =
      ap (λ (rest : Bool). bytes_eq first name || rest)
      (cond-false (is_flag kinds first) (has_option kinds name (value ∷ words)) (has_option kinds name words) flag)

  has_first : (name first : List ℕ) (value : Option (List ℕ)) (words : List (List ℕ)) → IsTaken first value
      → has_option kinds name (first ∷ (option_to_list value ++ words))
      ≡ (bytes_eq first name || has_option kinds name words)
  has_first name first None words taken = has_flag name first words (ap is_without taken)
  has_first name first (Some value) words taken = has_value name first value words (ap is_without taken)

  pub has_to : (options : List Given) (name : List ℕ) → AreOptions kinds options
      → has_option kinds name (arguments_of options) ≡ true → Contains (names_in options) name
  has_to [] name are has = absurd (cc has)
  has_to (option ∷ later) name are has =
      elim (or_cases (bytes_eq option.name name) (has_option kinds name (arguments_of later))
      (sym (has_first name option.name option.value (arguments_of later) are.0) ∙ has)) [
        | inl is ↦ (zero, omega arith, equal option.name name is)
        | inr is ↦ has-later option.name name (names_in later) (has_to later name are.2 is)
      ]

  pub has_from : (options : List Given) (name : List ℕ) → AreOptions kinds options
      → Contains (names_in options) name → has_option kinds name (arguments_of options) ≡ true
  has_from [] name are has = absurd (has-none name has)
  has_from (option ∷ later) name are has =
      has_first name option.name option.value (arguments_of later) are.0
      ∙ elim (has-cases option.name name (names_in later) has) [
        | inl is ↦ or_left (bytes_eq option.name name) _ (same option.name name (sym is))
        | inr there ↦ or_right (bytes_eq option.name name) _ (has_from later name are.2 there)
      ]

  -- ---- the plain form

  plain_flag : (first : List ℕ) (words : List (List ℕ)) → is_flag kinds first ≡ true
      → is_plain kinds (first ∷ words) ≡ (is_new kinds first words && is_plain kinds words)
  plain_flag first [] flag = ap (λ (f : Bool). f && is_new kinds first []) flag ∙ sym (and_true (is_new kinds first []))
  plain_flag first (next ∷ words) flag = cond-true (is_flag kinds first) _ _ flag

  plain_value : (first value : List ℕ) (words : List (List ℕ)) → is_flag kinds first ≡ false
      → is_plain kinds (first ∷ value ∷ words) ≡ (is_new kinds first words && is_plain kinds words)
  plain_value first value words flag = cond-false (is_flag kinds first) _ _ flag

  plain_first : (first : List ℕ) (value : Option (List ℕ)) (words : List (List ℕ)) → IsTaken first value
      → is_plain kinds (first ∷ (option_to_list value ++ words)) ≡ (is_new kinds first words && is_plain kinds words)
  plain_first first None words taken = plain_flag first words (ap is_without taken)
  plain_first first (Some value) words taken = plain_value first value words (ap is_without taken)

  pub plain_from : (options : List Given) → AreOptions kinds options → is_plain kinds (arguments_of options) ≡ true
  plain_from [] are = refl
  plain_from (option ∷ later) are =
      let lacks : has_option kinds option.name (arguments_of later) ≡ false =
      false_from_ne_true _ (λ has. are.1 (has_to later option.name are.2 has)) in
      let new : is_new kinds option.name (arguments_of later) ≡ true =
      and_from _ _ (ap is_some are.0) (not_from_false _ lacks) in
      plain_first option.name option.value (arguments_of later) are.0 ∙ and_from _ _ new (plain_from later are.2)

  -- some options are written as these arguments
  abbrev AreWritten : List (List ℕ) → Type 0
  AreWritten words = (options : List Given) × AreOptions kinds options × (words ≡ arguments_of options)

  -- one option before others that are plain
  option_before : (first : List ℕ) (value : Option (List ℕ)) (words : List (List ℕ)) → IsTaken first value
      → is_new kinds first words ≡ true → AreWritten words → AreWritten (first ∷ (option_to_list value ++ words))
  option_before first value words taken new (options, are, is) =
      let parts = and_parts (is_some (takes_value kinds first)) (not (has_option kinds first words)) new in
      let lacks : has_option kinds first words ≡ false = not-true _ parts.1 in (
        optional first value ∷ options,
        (
          taken,
          λ has. true≢false (sym (ap (has_option kinds first) is ∙ has_from options first are has) ∙ lacks),
          are,
        ),
        ap (λ (ws : List (List ℕ)). first ∷ (option_to_list value ++ ws)) is,
      )

  -- a new option that isn't a flag takes a value
  takes_one : (first : List ℕ) (words : List (List ℕ)) → is_flag kinds first ≡ false → is_new kinds first words ≡ true
      → takes_value kinds first ≡ Some true
  takes_one first words flag new = with_is (takes_value kinds first) flag (and_parts _ _ new).0

  pub plain_to : (words : List (List ℕ)) → is_plain kinds words ≡ true → AreWritten words
  plain_to [] plain = ([], tt, refl)
  plain_to (last ∷ []) plain =
      let (flag, new) = and_parts (is_flag kinds last) (is_new kinds last []) plain in
      option_before last None [] (without_is _ flag) new ([], tt, refl)
  plain_to (first ∷ next ∷ words) plain = elim (cases_Bool (is_flag kinds first)) [
    | inl flag ↦
        let (new, rest) = and_parts (is_new kinds first (next ∷ words)) (is_plain kinds (next ∷ words))
        (sym (plain_flag first (next ∷ words) flag) ∙ plain) in
        option_before first None (next ∷ words) (without_is _ flag) new (plain_to (next ∷ words) rest)
    | inr flag ↦
        let (new, rest) = and_parts (is_new kinds first words) (is_plain kinds words)
        (sym (plain_value first next words flag) ∙ plain) in
        option_before first (Some next) words (takes_one first words flag new) new (plain_to words rest)
  ]

  -- ---- values

  value_flag : (name first : List ℕ) (words : List (List ℕ)) → is_flag kinds first ≡ true
      → value_of kinds name (first ∷ words) ≡ value_of kinds name words
  value_flag name first [] flag = refl
  value_flag name first (next ∷ words) flag = cond-true (is_flag kinds first) _ _ flag

  value_first : (name first : List ℕ) (value : Option (List ℕ)) (words : List (List ℕ)) → IsTaken first value
      → value_of kinds name (first ∷ (option_to_list value ++ words))
      ≡ pick first value name (value_of kinds name words)
  value_first name first None words taken = value_flag name first words (ap is_without taken)
  value_first name first (Some value) words taken = cond-false (is_flag kinds first) _ _ (ap is_without taken)

  pub value_to : (options : List Given) (name value : List ℕ) → AreOptions kinds options
      → value_of kinds name (arguments_of options) ≡ Some value → Contains options (given name value)
  value_to [] name value are found = absurd (cc found)
  value_to (option ∷ later) name value are found =
      elim (picked option.name option.value name (value_of kinds name (arguments_of later)) value
      (sym (value_first name option.name option.value (arguments_of later) are.0) ∙ found)) [
        | inl own ↦ (zero, omega arith, given_is option name value own.0 own.1)
        | inr rest ↦ has-later option _ later (value_to later name value are.2 rest)
      ]

  pub value_from : (options : List Given) (name value : List ℕ) → AreOptions kinds options
      → Contains options (given name value) → value_of kinds name (arguments_of options) ≡ Some value
  value_from [] name value are has = absurd (has-none _ has)
  value_from (option ∷ later) name value are has =
      value_first name option.name option.value (arguments_of later) are.0
      ∙ elim (has-cases option _ later has) [
        | inl is ↦
            pick_own option.name option.value name _ value (ap (λ (o : Given). o.name) (sym is))
            (ap (λ (o : Given). o.value) (sym is))
        | inr there ↦
            let apart : option.name ≡ name → ⊥ = λ is.
            are.1 (subst (λ (n : List ℕ). Contains (names_in later) n) (sym is) (name_in later _ there)) in
            pick_later option.name option.value name _ apart ∙ value_from later name value are.2 there
      ]
