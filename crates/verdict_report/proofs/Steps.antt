-- What a reading that found something shows of its steps.
use Rattle.std.proofs.Common.{◌≡◌, ℕ, Bool, true, false, List, ◌∷◌, ◌++◌, length, take, drop, Option, Some, None, Result, Ok, Err, ◌⊎◌, inl, inr, refl, sym, ap, subst, ◌∙◌}
use Rattle.std.specs.Prelude.{option_map}
use Rattle.std.specs.Option.{option_or}
use Rattle.std.specs.Result.{result_ok, MatchResult}
use Rattle.std.specs.Str.{bytes_eq}
use Rattle.std.proofs.lemmas.List.{take_at, drop_at, take-append-drop}
use Rattle.std.proofs.lemmas.Slice.Eq.{bytes_eq-Decides}
use Rattle.verdict_report.specs.Reading.{◌>>=◌, guarded, after}

-- the first step found something, and so did the second
pub bind_some : {A B : Type 0} (read : Option A) (next : A → Option B) (y : B) → (read >>= next) ≡ Some y
    → (x : A) × (read ≡ Some x) × (next x ≡ Some y)
bind_some (Some x) next y h = (x, refl, h)
bind_some None next y h = absurd cc

-- the test passed
pub guarded_some : {A : Type 0} (test : Bool) (x y : A) → guarded test x ≡ Some y → (test ≡ true) × (x ≡ y)
guarded_some true x y h = (refl, cc)
guarded_some false x y h = absurd cc

-- there was a value to map
pub map_some : {A B : Type 0} (f : A → B) (read : Option A) (y : B) → option_map f read ≡ Some y
    → (x : A) × (read ≡ Some x) × (f x ≡ y)
map_some f (Some x) y h = (x, refl, cc)
map_some f None y h = absurd cc

-- one of the two found it
pub or_some : {A : Type 0} (first second : Option A) (y : A) → option_or first second ≡ Some y
    → (first ≡ Some y) ⊎ (second ≡ Some y)
or_some (Some x) second y h = inl h
or_some None second y h = inr h

pub same_some : {A : Type 0} (x y : A) → ◌≡◌ {A = Option A} (Some x) (Some y) → x ≡ y
same_some x y h = cc

-- a text in which something stands after these bytes begins with them
pub after_takes : (prefix text later : List ℕ) → after prefix text ≡ Some later → text ≡ prefix ++ later
unfolding after
after_takes prefix text later h =
    let g = guarded_some (bytes_eq (take (length prefix) text) prefix) (drop (length prefix) text) later h in
    let prefix-is : take (length prefix) text ≡ prefix = (bytes_eq-Decides (take (length prefix) text) prefix).0 g.0 in
    rw (← g.1) (sym (take-append-drop (length prefix) text) ∙ ap (λ (l : List ℕ). l ++ drop (length prefix) text)
    prefix-is)

-- what follows these bytes stands after them
pub after_again : (prefix later : List ℕ) → after prefix (prefix ++ later) ≡ Some later
unfolding after
after_again prefix later =
    let same : bytes_eq prefix prefix ≡ true = (bytes_eq-Decides prefix prefix).1 refl in
    rw (take_at prefix later (length prefix) refl, drop_at prefix later (length prefix) refl, same) refl

-- what is known to stand after a field of a text
pub onward : (prefix : List ℕ) {text a b : List ℕ} → text ≡ prefix ++ a → a ≡ b → text ≡ prefix ++ b
onward prefix is same = is ∙ ap (λ (rest : List ℕ). prefix ++ rest) same

-- the same after the byte at which the field ends
pub onward_past : (prefix : List ℕ) (end : ℕ) {text a b : List ℕ} → text ≡ prefix ++ (end ∷ a) → a ≡ b
    → text ≡ prefix ++ (end ∷ b)
onward_past prefix end is same = is ∙ ap (λ (rest : List ℕ). prefix ++ (end ∷ rest)) same

-- what is said of the value of a result that has one, and of the error of one that hasn't
pub given_ok : {A E : Type 0} (P : A → Type 0) (Q : E → Type 0) (r : Result A E) (x : A) → result_ok r ≡ Some x
    → MatchResult r P Q → P x
given_ok P Q (Ok y) x h m = subst P (same_some y x h) m
given_ok P Q (Err e) x h m = absurd cc

pub given_err : {A E : Type 0} (P : A → Type 0) (Q : E → Type 0) (r : Result A E) → result_ok r ≡ None
    → MatchResult r P Q → (e : E) × Q e
given_err P Q (Ok y) h m = absurd cc
given_err P Q (Err e) h m = (e, m)

-- a result whose value is known
pub ok_is : {A E : Type 0} (r : Result A E) (x : A) → result_ok r ≡ Some x → r ≡ Ok x
ok_is (Ok y) x h = ap Ok (same_some y x h)
ok_is (Err e) x h = absurd cc

-- a reading that can find nothing
pub nothing : {A : Type 0} (read : Option A) → ((x : A) → read ≡ Some x → ⊥) → read ≡ None
nothing (Some x) other = absurd (other x refl)
nothing None other = refl
