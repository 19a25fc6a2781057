-- What a line speaks of is read as it is written, and what is read is written so.
use Rattle.std.proofs.Common.{◌≡◌, ℕ, ◌^◌, ◌<◌, Bool, true, List, ◌∷◌, ◌++◌, Option, Some, None, decimal, refl, sym, ap, ◌∙◌, append_assoc, inl, inr}
use Rattle.std.specs.Prelude.{codes, option_map, IfSome}
use Rattle.report_spec.specs.Text.{address_text, back_text, place_text, open_text, context_text}
use Rattle.report_spec.specs.Valid.{has_back_as_deep}
use Rattle.verdict_report.specs.declared.seen.Subject.{Subject}
use Rattle.verdict_report.specs.declared.seen.Subject.TheVariants.{Address, Configuration}
use Rattle.verdict_report.specs.Reading.{after, small_at, address_at, back_at, place_at, calls_at, configuration_at, subject_at}
use Rattle.verdict_report.proofs.Steps.{bind_some, guarded_some, map_some, or_some, same_some, onward, onward_past, after_takes, after_again}
use Rattle.verdict_report.proofs.Ways.{small_takes, small_again}
use Rattle.verdict_report.proofs.Addresses.{address_takes, address_again}

-- ---- the newest return address

-- no return address, before what follows
abbrev no_back : List ℕ → Option ℕ × List ℕ
no_back rest = (None, rest)

back_takes : (text : List ℕ) (read : Option ℕ × List ℕ) → back_at text ≡ Some read
    → (text ≡ back_text read.0 ++ read.1) × IfSome read.0 (λ p. p < 2 ^ 32)
unfolding back_at
back_takes text read h = elim (or_some (option_map (λ rest. (None, rest)) (after (codes "none") text)) _ read h) [
  | inl none ↦
      let m = map_some no_back (after (codes "none") text) read none in
      rw (← m.2) (after_takes (codes "none") text m.0 m.1, tt)
  | inr some ↦
      let m = map_some (λ (p : ℕ × List ℕ). (Some p.0, p.1)) (address_at text) read some in
      let a = address_takes text m.0 m.1 in
      rw (← m.2) (a.0, a.1)
]

-- an address isn't `none`
not_none : (p : ℕ) (rest : List ℕ) → after (codes "none") (address_text p ++ rest) ≡ None
unfolding after address_text
not_none p rest = refl

back_again : (back : Option ℕ) (rest : List ℕ) → IfSome back (λ p. p < 2 ^ 32)
    → back_at (back_text back ++ rest) ≡ Some (back, rest)
unfolding back_at
back_again None rest fits = rw (after_again (codes "none") rest) refl
back_again (Some p) rest fits = rw (not_none p rest, address_again p rest fits) refl

-- ---- place and open calls

-- the fields of a configuration's place, one after another
abbrev place_parts : ℕ → ℕ → List ℕ → List ℕ
place_parts node at rest = codes "#" ++ (decimal node ++ (32 ∷ (address_text at ++ rest)))

regroup_place : (node at : ℕ) (rest : List ℕ) → place_text node at ++ rest ≡ place_parts node at rest
regroup_place node at rest = simp append_assoc

place_takes : (text : List ℕ) (read : (ℕ × ℕ) × List ℕ) → place_at text ≡ Some read
    → (text ≡ place_text read.0.0 read.0.1 ++ read.1) × (read.0.0 < 2 ^ 32) × (read.0.1 < 2 ^ 32)
unfolding place_at
place_takes text read h =
    let prefix = bind_some (after (codes "#") text) _ read h in
    let node = bind_some (small_at prefix.0) _ read prefix.2 in
    let at = bind_some (address_at node.0.1) _ read node.2 in
    let e = same_some ((node.0.0, at.0.0), at.0.1) read at.2 in
    let f = after_takes (codes "#") text prefix.0 prefix.1 in
    let n = small_takes prefix.0 node.0 node.1 in
    let a = address_takes node.0.1 at.0 at.1 in
    let parts = onward (codes "#") f (onward_past (decimal node.0.0) 32 n.0 a.0) in
    rw (← e) (parts ∙ sym (regroup_place node.0.0 at.0.0 at.0.1), n.1, a.1)

place_again : (node at : ℕ) (rest : List ℕ) → node < 2 ^ 32 → at < 2 ^ 32
    → place_at (place_text node at ++ rest) ≡ Some ((node, at), rest)
unfolding place_at
place_again node at rest small fits =
    ap place_at (regroup_place node at rest)
    ∙ rw (after_again (codes "#") (decimal node ++ (32 ∷ (address_text at ++ rest)))) (
    rw (small_again node (address_text at ++ rest) small) (rw (address_again at rest fits) refl))

-- the fields of its open calls, one after another
abbrev calls_parts : ℕ → Option ℕ → List ℕ → List ℕ
calls_parts depth back rest = codes " depth " ++ (decimal depth
    ++ (32 ∷ (codes "back " ++ (back_text back ++ rest))))

regroup_calls : (depth : ℕ) (back : Option ℕ) (rest : List ℕ)
    → open_text depth back ++ rest ≡ calls_parts depth back rest
regroup_calls depth back rest = simp append_assoc

-- the text begins with these open calls
pub record AreCalls (text : List ℕ) (read : (ℕ × Option ℕ) × List ℕ) : Type 0 where
  pub is : text ≡ open_text read.0.0 read.0.1 ++ read.1
  pub small : read.0.0 < 2 ^ 32
  pub fits : IfSome read.0.1 (λ p. p < 2 ^ 32)
  pub valid : has_back_as_deep read.0.0 read.0.1 ≡ true

calls_takes : (text : List ℕ) (read : (ℕ × Option ℕ) × List ℕ) → calls_at text ≡ Some read → AreCalls text read
unfolding calls_at
calls_takes text read h =
    let first = bind_some (after (codes " depth ") text) _ read h in
    let depth = bind_some (small_at first.0) _ read first.2 in
    let second = bind_some (after (codes "back ") depth.0.1) _ read depth.2 in
    let back = bind_some (back_at second.0) _ read second.2 in
    let g = guarded_some (has_back_as_deep depth.0.0 back.0.0) ((depth.0.0, back.0.0), back.0.1) read back.2 in
    let f = after_takes (codes " depth ") text first.0 first.1 in
    let d = small_takes first.0 depth.0 depth.1 in
    let s = after_takes (codes "back ") depth.0.1 second.0 second.1 in
    let b = back_takes second.0 back.0 back.1 in
    let parts = onward (codes " depth ") f (onward_past (decimal depth.0.0) 32 d.0 (onward (codes "back ") s b.0)) in
    rw (← g.1) (record {
      is = parts ∙ sym (regroup_calls depth.0.0 back.0.0 back.0.1);
      small = d.1;
      fits = b.1;
      valid =
          g.0;
    })

calls_again : (depth : ℕ) (back : Option ℕ) (rest : List ℕ) → depth < 2 ^ 32 → IfSome back (λ p. p < 2 ^ 32)
    → has_back_as_deep depth back ≡ true
    → calls_at (open_text depth back ++ rest) ≡ Some ((depth, back), rest)
unfolding calls_at
calls_again depth back rest small fits valid =
    ap calls_at (regroup_calls depth back rest)
    ∙ rw (after_again (codes " depth ") (decimal depth ++ (32 ∷ (codes "back " ++ (back_text back ++ rest))))) (
    rw (small_again depth (codes "back " ++ (back_text back ++ rest)) small) (
    rw (after_again (codes "back ") (back_text back ++ rest)) (rw (back_again back rest fits) (rw valid refl))))

-- ---- subjects

abbrev pub subject_text : Subject → List ℕ
subject_text (Address at) = address_text at
subject_text (Configuration node at depth back) = context_text node at depth back

abbrev pub FitsSubject : Subject → Type 0
FitsSubject (Address at) = at < 2 ^ 32
FitsSubject (Configuration node at depth back) =
    (node < 2 ^ 32) × (at < 2 ^ 32) × (depth < 2 ^ 32) × IfSome back (λ p. p < 2 ^ 32)

abbrev pub is_valid_subject : Subject → Bool
is_valid_subject (Address at) = true
is_valid_subject (Configuration node at depth back) = has_back_as_deep depth back

-- the text begins with this subject
pub record IsSubject (text : List ℕ) (read : Subject × List ℕ) : Type 0 where
  pub is : text ≡ subject_text read.0 ++ read.1
  pub fits : FitsSubject read.0
  pub valid : is_valid_subject read.0 ≡ true

configuration_takes : (text : List ℕ) (read : Subject × List ℕ) → configuration_at text ≡ Some read
    → IsSubject text read
unfolding configuration_at
configuration_takes text read h =
    let place = bind_some (place_at text) _ read h in
    let calls = bind_some (calls_at place.0.1) _ read place.2 in
    let e = same_some (Configuration place.0.0.0 place.0.0.1 calls.0.0.0 calls.0.0.1, calls.0.1) read calls.2 in
    let p = place_takes text place.0 place.1 in
    let c = calls_takes place.0.1 calls.0 calls.1 in
    let node = place.0.0.0 in
    let at = place.0.0.1 in
    let opened = open_text calls.0.0.0 calls.0.0.1 in
    rw (← e) (record {
      is = onward (place_text node at) p.0 c.is ∙ sym (append_assoc (place_text node at) opened calls.0.1);
      fits = (p.1, p.2, c.small, c.fits);
      valid = c.valid;
    })

-- what begins with an address is no configuration
no_configuration : (p : ℕ) (rest : List ℕ) → configuration_at (address_text p ++ rest) ≡ None
unfolding configuration_at place_at after address_text
no_configuration p rest = refl

pub subject_takes : (text : List ℕ) (read : Subject × List ℕ) → subject_at text ≡ Some read → IsSubject text read
unfolding subject_at
subject_takes text read h = elim (or_some (configuration_at text) _ read h) [
  | inl configuration ↦ configuration_takes text read configuration
  | inr address ↦
      let m = map_some (λ (p : ℕ × List ℕ). (Address p.0, p.1)) (address_at text) read address in
      let a = address_takes text m.0 m.1 in
      rw (← m.2) (record { is = a.0; fits = a.1; valid = refl })
]

pub subject_again : (subject : Subject) (rest : List ℕ) → FitsSubject subject → is_valid_subject subject ≡ true
    → subject_at (subject_text subject ++ rest) ≡ Some (subject, rest)
unfolding subject_at configuration_at
subject_again (Address at) rest fits valid = rw (no_configuration at rest, address_again at rest fits) refl
subject_again (Configuration node at depth back) rest fits valid =
    let regrouped = append_assoc (place_text node at) (open_text depth back) rest in
    ap subject_at regrouped
    ∙ rw (place_again node at (open_text depth back ++ rest) fits.0 fits.1)
    (rw (calls_again depth back rest fits.2 fits.3 valid) refl)
