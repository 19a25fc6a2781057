-- A line is read as it is written, and what is read is written so.
use Rattle.std.proofs.Common.{◌≡◌, ℕ, ◌^◌, ◌<◌, true, List, [], ◌∷◌, ◌++◌, length, eqb, Option, Some, None, refl, sym, ap, ◌∙◌, append_assoc, inl, inr}
use Rattle.std.specs.Prelude.{codes, nat_le, ◌↔◌}
use Rattle.std.specs.Cmp.Derive.{both_true}
use Rattle.std.proofs.lemmas.Bool.{and_parts, eqb-true}
use Rattle.std.proofs.lemmas.List.{append-nil, nil_from_length}
use Rattle.report_spec.specs.declared.line.Line.{Line}
use Rattle.report_spec.specs.declared.line.Line.TheVariants.{At, Context, Unreachable}
use Rattle.report_spec.specs.declared.line.Verdict.{Verdict}
use Rattle.report_spec.specs.Text.{address_text, said_text, range_text, context_text, line_text}
use Rattle.report_spec.specs.Valid.{is_valid_verdict, has_back_as_deep}
use Rattle.verdict_report.specs.declared.seen.Subject.{Subject}
use Rattle.verdict_report.specs.declared.seen.Subject.TheVariants.{Address, Configuration}
use Rattle.report_spec.specs.HasText.{FitsVerdict, HasText, IsTextOf}
use Rattle.verdict_report.specs.Seen.{line_with}
use Rattle.verdict_report.specs.Reading.{after, address_at, said_at, subject_at, range_at, verdict_line_at, line_at, line_of}
use Rattle.verdict_report.proofs.Steps.{bind_some, guarded_some, or_some, same_some, onward, nothing, after_takes, after_again}
use Rattle.verdict_report.proofs.Addresses.{address_takes, address_again}
use Rattle.verdict_report.proofs.Said.{said_takes, said_again}
use Rattle.verdict_report.proofs.Subjects.{subject_text, FitsSubject, is_valid_subject, subject_takes, subject_again}

-- the text begins with this line
pub record IsLine (text : List ℕ) (read : Line × List ℕ) : Type 0 where
  pub is : text ≡ line_text read.0 ++ read.1
  pub has_text : HasText read.0

-- ---- ranges

-- the fields of a range, one after another
abbrev range_parts : ℕ → ℕ → List ℕ → List ℕ
range_parts first last rest = address_text first
    ++ (codes "-" ++ (address_text last ++ (codes " unreachable\n" ++ rest)))

regroup_range : (first last : ℕ) (rest : List ℕ) → range_text first last ++ rest ≡ range_parts first last rest
regroup_range first last rest = simp append_assoc

range_takes : (text : List ℕ) (read : Line × List ℕ) → range_at text ≡ Some read → IsLine text read
unfolding range_at
range_takes text read h =
    let first = bind_some (address_at text) _ read h in
    let dash = bind_some (after (codes "-") first.0.1) _ read first.2 in
    let last = bind_some (address_at dash.0) _ read dash.2 in
    let end = bind_some (after (codes " unreachable\n") last.0.1) _ read last.2 in
    let g = guarded_some (nat_le first.0.0 last.0.0) (Unreachable first.0.0 last.0.0, end.0) read end.2 in
    let f = address_takes text first.0 first.1 in
    let d = after_takes (codes "-") first.0.1 dash.0 dash.1 in
    let l = address_takes dash.0 last.0 last.1 in
    let e = after_takes (codes " unreachable\n") last.0.1 end.0 end.1 in
    let parts = onward (address_text first.0.0) f.0 (onward (codes "-") d (onward (address_text last.0.0) l.0 e)) in
    rw (← g.1) (record {
      is = parts ∙ sym (regroup_range first.0.0 last.0.0 end.0);
      has_text = record
          { fits = (f.1, l.1); valid = g.0 };
    })

range_again : (first last : ℕ) (rest : List ℕ) → first < 2 ^ 32 → last < 2 ^ 32 → nat_le first last ≡ true
    → range_at (range_text first last ++ rest) ≡ Some (Unreachable first last, rest)
unfolding range_at
range_again first last rest fits more valid =
    let end = codes " unreachable\n" ++ rest in
    ap range_at (regroup_range first last rest)
    ∙ rw (address_again first (codes "-" ++ (address_text last ++ end)) fits) (
    rw (after_again (codes "-") (address_text last ++ end)) (
    rw (address_again last end more) (rw (after_again (codes " unreachable\n") rest) (rw valid refl))))

-- ---- lines with a verdict

-- a line with a verdict is its subject and what is said of it
line_text-line_with : (subject : Subject) (verdict : Verdict)
    → line_text (line_with subject verdict) ≡ subject_text subject ++ said_text verdict
line_text-line_with (Address at) verdict = refl
line_text-line_with (Configuration node at depth back) verdict = refl

-- and has a text where both are right
HasText-line_with : (subject : Subject) (verdict : Verdict) → FitsSubject subject → is_valid_subject subject ≡ true
    → FitsVerdict verdict → is_valid_verdict verdict ≡ true
    → HasText (line_with subject verdict)
HasText-line_with (Address at) verdict fits valid small right = record { fits = (fits, small); valid = right }
HasText-line_with (Configuration node at depth back) verdict fits valid small right =
    record { fits = (fits.0, fits.1, fits.2, fits.3, small); valid = both_true valid right }

verdict_line_takes : (text : List ℕ) (read : Line × List ℕ) → verdict_line_at text ≡ Some read → IsLine text read
unfolding verdict_line_at
verdict_line_takes text read h =
    let subject = bind_some (subject_at text) _ read h in
    let said = bind_some (said_at subject.0.1) _ read subject.2 in
    let e = same_some (line_with subject.0.0 said.0.0, said.0.1) read said.2 in
    let s = subject_takes text subject.0 subject.1 in
    let v = said_takes subject.0.1 said.0 said.1 in
    let written = line_text-line_with subject.0.0 said.0.0 in
    let whole : text ≡ line_text (line_with subject.0.0 said.0.0) ++ said.0.1 =
    onward (subject_text subject.0.0) s.is v.is ∙ sym (append_assoc (subject_text subject.0.0) (said_text said.0.0)
    said.0.1) ∙ ap (λ (t : List ℕ). t ++ said.0.1) (sym written) in
    rw (← e) (record { is = whole; has_text = HasText-line_with subject.0.0 said.0.0 s.fits s.valid v.fits v.valid })

verdict_line_again : (subject : Subject) (verdict : Verdict) (rest : List ℕ) → FitsSubject subject
    → is_valid_subject subject ≡ true → FitsVerdict verdict → is_valid_verdict verdict ≡ true
    → verdict_line_at ((subject_text subject ++ said_text verdict) ++ rest) ≡ Some (line_with subject verdict, rest)
unfolding verdict_line_at
verdict_line_again subject verdict rest fits valid small right =
    ap verdict_line_at (append_assoc (subject_text subject) (said_text verdict) rest)
    ∙ rw (subject_again subject (said_text verdict ++ rest) fits valid)
    (rw (said_again verdict rest small right) refl)

-- ---- all lines

line_takes : (text : List ℕ) (read : Line × List ℕ) → line_at text ≡ Some read → IsLine text read
unfolding line_at
line_takes text read h = elim (or_some (range_at text) (verdict_line_at text) read h) [
  | inl range ↦ range_takes text read range
  | inr reported ↦ verdict_line_takes text read reported
]

-- a line by address is no range, for after its address stands no dash
no_range_at : (at : ℕ) (verdict : Verdict) (rest : List ℕ) → at < 2 ^ 32
    → range_at ((address_text at ++ said_text verdict) ++ rest) ≡ None
unfolding range_at after
no_range_at at verdict rest fits =
    ap range_at (append_assoc (address_text at) (said_text verdict) rest)
    ∙ rw (address_again at (said_text verdict ++ rest) fits) refl

-- the text of a configuration begins with no address
no_address : (text : List ℕ) → address_at (35 ∷ text) ≡ None
unfolding address_text
no_address text = nothing (address_at (35 ∷ text)) (λ read h. cc (address_takes (35 ∷ text) read h).0)

-- a configuration is no range
no_range_context : (node at depth : ℕ) (back : Option ℕ) (verdict : Verdict) (rest : List ℕ)
    → range_at ((context_text node at depth back ++ said_text verdict) ++ rest) ≡ None
unfolding range_at
no_range_context node at depth back verdict rest = rw no_address refl

pub line_again : (line : Line) (rest : List ℕ) → HasText line
    → line_at (line_text line ++ rest) ≡ Some (line, rest)
unfolding line_at
line_again (At at verdict) rest h =
    rw (no_range_at at verdict rest h.fits.0)
    (verdict_line_again (Address at) verdict rest h.fits.0 refl h.fits.1 h.valid)
line_again (Context node at depth back verdict) rest h =
    let parts = and_parts (has_back_as_deep depth back) (is_valid_verdict verdict) h.valid in
    rw (no_range_context node at depth back verdict rest)
    (verdict_line_again (Configuration node at depth back) verdict rest (h.fits.0, h.fits.1, h.fits.2, h.fits.3) parts.0
    h.fits.4 parts.1)
line_again (Unreachable first last) rest h = rw (range_again first last rest h.fits.0 h.fits.1 h.valid) refl

-- a text that has a line is the text of this line
line_of_takes : (text : List ℕ) (line : Line) → line_of text ≡ Some line → IsTextOf line text
unfolding line_of
line_of_takes text line h =
    let read = bind_some (line_at text) _ line h in
    let g = guarded_some (eqb (length read.0.1) 0) read.0.0 line read.2 in
    let l = line_takes text read.0 read.1 in
    let end : read.0.1 ≡ [] = nil_from_length read.0.1 (eqb-true (length read.0.1) 0 g.0) in
    let whole : line_text read.0.0 ≡ text =
    sym (l.is ∙ ap (λ (t : List ℕ). line_text read.0.0 ++ t) end ∙ append-nil (line_text read.0.0)) in
    rw (← g.1) (record { has_text = l.has_text; is = whole })

-- the text of a line has this line
line_of_again : (line : Line) → HasText line → line_of (line_text line) ≡ Some line
unfolding line_of
line_of_again line h =
    let read : line_at (line_text line) ≡ Some (line, []) =
    ap line_at (sym (append-nil (line_text line))) ∙ line_again line [] h in
    rw read refl

-- what reading gives is exactly the line that has the text
pub line_of_is : (text : List ℕ) (found : Option Line) → found ≡ line_of text → (line : Line)
    → (found ≡ Some line) ↔ IsTextOf line text
line_of_is text found is line = (
  λ some. line_of_takes text line (sym is ∙ some),
  λ h. is ∙ ap line_of (sym h.is) ∙ line_of_again line h.has_text,
)

-- ---- laws

-- of two lines where one's text begins with the other's, the longer text is read as both
same_read : (line other : Line) (more : List ℕ) → HasText line → HasText other
    → line_text line ≡ line_text other ++ more
    → (line ≡ other) × (more ≡ [])
same_read line other more h k is =
    let whole : line_at (line_text line) ≡ Some (line, []) =
    ap line_at (sym (append-nil (line_text line))) ∙ line_again line [] h in
    let prefix : line_at (line_text line) ≡ Some (other, more) = ap line_at is ∙ line_again other more k in
    let same = same_some (line, []) (other, more) (sym whole ∙ prefix) in
    (ap (λ (read : Line × List ℕ). read.0) same, ap (λ (read : Line × List ℕ). read.1) (sym same))

pub one_line_of_text : (line other : Line) → HasText line → HasText other → line_text line ≡ line_text other
    → line ≡ other
one_line_of_text line other h k is = (same_read line other [] h k (is ∙ sym (append-nil (line_text other)))).0

pub no_prefix : (line other : Line) (more : List ℕ) → HasText line → HasText other
    → line_text line ≡ line_text other ++ more → more ≡ []
no_prefix line other more h k is = (same_read line other more h k is).1
