-- The texts compute; what is read from them differs in a verdict, or in ways alone.
use Rattle.std.proofs.Common.{◌≡◌, true, refl, lit<}
use Rattle.std.specs.Fmt.{digits}
use Rattle.std.specs.List.{AllByRecursion}
use Rattle.hex.specs.Hex.{encode_with}
use Rattle.report_spec.specs.declared.line.Verdict.{Verdict}
use Rattle.report_spec.specs.declared.line.Verdict.TheVariants.{AlwaysHit, AlwaysMiss}
use Rattle.report_spec.specs.HasText.{HasText, FitsVerdict}
use Rattle.report_spec.specs.Text.{address_text, text_of}
use Rattle.report_spec.specs.Valid.{is_valid_verdict}
use Rattle.one_answer.proofs.Readings.{lines_alike}
use Rattle.worked_examples.specs.Alike.{lines_after, lines_between, lines_by_other_ways, hit_after, miss_after, hit_between, miss_between, hit_by_other_ways}
use Rattle.worked_examples.proofs.laws.worked_alikeness.Goals as goal

hit_after_is : hit_after ≡ text_of (lines_after AlwaysHit)
unfolding address_text encode_with digits
hit_after_is = refl

miss_after_is : miss_after ≡ text_of (lines_after AlwaysMiss)
unfolding address_text encode_with digits
miss_after_is = refl

hit_between_is : hit_between ≡ text_of (lines_between AlwaysHit)
unfolding address_text encode_with digits
hit_between_is = refl

miss_between_is : miss_between ≡ text_of (lines_between AlwaysMiss)
unfolding address_text encode_with digits
miss_between_is = refl

by_other_ways_is : hit_by_other_ways ≡ text_of lines_by_other_ways
unfolding address_text encode_with digits
by_other_ways_is = refl

-- the lines have a text, where the verdict has one
after_have : (verdict : Verdict) → FitsVerdict verdict → is_valid_verdict verdict ≡ true
    → AllByRecursion HasText (lines_after verdict)
after_have verdict fits valid = (
  record { fits = (lit< tt, (lit< tt, lit< tt)); valid = refl },
  (record { fits = (lit< tt, fits); valid = valid }, tt),
)

between_have : (verdict : Verdict) → FitsVerdict verdict → is_valid_verdict verdict ≡ true
    → AllByRecursion HasText (lines_between verdict)
between_have verdict fits valid =
    let later = after_have verdict fits valid in
    (later.0, (later.1.0, (record { fits = (lit< tt, (lit< tt, lit< tt)); valid = refl }, tt)))

pub returns-clause-other_ways : goal.returns-clause-other_ways
returns-clause-other_ways c =
    (lines_between AlwaysHit, lines_by_other_ways, (refl, hit_between_is), (refl, by_other_ways_is), refl)

pub returns-clause-after_unknown : goal.returns-clause-after_unknown
returns-clause-after_unknown c = λ alike.
    let same = lines_alike (lines_after AlwaysHit) (lines_after AlwaysMiss) (after_have AlwaysHit tt refl)
    (after_have AlwaysMiss tt refl) (rw (← hit_after_is, ← miss_after_is) alike) in
    cc same

pub returns-clause-between_unknown : goal.returns-clause-between_unknown
returns-clause-between_unknown c = λ alike.
    let same = lines_alike (lines_between AlwaysHit) (lines_between AlwaysMiss) (between_have AlwaysHit tt refl)
    (between_have AlwaysMiss tt refl) (rw (← hit_between_is, ← miss_between_is) alike) in
    cc same
