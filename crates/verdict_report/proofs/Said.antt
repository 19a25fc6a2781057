-- A verdict is read as it is written, and what is read is written so.
use Rattle.std.proofs.Common.{◌≡◌, ℕ, true, List, ◌∷◌, ◌++◌, Some, refl, sym, ap, ◌∙◌, append_assoc, arith, inl, inr}
use Rattle.std.specs.Prelude.{codes}
use Rattle.std.specs.Cmp.Derive.{both_true}
use Rattle.std.proofs.lemmas.Bool.{and_parts}
use Rattle.transition_spec.specs.declared.way.Way.{Way}
use Rattle.report_spec.specs.declared.line.Verdict.{Verdict}
use Rattle.report_spec.specs.declared.line.Verdict.TheVariants.{AlwaysHit, AlwaysMiss, Unknown}
use Rattle.report_spec.specs.Text.{way_text, verdict_text, said_text}
use Rattle.report_spec.specs.Valid.{is_valid_way, is_valid_verdict}
use Rattle.report_spec.specs.HasText.{FitsVerdict}
use Rattle.verdict_report.specs.Reading.{with_rest, after, way_at, unknown_at, verdict_at, said_at}
use Rattle.verdict_report.proofs.Steps.{bind_some, map_some, or_some, same_some, onward, onward_past, after_takes, after_again}
use Rattle.verdict_report.proofs.Ways.{way_takes, way_again}

-- a verdict and the line end
abbrev ended_text : Verdict → List ℕ
ended_text verdict = verdict_text verdict ++ codes "\n"

-- the text begins with a valid verdict, written so
pub record IsSaid (written : Verdict → List ℕ) (text : List ℕ) (read : Verdict × List ℕ) : Type 0 where
  pub is : text ≡ written read.0 ++ read.1
  pub fits : FitsVerdict read.0
  pub valid : is_valid_verdict read.0 ≡ true

-- the fields of both ways, one after another
regroup_unknown : (hit miss : Way) (rest : List ℕ)
    → ended_text (Unknown hit miss) ++ rest
    ≡ codes "unknown hit " ++ (way_text hit ++ (32 ∷ (codes "miss " ++ (way_text miss ++ (10 ∷ rest)))))
regroup_unknown hit miss rest = simp append_assoc

unknown_takes : (text : List ℕ) (read : Verdict × List ℕ) → unknown_at text ≡ Some read → IsSaid ended_text text read
unfolding unknown_at
unknown_takes text read h =
    let first = bind_some (after (codes "unknown hit ") text) _ read h in
    let hit = bind_some (way_at 32 first.0) _ read first.2 in
    let second = bind_some (after (codes "miss ") hit.0.1) _ read hit.2 in
    let miss = bind_some (way_at 10 second.0) _ read second.2 in
    let e = same_some (Unknown hit.0.0 miss.0.0, miss.0.1) read miss.2 in
    let f = after_takes (codes "unknown hit ") text first.0 first.1 in
    let w = way_takes 32 first.0 hit.0 hit.1 in
    let s = after_takes (codes "miss ") hit.0.1 second.0 second.1 in
    let v = way_takes 10 second.0 miss.0 miss.1 in
    let parts = onward (codes "unknown hit ") f (onward_past (way_text hit.0.0) 32 w.0
    (onward (codes "miss ") s v.0)) in
    rw (← e) (record {
      is = parts ∙ sym (regroup_unknown hit.0.0 miss.0.0 miss.0.1);
      fits = (w.1, v.1);
      valid = both_true w.2 v.2;
    })

unknown_again : (hit miss : Way) (rest : List ℕ) → FitsVerdict (Unknown hit miss)
    → is_valid_verdict (Unknown hit miss) ≡ true
    → unknown_at (ended_text (Unknown hit miss) ++ rest) ≡ Some (Unknown hit miss, rest)
unfolding unknown_at
unknown_again hit miss rest fits valid =
    let parts = and_parts (is_valid_way hit) (is_valid_way miss) valid in
    let last = way_text miss ++ (10 ∷ rest) in
    ap unknown_at (regroup_unknown hit miss rest)
    ∙ rw (after_again (codes "unknown hit ") (way_text hit ++ (32 ∷ (codes "miss " ++ last)))) (
    rw (way_again 32 hit (codes "miss " ++ last) (omega arith) fits.0 parts.0) (
    rw (after_again (codes "miss ") last) (rw (way_again 10 miss rest (omega arith) fits.1 parts.1) refl)))

-- a verdict that is a word alone
plain_takes : (verdict : Verdict) (text : List ℕ) (read : Verdict × List ℕ) → FitsVerdict verdict
    → is_valid_verdict verdict ≡ true
    → with_rest verdict (after (ended_text verdict) text) ≡ Some read → IsSaid ended_text text read
plain_takes verdict text read fits valid h =
    let rest = map_some (λ (l : List ℕ). (verdict, l)) (after (ended_text verdict) text) read h in
    rw (← rest.2) (record {
      is = after_takes (ended_text verdict) text rest.0 rest.1;
      fits = fits;
      valid = valid;
    })

verdict_takes : (text : List ℕ) (read : Verdict × List ℕ) → verdict_at text ≡ Some read → IsSaid ended_text text read
unfolding verdict_at
verdict_takes text read h = elim (or_some (with_rest AlwaysHit (after (codes "always-hit\n") text)) _ read h) [
  | inl hit ↦ plain_takes AlwaysHit text read tt refl hit
  | inr other ↦ elim (or_some (with_rest AlwaysMiss (after (codes "always-miss\n") text)) _ read other) [
    | inl miss ↦ plain_takes AlwaysMiss text read tt refl miss
    | inr unknown ↦ unknown_takes text read unknown
  ]
]

verdict_again : (verdict : Verdict) (rest : List ℕ) → FitsVerdict verdict → is_valid_verdict verdict ≡ true
    → verdict_at (ended_text verdict ++ rest) ≡ Some (verdict, rest)
unfolding verdict_at after
verdict_again AlwaysHit rest fits valid = refl
verdict_again AlwaysMiss rest fits valid = refl
verdict_again (Unknown hit miss) rest fits valid = unknown_again hit miss rest fits valid

pub said_takes : (text : List ℕ) (read : Verdict × List ℕ) → said_at text ≡ Some read → IsSaid said_text text read
unfolding said_at
said_takes text read h =
    let rest = bind_some (after (codes " ") text) _ read h in
    let v = verdict_takes rest.0 read rest.2 in
    record {
      is = after_takes (codes " ") text rest.0 rest.1 ∙ ap (λ (l : List ℕ). codes " " ++ l) v.is;
      fits =
          v.fits;
      valid = v.valid;
    }

pub said_again : (verdict : Verdict) (rest : List ℕ) → FitsVerdict verdict → is_valid_verdict verdict ≡ true
    → said_at (said_text verdict ++ rest) ≡ Some (verdict, rest)
unfolding said_at
said_again verdict rest fits valid =
    rw (after_again (codes " ") (ended_text verdict ++ rest)) (verdict_again verdict rest fits valid)
