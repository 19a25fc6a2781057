-- One verdict is right of some configurations, but for its ways.
use Rattle.std.proofs.Common.{◌≡◌, ℕ, List, refl, inl, inr}
use Rattle.std.specs.Prelude.{true, false}
use Rattle.cache_spec.specs.Geometry.{Geometry}
use Rattle.cache_spec.specs.declared.start.Start.{Start}
use Rattle.cache_spec.specs.Verdict.{IsAlwaysHit, IsAlwaysMiss}
use Rattle.cache_spec.proofs.Starts.{can_end}
use Rattle.flow_spec.specs.Program.{Program}
use Rattle.flow_spec.specs.Configuration.{Configuration}
use Rattle.transition_spec.specs.declared.way.Way.{Way}
use Rattle.report_spec.specs.declared.line.Verdict.{Verdict}
use Rattle.report_spec.specs.declared.line.Verdict.TheVariants.{AlwaysHit, AlwaysMiss, Unknown}
use Rattle.report_spec.specs.Right.{Fetches, NamesFate, IsRight, fetches_of}
use Rattle.one_answer.specs.Alike.{verdict_alone}

module _ (program : Program) (g : Geometry) (start : Start) (Ends : Configuration → Type 0) where
  -- the fetches of some configurations
  abbrev Fetched : List ℕ → Type 0
  Fetched = Fetches program Ends

  -- not always a hit and always a miss: the last fetch of a path can do one of them
  hits_misses : IsAlwaysHit g start Fetched → IsAlwaysMiss g start Fetched → ⊥
  hits_misses hits misses =
      let (addresses, fetched) = hits.some in
      elim (can_end g start addresses) [
        | inl hit ↦ misses.none addresses fetched hit
        | inr miss ↦ hits.none addresses fetched miss
      ]

  -- not always a hit where a way leads to a miss
  hits_way : (way : Way) → IsAlwaysHit g start Fetched → NamesFate program g start Ends way false → ⊥
  hits_way way hits named =
      hits.none (fetches_of named.path) (named.path, named.ends_in, refl) named.fate

  -- not always a miss where a way leads to a hit
  misses_way : (way : Way) → IsAlwaysMiss g start Fetched → NamesFate program g start Ends way true → ⊥
  misses_way way misses named =
      misses.none (fetches_of named.path) (named.path, named.ends_in, refl) named.fate

  -- two right verdicts are one, but for their ways
  pub one_verdict : (verdict other : Verdict) → IsRight program g start Ends verdict
      → IsRight program g start Ends other
      → verdict_alone verdict ≡ verdict_alone other
  one_verdict AlwaysHit AlwaysHit right right' = refl
  one_verdict AlwaysHit AlwaysMiss right right' = absurd (hits_misses right right')
  one_verdict AlwaysHit (Unknown hit miss) right right' = absurd (hits_way miss right right'.1)
  one_verdict AlwaysMiss AlwaysHit right right' = absurd (hits_misses right' right)
  one_verdict AlwaysMiss AlwaysMiss right right' = refl
  one_verdict AlwaysMiss (Unknown hit miss) right right' = absurd (misses_way hit right right'.0)
  one_verdict (Unknown hit miss) AlwaysHit right right' = absurd (hits_way miss right' right.1)
  one_verdict (Unknown hit miss) AlwaysMiss right right' = absurd (misses_way hit right' right.0)
  one_verdict (Unknown hit miss) (Unknown hit' miss') right right' = refl

  -- where a verdict is right some path ends there
  pub reached : (verdict : Verdict) → IsRight program g start Ends verdict
      → (addresses : List ℕ) × Fetched addresses
  reached AlwaysHit right = right.some
  reached AlwaysMiss right = right.some
  reached (Unknown hit miss) right = (fetches_of right.0.path, (right.0.path, right.0.ends_in, refl))
