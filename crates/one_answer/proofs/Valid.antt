-- The lines of a report are valid.
use Rattle.std.proofs.Common.{◌≡◌, ℕ, suc, ◌+◌, List, [], ◌∷◌, length, Option, Some, None, refl, subst, arith}
use Rattle.std.specs.Prelude.{Bool, true, false, nat_le, Contains, option_map}
use Rattle.std.specs.List.{AllByRecursion, list_all}
use Rattle.std.proofs.lemmas.Bool.{and_from, le-leb}
use Rattle.std.proofs.lemmas.Bool.Decides.{nat_tests}
use Rattle.cache_spec.specs.Geometry.{Geometry}
use Rattle.cache_spec.specs.declared.start.Start.{Start}
use Rattle.transition_spec.specs.declared.way.Way.{Way}
use Rattle.transition_spec.specs.Named.{Names}
use Rattle.flow_spec.specs.Program.{Program}
use Rattle.flow_spec.specs.declared.frame.Frame.{Frame}
use Rattle.flow_spec.specs.Configuration.{Configuration}
use Rattle.flow_spec.specs.Successors.{successors, newest}
use Rattle.report_spec.specs.declared.line.Line.{Line}
use Rattle.report_spec.specs.declared.line.Line.TheVariants.{At, Context, Unreachable}
use Rattle.report_spec.specs.declared.line.Verdict.{Verdict}
use Rattle.report_spec.specs.declared.line.Verdict.TheVariants.{AlwaysHit, AlwaysMiss, Unknown}
use Rattle.report_spec.specs.Inner.{IsAt}
use Rattle.report_spec.specs.Report.{range_addresses, IsRightLine, IsContextLine, AreContextLines}
use Rattle.report_spec.specs.Right.{NamesFate, IsRight}
use Rattle.report_spec.specs.Valid.{is_valid_way, is_valid_verdict, has_back_as_deep, is_valid}
use Rattle.node_spec.proofs.Valid.{way_valid}
use Rattle.report_lines.proofs.Steps.{address_place, after_least}

-- a range that holds its last address doesn't end before it begins
range_valid : (step first last : ℕ) → Contains (range_addresses step first last) last → nat_le first last ≡ true
range_valid step first last ends =
    let (i, below, at) = address_place step first _ last ends in
    let least = after_least step first i in le-leb first last (omega (arith, at, least))

-- where a call is open, one more is open too
deeper : (deep : ℕ) (back : Option ℕ) → has_back_as_deep (suc deep) back ≡ true
    → has_back_as_deep (suc (suc deep)) back ≡ true
deeper deep None has = absurd (grind (arith, nat_tests, has))
deeper deep (Some address) has = grind (arith, nat_tests)

-- there is a newest frame exactly where there are frames
frames_valid : (frames : List Frame)
    → has_back_as_deep (length frames) (option_map (λ frame. frame.back) (newest frames)) ≡ true
frames_valid [] = refl
frames_valid (frame ∷ []) = refl
frames_valid (frame ∷ next ∷ frames) =
    deeper (length frames) (option_map (λ frame. frame.back) (newest (next ∷ frames))) (frames_valid (next ∷ frames))

module _ (program : Program) (g : Geometry) (start : Start) where
  -- a way to a fate is valid
  named_valid : (Ends : Configuration → Type 0) (way : Way) (hits : Bool) → NamesFate program g start Ends way hits
      → is_valid_way way ≡ true
  named_valid Ends way hits named =
      let P : List Configuration → Type 0 = λ path. Names (successors program) way path in
      way_valid (successors program) named.ends_in.last named.ends_in.earlier way
      (subst P named.ends_in.path_is named.names)

  -- a right verdict is valid
  verdict_valid : (Ends : Configuration → Type 0) (verdict : Verdict) → IsRight program g start Ends verdict
      → is_valid_verdict verdict ≡ true
  verdict_valid Ends AlwaysHit right = refl
  verdict_valid Ends AlwaysMiss right = refl
  verdict_valid Ends (Unknown hit miss) right =
      and_from (is_valid_way hit) (is_valid_way miss) (named_valid Ends hit true right.0)
      (named_valid Ends miss false right.1)

  -- right lines by address are valid
  pub address_lines_valid : (lines : List Line) → AllByRecursion (IsRightLine program g start) lines
      → list_all is_valid lines ≡ true
  address_lines_valid [] right = refl
  address_lines_valid (At at verdict ∷ lines) right =
      and_from (is_valid_verdict verdict) (list_all is_valid lines) (verdict_valid (IsAt at) verdict right.0)
      (address_lines_valid lines right.1)
  address_lines_valid (Context node at depth back verdict ∷ lines) right = absurd right.0
  address_lines_valid (Unreachable first last ∷ lines) right =
      and_from (nat_le first last) (list_all is_valid lines) (range_valid _ first last right.0.0)
      (address_lines_valid lines right.1)

  -- the line of a configuration is valid
  context_line_valid : (number : ℕ) (c : Configuration) (line : Line) → IsContextLine program g start number c line
      → is_valid line ≡ true
  context_line_valid number c (At at verdict) is = absurd is
  context_line_valid number c (Unreachable first last) is = absurd is
  context_line_valid number c (Context node at depth back verdict) is =
      let deep : has_back_as_deep depth back ≡ true = rw (is.2, is.3) (frames_valid c.frames) in
      and_from (has_back_as_deep depth back) (is_valid_verdict verdict) deep (verdict_valid (λ d. d ≡ c) verdict is.4)

  -- so are those of all configurations
  pub context_lines_valid : (number : ℕ) (configurations : List Configuration) (lines : List Line)
      → AreContextLines program g start number configurations lines → list_all is_valid lines ≡ true
  context_lines_valid number [] [] are = refl
  context_lines_valid number [] (line ∷ lines) are = absurd are
  context_lines_valid number (c ∷ later) [] are = absurd are
  context_lines_valid number (c ∷ later) (line ∷ lines) are =
      and_from (is_valid line) (list_all is_valid lines) (context_line_valid number c line are.0)
      (context_lines_valid (number + 1) later lines are.1)
