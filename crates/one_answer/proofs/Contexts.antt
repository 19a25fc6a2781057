-- Two reports with contexts agree in all but their ways.
use Rattle.std.proofs.Common.{◌≡◌, ℕ, ◌+◌, List, [], ◌∷◌, refl, subst}
use Rattle.cache_spec.specs.Geometry.{Geometry}
use Rattle.cache_spec.specs.declared.start.Start.{Start}
use Rattle.transition_spec.specs.Layer.{all_of}
use Rattle.flow_spec.specs.Program.{Program}
use Rattle.flow_spec.specs.Configuration.{Configuration}
use Rattle.flow_spec.specs.Successors.{successors}
use Rattle.report_spec.specs.declared.line.Line.{Line}
use Rattle.report_spec.specs.declared.line.Line.TheVariants.{At, Context, Unreachable}
use Rattle.report_spec.specs.Report.{IsContextLine, AreContextLines, AreByContext}
use Rattle.one_answer.specs.Alike.{verdict_alone, line_alone, AreAlike}
use Rattle.one_answer.proofs.Verdicts.{one_verdict}
use Rattle.one_answer.proofs.Programs.{one_numbering}

module _ (program : Program) (g : Geometry) (start : Start) where
  -- two lines of a configuration are alike
  one_line : (number : ℕ) (c : Configuration) (line other : Line) → IsContextLine program g start number c line
      → IsContextLine program g start number c other → line_alone line ≡ line_alone other
  one_line number c (At at verdict) other is is' = absurd is
  one_line number c (Unreachable first last) other is is' = absurd is
  one_line number c (Context node at depth back verdict) (At at' verdict') is is' = absurd is'
  one_line number c (Context node at depth back verdict) (Unreachable first last) is is' = absurd is'
  one_line number c (Context node at depth back verdict) (Context node' at' depth' back' verdict') is is' =
      let said : verdict_alone verdict ≡ verdict_alone verdict' =
      one_verdict program g start (λ d. d ≡ c) verdict verdict' is.4 is'.4 in
      cc (is.0, is'.0, is.1, is'.1, is.2, is'.2, is.3, is'.3, said)

  -- so are all lines of some configurations
  each_line : (number : ℕ) (configurations : List Configuration) (lines others : List Line)
      → AreContextLines program g start number configurations lines
      → AreContextLines program g start number configurations others
      → AreAlike lines others
  each_line number [] [] [] are are' = refl
  each_line number [] (line ∷ lines) others are are' = absurd are
  each_line number [] [] (other ∷ others) are are' = absurd are'
  each_line number (c ∷ later) [] others are are' = absurd are
  each_line number (c ∷ later) (line ∷ lines) [] are are' = absurd are'
  each_line number (c ∷ later) (line ∷ lines) (other ∷ others) are are' =
      cc (one_line number c line other are.0 are'.0, each_line (number + 1) later lines others are.1 are'.1)

  -- two reports with contexts are alike
  pub by_context : (lines others : List Line) → AreByContext program g start lines
      → AreByContext program g start others
      → AreAlike lines others
  by_context lines others (layers, accepted, are) (layers', accepted', are') =
      let same : all_of layers' ≡ all_of layers =
      one_numbering (successors program) program layers' layers accepted' accepted in
      each_line 0 (all_of layers) lines others are
      (subst (λ cs. AreContextLines program g start 0 cs others) same are')
