-- Two reports of a program agree in all but their ways.
use Rattle.std.proofs.Common.{ℕ, List, IsTrue}
use Rattle.std.specs.Prelude.{Bool, true, false}
use Rattle.std.specs.List.{list_all}
use Rattle.cache_spec.specs.Geometry.{Geometry}
use Rattle.cache_spec.specs.declared.start.Start.{Start}
use Rattle.transition_spec.specs.Layer.{all_of}
use Rattle.flow_spec.specs.Program.{Program}
use Rattle.report_spec.specs.declared.line.Line.{Line}
use Rattle.report_spec.specs.Report.{AreByAddress, AreByContext, IsReport}
use Rattle.report_spec.specs.Valid.{is_valid}
use Rattle.one_answer.specs.Alike.{AreAlikeTexts}
use Rattle.one_answer.proofs.Addresses.{by_address}
use Rattle.one_answer.proofs.Contexts.{by_context}
use Rattle.one_answer.proofs.Valid.{address_lines_valid, context_lines_valid}

module _ (program : Program) (g : Geometry) (start : Start) where
  -- the lines of a report by address are valid
  by_address_valid : (lines : List Line) → AreByAddress program g start lines → IsTrue (list_all is_valid lines)
  by_address_valid lines are = address_lines_valid program g start lines are.right

  -- and those of one with contexts
  by_context_valid : (lines : List Line) → AreByContext program g start lines → IsTrue (list_all is_valid lines)
  by_context_valid lines (layers, accepted, are) = context_lines_valid program g start 0 (all_of layers) lines are

  -- two reports are alike
  pub one_report : (contexts : Bool) (text other : List ℕ) → IsReport program g start contexts text
      → IsReport program g start contexts other
      → AreAlikeTexts text other
  one_report true text other (lines, is, are) (others, is', are') = (
    lines,
    others,
    (by_context_valid lines are, is),
    (by_context_valid others are', is'),
    by_context program g start lines others are are',
  )
  one_report false text other (lines, is, are) (others, is', are') = (
    lines,
    others,
    (by_address_valid lines are, is),
    (by_address_valid others are', is'),
    by_address program g start lines others are are',
  )
