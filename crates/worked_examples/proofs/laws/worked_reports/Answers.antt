-- The texts compute; the lines are right by the paths of the loop.
use Rattle.std.proofs.Common.{◌≡◌, zero, suc, refl, ap, arith, lit<}
use Rattle.std.specs.Fmt.{digits}
use Rattle.std.specs.List.Sorted.{IsStrictlyIncreasing}
use Rattle.hex.specs.Hex.{encode_with}
use Rattle.flow_spec.specs.Configuration.{fetched}
use Rattle.report_spec.specs.Inner.{IsAt}
use Rattle.report_spec.specs.Text.{address_text, text_of}
use Rattle.worked_examples.specs.Programs.{at, loop_and_rest, nop_and_stop}
use Rattle.worked_examples.specs.Reports.{loop_layers, loop_lines, loop_report, loop_context_lines, loop_context_report, stop_lines, stop_report}
use Rattle.worked_examples.proofs.Fates.{AreElsewhere, first_right, second_right, third_right, unreached}
use Rattle.worked_examples.proofs.Layers.{loop_accepted}
use Rattle.worked_examples.proofs.Listed.{places, all_lines}
use Rattle.worked_examples.proofs.Stop.{first_unknown, second_hits}
use Rattle.worked_examples.proofs.laws.worked_reports.Goals as goal

text_is : loop_report ≡ text_of loop_lines
unfolding address_text encode_with digits
text_is = refl

context_text_is : loop_context_report ≡ text_of loop_context_lines
unfolding address_text encode_with digits
context_text_is = refl

rising : IsStrictlyIncreasing (places loop_and_rest)
rising zero below = lit< tt
rising (suc zero) below = lit< tt
rising (suc (suc zero)) below = lit< tt
rising (suc (suc (suc k))) below = absurd (omega arith)

stop_text_is : stop_report ≡ text_of stop_lines
unfolding address_text encode_with digits
stop_text_is = refl

stop_rising : IsStrictlyIncreasing (places nop_and_stop)
stop_rising zero below = lit< tt
stop_rising (suc k) below = absurd (omega arith)

at_second : AreElsewhere (IsAt 0x10004)
at_second d there same = omega (arith, there, same)

at_third : AreElsewhere (IsAt 0x10008)
at_third d there same = omega (arith, there, same)

is_second : AreElsewhere (λ d. d ≡ at 0x10004)
is_second d is same = let there = ap fetched is in omega (arith, there, same)

is_third : AreElsewhere (λ d. d ≡ at 0x10008)
is_third d is same = let there = ap fetched is in omega (arith, there, same)

pub returns-clause-by_address : goal.returns-clause-by_address
returns-clause-by_address c = (
  loop_lines,
  text_is,
  record {
    rising = rising;
    all = all_lines 16 loop_and_rest;
    right = (
      first_right (IsAt 0x10000) refl,
      (
        second_right (IsAt 0x10004) refl at_second,
        (third_right (IsAt 0x10008) refl at_third, (((0, lit< tt, refl), (unreached, tt)), tt)),
      ),
    );
    greatest = tt;
  },
)

pub returns-clause-by_context : goal.returns-clause-by_context
returns-clause-by_context c = (
  loop_context_lines,
  context_text_is,
  (
    loop_layers,
    loop_accepted,
    (
      (refl, refl, refl, refl, first_right (λ d. d ≡ at 0x10000) refl),
      (
        (refl, refl, refl, refl, second_right (λ d. d ≡ at 0x10004) refl is_second),
        ((refl, refl, refl, refl, third_right (λ d. d ≡ at 0x10008) refl is_third), tt),
      ),
    ),
  ),
)

pub returns-clause-any_start : goal.returns-clause-any_start
returns-clause-any_start c = (
  stop_lines,
  stop_text_is,
  record {
    rising = stop_rising;
    all = all_lines 16 nop_and_stop;
    right = (first_unknown, (second_hits, tt));
    greatest = tt;
  },
)
