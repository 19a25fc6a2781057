use Rattle.std.proofs.Common.{◌∙◌, sym}
use Rattle.command_spec.specs.Commands.{options_of}
use Rattle.top_words.proofs.Walked.{has_option-option}
use Rattle.top_words.proofs.options.has_option.Goals as goal

pub loop-left-preserved : goal.loop-left-preserved
loop-left-preserved c =
    c.loop-left.invariant
    ∙ has_option-option (options_of c.args.command) c.args.name.now c.loop-left.left.now c.first-item.result
    c.as_str-found.result.now c.in-Some.rest.now (record {
      some = c.in-len1-up.len_at_least;
      first_is = c.first-item.is;
      text_is = c.as_str-found.ensures.value;
      rest_is = c.in-Some.ensures.rest;
    }) (sym c.eq.ensures ∙ c.if-eq.false)
