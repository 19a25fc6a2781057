use Rattle.std.proofs.Common.{◌∙◌, sym, ap, ◌&&◌}
use Rattle.command_spec.specs.Plain.{is_plain}
use Rattle.command_spec.specs.Commands.{options_of}
use Rattle.top_words.specs.Views.{bytes_of}
use Rattle.top_words.proofs.Walked.{IsOption, is_plain-option}
use Rattle.top_words.proofs.options.is_plain.Goals as goal

pub returns-then-not-is_new : goal.returns-then-not-is_new
returns-then-not-is_new c =
    let kinds = options_of c.args.command in
    let rest = c.in-Some.rest.now in
    let option : IsOption (options_of c.args.command) c.loop-left.left.now c.first-item.result c.as_str-name.result.now
    rest =
    record {
      some = c.in-len1-up.len_at_least;
      first_is = c.first-item.is;
      text_is = c.as_str-name.ensures.value;
      rest_is = c.in-Some.ensures.rest;
    } in
    let known = is_plain-option kinds c.loop-left.left.now c.first-item.result c.as_str-name.result.now rest option in
    let old = sym c.is_new.ensures ∙ c.if-not-is_new.true in
    sym (c.loop-left.invariant ∙ known ∙ ap (λ new. new && is_plain kinds (bytes_of rest)) old)

pub loop-left-preserved : goal.loop-left-preserved
loop-left-preserved c =
    let kinds = options_of c.args.command in
    let rest = c.in-Some.rest.now in
    let option : IsOption (options_of c.args.command) c.loop-left.left.now c.first-item.result c.as_str-name.result.now
    rest =
    record {
      some = c.in-len1-up.len_at_least;
      first_is = c.first-item.is;
      text_is = c.as_str-name.ensures.value;
      rest_is = c.in-Some.ensures.rest;
    } in
    let known = is_plain-option kinds c.loop-left.left.now c.first-item.result c.as_str-name.result.now rest option in
    let new = sym c.is_new.ensures ∙ c.if-not-is_new.false in
    c.loop-left.invariant ∙ known ∙ ap (λ new. new && is_plain kinds (bytes_of rest)) new
