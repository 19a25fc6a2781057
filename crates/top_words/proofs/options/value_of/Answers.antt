use Rattle.std.proofs.Common.{◌≡◌, ◌∙◌, ◌&&◌, not, false, bytes_eq, None, rules}
use Rattle.std.proofs.lemmas.Bool.{and_left, and_right}
use Rattle.command_spec.specs.Commands.{options_of}
use Rattle.command_spec.specs.Plain.{is_flag, value_of}
use Rattle.top_words.specs.Views.{bytes_of}
use Rattle.top_words.proofs.Walked.{IsOption, value_of-ended, value_of-option}
use Rattle.top_words.proofs.options.value_of.Goals as goal
use Rattle.top_words.proofs.options.value_of.Goals.{else-eq-via-then-eq+else-not-is_flag, else-eq-via-else-eq}

pub returns-in_err-left : goal.returns-in_err-left
returns-in_err-left c =
    let kinds = options_of c.args.command in
    let ended = value_of-ended kinds c.args.name.now c.loop-left.left.now c.first-item.result c.as_str-found.result.now
    c.in-len1-up.len_at_least c.first-item.is c.as_str-found.ensures.value (search rules) in
    let none : value_of kinds c.args.name.now (bytes_of c.args.arguments.now) ≡ None = c.loop-left.invariant ∙ ended in
    rw none (search rules)

pub loop-left-preserved : goal.loop-left-preserved
loop-left-preserved c =
    let word = c.as_str-found.result.now in
    let name = c.args.name.now in
    let rest = c.in_ok-left.left.now in
    let option : IsOption (options_of c.args.command) c.loop-left.left.now c.first-item.result word rest =
    record {
      some = c.in-len1-up.len_at_least;
      first_is = c.first-item.is;
      text_is = c.as_str-found.ensures.value;
      rest_is = search rules;
    } in
    let other : (bytes_eq word name && not (is_flag (options_of c.args.command) word)) ≡ false =
    elim c.else-eq.branch [
      | else-eq-via-then-eq+else-not-is_flag w ↦ and_right (bytes_eq word name)
          (not (is_flag (options_of c.args.command) word)) (search rules)
      | else-eq-via-else-eq w ↦ and_left (bytes_eq word name) (not (is_flag (options_of c.args.command) word))
          (search rules)
    ] in
    c.loop-left.invariant ∙ value_of-option (options_of c.args.command) name c.loop-left.left.now c.first-item.result
    word rest option other
