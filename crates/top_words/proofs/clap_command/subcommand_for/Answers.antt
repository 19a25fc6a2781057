use Rattle.std.proofs.Common.{◌∙◌, ◌||◌, ap₂, sym}
use Rattle.clap.specs.Simple.{new_app, with_rule}
use Rattle.command_spec.specs.Commands.{name_of}
use Rattle.top_words.proofs.ClapOptions.{options_more}
use Rattle.top_words.proofs.clap_command.subcommand_for.Goals as goal

pub loop-option-preserved : goal.loop-option-preserved
loop-option-preserved c =
    let options = c.options-option-items.result.now in
    let i = c.loop-option.option-index in
    record {
      app = c.in_ok-subcommand.ensures.shape c.argument.ensures.local
          ∙ ap₂ with_rule c.loop-option.invariant.app c.argument.ensures.rule
          ∙ sym (options_more (new_app (name_of c.args.command)) options i _ c.loop-option-test.true);
      local = c.in_ok-subcommand.ensures.globals ∙ ap₂ (λ a b. a || b) c.loop-option.invariant.local c.argument.ensures.local;
    }
