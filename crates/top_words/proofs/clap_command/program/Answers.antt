use Rattle.std.proofs.Common.{◌∙◌, ap, ap₂}
use Rattle.std.proofs.lemmas.Result.{IfOk-weaker}
use Rattle.clap.specs.Simple.{App, with_subcommand}
use Rattle.command_spec.specs.ClapCommand.{app}
use Rattle.top_words.proofs.clap_command.program.Goals as goal

pub returns : goal.returns
unfolding app
returns c =
    let classify = c.in_ok-classify.ensures in
    let graph = c.in_ok-graph.ensures in
    let first = c.in_ok-subcommand.ensures.shape classify.local
    ∙ ap₂ with_subcommand c.bare.ensures (ap (λ (a : App). a.top) classify.app) in
    IfOk-weaker c.subcommand-2.result _ _
    (λ r adds. adds.shape graph.local ∙ ap₂ with_subcommand first (ap (λ (a : App). a.top) graph.app))
    c.subcommand-2.ensures
