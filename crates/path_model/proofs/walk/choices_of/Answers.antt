use Rattle.std.proofs.Common.{ℕ, List, ◌∙◌, ◌++◌, ◌-◌, ap, reverse, subst, arith}
use Rattle.std.proofs.lemmas.List.{take_all}
use Rattle.std.specs.Prelude.{slice_get}
use Rattle.std.proofs.Math.ListN.{get_or}
use Rattle.path_model.specs.Letters.{letter_to}
use Rattle.transition_spec.specs.Path.{HasChoices}
use Rattle.path_model.specs.Graph.{graph_step}
use Rattle.path_model.proofs.Moves.{choices_none, choices_more}
use Rattle.path_model.proofs.walk.choices_of.Goals as goal

pub loop-index-init : goal.loop-index-init
loop-index-init c = choices_none c.args.graph.now c.args.path.now c.new-letters.result.items c.new-letters.ensures.items

pub loop-index-preserved : goal.loop-index-preserved
loop-index-preserved c = choices_more c.args.graph.now c.args.path.now c.loop-index.letters.items
    c.push_letter.new.letters.items c.loop-index.index 0
    c.loop-index.auto.index (omega arith) c.requires c.loop-index.invariant
    (c.in_ok-push_letter.ensures ∙ ap (λ xs. c.loop-index.letters.items ++ xs) (c.letter_to.ensures
    ∙ ap (λ nodes. letter_to (slice_get nodes (get_or c.args.path.now (c.loop-index.index - 1) 0))
    (get_or c.args.path.now c.loop-index.index 0)) c.nodes-nodes.ensures.same))

pub returns : goal.returns
returns c =
    let P : List ℕ → Type 0 = λ path. HasChoices (graph_step c.args.graph.now) (reverse path)
    c.loop-index.letters.items in
    subst P (take_all c.loop-index.index c.args.path.now c.loop-index-test.false) c.loop-index.invariant
