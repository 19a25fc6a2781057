use Rattle.std.proofs.Common.{ℕ, List, length, subst}
use Rattle.path_model.specs.declared.graph.Node.{Node}
use Rattle.path_model.specs.Graph.{IsGraph}
use Rattle.line_blocks.specs.declared.plan.Run.{Run}
use Rattle.line_blocks.specs.Runs.{IsPlan, AreRising}
use Rattle.line_blocks.specs.Alone.{AreAlone}
use Rattle.line_blocks.proofs.Single.{alone_plan, alone_rises}
use Rattle.line_blocks.proofs.making.each_alone.Goals as goal

pub unreachable-requires : goal.unreachable-requires
unreachable-requires c =
    let nodes : List Node = c.args.graph.now in
    let graph : IsGraph nodes = c.nodes.ensures.graph in
    let numbers : List ℕ = c.in_ok-draft.draft.numbers.items in
    let runs : List Run = c.in_ok-draft.draft.runs.items in
    let are : AreAlone (length nodes) numbers runs =
    subst (λ (ns : List Node). AreAlone (length ns) numbers runs) c.nodes.ensures.same c.in_ok-draft.ensures in
    let none : IsPlan nodes c.args.geometry.now numbers runs → AreRising runs → ⊥ =
    rw c.in-None.is at c.in_ok-made.ensures.none in
    none (alone_plan nodes graph c.args.geometry.now numbers runs are)
    (alone_rises nodes graph c.args.geometry.now numbers runs are)
