use Rattle.std.proofs.Common.{◌≡◌, ◌∙◌, ℕ, List, Some, sym, subst}
use Rattle.std.specs.List.{Contains}
use Rattle.std.specs.Prelude.{slice_get}
use Rattle.std.proofs.lemmas.Option.{slice_get_within}
use Rattle.std.proofs.lemmas.Result.{IfOk-weaker}
use Rattle.cache_spec.specs.Blocks.{HaveFew}
use Rattle.path_model.specs.Graph.{addresses_of}
use Rattle.set_view.specs.declared.fetched.ViewFault.{ViewFault}
use Rattle.set_view.specs.declared.fetched.ViewFault.TheVariants.{TooManyBlocks}
use Rattle.set_view.specs.View.{IsFault}
use Rattle.node_verdicts.proofs.Counted.{few_not_many}
use Rattle.node_verdicts.proofs.Viewed.{judged_one, judged_unviewed}
use Rattle.node_verdicts.proofs.one_block.search_whole.Goals as goal

pub unreachable-requires : goal.unreachable-requires
unreachable-requires c =
    let addresses : List ℕ = addresses_of c.args.graph.now in
    let fault : IsFault c.args.graph.now c.args.geometry.now c.set_of.result
    (TooManyBlocks c.in-Err-TooManyBlocks.field-0-0 c.in-Err-TooManyBlocks.field-0-1) =
    subst (λ (fault : ViewFault). IsFault c.args.graph.now c.args.geometry.now c.set_of.result fault)
    c.in-Err-TooManyBlocks.field-0-is c.in-Err-TooManyBlocks.ensures.fault in
    few_not_many addresses c.args.geometry.now c.set_of.result c.in-Err-TooManyBlocks.field-0-1
    (subst (λ (set : ℕ). HaveFew addresses c.args.geometry.now set) (sym c.set_of.ensures.value) c.requires)
    fault.1 fault.2

pub search_local-requires : goal.search_local-requires
search_local-requires c =
    slice_get_within c.in-Ok.view.blocks c.in-Some.local c.args.block
    (subst (λ (blocks : List ℕ). slice_get blocks c.in-Some.local ≡ Some c.args.block) c.blocks-2.ensures.same
    c.in-Some.ensures.some)

pub returns-in-Some : goal.returns-in-Some
returns-in-Some c =
    IfOk-weaker c.search_local.result _ _
    (λ judged are.
    judged_one c.args.graph.now c.args.geometry.now c.args.start c.args.kept c.in-Ok.view c.in-Some.local c.args.block
    judged.items c.in-Ok.ensures.view c.in-Ok.ensures.nodes c.in-Ok.ensures.geometry
    (subst (λ (blocks : List ℕ). slice_get blocks c.in-Some.local ≡ Some c.args.block) c.blocks-2.ensures.same
    c.in-Some.ensures.some)
    are)
    c.search_local.ensures

pub returns : goal.returns
returns c =
    judged_unviewed c.args.graph.now c.args.geometry.now c.args.start c.args.kept c.in-Ok.view c.args.block
    c.new.result.items c.in-Ok.ensures.view c.in-Ok.ensures.nodes c.in-Ok.ensures.geometry
    (c.in-Ok.ensures.set ∙ c.set_of.ensures.value)
    (λ there.
    c.in-None.ensures.none
    (subst (λ (blocks : List ℕ). Contains blocks c.args.block) (sym c.blocks-2.ensures.same) there))
    c.new.ensures.items
