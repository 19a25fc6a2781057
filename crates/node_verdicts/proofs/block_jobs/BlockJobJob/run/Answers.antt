use Rattle.std.proofs.Common.{◌≡◌, List, sym, subst}
use Rattle.std.specs.Prelude.{slice_index}
use Rattle.std.specs.List.{All}
use Rattle.std.proofs.lemmas.Result.{IfOk-weaker}
use Rattle.path_model.specs.declared.graph.Node.{Node}
use Rattle.node_verdicts.specs.Judged.{AreJudged, IsEnds, IsFetcherOf}
use Rattle.node_verdicts.specs.Ranges.{AreFew, IsSpanGraph}
use Rattle.node_verdicts.proofs.Lifted.{ends_paths}
use Rattle.node_verdicts.proofs.block_jobs.BlockJobJob.run.Goals as goal

pub search_on-requires-clause-few : goal.search_on-requires-clause-few
search_on-requires-clause-few c =
    subst (λ (ns : List Node). AreFew ns c.args.self.now.geometry 0 c.args.self.now.geometry.sets)
    (sym c.small.ensures.same) c.requires.number.few

pub search_on-requires-clause-graphs : goal.search_on-requires-clause-graphs
search_on-requires-clause-graphs c =
    subst (λ (ns : List Node). All (IsSpanGraph ns c.args.self.now.geometry) c.args.self.now.graphs.now)
    (sym c.small.ensures.same) c.requires.number.graphs

pub verdicts_of-requires : goal.verdicts_of-requires
verdicts_of-requires c one there =
    ends_paths c.args.self.now.blocks.now.small c.args.self.now.geometry c.args.self.now.start one.node one.ends
    (subst (λ (ns : List Node). IsEnds ns c.args.self.now.geometry c.args.self.now.start one.node one.ends)
    c.small.ensures.same (c.in_ok-judged.ensures.right one there))

pub returns-clause-right : goal.returns-clause-right
returns-clause-right c =
    IfOk-weaker c.verdicts_of.result _ _
    (λ heads are. record {
      judged = c.in_ok-judged.judged.items;
      are = subst (λ (ns : List Node). AreJudged ns c.args.self.now.geometry c.args.self.now.start c.args.self.now.kept
          (IsFetcherOf ns c.args.self.now.geometry (λ block. block ≡ slice_index c.args.self.now.jobs.now c.args.number))
          c.in_ok-judged.judged.items) c.small.ensures.same c.in_ok-judged.ensures;
      verdicts = are;
    })
    c.verdicts_of.ensures
