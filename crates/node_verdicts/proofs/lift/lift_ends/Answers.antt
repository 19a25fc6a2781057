use Rattle.std.proofs.Common.{ℕ, List, Some, refl, sym, ap, subst, ◌∙◌}
use Rattle.std.specs.Prelude.{reverse}
use Rattle.sparse_graph.specs.Expand.{IsExpanded}
use Rattle.node_verdicts.specs.declared.judged.Paths.{Paths}
use Rattle.node_verdicts.specs.declared.judged.Ends.{Ends}
use Rattle.node_verdicts.specs.declared.judged.Ends.TheVariants.{Both}
use Rattle.node_verdicts.specs.Lifted.{IsLiftedEnds}
use Rattle.node_verdicts.proofs.lift.lift_ends.Goals as goal

pub returns-in_ok-expand_path-in-Both-Some-2 : goal.returns-in_ok-expand_path-in-Both-Some-2
returns-in_ok-expand_path-in-Both-Some-2 c =
    let whole : Paths = record {
      hit = c.in_ok-expand_path-in-Both-Some.field-0;
      miss = c.in_ok-expand_path-in-Both-Some-2.field-0;
    } in
    let sparse = c.args.sparse.now in
    subst (λ (e : Ends). IsLiftedEnds sparse e (Both (Some whole)))
    (sym (c.in-Both-Some.is ∙ ap Both c.in-Both-Some.field-0-is
    ∙ ap (λ (p : Paths). Both (Some p)) c.in-Both-Some.field-0-0-is)) (
      whole,
      refl,
      subst (λ (xs : List ℕ). IsExpanded sparse (reverse xs) (reverse whole.hit.items))
          c.deref.ensures.value c.in_ok-expand_path-in-Both-Some.ensures,
      subst (λ (xs : List ℕ). IsExpanded sparse (reverse xs) (reverse whole.miss.items))
          c.deref-in-Both-Some.ensures.value
          c.in_ok-expand_path-in-Both-Some-2.ensures,
    )
