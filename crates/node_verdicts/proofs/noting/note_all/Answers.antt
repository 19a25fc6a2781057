use Rattle.std.proofs.Common.{◌∙◌, Global, List, length, sym, ap, arith}
use Rattle.std.specs.List.{Contains}
use Rattle.std.specs.Prelude.{slice_set}
use Rattle.std.proofs.lemmas.Iterator.{YieldsList}
use Rattle.std.proofs.lemmas.Iterator.Adapters.{YieldsList-from_vec}
use Rattle.std.proofs.lemmas.Iterator.Consumers.{YieldsList-turn}
use Rattle.std.specs.Vec.Iter.{into_iter_steps}
use Rattle.node_spec.specs.declared.verdict.NodeVerdict.{NodeVerdict}
use Rattle.node_verdicts.specs.declared.noting.HeadVerdict.{HeadVerdict}
use Rattle.node_verdicts.proofs.Noted.{with_length, with_push}
use Rattle.node_verdicts.proofs.noting.note_all.Goals as goal
use Rattle.node_verdicts.proofs.noting.note_all.Goals.{After-into_iter-head-iterator}

-- the loop goes over the heads
yields : (c : After-into_iter-head-iterator) → YieldsList (into_iter_steps {X = HeadVerdict} {Z = Global}) (λ y. y)
    c.into_iter-head-iterator.result c.args.heads.items
yields c =
    let gives = c.into_iter-head-iterator.ensures.into_iter_gives in
    YieldsList-from_vec {s = c.into_iter-head-iterator.result} c.args.heads.items gives.0
    (gives.1 ∙ c.args.heads.ok.0)

pub note-requires : goal.note-requires
note-requires c =
    let head : HeadVerdict = c.in-Some.head in
    let turn = YieldsList-turn (yields (goal.at.note-requires c).After-into_iter-head-iterator) c.loop-head.yielded
    c.loop-head.head-iterator c.loop-head.yielded_by c.next.result c.next.new.self head c.in-Some.is c.next.ensures.steps
    in
    let there : Contains c.args.heads.items head = (length c.loop-head.yielded, turn.0, sym turn.1) in
    omega (
      arith,
      c.requires head there,
      ap length c.loop-head.invariant,
      with_length c.loop-head.yielded c.args.verdicts.now.items,
    )

pub loop-head-preserved : goal.loop-head-preserved
loop-head-preserved c =
    let head : HeadVerdict = c.in-Some.head in
    c.note.ensures
    ∙ (ap (λ (found : List NodeVerdict). slice_set found head.node head.verdict) c.loop-head.invariant
    ∙ sym (with_push c.loop-head.yielded head c.args.verdicts.now.items))
