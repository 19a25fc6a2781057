use Rattle.std.proofs.Common.{◌≡◌, ◌+◌, Global, List, Some, length, sym, ap, ◌∙◌, arith}
use Rattle.std.proofs.lemmas.Iterator.{YieldsList}
use Rattle.std.proofs.lemmas.Iterator.Adapters.{YieldsList-from_vec}
use Rattle.std.proofs.lemmas.Iterator.Consumers.{YieldsList-turn, YieldsList-end}
use Rattle.std.proofs.lemmas.List.{length_push}
use Rattle.std.proofs.lemmas.Option.{slice_get-get_or}
use Rattle.std.specs.Prelude.{slice_get}
use Rattle.std.specs.Vec.Iter.{into_iter_steps}
use Rattle.focus_values.specs.declared.values.YoungerSets.{YoungerSets}
use Rattle.focus_plain.specs.declared.settling.PlainPlace.{PlainPlace}
use Rattle.focus_plain.specs.Settled.{IsPlainPlace}
use Rattle.focus_plain.proofs.Fetchers.{fetchers_all}
use Rattle.focus_plain.proofs.Kept.{kept_more}
use Rattle.focus_plain.proofs.settling.places.Goals as goal
use Rattle.focus_plain.proofs.settling.places.Goals.{After-into_iter-younger-iterator}

-- the loop goes over the sets
yields : (c : After-into_iter-younger-iterator) → YieldsList (into_iter_steps {X = YoungerSets} {Z = Global}) (λ y. y)
    c.into_iter-younger-iterator.result c.args.sets.items
yields c =
    let gives = c.into_iter-younger-iterator.ensures.into_iter_gives in
    YieldsList-from_vec {s = c.into_iter-younger-iterator.result} c.args.sets.items gives.0
    (gives.1 ∙ c.args.sets.ok.0)

pub loop-younger-preserved : goal.loop-younger-preserved
loop-younger-preserved c =
    let sets : List YoungerSets = c.args.sets.items in
    let younger : YoungerSets = c.in-Some.younger in
    let each = yields (goal.at.loop-younger-preserved c).After-into_iter-younger-iterator in
    let turn = YieldsList-turn each c.loop-younger.yielded c.loop-younger.younger-iterator c.loop-younger.yielded_by
    c.next.result c.next.new.self younger c.in-Some.is c.next.ensures.steps in
    let at : slice_get sets c.loop-younger.node ≡ Some younger =
    ap (slice_get sets) c.loop-younger.invariant.count
    ∙ slice_get-get_or sets (length c.loop-younger.yielded) younger turn.0 ∙ ap Some (sym turn.1) in
    let exact = c.requires.exact c.loop-younger.node younger at in
    let last : PlainPlace = record { node = c.loop-younger.node; least = younger.least; most = younger.most } in
    let right : IsPlainPlace c.args.focus.now.view.now c.args.focus.now.start c.args.focus.now.block last = record
    { least = exact.least; most = exact.most } in
    record {
      count = ap (λ n. n + 1) c.loop-younger.invariant.count ∙ sym (length_push c.loop-younger.yielded younger);
      kept = kept_more c.args.focus.now.view.now c.args.focus.now.start c.args.focus.now.block
          c.loop-younger.places.items c.keep.new.places.items last
          c.eq-fetches.result c.fetch.result
          c.in_ok-keep.ensures c.eq-fetches.ensures c.fetch.ensures c.loop-younger.invariant.kept right;
    }

pub returns-clause-nodes : goal.returns-clause-nodes
returns-clause-nodes c =
    let each = yields (goal.at.returns-clause-nodes c).After-into_iter-younger-iterator in
    let end = YieldsList-end each c.loop-younger.yielded c.loop-younger.younger-iterator c.loop-younger.yielded_by
    c.next.result c.next.new.self c.in-None.is c.next.ensures.steps in
    let all : length c.args.focus.now.view.now.fetches ≡ c.loop-younger.node =
    omega (arith, c.loop-younger.invariant.count, end.1, c.requires.one_each, c.requires.view.one_each) in
    fetchers_all c.args.focus.now.view.now.fetches c.args.focus.now.block c.loop-younger.node _ all
    c.loop-younger.invariant.kept.nodes
