use Rattle.std.proofs.Common.{rules, ◌≡◌, ◌<◌, ◌∙◌, ℕ, Vec, Global, length, get_or, sym, subst, arith}
use Rattle.std.proofs.lemmas.Iterator.{YieldsList}
use Rattle.std.proofs.lemmas.Iterator.Adapters.{YieldsList-from_vec}
use Rattle.std.proofs.lemmas.Iterator.Consumers.{YieldsList-turn, YieldsList-end}
use Rattle.std.proofs.lemmas.List.{length_push}
use Rattle.std.specs.Vec.Iter.{into_iter_steps}
use Rattle.node_verdicts.specs.declared.noting.HeadVerdict.{HeadVerdict}
use Rattle.node_verdicts.specs.Searches.{IsSearched}
use Rattle.node_verdicts.proofs.Parted.{heads_inside}
use Rattle.node_verdicts.proofs.Searched.{IsNotedTo, searched_none, searched_more, searched_all}
use Rattle.node_verdicts.proofs.verdicts.search.Given.{Over}
use Rattle.node_verdicts.proofs.verdicts.search.Goals as goal
use Rattle.node_verdicts.proofs.verdicts.search.Goals.{After-into_iter-heads-iterator}

-- the loop goes over what is found of the jobs
yields : (g : Over) (c : After-into_iter-heads-iterator g)
    → YieldsList (into_iter_steps {X = Vec HeadVerdict Global} {Z = Global}) (λ y. y)
    c.into_iter-heads-iterator.result c.in_ok-searched.searched.items
yields g c =
    let gives = c.into_iter-heads-iterator.ensures.into_iter_gives in
    YieldsList-from_vec {s = c.into_iter-heads-iterator.result} c.in_ok-searched.searched.items gives.0
    (gives.1 ∙ c.in_ok-searched.searched.ok.0)

-- there is something for each job
as_many : (g : Over) (c : After-into_iter-heads-iterator g)
    → length c.in_ok-searched.searched.items ≡ length c.args.job.now.jobs.now
as_many g c = sym c.in_ok-searched.searched.ok.0 ∙ c.in_ok-searched.ensures.len ∙ search rules

-- what is found at a place is right
heads_at : (g : Over) (c : After-into_iter-heads-iterator g) (place : ℕ) (heads : Vec HeadVerdict Global)
    → place < length c.in_ok-searched.searched.items → heads ≡ get_or c.in_ok-searched.searched.items place heads
    → IsSearched c.args.job.now place heads.items
heads_at g c place heads inside is =
    let (state, among, right) = c.in_ok-searched.ensures.right place heads
    (omega (arith, inside, c.in_ok-searched.ensures.len, c.in_ok-searched.searched.ok.0)) in
    subst (λ (v : Vec HeadVerdict Global). IsSearched c.args.job.now place v.items) (sym is) right

pub loop-heads-init : goal.loop-heads-init
loop-heads-init g c = searched_none c.args.job.now c.requires.jobs c.args.verdicts.items c.requires.noted

pub note_all-requires : goal.note_all-requires
note_all-requires g c head there =
    let known = (goal.at.note_all-requires g c).After-into_iter-heads-iterator in
    let place = length c.loop-heads.yielded in
    let turn = YieldsList-turn (yields g known) c.loop-heads.yielded c.loop-heads.heads-iterator c.loop-heads.yielded_by
    c.next.result c.next.new.self c.in-Some.heads c.in-Some.is c.next.ensures.steps in
    let is = heads_at g known place c.in-Some.heads turn.0 turn.1 in
    omega (
      arith,
      heads_inside c.args.job.now.blocks.now c.requires.runs is.judged c.in-Some.heads.items
          (λ one among. (is.are.within one among).inside) is.verdicts head there,
      c.loop-heads.invariant.noted.as_many,
    )

pub loop-heads-preserved : goal.loop-heads-preserved
loop-heads-preserved g c =
    let known = (goal.at.loop-heads-preserved g c).After-into_iter-heads-iterator in
    let place = length c.loop-heads.yielded in
    let turn = YieldsList-turn (yields g known) c.loop-heads.yielded c.loop-heads.heads-iterator c.loop-heads.yielded_by
    c.next.result c.next.new.self c.in-Some.heads c.in-Some.is c.next.ensures.steps in
    let is = heads_at g known place c.in-Some.heads turn.0 turn.1 in
    subst (λ (count : ℕ). IsNotedTo c.args.job.now count c.note_all.new.verdicts.items)
    (sym (length_push c.loop-heads.yielded c.in-Some.heads))
    (searched_more c.args.job.now c.requires.jobs c.requires.runs c.requires.rising place
    (omega (arith, turn.0, as_many g known)) c.loop-heads.all.items c.note_all.new.verdicts.items
    c.in-Some.heads.items c.loop-heads.invariant is c.note_all.ensures)

pub returns : goal.returns
returns g c =
    let known = (goal.at.returns g c).After-into_iter-heads-iterator in
    let end = YieldsList-end (yields g known) c.loop-heads.yielded c.loop-heads.heads-iterator c.loop-heads.yielded_by
    c.next.result c.next.new.self c.in-None.is c.next.ensures.steps in
    searched_all c.args.job.now c.requires.jobs (length c.loop-heads.yielded) c.loop-heads.all.items
    (end.1 ∙ as_many g known)
    (λ block. omega (arith, c.sets-sets.ensures.least, c.sets-sets.ensures.value)) c.loop-heads.invariant
