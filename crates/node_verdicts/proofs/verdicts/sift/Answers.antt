use Rattle.std.proofs.Common.{◌≡◌, ◌<◌, ◌+◌, ◌∙◌, ℕ, Global, List, length, replicate, get_or, sym, ap, subst, arith}
use Rattle.std.proofs.lemmas.Iterator.{YieldsList}
use Rattle.std.proofs.lemmas.Iterator.Adapters.{YieldsList-from_vec}
use Rattle.std.proofs.lemmas.Iterator.Consumers.{YieldsList-turn, YieldsList-end}
use Rattle.std.proofs.lemmas.List.{length_push}
use Rattle.std.specs.Vec.Iter.{into_iter_steps}
use Rattle.path_model.specs.declared.graph.Node.{Node}
use Rattle.node_spec.specs.declared.verdict.NodeVerdict.TheVariants.{Hits}
use Rattle.set_view.specs.declared.fetched.ViewFault.TheVariants as faults
use Rattle.node_verdicts.specs.declared.set_parts.Part.{Part}
use Rattle.node_verdicts.specs.Parts.{first_of, runs_of, IsPart, IsPartFound}
use Rattle.node_verdicts.specs.Noted.{IsNoted}
use Rattle.node_verdicts.specs.Judged.{IsFetcherOf}
use Rattle.node_verdicts.specs.Found.{AreJobsWithin, IsClearWithin}
use Rattle.node_verdicts.specs.Ranges.{AreFew}
use Rattle.node_verdicts.proofs.Parted.{AreSifted, heads_inside, sifted_none, sifted_more}
use Rattle.node_verdicts.proofs.Spans.{fault_first, fault_second}
use Rattle.node_verdicts.proofs.verdicts.sift.Given.{Over}
use Rattle.node_verdicts.proofs.verdicts.sift.Goals as goal
use Rattle.node_verdicts.proofs.verdicts.sift.Goals.{After-into_iter-part-iterator}

-- the loop goes over the parts
yields : (g : Over) (c : After-into_iter-part-iterator g) → YieldsList (into_iter_steps {X = Part} {Z = Global}) (λ y. y)
    c.into_iter-part-iterator.result c.in_ok-parts.parts.items
yields g c =
    let gives = c.into_iter-part-iterator.ensures.into_iter_gives in
    YieldsList-from_vec {s = c.into_iter-part-iterator.result} c.in_ok-parts.parts.items gives.0
    (gives.1 ∙ c.in_ok-parts.parts.ok.0)

-- the part at a place is right
part_at : (g : Over) (c : After-into_iter-part-iterator g) (place : ℕ) (part : Part)
    → place < length c.in_ok-parts.parts.items → part ≡ get_or c.in_ok-parts.parts.items place part
    → IsPart c.args.job.now place part
part_at g c place part inside is =
    let (state, among, right) = c.in_ok-parts.ensures.right place part
    (omega (arith, inside, c.in_ok-parts.ensures.len, c.in_ok-parts.parts.ok.0)) in
    subst (IsPart c.args.job.now place) (sym is) right

pub loop-part-init : goal.loop-part-init
loop-part-init g c =
    sifted_none c.args.job.now c.in_ok-hits.field-0.items c.new.result.items c.new-2.result.items
    (c.in_ok-hits.ensures
    ∙ ap (λ (ns : List Node). replicate (length ns) Hits) (c.nodes.ensures.same ∙ c.whole.ensures.same))
    c.new.ensures.items c.new-2.ensures.items

pub add-requires : goal.add-requires
add-requires g c head there =
    let known = (goal.at.add-requires g c).After-into_iter-part-iterator in
    let place = length c.loop-part.yielded in
    let turn = YieldsList-turn (yields g known) c.loop-part.yielded c.loop-part.part-iterator c.loop-part.yielded_by
    c.next.result c.next.new.self c.in-Some.part c.in-Some.is c.next.ensures.steps in
    let is : IsPartFound c.args.job.now place c.in-Found.found =
    subst (IsPart c.args.job.now place) c.in-Found.is (part_at g known place c.in-Some.part turn.0 turn.1) in
    omega (
      arith,
      heads_inside c.args.job.now.blocks.now c.whole.ensures.runs is.judged c.in-Found.found.verdicts.items
          (λ one among. (is.are.within one among).inside) is.verdicts head there,
      c.loop-part.invariant.noted.noted.as_many,
    )

pub loop-part-preserved : goal.loop-part-preserved
loop-part-preserved g c =
    let known = (goal.at.loop-part-preserved g c).After-into_iter-part-iterator in
    let place = length c.loop-part.yielded in
    let turn = YieldsList-turn (yields g known) c.loop-part.yielded c.loop-part.part-iterator c.loop-part.yielded_by
    c.next.result c.next.new.self c.in-Some.part c.in-Some.is c.next.ensures.steps in
    let is : IsPartFound c.args.job.now place c.in-Found.found =
    subst (IsPart c.args.job.now place) c.in-Found.is (part_at g known place c.in-Some.part turn.0 turn.1) in
    subst (λ (count : ℕ). AreSifted c.args.job.now count c.add.new.self.verdicts.items c.add.new.self.jobs.items
    c.add.new.self.graphs.items) (sym (length_push c.loop-part.yielded c.in-Some.part))
    (sifted_more c.args.job.now c.whole.ensures.runs place c.loop-part.sifted.verdicts.items
    c.add.new.self.verdicts.items c.loop-part.sifted.jobs.items c.add.new.self.jobs.items
    c.loop-part.sifted.graphs.items c.add.new.self.graphs.items c.in-Found.found c.loop-part.invariant is
    c.in_ok-add-in-Found.ensures.verdicts c.in_ok-add-in-Found.ensures.jobs c.in_ok-add-in-Found.ensures.graphs)

pub returns-in-TooManyBlocks-clause-fault : goal.returns-in-TooManyBlocks-clause-fault
returns-in-TooManyBlocks-clause-fault g c =
    let known = (goal.at.returns-in-TooManyBlocks-clause-fault g c).After-into_iter-part-iterator in
    let job = c.args.job.now in
    let place = length c.loop-part.yielded in
    let turn = YieldsList-turn (yields g known) c.loop-part.yielded c.loop-part.part-iterator c.loop-part.yielded_by
    c.next.result c.next.new.self c.in-Some.part c.in-Some.is c.next.ensures.steps in
    let many = subst (IsPart job place) c.in-TooManyBlocks.is (part_at g known place c.in-Some.part turn.0 turn.1) in
    let fault = faults.TooManyBlocks c.in-TooManyBlocks.set c.in-TooManyBlocks.count in
    fault_second (runs_of job) job.geometry 0 (first_of job place) job.geometry.sets (omega arith)
    c.loop-part.invariant.few fault
    (fault_first (runs_of job) job.geometry (first_of job place) (first_of job (place + 1)) job.geometry.sets
    (omega (arith, c.requires.parts)) fault many)

-- all parts are sifted
sifted_here : (g : Over) (c : After-into_iter-part-iterator g) (count : ℕ) → count ≡ length c.in_ok-parts.parts.items
    → first_of c.args.job.now count ≡ c.args.job.now.geometry.sets
sifted_here g c count all =
    ap (first_of c.args.job.now) (let e : count ≡ c.count.result =
    omega (arith, all, c.in_ok-parts.ensures.len, c.in_ok-parts.parts.ok.0) in e)
    ∙ (c.count.ensures.all ∙ c.requires.parts)

pub returns-clause-noted : goal.returns-clause-noted
returns-clause-noted g c =
    let known = (goal.at.returns-clause-noted g c).After-into_iter-part-iterator in
    let job = c.args.job.now in
    let end = YieldsList-end (yields g known) c.loop-part.yielded c.loop-part.part-iterator c.loop-part.yielded_by
    c.next.result c.next.new.self c.in-None.is c.next.ensures.steps in
    subst (λ (high : ℕ). IsNoted job.blocks.now job.geometry job.start job.kept
    (IsFetcherOf (runs_of job) job.geometry (IsClearWithin (runs_of job) job.geometry job.start 0 high))
    c.loop-part.sifted.verdicts.items) (sifted_here g known (length c.loop-part.yielded) end.1)
    c.loop-part.invariant.noted

pub returns-clause-jobs : goal.returns-clause-jobs
returns-clause-jobs g c =
    let known = (goal.at.returns-clause-jobs g c).After-into_iter-part-iterator in
    let job = c.args.job.now in
    let end = YieldsList-end (yields g known) c.loop-part.yielded c.loop-part.part-iterator c.loop-part.yielded_by
    c.next.result c.next.new.self c.in-None.is c.next.ensures.steps in
    subst (λ (high : ℕ). AreJobsWithin (runs_of job) job.geometry job.start 0 high c.loop-part.sifted.jobs.items)
    (sifted_here g known (length c.loop-part.yielded) end.1) c.loop-part.invariant.jobs_are

pub returns-clause-few : goal.returns-clause-few
returns-clause-few g c =
    let known = (goal.at.returns-clause-few g c).After-into_iter-part-iterator in
    let job = c.args.job.now in
    let end = YieldsList-end (yields g known) c.loop-part.yielded c.loop-part.part-iterator c.loop-part.yielded_by
    c.next.result c.next.new.self c.in-None.is c.next.ensures.steps in
    subst (λ (high : ℕ). AreFew (runs_of job) job.geometry 0 high)
    (sifted_here g known (length c.loop-part.yielded) end.1) c.loop-part.invariant.few
