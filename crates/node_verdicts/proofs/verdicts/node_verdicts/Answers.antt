use Rattle.std.proofs.Common.{ℕ, ◌<◌, ◌↔◌, List, sym, subst, arith}
use Rattle.cache_spec.specs.Geometry.{Geometry, block_of, set_of}
use Rattle.focus_spec.specs.Fate.{PathCanEnd}
use Rattle.line_blocks.specs.Expand.{IsExpanded}
use Rattle.transition_spec.specs.Path.{IsPath}
use Rattle.path_model.specs.declared.graph.Node.{Node}
use Rattle.path_model.specs.Graph.{graph_step, address_of}
use Rattle.age_spec.specs.Jobs.{IsJob}
use Rattle.node_verdicts.specs.Judged.{set_at, IsFetcher}
use Rattle.node_verdicts.specs.Ranges.{AreFew, IsFaultWithin}
use Rattle.node_verdicts.specs.Found.{AreJobsWithin}
use Rattle.node_verdicts.specs.Verdicts.{IsFault}
use Rattle.node_spec.specs.declared.verdict.NodeVerdict.{NodeVerdict}
use Rattle.node_verdicts.specs.Noted.{IsNoted}
use Rattle.node_verdicts.proofs.Right.{Laws, right_whole, ways_whole, few_all, fault_all}
use Rattle.node_verdicts.proofs.Jobs.{jobs_as, jobs_all}
use Rattle.node_verdicts.proofs.Spans.{err_as}
use Rattle.node_verdicts.proofs.verdicts.node_verdicts.Goals as goal
use Rattle.node_verdicts.proofs.verdicts.node_verdicts.Given.{Over}
use Rattle.node_verdicts.proofs.verdicts.node_verdicts.Goals.{In_ok-blocks}

-- what holds of the runs
laws_of : (k : Over) (c : In_ok-blocks k) → Laws c.in_ok-blocks.blocks c.args.start
laws_of k c =
    let r = c.in_ok-blocks.blocks in
    let are = c.in_ok-blocks.ensures.runs in
    record {
      heads = λ p hits inside. c.run_laws.ensures.heads r c.args.start p hits are inside;
      paths = λ p hits members whole inside expanded to.
          let (earlier, whole_is) = c.run_laws.ensures.ends r p to.earlier whole are
          (subst (λ (xs : List ℕ). IsExpanded r xs whole) to.ends expanded) in
          let can = (c.run_laws.ensures.paths r c.args.start members whole hits are expanded).0
          (subst (λ (xs : List ℕ). PathCanEnd r.small r.shape c.args.start xs hits) (sym to.ends) to.fate) in
          record {
            earlier = earlier;
            ends = whole_is;
            is_path = subst (λ (xs : List ℕ). IsPath (graph_step r.nodes) 0 xs) whole_is
                (c.run_laws.ensures.whole r members whole are expanded);
            fate = subst (λ (xs : List ℕ). PathCanEnd r.nodes r.shape c.args.start xs hits) whole_is can;
          };
      inner = λ n inside other. c.run_laws.ensures.inner r c.args.start n are inside other;
      numbers = λ n inside. c.run_laws.ensures.numbers r n are inside;
      inside = λ p inside. c.run_laws.ensures.inside r p are inside;
      own = λ p inside. c.run_laws.ensures.own r p are inside;
      as_many = c.run_laws.ensures.as_many r are;
      addresses = λ p inside. c.run_laws.ensures.addresses r p are inside;
      blocks = λ set blocks. c.run_laws.ensures.blocks r set blocks are;
    }

-- each block lies in one of the sets
set_below : (k : Over) (c : In_ok-blocks k) (block : ℕ) → set_of c.args.geometry.now block < c.args.geometry.now.sets
set_below k c block = omega (arith, c.sets-sets.ensures.least, c.sets-sets.ensures.value)

-- and so each node fetches one of them
sets_below : (k : Over) (c : In_ok-blocks k) (p : ℕ)
    → set_at c.in_ok-blocks.blocks.small c.in_ok-blocks.blocks.shape p < c.args.geometry.now.sets
sets_below k c p =
    let g = c.args.geometry.now in
    let small = c.in_ok-blocks.blocks.small in
    subst (λ (h : Geometry). set_at small h p < g.sets) (sym c.in_ok-blocks.ensures.shape)
    (set_below k c (block_of g (address_of small p)))

-- what is noted, where the shape of the cache is that of the runs
noted_by : (k : Over) (c : In_ok-blocks k) (found : List NodeVerdict)
    → IsNoted c.in_ok-blocks.blocks c.args.geometry.now c.args.start c.args.kept
    (IsFetcher c.in_ok-blocks.blocks.small c.args.geometry.now 0 c.args.geometry.now.sets) found
    → IsNoted c.in_ok-blocks.blocks c.in_ok-blocks.blocks.shape c.args.start c.args.kept
    (IsFetcher c.in_ok-blocks.blocks.small c.in_ok-blocks.blocks.shape 0 c.args.geometry.now.sets) found
noted_by k c found noted =
    subst (λ (h : Geometry). IsNoted c.in_ok-blocks.blocks h c.args.start c.args.kept
    (IsFetcher c.in_ok-blocks.blocks.small h 0 c.args.geometry.now.sets) found) (sym c.in_ok-blocks.ensures.shape) noted

pub returns-clause-right : goal.returns-clause-right
returns-clause-right k c =
    let known = (goal.at.returns-clause-right k c).In_ok-blocks in
    let r = c.in_ok-blocks.blocks in
    let g = c.args.geometry.now in
    let found = c.in_ok-settled.settled.verdicts.items in
    let noted = noted_by k known found c.in_ok-settled.ensures.noted in
    right_whole r c.args.start (laws_of k known) c.args.kept g.sets noted.judged found (sets_below k known) noted.are
    noted.noted c.args.graph.now g c.in_ok-blocks.ensures.nodes c.in_ok-blocks.ensures.shape

pub returns-clause-ways : goal.returns-clause-ways
returns-clause-ways k c =
    let known = (goal.at.returns-clause-ways k c).In_ok-blocks in
    let r = c.in_ok-blocks.blocks in
    let found = c.in_ok-settled.settled.verdicts.items in
    let noted = noted_by k known found c.in_ok-settled.ensures.noted in
    ways_whole r c.args.start (laws_of k known) c.args.kept c.args.geometry.now.sets noted.judged found (sets_below k known)
    noted.are noted.noted c.args.graph.now c.in_ok-blocks.ensures.nodes

pub returns-clause-few : goal.returns-clause-few
returns-clause-few k c =
    let known = (goal.at.returns-clause-few k c).In_ok-blocks in
    let r = c.in_ok-blocks.blocks in
    let g = c.args.geometry.now in
    few_all r c.args.start (laws_of k known) c.args.graph.now g c.in_ok-blocks.ensures.nodes c.in_ok-blocks.ensures.shape
    (subst (λ (h : Geometry). AreFew r.small h 0 g.sets) (sym c.in_ok-blocks.ensures.shape)
    c.in_ok-settled.ensures.few)

pub returns-clause-jobs : goal.returns-clause-jobs
returns-clause-jobs k c =
    let known = (goal.at.returns-clause-jobs k c).In_ok-blocks in
    let r = c.in_ok-blocks.blocks in
    let g = c.args.geometry.now in
    let start = c.args.start in
    let jobs = c.in_ok-settled.settled.jobs.items in
    let same : (block : ℕ) → IsJob r.nodes g start block ↔ IsJob r.small g start block = λ block.
    subst (λ (h : Geometry). IsJob r.nodes h start block ↔ IsJob r.small h start block) c.in_ok-blocks.ensures.shape
    (c.job_laws.ensures.runs r start block c.in_ok-blocks.ensures.runs) in
    let whole = subst (λ (ns : List Node). AreJobsWithin ns g start 0 g.sets jobs) c.in_ok-blocks.ensures.nodes
    (jobs_as r.small g start 0 g.sets r.nodes (λ block above below. same block) jobs c.in_ok-settled.ensures.jobs) in
    jobs_all c.args.graph.now g start jobs (set_below k known) whole c.in_ok-settled.ensures.rising

pub returns-in_err-settled-clause-fault : goal.returns-in_err-settled-clause-fault
returns-in_err-settled-clause-fault k c =
    let known = (goal.at.returns-in_err-settled-clause-fault k c).In_ok-blocks in
    let r = c.in_ok-blocks.blocks in
    let g = c.args.geometry.now in
    let fault = c.in_err-settled.field-0.0 in
    err_as (IsFault c.args.graph.now g) _ fault c.from_residual-in_err-settled.ensures.1
    (fault_all r c.args.start (laws_of k known) c.args.graph.now g fault c.in_ok-blocks.ensures.nodes
    c.in_ok-blocks.ensures.shape
    (subst (λ (h : Geometry). IsFaultWithin r.small h 0 g.sets fault) (sym c.in_ok-blocks.ensures.shape)
    c.in_err-settled.ensures.fault))
