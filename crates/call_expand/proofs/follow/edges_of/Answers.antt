use Rattle.std.proofs.Common.{◌≡◌, sym, ap, ◌∙◌, subst, inl, inr, ⊎_elim, arith}
use Rattle.std.specs.Prelude.{Ok, Err}
use Rattle.std.proofs.lemmas.Result.{err_from_is_err_and, IfErr-weaker}
use Rattle.flow_spec.specs.Next.{Going, next_at}
use Rattle.flow_spec.specs.Successors.{successors, leads_to}
use Rattle.flow_spec.specs.declared.fault.FlowFault.TheVariants.{OutOfMemory}
use Rattle.flow_spec.specs.declared.next.Next.TheVariants.{Enter}
use Rattle.frame_stacks.specs.Stacks.{frames_of}
use Rattle.call_expand.specs.Point.{IsEdge}
use Rattle.call_expand.specs.declared.point.Edges.{Edges}
use Rattle.call_expand.proofs.Edges.{GoesTo, successors-by, edge-ends, edge-part, edge-go, edge-fork, edge-back, edge-enter, ok-with}
use Rattle.call_expand.proofs.follow.edges_of.Goals as goal
use Rattle.call_expand.proofs.follow.edges_of.Goals.{After-next_of}

-- where control goes from the point
goes : (c : After-next_of) {going : Going} → c.next_of.result ≡ going
    → GoesTo c.args.program.now c.args.stacks.now c.args.point going
goes c is = record {
  last = omega (arith, c.parts.ensures.parts);
  next = ap (next_at c.args.program.now.isa c.args.program.now.image c.args.point.at) (sym c.top.ensures)
      ∙ sym c.next_of.ensures ∙ is;
}

-- what is an edge stays one where the edges are those
edge_is : (c : After-next_of) {one other : Edges} → one ≡ other
    → IsEdge (successors c.args.program.now) c.args.program.now c.args.stacks.now c.args.point other
    → IsEdge (successors c.args.program.now) c.args.program.now c.args.stacks.now c.args.point one
edge_is c same edge =
    let program = c.args.program.now in
    subst (λ (e : Edges). IsEdge (successors program) program c.args.stacks.now c.args.point e) (sym same) edge

pub returns-then-from-parts-clause-edge : goal.returns-then-from-parts-clause-edge
returns-then-from-parts-clause-edge c =
    edge-part c.requires.point (omega (arith, c.parts.ensures.parts)) (omega (arith, c.parts.ensures))

pub returns-in_err-next_of-clause-fault : goal.returns-in_err-next_of-clause-fault
returns-in_err-next_of-clause-fault c =
    let (_, is, same) = err_from_is_err_and c.from_residual.result c.from_residual.ensures.1 in
    let next = goes (goal.at.returns-in_err-next_of-clause-fault c).After-next_of c.in_err-next_of.was in
    rw (is, same) (inr (successors-by c.args.program.now c.args.stacks.now c.args.point _ next))

pub returns-in-Ends-clause-edge : goal.returns-in-Ends-clause-edge
returns-in-Ends-clause-edge c =
    let known = (goal.at.returns-in-Ends-clause-edge c).After-next_of in
    edge-ends c.requires.point (goes known (c.in_ok-next_of.was ∙ ap (λ n. Ok n) c.in-Ends.is))

pub returns-in-Go-clause-edge : goal.returns-in-Go-clause-edge
returns-in-Go-clause-edge c =
    let known = (goal.at.returns-in-Go-clause-edge c).After-next_of in
    edge_is known c.one.ensures
    (edge-go c.requires.point c.in-Go.target (omega arith)
    (goes known (c.in_ok-next_of.was ∙ ap (λ n. Ok n) c.in-Go.is)))

pub returns-in-Fork-clause-edge : goal.returns-in-Fork-clause-edge
returns-in-Fork-clause-edge c =
    let known = (goal.at.returns-in-Fork-clause-edge c).After-next_of in
    edge-fork c.requires.point c.in-Fork.next c.in-Fork.target (omega arith) (omega arith)
    (goes known (c.in_ok-next_of.was ∙ ap (λ n. Ok n) c.in-Fork.is))

pub returns-in-Back-clause-edge : goal.returns-in-Back-clause-edge
returns-in-Back-clause-edge c =
    let known = (goal.at.returns-in-Back-clause-edge c).After-next_of in
    edge_is known c.one-in-Back.ensures
    (edge-back c.requires.point c.in-Back.target c.below.result (omega arith) c.below.ensures.known
    c.below.ensures.frames
    (goes known (c.in_ok-next_of.was ∙ ap (λ n. Ok n) c.in-Back.is)))

pub returns-in-Enter-clause-edge : goal.returns-in-Enter-clause-edge
returns-in-Enter-clause-edge c =
    let known = (goal.at.returns-in-Enter-clause-edge c).After-next_of in
    let next = goes known (c.in_ok-next_of.was ∙ ap (λ n. Ok n) c.in-Enter.is) in
    ok-with c.enter.result _ _ _ (λ edges opens goes_on.
    edge-enter c.requires.point c.enter.new.stacks c.in-Enter.target c.in-Enter.frame edges (omega arith) goes_on next
    (rw c.entry.ensures at opens))
    c.enter.ensures.goes c.enter.ensures.goes_on

pub returns-in-Enter-clause-fault : goal.returns-in-Enter-clause-fault
returns-in-Enter-clause-fault c =
    let known = (goal.at.returns-in-Enter-clause-fault c).After-next_of in
    let next = goes known (c.in_ok-next_of.was ∙ ap (λ n. Ok n) c.in-Enter.is) in
    let is = successors-by c.args.program.now c.args.stacks.now c.args.point _ next in
    let frames = frames_of c.args.stacks.now c.args.point.stack in
    let enters = Enter c.in-Enter.target c.in-Enter.frame in
    IfErr-weaker c.enter.result _ _ (λ fault.
    ⊎_elim (λ (memory : fault ≡ OutOfMemory). inl memory)
    (λ (fails : leads_to c.entry.result frames c.args.point.at enters ≡ Err fault).
    inr (is ∙ (rw c.entry.ensures at fails))))
    c.enter.ensures.fault
