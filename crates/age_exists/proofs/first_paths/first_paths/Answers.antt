use Rattle.std.proofs.Common.{◌≡◌, ℕ, List, ◌++◌, length, take, drop, sym, ap, ◌∙◌, subst, arith}
use Rattle.std.proofs.Math.Seq.{take-append_seam}
use Rattle.std.proofs.lemmas.List.{length-map}
use Rattle.path_model.specs.Graph.{IsGraph}
use Rattle.path_model.specs.declared.graph.Node.{Node}
use Rattle.age_exists.specs.declared.retracing.Step.{Step}
use Rattle.age_exists.specs.Firsts.{AreFirsts}
use Rattle.age_exists.specs.Seen.{entry_seen, entries_seen}
use Rattle.age_exists.proofs.FirstSteps.{found_firsts}
use Rattle.age_exists.proofs.first_paths.first_paths.Goals as goal

pub returns : goal.returns
returns c =
    let old : List Step = c.in_ok-steps.steps.items in
    let new : List Step = c.note_all.new.steps in
    let graph : List Node = c.args.graph.now in
    let long : c.in_ok-steps.steps.len ≡ length new =
    omega (
      arith,
      c.in_ok-steps.steps.ok.0,
      c.in_ok-steps.ensures.one_each,
      c.note_all.ensures.one_each,
      length-map old entry_seen,
      length-map new entry_seen,
    ) in
    let kept : take c.in_ok-steps.steps.len (new ++ drop (length new) old) ≡ new =
    ap (λ (n : ℕ). take n (new ++ drop (length new) old)) long ∙ take-append_seam new (drop (length new) old) in
    subst (λ (steps : List Step). AreFirsts graph (entries_seen steps)) (sym kept)
    (subst (λ (nodes : List Node). AreFirsts nodes (entries_seen new)) c.nodes-nodes.ensures.same
    (found_firsts c.nodes-nodes.result.now (entries_seen new)
    (subst IsGraph (sym c.nodes-nodes.ensures.same) c.nodes-nodes.ensures.graph) c.note_all.ensures))
