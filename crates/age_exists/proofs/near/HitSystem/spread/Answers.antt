use Rattle.std.proofs.Common.{◌≡◌, ℕ, List, length, Some, None, ap, ◌∙◌, subst, sym, arith}
use Rattle.std.specs.Prelude.{slice_get, slice_index_or}
use Rattle.std.proofs.lemmas.List.{get_or_default}
use Rattle.std.proofs.lemmas.Option.{slice_get-get_or}
use Rattle.std.proofs.lemmas.Result.{on_ok_weaker}
use Rattle.path_model.specs.declared.graph.Node.{Node}
use Rattle.path_model.specs.Graph.{IsGraph}
use Rattle.age_spec.specs.Ages.{age_at}
use Rattle.age_exists.specs.Spread.{Hits, equations_of, hits_seen, Spread, spread_seen, lowered_at, SpreadsFrom}
use Rattle.age_exists.proofs.Lowered.{spreads, length-lowered, second_inside}
use Rattle.age_exists.proofs.near.HitSystem.spread.Goals as goal

-- what is read of a node that there isn't
abbrev no_node : Node
no_node = record { at = 0; first = None; second = None }

pub lower-requires-2-clause-bounds : goal.lower-requires-2-clause-bounds
lower-requires-2-clause-bounds c =
    let n : ℕ = c.args.node in
    let nodes : List Node = c.nodes.result.now in
    let here : Node = slice_index_or nodes n no_node in
    let same : nodes ≡ c.args.self.now.view.now.nodes = c.nodes.ensures.same ∙ c.graph.ensures.same in
    let graph : IsGraph nodes = subst IsGraph (sym c.nodes.ensures.same) c.nodes.ensures.graph in
    let long : length nodes ≡ length c.args.self.now.view.now.nodes = ap (λ (l : List Node). length l) same in
    let s : Spread = spread_seen c.args.found.now in
    second_inside nodes graph n here (slice_get-get_or nodes n no_node (omega (arith, c.requires.inside, long)))
    (length c.lower.new.found.bounds.items) (omega (
      arith,
      long,
      c.requires.spread.one_each,
      (length-lowered s n here.first c.after-bound.result).0,
      ap (λ (t : Spread). length t.bounds) c.in_ok-lower.ensures,
    ))

pub lower-requires-2-clause-last : goal.lower-requires-2-clause-last
lower-requires-2-clause-last c =
    let n : ℕ = c.args.node in
    let nodes : List Node = c.nodes.result.now in
    let here : Node = slice_index_or nodes n no_node in
    let same : nodes ≡ c.args.self.now.view.now.nodes = c.nodes.ensures.same ∙ c.graph.ensures.same in
    let graph : IsGraph nodes = subst IsGraph (sym c.nodes.ensures.same) c.nodes.ensures.graph in
    let long : length nodes ≡ length c.args.self.now.view.now.nodes = ap (λ (l : List Node). length l) same in
    let s : Spread = spread_seen c.args.found.now in
    second_inside nodes graph n here (slice_get-get_or nodes n no_node (omega (arith, c.requires.inside, long)))
    (length c.lower.new.found.steps.last.items) (omega (
      arith,
      long,
      c.requires.spread.one_last_each,
      (length-lowered s n here.first c.after-bound.result).1,
      ap (λ (t : Spread). length t.trail.last) c.in_ok-lower.ensures,
    ))

pub returns : goal.returns
returns c =
    let h : Hits = hits_seen c.args.self.now in
    let s : Spread = spread_seen c.args.found.now in
    let n : ℕ = c.args.node in
    let bound : ℕ = c.after-bound.result in
    let nodes : List Node = c.nodes.result.now in
    let here : Node = slice_index_or nodes n no_node in
    let same : nodes ≡ h.view.nodes = c.nodes.ensures.same ∙ c.graph.ensures.same in
    let found : slice_get h.view.nodes n ≡ Some here =
    sym (ap (λ (l : List Node). slice_get l n) same)
    ∙ slice_get-get_or nodes n no_node (omega (arith, c.requires.inside, ap (λ (l : List Node). length l) same)) in
    let read : c.index.result.now ≡ age_at s.bounds n =
    c.index.ensures
    ∙ get_or_default s.bounds n c.index.result.now 0 (omega (arith, c.requires.inside, c.requires.spread.one_each)) in
    let moved : bound ≡ (equations_of h).transfer n (age_at s.bounds n) =
    c.after-bound.ensures ∙ ap ((equations_of h).transfer n) read in
    let twice : Spread = lowered_at (lowered_at s n here.first bound) n here.second bound in
    let spread : SpreadsFrom h n s twice = spreads h s c.requires.spread n bound moved here found in
    on_ok_weaker c.lower-2.result (λ is. subst (SpreadsFrom h n s)
    (sym (is ∙ ap (λ (t : Spread). lowered_at t n here.second bound) c.in_ok-lower.ensures)) spread) c.lower-2.ensures
