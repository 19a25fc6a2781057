use Rattle.std.proofs.Common.{◌≡◌, ℕ, ◌<◌, List, length, sym, subst, arith}
use Rattle.std.proofs.lemmas.List.{length-map}
use Rattle.path_trail.specs.Trail.{node_at}
use Rattle.age_exists.specs.declared.retracing.Step.{Step}
use Rattle.age_exists.specs.Seen.{entry_seen, entries_seen}
use Rattle.age_exists.specs.Spread.{Hits, hits_seen, Spread, spread_seen, IsUnderWay, SpreadsFrom}
use Rattle.age_exists.proofs.Working.{under_way_more, node_seen, entry_inside}
use Rattle.age_exists.proofs.near.HitSystem.work_off.Goals as goal

pub spread-requires-clause-inside : goal.spread-requires-clause-inside
spread-requires-clause-inside c =
    let h : Hits = hits_seen c.args.self.now in
    let steps : List Step = c.loop-head.found.steps.entries.items in
    let head : ℕ = c.loop-head.head in
    let inside : head < length steps = omega arith in
    subst (λ (n : ℕ). n < length h.view.nodes) (node_seen steps head c.index.result.now inside c.index.ensures)
    (entry_inside h.view.nodes c.loop-head.invariant.spread.is_view.graph (entries_seen steps)
    c.loop-head.invariant.spread.trail head (omega (arith, inside, length-map steps entry_seen)))

pub spread-requires-clause-spread : goal.spread-requires-clause-spread
spread-requires-clause-spread c = c.loop-head.invariant.spread

pub loop-head-smaller : goal.loop-head-smaller
loop-head-smaller c =
    let steps : List Step = c.loop-head.found.steps.entries.items in
    let inside : c.loop-head.head < length steps = omega arith in
    omega (arith, c.in_ok-spread.ensures.lowers.falls, inside, length-map steps entry_seen)

pub loop-head-preserved : goal.loop-head-preserved
loop-head-preserved c =
    let h : Hits = hits_seen c.args.self.now in
    let steps : List Step = c.loop-head.found.steps.entries.items in
    let head : ℕ = c.loop-head.head in
    let inside : head < length steps = omega arith in
    let s : Spread = spread_seen c.loop-head.found in
    let next : Spread = spread_seen c.spread.new.found in
    let node : node_at (entries_seen steps) head ≡ c.index.result.now.node =
    node_seen steps head c.index.result.now inside c.index.ensures in
    under_way_more h head s next c.loop-head.invariant (omega (arith, inside, length-map steps entry_seen))
    (subst (λ (n : ℕ). SpreadsFrom h n s next) (sym node) c.in_ok-spread.ensures)

pub returns : goal.returns
returns c =
    let steps : List Step = c.loop-head.found.steps.entries.items in
    let all : c.loop-head.head ≡ length steps =
    omega (arith, c.loop-head.invariant.within, length-map steps entry_seen) in
    subst (λ (n : ℕ). IsUnderWay (hits_seen c.args.self.now) n (spread_seen c.loop-head.found)) all
    c.loop-head.invariant
