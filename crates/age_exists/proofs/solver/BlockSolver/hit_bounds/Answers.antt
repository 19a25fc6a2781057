use Rattle.std.proofs.Common.{ℕ, ◌<◌, true, length, refl, sym, ap, ◌∙◌, subst, arith}
use Rattle.std.proofs.lemmas.List.{length-map}
use Rattle.age_spec.specs.declared.kind.Kind.TheVariants.{Must}
use Rattle.age_spec.specs.Exists.{AreHitBounds}
use Rattle.age_spec.proofs.Bounded.{solution_bounds}
use Rattle.age_exists.specs.Bounded.{Bounded}
use Rattle.age_exists.specs.Equations.{own_ages}
use Rattle.age_exists.specs.Firsts.{AreFetchers}
use Rattle.age_exists.specs.Rows.{columns_seen}
use Rattle.age_exists.specs.Seen.{seen_as}
use Rattle.age_exists.specs.Solving.{Solving}
use Rattle.age_exists.proofs.Attests.{led_over, attested_over}
use Rattle.age_exists.proofs.Fetching.{fetchers_at, list_read}
use Rattle.age_exists.proofs.solver.BlockSolver.hit_bounds.Goals as goal

pub near_bounds-requires-clause-fetchers : goal.near_bounds-requires-clause-fetchers
near_bounds-requires-clause-fetchers c =
    let view = c.self.inside.view.now in
    let lists = c.self.inside.fetchers.items in
    let block : ℕ = c.args.block in
    let have = c.self.invariant.lists in
    let known : block < length view.blocks =
    subst (λ (s : Solving). block < length s.view.blocks) (sym c.self.view_is) c.requires in
    let inside : block < length lists =
    omega (arith, known, have.one_each, length-map lists (λ list. list.items)) in
    subst (AreFetchers view block)
    (sym (c.deref.ensures.value
    ∙ list_read lists block c.index-fetchers.result.now inside c.index-fetchers.ensures))
    (fetchers_at view c.self.invariant.solving.is_view (columns_seen lists) have block known)

pub attested-requires : goal.attested-requires
attested-requires c =
    let view = c.self.inside.view.now in
    let start = c.self.inside.start in
    let must = c.self.inside.must.now in
    let block : ℕ = c.args.block in
    let solving = c.self.invariant.solving in
    let found = c.in_ok-found.found in
    let known : block < length view.blocks =
    subst (λ (s : Solving). block < length s.view.blocks) (sym c.self.view_is) c.requires in
    attested_over view solving.is_view true start (own_ages view.fetches must) must block refl found.bounds.items
    (seen_as found.steps) c.in_ok-found.ensures known
    (solution_bounds view solving.is_view start Must must solving.must_ages.solution)

pub returns-clause-bounds : goal.returns-clause-bounds
returns-clause-bounds c =
    let view = c.self.inside.view.now in
    let start = c.self.inside.start in
    let must = c.self.inside.must.now in
    let block : ℕ = c.args.block in
    let found = c.in_ok-found.found in
    let led = led_over view c.self.invariant.solving.is_view true start (own_ages view.fetches must) must block refl
    found.bounds.items (seen_as found.steps) c.in_ok-found.ensures in
    subst (λ (s : Solving). AreHitBounds s.view s.start s.must block c.attested.result.bounds) c.self.view_is
    (subst (AreHitBounds view start must block) (sym (ap (λ (b : Bounded). b.bounds) c.attested.ensures)) led.least)
