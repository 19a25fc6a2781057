use Rattle.std.proofs.Common.{◌≡◌, ℕ, ◌<◌, length, slice_index_or, ap, ◌∙◌, subst, arith}
use Rattle.std.proofs.lemmas.List.{get_or_default}
use Rattle.age_spec.specs.Settled.{IsShown}
use Rattle.age_spec.specs.Ages.{age_at}
use Rattle.age_exists.specs.Bounded.{Bounded, AreAttested}
use Rattle.age_exists.specs.Seen.{seen_as}
use Rattle.age_exists.proofs.Attests.{attested_entry, attested_path}
use Rattle.age_exists.proofs.Chained.{entry_chained}
use Rattle.age_exists.proofs.one_block.BlockBounds.bound.Goals as goal

pub returns-clause-attested : goal.returns-clause-attested
returns-clause-attested c = λ fetches shown_by.
    let b : Bounded = c.args.self.now in
    let n : ℕ = c.args.node in
    let t = seen_as c.self.inside.steps in
    let are : AreAttested b t = subst (λ (b : Bounded). AreAttested b t) c.self.view_is c.self.invariant in
    let read : ℕ = c.index.result.now in
    let here : n < length b.bounds = omega (arith, c.requires, are.are_led.least.solution.one_each) in
    let bound_is : c.from.result ≡ age_at b.bounds n =
    c.from.ensures ∙ (c.index.ensures ∙ (ap (λ (b : Bounded). slice_index_or b.bounds n read) c.self.view_is
    ∙ get_or_default b.bounds n read 0 here)) in
    let shown : IsShown b.hits b.view.geometry.ways (age_at b.bounds n) =
    subst (IsShown b.hits b.view.geometry.ways) bound_is shown_by in
    let entry = attested_entry b t are n fetches in
    let whole = entry_chained b.view.nodes t.entries are.are_led.led.trail entry.number entry.leads.inside in
    (whole.0, attested_path b t are n fetches shown whole.0 whole.1 whole.2)
