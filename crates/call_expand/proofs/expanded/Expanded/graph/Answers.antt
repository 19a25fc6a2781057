use Rattle.std.proofs.Common.{◌≡◌, ℕ, ◌<◌, None, length, subst}
use Rattle.flow_spec.specs.Configuration.{fetched}
use Rattle.path_model.specs.Graph.{address_of}
use Rattle.call_expand.specs.Expansion.{Expansion, numbered}
use Rattle.call_expand.proofs.Finished.{fetch-at}
use Rattle.call_expand.proofs.expanded.Expanded.graph.Goals as goal

pub returns-clause-fetches : goal.returns-clause-fetches
returns-clause-fetches c =
    let P : Expansion → Type 0 =
    λ e. (n : ℕ) → n < length e.nodes → address_of e.nodes n ≡ fetched (numbered e.configurations n) in
    let inside = c.self.inside in
    subst P c.self.view_is (λ n below. fetch-at inside.stacks inside.points.items inside.graph n
    (record { at = 0; part = 0; stack = 0 }) (record { at = 0; first = None; second = None })
    c.self.invariant.fetches c.self.invariant.as_many below)
