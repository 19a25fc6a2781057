use Rattle.std.proofs.Common.{◌≡◌, ◌<◌, ap, sym, ◌∙◌, arith, subst, Some, length, map}
use Rattle.std.specs.Prelude.{slice_get}
use Rattle.std.proofs.lemmas.Option.{slice_get-get_or}
use Rattle.std.proofs.lemmas.List.{get_or-map, length-map}
use Rattle.call_expand.specs.Expansion.{Expansion}
use Rattle.call_expand.specs.declared.point.Point.{Point}
use Rattle.call_expand.proofs.expanded.Expanded.config.Goals as goal

-- the number is that of a node
below : (c : goal.After-depth) → c.args.node < length c.self.inside.graph
below c = subst (λ (e : Expansion). c.args.node < length e.nodes) (sym c.self.view_is) c.requires

pub returns-clause-stack : goal.returns-clause-stack
returns-clause-stack c =
    let P : Expansion → Type 0 = λ e. slice_get e.stacks c.args.node ≡ Some c.index-point.result.now.stack in
    let points = c.self.inside.points.items in
    let point = c.index-point.result.now in
    let stack_of = λ (point : Point). point.stack in
    let within : c.args.node < length points = omega (arith, c.self.invariant.as_many, below c) in
    subst P c.self.view_is
    (slice_get-get_or (map stack_of points) c.args.node point.stack (omega (arith, length-map points stack_of, within))
    ∙ ap Some (get_or-map stack_of points c.args.node point point.stack within ∙ ap stack_of (sym c.index-point.ensures)))
