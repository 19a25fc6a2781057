use Rattle.std.proofs.Common.{rules, ◌≡◌, Option, Some, None, IsTrue, sym, ◌∙◌, refl, subst}
use Rattle.std.specs.Option.{is_some}
use Rattle.std.proofs.lemmas.List.{get_or_read}
use Rattle.lattice_fix.proofs.solver.is_other_with_value.Goals as goal

-- what tests as there is there
there : {V : Type 0} (o : Option V) → IsTrue (is_some o) → (v : V) × (o ≡ Some v)
there None some = absurd (search rules)
there (Some v) some = (v, refl)

pub returns-then-node-from : goal.returns-then-node-from
returns-then-node-from g c = λ some.
    let read = c.index-values-node in
    let slot = get_or_read c.args.values.now c.args.node read.result c.requires read.is None in
    let value = there read.result (subst IsTrue c.is_some.ensures some) in
    record { apart = c.if-node-from.true; held = (value.0, sym slot ∙ value.1) }
