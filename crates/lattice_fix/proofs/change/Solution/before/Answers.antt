use Rattle.std.proofs.Common.{◌≡◌, ◌<◌, length, Option, Some, None, List, sym, ◌∙◌, ap, subst, arith}
use Rattle.std.specs.Prelude.{slice_get}
use Rattle.std.proofs.lemmas.List.{get_or_read}
use Rattle.std.proofs.lemmas.Option.{none-some}
use Rattle.list_lemmas.proofs.Members.{found-inside}
use Rattle.lattice_fix.specs.Replay.{value_at}
use Rattle.lattice_fix.specs.Solved.{somes}
use Rattle.lattice_fix.proofs.Filled.{length-somes, value_at-filled}
use Rattle.lattice_fix.proofs.change.Solution.before.Given.{Over}
use Rattle.lattice_fix.proofs.change.Solution.before.Goals as goal
use Rattle.lattice_fix.proofs.change.Solution.before.Goals.{After-self}

-- the node is one of the values
inside : (g : Over) (c : After-self g) → c.args.node < length (somes c.self.inside.values.items)
inside g c = subst (λ (values : List g.row.V.Denot). c.args.node < length values)
    (sym (ap (λ solved. solved.values) c.self.view_is)) c.requires.inside

-- its slot has the value
slot : (g : Over) (c : After-self g) →
    value_at c.self.inside.values.items c.args.node ≡ slice_get (somes c.self.inside.values.items) c.args.node
slot g c = ap (λ (slots : List (Option g.row.V.Denot)). value_at slots c.args.node) (sym c.self.invariant)
    ∙ value_at-filled (somes c.self.inside.values.items) c.args.node

pub index-requires : goal.index-requires
index-requires g c =
    let lt = inside g c in
    omega (arith, lt, length-somes c.self.inside.values.items c.self.invariant, c.self.inside.values.ok.0)

pub unreachable-requires : goal.unreachable-requires
unreachable-requires g d =
    let c : After-self g = (goal.at.unreachable-requires g d).After-self in
    let slots : List (Option g.row.V.Denot) = c.self.inside.values.items in
    let lt = inside g c in
    let within : c.args.node < length slots = omega (arith, lt, length-somes slots c.self.invariant) in
    let value = found-inside (somes slots) c.args.node lt in
    absurd
    (none-some value.0
    (sym (sym (get_or_read slots c.args.node d.index.result.now within d.index.ensures None) ∙ d.in-None.is)
    ∙ (slot g c ∙ value.1)))

pub returns : goal.returns
returns g d =
    let c : After-self g = (goal.at.returns g d).After-self in
    let slots : List (Option g.row.V.Denot) = c.self.inside.values.items in
    let lt = inside g c in
    let within : c.args.node < length slots = omega (arith, lt, length-somes slots c.self.invariant) in
    let is : slice_get (somes slots) c.args.node ≡ Some d.in-Some.value =
    sym (slot g c)
    ∙ (sym (get_or_read slots c.args.node d.index.result.now within d.index.ensures None) ∙ d.in-Some.is) in
    record {
      value = subst (λ (values : List g.row.V.Denot). slice_get values c.args.node ≡ Some d.in-Some.value)
          (ap (λ solved. solved.values) c.self.view_is) is;
    }
