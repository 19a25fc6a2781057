use Rattle.std.proofs.Common.{◌≡◌, ℕ, Vec, Global, List, reverse, Option, sym, ap, ◌∙◌, subst, arith}
use Rattle.std.specs.Prelude.{IfSome}
use Rattle.std.proofs.lemmas.List.{length-reverse}
use Rattle.transition_spec.specs.declared.way.Way.{Way}
use Rattle.transition_spec.specs.Path.{HasChoices}
use Rattle.transition_spec.specs.Named.{Names}
use Rattle.path_model.specs.declared.graph.Node.{Node}
use Rattle.path_model.specs.Graph.{graph_step}
use Rattle.age_spec.specs.Sound.{IsWitness}
use Rattle.age_exists.specs.Bounded.{Bounded}
use Rattle.age_exists.proofs.one_block.BlockBounds.way.Goals as goal

pub returns-clause-way : goal.returns-clause-way
returns-clause-way c =
    let b : Bounded = c.args.self.now in
    let path : List ℕ = c.in-Some.path.items in
    let witness : IsWitness b.view b.start c.args.node b.hits (reverse path) =
    subst (λ (found : Option (Vec ℕ Global)). IfSome found (λ path.
    IsWitness b.view b.start c.args.node b.hits (reverse path.items))) c.in-Some.is c.in_ok-path.ensures.path in
    let nodes_are : c.graph.result.now ≡ b.view.nodes =
    c.graph.ensures.same ∙ ap (λ (b : Bounded). b.view.nodes) c.self.view_is in
    let letters : HasChoices (graph_step b.view.nodes) (reverse path) c.from_letters.result =
    subst (λ (nodes : List Node). HasChoices (graph_step nodes) (reverse path) c.from_letters.result) nodes_are
    (subst (λ (members : List ℕ). HasChoices (graph_step c.graph.result.now) (reverse members) c.from_letters.result)
    c.deref.ensures.value
    (subst (HasChoices (graph_step c.graph.result.now) (reverse c.deref.result.now)) (sym c.from_letters.ensures)
    c.in_ok-letters.ensures)) in
    let way : Way = record { steps = c.len.result; choices = c.from_letters.result } in
    let named : Names (graph_step b.view.nodes) way (reverse path) =
    record { steps = omega (arith, c.len.ensures, length-reverse path); choices = letters } in
    record {
      earlier = witness.earlier;
      is_path = witness.is_path;
      names = subst (Names (graph_step b.view.nodes) way) witness.ends named;
      fate = witness.fate;
    }
