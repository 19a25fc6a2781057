use Rattle.std.proofs.Common.{refl, ◌≡◌, zero, suc, List, [], ◌∷◌, Option, Some, None, arith, subst, sym, ◌∙◌, IfSome}
use Rattle.path_model.specs.declared.graph.Node.{Node}
use Rattle.path_trail.specs.Trail.{TrailEntry, IsTrail}
use Rattle.path_trail.proofs.tests.an_entry_has_the_path_to_its_node_and_the_way_that_names_it.Goals as goal

-- the nodes of the test
nodes : List Node
nodes =
    record { at = 0; first = Some 1; second = None }
    ∷ record { at = 4; first = Some 2; second = Some 0 }
    ∷ record { at = 8; first = None; second = None }
    ∷ []

-- the entries of the test
entries : List TrailEntry
entries =
    record { node = 0; earlier = None }
    ∷ record { node = 1; earlier = Some 0 }
    ∷ record { node = 0; earlier = Some 1 }
    ∷ record { node = 1; earlier = Some 2 }
    ∷ record { node = 2; earlier = Some 3 }
    ∷ []

-- each of them follows the one before it
rounds : IsTrail nodes entries
unfolding nodes entries
rounds zero inside = refl
rounds (suc zero) inside = (omega arith, (0, omega arith, refl))
rounds (suc (suc zero)) inside = (omega arith, (1, omega arith, refl))
rounds (suc (suc (suc zero))) inside = (omega arith, (0, omega arith, refl))
rounds (suc (suc (suc (suc zero)))) inside = (omega arith, (0, omega arith, refl))
rounds (suc (suc (suc (suc (suc number))))) inside = absurd (omega arith)

pub trace-requires-clause-trail : goal.trace-requires-clause-trail
unfolding nodes entries
trace-requires-clause-trail g c =
    let made : c.expect-graph.result ≡ nodes =
    subst (λ (o : Option (List Node)). IfSome o (λ graph. graph ≡ c.in_ok-from_slice.field-0.items))
    c.expect-graph.ensures c.new.ensures.same
    ∙ c.in_ok-from_slice.ensures.items in
    subst (λ (ns : List Node). IsTrail ns entries) (sym made) rounds
