-- Steps and choices name one path.
use Rattle.std.proofs.Common.{◌≡◌, ℕ, List, [], ◌∷◌, ◌++◌, length, Some, refl, ap, sym, ◌∙◌, subst, arith, append_assoc}
use Rattle.std.specs.Prelude.{slice_get, Result}
use Rattle.std.proofs.lemmas.List.{append_cancel_left}
use Rattle.std.proofs.lemmas.Option.{some_pair_parts}
use Rattle.transition_spec.specs.Path.{IsPath, HasChoices}
use Rattle.path_model.specs.declared.graph.Node.{Node}
use Rattle.path_model.specs.Graph.{IsGraph, graph_step}
use Rattle.path_model.specs.Follow.{IsFollowed, next_to}
use Rattle.path_model.proofs.Choices.{choices-unique}
use Rattle.path_model.proofs.Walked.{move-only}

-- two paths of the same length whose choices begin the same list are the same
paths-same : (nodes : List Node) (one two a b r s : List ℕ) → IsGraph nodes → length one ≡ length two
    → IsPath (graph_step nodes) 0 one → IsPath (graph_step nodes) 0 two
    → HasChoices (graph_step nodes) one a → HasChoices (graph_step nodes) two b → a ++ r ≡ b ++ s → one ≡ two
paths-same nodes [] two a b r s graph long p q has other on = absurd p
paths-same nodes (c ∷ one) [] a b r s graph long p q has other on = absurd q
paths-same nodes (c ∷ []) (f ∷ []) a b r s graph long p q has other on = ap (λ n. n ∷ []) (p ∙ sym q)
paths-same nodes (c ∷ []) (e ∷ f ∷ two) a b r s graph long p q has other on = absurd (omega (arith, long))
paths-same nodes (d ∷ c ∷ one) (f ∷ []) a b r s graph long p q has other on = absurd (omega (arith, long))
paths-same nodes (d ∷ c ∷ one) (e ∷ f ∷ two) a b r s graph long p q has other on =
    let step : ℕ → Result (List ℕ) (Unit {0}) = graph_step nodes in
    let onward : has.0 ++ (has.1 ++ r) ≡ other.0 ++ (other.1 ++ s) =
    sym (append_assoc has.0 has.1 r) ∙ ap (λ xs. xs ++ r) (sym has.4) ∙ on ∙ ap (λ xs. xs ++ s) other.4
    ∙ append_assoc other.0 other.1 s in
    let rest = paths-same nodes (c ∷ one) (f ∷ two) has.0 other.0 (has.1 ++ r) (other.1 ++ s) graph
    (omega (arith, long)) p.1 q.1 has.2 other.2 onward in
    let here : c ≡ f = cc (rest) in
    let before = choices-unique nodes (c ∷ one) has.0 other.0 graph has.2
    (subst (λ (xs : List ℕ). HasChoices step xs other.0) (sym rest) other.2) in
    let left = append_cancel_left has.0 (has.1 ++ r) (other.1 ++ s)
    (onward ∙ ap (λ xs. xs ++ (other.1 ++ s)) (sym before)) in
    let same : Some (d, length has.1) ≡ Some (e, length other.1) =
    sym (move-only nodes c d has.1 r graph p.0 has.3)
    ∙ ap (λ n. next_to (slice_get nodes n) (slice_get (has.1 ++ r) 0)) here
    ∙ ap (λ xs. next_to (slice_get nodes f) (slice_get xs 0)) left
    ∙ move-only nodes f e other.1 s graph q.0 other.3 in
    let there : d ≡ e = (some_pair_parts d e (length has.1) (length other.1) same).0 in
    cc (there, rest)

-- two paths with the same steps and choices are the same
pub followed-same : (nodes : List Node) (steps : ℕ) (choices one two : List ℕ) → IsGraph nodes
    → IsFollowed nodes steps choices one → IsFollowed nodes steps choices two → one ≡ two
followed-same nodes steps choices one two graph first second =
    paths-same nodes one two choices choices [] [] graph (first.as_long ∙ sym second.as_long)
    first.path second.path first.takes second.takes refl
