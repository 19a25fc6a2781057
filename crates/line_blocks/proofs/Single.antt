-- A run for each node is a plan.
use Rattle.std.proofs.Common.{◌≡◌, ℕ, ◌<◌, inl, inr, List, [], ◌∷◌, ◌++◌, length, Option, Some, None, refl, ap, sym, ◌∙◌, subst, arith}
use Rattle.std.specs.Prelude.{slice_get}
use Rattle.std.proofs.lemmas.List.{get_or_append_left, get_or_push, length_push}
use Rattle.std.proofs.lemmas.Option.{slice_get-get_or, get_or_from_slice_get}
use Rattle.list_lemmas.proofs.Members.{found-inside}
use Rattle.cache_spec.specs.Geometry.{Geometry}
use Rattle.path_model.specs.declared.graph.Node.{Node}
use Rattle.path_model.specs.Graph.{IsGraph}
use Rattle.path_model.proofs.Edges.{successor-from_node}
use Rattle.path_model.proofs.Reached.{successor_inside}
use Rattle.line_blocks.specs.declared.plan.Run.{Run}
use Rattle.line_blocks.specs.Runs.{IsPlan, AreRising, IsHead, IsHeadIf, IsLeft, run_of, head_of, last_of, head_in, last_in}
use Rattle.line_blocks.specs.Alone.{AreAlone}

-- an element that was pushed is found
pushed : (runs : List Run) (run : Run) (n : ℕ) → length runs ≡ n → slice_get (runs ++ run ∷ []) n ≡ Some run
pushed runs run n long =
    slice_get-get_or (runs ++ run ∷ []) n run (omega (arith, length_push runs run, long))
    ∙ ap Some (get_or_push runs run run n long)

-- and each before it
kept : (runs : List Run) (run found : Run) (n : ℕ) → n < length runs → slice_get runs n ≡ Some found
    → slice_get (runs ++ run ∷ []) n ≡ Some found
kept runs run found n inside at =
    slice_get-get_or (runs ++ run ∷ []) n run (omega (arith, length_push runs run, inside))
    ∙ ap Some (get_or_append_left runs (run ∷ []) run n inside ∙ get_or_from_slice_get runs n found run at)

-- none is alone
pub alone_none : (numbers : List ℕ) (runs : List Run) → numbers ≡ [] → runs ≡ [] → AreAlone 0 numbers runs
alone_none numbers runs no_numbers no_runs =
    (ap (λ (xs : List ℕ). length xs) no_numbers, ap (λ (xs : List Run). length xs) no_runs, λ n inside. absurd (omega (arith, inside)))

module _ (nodes : List Node) (graph : IsGraph nodes) (g : Geometry) (numbers : List ℕ) (runs : List Run)
    (are : AreAlone (length nodes) numbers runs) where
  -- each node is the first of its run, and the last
  is_first : (n : ℕ) → n < length nodes → head_of runs n ≡ n
  is_first n inside = ap head_in (are.2 n inside).1

  is_last : (n : ℕ) → n < length nodes → last_of runs n ≡ n
  is_last n inside = ap last_in (are.2 n inside).1

  heads : (n : ℕ) → n < length nodes → IsHead numbers runs n
  heads n inside = ap (head_of runs) (are.2 n inside).0 ∙ is_first n inside

  heads_if : (o : Option ℕ) → ((m : ℕ) → o ≡ Some m → m < length nodes) → IsHeadIf numbers runs o
  heads_if None below = tt
  heads_if (Some m) below = heads m (below m refl)

  left_from : (n : ℕ) (node : Node) → slice_get nodes n ≡ Some node → IsLeft numbers runs (Some node)
  left_from n node found = (
    heads_if node.first (λ m is. successor_inside nodes n m graph (successor-from_node nodes n m node found (inl is))),
    heads_if node.second (λ m is. successor_inside nodes n m graph (successor-from_node nodes n m node found (inr is))),
  )

  pub alone_plan : IsPlan nodes g numbers runs
  alone_plan =
      let some : 0 < length nodes = omega (arith, graph.some) in (
        is_first 0 some,
        λ n inside.
            let own : run_of numbers n ≡ n = (are.2 n inside).0 in
            (omega (arith, own, are.1, inside), inl (ap (last_of runs) own ∙ is_last n inside)),
        λ p within.
            let inside : p < length nodes = omega (arith, within, are.1) in
            let first : head_of runs p ≡ p = is_first p inside in
            let last : last_of runs p ≡ p = is_last p inside in
            let own : run_of numbers p ≡ p = (are.2 p inside).0 in
            let found = found-inside nodes p inside in (
              omega (arith, first, inside),
              ap (run_of numbers) first ∙ own,
              ap (run_of numbers) last ∙ own,
              subst (IsLeft numbers runs) (sym (ap (slice_get nodes) last ∙ found.1)) (left_from p found.0 found.1),
            ),
      )

  pub alone_rises : AreRising runs
  alone_rises p q less within =
      let q_inside : q < length nodes = omega (arith, within, are.1) in
      let p_first : head_of runs p ≡ p = is_first p (omega (arith, less, q_inside)) in
      let q_first : head_of runs q ≡ q = is_first q q_inside in
      omega (arith, p_first, q_first, less)
