-- Each mark of a solution that changes lead to comes along one path.
use Rattle.std.proofs.Common.{◌≡◌, ℕ, Bool, true, ◌||◌, List, [], ◌∷◌, map, Some, inl, inr, refl}
use Rattle.std.proofs.lemmas.Bool.{and_parts, and_from, or_cases, or_left, or_right}
use Rattle.std.specs.List.{list_any}
use Rattle.std.specs.Prelude.{slice_get}
use Rattle.transition_spec.specs.Path.{IsPath, IsSuccessor}
use Rattle.path_model.specs.declared.graph.Node.{Node}
use Rattle.path_model.specs.Graph.{graph_step}
use Rattle.lattice_fix.specs.declared.change.Change.{Change}
use Rattle.lattice_fix.specs.Replay.{Replays, nothing}
use Rattle.lattice_fix.specs.Along.{along}
use Rattle.lattice_fix.proofs.Induction.{replay_induction}
use Rattle.focus_values.specs.Tests.{found_from_any, any_from_found}
use Rattle.focus_values.specs.Power.{Marking, moved, power, HasAll}
use Rattle.focus_values.specs.PowerLaws.{power_monotone}

module _ {M : Type 0} (K : Marking M) (full : HasAll K) (nodes : List Node) where
  -- some path that ends in the node leads to the mark
  abbrev pub ComesTo : ℕ → M → Type 0
  ComesTo n mark = (earlier : List ℕ) × IsPath (graph_step nodes) 0
      (n ∷ earlier) × (along (power K) (n ∷ earlier) mark ≡ true)

  -- some path ends in the node, and each mark of the set comes along one
  abbrev AllCome : ℕ → (M → Bool) → Type 0
  AllCome n x = ((earlier : List ℕ) × IsPath (graph_step nodes) 0 (n ∷ earlier)) × ((mark : M) → x mark ≡ true
      → ComesTo n mark)

  -- what moves to a successor comes along a path with one member more
  comes_further : (n m : ℕ) (x : M → Bool) → IsSuccessor (graph_step nodes) n m → AllCome n x → (mark : M)
      → moved K n x mark ≡ true → ComesTo m mark
  comes_further n m x leads come mark has =
      let parts = and_parts (K.is_mark mark) (K.always n mark || list_any x (K.sources n mark)) has in
      elim (or_cases (K.always n mark) (list_any x (K.sources n mark)) parts.1) [
        | inl stands ↦
            let earlier : List ℕ = come.0.0 in
            let before : M → Bool = along (power K) (n ∷ earlier) in (
              n ∷ earlier,
              (leads, come.0.1),
              and_from (K.is_mark mark) (K.always n mark || list_any before (K.sources n mark)) parts.0
                  (or_left (K.always n mark) (list_any before (K.sources n mark)) stands),
            )
        | inr comes ↦
            let found = found_from_any x (K.sources n mark) comes in
            let path = come.1 found.0 found.2 in
            let earlier : List ℕ = path.0 in
            let before : M → Bool = along (power K) (n ∷ earlier) in (
              n ∷ earlier,
              (leads, path.1),
              and_from (K.is_mark mark) (K.always n mark || list_any before (K.sources n mark)) parts.0
                  (or_right (K.always n mark) (list_any before (K.sources n mark))
                  (any_from_found before (K.sources n mark) found.0 found.1 path.2)),
            )
      ]

  -- each mark before a node comes along a path that ends there
  pub marks_come : (changes : List Change) (before : List (M → Bool)) → Replays (power K) nodes (nothing nodes)
      changes (map Some before)
      → (n : ℕ) (x : M → Bool) → slice_get before n ≡ Some x → (mark : M) → x mark ≡ true → ComesTo n mark
  marks_come changes before replay n x is =
      (replay_induction (power K) (power_monotone K full) nodes AllCome
      (([], refl), λ mark has. ([], refl, has))
      (λ k m y leads cy come. ((k ∷ come.0.0, (leads, come.0.1)), comes_further k m y leads come))
      (λ m y z cy cz one two. (
        one.0,
        λ mark has.
            elim (or_cases (y mark) (z mark) has) [ inl first ↦ one.1 mark first | inr second ↦ two.1 mark second ],
      ))
      changes before replay n x is).1
