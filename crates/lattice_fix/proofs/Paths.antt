-- Solutions and paths: what is moved along each path lies below a solution, and where transfers distribute, the
-- solution that a replay leads to is the least upper bound of what is moved along all paths.
use Rattle.std.proofs.Common.{◌≡◌, ℕ, suc, ◌<◌, List, [], ◌∷◌, length, map, Some, refl, sym, ◌∙◌, ap, subst, arith}
use Rattle.std.specs.Prelude.{slice_get}
use Rattle.list_lemmas.proofs.Members.{found-inside}
use Rattle.transition_spec.specs.Path.{IsPath, IsSuccessor}
use Rattle.path_model.specs.declared.graph.Node.{Node}
use Rattle.path_model.specs.Graph.{IsGraph, graph_step}
use Rattle.lattice_fix.specs.declared.change.Change.{Change}
use Rattle.lattice_fix.specs.Framework.{Framework, IsMonotone}
use Rattle.lattice_fix.specs.Solution.{IsSolution, IsLeast}
use Rattle.lattice_fix.specs.Replay.{Replays, nothing}
use Rattle.lattice_fix.specs.Along.{along, IsDistributive}
use Rattle.lattice_fix.proofs.Edges.{edge_inside}
use Rattle.lattice_fix.proofs.Induction.{replay_induction}

-- what is moved along a path is in the carrier
pub along_within : {D : Type 0} (F : Framework D) → IsMonotone F → (path : List ℕ) → F.carrier (along F path)
along_within F M [] = M.start_within
along_within F M (n ∷ []) = M.start_within
along_within F M (m ∷ n ∷ earlier) = M.transfer_within n (along F (n ∷ earlier)) (along_within F M (n ∷ earlier))

-- what is moved along a path lies below each solution
pub along_below : {D : Type 0} (F : Framework D) → IsMonotone F → (nodes : List Node) → IsGraph nodes →
    (before : List D) → IsSolution F nodes before
    → (n : ℕ) (earlier : List ℕ) (x : D) → IsPath (graph_step nodes) 0 (n ∷ earlier) → slice_get before n ≡ Some x →
    F.below (along F (n ∷ earlier)) x
along_below F M nodes graph before sol n [] x path is =
    sol.starts x (subst (λ (k : ℕ). slice_get before k ≡ Some x) path is)
along_below {D} F M nodes graph before sol m (n ∷ earlier) x path is =
    let ends = edge_inside nodes graph n m path.0 in
    let value = found-inside before n (subst (λ (k : ℕ). n < k) (sym sol.one_each) ends.0) in
    let y : D = value.0 in
    let moved : D = along F (n ∷ earlier) in
    let cm : F.carrier moved = along_within F M (n ∷ earlier) in
    let cy : F.carrier y = sol.within n y value.1 in
    M.transitive (F.transfer n moved) (F.transfer n y) x (M.transfer_within n moved cm) (M.transfer_within n y cy)
    (sol.within m x is)
    (M.monotone n moved y cm cy (along_below F M nodes graph before sol n earlier y path.1 value.1))
    (sol.follows n m y x path.0 value.1 is)

-- lists as long as one another with the same at each place are one
same_list : {D : Type 0} (one two : List D) → length one ≡ length two →
    ((n : ℕ) (x y : D) → slice_get one n ≡ Some x → slice_get two n ≡ Some y → x ≡ y) → one ≡ two
same_list [] [] len each = refl
same_list [] (y ∷ two) len each = absurd (omega (arith, len))
same_list (x ∷ one) [] len each = absurd (omega (arith, len))
same_list {D} (x ∷ one) (y ∷ two) len each =
    let rest : length one ≡ length two = omega (arith, len) in
    ap (λ (w : D). w ∷ one) (each 0 x y refl refl)
    ∙ ap (λ (w : List D). y ∷ w) (same_list one two rest (λ n. each (suc n)))

-- two least solutions are one list
pub least_same : {D : Type 0} (F : Framework D) → IsMonotone F → (nodes : List Node) (one two : List D) →
    IsLeast F nodes one → IsLeast F nodes two → one ≡ two
least_same F M nodes one two a b = same_list one two (a.solution.one_each ∙ sym b.solution.one_each)
    (λ n x y is_x is_y. M.antisymmetric x y (a.solution.within n x is_x) (b.solution.within n y is_y)
    (a.least two b.solution n x y is_x is_y) (b.least one a.solution n y x is_y is_x))

-- paths that are joined, each by what stood before its last member
data Joint : Type 0 where
  path : List ℕ → Joint
  both : Joint → Joint → Joint

-- they are paths that end in the node
ArePaths : List Node → ℕ → Joint → Type 0
ArePaths nodes n (path earlier) = IsPath (graph_step nodes) 0 (n ∷ earlier)
ArePaths nodes n (both one two) = ArePaths nodes n one × ArePaths nodes n two

-- the join of what is moved along them
join_of : {D : Type 0} → Framework D → ℕ → Joint → D
join_of F n (path earlier) = along F (n ∷ earlier)
join_of F n (both one two) = F.join (join_of F n one) (join_of F n two)

-- each with one member more
onward : ℕ → Joint → Joint
onward n (path earlier) = path (n ∷ earlier)
onward n (both one two) = both (onward n one) (onward n two)

module _ {D : Type 0} (F : Framework D) (M : IsMonotone F) (nodes : List Node) where
  -- a join over paths is in the carrier
  joint_within : (n : ℕ) (joint : Joint) → F.carrier (join_of F n joint)
  unfolding join_of
  joint_within n (path earlier) = along_within F M (n ∷ earlier)
  joint_within n (both one two) =
      M.join_within (join_of F n one) (join_of F n two) (joint_within n one) (joint_within n two)

  -- one member more makes paths to a successor
  onward_paths : (n m : ℕ) (joint : Joint) → IsSuccessor (graph_step nodes) n m → ArePaths nodes n joint →
      ArePaths nodes m (onward n joint)
  unfolding ArePaths onward
  onward_paths n m (path earlier) leads paths = (leads, paths)
  onward_paths n m (both one two) leads paths = (onward_paths n m one leads paths.0, onward_paths n m two leads paths.1)

  -- and moves their join by the transfer
  onward_join : IsDistributive F → (n m : ℕ) (joint : Joint) →
      F.transfer n (join_of F n joint) ≡ join_of F m (onward n joint)
  unfolding join_of onward
  onward_join distributive n m (path earlier) = refl
  onward_join distributive n m (both one two) =
      distributive n (join_of F n one) (join_of F n two) (joint_within n one) (joint_within n two)
      ∙ (ap (λ (x : D). F.join x (F.transfer n (join_of F n two))) (onward_join distributive n m one)
      ∙ ap (λ (x : D). F.join (join_of F m (onward n one)) x) (onward_join distributive n m two))

  -- a bound of what is moved along all paths to the node bounds the join
  joint_below : (n : ℕ) (bound : D) → F.carrier bound →
      ((earlier : List ℕ) → IsPath (graph_step nodes) 0 (n ∷ earlier) → F.below (along F (n ∷ earlier)) bound)
      → (joint : Joint) → ArePaths nodes n joint → F.below (join_of F n joint) bound
  unfolding join_of ArePaths
  joint_below n bound carrier below (path earlier) paths = below earlier paths
  joint_below n bound carrier below (both one two) paths =
      M.join_least (join_of F n one) (join_of F n two) bound (joint_within n one) (joint_within n two) carrier
      (joint_below n bound carrier below one paths.0) (joint_below n bound carrier below two paths.1)

  -- the start is what is moved along the path of node 0 alone
  start_path : (j : Joint) × ArePaths nodes 0 j × (F.start ≡ join_of F 0 j)
  unfolding ArePaths join_of
  start_path = (path [], refl, refl)

  -- paths of two joins are paths of both
  both_paths : (m : ℕ) (one two : Joint) → ArePaths nodes m one → ArePaths nodes m two → ArePaths nodes m (both one two)
  unfolding ArePaths
  both_paths m one two a b = (a, b)

  -- whose join is the join of the two
  both_join : (m : ℕ) (one two : Joint) → F.join (join_of F m one) (join_of F m two) ≡ join_of F m (both one two)
  unfolding join_of
  both_join m one two = refl

  -- what is before a node lies below each bound of what is moved along all paths that end in it
  pub least_over_paths : IsDistributive F → (changes : List Change) (before : List D) →
      Replays F nodes (nothing nodes) changes (map Some before)
      → (n : ℕ) (x bound : D) → slice_get before n ≡ Some x → F.carrier bound
      → ((earlier : List ℕ) → IsPath (graph_step nodes) 0 (n ∷ earlier) → F.below (along F (n ∷ earlier)) bound) →
      F.below x bound
  least_over_paths distributive changes before replay n x bound is carrier below =
      let joint = replay_induction F M nodes
      (λ (k : ℕ) (y : D). (j : Joint) × ArePaths nodes k j × (y ≡ join_of F k j)) start_path
      (λ k m y leads cy has. (
        onward k has.0,
        onward_paths k m has.0 leads has.1,
        ap (F.transfer k) has.2 ∙ onward_join distributive k m has.0,
      ))
      (λ m y z cy cz one two. (
        both one.0 two.0,
        both_paths m one.0 two.0 one.1 two.1,
        ap (λ (w : D). F.join w z) one.2
            ∙ (ap (λ (w : D). F.join (join_of F m one.0) w) two.2 ∙ both_join m one.0 two.0),
      ))
      changes before replay n x is in
      subst (λ (y : D). F.below y bound) (sym joint.2) (joint_below n bound carrier below joint.0 joint.1)
