-- What holds along a replay: all stays in the carrier, and below each solution.
use Rattle.std.proofs.Common.{◌≡◌, ◌≢◌, ℕ, ◌<◌, List, [], ◌∷◌, ◌++◌, length, replicate, slice_index_or, ◌≤◌, Option, Some, None, refl, sym, ◌∙◌, ap, subst, ⊎_elim}
use Rattle.std.specs.Prelude.{slice_get}
use Rattle.std.proofs.lemmas.Option.{same_Some, none-some}
use Rattle.std.proofs.lemmas.Bool.{cases_eq, cases_lt}
use Rattle.std.proofs.lemmas.List.{length-set, get_or_past, get_or-replicate, length-replicate}
use Rattle.list_lemmas.proofs.Members.{found-inside}
use Rattle.path_model.specs.declared.graph.Node.{Node}
use Rattle.path_model.specs.Graph.{IsGraph}
use Rattle.lattice_fix.specs.declared.change.Change.{Change}
use Rattle.lattice_fix.specs.Framework.{Framework, IsMonotone}
use Rattle.lattice_fix.specs.Solution.{IsSolution}
use Rattle.lattice_fix.specs.Replay.{value_at, Brings, joined, IsStep, Replays, nothing}
use Rattle.lattice_fix.proofs.Joined.{AllWithin, raised_at, joined_below, raised_within, raised_same, raised_other}
use Rattle.lattice_fix.proofs.Edges.{edge_inside}

-- a place of a list of copies has the copy, as has one past its end
pub at_replicate : {A : Type 0} (count n : ℕ) (x : A) → slice_index_or (replicate count x) n x ≡ x
at_replicate count n x = ⊎_elim
    (λ (inside : n < count). get_or-replicate count n x x inside)
    (λ (past : count ≤ n). get_or_past (replicate count x) n x
    (subst (λ (k : ℕ). k ≤ n) (sym (length-replicate count x)) past))
    (cases_lt n count)

-- where no node has anything
pub nothing_at : {D : Type 0} (nodes : List Node) (n : ℕ) (x : D) → value_at (nothing nodes) n ≡ Some x → ⊥
nothing_at nodes n x is = none-some x (sym (at_replicate (length nodes) n None) ∙ is)

-- one change more
pub Replays-more : {D : Type 0} (F : Framework D) (nodes : List Node) (before : List (Option D))
    (changes : List Change) (between : List (Option D)) (change : Change) (after : List (Option D)) →
    Replays F nodes before changes between → IsStep F nodes between change after →
    Replays F nodes before (changes ++ change ∷ []) after
Replays-more {D} F nodes before [] between change after replay step =
    (after, subst (λ (held : List (Option D)). IsStep F nodes held change after) replay step, refl)
Replays-more F nodes before (first ∷ changes) between change after replay step =
    (replay.0, replay.1, Replays-more F nodes replay.0 changes between change after replay.2 step)

-- what a change brings is in the carrier
pub brought_within : {D : Type 0} (F : Framework D) → IsMonotone F →
    (nodes : List Node) (held : List (Option D)) (n : ℕ) (from : Option ℕ) (x : D) → AllWithin F held →
    Brings F nodes held n from x → F.carrier x
brought_within F M nodes held n None x within brings = subst F.carrier (sym brings.1) M.start_within
brought_within F M nodes held n (Some from) x within brings = let y = brings.1.0 in
    subst F.carrier (sym brings.1.2) (M.transfer_within from y (within from y brings.1.1))

-- a change leaves all in the carrier
pub step_within : {D : Type 0} (F : Framework D) → IsMonotone F →
    (nodes : List Node) (before : List (Option D)) (change : Change) (after : List (Option D)) → AllWithin F before →
    IsStep F nodes before change after → AllWithin F after
step_within {D} F M nodes before change after within step =
    subst (λ (held : List (Option D)). AllWithin F held) (sym step.leaves)
    (raised_within F M before change.node step.brought step.inside within
    (brought_within F M nodes before change.node change.from step.brought within step.brings))

-- and leaves as many nodes
pub step_length : {D : Type 0} (F : Framework D) (nodes : List Node) (before : List (Option D)) (change : Change)
    (after : List (Option D)) → IsStep F nodes before change after → length after ≡ length before
step_length F nodes before change after step =
    ap length step.leaves ∙ length-set before change.node (Some (joined F (value_at before change.node) step.brought))

-- so does a replay
pub Replays-within : {D : Type 0} (F : Framework D) → IsMonotone F →
    (nodes : List Node) (before : List (Option D)) (changes : List Change) (after : List (Option D)) →
    AllWithin F before → Replays F nodes before changes after → AllWithin F after
Replays-within {D} F M nodes before [] after within replay =
    subst (λ (held : List (Option D)). AllWithin F held) (sym replay) within
Replays-within F M nodes before (change ∷ changes) after within replay =
    Replays-within F M nodes replay.0 changes after (step_within F M nodes before change replay.0 within replay.1)
    replay.2

-- from nothing all is in the carrier
pub replay_within : {D : Type 0} (F : Framework D) → IsMonotone F →
    (nodes : List Node) (changes : List Change) (after : List (Option D)) →
    Replays F nodes (nothing nodes) changes after → AllWithin F after
replay_within F M nodes changes after replay =
    Replays-within F M nodes (nothing nodes) changes after (λ n x is. absurd (nothing_at nodes n x is)) replay

-- what each node has lies below what the list has for it
abbrev pub AllBelow : {D : Type 0} → Framework D → List (Option D) → List D → Type 0
AllBelow {D} F held bound = (n : ℕ) (x y : D) → value_at held n ≡ Some x → slice_get bound n ≡ Some y → F.below x y

module _ {D : Type 0} (F : Framework D) (M : IsMonotone F) (nodes : List Node) (G : IsGraph nodes) (other : List D)
    (sol : IsSolution F nodes other) where
  -- what a change brings lies below each solution
  brought_below : (held : List (Option D)) (n : ℕ) (from : Option ℕ) (x y : D) → AllWithin F held →
      AllBelow F held other → Brings F nodes held n from x → slice_get other n ≡ Some y → F.below x y
  brought_below held n None x y within below brings is =
      subst (λ (z : D). F.below z y) (sym brings.1)
      (sol.starts y (subst (λ (k : ℕ). slice_get other k ≡ Some y) brings.0 is))
  brought_below held n (Some from) x y within below brings is =
      let z : D = brings.1.0 in
      let ends = edge_inside nodes G from n brings.0 in
      let bound = found-inside other from (subst (λ (k : ℕ). from < k) (sym sol.one_each) ends.0) in
      let w : D = bound.0 in
      let cz : F.carrier z = within from z brings.1.1 in
      let cw : F.carrier w = sol.within from w bound.1 in
      let up : F.below (F.transfer from z) (F.transfer from w) =
      M.monotone from z w cz cw (below from z w brings.1.1 bound.1) in
      subst (λ (v : D). F.below v y) (sym brings.1.2)
      (M.transitive (F.transfer from z) (F.transfer from w) y (M.transfer_within from z cz)
      (M.transfer_within from w cw) (sol.within n y is) up (sol.follows from n w y brings.0 bound.1 is))

  -- a change leaves all below the solution
  step_below : (before : List (Option D)) (change : Change) (after : List (Option D)) → AllWithin F before →
      AllBelow F before other → IsStep F nodes before change after → AllBelow F after other
  step_below before change after within below step =
      let to : ℕ = change.node in
      let x : D = step.brought in
      let cx : F.carrier x = brought_within F M nodes before to change.from x within step.brings in
      subst (λ (held : List (Option D)). AllBelow F held other) (sym step.leaves)
      (λ n v y has is. ⊎_elim
      (λ (same : n ≡ to).
      let here : value_at (raised_at F before to x) to ≡ Some v =
      subst (λ (k : ℕ). value_at (raised_at F before to x) k ≡ Some v) same has in
      let there : slice_get other to ≡ Some y = subst (λ (k : ℕ). slice_get other k ≡ Some y) same is in
      let joins : joined F (value_at before to) x ≡ v =
      same_Some (joined F (value_at before to) x) v (sym (raised_same F before to x step.inside) ∙ here) in
      subst (λ (z : D). F.below z y) joins
      (joined_below F M (value_at before to) x y (λ z had. (within to z had, below to z y had there)) cx
      (sol.within to y there) (brought_below before to change.from x y within below step.brings there)))
      (λ (apart : n ≢ to). below n v y (sym (raised_other F before to x n apart) ∙ has) is)
      (cases_eq n to))

  -- so does a replay
  Replays-below : (before : List (Option D)) (changes : List Change) (after : List (Option D)) → AllWithin F before →
      AllBelow F before other → Replays F nodes before changes after → AllBelow F after other
  Replays-below before [] after within below replay =
      subst (λ (held : List (Option D)). AllBelow F held other) (sym replay) below
  Replays-below before (change ∷ changes) after within below replay =
      Replays-below replay.0 changes after (step_within F M nodes before change replay.0 within replay.1)
      (step_below before change replay.0 within below replay.1) replay.2

  -- what a replay from nothing leads to lies below each solution
  pub replay_below : (changes : List Change) (after : List (Option D)) →
      Replays F nodes (nothing nodes) changes after → AllBelow F after other
  replay_below changes after replay =
      Replays-below (nothing nodes) changes after (λ n x is. absurd (nothing_at nodes n x is))
      (λ n x y has is. absurd (nothing_at nodes n x has)) replay
