-- What follows from a replay, change by change.
use Rattle.std.proofs.Common.{◌≡◌, ◌≢◌, ℕ, zero, suc, take, drop, List, [], ◌∷◌, ◌++◌, map, Option, Some, None, refl, sym, ◌∙◌, ap, subst, ⊎_elim}
use Rattle.std.specs.Prelude.{slice_get}
use Rattle.std.proofs.lemmas.Option.{same_Some, none-some}
use Rattle.std.proofs.lemmas.Bool.{cases_eq}
use Rattle.transition_spec.specs.Path.{IsSuccessor}
use Rattle.path_model.specs.declared.graph.Node.{Node}
use Rattle.path_model.specs.Graph.{graph_step}
use Rattle.lattice_fix.specs.declared.change.Change.{Change}
use Rattle.lattice_fix.specs.Framework.{Framework, IsMonotone}
use Rattle.lattice_fix.specs.Replay.{value_at, Brings, joined, IsStep, Replays, nothing}
use Rattle.lattice_fix.proofs.Joined.{AllWithin, raised_at, raised_same, raised_other}
use Rattle.lattice_fix.proofs.Steps.{brought_within, step_within, nothing_at}
use Rattle.lattice_fix.proofs.Filled.{value_at-filled}

-- a replay of changes after one another goes through what the first lead to
pub Replays-split : {D : Type 0} (F : Framework D) (nodes : List Node) (before : List (Option D))
    (first second : List Change) (after : List (Option D)) →
    Replays F nodes before (first ++ second) after →
    (between : List (Option D)) × Replays F nodes before first between × Replays F nodes between second after
Replays-split F nodes before [] second after replay = (before, refl, replay)
Replays-split F nodes before (change ∷ first) second after replay =
    let rest = Replays-split F nodes replay.0 first second after replay.2 in
    (rest.0, (replay.0, replay.1, rest.1), rest.2)

-- a change of a replay is made between what those before it lead to and what those after it begin with
pub Replays-at : {D : Type 0} (F : Framework D) (nodes : List Node) (before : List (Option D)) (changes : List Change)
    (after : List (Option D)) (i : ℕ) (change : Change) →
    Replays F nodes before changes after → slice_get changes i ≡ Some change
    → (held : List (Option D)) × (then : List (Option D)) × Replays F nodes before (take i changes) held
    × IsStep F nodes held change then × Replays F nodes then (drop (suc i) changes) after
Replays-at F nodes before [] after i change replay found = absurd (none-some change found)
Replays-at {D} F nodes before (first ∷ changes) after zero change replay found =
    let step = subst (λ (c : Change). IsStep F nodes before c replay.0) (same_Some first change found) replay.1 in
    (before, replay.0, refl, step, replay.2)
Replays-at F nodes before (first ∷ changes) after (suc i) change replay found =
    let rest = Replays-at F nodes replay.0 changes after i change replay.2 found in
    (rest.0, rest.1, (replay.0, replay.1, rest.2), rest.3, rest.4)

-- a change brings one thing
brought_same : {D : Type 0} (F : Framework D) (nodes : List Node) (held : List (Option D)) (n : ℕ) (from : Option ℕ)
    (x y : D) → Brings F nodes held n from x → Brings F nodes held n from y → x ≡ y
brought_same F nodes held n None x y one two = one.1 ∙ sym two.1
brought_same F nodes held n (Some from) x y one two =
    one.1.2 ∙ (ap (F.transfer from) (same_Some one.1.0 two.1.0 (sym one.1.1 ∙ two.1.1)) ∙ sym two.1.2)

-- so one change leads to one end
step_same : {D : Type 0} (F : Framework D) (nodes : List Node) (before : List (Option D)) (change : Change)
    (one two : List (Option D)) → IsStep F nodes before change one → IsStep F nodes before change two → one ≡ two
step_same F nodes before change one two a b =
    a.leaves
    ∙ (ap (λ x. raised_at F before change.node x)
    (brought_same F nodes before change.node change.from a.brought b.brought a.brings b.brings) ∙ sym b.leaves)

-- changes lead to one end
pub Replays-same : {D : Type 0} (F : Framework D) (nodes : List Node) (before : List (Option D))
    (changes : List Change) (one two : List (Option D)) →
    Replays F nodes before changes one → Replays F nodes before changes two → one ≡ two
Replays-same F nodes before [] one two a b = a ∙ sym b
Replays-same {D} F nodes before (change ∷ changes) one two a b =
    let same : a.0 ≡ b.0 = step_same F nodes before change a.0 b.0 a.1 b.1 in
    Replays-same F nodes b.0 changes one two
    (subst (λ (held : List (Option D)). Replays F nodes held changes one) same a.2) b.2

module _ {D : Type 0} (F : Framework D) (M : IsMonotone F) (nodes : List Node) (P : ℕ → D → Type 0)
    (start : P 0 F.start)
    (moves : (n m : ℕ) (x : D) → IsSuccessor (graph_step nodes) n m → F.carrier x → P n x → P m (F.transfer n x))
    (joins : (m : ℕ) (x y : D) → F.carrier x → F.carrier y → P m x → P m y → P m (F.join x y)) where
  -- the fact holds of what each node has
  abbrev AllHave : List (Option D) → Type 0
  AllHave held = (n : ℕ) (x : D) → value_at held n ≡ Some x → P n x

  -- it holds of what a change brings
  brought_has : (held : List (Option D)) (n : ℕ) (from : Option ℕ) (x : D) → AllWithin F held → AllHave held →
      Brings F nodes held n from x → P n x
  brought_has held n None x within have brings =
      subst (λ (k : ℕ). P k x) (sym brings.0) (subst (P 0) (sym brings.1) start)
  brought_has held n (Some from) x within have brings = let y : D = brings.1.0 in
      subst (P n) (sym brings.1.2) (moves from n y brings.0 (within from y brings.1.1) (have from y brings.1.1))

  -- and of what is joined
  joined_has : (o : Option D) (n : ℕ) (x : D) → ((y : D) → o ≡ Some y → F.carrier y × P n y) → F.carrier x → P n x →
      P n (joined F o x)
  joined_has None n x had carrier has = has
  joined_has (Some y) n x had carrier has = let h = had y refl in joins n y x h.0 carrier h.1 has

  -- so a change keeps it
  step_has : (before : List (Option D)) (change : Change) (after : List (Option D)) → AllWithin F before →
      AllHave before → IsStep F nodes before change after → AllHave after
  step_has before change after within have step =
      let to : ℕ = change.node in
      let x : D = step.brought in
      let top : D = joined F (value_at before to) x in
      subst AllHave (sym step.leaves)
      (λ n y is. ⊎_elim
      (λ (same : n ≡ to).
      let here : value_at (raised_at F before to x) to ≡ Some y =
      subst (λ (k : ℕ). value_at (raised_at F before to x) k ≡ Some y) same is in
      let has : P to top =
      joined_has (value_at before to) to x (λ z had. (within to z had, have to z had))
      (brought_within F M nodes before to change.from x within step.brings)
      (brought_has before to change.from x within have step.brings) in
      subst (λ (k : ℕ). P k y) (sym same)
      (subst (P to) (same_Some top y (sym (raised_same F before to x step.inside) ∙ here)) has))
      (λ (other : n ≢ to). have n y (sym (raised_other F before to x n other) ∙ is))
      (cases_eq n to))

  -- and a replay does
  Replays-have : (before : List (Option D)) (changes : List Change) (after : List (Option D)) → AllWithin F before →
      AllHave before → Replays F nodes before changes after → AllHave after
  Replays-have before [] after within have replay = subst AllHave (sym replay) have
  Replays-have before (change ∷ changes) after within have replay =
      Replays-have replay.0 changes after (step_within F M nodes before change replay.0 within replay.1)
      (step_has before change replay.0 within have replay.1) replay.2

  -- what holds of the start, and stays so along each edge and at each join, holds before each node
  pub replay_induction : (changes : List Change) (before : List D) →
      Replays F nodes (nothing nodes) changes (map Some before) → (n : ℕ) (x : D) → slice_get before n ≡ Some x → P n x
  replay_induction changes before replay n x is =
      Replays-have (nothing nodes) changes (map Some before) (λ k y has. absurd (nothing_at nodes k y has))
      (λ k y has. absurd (nothing_at nodes k y has)) replay n x (value_at-filled before n ∙ is)
