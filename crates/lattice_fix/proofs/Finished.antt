-- Where no node waits, the values are the least solution.
use Rattle.std.proofs.Common.{◌≡◌, ◌≢◌, ℕ, suc, zero, ◌+◌, ◌<◌, ◌≤◌, Bool, List, length, map, Option, Some, None, refl, sym, ◌∙◌, ap, subst, arith, ⊎_elim}
use Rattle.std.specs.Prelude.{slice_get}
use Rattle.std.specs.List.{All}
use Rattle.std.specs.Option.{option_map}
use Rattle.std.proofs.lemmas.Option.{same_Some, none-some}
use Rattle.std.proofs.lemmas.Bool.{cases_eq}
use Rattle.std.proofs.lemmas.List.{length-map}
use Rattle.transition_spec.specs.Path.{IsSuccessor}
use Rattle.path_model.specs.declared.graph.Node.{Node}
use Rattle.path_model.specs.Graph.{graph_step}
use Rattle.lattice_fix.specs.declared.change.Change.{Change}
use Rattle.lattice_fix.specs.Framework.{Framework, IsMonotone}
use Rattle.lattice_fix.specs.Solution.{IsSolution, IsLeast}
use Rattle.lattice_fix.specs.Replay.{value_at, Replays, nothing}
use Rattle.lattice_fix.specs.Solved.{somes}
use Rattle.lattice_fix.specs.Course.{IsCourse, IsSettled, IsMet, data_of}
use Rattle.lattice_fix.specs.Waits.{IsDone}
use Rattle.lattice_fix.proofs.Edges.{edge_inside}
use Rattle.lattice_fix.proofs.Steps.{replay_within, replay_below}
use Rattle.lattice_fix.proofs.Filled.{somes-filled, length-somes, value_at-filled, data_of-filled, map-filled, All-filled}
use Rattle.lattice_fix.proofs.Later.{data_at}

-- what stands for something is there
mapped : {V D : Type 0} (f : V → D) (o : Option V) (x : D) → option_map f o ≡ Some x → (v : V) × (o ≡ Some v)
mapped f None x is = absurd (none-some x is)
mapped f (Some v) x is = (v, refl)

-- the values are the least solution, and the changes replay to it
pub record IsFinished {V D : Type 0} (F : Framework D) (fits : V → Type 0) (stands : V → D) (nodes : List Node)
    (values : List (Option V)) (changes : List Change) : Type 0 where
  pub filled : map Some (somes values) ≡ values
  pub one_each : length (somes values) ≡ length nodes
  pub least : IsLeast F nodes (map stands (somes values))
  pub all_fit : All fits (somes values)
  pub replay : Replays F nodes (nothing nodes) changes (map Some (map stands (somes values)))

module _ {V D : Type 0} (F : Framework D) (M : IsMonotone F) (fits : V → Type 0) (stands : V → D) (nodes : List Node)
    (values : List (Option V)) (changes : List Change) (waiting : List Bool)
    (course : IsCourse F fits stands nodes values changes waiting)
    (settled : IsSettled F nodes (data_of stands values) waiting) (done : (n : ℕ) → IsDone waiting n) where
  -- each edge is met
  met : (n m : ℕ) → IsSuccessor (graph_step nodes) n m → IsMet F (data_of stands values) n m
  met n m edge = settled n m edge (done n)

  -- each node has a value, since it follows one with a smaller number
  has_below : (bound n : ℕ) → n < bound → n < length nodes → (x : D) × (value_at (data_of stands values) n ≡ Some x)
  has_below zero n small inside = absurd (omega arith)
  has_below (suc bound) n small inside = ⊎_elim
      (λ (same : n ≡ 0). (
        course.begun.0,
        subst (λ (k : ℕ). value_at (data_of stands values) k ≡ Some course.begun.0) (sym same) course.begun.1,
      ))
      (λ (other : n ≢ 0).
      let first : 1 ≤ n = omega arith in
      let before = course.graph.reached n first inside in
      let smaller : before.0 < bound = omega (arith, before.1) in
      let has = has_below bound before.0 smaller (edge_inside nodes course.graph before.0 n before.2).0 in
      let then = met before.0 n before.2 has.0 has.1 in
      (then.0, then.1))
      (cases_eq n 0)

  -- so each slot has a value
  has : (n : ℕ) → n < length values → (v : V) × (value_at values n ≡ Some v)
  has n inside =
      let small : n < n + 1 = omega arith in
      let x = has_below (n + 1) n small (subst (λ (k : ℕ). n < k) course.one_each inside) in
      mapped stands (value_at values n) x.0 (sym (data_at stands values n) ∙ x.1)

  -- each slot is filled
  filled : map Some (somes values) ≡ values
  filled = somes-filled values has

  -- there is one for each node
  as_many : length (somes values) ≡ length nodes
  as_many = length-somes values filled ∙ course.one_each

  -- what the values stand for
  abbrev pub before : List D
  before = map stands (somes values)

  -- what the slots stand for, filled
  same : map Some before ≡ data_of stands values
  same = map-filled stands (somes values) ∙ (sym (data_of-filled stands (somes values)) ∙ ap (data_of stands) filled)

  -- the data of a node are those of its slot
  at : (n : ℕ) (x : D) → slice_get before n ≡ Some x → value_at (data_of stands values) n ≡ Some x
  at n x is = ap (λ (w : List (Option D)). value_at w n) (sym same) ∙ (value_at-filled before n ∙ is)

  -- they are a solution
  solution : IsSolution F nodes before
  solution = record {
    one_each = length-map (somes values) stands ∙ as_many;
    within = λ n x is. replay_within F M nodes changes (data_of stands values) course.replay n x (at n x is);
    starts = λ x is.
        let same : course.begun.0 ≡ x = same_Some course.begun.0 x (sym course.begun.1 ∙ at 0 x is) in
        subst (λ (y : D). F.below F.start y) same course.begun.2;
    follows = λ n m x y edge is_x is_y.
        let then = met n m edge x (at n x is_x) in
        subst (λ (z : D). F.below (F.transfer n x) z) (same_Some then.0 y (sym then.1 ∙ at m y is_y)) then.2;
  }

  -- the least, since a replay stays below each solution
  least : IsLeast F nodes before
  least = record {
    solution = solution;
    least = λ other sol n x y is_x is_y.
        replay_below F M nodes course.graph other sol changes (data_of stands values) course.replay n x y
        (at n x is_x) is_y;
  }

  -- the values are fit
  all_fit : All fits (somes values)
  all_fit = All-filled fits (somes values) (λ n v is.
      let slots = ap (λ (w : List (Option V)). value_at w n) (sym filled) in
      course.fit n v (slots ∙ (value_at-filled (somes values) n ∙ is)))

  -- and the changes replay to what they stand for
  replays : Replays F nodes (nothing nodes) changes (map Some before)
  replays = subst (λ (w : List (Option D)). Replays F nodes (nothing nodes) changes w) (sym same) course.replay

  -- so the solver has finished
  pub finished : IsFinished F fits stands nodes values changes
  finished = record { filled = filled; one_each = as_many; least = least; all_fit = all_fit; replay = replays }
