-- The way of the path that one of the runs stands for, without that path.
use Rattle.std.proofs.Common.{◌≡◌, ℕ, zero, suc, ◌+◌, ◌-◌, ◌<◌, ◌≤◌, ⊎_elim, List, [], ◌∷◌, ◌++◌, length, take, reverse, get_or, Option, Some, None, refl, ap, sym, ◌∙◌, subst, arith}
use Rattle.std.specs.Prelude.{slice_get, Ok}
use Rattle.std.specs.Option.{option_to_list}
use Rattle.std.proofs.lemmas.Grind.{common_steps}
use Rattle.transition_spec.specs.declared.way.Way.{Way}
use Rattle.transition_spec.specs.Path.{IsPath, IsSuccessor, IsLetter, HasChoices}
use Rattle.path_model.specs.declared.graph.Node.{Node}
use Rattle.path_model.specs.Graph.{graph_step, successors}
use Rattle.path_model.proofs.Reached.{successor_inside}
use Rattle.path_model.proofs.Turned.{reverse-more}
use Rattle.line_blocks.specs.Runs.{Runs, AreRuns, IsPassed, IsPassedBy, head_of, last_of}
use Rattle.line_blocks.specs.Expand.{IsWalk, next_in}
use Rattle.line_blocks.specs.Ways.{IsWayFor, IsLast, HasMoves, AllMoveOn, after_moves}
use Rattle.line_blocks.proofs.Edges.{AreMade, next_of, letter_back}
use Rattle.line_blocks.proofs.Walks.{base}
use Rattle.line_blocks.proofs.Trips.{IsOnWay, IsTrip, begins, way_next, trip_first, trip_on, edge_at, run_at, expanded_by}

-- the members of a path after this many moves from the node
members_after : List Node → ℕ → List ℕ → ℕ → List ℕ
members_after nodes n whole zero = whole
members_after nodes n whole (suc count) = after_moves nodes n (suc count) ∷ members_after nodes n whole count

-- it is longer by so much
length-members_after : (nodes : List Node) (n : ℕ) (whole : List ℕ) (count : ℕ)
    → length (members_after nodes n whole count) ≡ length whole + count
unfolding members_after
length-members_after nodes n whole zero = omega arith
length-members_after nodes n whole (suc count) = omega (arith, length-members_after nodes n whole count)

-- a walk of the whole graph for a path of the runs, with the same choices, and the number of its members
pub record IsNamed (r : Runs) (path : List ℕ) (steps : ℕ) : Type 0 where
  pub whole : List ℕ
  pub trip : IsTrip r path whole
  pub choices : (letters : List ℕ) → HasChoices (graph_step r.small) path letters
      → HasChoices (graph_step r.nodes) whole letters
  pub as_long : steps ≡ length whole

-- each node but the last of a run moves on within it
pub all_move_on : (r : Runs) → AreMade r → AllMoveOn r.nodes r.numbers r.runs
all_move_on r are n inside other =
    let next = next_of r are n inside other in
    (next.inner.3, successor_inside r.nodes n (next_in (slice_get r.nodes n)) are.whole next.edge)

module _ (r : Runs) (are : AreRuns r) where
  -- the one successor takes no letter
  passed_letter : (n m : ℕ) (first second : Option ℕ) → IsPassedBy r.nodes r.shape r.numbers r.runs n first second
      → IsLetter {C = ℕ} {F = Unit {0}} (Ok (option_to_list first ++ option_to_list second)) m []
  passed_letter n m None second passed = absurd passed
  passed_letter n m (Some to) None passed = refl
  passed_letter n m (Some to) (Some other) passed = absurd passed

  letter_from : (n m : ℕ) (o : Option Node) → IsPassed r.nodes r.shape r.numbers r.runs n o
      → IsLetter (successors o) m []
  letter_from n m None passed = absurd passed
  letter_from n m (Some node) passed = passed_letter n m node.first node.second passed

  -- so a move within a run takes none
  no_letter : (n m : ℕ) → n < length r.nodes → (IsLast r.numbers r.runs n → ⊥)
      → IsLetter (graph_step r.nodes n) m []
  no_letter n m inside other = ⊎_elim
      (λ (last : IsLast r.numbers r.runs n). absurd (other last))
      (λ (passed : IsPassed r.nodes r.shape r.numbers r.runs n (slice_get r.nodes n)).
      letter_from n m (slice_get r.nodes n) passed)
      (are.plan.1 n inside).1

  -- no node is the last of a run before this many moves from the first node of the run
  abbrev GoesOn : ℕ → ℕ → Type 0
  GoesOn p count = (k : ℕ) → k < count → IsLast r.numbers r.runs (after_moves r.nodes (head_of r.runs p) k) → ⊥

  -- then a path goes on within the run
  on_way : (p count : ℕ) (whole : List ℕ) → p < length r.runs → GoesOn p count
      → IsOnWay r p whole (after_moves r.nodes (head_of r.runs p) count)
      (members_after r.nodes (head_of r.runs p) whole count)
  unfolding members_after
  on_way p zero whole inside on = record {
    own = (are.plan.2 p inside).1;
    inside = (are.plan.2 p inside).0;
    walk = λ other walk. walk;
  }
  on_way p (suc count) whole inside on =
      let at : ℕ = after_moves r.nodes (head_of r.runs p) count in
      let way = on_way p count whole inside (λ k less. on k (omega (arith, less))) in
      let less : count < suc count = omega arith in
      way_next r are p whole at (members_after r.nodes (head_of r.runs p) whole count)
      (λ is. on count less (ap (last_of r.runs) way.own ∙ sym is)) way

  -- and takes no letter
  same_choices : (p count : ℕ) (whole letters other : List ℕ) → p < length r.runs → GoesOn p count
      → IsWalk r (head_of r.runs p) whole other → HasChoices (graph_step r.nodes) whole letters
      → HasChoices (graph_step r.nodes) (members_after r.nodes (head_of r.runs p) whole count) letters
  unfolding members_after
  same_choices p zero whole letters other inside on walk has = has
  same_choices p (suc count) whole letters other inside on walk has =
      let at : ℕ = after_moves r.nodes (head_of r.runs p) count in
      let next : ℕ = next_in (slice_get r.nodes at) in
      let sooner : GoesOn p count = λ k less. on k (omega (arith, less)) in
      let members : List ℕ = members_after r.nodes (head_of r.runs p) whole count in
      let way = on_way p count whole inside sooner in
      let here = way.walk other walk in
      let less : count < suc count = omega arith in
      let before : HasChoices (graph_step r.nodes) members letters =
      same_choices p count whole letters other inside sooner walk has in
      subst (λ (xs : List ℕ). HasChoices (graph_step r.nodes) (next ∷ xs) letters) (sym here.1) (
        letters,
        [],
        subst (λ (xs : List ℕ). HasChoices (graph_step r.nodes) xs letters) here.1 before,
        no_letter at next way.inside (on count less),
        grind (arith, common_steps),
      )

  -- the walk of run 0
  pub named_first : (path : List ℕ) → IsPath (graph_step r.small) 0 (reverse path) → IsNamed r (reverse (take 1 path)) 1
  named_first path path_is =
      let trip : IsTrip r (reverse (take 1 path)) (head_of r.runs 0 ∷ []) =
      trip_first r are path (head_of r.runs 0 ∷ []) path_is refl in
      let first = begins r are path path_is in
      record {
        whole = head_of r.runs 0 ∷ [];
        trip = trip;
        choices = λ letters has.
            subst (λ (xs : List ℕ). HasChoices (graph_step r.small) (reverse (take 1 xs)) letters) first.1 has;
        as_long = refl;
      }

  -- the members of a path after the moves from the first node of a run to its last one
  abbrev after_run : ℕ → List ℕ → ℕ → List ℕ
  after_run p whole moves = members_after r.nodes (head_of r.runs p) whole moves

  -- the moves within the run
  abbrev IsCount : ℕ → ℕ → Type 0
  IsCount p moves = HasMoves r.nodes r.numbers r.runs (head_of r.runs p) moves

  -- then the path has come to the last node
  walk_over : (p moves : ℕ) (whole : List ℕ) → p < length r.runs → IsCount p moves → (other : List ℕ)
      → IsWalk r (head_of r.runs p) whole other → IsWalk r (last_of r.runs p) (after_run p whole moves) other
  walk_over p moves whole inside has other walk =
      let way = on_way p moves whole inside has.sooner in
      subst (λ (n : ℕ). IsWalk r n (after_run p whole moves) other) (sym has.last ∙ ap (last_of r.runs) way.own)
      (way.walk other walk)

  -- and the move to the next run takes the letter of the move between the runs
  choices_over : (p q moves : ℕ) (whole letters letter further other : List ℕ) → p < length r.runs → IsCount p moves
      → IsSuccessor (graph_step r.small) p q → IsWalk r (head_of r.runs p) whole other
      → HasChoices (graph_step r.nodes) whole letters → IsLetter (graph_step r.small p) q letter
      → further ≡ letters ++ letter → HasChoices (graph_step r.nodes) (head_of r.runs q ∷ after_run p whole moves) further
  choices_over p q moves whole letters letter further other inside has edge walk choices letter_is further_is =
      let last : ℕ = last_of r.runs p in
      let next : ℕ = head_of r.runs q in
      let there = walk_over p moves whole inside has other walk in
      let earlier : List ℕ = there.0 in
      let is : after_run p whole moves ≡ last ∷ earlier = there.1 in
      let before : HasChoices (graph_step r.nodes) (after_run p whole moves) letters =
      same_choices p moves whole letters other inside has.sooner walk choices in
      let all : HasChoices (graph_step r.nodes) (next ∷ last ∷ earlier) further = (
        letters,
        letter,
        subst (λ (xs : List ℕ). HasChoices (graph_step r.nodes) xs letters) is before,
        letter_back r (base r are) p q letter edge letter_is,
        further_is,
      ) in
      subst (λ (xs : List ℕ). HasChoices (graph_step r.nodes) (next ∷ xs) further)
      (sym {a = after_run p whole moves} {b = last ∷ earlier} is) all

  -- a walk with one run more
  pub named_more : (path : List ℕ) (i steps moves more : ℕ) → 1 ≤ i → i < length path
      → IsPath (graph_step r.small) 0 (reverse path) → IsCount (get_or path (i - 1) 0) moves
      → more ≡ steps + moves + 1 → IsNamed r (reverse (take i path)) steps → IsNamed r (reverse (take (i + 1) path)) more
  named_more path i steps moves more some below path_is has more_is named =
      let k : ℕ = i - 1 in
      let p : ℕ = get_or path k 0 in
      let q : ℕ = get_or path i 0 in
      let same : k + 1 ≡ i = omega (arith, some) in
      let inside : p < length r.runs = run_at r are path i some below path_is in
      let split : reverse (take i path) ≡ p ∷ reverse (take k path) =
      subst (λ (j : ℕ). reverse (take j path) ≡ p ∷ reverse (take k path)) same
      (reverse-more path k 0 (omega (arith, same, below))) in
      let longer : reverse (take (i + 1) path) ≡ q ∷ p ∷ reverse (take k path) =
      reverse-more path i 0 below ∙ ap (λ (xs : List ℕ). q ∷ xs) split in
      let run_is : named.trip.last ≡ p = cc (named.trip.path_is, split) in
      let walk : IsWalk r (head_of r.runs p) named.whole named.trip.others =
      subst (λ (j : ℕ). IsWalk r (head_of r.runs j) named.whole named.trip.others) run_is named.trip.walk in
      let after : List ℕ = after_run p named.whole moves in
      let edge = edge_at r are path i some below path_is in
      record {
        whole = head_of r.runs q ∷ after;
        trip = trip_on r are path i named.whole after (head_of r.runs q ∷ after) some below path_is
            (walk_over p moves named.whole inside has) refl named.trip;
        choices = λ further choices.
            let (letters, letter, before, letter_is, further_is) =
            subst (λ (xs : List ℕ). HasChoices (graph_step r.small) xs further) longer choices in
            choices_over p q moves named.whole letters letter further named.trip.others inside has edge walk
            (named.choices letters (subst (λ (xs : List ℕ). HasChoices (graph_step r.small) xs letters) (sym split) before))
            letter_is further_is;
        as_long = omega (arith, more_is, named.as_long, length-members_after r.nodes (head_of r.runs p) named.whole moves);
      }

  -- the walk is named by its way
  pub way_for : (path : List ℕ) (way : Way) → IsNamed r path way.steps
      → HasChoices (graph_step r.small) path way.choices → IsWayFor r path way
  way_for path way named choices = (
    named.whole,
    expanded_by r are path named.whole named.trip,
    record { steps = named.as_long; choices = named.choices way.choices choices },
  )
