-- What is left once a value came along an edge.
use Rattle.std.proofs.Common.{◌≡◌, ◌≢◌, ℕ, ◌<◌, ◌≤◌, ◌⊎◌, Bool, true, false, List, [], ◌∷◌, length, slice_set, Option, Some, None, sym, ◌∙◌, ap, subst, arith, get_or-set_same, get_or-set_other, ⊎_elim}
use Rattle.std.specs.Option.{option_map}
use Rattle.std.proofs.lemmas.Option.{same_Some}
use Rattle.std.proofs.lemmas.Bool.{cases_eq, cases_Bool}
use Rattle.std.proofs.lemmas.List.{length-set, length-map, length-append, map-set, set-get_or}
use Rattle.transition_spec.specs.Path.{IsSuccessor}
use Rattle.path_model.specs.declared.graph.Node.{Node}
use Rattle.path_model.specs.Graph.{graph_step}
use Rattle.lattice_fix.specs.declared.change.Change.{Change}
use Rattle.lattice_fix.specs.Framework.{Framework, IsMonotone}
use Rattle.lattice_fix.specs.Replay.{value_at, joined, Raises, Replays, nothing}
use Rattle.lattice_fix.specs.Course.{IsCourse, IsClear, IsMoved, IsReceived, IsNoted, IsProgress, data_of}
use Rattle.lattice_fix.proofs.Joined.{AllWithin, raised_at, joined_within, raised_same, raised_other, had_below_joined, below_joined, clear_kept, clear_came}
use Rattle.lattice_fix.proofs.Edges.{have_slots}
use Rattle.lattice_fix.proofs.Steps.{Replays-more, replay_within}
use Rattle.lattice_fix.proofs.Later.{data_at}

module _ {V D : Type 0} (F : Framework D) (M : IsMonotone F) (fits : V → Type 0) (stands : V → D)
    (nodes : List Node) where
  -- one more value that fits
  put_fits : (values : List (Option V)) (to : ℕ) (v : V) → to < length values → fits v →
      ((n : ℕ) (w : V) → value_at values n ≡ Some w → fits w) →
      (n : ℕ) (w : V) → value_at (slice_set values to (Some v)) n ≡ Some w → fits w
  put_fits values to v inside fv fit n w is = ⊎_elim
      (λ (same : n ≡ to).
      let here : value_at (slice_set values to (Some v)) to ≡ Some w =
      subst (λ (k : ℕ). value_at (slice_set values to (Some v)) k ≡ Some w) same is in
      subst fits (same_Some v w (sym (get_or-set_same values to (Some v) None inside) ∙ here)) fv)
      (λ (other : n ≢ to). fit n w (sym (get_or-set_other values to n (Some v) None other) ∙ is))
      (cases_eq n to)

  -- node 0 keeps at least the start
  begun_kept : (held : List (Option D)) (to : ℕ) (x : D) → to < length held → AllWithin F held → F.carrier x →
      ((y : D) × (value_at held 0 ≡ Some y) × F.below F.start y) →
      (y : D) × (value_at (raised_at F held to x) 0 ≡ Some y) × F.below F.start y
  begun_kept held to x inside within cx begun = ⊎_elim
      (λ (same : 0 ≡ to).
      let was : value_at held to ≡ Some begun.0 = subst (λ (k : ℕ). value_at held k ≡ Some begun.0) same begun.1 in
      let top : D = joined F (value_at held to) x in (
        top,
        subst (λ (k : ℕ). value_at (raised_at F held to x) k ≡ Some top) (sym same) (raised_same F held to x inside),
        M.transitive F.start begun.0 top M.start_within (within to begun.0 was)
            (joined_within F M (value_at held to) x (within to) cx) begun.2
            (had_below_joined F M (value_at held to) x begun.0 (within to) cx was),
      ))
      (λ (other : 0 ≢ to). (begun.0, raised_other F held to x 0 other ∙ begun.1, begun.2))
      (cases_eq 0 to)

  module _ (values : List (Option V)) (changes : List Change) (waiting : List Bool)
      (course : IsCourse F fits stands nodes values changes waiting)
      (from to : ℕ) (edge : IsSuccessor (graph_step nodes) from to)
      (moved : V) (is : IsMoved F fits stands values from moved)
      (raised : Bool) (slot : Option V) (got : IsReceived F fits stands (value_at values to) moved raised slot)
      (new : List Change) (waits : List Bool) (noted : IsNoted raised from to changes waiting new waits) where
    -- what the nodes had
    abbrev pub held : List (Option D)
    held = data_of stands values

    -- the slots afterwards
    abbrev pub after : List (Option V)
    after = slice_set values to slot

    -- all was in the carrier
    within : AllWithin F held
    within = replay_within F M nodes changes held course.replay

    -- the slot is there
    inside : to < length values
    inside = (have_slots course from to edge).to

    -- and what it stands for
    inside_held : to < length held
    inside_held = subst (λ (k : ℕ). to < k) (sym (length-map values (option_map stands))) inside

    -- and its flag
    flagged : to < length waiting
    flagged = (have_slots course from to edge).flag

    -- what came
    abbrev pub x : D
    x = stands moved

    -- the node before has what was moved
    had : value_at held from ≡ Some (stands is.value)
    had = data_at stands values from ∙ ap (option_map stands) is.held

    -- what came is in the carrier
    carrier : F.carrier x
    carrier =
        subst F.carrier (sym is.same) (M.transfer_within from (stands is.value) (within from (stands is.value) had))

    -- what the slots then stand for
    put : data_of stands after ≡ raised_at F held to x
    put = ap (λ (o : Option V). data_of stands (slice_set values to o)) got.held
        ∙ (map-set (option_map stands) values to (Some got.value)
        ∙ ap (λ (y : D). slice_set held to (Some y))
        (got.same ∙ ap (λ (o : Option D). joined F o x) (sym (data_at stands values to))))

    -- the values are fit afterwards
    fit_after : (n : ℕ) (w : V) → value_at after n ≡ Some w → fits w
    fit_after = subst (λ (o : Option V). (n : ℕ) (w : V) → value_at (slice_set values to o) n ≡ Some w → fits w)
        (sym got.held) (put_fits values to got.value inside got.fit course.fit)

    -- node 0 still has at least the start
    begun_after : (y : D) × (value_at (data_of stands after) 0 ≡ Some y) × F.below F.start y
    begun_after = subst (λ (w : List (Option D)). (y : D) × (value_at w 0 ≡ Some y) × F.below F.start y) (sym put)
        (begun_kept held to x inside_held within carrier course.begun)

    -- where nothing was raised the slots stand for what they stood for
    same_data : raised ≡ false → data_of stands after ≡ held
    same_data off =
        map-set (option_map stands) values to slot
        ∙ (ap (λ (o : Option D). slice_set held to o) (got.keeps off ∙ sym (data_at stands values to))
        ∙ set-get_or held to None)

    -- the changes replay to what the slots then stand for
    replay_after : raised ≡ true ⊎ raised ≡ false → Replays F nodes (nothing nodes) new (data_of stands after)
    replay_after which = ⊎_elim
        (λ (on : raised ≡ true).
        let more = Replays-more F nodes (nothing nodes) changes held (record { node = to; from = Some from })
        (data_of stands after) course.replay
        (record {
          brought = x;
          inside = inside_held;
          brings = (edge, (stands is.value, had, is.same));
          raises = subst (λ (o : Option D). Raises F o x) (sym (data_at stands values to)) (got.raises on);
          leaves = put;
        }) in
        subst (λ (c : List Change). Replays F nodes (nothing nodes) c (data_of stands after)) (sym (noted.raise on).0)
        more)
        (λ (off : raised ≡ false).
        subst (λ (c : List Change). Replays F nodes (nothing nodes) c (data_of stands after)) (sym (noted.none off).0)
        (subst (λ (w : List (Option D)). Replays F nodes (nothing nodes) changes w) (sym (same_data off))
        course.replay))
        which

    -- there are as many flags
    flags_after : raised ≡ true ⊎ raised ≡ false → length waits ≡ length nodes
    flags_after which = ⊎_elim
        (λ (on : raised ≡ true). ap length (noted.raise on).1 ∙ (length-set waiting to true ∙ course.one_flag_each))
        (λ (off : raised ≡ false). ap length (noted.none off).1 ∙ course.one_flag_each)
        which

    -- it was raised or not
    cases : raised ≡ true ⊎ raised ≡ false
    cases = cases_Bool raised

    -- the course goes on
    pub course_carried : IsCourse F fits stands nodes after new waits
    course_carried = record {
      graph = course.graph;
      one_each = length-set values to slot ∙ course.one_each;
      one_flag_each = flags_after cases;
      fit = fit_after;
      begun = begun_after;
      replay = replay_after cases;
    }

    -- what came lies below what the node then has
    came_below : raised ≡ false → IsClear F held waiting from to
    came_below off done z is_z =
        let same : stands is.value ≡ z = same_Some (stands is.value) z (sym had ∙ is_z) in
        let kept : value_at held to ≡ Some (stands got.value) =
        data_at stands values to ∙ (sym (got.keeps off) ∙ ap (option_map stands) got.held) in
        let up : F.below x (stands got.value) = subst (λ (y : D). F.below x y) (sym got.same)
        (below_joined F M (option_map stands (value_at values to)) x
        (λ y was. within to y (data_at stands values to ∙ was)) carrier) in (
          stands got.value,
          kept,
          subst (λ (y : D). F.below y (stands got.value)) (is.same ∙ ap (λ (q : D). F.transfer from q) same) up,
        )

    -- the edge is clear
    pub clear_carried : IsClear F (data_of stands after) waits from to
    clear_carried = ⊎_elim
        (λ (on : raised ≡ true).
        subst (λ (b : List Bool). IsClear F (data_of stands after) b from to) (sym (noted.raise on).1)
        (subst (λ (w : List (Option D)). IsClear F w (slice_set waiting to true) from to) (sym put)
        (subst (λ (y : D). IsClear F (raised_at F held to y) (slice_set waiting to true) from to) (sym is.same)
        (clear_came F M held waiting from to (stands is.value) inside_held flagged within had))))
        (λ (off : raised ≡ false).
        subst (λ (b : List Bool). IsClear F (data_of stands after) b from to) (sym (noted.none off).1)
        (subst (λ (w : List (Option D)). IsClear F w waiting from to) (sym (same_data off)) (came_below off)))
        cases

    -- clear edges stay clear
    keeps_carried : (n m : ℕ) → IsClear F held waiting n m → IsClear F (data_of stands after) waits n m
    keeps_carried n m clear = ⊎_elim
        (λ (on : raised ≡ true).
        subst (λ (b : List Bool). IsClear F (data_of stands after) b n m) (sym (noted.raise on).1)
        (subst (λ (w : List (Option D)). IsClear F w (slice_set waiting to true) n m) (sym put)
        (clear_kept F M held waiting to x inside_held flagged within carrier n m clear)))
        (λ (off : raised ≡ false).
        subst (λ (b : List Bool). IsClear F (data_of stands after) b n m) (sym (noted.none off).1)
        (subst (λ (w : List (Option D)). IsClear F w waiting n m) (sym (same_data off)) clear))
        cases

    -- no change is lost
    longer_carried : length changes ≤ length new
    longer_carried = ⊎_elim
        (λ (on : raised ≡ true).
        let len = ap length (noted.raise on).0 in
        omega (arith, len, length-append changes (record { node = to; from = Some from } ∷ [])))
        (λ (off : raised ≡ false). let len = ap length (noted.none off).0 in omega (arith, len))
        cases

    -- with no new change no other node waits
    calm_carried : length new ≡ length changes → waits ≡ waiting
    calm_carried same = ⊎_elim
        (λ (on : raised ≡ true).
        let len = ap length (noted.raise on).0 in
        absurd (omega (arith, len, same, length-append changes (record { node = to; from = Some from } ∷ []))))
        (λ (off : raised ≡ false). (noted.none off).1)
        cases

    -- so the solver went on
    pub progress_carried : IsProgress F (data_of stands values) changes waiting F (data_of stands after) new waits
    progress_carried = record { keeps = keeps_carried; longer = longer_carried; calm = calm_carried }
