-- The steps by which a path of the whole graph is made.
use Rattle.std.proofs.Common.{◌≡◌, ℕ, ◌+◌, ◌-◌, ◌<◌, ◌≤◌, List, [], ◌∷◌, ◌++◌, length, take, drop, reverse, get_or, refl, ap, sym, ◌∙◌, subst, arith}
use Rattle.std.specs.Prelude.{slice_get}
use Rattle.std.proofs.lemmas.List.{length-map}
use Rattle.transition_spec.specs.Path.{IsPath, IsSuccessor}
use Rattle.path_model.specs.Graph.{graph_step}
use Rattle.path_model.proofs.Reached.{successor_inside}
use Rattle.path_model.proofs.Moves.{IsPath-suffix}
use Rattle.path_model.proofs.Turned.{reverse-more, reverse-split}
use Rattle.line_blocks.specs.Runs.{Runs, AreRuns, run_node, run_of, head_of, last_of}
use Rattle.line_blocks.specs.Expand.{IsDown, IsUp, IsWalk, IsExpanded, next_in}
use Rattle.line_blocks.proofs.Edges.{IsNextOf, next_of, small_inside, edge_back, some_run, head_is}
use Rattle.line_blocks.proofs.Walks.{base, down_first, down_head, down_inner}

-- a path goes on within a run
pub record IsOnWay (r : Runs) (run : ℕ) (initial : List ℕ) (at : ℕ) (members : List ℕ) : Type 0 where
  pub own : run_of r.numbers at ≡ run
  pub inside : at < length r.nodes
  pub walk : (other : List ℕ) → IsWalk r (head_of r.runs run) initial other → IsWalk r at members other

-- a walk of the whole graph for a path of the runs, to the first node of the last run
pub record IsTrip (r : Runs) (path whole : List ℕ) : Type 0 where
  pub last : ℕ
  pub others : List ℕ
  pub path_is : path ≡ last ∷ others
  pub inside : last < length r.runs
  pub walk : IsWalk r (head_of r.runs last) whole others

module _ (r : Runs) (are : AreRuns r) where
  walk_next : (n m : ℕ) (members other : List ℕ) → IsNextOf r n m → IsWalk r n members other
      → IsWalk r m (m ∷ members) other
  walk_next n m members other next walk = (
    n ∷ walk.0,
    ap (λ (xs : List ℕ). m ∷ xs) walk.1,
    record {
      path = (next.edge, walk.2.path);
      down = down_inner r are n m walk.0 other next.edge next.inner.0 walk.2.down;
    },
  )

  -- the way goes on
  pub way_next : (run : ℕ) (initial : List ℕ) (at : ℕ) (members : List ℕ) → (at ≡ last_of r.runs run → ⊥)
      → IsOnWay r run initial at members
      → IsOnWay r run initial (next_in (slice_get r.nodes at)) (next_in (slice_get r.nodes at) ∷ members)
  way_next run initial at members other way =
      let next = next_of r (base r are) at way.inside (λ is. other (sym is ∙ ap (last_of r.runs) way.own)) in
      let m : ℕ = next_in (slice_get r.nodes at) in
      record {
        own = next.inner.1 ∙ way.own;
        inside = successor_inside r.nodes at m are.whole next.edge;
        walk = λ others first. walk_next at m members others next (way.walk others first);
      }

  -- a path of the runs that stands first member first begins with run 0
  pub begins : (path : List ℕ) → IsPath (graph_step r.small) 0 (reverse path) → (rest : List ℕ) × (path ≡ 0 ∷ rest)
  begins [] path = absurd path
  begins (x ∷ rest) path =
      let split : reverse (x ∷ rest) ≡ reverse rest ++ x ∷ [] = reverse-split (x ∷ rest) 1 in
      let first = IsPath-suffix (graph_step r.small) 0 x (reverse rest) []
      (subst (λ (xs : List ℕ). IsPath (graph_step r.small) 0 xs) split path) in
      (rest, ap (λ (k : ℕ). k ∷ rest) first)

  -- the trip of run 0
  pub trip_first : (path whole : List ℕ) → IsPath (graph_step r.small) 0 (reverse path)
      → reverse whole ≡ head_of r.runs 0 ∷ [] → IsTrip r (reverse (take 1 path)) (reverse whole)
  trip_first path whole path_is whole_is =
      let first = begins path path_is in
      let up : IsUp r (head_of r.runs 0) [] [] =
      subst (λ (k : ℕ). IsUp r k [] []) (sym are.plan.0) (record { path = refl; down = down_first r are }) in
      record {
        last = 0;
        others = [];
        path_is = ap (λ (xs : List ℕ). reverse (take 1 xs)) first.1;
        inside = some_run r (base r are);
        walk = ([], whole_is, up);
      }

  -- the edge between two neighbours of a path
  edge_between : (path : List ℕ) (i : ℕ) → i + 1 < length path → IsPath (graph_step r.small) 0 (reverse path)
      → IsSuccessor (graph_step r.small) (get_or path i 0) (get_or path (i + 1) 0)
  edge_between path i below path_is =
      let a : ℕ = get_or path i 0 in
      let b : ℕ = get_or path (i + 1) 0 in
      let earlier : List ℕ = reverse (take i path) in
      let one : reverse (take (i + 1) path) ≡ a ∷ earlier = reverse-more path i 0 (omega (arith, below)) in
      let two : reverse (take (i + 1 + 1) path) ≡ b ∷ a ∷ earlier =
      reverse-more path (i + 1) 0 below ∙ ap (λ (xs : List ℕ). b ∷ xs) one in
      let split : reverse path ≡ reverse (drop (i + 1 + 1) path) ++ b ∷ a ∷ earlier =
      reverse-split path (i + 1 + 1) ∙ ap (λ (xs : List ℕ). reverse (drop (i + 1 + 1) path) ++ xs) two in
      (IsPath-suffix (graph_step r.small) 0 b (reverse (drop (i + 1 + 1) path)) (a ∷ earlier)
      (subst (λ (xs : List ℕ). IsPath (graph_step r.small) 0 xs) split path_is)).0

  pub edge_at : (path : List ℕ) (i : ℕ) → 1 ≤ i → i < length path → IsPath (graph_step r.small) 0 (reverse path)
      → IsSuccessor (graph_step r.small) (get_or path (i - 1) 0) (get_or path i 0)
  edge_at path i some below path_is =
      let k : ℕ = i - 1 in
      let same : k + 1 ≡ i = omega (arith, some) in
      let short : k + 1 < length path = omega (arith, same, below) in
      subst (λ (j : ℕ). IsSuccessor (graph_step r.small) (get_or path k 0) (get_or path j 0)) same
      (edge_between path k short path_is)

  -- the run before is one
  pub run_at : (path : List ℕ) (i : ℕ) → 1 ≤ i → i < length path → IsPath (graph_step r.small) 0 (reverse path)
      → get_or path (i - 1) 0 < length r.runs
  run_at path i some below path_is =
      small_inside r (base r are) (get_or path (i - 1) 0) (get_or path i 0) (edge_at path i some below path_is)

  count : length r.small ≡ length r.runs
  count = ap (λ xs. length xs) are.made ∙ length-map r.runs (run_node r.nodes r.numbers)

  -- a trip with one run more
  trip_more : (p q : ℕ) (rest path whole after : List ℕ) → path ≡ p ∷ rest → IsSuccessor (graph_step r.small) p q
      → ((other : List ℕ) → IsWalk r (head_of r.runs p) whole other → IsWalk r (last_of r.runs p) after other)
      → IsTrip r path whole → IsTrip r (q ∷ path) (head_of r.runs q ∷ after)
  trip_more p q rest path whole after split edge on trip =
      let last_is : trip.last ≡ p = cc (trip.path_is, split) in
      let walk = on trip.others (subst (λ (k : ℕ). IsWalk r (head_of r.runs k) whole trip.others) last_is trip.walk) in
      let inside : p < length r.runs = small_inside r (base r are) p q edge in
      let within : q < length r.runs =
      subst (λ (k : ℕ). q < k) count (successor_inside r.small p q are.graph edge) in
      let to : IsSuccessor (graph_step r.nodes) (last_of r.runs p) (head_of r.runs q) =
      edge_back r (base r are) p q edge in
      let same : run_of r.numbers (last_of r.runs p) ∷ trip.others ≡ path =
      ap (λ (k : ℕ). k ∷ trip.others) ((are.plan.2 p inside).2 ∙ sym last_is) ∙ sym trip.path_is in
      let down : IsDown r (head_of r.runs q) (last_of r.runs p ∷ walk.0) path =
      subst (λ (xs : List ℕ). IsDown r (head_of r.runs q) (last_of r.runs p ∷ walk.0) xs) same
      (down_head r are (last_of r.runs p) (head_of r.runs q) walk.0 trip.others to
      (head_is r (base r are) q within) walk.2.down) in
      record {
        last = q;
        others = path;
        path_is = refl;
        inside = within;
        walk = (
          last_of r.runs p ∷ walk.0,
          ap (λ (xs : List ℕ). head_of r.runs q ∷ xs) walk.1,
          record { path = (to, walk.2.path); down = down },
        );
      }

  -- the same at a place of a path
  pub trip_on : (path : List ℕ) (i : ℕ) (whole after pushed : List ℕ) → 1 ≤ i → i < length path
      → IsPath (graph_step r.small) 0 (reverse path)
      → ((other : List ℕ) → IsWalk r (head_of r.runs (get_or path (i - 1) 0)) whole other
      → IsWalk r (last_of r.runs (get_or path (i - 1) 0)) after other)
      → pushed ≡ head_of r.runs (get_or path i 0) ∷ after
      → IsTrip r (reverse (take i path)) whole → IsTrip r (reverse (take (i + 1) path)) pushed
  trip_on path i whole after pushed some below path_is on is trip =
      let k : ℕ = i - 1 in
      let same : k + 1 ≡ i = omega (arith, some) in
      let inside : k < length path = omega (arith, same, below) in
      let split : reverse (take i path) ≡ get_or path k 0 ∷ reverse (take k path) =
      subst (λ (j : ℕ). reverse (take j path) ≡ get_or path k 0 ∷ reverse (take k path)) same (reverse-more path k 0 inside) in
      let more = trip_more (get_or path k 0) (get_or path i 0) (reverse (take k path)) (reverse (take i path)) whole after
      split (edge_at path i some below path_is) on trip in
      subst (λ (xs : List ℕ). IsTrip r (reverse (take (i + 1) path)) xs) (sym is)
      (subst (λ (xs : List ℕ). IsTrip r xs (head_of r.runs (get_or path i 0) ∷ after)) (sym (reverse-more path i 0 below)) more)

  -- a trip is the path that the path of the runs stands for
  pub expanded_by : (path whole : List ℕ) → IsTrip r path whole → IsExpanded r path whole
  expanded_by path whole trip = record {
    last = trip.last;
    others = trip.others;
    earlier = trip.walk.0;
    path_is = trip.path_is;
    whole_is = trip.walk.1;
    inside = trip.inside;
    is_path = subst (λ (xs : List ℕ). IsPath (graph_step r.nodes) 0 xs) (sym trip.walk.1) trip.walk.2.path;
    alike = trip.walk.2.down.before (head_is r (base r are) trip.last trip.inside);
  }
