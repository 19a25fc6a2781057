-- One more entry of a search, and what the entries say of all paths.
use Rattle.std.proofs.Common.{◌≡◌, ℕ, zero, suc, ◌+◌, ◌<◌, ◌≤◌, ◌⊎◌, inl, inr, List, [], ◌∷◌, ◌++◌, length, Option, Some, None, refl, sym, ap, subst, ◌∙◌, arith}
use Rattle.std.proofs.lemmas.Bool.{cases_eq}
use Rattle.std.proofs.lemmas.List.{get_or_append_left, get_or_push, length_push, length-append}
use Rattle.std.specs.Prelude.{slice_get}
use Rattle.cache_spec.specs.declared.start.Start.{Start}
use Rattle.transition_spec.specs.Path.{IsPath, IsSuccessor}
use Rattle.path_model.specs.Graph.{graph_step}
use Rattle.path_trail.specs.Trail.{TrailEntry, node_of, earlier_of, node_at, earlier_at, IsChain, LeadsOn, IsTrail}
use Rattle.set_view.specs.View.{View}
use Rattle.focus_plain.specs.Cut.{IsBelow, IsFirst, left_by, cut_after}
use Rattle.focus_plain.specs.Entries.{seen_at, IsSound, BeginsWith, IsCourse, IsBetween, IsSpread}
use Rattle.focus_plain.specs.Search.{IsLonger}
use Rattle.focus_plain.proofs.Order.{IsRising, below_trans, below_refl, cut_after-below, first-rising, left_by-rising, left_by-more}

-- an element of the first list
pub slice_get-prefix : {X : Type 0} (xs ys : List X) (k : ℕ) → k < length xs → slice_get (xs ++ ys) k ≡ slice_get xs k
slice_get-prefix [] ys k inside = absurd (omega arith)
slice_get-prefix (x ∷ xs) ys zero inside = refl
slice_get-prefix (x ∷ xs) ys (suc k) inside = slice_get-prefix xs ys k (omega arith)

-- the element after the first list
pub slice_get-after : {X : Type 0} (xs : List X) (y : X) → slice_get (xs ++ y ∷ []) (length xs) ≡ Some y
slice_get-after [] y = refl
slice_get-after (x ∷ xs) y = slice_get-after xs y

-- entries keep their nodes
pub node_at-prefix : (trail more : List TrailEntry) (k : ℕ) → k < length trail
    → node_at (trail ++ more) k ≡ node_at trail k
node_at-prefix trail more k inside = ap node_of (slice_get-prefix trail more k inside)

-- and the entries before them
earlier_at-prefix : (trail more : List TrailEntry) (k : ℕ) → k < length trail
    → earlier_at (trail ++ more) k ≡ earlier_at trail k
earlier_at-prefix trail more k inside = ap earlier_of (slice_get-prefix trail more k inside)

module _ (view : View) (start : Start) (block : ℕ) where
  -- what leads on to a node leads on to it still
  leads-prefix : (trail more : List TrailEntry) (number : ℕ) (before : Option ℕ) (node : ℕ) → number < length trail
      → LeadsOn view.nodes trail number before node
      → LeadsOn view.nodes (trail ++ more) number before node
  leads-prefix trail more number None node inside leads = leads
  leads-prefix trail more number (Some earlier) node inside leads =
      let smaller : earlier < number = leads.0 in (
        smaller,
        subst (λ (n : ℕ). IsSuccessor (graph_step view.nodes) n node)
            (sym (node_at-prefix trail more earlier (omega arith))) leads.1,
      )

  -- a chain stays one
  chain-prefix : (trail more : List TrailEntry) → IsTrail view.nodes trail
      → (members : List ℕ) (number : ℕ) (before : Option ℕ) (node : ℕ) → number ≤ length trail
      → LeadsOn view.nodes trail number before node → IsChain trail before members
      → IsChain (trail ++ more) before members
  chain-prefix trail more is [] number None node inside leads chain = tt
  chain-prefix trail more is (x ∷ members) number None node inside leads chain = absurd chain
  chain-prefix trail more is [] number (Some earlier) node inside leads chain = absurd chain
  chain-prefix trail more is (x ∷ members) number (Some earlier) node inside leads chain =
      let smaller : earlier < number = leads.0 in
      let there : earlier < length trail = omega arith in (
        chain.0 ∙ sym (node_at-prefix trail more earlier there),
        subst (λ (o : Option ℕ). IsChain (trail ++ more) o members) (sym (earlier_at-prefix trail more earlier there))
            (chain-prefix trail more is members earlier (earlier_at trail earlier) (node_at trail earlier) (omega arith)
            (is earlier there) chain.1),
      )

  -- a sound entry stays so
  sound-prefix : (trail more : List TrailEntry) (number : ℕ) (younger : Option (List ℕ)) → IsTrail view.nodes trail
      → number < length trail
      → IsSound view start block trail number younger → IsSound view start block (trail ++ more) number younger
  sound-prefix trail more number younger is inside sound =
      let members : List ℕ = sound.0 in (
        members,
        (
          refl,
          subst (λ (o : Option ℕ). IsChain (trail ++ more) o members) (sym (earlier_at-prefix trail more number inside))
              (chain-prefix trail more is members number (earlier_at trail number) (node_at trail number) (omega arith)
              (is number inside) sound.1.1),
        ),
        sound.2,
      )

  module _ (trail : List TrailEntry) (seen : List (Option (List ℕ))) (course : IsCourse view start block trail seen)
      (from to : ℕ) (from_inside : from < length trail)
      (edge : IsSuccessor (graph_step view.nodes) (node_at trail from) to) where
    -- the trail with the new entry
    abbrev further : List TrailEntry
    further = trail ++ record { node = to; earlier = Some from } ∷ []

    -- what the new entry has seen
    abbrev younger : Option (List ℕ)
    younger = cut_after view block (node_at trail from) (seen_at seen from)

    -- an entry is an old one or the new one
    old_or_new : (number : ℕ) → number < length further → (number < length trail) ⊎ (number ≡ length trail)
    old_or_new number inside =
        let long = length_push trail (record { node = to; earlier = Some from }) in
        elim (cases_eq number (length trail)) [ inl same ↦ inr same | inr other ↦ inl (omega (arith, long, inside)) ]

    -- the new one is where it should be
    new_is : slice_get further (length trail) ≡ Some (record { node = to; earlier = Some from })
    new_is = slice_get-after trail (record { node = to; earlier = Some from })

    -- each entry follows the one before it
    trail_further : IsTrail view.nodes further
    trail_further number inside = elim (old_or_new number inside) [
      | inl old ↦
          subst (λ (o : Option ℕ). LeadsOn view.nodes further number o (node_at further number))
          (sym (earlier_at-prefix trail _ number old))
          (subst (λ (n : ℕ). LeadsOn view.nodes further number (earlier_at trail number) n)
          (sym (node_at-prefix trail _ number old))
          (leads-prefix trail _ number (earlier_at trail number) (node_at trail number) old
          (course.follows number old)))
      | inr new ↦
          let at : slice_get further number ≡ Some (record { node = to; earlier = Some from }) =
          ap (slice_get further) new ∙ new_is in
          let leads : LeadsOn view.nodes further number (Some from) to = (
            omega (arith, new),
            subst (λ (n : ℕ). IsSuccessor (graph_step view.nodes) n to) (sym (node_at-prefix trail _ from from_inside))
                edge,
          ) in
          subst (λ (o : Option TrailEntry). LeadsOn view.nodes further number (earlier_of o) (node_of o)) (sym at) leads
    ]

    -- the new entry is sound
    sound_new : IsSound view start block further (length trail) younger
    unfolding sound-prefix
    sound_new =
        let before = course.sound from from_inside in
        let members : List ℕ = node_at trail from ∷ before.0 in
        let kept = sound-prefix trail (record { node = to; earlier = Some from } ∷ []) from (seen_at seen from)
        course.follows from_inside before in
        let whole : IsChain further (Some from) members =
        (sym (node_at-prefix trail _ from from_inside), kept.1.1) in (
          members,
          (refl, subst (λ (o : Option ℕ). IsChain further o members) (sym (ap earlier_of new_is)) whole),
          (
            before.2.0,
            before.2.1,
            left_by-more view block (node_at trail from) before.2.0 before.0 (first-rising start before.2.0 before.2.1)
                ∙ ap (cut_after view block (node_at trail from)) before.2.2,
          ),
        )

    -- each entry is sound
    sound_further : (number : ℕ) → number < length further
        → IsSound view start block further number (seen_at (seen ++ younger ∷ []) number)
    sound_further number inside = elim (old_or_new number inside) [
      | inl old ↦
          subst (IsSound view start block further number) (sym (get_or_append_left seen (younger ∷ []) None number
          (omega (arith, course.one_each))))
          (sound-prefix trail _ number (seen_at seen number) course.follows old (course.sound number old))
      | inr new ↦
          subst (IsSound view start block further number) (sym (get_or_push seen younger None number
          (course.one_each ∙ sym new)))
          (subst (λ (k : ℕ). IsSound view start block further k younger) (sym new) sound_new)
    ]

    -- what the entries begin with stays
    begins_further : (set : Option (List ℕ)) → BeginsWith trail seen set → BeginsWith further (seen ++ younger ∷ []) set
    begins_further set (number, inside, at, is) = (
      number,
      omega (arith, inside, length_push trail (record { node = to; earlier = Some from })),
      node_at-prefix trail _ number inside ∙ at,
      get_or_append_left seen (younger ∷ []) None number (omega (arith, course.one_each, inside)) ∙ is,
    )

    -- the course goes on
    pub course_more : IsCourse view start block further (seen ++ younger ∷ [])
    course_more = record {
      one_each = length_push seen younger ∙ ap (λ n. n + 1) course.one_each ∙ sym (length_push trail _);
      begun = λ first is. begins_further (left_by view block first []) (course.begun first is);
      follows = trail_further;
      sound = sound_further;
    }

    -- the node of the edge has the new entry below and above
    pub between_new : IsBetween further (seen ++ younger ∷ []) to younger
    between_new =
        let inside : length trail < length further =
        omega (arith, length_push trail (record { node = to; earlier = Some from })) in
        let at : seen_at (seen ++ younger ∷ []) (length trail) ≡ younger =
        get_or_push seen younger None (length trail) course.one_each in
        record {
          below = (
            length trail,
            inside,
            ap node_of new_is,
            subst (λ (o : Option (List ℕ)). IsBelow o younger) (sym at) (below_refl younger),
          );
          above = (
            length trail,
            inside,
            ap node_of new_is,
            subst (λ (o : Option (List ℕ)). IsBelow younger o) (sym at) (below_refl younger),
          );
        }

-- what lies between entries lies between them when there are more
pub between_kept : (trail trail' : List TrailEntry) (seen seen' : List (Option (List ℕ))) (n : ℕ)
    (younger : Option (List ℕ)) → length seen ≡ length trail
    → IsLonger trail trail' → IsLonger seen seen' → IsBetween trail seen n younger → IsBetween trail' seen' n younger
between_kept trail trail' seen seen' n younger one_each longer seen_longer between =
    let low = between.below in
    let high = between.above in
    let more : length trail ≤ length trail' = omega (arith, ap length longer.1, length-append trail longer.0) in
    record {
      below = (
        low.0,
        omega (arith, low.1, more),
        node low.0 low.1 ∙ low.2,
        subst (λ (o : Option (List ℕ)). IsBelow o younger) (sym (set low.0 low.1)) low.3,
      );
      above = (
        high.0,
        omega (arith, high.1, more),
        node high.0 high.1 ∙ high.2,
        subst (λ (o : Option (List ℕ)). IsBelow younger o) (sym (set high.0 high.1)) high.3,
      );
    }
  where
    node : (k : ℕ) → k < length trail → node_at trail' k ≡ node_at trail k
    node k inside = ap (λ t. node_at t k) longer.1 ∙ node_at-prefix trail longer.0 k inside

    set : (k : ℕ) → k < length trail → seen_at seen' k ≡ seen_at seen k
    set k inside = ap (λ s. seen_at s k) seen_longer.1
        ∙ get_or_append_left seen seen_longer.0 None k (omega (arith, inside, one_each))

-- a sound entry's set rises
seen-rising : (view : View) (start : Start) (block : ℕ) (trail : List TrailEntry) (seen : List (Option (List ℕ)))
    (number : ℕ) → IsCourse view start block trail seen → number < length trail → IsRising (seen_at seen number)
seen-rising view start block trail seen number course inside =
    let (earlier, chain, (first, is, left)) = course.sound number inside in
    subst IsRising left (left_by-rising view block first earlier (first-rising start first is))

-- once all entries are spread, what each path leaves lies between entries at its last node
pub paths_between : (view : View) (start : Start) (block : ℕ) (trail : List TrailEntry)
    (seen : List (Option (List ℕ))) → IsCourse view start block trail seen
    → IsSpread view block trail seen (length trail) → (first : Option (List ℕ)) → IsFirst start first
    → (earlier : List ℕ) (n : ℕ) → IsPath (graph_step view.nodes) 0 (n ∷ earlier)
    → IsBetween trail seen n (left_by view block first earlier)
paths_between view start block trail seen course spread first is [] n path =
    let (number, inside, at, seen_is) = course.begun first is in
    let left : Option (List ℕ) = left_by view block first [] in
    record {
      below = (
        number,
        inside,
        at ∙ sym path,
        subst (λ (o : Option (List ℕ)). IsBelow o left) (sym seen_is) (below_refl left),
      );
      above = (number, inside, at ∙ sym path, subst (IsBelow left) (sym seen_is) (below_refl left));
    }
paths_between view start block trail seen course spread first is (c ∷ earlier) n path =
    let before = paths_between view start block trail seen course spread first is earlier c path.1 in
    let low = before.below in
    let high = before.above in
    let left : Option (List ℕ) = left_by view block first earlier in
    let first_rising = first-rising start first is in
    let rising = left_by-rising view block first earlier first_rising in
    let low_next = spread low.0 n low.1 (subst (λ (k : ℕ). IsSuccessor (graph_step view.nodes) k n) (sym low.2)
    path.0) in
    let high_next = spread high.0 n high.1 (subst (λ (k : ℕ). IsSuccessor (graph_step view.nodes) k n) (sym high.2)
    path.0) in
    let low_moved :
    IsBelow (cut_after view block (node_at trail low.0) (seen_at seen low.0)) (cut_after view block c left) =
    subst (λ (k : ℕ). IsBelow (cut_after view block k (seen_at seen low.0)) (cut_after view block c left)) (sym low.2)
    (cut_after-below view block c (seen_at seen low.0) left
    (seen-rising view start block trail seen low.0 course low.1) rising
    low.3) in
    let high_moved : IsBelow (cut_after view block c left) (cut_after view block (node_at trail high.0)
    (seen_at seen high.0)) =
    subst (λ (k : ℕ). IsBelow (cut_after view block c left) (cut_after view block k (seen_at seen high.0))) (sym high.2)
    (cut_after-below view block c left (seen_at seen high.0) rising
    (seen-rising view start block trail seen high.0 course high.1) high.3) in
    let last = low_next.below in
    let top = high_next.above in
    subst (IsBetween trail seen n) (sym (left_by-more view block c first earlier first_rising)) (record {
      below = (
        last.0,
        last.1,
        last.2,
        below_trans (seen_at seen last.0) (cut_after view block (node_at trail low.0) (seen_at seen low.0))
            (cut_after view block c left) last.3 low_moved,
      );
      above = (
        top.0,
        top.1,
        top.2,
        below_trans (cut_after view block c left) (cut_after view block (node_at trail high.0) (seen_at seen high.0))
            (seen_at seen top.0) high_moved top.3,
      );
    })
