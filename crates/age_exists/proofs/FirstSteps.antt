-- The first paths to the nodes of a graph, found edge by edge.
use Rattle.std.proofs.Common.{◌≡◌, ℕ, zero, suc, ◌+◌, ◌<◌, List, [], ◌∷◌, ◌++◌, length, get_or, get_or-set_same, Option, Some, None, refl, sym, ap, ◌∙◌, subst, inl, inr, arith, true≢false}
use Rattle.std.specs.Prelude.{slice_get, IsSome, IsNone, option_map}
use Rattle.std.proofs.Math.ListN.{set, length-set}
use Rattle.std.proofs.lemmas.Bool.{cases_eq, cases_lt}
use Rattle.std.proofs.lemmas.List.{length-map, length_push}
use Rattle.std.proofs.lemmas.Option.{same_Some, none-some, slice_get-get_or, slice_get-map, slice_get_past}
use Rattle.transition_spec.specs.Path.{IsSuccessor}
use Rattle.path_model.specs.declared.graph.Node.{Node}
use Rattle.path_model.specs.Graph.{IsGraph, graph_step}
use Rattle.path_model.proofs.Edges.{successor-from_node, leads-from_successor}
use Rattle.path_trail.specs.Trail.{TrailEntry, node_of, earlier_of, node_at, earlier_at, LeadsOn}
use Rattle.age_exists.specs.declared.retracing.Step.{Step}
use Rattle.age_exists.specs.Seen.{entry_seen, entries_seen}
use Rattle.age_exists.specs.Firsts.{AreFirsts}
use Rattle.age_exists.specs.FirstSteps.{AreApart, AreFound, NotesFirst}
use Rattle.age_exists.proofs.Led.{get-earlier, get-last}

-- the entry of a node that is after no other
abbrev pub apart_at : ℕ → TrailEntry
apart_at n = record { node = n; earlier = None }

-- the entry of one node more
pub apart_more : (count : ℕ) (entries : List TrailEntry) → AreApart count entries
    → AreApart (count + 1) (entries ++ apart_at count ∷ [])
apart_more count entries are =
    let entry : TrailEntry = apart_at count in
    let last : (n : ℕ) → n ≡ count → slice_get (entries ++ entry ∷ []) n ≡ Some entry =
    λ n same. ap (slice_get (entries ++ entry ∷ [])) (same ∙ sym are.one_each) ∙ get-last entries entry in
    let long : length (entries ++ entry ∷ []) ≡ count + 1 = omega (arith, length_push entries entry, are.one_each) in
    record {
      one_each = long;
      own = λ n inside. elim (cases_lt n count) [
        | inl old ↦
            ap node_of (get-earlier entries (entry ∷ []) n (omega (arith, old, are.one_each))) ∙ are.own n old
        | inr past ↦ let here : n ≡ count = omega (arith, inside, past) in ap node_of (last n here) ∙ sym here
      ];
      none = λ n. elim (cases_lt n count) [
        | inl old ↦
            ap earlier_of (get-earlier entries (entry ∷ []) n (omega (arith, old, are.one_each))) ∙ are.none n
        | inr past ↦ elim (cases_eq n count) [
          | inl here ↦ ap earlier_of (last n here)
          | inr other ↦
              ap earlier_of (slice_get_past (entries ++ entry ∷ []) n (omega (arith, past, other, long)))
        ]
      ];
    }

-- an edge that needn't be noted leaves all as it is
pub notes_nothing : (entries : List TrailEntry) (from : ℕ) (to : Option ℕ)
    → ((m : ℕ) → to ≡ Some m → from < m → m < length entries → IsSome (earlier_at entries m))
    → NotesFirst entries entries from to
notes_nothing entries from to has =
    record { as_long = refl; own = λ n. refl; kept = λ n m is. is; noted = has; no_other = λ n m is. inl is }

-- the entry that a step is seen as
seen-at : (steps : List Step) (n : ℕ) (default : Step) → n < length steps
    → slice_get (entries_seen steps) n ≡ Some (entry_seen (get_or steps n default))
seen-at steps n default inside =
    slice_get-map entry_seen steps n ∙ ap (option_map entry_seen) (slice_get-get_or steps n default inside)

-- has before it what the step has
pub earlier_seen : (steps : List Step) (n : ℕ) (default : Step) → n < length steps
    → earlier_at (entries_seen steps) n ≡ (get_or steps n default).earlier
earlier_seen steps n default inside = ap earlier_of (seen-at steps n default inside)

-- an entry that isn't there
is-none : (o : Option ℕ) → IsNone o → o ≡ None
is-none None none = refl
is-none (Some n) none = absurd (true≢false none)

-- a member that isn't replaced stays
get-other : {X : Type 0} (xs : List X) (k n : ℕ) (x : X) → (n ≡ k → ⊥) → slice_get (set xs k x) n ≡ slice_get xs n
get-other [] k n x other = refl
get-other (y ∷ xs) zero zero x other = absurd (other refl)
get-other (y ∷ xs) zero (suc n) x other = refl
get-other (y ∷ xs) (suc k) zero x other = refl
get-other (y ∷ xs) (suc k) (suc n) x other = get-other xs k n x (λ same. other (ap suc same))

module _ (steps : List Step) (from to : ℕ) (default : Step) (inside : to < length steps) (up : from < to)
    (none : IsNone (get_or steps to default).earlier) where
  abbrev Old : Step
  Old = get_or steps to default

  abbrev New : Step
  New = record { node = Old.node; earlier = Some from }

  abbrev Before : List TrailEntry
  Before = entries_seen steps

  abbrev After : List TrailEntry
  After = entries_seen (set steps to New)

  -- the entry of the node, before and after
  was : slice_get Before to ≡ Some (entry_seen Old)
  was = seen-at steps to default inside

  is-now : slice_get After to ≡ Some (entry_seen New)
  is-now =
      seen-at (set steps to New) to New (omega (arith, inside, length-set steps to New))
      ∙ ap (λ (step : Step). Some (entry_seen step)) (get_or-set_same steps to New New inside)

  -- each other one is as it was
  stays : (n : ℕ) → (n ≡ to → ⊥) → slice_get After n ≡ slice_get Before n
  stays n other =
      slice_get-map entry_seen (set steps to New) n
      ∙ (ap (option_map entry_seen) (get-other steps to n New other) ∙ sym (slice_get-map entry_seen steps n))

  -- so an edge to a node that is after no other is noted
  pub notes_edge : NotesFirst Before After from (Some to)
  notes_edge = record {
    as_long = length-map (set steps to New) entry_seen ∙ (length-set steps to New ∙ sym (length-map steps entry_seen));
    own = λ n. elim (cases_eq n to) [
      | inl here ↦
          ap (node_at After) here ∙ (ap node_of is-now ∙ (sym (ap node_of was) ∙ sym (ap (node_at Before) here)))
      | inr other ↦ ap node_of (stays n other)
    ];
    kept = λ n m is. elim (cases_eq m to) [
      | inl here ↦
          absurd (none-some n
          (sym (ap (earlier_at Before) here ∙ (ap earlier_of was ∙ is-none Old.earlier none)) ∙ is))
      | inr other ↦ ap earlier_of (stays m other) ∙ is
    ];
    noted = λ m leads less within.
        let here : m ≡ to = sym (same_Some to m leads) in
        subst IsSome (sym (ap (earlier_at After) here ∙ ap earlier_of is-now)) refl;
    no_other = λ n m is. elim (cases_eq m to) [
      | inl here ↦
          let now : Some from ≡ Some n = sym (ap (earlier_at After) here ∙ ap earlier_of is-now) ∙ is in
          inr (sym (same_Some from n now), ap Some (sym here), omega (arith, up, here))
      | inr other ↦ inl (sym (ap earlier_of (stays m other)) ∙ is)
    ];
  }

-- without a noted edge each entry is after no other
pub found_begin : (nodes : List Node) (entries : List TrailEntry) → AreApart (length nodes) entries
    → AreFound nodes 0 entries
found_begin nodes entries are = record {
  one_each = are.one_each;
  own = are.own;
  sound = λ n m is. absurd (none-some n (sym (are.none m) ∙ is));
  complete = λ n m below up inside leads. absurd (omega (arith, below));
}

-- an entry before another stays
some-kept : (before after : List TrailEntry) (from : ℕ) (to : Option ℕ) (m : ℕ) → NotesFirst before after from to
    → (was : Option ℕ) → earlier_at before m ≡ was → IsSome was → IsSome (earlier_at after m)
some-kept before after from to m notes None is has = absurd (true≢false (sym has))
some-kept before after from to m notes (Some n) is has = subst IsSome (sym (notes.kept n m is)) refl

module _ (nodes : List Node) (entries mid after : List TrailEntry) (i : ℕ) (node : Node)
    (here : slice_get nodes i ≡ Some node) (one : NotesFirst entries mid i node.first)
    (two : NotesFirst mid after i node.second) (were : AreFound nodes i entries) where
  -- what is noted of an edge of the node is one
  edge-of : (n m : ℕ) → n ≡ i → i < m → IsSuccessor (graph_step nodes) i m
      → (n < m) × IsSuccessor (graph_step nodes) n m
  edge-of n m same up leads =
      (omega (arith, same, up), subst (λ (k : ℕ). IsSuccessor (graph_step nodes) k m) (sym same) leads)

  -- with both edges of the node those of one node more are noted
  pub found_more : AreFound nodes (i + 1) after
  found_more = record {
    one_each = two.as_long ∙ (one.as_long ∙ were.one_each);
    own = λ n inside. two.own n ∙ (one.own n ∙ were.own n inside);
    sound = λ n m is. elim (two.no_other n m is) [
      | inl earlier ↦ elim (one.no_other n m earlier) [
        | inl earliest ↦ were.sound n m earliest
        | inr first ↦ edge-of n m first.0 first.2 (successor-from_node nodes i m node here (inl first.1))
      ]
      | inr second ↦ edge-of n m second.0 second.2 (successor-from_node nodes i m node here (inr second.1))
    ];
    complete = λ n m below up inside leads. elim (cases_eq n i) [
      | inl same ↦
          let found : slice_get nodes n ≡ Some node = ap (slice_get nodes) same ∙ here in
          let less : i < m = omega (arith, up, same) in
          elim (leads-from_successor nodes n m node found leads) [
            | inl first ↦
                some-kept mid after i node.second m two (earlier_at mid m) refl
                (one.noted m first less (omega (arith, inside, were.one_each)))
            | inr second ↦ two.noted m second less (omega (arith, inside, were.one_each, one.as_long))
          ]
      | inr other ↦
          some-kept mid after i node.second m two (earlier_at mid m) refl
          (some-kept entries mid i node.first m one (earlier_at entries m) refl
          (were.complete n m (omega (arith, below, other)) up inside leads))
    ];
  }

module _ (nodes : List Node) (entries : List TrailEntry) (graph : IsGraph nodes)
    (are : AreFound nodes (length nodes) entries) where
  -- with the edges of all nodes each entry leads on
  leads-on : (number : ℕ) → number < length nodes → (before : Option ℕ) → earlier_at entries number ≡ before
      → LeadsOn nodes entries number before (node_at entries number)
  leads-on number inside None is = elim (cases_eq number 0) [
    | inl first ↦ are.own number inside ∙ first
    | inr later ↦
        let edge = graph.reached number (omega (arith, later)) inside in
        absurd (true≢false (sym (subst IsSome is
        (are.complete edge.0 number (omega (arith, edge.1, inside)) edge.1 inside edge.2))))
  ]
  leads-on number inside (Some k) is =
      let edge = are.sound k number is in (
        edge.0,
        subst (λ (n : ℕ). IsSuccessor (graph_step nodes) n (node_at entries number))
            (sym (are.own k (omega (arith, edge.0, inside))))
            (subst (IsSuccessor (graph_step nodes) k) (sym (are.own number inside)) edge.1),
      )

  -- so these are the first paths
  pub found_firsts : AreFirsts nodes entries
  found_firsts = record {
    one_each = are.one_each;
    own = are.own;
    trail = λ number inside.
        leads-on number (omega (arith, inside, are.one_each)) (earlier_at entries number) refl;
  }
