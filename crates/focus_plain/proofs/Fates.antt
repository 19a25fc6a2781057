-- What the entries that were noted say of all paths.
use Rattle.std.proofs.Common.{◌≡◌, ◌↔◌, ℕ, zero, suc, ◌<◌, IsTrue, IsFalse, inl, inr, Bool, true, false, List, [], ◌∷◌, length, Option, Some, None, refl, sym, ap, subst, ◌∙◌, arith}
use Rattle.std.proofs.lemmas.Option.{none-some}
use Rattle.std.specs.Option.{is_some}
use Rattle.std.specs.Prelude.{slice_get, not}
use Rattle.transition_spec.specs.declared.way.Way.{Way}
use Rattle.transition_spec.specs.Path.{IsPath}
use Rattle.transition_spec.specs.Named.{Names}
use Rattle.cache_spec.specs.declared.start.Start.{Start}
use Rattle.path_model.specs.declared.graph.Node.{Node}
use Rattle.path_model.specs.Graph.{graph_step}
use Rattle.path_trail.specs.Trail.{TrailEntry, node_at, earlier_at, IsChain}
use Rattle.path_trail.specs.Ways.{IsWayOf}
use Rattle.focus_spec.specs.Younger.{first_warm, is_small, fetch_at}
use Rattle.focus_spec.specs.Focus.{younger_after, warm_after}
use Rattle.focus_spec.specs.Fate.{PathCanEnd, AllEnd, NamesEnd}
use Rattle.set_view.specs.View.{View}
use Rattle.focus_plain.specs.declared.search.Entry.{Entry}
use Rattle.focus_plain.specs.declared.ends.Found.{Found}
use Rattle.focus_plain.specs.Cut.{IsBelow, IsFirst, left_by}
use Rattle.focus_plain.specs.Entries.{set_at, trail_of, seen_of, seen_at, latest_at, index_of, IsBetween, IsSpread}
use Rattle.focus_plain.specs.Ends.{IsFound, ends_of}
use Rattle.focus_plain.specs.Judged.{Judged, IsJudgedBy, IsClassification, IsPathTo}
use Rattle.focus_plain.specs.declared.judging.Classification.TheVariants.{Both}
use Rattle.std.proofs.lemmas.Bool.{cases_lt}
use Rattle.std.proofs.lemmas.List.{get_or_past}
use Rattle.path_trail.proofs.Chains.{IsPath-chain}
use Rattle.focus_plain.proofs.Order.{first-rising, left_by-below, small-cut}
use Rattle.focus_plain.proofs.Course.{paths_between}
use Rattle.focus_plain.proofs.Links.{length-trail}

twice : (b : Bool) → not (not b) ≡ b
twice true = refl
twice false = refl

-- an entry has one chain
chain_unique : (trail : List TrailEntry) (xs ys : List ℕ) (entry : Option ℕ) → IsChain trail entry xs
    → IsChain trail entry ys → xs ≡ ys
chain_unique trail [] [] entry one two = refl
chain_unique trail [] (y ∷ ys) None one two = absurd two
chain_unique trail [] (y ∷ ys) (Some number) one two = absurd one
chain_unique trail (x ∷ xs) [] None one two = absurd one
chain_unique trail (x ∷ xs) [] (Some number) one two = absurd two
chain_unique trail (x ∷ xs) (y ∷ ys) None one two = absurd one
chain_unique trail (x ∷ xs) (y ∷ ys) (Some number) one two =
    let first : x ≡ y = one.0 ∙ sym two.0 in
    let rest : xs ≡ ys = chain_unique trail xs ys (earlier_at trail number) one.1 two.1 in
    cc

-- what an entry has seen is the set at its index
seen-index : (sets : List (List ℕ)) (entries : List Entry) (number : ℕ)
    → seen_at (seen_of sets entries) number ≡ set_at sets (index_of (slice_get entries number))
seen-index sets [] number = refl
seen-index sets (entry ∷ entries) zero = refl
seen-index sets (entry ∷ entries) (suc number) = seen-index sets entries number

-- it is there where the index is
is_some-set_at : (sets : List (List ℕ)) (index : Option ℕ) → is_some (set_at sets index) ≡ is_some index
is_some-set_at sets None = refl
is_some-set_at sets (Some index) = refl

-- what lies above an absent set is absent
above_none : (one two : Option (List ℕ)) → IsBelow one two → is_some one ≡ false → is_some two ≡ false
above_none one None below none = refl
above_none None (Some two) below none = absurd below
above_none (Some one) (Some two) below none = none

-- what lies below a set that is there is there
below_some : (one two : Option (List ℕ)) → IsBelow one two → is_some two ≡ true → is_some one ≡ true
below_some one None below some = absurd (cc)
below_some None (Some two) below some = absurd below
below_some (Some one) (Some two) below some = refl

-- what a path that ends in a fetch of the block can do: hit where its warm set is small, and miss where its younger set
-- isn't
abbrev pub EndsBySets : View → Start → ℕ → Type 0
EndsBySets view start block = (n : ℕ) (earlier : List ℕ) → IsPath (graph_step view.nodes) 0 (n ∷ earlier)
    → fetch_at view.fetches n ≡ Some block
    → (PathCanEnd view.nodes view.geometry start (n ∷ earlier) true
    ↔ IsTrue (is_small view.geometry.ways (warm_after view.fetches start block earlier)))
    × (PathCanEnd view.nodes view.geometry start (n ∷ earlier) false
    ↔ IsFalse (is_small view.geometry.ways (younger_after view.fetches block earlier)))

-- a noted entry is one of the trail's
pub noted_inside : (view : View) (found : Found) (hits : Bool) (n number : ℕ) → IsFound view found
    → latest_at (ends_of found hits) n ≡ Some number → number < length (trail_of found.search.entries.items)
noted_inside view found hits n number is noted =
    let at = (is.ends hits).sound n number noted in
    omega (arith, at.0, length-trail found.search.entries.items)

module _ (view : View) (found : Found) (is : IsFound view found) (law : EndsBySets view found.start found.block) (n : ℕ)
    (fetches : fetch_at view.fetches n ≡ Some found.block) where
  -- the entries
  abbrev entries : List Entry
  entries = found.search.entries.items

  -- what they have seen
  abbrev seen : List (Option (List ℕ))
  seen = seen_of found.search.sets.items found.search.entries.items

  -- what a path leaves from a set that is there before the first fetch
  abbrev left_from : Option (List ℕ) → List ℕ → Option (List ℕ)
  left_from = left_by view found.block

  -- a path to the node can end so
  abbrev Can : List ℕ → Bool → Type 0
  Can earlier hits = PathCanEnd view.nodes view.geometry found.start (n ∷ earlier) hits

  -- from the warm set it leaves what lies below what it leaves from none
  warm_below : (earlier : List ℕ) → IsBelow (left_from (first_warm found.start) earlier) (left_from None earlier)
  warm_below earlier =
      left_by-below view found.block (first_warm found.start) earlier
      (first-rising found.start (first_warm found.start) (inr refl))

  -- a path that leaves a small set can hit, and one that leaves none can miss
  can_end : (hits : Bool) (earlier : List ℕ) (first : Option (List ℕ)) → IsPath (graph_step view.nodes) 0 (n ∷ earlier)
      → IsFirst found.start first → is_some (left_from first earlier) ≡ hits → Can earlier hits
  can_end true earlier first path begins some =
      let warm : is_some (left_from (first_warm found.start) earlier) ≡ true = elim begins [
        | inl none ↦ below_some _ _ (warm_below earlier)
            (ap (λ (o : Option (List ℕ)). is_some (left_from o earlier)) (sym none) ∙ some)
        | inr warm ↦ ap (λ (o : Option (List ℕ)). is_some (left_from o earlier)) (sym warm) ∙ some
      ] in
      (law n earlier path fetches).0.1
      (small-cut view.geometry.ways (warm_after view.fetches found.start found.block earlier) ∙ warm)
  can_end false earlier first path begins large =
      let none : is_some (left_from None earlier) ≡ false = elim begins [
        | inl none ↦ ap (λ (o : Option (List ℕ)). is_some (left_from o earlier)) (sym none) ∙ large
        | inr warm ↦ above_none _ _ (warm_below earlier)
            (ap (λ (o : Option (List ℕ)). is_some (left_from o earlier)) (sym warm) ∙ large)
      ] in
      (law n earlier path fetches).1.1
      (small-cut view.geometry.ways (younger_after view.fetches found.block earlier) ∙ none)

  -- a path that can end so leaves a small set, or none
  left_there : (hits : Bool) (earlier : List ℕ) → IsPath (graph_step view.nodes) 0 (n ∷ earlier) → Can earlier hits
      → (first : Option (List ℕ)) × IsFirst found.start first × (is_some (left_from first earlier) ≡ hits)
  left_there true earlier path can = (
    first_warm found.start,
    inr refl,
    sym (small-cut view.geometry.ways (warm_after view.fetches found.start found.block earlier))
        ∙ (law n earlier path fetches).0.0 can,
  )
  left_there false earlier path can = (
    None,
    inl refl,
    sym (small-cut view.geometry.ways (younger_after view.fetches found.block earlier))
        ∙ (law n earlier path fetches).1.0 can,
  )

  -- an entry has seen a set where it has an index
  seen-there : (number : ℕ) → is_some (seen_at seen number) ≡ is_some (index_of (slice_get entries number))
  seen-there number =
      ap is_some (seen-index found.search.sets.items entries number)
      ∙ is_some-set_at found.search.sets.items (index_of (slice_get entries number))

  -- what each path to the node leaves lies between what two entries there have seen
  between : (first : Option (List ℕ)) → IsFirst found.start first → (earlier : List ℕ)
      → IsPath (graph_step view.nodes) 0 (n ∷ earlier) → IsBetween (trail_of entries) seen n (left_from first earlier)
  between first begins earlier path =
      let all : IsSpread view found.block (trail_of entries) seen (length (trail_of entries)) =
      subst (λ (k : ℕ). IsSpread view found.block (trail_of entries) seen k) (sym (length-trail entries)) is.spread in
      paths_between view found.start found.block (trail_of entries) seen is.search.course all first begins earlier n
      path

  -- where a path to the node leaves a small set, so has an entry there; and where one leaves none, an entry has none
  entry_there : (hits : Bool) (first : Option (List ℕ)) → IsFirst found.start first → (earlier : List ℕ)
      → IsPath (graph_step view.nodes) 0 (n ∷ earlier) → is_some (left_from first earlier) ≡ hits
      → (number : ℕ) × (number < length entries) × (node_at (trail_of entries) number ≡ n)
      × (is_some (index_of (slice_get entries number)) ≡ hits)
  entry_there true first begins earlier path some =
      let (number, inside, at, below) = (between first begins earlier path).below in (
        number,
        omega (arith, inside, length-trail entries),
        at,
        sym (seen-there number) ∙ below_some (seen_at seen number) (left_from first earlier) below some,
      )
  entry_there false first begins earlier path none =
      let (number, inside, at, above) = (between first begins earlier path).above in (
        number,
        omega (arith, inside, length-trail entries),
        at,
        sym (seen-there number) ∙ above_none (left_from first earlier) (seen_at seen number) above none,
      )

  -- the chain of an entry for a hit is a path to the node that can hit, and that of one for a miss one that can miss
  pub noted_path : (hits : Bool) (number : ℕ) (members : List ℕ) → latest_at (ends_of found hits) n ≡ Some number
      → IsChain (trail_of entries) (Some number) members → IsPath (graph_step view.nodes) 0 members
      → IsPathTo view.nodes view.geometry found.start n hits members
  noted_path hits number members noted chained is_path =
      let at = (is.ends hits).sound n number noted in
      let (earlier, chain, (first, begins, left)) =
      is.search.course.sound number (omega (arith, at.0, length-trail entries)) in
      let members_are : members ≡ n ∷ earlier =
      chain_unique (trail_of entries) members _ (Some number) chained chain ∙ ap (λ (m : ℕ). m ∷ earlier) at.1 in
      let path = subst (λ (xs : List ℕ). IsPath (graph_step view.nodes) 0 xs) members_are is_path in
      record {
        earlier = earlier;
        ends = members_are;
        is_path = path;
        fate = can_end hits earlier first path begins (ap is_some left ∙ seen-there number ∙ at.2);
      }

  -- so its way names such a path
  pub noted_way : (hits : Bool) (nodes : List Node) (number : ℕ) (way : Way)
      → latest_at (ends_of found hits) n ≡ Some number → nodes ≡ view.nodes
      → IsWayOf nodes (trail_of entries) number way → NamesEnd view.nodes view.geometry found.start n way hits
  noted_way hits nodes number way noted same is_way =
      let way_is = subst (λ (nodes : List Node). IsWayOf nodes (trail_of entries) number way) same is_way in
      let to = noted_path hits number way_is.members noted way_is.chain way_is.path in
      record {
        earlier = to.earlier;
        is_path = to.is_path;
        names = subst (λ (xs : List ℕ). Names (graph_step view.nodes) way xs) to.ends way_is.named;
        fate = to.fate;
      }

  -- and not all paths to the node end otherwise
  pub noted_some : (hits : Bool) (number : ℕ) → latest_at (ends_of found hits) n ≡ Some number
      → AllEnd view.nodes view.geometry found.start n (not hits) → ⊥
  noted_some hits number noted all =
      let at = (is.ends hits).sound n number noted in
      let inside : number < length (trail_of entries) = omega (arith, at.0, length-trail entries) in
      let (earlier, chain, begun) = is.search.course.sound number inside in
      let members : List ℕ = node_at (trail_of entries) number ∷ earlier in
      let path = IsPath-chain view.nodes (trail_of entries) number members is.search.course.follows inside chain in
      let to = noted_path hits number members noted chain path in
      all to.earlier to.is_path
      (subst (λ (b : Bool). PathCanEnd view.nodes view.geometry found.start (n ∷ to.earlier) b) (sym (twice hits))
      to.fate)

  -- where no entry is noted for a hit, no path can hit, and where none is for a miss, none can miss
  none_ends : (hits : Bool) → latest_at (ends_of found hits) n ≡ None → (earlier : List ℕ)
      → IsPath (graph_step view.nodes) 0 (n ∷ earlier) → Can earlier hits → ⊥
  none_ends hits none earlier path can =
      let (first, begins, left) = left_there hits earlier path can in
      let (number, inside, at, has) = entry_there hits first begins earlier path left in
      let there = (is.ends hits).complete number inside has in
      none-some there.0 (sym none ∙ sym (ap (latest_at (ends_of found hits)) at) ∙ there.1)

  pub none_noted : (hits : Bool) → latest_at (ends_of found hits) n ≡ None
      → AllEnd view.nodes view.geometry found.start n (not hits)
  none_noted true none = none_ends true none
  none_noted false none = none_ends false none

-- the search as a value of its own
module _ (judged : Judged) (view : View) (found : Found)
    (same : record { view = view; start = found.start; block = found.block } ≡ judged)
    (is : IsJudgedBy view found) (law : EndsBySets view found.start found.block) (n : ℕ)
    (fetches : fetch_at judged.view.fetches n ≡ Some judged.block) where
  own : fetch_at view.fetches n ≡ Some found.block
  own = subst (λ (j : Judged). fetch_at j.view.fetches n ≡ Some j.block) (sym same) fetches

  -- a node that fetches the block is one of the search
  pub judged_inside : (hits : Bool) → n < length (ends_of found hits)
  judged_inside hits = elim (cases_lt n (length view.nodes)) [
    | inl inside ↦ omega (arith, inside, is.is_found.one_each hits)
    | inr past ↦
        absurd (none-some found.block (sym (get_or_past view.fetches n None (omega (arith, past, is.is_view.one_each)))
        ∙ own))
  ]

  -- the end that is noted for it is an entry
  pub judged_entry : (hits : Bool) (number : ℕ) → latest_at (ends_of found hits) n ≡ Some number
      → number < length (trail_of found.search.entries.items)
  judged_entry hits number noted = noted_inside view found hits n number is.is_found noted

  -- all paths hit, or all miss
  pub judged_all : (hits : Bool) → latest_at (ends_of found hits) n ≡ None
      → AllEnd judged.view.nodes judged.view.geometry judged.start n (not hits)
  judged_all hits none =
      subst (λ (j : Judged). AllEnd j.view.nodes j.view.geometry j.start n (not hits)) same
      (none_noted view found is.is_found law n own hits none)

  -- some hit, and some miss
  pub judged_both : (one two : ℕ) → latest_at (ends_of found true) n ≡ Some one
      → latest_at (ends_of found false) n ≡ Some two → IsClassification judged n Both
  judged_both one two hit miss =
      subst (λ (j : Judged). IsClassification j n Both) same
      (noted_some view found is.is_found law n own false two miss, noted_some view found is.is_found law n own true one hit)

  -- the path of an entry that is noted
  pub judged_path : (hits : Bool) (nodes : List Node) (number : ℕ) (members : List ℕ)
      → latest_at (ends_of found hits) n ≡ Some number → nodes ≡ view.nodes
      → IsChain (trail_of found.search.entries.items) (Some number) members → IsPath (graph_step nodes) 0 members
      → IsPathTo judged.view.nodes judged.view.geometry judged.start n hits members
  judged_path hits nodes number members noted graph chain path =
      subst (λ (j : Judged). IsPathTo j.view.nodes j.view.geometry j.start n hits members) same
      (noted_path view found is.is_found law n own hits number members noted chain
      (subst (λ (ns : List Node). IsPath (graph_step ns) 0 members) graph path))
