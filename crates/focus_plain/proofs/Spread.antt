-- Both edges of an entry's node, followed one after the other.
use Rattle.std.proofs.Common.{◌≡◌, ℕ, ◌<◌, inl, inr, List, length, get_or, Option, Some, None, sym, ap, subst, ◌∙◌, arith, length-append}
use Rattle.std.proofs.lemmas.List.{get_or_append_left}
use Rattle.std.proofs.lemmas.Option.{slice_get-get_or}
use Rattle.std.specs.Prelude.{slice_get}
use Rattle.path_model.proofs.Edges.{successor-from_node, leads-from_successor}
use Rattle.cache_spec.specs.declared.start.Start.{Start}
use Rattle.transition_spec.specs.Path.{IsSuccessor}
use Rattle.path_model.specs.declared.graph.Node.{Node}
use Rattle.path_model.specs.Graph.{graph_step}
use Rattle.path_trail.specs.Trail.{TrailEntry, node_at}
use Rattle.focus_spec.specs.Younger.{after, fetch_at}
use Rattle.set_view.specs.View.{View}
use Rattle.focus_plain.specs.declared.reach.Reach.{Reach}
use Rattle.focus_plain.specs.declared.search.Entry.{Entry}
use Rattle.focus_plain.specs.declared.search.Search.{Search}
use Rattle.focus_plain.specs.Cut.{cut, cut_after}
use Rattle.focus_plain.specs.Entries.{set_at, reached_set, IsReachable, trail_of, seen_of, seen_at, IsCourse, IsBetween}
use Rattle.focus_plain.specs.Search.{IsSearch, Extends, IsFollowed}
use Rattle.focus_plain.proofs.Order.{cut-cut}
use Rattle.focus_plain.proofs.Course.{node_at-prefix}
use Rattle.focus_plain.proofs.Table.{reached-longer}
use Rattle.focus_plain.proofs.Links.{entry_read, node-read, seen-read, length-trail, length-seen}
use Rattle.focus_plain.proofs.Followed.{IsStepped, stepped, extends_trans, between_extended}

-- what an entry has seen is cut already
pub small-read : (view : View) (start : Start) (block : ℕ) (trail : List TrailEntry) (seen : List (Option (List ℕ)))
    (number : ℕ)
    → IsCourse view start block trail seen → number < length trail
    → cut view.geometry.ways (seen_at seen number) ≡ seen_at seen number
small-read view start block trail seen number course inside =
    let P : Option (List ℕ) → Type 0 = λ o. cut view.geometry.ways o ≡ o in
    subst P (course.sound number inside).2.2 (cut-cut view.geometry.ways _)

-- both edges of an entry's node are followed, and what they lead to lies between entries
pub record AreStepped (view : View) (start : Start) (block : ℕ) (old new : Search) (index : ℕ) : Type 0 where
  pub search : IsSearch view start block new
  pub extends : Extends old new
  pub between : (m : ℕ) → IsSuccessor (graph_step view.nodes) (node_at (trail_of old.entries.items) index) m
      → IsBetween (trail_of new.entries.items) (seen_of new.sets.items new.entries.items) m
      (cut_after view block (node_at (trail_of old.entries.items) index)
      (seen_at (seen_of old.sets.items old.entries.items) index))

module _ (view : View) (start : Start) (block : ℕ) (old : Search) (is : IsSearch view start block old) (index : ℕ)
    (inside : index < length old.entries.items)
    (entry : Entry) (read : entry ≡ get_or old.entries.items index entry) where
  -- the entry is there
  found : slice_get old.entries.items index ≡ Some entry
  found = entry_read old.entries.items index entry inside read

  -- its node
  pub node_is : node_at (trail_of old.entries.items) index ≡ entry.node
  node_is = node-read old.entries.items index entry found

  -- what it has seen
  pub seen_is : seen_at (seen_of old.sets.items old.entries.items) index ≡ set_at old.sets.items entry.younger
  seen_is = seen-read old.sets.items old.entries.items index entry found

  -- its node is one of the graph's
  pub node_inside : entry.node < length view.nodes
  node_inside = omega (arith, is.linked.inside index inside, node_is, is.one_each)

  -- what it has seen is small, if it is there
  pub seen_small : cut view.geometry.ways (set_at old.sets.items entry.younger) ≡ set_at old.sets.items entry.younger
  seen_small =
      let P : Option (List ℕ) → Type 0 = λ o. cut view.geometry.ways o ≡ o in
      subst P seen_is (small-read view start block (trail_of old.entries.items)
      (seen_of old.sets.items old.entries.items)
      index is.course (omega (arith, inside, length-trail old.entries.items)))

  module _ (nodes : List Node) (same : nodes ≡ view.nodes) (none : Node)
      (law : (n m : ℕ) → IsSuccessor (graph_step view.nodes) n m → m < length view.nodes)
      (reached : Option Reach) (reachable : IsReachable old.sets.items reached)
      (value : reached_set old.sets.items reached
      ≡ cut_after view block entry.node (set_at old.sets.items entry.younger))
    where
      -- the node's successors
      abbrev node : Node
      node = get_or nodes entry.node none

      -- the node is there
      node_found : slice_get view.nodes (node_at (trail_of old.entries.items) index) ≡ Some node
      node_found =
          ap (slice_get view.nodes) node_is
          ∙ slice_get-get_or view.nodes entry.node none node_inside
          ∙ ap (λ (ns : List Node). Some (get_or ns entry.node none)) (sym same)

      -- what is left after the node
      abbrev younger : Option (List ℕ)
      younger = cut_after view block (node_at (trail_of old.entries.items) index)
          (seen_at (seen_of old.sets.items old.entries.items) index)

      -- is what is reached
      value_is : reached_set old.sets.items reached ≡ younger
      value_is =
          value
          ∙ ap (λ (n : ℕ). cut_after view block n (set_at old.sets.items entry.younger)) (sym node_is)
          ∙ ap (cut_after view block (node_at (trail_of old.entries.items) index)) (sym seen_is)

      -- a successor is one of the graph's nodes
      ends : (m : ℕ) → IsSuccessor (graph_step view.nodes) (node_at (trail_of old.entries.items) index) m
          → m < length view.nodes
      ends m edge = law (node_at (trail_of old.entries.items) index) m edge

      module _ (middle : Search) (first : IsFollowed old middle index node.first (reached_set old.sets.items reached))
        where
          -- the first edge
          pub first_stepped : IsStepped view start block old middle node.first (reached_set old.sets.items reached)
          first_stepped =
              stepped view start block old middle index node.first (reached_set old.sets.items reached) is inside
              (λ m at. successor-from_node view.nodes (node_at (trail_of old.entries.items) index) m node node_found
              (inl at))
              (λ m at. omega (
                arith,
                ends m (successor-from_node view.nodes (node_at (trail_of old.entries.items) index) m node node_found
                    (inl at)),
                is.one_each,
              ))
              value_is first

          -- the entry is there still
          inside_still : index < length middle.entries.items
          inside_still =
              omega (
                arith,
                inside,
                length-trail old.entries.items,
                length-trail middle.entries.items,
                ap length first_stepped.extends.trail.1,
                length-append (trail_of old.entries.items)
                    first_stepped.extends.trail.0,
              )

          -- at the same node
          node_still : node_at (trail_of middle.entries.items) index ≡ node_at (trail_of old.entries.items) index
          node_still =
              ap (λ (t : List TrailEntry). node_at t index) first_stepped.extends.trail.1
              ∙ node_at-prefix (trail_of old.entries.items) first_stepped.extends.trail.0 index
              (omega (arith, inside, length-trail old.entries.items))

          -- and has seen the same
          seen_still : seen_at (seen_of middle.sets.items middle.entries.items) index
              ≡ seen_at (seen_of old.sets.items old.entries.items) index
          seen_still =
              ap (λ (s : List (Option (List ℕ))). seen_at s index) first_stepped.extends.seen.1
              ∙ get_or_append_left (seen_of old.sets.items old.entries.items) first_stepped.extends.seen.0 None index
              (omega (arith, inside, length-seen old.sets.items old.entries.items))

          -- the same is reached
          reached_still : reached_set middle.sets.items reached ≡ reached_set old.sets.items reached
          reached_still = reached-longer old.sets.items middle.sets.items reached first_stepped.extends.sets reachable

          -- where it goes on from there
          value_still : reached_set middle.sets.items reached
              ≡ cut_after view block (node_at (trail_of middle.entries.items) index)
              (seen_at (seen_of middle.sets.items middle.entries.items) index)
          value_still =
              reached_still ∙ value_is
              ∙ ap (λ (n : ℕ). cut_after view block n (seen_at (seen_of old.sets.items old.entries.items) index))
              (sym node_still)
              ∙ ap (cut_after view block (node_at (trail_of middle.entries.items) index)) (sym seen_still)

          -- the second edge
          second_edge : (m : ℕ) → node.second ≡ Some m
              → IsSuccessor (graph_step view.nodes) (node_at (trail_of old.entries.items) index) m
          second_edge m at = successor-from_node view.nodes (node_at (trail_of old.entries.items) index) m node
              node_found (inr at)

          module _ (new : Search)
              (second : IsFollowed middle new index node.second (reached_set middle.sets.items reached)) where
            -- the second edge is followed from there
            second_stepped : IsStepped view start block middle new node.second (reached_set middle.sets.items reached)
            second_stepped =
                stepped view start block middle new index node.second (reached_set middle.sets.items reached)
                first_stepped.search inside_still
                (λ m at. subst (λ (n : ℕ). IsSuccessor (graph_step view.nodes) n m) (sym node_still)
                (second_edge m at))
                (λ m at. omega (arith, ends m (second_edge m at), first_stepped.search.one_each))
                value_still second

            -- both edges are
            pub both_stepped : AreStepped view start block old new index
            both_stepped = record {
              search = second_stepped.search;
              extends = extends_trans old middle new first_stepped.extends second_stepped.extends;
              between = λ m edge.
                  let from = node_at (trail_of old.entries.items) index in
                  elim (leads-from_successor view.nodes from m node node_found edge) [
                    | inl at ↦
                        between_extended view start block middle new m younger first_stepped.search
                        second_stepped.extends
                        (subst (λ (y : Option (List ℕ)). IsBetween (trail_of middle.entries.items)
                        (seen_of middle.sets.items middle.entries.items) m y) value_is (first_stepped.between m at))
                    | inr at ↦
                        subst (IsBetween (trail_of new.entries.items) (seen_of new.sets.items new.entries.items) m)
                        (reached_still ∙ value_is) (second_stepped.between m at)
                  ];
            }

-- what is reached by the numbers that were read is what the node leaves after
pub value_from : (view : View) (block n : ℕ) (table sets : List (List ℕ)) (ways : ℕ) (fetch younger : Option ℕ)
    (reached : Option Reach) → table ≡ sets
    → ways ≡ view.geometry.ways → fetch ≡ fetch_at view.fetches n
    → reached_set table reached ≡ cut ways (after block fetch (set_at table younger))
    → reached_set sets reached ≡ cut_after view block n (set_at sets younger)
value_from view block n table sets ways fetch younger reached same ways_is fetch_is value =
    ap (λ (s : List (List ℕ)). reached_set s reached) (sym same) ∙ value
    ∙ ap (λ (s : List (List ℕ)). cut ways (after block fetch (set_at s younger))) same
    ∙ ap (λ (w : ℕ). cut w (after block fetch (set_at sets younger))) ways_is
    ∙ ap (λ (f : Option ℕ). cut view.geometry.ways (after block f (set_at sets younger))) fetch_is
