-- A framework over a graph has a least solution: changes are made as long as an edge calls for one, and since rising
-- chains are short they come to an end (Kam and Ullman 1977).
use Rattle.std.proofs.Common.{◌≡◌, ◌≢◌, ◌⊎◌, ℕ, zero, suc, ◌+◌, ◌*◌, ◌<◌, ◌≤◌, Bool, true, false, List, [], ◌∷◌, ◌++◌, length, replicate, slice_set, map, Option, Some, None, refl, sym, ◌∙◌, ap, subst, inl, inr, arith}
use Rattle.std.specs.Prelude.{slice_get}
use Rattle.std.specs.Option.{option_map}
use Rattle.std.proofs.lemmas.Option.{same_Some, none-some}
use Rattle.std.proofs.lemmas.Bool.{cases_lt}
use Rattle.std.proofs.lemmas.List.{length-replicate, length-append}
use Rattle.transition_spec.specs.Path.{IsSuccessor}
use Rattle.path_model.specs.declared.graph.Node.{Node}
use Rattle.path_model.specs.Graph.{IsGraph, graph_step}
use Rattle.path_model.proofs.Edges.{LeadsTo, node-from_successor, leads-from_successor, successor-from_node}
use Rattle.lattice_fix.specs.declared.change.Change.{Change}
use Rattle.lattice_fix.specs.Framework.{Framework, IsMonotone}
use Rattle.lattice_fix.specs.Solution.{IsLeast}
use Rattle.lattice_fix.specs.Solved.{somes}
use Rattle.lattice_fix.specs.Replay.{value_at, joined, Raises}
use Rattle.lattice_fix.specs.Course.{IsCourse, IsMet, IsMoved, IsReceived, IsNoted, data_of}
use Rattle.lattice_fix.proofs.Edges.{edge_inside}
use Rattle.lattice_fix.proofs.Steps.{at_replicate}
use Rattle.lattice_fix.proofs.Joined.{joined_within}
use Rattle.lattice_fix.proofs.Begun.{course_begun}
use Rattle.lattice_fix.proofs.Carried.{course_carried}
use Rattle.lattice_fix.proofs.Chains.{length-replay}
use Rattle.lattice_fix.proofs.Finished.{finished}

module _ {D : Type 0} (F : Framework D) (M : IsMonotone F) (nodes : List Node) (graph : IsGraph nodes)
    (same : (x y : D) → (x ≡ y) ⊎ (x ≢ y)) where
  -- a value stands for itself
  abbrev itself : D → D
  itself x = x

  -- no node waits
  abbrev idle : List Bool
  idle = replicate (length nodes) false

  -- changes that lead from nothing to what the nodes have
  abbrev IsRun : List (Option D) → List Change → Type 0
  IsRun held changes = IsCourse F F.carrier itself nodes held changes idle

  -- one of more changes than that
  abbrev Longer : ℕ → Type 0
  Longer count = (held : List (Option D)) × (changes : List Change) × IsRun held changes × (count < length changes)

  -- which nodes wait doesn't matter
  idled : (held : List (Option D)) (changes : List Change) (waiting : List Bool)
      → IsCourse F F.carrier itself nodes held changes waiting → IsRun held changes
  idled held changes waiting course = record {
    graph = graph;
    one_each = course.one_each;
    one_flag_each = length-replicate (length nodes) false;
    fit = course.fit;
    begun = course.begun;
    replay = course.replay;
  }

  -- the first brings the start to node 0
  first : Longer 0
  first =
      let held : List (Option D) = slice_set (replicate (length nodes) None) 0 (Some F.start) in
      let changes : List Change = record { node = 0; from = None } ∷ [] in
      let waiting : List Bool = slice_set idle 0 true in (
        held,
        changes,
        idled held changes waiting (course_begun F M F.carrier itself nodes graph F.start M.start_within
            refl held refl changes refl waiting refl),
        omega arith,
      )

  -- what stands for itself
  itself-one : (o : Option D) → option_map itself o ≡ o
  itself-one None = refl
  itself-one (Some x) = refl

  itself-all : (held : List (Option D)) → data_of itself held ≡ held
  itself-all [] = refl
  itself-all (None ∷ held) = ap (λ (w : List (Option D)). None ∷ w) (itself-all held)
  itself-all (Some x ∷ held) = ap (λ (w : List (Option D)). Some x ∷ w) (itself-all held)

  module _ (held : List (Option D)) (changes : List Change) (run : IsRun held changes) where
    -- an edge that raises makes it longer
    raised : (n m : ℕ) (x : D) → IsSuccessor (graph_step nodes) n m → value_at held n ≡ Some x
        → Raises F (value_at held m) (F.transfer n x) → Longer (length changes)
    raised n m x edge had raises =
        let moved : D = F.transfer n x in
        let o : Option D = value_at held m in
        let top : D = joined F o moved in
        let cx : F.carrier moved = M.transfer_within n x (run.fit n x had) in
        let is : IsMoved F F.carrier itself held n moved =
        record { fit = cx; value = x; held = had; same = refl } in
        let got : IsReceived F F.carrier itself o moved true (Some top) = record {
          value = top;
          held = refl;
          fit = joined_within F M o moved (run.fit m) cx;
          same = ap (λ (p : Option D). joined F p moved) (sym (itself-one o));
          raises = λ on. subst (λ (p : Option D). Raises F p moved) (sym (itself-one o)) raises;
          keeps = λ off. absurd (cc);
        } in
        let change : Change = record { node = m; from = Some n } in
        let noted : IsNoted true n m changes idle (changes ++ change ∷ []) (slice_set idle m true) =
        record { raise = λ on. (refl, refl); none = λ off. absurd (cc) } in
        let course = course_carried F M F.carrier itself nodes held changes idle run n m edge moved is true (Some top)
        got (changes ++ change ∷ []) (slice_set idle m true) noted in (
          slice_set held m (Some top),
          changes ++ change ∷ [],
          idled (slice_set held m (Some top))
              (changes ++ change ∷ []) (slice_set idle m true) course,
          omega (arith, length-append changes (change ∷ [])),
        )

    -- an edge is met, or raises
    met_at : (n m : ℕ) (x : D) (o : Option D) → IsSuccessor (graph_step nodes) n m → value_at held n ≡ Some x
        → value_at held m ≡ o → IsMet F held n m ⊎ Longer (length changes)
    met_at n m x None edge had has =
        inr (raised n m x edge had (subst (λ (p : Option D). Raises F p (F.transfer n x)) (sym has) tt))
    met_at n m x (Some y) edge had has =
        let moved : D = F.transfer n x in
        elim (same (F.join y moved) y) [
          | inl level ↦
              let below : F.below moved (F.join y moved) =
              M.join_right y moved (run.fit m y has) (M.transfer_within n x (run.fit n x had)) in
              inl (λ z is. (
                y,
                has,
                subst (λ (w : D). F.below (F.transfer n w) y) (same_Some x z (sym had ∙ is))
                    (subst (F.below moved) level below),
              ))
          | inr apart ↦ inr (raised n m x edge had (subst (λ (p : Option D). Raises F p moved) (sym has) apart))
        ]

    edge_met : (n m : ℕ) (o : Option D) → IsSuccessor (graph_step nodes) n m → value_at held n ≡ o
        → IsMet F held n m ⊎ Longer (length changes)
    edge_met n m None edge had = inl (λ x is. absurd (none-some x (sym had ∙ is)))
    edge_met n m (Some x) edge had = met_at n m x (value_at held m) edge had refl

    -- so is the edge to a successor that the node may have
    one_met : (n : ℕ) (o : Option ℕ) → ((m : ℕ) → o ≡ Some m → IsSuccessor (graph_step nodes) n m)
        → ((m : ℕ) → o ≡ Some m → IsMet F held n m) ⊎ Longer (length changes)
    one_met n None leads = inl (λ m is. absurd (none-some m is))
    one_met n (Some m) leads = elim (edge_met n m (value_at held n) (leads m refl) refl) [
      | inl met ↦ inl (λ k is. subst (IsMet F held n) (same_Some m k is) met)
      | inr longer ↦ inr longer
    ]

    -- all edges from a node are
    abbrev AllMet : ℕ → Type 0
    AllMet n = (m : ℕ) → IsSuccessor (graph_step nodes) n m → IsMet F held n m

    node_met : (n : ℕ) (o : Option Node) → slice_get nodes n ≡ o → AllMet n ⊎ Longer (length changes)
    node_met n None found = inl (λ m edge.
        let named = node-from_successor nodes n m edge in absurd (none-some named.0 (sym found ∙ named.1)))
    node_met n (Some here) found =
        let to : (m : ℕ) → LeadsTo here m → IsSuccessor (graph_step nodes) n m =
        λ m leads. successor-from_node nodes n m here found leads in
        elim (one_met n here.first (λ m is. to m (inl is))) [
          | inl one ↦ elim (one_met n here.second (λ m is. to m (inr is))) [
            | inl two ↦ inl (λ m edge. elim (leads-from_successor nodes n m here found edge) [
              | inl is ↦ one m is
              | inr is ↦ two m is
            ])
            | inr longer ↦ inr longer
          ]
          | inr longer ↦ inr longer
        ]

    -- and from all nodes below a bound
    nodes_met : (bound : ℕ) → ((n : ℕ) → n < bound → AllMet n) ⊎ Longer (length changes)
    nodes_met zero = inl (λ n inside. absurd (omega (arith, inside)))
    nodes_met (suc bound) = elim (nodes_met bound) [
      | inl met ↦ elim (node_met bound (slice_get nodes bound) refl) [
        | inl last ↦ inl (λ n inside. elim (cases_lt n bound) [
          | inl less ↦ met n less
          | inr more ↦ let at : bound ≡ n = omega (arith, inside, more) in subst AllMet at last
        ])
        | inr longer ↦ inr longer
      ]
      | inr longer ↦ inr longer
    ]

    -- where all edges are met there is a least solution
    met_least : ((n : ℕ) → n < length nodes → AllMet n) → (before : List D) × IsLeast F nodes before
    met_least met =
        let end = finished F M F.carrier itself nodes held changes idle run
        (λ n m edge done. subst (λ (w : List (Option D)). IsMet F w n m) (sym (itself-all held))
        (met n (edge_inside nodes graph n m edge).0 m edge))
        (λ n. at_replicate (length nodes) n false) in
        (map itself (somes held), end.least)

    -- there can't be more changes than this
    short : length changes ≤ length nodes * F.height
    short =
        let long : length (data_of itself held) ≡ length nodes = ap length (itself-all held) ∙ run.one_each in
        length-replay F M nodes changes (data_of itself held) run.replay long

  -- changes are made until no edge raises
  rise : (fuel : ℕ) (held : List (Option D)) (changes : List Change) → IsRun held changes
      → length nodes * F.height < length changes + fuel → (before : List D) × IsLeast F nodes before
  rise zero held changes run room = absurd (omega (arith, room, short held changes run))
  rise (suc fuel) held changes run room = elim (nodes_met held changes run (length nodes)) [
    | inl met ↦ met_least held changes run met
    | inr longer ↦ rise fuel longer.0 longer.1 longer.2 (omega (arith, room, longer.3))
  ]

  -- there is a least solution
  pub least_exists : (before : List D) × IsLeast F nodes before
  least_exists =
      rise (length nodes * F.height) first.0 first.1 first.2 (omega (arith, first.3))
