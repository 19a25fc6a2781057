-- The paths of a graph and those of its runs.
use Rattle.std.proofs.Common.{◌≡◌, ◌==◌, ◌↔◌, ℕ, zero, suc, ◌<◌, ⊎_elim, Bool, true, not, cond, List, [], ◌∷◌, length, map, refl, ap, sym, ◌∙◌, subst, arith}
use Rattle.transition_spec.specs.Path.{IsPath, IsSuccessor}
use Rattle.cache_spec.specs.declared.start.Start.{Start}
use Rattle.cache_spec.specs.Geometry.{Geometry, block_of, set_of}
use Rattle.cache_spec.specs.Lru.{touch, is_in}
use Rattle.cache_spec.specs.Contents.{contents}
use Rattle.cache_spec.specs.Start.{CanEnd}
use Rattle.path_model.specs.Graph.{graph_step, address_of}
use Rattle.path_model.proofs.Reached.{successor_inside}
use Rattle.focus_spec.specs.Fate.{AllEnd, PathCanEnd}
use Rattle.line_blocks.specs.Runs.{Runs, AreRuns, IsHead, SomeEnds, run_of, head_of, last_of}
use Rattle.line_blocks.specs.Expand.{KeepAlike, IsDown, IsUp}
use Rattle.line_blocks.proofs.Fetches.{same_again, hits_again}
use Rattle.line_blocks.proofs.Edges.{AreMade, head_or_not, edge_inside, inner_edge, head_edge, run_address, small_inside, edge_back, zero_inside, run_inside, zero_run, zero_head, head_is, later_positive}

-- the last fetch can do the same where sets keep the same before it
pub fate_by : (g : Geometry) (start : Start) (hits : Bool) (a b : ℕ) (xs ys : List ℕ) → a ≡ b
    → ((set : ℕ) (held : List ℕ) → contents g set held xs ≡ contents g set held ys)
    → CanEnd g start (a ∷ xs) hits → CanEnd g start (b ∷ ys) hits
fate_by g start hits a b xs ys same alike end = subst (λ (k : ℕ). CanEnd g start (k ∷ ys) hits) same
    (end.0, end.1, sym (ap (λ (kept : List ℕ). is_in kept (block_of g a)) (alike (set_of g (block_of g a)) end.0)) ∙ end.2)

module _ (r : Runs) (are : AreRuns r) where
  pub base : AreMade r
  base = record { whole = are.whole; plan = are.plan; made = are.made }

  -- both keep the same after the first node of a run
  pub after_head : (n : ℕ) (earlier other : List ℕ) → n < length r.nodes → IsHead r.numbers r.runs n
      → KeepAlike r earlier other → KeepAlike r (n ∷ earlier) (run_of r.numbers n ∷ other)
  after_head n earlier other inside head alike set held =
      let own : ℕ = address_of r.nodes n in
      let same : address_of r.small (run_of r.numbers n) ≡ own =
      run_address r base (run_of r.numbers n) (run_inside r base n inside) ∙ ap (address_of r.nodes) head in
      let fetched : List ℕ → ℕ → List ℕ = λ kept a.
      cond (set_of r.shape (block_of r.shape a) == set) (touch r.shape.ways kept (block_of r.shape a)) kept in
      ap (λ (kept : List ℕ). fetched kept own) (alike set held)
      ∙ ap (λ (a : ℕ). fetched (contents r.shape set held (map (address_of r.small) other)) a) (sym same)

  -- and after each other node of it
  pub after_inner : (d n : ℕ) (earlier other : List ℕ) → IsSuccessor (graph_step r.nodes) d n
      → (IsHead r.numbers r.runs n → ⊥) → KeepAlike r (d ∷ earlier) other → KeepAlike r (n ∷ d ∷ earlier) other
  after_inner d n earlier other edge later alike set held =
      same_again r.shape set held (address_of r.nodes n) (address_of r.nodes d) (map (address_of r.nodes) earlier)
      are.ways (inner_edge r base d n edge later).2
      ∙ alike set held

  -- at the start
  pub down_first : IsDown r 0 [] []
  down_first = record {
    path = zero_run r base;
    before = λ head set held. refl;
    after = after_head 0 [] [] (zero_inside r base) (zero_head r base) (λ set held. refl);
  }

  -- a step to the first node of a run
  pub down_head : (d n : ℕ) (earlier other : List ℕ) → IsSuccessor (graph_step r.nodes) d n → IsHead r.numbers r.runs n
      → IsDown r d earlier other → IsDown r n (d ∷ earlier) (run_of r.numbers d ∷ other)
  down_head d n earlier other edge head down = record {
    path = (head_edge r base d n edge head, down.path);
    before = λ _. down.after;
    after = after_head n (d ∷ earlier) (run_of r.numbers d ∷ other) (successor_inside r.nodes d n are.whole edge) head
        down.after;
  }

  -- a step within a run
  pub down_inner : (d n : ℕ) (earlier other : List ℕ) → IsSuccessor (graph_step r.nodes) d n
      → (IsHead r.numbers r.runs n → ⊥) → IsDown r d earlier other → IsDown r n (d ∷ earlier) other
  down_inner d n earlier other edge later down =
      let same : run_of r.numbers d ≡ run_of r.numbers n = sym (inner_edge r base d n edge later).1 in
      record {
        path = subst (λ (p : ℕ). IsPath (graph_step r.small) 0 (p ∷ other)) same down.path;
        before = λ head. absurd (later head);
        after = subst (λ (p : ℕ). KeepAlike r (n ∷ d ∷ earlier) (p ∷ other)) same
            (after_inner d n earlier (run_of r.numbers d ∷ other) edge later down.after);
      }

  -- each path has one of the runs
  pub down_from : (n : ℕ) (earlier : List ℕ) → IsPath (graph_step r.nodes) 0 (n ∷ earlier)
      → (other : List ℕ) × IsDown r n earlier other
  down_from n [] path = ([], subst (λ (k : ℕ). IsDown r k [] []) (sym path) down_first)
  down_from n (d ∷ earlier) path =
      let rest = down_from d earlier path.1 in
      ⊎_elim
      (λ (head : IsHead r.numbers r.runs n).
      (run_of r.numbers d ∷ rest.0, down_head d n earlier rest.0 path.0 head rest.1))
      (λ (later : IsHead r.numbers r.runs n → ⊥). (rest.0, down_inner d n earlier rest.0 path.0 later rest.1))
      (head_or_not r.numbers r.runs n)

  abbrev Up : ℕ → List ℕ → Type 0
  Up n other = (earlier : List ℕ) × IsUp r n earlier other

  -- from the first node of a run to each other one
  along_run : (bound n : ℕ) (other : List ℕ) → n < bound → n < length r.nodes
      → Up (head_of r.runs (run_of r.numbers n)) other → Up n other
  along_run zero n other small inside up = absurd (omega (arith, small))
  along_run (suc bound) n other small inside up = ⊎_elim
      (λ (head : IsHead r.numbers r.runs n). subst (λ (k : ℕ). Up k other) head up)
      (λ (later : IsHead r.numbers r.runs n → ⊥).
      let before = are.whole.reached n (later_positive r base n later) inside in
      let d : ℕ = before.0 in
      let same : run_of r.numbers n ≡ run_of r.numbers d = (inner_edge r base d n before.2 later).1 in
      let rest = along_run bound d other (omega (arith, before.1, small)) (omega (arith, before.1, inside))
      (subst (λ (p : ℕ). Up (head_of r.runs p) other) same up) in (
        d ∷ rest.0,
        record {
          path = (before.2, rest.1.path);
          down = down_inner d n rest.0 other before.2 later rest.1.down;
        },
      ))
      (head_or_not r.numbers r.runs n)

  -- each path of the runs has one of the whole graph, to the first node of the last run
  pub up_from : (q : ℕ) (other : List ℕ) → q < length r.runs → IsPath (graph_step r.small) 0 (q ∷ other)
      → Up (head_of r.runs q) other
  up_from q [] some path =
      let zero_is : 0 ≡ head_of r.runs q = sym (ap (head_of r.runs) path ∙ are.plan.0) in
      subst (λ (k : ℕ). Up k []) zero_is ([], record { path = refl; down = down_first })
  up_from q (p ∷ other) some path =
      let inside : p < length r.runs = small_inside r base p q path.0 in
      let last : ℕ = last_of r.runs p in
      let own : run_of r.numbers last ≡ p = (are.plan.2 p inside).2 in
      let edge : IsSuccessor (graph_step r.nodes) last (head_of r.runs q) = edge_back r base p q path.0 in
      let last_is : last < length r.nodes = edge_inside r base last (head_of r.runs q) edge in
      let enough : last < suc last = omega arith in
      let rest = along_run (suc last) last other enough last_is
      (subst (λ (k : ℕ). Up (head_of r.runs k) other) (sym own) (up_from p other inside path.1)) in (
        last ∷ rest.0,
        record {
          path = (edge, rest.1.path);
          down = subst (λ (k : ℕ). IsDown r (head_of r.runs q) (last ∷ rest.0) (k ∷ other)) own
              (down_head last (head_of r.runs q) rest.0 other edge (head_is r base q some) rest.1.down);
        },
      )

  -- what a path to the first node of a run can do, a path of the runs can
  pub end_down : (start : Start) (p : ℕ) (hits : Bool) (earlier : List ℕ) → p < length r.runs
      → IsPath (graph_step r.nodes) 0 (head_of r.runs p ∷ earlier)
      → PathCanEnd r.nodes r.shape start (head_of r.runs p ∷ earlier) hits
      → SomeEnds r.small r.shape start p hits
  end_down start p hits earlier inside path end =
      let down = down_from (head_of r.runs p) earlier path in
      let own : run_of r.numbers (head_of r.runs p) ≡ p = (are.plan.2 p inside).1 in (
        down.0,
        subst (λ (k : ℕ). IsPath (graph_step r.small) 0 (k ∷ down.0)) own down.1.path,
        fate_by r.shape start hits (address_of r.nodes (head_of r.runs p)) (address_of r.small p)
            (map (address_of r.nodes) earlier) (map (address_of r.small) down.0) (sym (run_address r base p inside))
            (down.1.before (head_is r base p inside)) end,
      )

  -- and back
  pub end_up : (start : Start) (p : ℕ) (hits : Bool) (other : List ℕ) → p < length r.runs
      → IsPath (graph_step r.small) 0 (p ∷ other) → PathCanEnd r.small r.shape start (p ∷ other) hits
      → SomeEnds r.nodes r.shape start (head_of r.runs p) hits
  end_up start p hits other inside path end =
      let up = up_from p other inside path in (
        up.0,
        up.1.path,
        fate_by r.shape start hits (address_of r.small p) (address_of r.nodes (head_of r.runs p))
            (map (address_of r.small) other) (map (address_of r.nodes) up.0) (run_address r base p inside)
            (λ set held. sym (up.1.down.before (head_is r base p inside) set held)) end,
      )

  pub some_alike : (start : Start) (p : ℕ) (hits : Bool) → p < length r.runs
      → SomeEnds r.nodes r.shape start (head_of r.runs p) hits ↔ SomeEnds r.small r.shape start p hits
  some_alike start p hits inside = (
    λ end. end_down start p hits end.0 inside end.1 end.2,
    λ end. end_up start p hits end.0 inside end.1 end.2,
  )

  pub all_alike : (start : Start) (p : ℕ) (hits : Bool) → p < length r.runs
      → AllEnd r.nodes r.shape start (head_of r.runs p) hits ↔ AllEnd r.small r.shape start p hits
  all_alike start p hits inside = (
    λ all other path end. let up = end_up start p (not hits) other inside path end in all up.0 up.1 up.2,
    λ all earlier path end. let down = end_down start p (not hits) earlier inside path end in all down.0 down.1 down.2,
  )

  -- a node that isn't the first of its run always hits
  pub inner_hits : (start : Start) (n : ℕ) → (IsHead r.numbers r.runs n → ⊥) → AllEnd r.nodes r.shape start n true
  inner_hits start n later [] path end = later (subst (IsHead r.numbers r.runs) (sym path) (zero_head r base))
  inner_hits start n later (d ∷ earlier) path end =
      let hit = hits_again r.shape end.0 (address_of r.nodes n) (address_of r.nodes d) (map (address_of r.nodes) earlier)
      are.ways (inner_edge r base d n path.0 later).2 in
      absurd (cc (hit, end.2))
