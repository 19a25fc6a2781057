-- Solutions over a flow graph and over the graph of its runs.
use Rattle.std.proofs.Common.{◌≡◌, ◌==◌, ℕ, zero, suc, ◌<◌, ⊎_elim, cond, List, length, get_or, Option, Some, ap, sym, ◌∙◌, subst, arith}
use Rattle.std.specs.Prelude.{slice_get}
use Rattle.std.proofs.lemmas.Bool.Decides.{nat_tests}
use Rattle.std.proofs.lemmas.Option.{same_Some, slice_get_within, slice_get-get_or}
use Rattle.list_lemmas.proofs.Members.{found-inside}
use Rattle.transition_spec.specs.Path.{IsSuccessor}
use Rattle.path_model.specs.Graph.{graph_step}
use Rattle.path_model.proofs.Reached.{successor_inside}
use Rattle.lattice_fix.specs.Framework.{Framework, IsMonotone}
use Rattle.lattice_fix.specs.Solution.{IsSolution, IsLeast}
use Rattle.line_blocks.specs.declared.plan.Run.{Run}
use Rattle.line_blocks.specs.Runs.{Runs, AreRuns, IsHead, run_of, head_of, last_of, head_in}
use Rattle.line_blocks.specs.Alike.{MoveAlike, head_data}
use Rattle.line_blocks.proofs.Edges.{head_or_not, head_is, run_inside, zero_run, zero_head, later_positive, inner_edge, head_edge, edge_inside, edge_back, small_inside}
use Rattle.line_blocks.proofs.Walks.{base}
use Rattle.line_blocks.proofs.Blocks.{as_many}
use Rattle.line_blocks.proofs.Data.{HaveData, table, length-table, table_at, length-head_data, head_datum_at}

module _ {D : Type 0} (r : Runs) (are : AreRuns r) (F G : Framework D) (laws : IsMonotone F) (alike : MoveAlike r F G) where
  -- an edge of the whole graph
  abbrev Edge : ℕ → ℕ → Type 0
  Edge n m = IsSuccessor (graph_step r.nodes) n m

  -- the run of a node
  abbrev number : ℕ → ℕ
  number n = run_of r.numbers n

  -- the first node of its run
  abbrev head : ℕ → ℕ
  head n = head_of r.runs (number n)

  -- a node isn't the first of its run
  abbrev IsLater : ℕ → Type 0
  IsLater n = IsHead r.numbers r.runs n → ⊥

  module _ (before : List D) (solves : IsSolution F r.nodes before) where
    -- each node has a datum
    has_one : (n : ℕ) → n < length r.nodes → (x : D) × (slice_get before n ≡ Some x)
    has_one n inside = found-inside before n (subst (λ (c : ℕ). n < c) (sym solves.one_each) inside)

    -- a node with a datum is one of the graph
    is_node : (n : ℕ) (x : D) → slice_get before n ≡ Some x → n < length r.nodes
    is_node n x has = subst (λ (c : ℕ). n < c) solves.one_each (slice_get_within before n x has)

    -- the first node of a run is one
    head_inside : (n : ℕ) → n < length r.nodes → head n < length r.nodes
    head_inside n inside = (are.plan.2 (number n) (run_inside r (base r are) n inside)).0

    -- a node makes at least what the first node of its run makes
    abbrev MakesMore : D → ℕ → D → Type 0
    MakesMore x n y = F.below (F.transfer (head n) x) (F.transfer n y)

    -- where this holds of the nodes before a later node of a run, what that one has is no less
    has_more_by : (n : ℕ) (x y : D) → IsLater n → slice_get before (head n) ≡ Some x → slice_get before n ≡ Some y
        → ((d : ℕ) (z : D) → d < n → slice_get before (head d) ≡ Some x → slice_get before d ≡ Some z → MakesMore x d z)
        → F.below (F.transfer (head n) x) y
    has_more_by n x y later has_x has_y earlier_make =
        let inside : n < length r.nodes = is_node n y has_y in
        let earlier = are.whole.reached n (later_positive r (base r are) n later) inside in
        let d : ℕ = earlier.0 in
        let same : number n ≡ number d = (inner_edge r (base r are) d n earlier.2 later).1 in
        let there = has_one d (omega (arith, earlier.1, inside)) in
        let has_first : slice_get before (head d) ≡ Some x =
        subst (λ (p : ℕ). slice_get before (head_of r.runs p) ≡ Some x) same has_x in
        let made : D = F.transfer (head n) x in
        let more : F.below made (F.transfer d there.0) =
        subst (λ (p : ℕ). F.below (F.transfer (head_of r.runs p) x) (F.transfer d there.0)) (sym same)
        (earlier_make d there.0 earlier.1 has_first there.1) in
        laws.transitive made (F.transfer d there.0) y
        (laws.transfer_within (head n) x (solves.within (head n) x has_x))
        (laws.transfer_within d there.0 (solves.within d there.0 there.1)) (solves.within n y has_y) more
        (solves.follows d n there.0 y earlier.2 there.1 has_y)

    -- it holds of each node
    makes_more : (bound n : ℕ) (x y : D) → n < bound → slice_get before (head n) ≡ Some x → slice_get before n ≡ Some y
        → MakesMore x n y
    makes_more zero n x y small has_x has_y = absurd (omega (arith, small))
    makes_more (suc bound) n x y small has_x has_y =
        let made : D = F.transfer (head n) x in
        let cx : F.carrier x = solves.within (head n) x has_x in
        ⊎_elim
        (λ (is : IsHead r.numbers r.runs n).
        let same : x ≡ y = same_Some x y (sym has_x ∙ (ap (slice_get before) is ∙ has_y)) in
        subst (λ (z : D). F.below made z) (ap (λ (k : ℕ). F.transfer k x) is ∙ ap (F.transfer n) same)
        (laws.reflexive made (laws.transfer_within (head n) x cx)))
        (λ (later : IsLater n).
        let more : F.below made y = has_more_by n x y later has_x has_y
        (λ d z less. makes_more bound d x z (omega (arith, less, small))) in
        subst (λ (z : D). F.below z (F.transfer n y)) (alike.again n x (is_node n y has_y) later cx)
        (laws.monotone n made y (laws.transfer_within (head n) x cx) (solves.within n y has_y) more))
        (head_or_not r.numbers r.runs n)

    -- so what a later node of a run has is at least what the first one makes
    has_more : (n : ℕ) (x y : D) → IsLater n → slice_get before (head n) ≡ Some x → slice_get before n ≡ Some y
        → F.below (F.transfer (head n) x) y
    has_more n x y later has_x has_y =
        has_more_by n x y later has_x has_y (λ d z less. makes_more n d x z less)

    -- the first nodes of the runs have data
    have_data : HaveData before r.runs
    have_data p run at =
        let inside : p < length r.runs = slice_get_within r.runs p run at in
        let is : head_of r.runs p ≡ run.head = ap head_in at in
        omega (arith, is, (are.plan.2 p inside).0, solves.one_each)

    -- there is one for each run
    heads_long : length (head_data before r.runs) ≡ length r.small
    heads_long = length-head_data before r.runs have_data ∙ sym (as_many r are)

    -- it is that of the first node of the run
    heads_at : (p : ℕ) → p < length r.runs
        → slice_get (head_data before r.runs) p ≡ slice_get before (head_of r.runs p)
    heads_at p inside =
        let found = found-inside r.runs p inside in
        head_datum_at before r.runs p found.0 have_data found.1
        ∙ ap (λ (o : Option Run). slice_get before (head_in o)) (sym found.1)

    -- a run with a datum is one of the runs
    is_run : (p : ℕ) (x : D) → slice_get (head_data before r.runs) p ≡ Some x → p < length r.runs
    is_run p x has =
        subst (λ (c : ℕ). p < c) (heads_long ∙ as_many r are) (slice_get_within (head_data before r.runs) p x has)

    -- its datum is one of the first node of the run
    comes : (p : ℕ) (x : D) → slice_get (head_data before r.runs) p ≡ Some x → slice_get before (head_of r.runs p) ≡ Some x
    comes p x has = sym (heads_at p (is_run p x has)) ∙ has

    -- over an edge of the runs it rises enough
    over_edge : (p q : ℕ) (x w : D) → IsSuccessor (graph_step r.small) p q → slice_get before (head_of r.runs p) ≡ Some x
        → slice_get before (head_of r.runs q) ≡ Some w → F.below (F.transfer (head_of r.runs p) x) w
    over_edge p q x w edge has_x has_w =
        let inside : p < length r.runs = small_inside r (base r are) p q edge in
        let last : ℕ = last_of r.runs p in
        let out : Edge last (head_of r.runs q) = edge_back r (base r are) p q edge in
        let last_inside : last < length r.nodes = edge_inside r (base r are) last (head_of r.runs q) out in
        let own : number last ≡ p = (are.plan.2 p inside).2 in
        let there = has_one last last_inside in
        let enough : last < suc last = omega arith in
        let made : D = F.transfer (head_of r.runs p) x in
        let rest : F.below (F.transfer (head last) x) (F.transfer last there.0) =
        makes_more (suc last) last x there.0 enough
        (subst (λ (k : ℕ). slice_get before (head_of r.runs k) ≡ Some x) (sym own) has_x) there.1 in
        let first : F.below made (F.transfer last there.0) =
        subst (λ (k : ℕ). F.below (F.transfer (head_of r.runs k) x) (F.transfer last there.0)) own rest in
        laws.transitive made (F.transfer last there.0) w
        (laws.transfer_within (head_of r.runs p) x (solves.within (head_of r.runs p) x has_x))
        (laws.transfer_within last there.0 (solves.within last there.0 there.1))
        (solves.within (head_of r.runs q) w has_w) first
        (solves.follows last (head_of r.runs q) there.0 w out there.1 has_w)

    -- so the first nodes of the runs have a solution over the graph of the runs
    heads_solve : IsSolution G r.small (head_data before r.runs)
    heads_solve = record {
      one_each = heads_long;
      within = λ p x has. (alike.carrier x).0 (solves.within (head_of r.runs p) x (comes p x has));
      starts = λ x has.
          let here : slice_get before 0 ≡ Some x =
          subst (λ (k : ℕ). slice_get before k ≡ Some x) are.plan.0 (comes 0 x has) in
          (alike.below G.start x).0 (subst (λ (z : D). F.below z x) (sym alike.start) (solves.starts x here));
      follows = λ p q x w edge has_x has_w.
          let from : slice_get before (head_of r.runs p) ≡ Some x = comes p x has_x in
          let rises : F.below (F.transfer (head_of r.runs p) x) w = over_edge p q x w edge from (comes q w has_w) in
          (alike.below (G.transfer p x) w).0
          (subst (λ (z : D). F.below z w)
          (sym (alike.heads p x (is_run p x has_x) (solves.within (head_of r.runs p) x from))) rises);
    }

  module _ (small : List D) (solves : IsSolution G r.small small) where
    -- the datum of a run
    abbrev datum : ℕ → D
    datum p = get_or small p F.start

    -- the first node of a run gets the datum of the run, and each later one what the first one makes of it
    abbrev spread : ℕ → D
    spread n = cond (head n == n) (datum (number n)) (F.transfer (head n) (datum (number n)))

    -- all of these
    abbrev wide : List D
    wide = table spread (length r.nodes)

    -- a run has a datum
    run_datum : (p : ℕ) → p < length r.runs → slice_get small p ≡ Some (datum p)
    run_datum p inside =
        slice_get-get_or small p F.start (subst (λ (c : ℕ). p < c) (sym (as_many r are) ∙ sym solves.one_each) inside)

    -- which counts
    datum_within : (p : ℕ) → p < length r.runs → F.carrier (datum p)
    datum_within p inside = (alike.carrier (datum p)).1 (solves.within p (datum p) (run_datum p inside))

    -- what the first node of a run gets
    at_head : (n : ℕ) → IsHead r.numbers r.runs n → spread n ≡ datum (number n)
    at_head n is = grind (arith, nat_tests)

    -- what each later one gets
    at_later : (n : ℕ) → IsLater n → spread n ≡ F.transfer (head n) (datum (number n))
    at_later n later = grind (arith, nat_tests)

    -- what a node gets counts
    spread_within : (n : ℕ) → n < length r.nodes → F.carrier (spread n)
    spread_within n inside =
        let within : F.carrier (datum (number n)) = datum_within (number n) (run_inside r (base r are) n inside) in
        ⊎_elim
        (λ (is : IsHead r.numbers r.runs n). subst (λ (z : D). F.carrier z) (sym (at_head n is)) within)
        (λ (later : IsLater n).
        subst (λ (z : D). F.carrier z) (sym (at_later n later)) (laws.transfer_within (head n) (datum (number n)) within))
        (head_or_not r.numbers r.runs n)

    -- each node makes of what it gets what the first node of its run makes of the run's datum
    makes_same : (n : ℕ) → n < length r.nodes → F.transfer n (spread n) ≡ F.transfer (head n) (datum (number n))
    makes_same n inside = ⊎_elim
        (λ (is : IsHead r.numbers r.runs n).
        ap (F.transfer n) (at_head n is) ∙ ap (λ (k : ℕ). F.transfer k (datum (number n))) (sym is))
        (λ (later : IsLater n).
        ap (F.transfer n) (at_later n later)
        ∙ alike.again n (datum (number n)) inside later (datum_within (number n) (run_inside r (base r are) n inside)))
        (head_or_not r.numbers r.runs n)

    -- over an edge it rises enough
    rises : (n m : ℕ) → Edge n m → F.below (F.transfer n (spread n)) (spread m)
    rises n m edge =
        let inside : n < length r.nodes = edge_inside r (base r are) n m edge in
        let run : number n < length r.runs = run_inside r (base r are) n inside in
        let m_inside : m < length r.nodes = successor_inside r.nodes n m are.whole edge in
        let other : number m < length r.runs = run_inside r (base r are) m m_inside in
        let within : F.carrier (datum (number n)) = datum_within (number n) run in
        let made : D = F.transfer (head n) (datum (number n)) in
        let moved : F.below made (spread m) = ⊎_elim
        (λ (is : IsHead r.numbers r.runs m).
        let step : G.below (G.transfer (number n) (datum (number n))) (datum (number m)) =
        solves.follows (number n) (number m) (datum (number n)) (datum (number m))
        (head_edge r (base r are) n m edge is) (run_datum (number n) run) (run_datum (number m) other) in
        let enough : F.below (G.transfer (number n) (datum (number n))) (datum (number m)) =
        (alike.below (G.transfer (number n) (datum (number n))) (datum (number m))).1 step in
        subst (λ (z : D). F.below made z) (sym (at_head m is))
        (subst (λ (z : D). F.below z (datum (number m))) (alike.heads (number n) (datum (number n)) run within) enough))
        (λ (later : IsLater m).
        let same : number m ≡ number n = (inner_edge r (base r are) n m edge later).1 in
        let equal : spread m ≡ made =
        at_later m later ∙ ap (λ (k : ℕ). F.transfer (head_of r.runs k) (datum k)) same in
        subst (λ (z : D). F.below made z) (sym equal)
        (laws.reflexive made (laws.transfer_within (head n) (datum (number n)) within)))
        (head_or_not r.numbers r.runs m) in
        subst (λ (z : D). F.below z (spread m)) (sym (makes_same n inside)) moved

    -- what stands at a place is what its node gets
    gets : (n : ℕ) (x : D) → slice_get wide n ≡ Some x → (n < length r.nodes) × (x ≡ spread n)
    gets n x has =
        let inside : n < length r.nodes =
        subst (λ (c : ℕ). n < c) (length-table spread (length r.nodes)) (slice_get_within wide n x has) in
        (inside, same_Some x (spread n) (sym has ∙ table_at spread (length r.nodes) n inside))

    -- so it gives a solution over the whole graph
    wide_solves : IsSolution F r.nodes wide
    wide_solves = record {
      one_each = length-table spread (length r.nodes);
      within = λ n x has.
          let is = gets n x has in subst (λ (z : D). F.carrier z) (sym is.1) (spread_within n is.0);
      starts = λ x has.
          let is = gets 0 x has in
          let zero_is : number 0 ≡ 0 = zero_run r (base r are) in
          let here : slice_get small 0 ≡ Some (datum (number 0)) =
          subst (λ (p : ℕ). slice_get small p ≡ Some (datum (number 0))) zero_is
          (run_datum (number 0) (run_inside r (base r are) 0 is.0)) in
          let equal : x ≡ datum (number 0) = is.1 ∙ at_head 0 (zero_head r (base r are)) in
          let low : F.below G.start (datum (number 0)) =
          (alike.below G.start (datum (number 0))).1 (solves.starts (datum (number 0)) here) in
          subst (λ (z : D). F.below F.start z) (sym equal)
          (subst (λ (z : D). F.below z (datum (number 0))) alike.start low);
      follows = λ n m x y edge has_x has_y.
          let from = gets n x has_x in
          let to = gets m y has_y in
          subst (λ (z : D). F.below (F.transfer n x) z) (sym to.1)
          (subst (λ (z : D). F.below (F.transfer n z) (spread m)) (sym from.1) (rises n m edge));
    }

    -- the first node of a run gets the datum of the run
    wide_head : (p : ℕ) → p < length r.runs → slice_get wide (head_of r.runs p) ≡ slice_get small p
    wide_head p inside =
        let n : ℕ = head_of r.runs p in
        let own : number n ≡ p = (are.plan.2 p inside).1 in
        table_at spread (length r.nodes) n (are.plan.2 p inside).0
        ∙ (ap Some (at_head n (head_is r (base r are) p inside) ∙ ap datum own) ∙ sym (run_datum p inside))

  -- the first nodes of the runs have the least one where all nodes do
  pub least_heads : (before : List D) → IsLeast F r.nodes before → IsLeast G r.small (head_data before r.runs)
  least_heads before least = record {
    solution = heads_solve before least.solution;
    least = λ other solves p x y has_x has_y.
        let inside : p < length r.runs = is_run before least.solution p x has_x in
        (alike.below x y).0
        (least.least (wide other solves) (wide_solves other solves) (head_of r.runs p) x y
        (comes before least.solution p x has_x) (wide_head other solves p inside ∙ has_y));
  }

  -- so the first node of a run has what the run has in the least solution over the graph of the runs
  pub least_same_at : (before after : List D) (p : ℕ) → IsLeast F r.nodes before → IsLeast G r.small after
      → p < length r.runs → slice_get after p ≡ slice_get before (head_of r.runs p)
  least_same_at before after p whole least inside =
      let narrowed = least_heads before whole in
      let n : ℕ = head_of r.runs p in
      let one = has_one before whole.solution n (are.plan.2 p inside).0 in
      let two = found-inside after p
      (subst (λ (c : ℕ). p < c) (sym (as_many r are) ∙ sym least.solution.one_each) inside) in
      let w : D = one.0 in
      let x : D = two.0 in
      let here : slice_get (head_data before r.runs) p ≡ Some w = heads_at before whole.solution p inside ∙ one.1 in
      let down : F.below w x = (alike.below w x).1 (narrowed.least after least.solution p w x here two.1) in
      let up : F.below x w =
      (alike.below x w).1 (least.least (head_data before r.runs) narrowed.solution p x w two.1 here) in
      let cx : F.carrier x = (alike.carrier x).1 (least.solution.within p x two.1) in
      let same : x ≡ w = laws.antisymmetric x w cx (whole.solution.within n w one.1) up down in
      two.1 ∙ (ap Some same ∙ sym one.1)

  -- each other node of a run has what the first one makes
  pub inner_value : (before : List D) (m : ℕ) (x y : D) → IsLeast F r.nodes before → IsLater m
      → slice_get before (head m) ≡ Some x → slice_get before m ≡ Some y → y ≡ F.transfer (head m) x
  inner_value before m x y whole later has_x has_y =
      let solves = whole.solution in
      let inside : m < length r.nodes = is_node before solves m y has_y in
      let p_inside : number m < length r.runs = run_inside r (base r are) m inside in
      let made : D = F.transfer (head m) x in
      let more : F.below made y = has_more before solves m x y later has_x has_y in
      let narrow : List D = head_data before r.runs in
      let narrowed : IsSolution G r.small narrow = heads_solve before solves in
      let is_x : x ≡ datum narrow narrowed (number m) =
      same_Some x (datum narrow narrowed (number m))
      (sym has_x ∙ (sym (heads_at before solves (number m) p_inside) ∙ run_datum narrow narrowed (number m) p_inside)) in
      let there : slice_get (wide narrow narrowed) m ≡ Some made =
      table_at (spread narrow narrowed) (length r.nodes) m inside
      ∙ ap Some (at_later narrow narrowed m later ∙ ap (F.transfer (head m)) (sym is_x)) in
      let less : F.below y made =
      whole.least (wide narrow narrowed) (wide_solves narrow narrowed) m y made has_y there in
      laws.antisymmetric y made (solves.within m y has_y) (laws.transfer_within (head m) x (solves.within (head m) x has_x))
      less more
