-- The four systems over a graph and over the graph of its runs.
use Rattle.std.proofs.Common.{◌≡◌, ◌==◌, ℕ, ◌<◌, ◌≤◌, inl, inr, cond, List, [], length, Option, Some, None, refl, ap, sym, ◌∙◌, subst, arith}
use Rattle.std.specs.Prelude.{slice_index_or}
use Rattle.std.proofs.lemmas.Option.{get_or_from_slice_get}
use Rattle.list_lemmas.proofs.Members.{found-inside}
use Rattle.cache_spec.specs.declared.start.Start.{Start}
use Rattle.cache_spec.specs.declared.start.Start.TheVariants.{Empty}
use Rattle.cache_spec.specs.Geometry.{block_of, set_of}
use Rattle.cache_spec.specs.Blocks.{block_in}
use Rattle.path_model.specs.Graph.{address_of}
use Rattle.focus_spec.specs.Younger.{fetch_at}
use Rattle.lattice_fix.specs.Framework.{Framework, IsMonotone}
use Rattle.lattice_fix.specs.Solution.{IsLeast}
use Rattle.set_view.specs.View.{View, IsView}
use Rattle.line_blocks.specs.Runs.{Runs, AreRuns, IsHead, run_of, head_of}
use Rattle.line_blocks.specs.Alike.{MoveAlike}
use Rattle.line_blocks.proofs.Edges.{head_or_not, run_inside, run_address}
use Rattle.line_blocks.proofs.Walks.{base}
use Rattle.line_blocks.proofs.Blocks.{as_many, run_block, blocks_alike}
use Rattle.line_blocks.proofs.Solutions.{least_same_at, inner_value}
use Rattle.age_spec.specs.declared.kind.Kind.{Kind}
use Rattle.age_spec.specs.declared.kind.Kind.TheVariants.{Must, May}
use Rattle.age_spec.specs.Ages.{AreMustAges, setting_of, age_framework, ages_after, age_at, age_of}
use Rattle.age_spec.specs.Exists.{hit_framework, miss_framework, hit_bound_after, miss_bound_after, bound_after}
use Rattle.age_spec.specs.Jobs.{IsJob}
use Rattle.age_spec.proofs.Monotone.{ages_monotone}
use Rattle.age_spec.proofs.Reaching.{hit_monotone, miss_monotone}
use Rattle.age_spec.proofs.Again.{own_none, ages_again, hit_bound_again, miss_bound_again}
use Rattle.age_graphs.specs.Numbers.{Four, IsFour, HasSame, ShowOneSet}
use Rattle.age_graphs.proofs.Views.{view_by, moved, fetches_by, view_over, fetch_inside, same_fetch, same_over}
use Rattle.age_graphs.proofs.Carried.{same_place, turned, unclear_there, IsUnclearBy, Carries, job_carried}

-- a second node that fetches the same changes no age
again_ages : (kind : Kind) (k : ℕ) (fetch : Option ℕ) (ages : List ℕ) → 1 ≤ k
    → ages_after kind k fetch (ages_after kind k fetch ages) ≡ ages_after kind k fetch ages
again_ages kind k None ages some = refl
again_ages kind k (Some b) ages some = ages_again kind k b ages some

-- nor an exists-hit bound, where the must age of the block is then 0
again_hit : (k : ℕ) (must next : ℕ → ℕ) (block : ℕ) (fetch : Option ℕ) (q : ℕ)
    → ((other : ℕ) → fetch ≡ Some other → next other ≡ 0)
    → bound_after (λ o. hit_bound_after k (next o)) block fetch
    (bound_after (λ o. hit_bound_after k (must o)) block fetch q)
    ≡ bound_after (λ o. hit_bound_after k (must o)) block fetch q
again_hit k must next block None q none = refl
again_hit k must next block (Some other) q none = hit_bound_again k must next block other q (none other refl)

-- nor an exists-miss bound, where the may age is
again_miss : (k : ℕ) (may next : ℕ → ℕ) (block : ℕ) (fetch : Option ℕ) (q : ℕ) → 1 ≤ k
    → ((other : ℕ) → fetch ≡ Some other → next other ≡ 0)
    → bound_after (λ o. miss_bound_after k (next o)) block fetch
    (bound_after (λ o. miss_bound_after k (may o)) block fetch q)
    ≡ bound_after (λ o. miss_bound_after k (may o)) block fetch q
again_miss k may next block None q some none = refl
again_miss k may next block (Some other) q some none =
    miss_bound_again k may next block other q some (none other refl)

-- a run has what its first node has, in the least solutions over both graphs
same_at : {D : Type 0} (r : Runs) → AreRuns r → (F G : Framework D) → IsMonotone F → MoveAlike r F G
    → (before after : List D) → IsLeast F r.nodes before → IsLeast G r.small after → (d : D) (p : ℕ)
    → p < length r.runs → slice_index_or after p d ≡ slice_index_or before (head_of r.runs p) d
same_at r are F G laws alike before after whole small d p inside =
    let n : ℕ = head_of r.runs p in
    same_place before after d p n (subst (λ (c : ℕ). n < c) (sym whole.solution.one_each) (are.plan.2 p inside).0)
    (least_same_at r are F G laws alike before after p whole small inside)

module _ (r : Runs) (are : AreRuns r) (set : ℕ) (blocks : List ℕ) (fetches small_fetches : List (Option ℕ))
    (is_view : IsView (view_by r.nodes r.shape set blocks fetches))
    (small_view : IsView (view_by r.small r.shape set blocks small_fetches)) where
  -- the view of the whole graph
  abbrev whole : View
  whole = view_by r.nodes r.shape set blocks fetches

  -- and that of the runs
  abbrev small : View
  small = view_by r.small r.shape set blocks small_fetches

  -- the ways
  abbrev k : ℕ
  k = r.shape.ways

  -- the first node of a node's run
  abbrev head : ℕ → ℕ
  head n = head_of r.runs (run_of r.numbers n)

  -- a node isn't the first of its run
  abbrev IsLater : ℕ → Type 0
  IsLater n = IsHead r.numbers r.runs n → ⊥

  -- it is a node
  head_inside : (n : ℕ) → n < length r.nodes → head n < length r.nodes
  head_inside n inside = (are.plan.2 (run_of r.numbers n) (run_inside r (base r are) n inside)).0

  -- a run fetches what its first node does
  run_fetch : (p : ℕ) → p < length r.runs → fetch_at small_fetches p ≡ fetch_at fetches (head_of r.runs p)
  run_fetch p inside =
      same_fetch r.nodes r.small r.shape set blocks fetches small_fetches is_view small_view (head_of r.runs p) p
      (are.plan.2 p inside).0 (subst (λ (c : ℕ). p < c) (sym (as_many r are)) inside)
      (ap (block_in r.shape set) (run_address r (base r are) p inside))

  -- and so does each node of the run
  node_fetch : (n : ℕ) → n < length r.nodes → fetch_at fetches n ≡ fetch_at fetches (head n)
  node_fetch n inside =
      let p : ℕ = run_of r.numbers n in
      let same : block_of r.shape (address_of r.nodes n) ≡ block_of r.shape (address_of r.nodes (head n)) =
      run_block r are n inside
      ∙ ap (block_of r.shape) (run_address r (base r are) p (run_inside r (base r are) n inside)) in
      same_fetch r.nodes r.nodes r.shape set blocks fetches fetches is_view is_view (head n) n (head_inside n inside)
      inside (ap (λ (b : ℕ). cond (set_of r.shape b == set) (Some b) None) same)

  module _ (kind : Kind) (start : Start) where
    -- ages move alike
    ages_alike : MoveAlike r (age_framework (setting_of whole kind start)) (age_framework (setting_of small kind start))
    ages_alike = record {
      carrier = λ x. (λ c. c, λ c. c);
      below = λ x y. (λ b. b, λ b. b);
      start = refl;
      again = λ m x inside later c.
          ap (λ (o : Option ℕ). ages_after kind k o (ages_after kind k (fetch_at fetches (head m)) x))
          (node_fetch m inside)
          ∙ again_ages kind k (fetch_at fetches (head m)) x are.ways;
      heads = λ p x inside c. ap (λ (o : Option ℕ). ages_after kind k o x) (run_fetch p inside);
    }

    -- so the ages of a run are those of its first node
    same_ages : (ages small_ages : List (List ℕ)) → IsLeast (age_framework (setting_of whole kind start)) r.nodes ages
        → IsLeast (age_framework (setting_of small kind start)) r.small small_ages → (p : ℕ) → p < length r.runs
        → slice_index_or small_ages p [] ≡ slice_index_or ages (head_of r.runs p) []
    same_ages ages small_ages least small_least =
        same_at r are (age_framework (setting_of whole kind start)) (age_framework (setting_of small kind start))
        (ages_monotone (setting_of whole kind start)) ages_alike ages small_ages least small_least []

    -- and at a later node of a run the age of the block that it fetches is 0
    later_age : (ages : List (List ℕ)) → IsLeast (age_framework (setting_of whole kind start)) r.nodes ages
        → (n other : ℕ) → n < length r.nodes → IsLater n → fetch_at fetches (head n) ≡ Some other
        → age_of ages n other ≡ 0
    later_age ages least n other inside later fetched =
        let F = age_framework (setting_of whole kind start) in
        let long : length ages ≡ length r.nodes = least.solution.one_each in
        let one = found-inside ages (head n) (subst (λ (c : ℕ). head n < c) (sym long) (head_inside n inside)) in
        let two = found-inside ages n (subst (λ (c : ℕ). n < c) (sym long) inside) in
        let made : two.0 ≡ ages_after kind k (fetch_at fetches (head n)) one.0 =
        inner_value r are F (age_framework (setting_of small kind start)) (ages_monotone (setting_of whole kind start))
        ages_alike ages n one.0 two.0 least later one.1 two.1 in
        ap (λ (row : List ℕ). age_at row other)
        (get_or_from_slice_get ages n two.0 [] two.1
        ∙ (made ∙ ap (λ (o : Option ℕ). ages_after kind k o one.0) fetched))
        ∙ own_none kind k other one.0

  module _ (start : Start) (local : ℕ) (four small_four : Four) (are_four : IsFour whole start local four)
      (small_are : IsFour small start local small_four) where
    -- the ages of a run are those of its first node
    must_row : (p : ℕ) → p < length r.runs
        → slice_index_or small_four.must p [] ≡ slice_index_or four.must (head_of r.runs p) []
    must_row = same_ages Must Empty four.must small_four.must are_four.must_ages small_are.must_ages

    --
    may_row : (p : ℕ) → p < length r.runs
        → slice_index_or small_four.may p [] ≡ slice_index_or four.may (head_of r.runs p) []
    may_row = same_ages May start four.may small_four.may are_four.may_ages small_are.may_ages

    -- bounds move alike, for the age of a block that was fetched last is 0
    hits_alike : MoveAlike r (hit_framework whole start four.must local)
        (hit_framework small start small_four.must local)
    hits_alike = record {
      carrier = λ x. (λ c. c, λ c. c);
      below = λ x y. (λ b. b, λ b. b);
      start = refl;
      again = λ m x inside later c.
          let must : ℕ → ℕ → ℕ = age_of four.must in
          ap (λ (o : Option ℕ). bound_after (λ other. hit_bound_after k (must m other)) local o
          (bound_after (λ other. hit_bound_after k (must (head m) other)) local (fetch_at fetches (head m)) x))
          (node_fetch m inside)
          ∙ again_hit k (must (head m)) (must m) local (fetch_at fetches (head m)) x
          (λ other fetched. later_age Must Empty four.must are_four.must_ages m other inside later fetched);
      heads = λ p x inside c.
          let n : ℕ = head_of r.runs p in
          ap (λ (row : List ℕ). bound_after (λ other. hit_bound_after k (age_at row other)) local
          (fetch_at small_fetches p) x) (must_row p inside)
          ∙ ap (λ (o : Option ℕ). bound_after (λ other. hit_bound_after k (age_of four.must n other)) local o x)
          (run_fetch p inside);
    }

    --
    misses_alike : MoveAlike r (miss_framework whole four.may local) (miss_framework small small_four.may local)
    misses_alike = record {
      carrier = λ x. (λ c. c, λ c. c);
      below = λ x y. (λ b. b, λ b. b);
      start = refl;
      again = λ m x inside later c.
          let may : ℕ → ℕ → ℕ = age_of four.may in
          ap (λ (o : Option ℕ). bound_after (λ other. miss_bound_after k (may m other)) local o
          (bound_after (λ other. miss_bound_after k (may (head m) other)) local (fetch_at fetches (head m)) x))
          (node_fetch m inside)
          ∙ again_miss k (may (head m)) (may m) local (fetch_at fetches (head m)) x are.ways
          (λ other fetched. later_age May start four.may are_four.may_ages m other inside later fetched);
      heads = λ p x inside c.
          let n : ℕ = head_of r.runs p in
          ap (λ (row : List ℕ). bound_after (λ other. miss_bound_after k (age_at row other)) local
          (fetch_at small_fetches p) x) (may_row p inside)
          ∙ ap (λ (o : Option ℕ). bound_after (λ other. miss_bound_after k (age_of four.may n other)) local o x)
          (run_fetch p inside);
    }

    -- so the four numbers of a run are those of its first node
    same_numbers : (p : ℕ) → p < length r.runs → HasSame local four (head_of r.runs p) small_four p
    same_numbers p inside = record {
      must = ap (λ (row : List ℕ). age_at row local) (must_row p inside);
      may = ap (λ (row : List ℕ). age_at row local) (may_row p inside);
      hit = same_at r are (hit_framework whole start four.must local) (hit_framework small start small_four.must local)
          (hit_monotone whole start four.must local) hits_alike four.hit small_four.hit are_four.hit_bounds
          small_are.hit_bounds 0 p inside;
      miss = same_at r are (miss_framework whole four.may local) (miss_framework small small_four.may local)
          (miss_monotone whole four.may local) misses_alike four.miss small_four.miss are_four.miss_bounds
          small_are.miss_bounds 0 p inside;
    }

    -- and an unclear fetch is that of the first node of a run
    unclear_first : (n : ℕ) → IsUnclearBy whole local four n → head n ≡ n
    unclear_first n unclear = elim (head_or_not r.numbers r.runs n) [
      | inl first ↦ first
      | inr later ↦
          let inside : n < length r.nodes = fetch_inside whole is_view n local unclear.fetches in
          let fetched : fetch_at fetches (head n) ≡ Some local = sym (node_fetch n inside) ∙ unclear.fetches in
          let young : age_of four.must n local ≡ 0 =
          later_age Must Empty four.must are_four.must_ages n local inside later fetched in
          absurd (omega (arith, are.ways, young, unclear.unclear.not_hit))
    ]

  module _ (start : Start) (local : ℕ) where
    -- a fetch that is unclear over the whole graph is so over that of the runs
    carries_down : Carries whole small start local
    carries_down four small_four are_four small_are n unclear =
        let p : ℕ = run_of r.numbers n in
        let inside : p < length r.runs =
        run_inside r (base r are) n (fetch_inside whole is_view n local unclear.fetches) in
        let there : IsUnclearBy whole local four (head n) = subst (λ (m : ℕ). IsUnclearBy whole local four m)
        (sym (unclear_first start local four small_four are_four small_are n unclear)) unclear in
        let same = same_numbers start local four small_four are_four small_are p inside in (
          p,
          record {
            fetches = run_fetch p inside ∙ there.fetches;
            unclear = unclear_there k local four (head n) small_four p same there.unclear;
          },
        )

    -- and back
    carries_up : Carries small whole start local
    carries_up small_four four small_are are_four p unclear =
        let inside : p < length r.runs =
        subst (λ (c : ℕ). p < c) (as_many r are) (fetch_inside small small_view p local unclear.fetches) in
        let n : ℕ = head_of r.runs p in
        let same = same_numbers start local four small_four are_four small_are p inside in (
          n,
          record {
            fetches = sym (run_fetch p inside) ∙ unclear.fetches;
            unclear = unclear_there k local small_four p four n (turned local four n small_four p same) unclear.unclear;
          },
        )

module _ (r : Runs) (are : AreRuns r) where
  -- a job over the whole graph is one over that of the runs
  pub job_down : (start : Start) (block : ℕ) → IsJob r.nodes r.shape start block → IsJob r.small r.shape start block
  job_down start block = job_carried r.nodes r.small r.shape start block are.graph
      (λ blocks. (blocks_alike r are (set_of r.shape block) blocks).0)
      (λ blocks fetches small_fetches local is_view small_view.
      carries_down r are (set_of r.shape block) blocks fetches small_fetches is_view small_view start local)

  -- and back
  pub job_up : (start : Start) (block : ℕ) → IsJob r.small r.shape start block → IsJob r.nodes r.shape start block
  job_up start block = job_carried r.small r.nodes r.shape start block are.whole
      (λ blocks. (blocks_alike r are (set_of r.shape block) blocks).1)
      (λ blocks small_fetches fetches local small_view is_view.
      carries_up r are (set_of r.shape block) blocks fetches small_fetches is_view small_view start local)

  -- the same numbers, in whatever views
  pub head_numbers : (one other : View) (start : Start) (local p : ℕ) (four small_four : Four) → one.geometry ≡ r.shape
      → ShowOneSet r.nodes r.small one other → IsFour one start local four → IsFour other start local small_four
      → p < length r.runs → HasSame local four (head_of r.runs p) small_four p
  head_numbers one other start local p four small_four shape show is_four small_four_is inside =
      let first = moved (λ (view : View). IsView view × IsFour view start local four) one r.nodes r.shape one.set
      one.blocks show.nodes_are shape refl refl (show.is_one, is_four) in
      let as_other : View = view_by r.nodes r.shape one.set one.blocks one.fetches in
      let blocks : other.blocks ≡ one.blocks = same_over other as_other r.small show.is_other show.others_are
      (show.geometry_same ∙ shape) show.set_same ((blocks_alike r are one.set one.blocks).0 first.0.blocks) in
      let second = moved (λ (view : View). IsView view × IsFour view start local small_four) other r.small r.shape
      one.set one.blocks show.others_are (show.geometry_same ∙ shape) show.set_same blocks
      (show.is_other, small_four_is) in
      same_numbers r are one.set one.blocks one.fetches other.fetches first.0 second.0 start local four small_four
      first.1 second.1 p inside

  -- and at a node that isn't the first of its run the must age of the block that it fetches is 0
  pub inner_age : (view : View) (must : List (List ℕ)) (n local : ℕ) → IsView view → view.nodes ≡ r.nodes
      → view.geometry ≡ r.shape → AreMustAges view must → (IsHead r.numbers r.runs n → ⊥)
      → fetch_at view.fetches n ≡ Some local → age_of must n local ≡ 0
  inner_age view must n local is nodes_are shape ages later fetched =
      let both = moved (λ (one : View). IsView one × AreMustAges one must) view r.nodes r.shape view.set view.blocks
      nodes_are shape refl refl (is, ages) in
      let small_view = view_over r.nodes r.shape view.set view.blocks view.fetches r.small both.0 are.graph
      ((blocks_alike r are view.set view.blocks).0 both.0.blocks) in
      let own : View = view_by r.nodes r.shape view.set view.blocks view.fetches in
      let there : List (Option ℕ) = fetches_by r.small r.shape view.set view.blocks in
      let inside : n < length r.nodes = fetch_inside own both.0 n local fetched in
      later_age r are view.set view.blocks view.fetches there both.0 small_view Must Empty must both.1 n local inside
      later (sym (node_fetch r are view.set view.blocks view.fetches there both.0 small_view n inside) ∙ fetched)
