-- The four systems over a graph and over its sparse graph.
use Rattle.std.proofs.Common.{◌≡◌, ℕ, ◌<◌, List, [], length, Option, Some, None, refl, ap, sym, ◌∙◌, subst}
use Rattle.std.specs.Prelude.{slice_get, slice_index_or}
use Rattle.std.proofs.lemmas.Option.{slice_get_within}
use Rattle.cache_spec.specs.declared.start.Start.{Start}
use Rattle.cache_spec.specs.declared.start.Start.TheVariants.{Empty}
use Rattle.cache_spec.specs.Geometry.{Geometry, set_of}
use Rattle.cache_spec.specs.Blocks.{block_in}
use Rattle.focus_spec.specs.Younger.{fetch_at}
use Rattle.lattice_fix.specs.Framework.{Framework, IsMonotone}
use Rattle.lattice_fix.specs.Solution.{IsLeast}
use Rattle.set_view.specs.View.{View, IsView}
use Rattle.sparse_graph.specs.Plan.{IsKept, lead_of}
use Rattle.sparse_graph.specs.Sparse.{Sparse, IsSparse, FetchAlike, KeepsSet}
use Rattle.sparse_graph.specs.Alike.{MoveAlike}
use Rattle.sparse_graph.proofs.Edges.{as_many, origin}
use Rattle.sparse_graph.proofs.Fates.{same_address}
use Rattle.sparse_graph.proofs.Blocks.{blocks_up, blocks_down}
use Rattle.sparse_graph.proofs.Solutions.{least_same_at}
use Rattle.age_spec.specs.declared.kind.Kind.{Kind}
use Rattle.age_spec.specs.declared.kind.Kind.TheVariants.{Must, May}
use Rattle.age_spec.specs.Ages.{setting_of, age_framework, ages_after, age_at, age_of}
use Rattle.age_spec.specs.Exists.{hit_framework, miss_framework, hit_bound_after, miss_bound_after, bound_after}
use Rattle.age_spec.specs.Jobs.{IsJob}
use Rattle.age_spec.proofs.Monotone.{ages_monotone}
use Rattle.age_spec.proofs.Reaching.{hit_monotone, miss_monotone}
use Rattle.age_graphs.specs.Numbers.{Four, IsFour, HasSame, ShowOneSet}
use Rattle.age_graphs.proofs.Views.{view_by, moved, fetch_inside, fetch_set, same_fetch, same_over}
use Rattle.age_graphs.proofs.Carried.{same_place, turned, unclear_there, Carries, job_carried}

-- what is nothing
none_from : (o : Option ℕ) → ((local : ℕ) → o ≡ Some local → ⊥) → o ≡ None
none_from None not = refl
none_from (Some local) not = absurd (not local refl)

-- a kept node has the same in the least solutions over both graphs
same_at : {D : Type 0} (sparse : Sparse) → IsSparse sparse → (F G : Framework D) → IsMonotone F → MoveAlike sparse F G
    → (before after : List D) → IsLeast F sparse.nodes before → IsLeast G sparse.small after → (d : D) (p n : ℕ)
    → slice_get sparse.kept p ≡ Some n → slice_index_or after p d ≡ slice_index_or before n d
same_at {D} sparse is F G laws alike before after whole small d p n at =
    same_place before after d p n (subst (λ (c : ℕ). n < c) (sym whole.solution.one_each) (is.plan.own p n at).0)
    (least_same_at sparse is F G laws alike before after p n whole small at)

module _ (sparse : Sparse) (is : IsSparse sparse) (g : Geometry) (set : ℕ) (keeps : KeepsSet sparse g set)
    (blocks : List ℕ) (fetches small_fetches : List (Option ℕ))
    (is_view : IsView (view_by sparse.nodes g set blocks fetches))
    (small_view : IsView (view_by sparse.small g set blocks small_fetches)) where
  -- the view of the whole graph
  abbrev whole : View
  whole = view_by sparse.nodes g set blocks fetches

  -- and that of the sparse one
  abbrev small : View
  small = view_by sparse.small g set blocks small_fetches

  -- a node that fetches of the set is kept
  fetch_kept : (n local : ℕ) → fetch_at fetches n ≡ Some local → IsKept sparse.kept sparse.leads n
  fetch_kept n local fetched =
      keeps n (fetch_inside whole is_view n local fetched) (fetch_set whole is_view n local fetched)

  -- so dropped nodes fetch nothing of it, and kept ones the same in both graphs
  fetch_alike : FetchAlike sparse (fetch_at fetches) (fetch_at small_fetches)
  fetch_alike = record {
    none = λ n inside not. none_from (fetch_at fetches n) (λ local fetched. not (fetch_kept n local fetched));
    same = λ p n at.
        let p_inside : p < length sparse.small =
        subst (λ (c : ℕ). p < c) (sym (as_many sparse is)) (slice_get_within sparse.kept p n at) in
        same_fetch sparse.nodes sparse.small g set blocks fetches small_fetches is_view small_view n p
        (is.plan.own p n at).0 p_inside (ap (block_in g set) (same_address sparse is p n at));
  }

  -- ages move alike
  ages_alike : (kind : Kind) (start : Start)
      → MoveAlike sparse (age_framework (setting_of whole kind start)) (age_framework (setting_of small kind start))
  ages_alike kind start = record {
    carrier = λ x. (λ c. c, λ c. c);
    below = λ x y. (λ b. b, λ b. b);
    start = refl;
    dropped = λ n x inside not c.
        ap (λ (o : Option ℕ). ages_after kind g.ways o x) (fetch_alike.none n inside not);
    kept = λ p n x at c. ap (λ (o : Option ℕ). ages_after kind g.ways o x) (fetch_alike.same p n at);
  }

  -- so the ages of a kept node are the same
  same_ages : (kind : Kind) (start : Start) (ages small_ages : List (List ℕ))
      → IsLeast (age_framework (setting_of whole kind start)) sparse.nodes ages
      → IsLeast (age_framework (setting_of small kind start)) sparse.small small_ages → (p n : ℕ)
      → slice_get sparse.kept p ≡ Some n → slice_index_or small_ages p [] ≡ slice_index_or ages n []
  same_ages kind start ages small_ages least small_least =
      same_at sparse is (age_framework (setting_of whole kind start)) (age_framework (setting_of small kind start))
      (ages_monotone (setting_of whole kind start)) (ages_alike kind start) ages small_ages least small_least []

  module _ (start : Start) (local : ℕ) (four small_four : Four) (are : IsFour whole start local four)
      (small_are : IsFour small start local small_four) where
    -- the ages of a kept node are the same
    must_row : (p n : ℕ) → slice_get sparse.kept p ≡ Some n
        → slice_index_or small_four.must p [] ≡ slice_index_or four.must n []
    must_row = same_ages Must Empty four.must small_four.must are.must_ages small_are.must_ages

    --
    may_row : (p n : ℕ) → slice_get sparse.kept p ≡ Some n
        → slice_index_or small_four.may p [] ≡ slice_index_or four.may n []
    may_row = same_ages May start four.may small_four.may are.may_ages small_are.may_ages

    -- bounds move alike, for they hang on the ages at kept nodes alone
    hits_alike : MoveAlike sparse (hit_framework whole start four.must local)
        (hit_framework small start small_four.must local)
    hits_alike = record {
      carrier = λ x. (λ c. c, λ c. c);
      below = λ x y. (λ b. b, λ b. b);
      start = refl;
      dropped = λ n x inside not c.
          ap (λ (o : Option ℕ). bound_after (λ other. hit_bound_after g.ways (age_of four.must n other)) local o x)
          (fetch_alike.none n inside not);
      kept = λ p n x at c.
          ap (λ (row : List ℕ). bound_after (λ other. hit_bound_after g.ways (age_at row other)) local
          (fetch_at small_fetches p) x) (must_row p n at)
          ∙ ap (λ (o : Option ℕ). bound_after (λ other. hit_bound_after g.ways (age_of four.must n other)) local o x)
          (fetch_alike.same p n at);
    }

    --
    misses_alike : MoveAlike sparse (miss_framework whole four.may local) (miss_framework small small_four.may local)
    misses_alike = record {
      carrier = λ x. (λ c. c, λ c. c);
      below = λ x y. (λ b. b, λ b. b);
      start = refl;
      dropped = λ n x inside not c.
          ap (λ (o : Option ℕ). bound_after (λ other. miss_bound_after g.ways (age_of four.may n other)) local o x)
          (fetch_alike.none n inside not);
      kept = λ p n x at c.
          ap (λ (row : List ℕ). bound_after (λ other. miss_bound_after g.ways (age_at row other)) local
          (fetch_at small_fetches p) x) (may_row p n at)
          ∙ ap (λ (o : Option ℕ). bound_after (λ other. miss_bound_after g.ways (age_of four.may n other)) local o x)
          (fetch_alike.same p n at);
    }

    -- so the four numbers of a kept node are the same
    same_numbers : (p n : ℕ) → slice_get sparse.kept p ≡ Some n → HasSame local four n small_four p
    same_numbers p n at = record {
      must = ap (λ (row : List ℕ). age_at row local) (must_row p n at);
      may = ap (λ (row : List ℕ). age_at row local) (may_row p n at);
      hit = same_at sparse is (hit_framework whole start four.must local)
          (hit_framework small start small_four.must local) (hit_monotone whole start four.must local) hits_alike
          four.hit small_four.hit are.hit_bounds small_are.hit_bounds 0 p n at;
      miss = same_at sparse is (miss_framework whole four.may local) (miss_framework small small_four.may local)
          (miss_monotone whole four.may local) misses_alike four.miss small_four.miss are.miss_bounds
          small_are.miss_bounds 0 p n at;
    }

  module _ (start : Start) (local : ℕ) where
    -- a fetch that is unclear over the whole graph is so over the sparse one
    carries_down : Carries whole small start local
    carries_down four small_four are small_are n unclear =
        let p : ℕ = lead_of sparse.leads n in
        let at : slice_get sparse.kept p ≡ Some n = fetch_kept n local unclear.fetches in
        let same = same_numbers start local four small_four are small_are p n at in (
          p,
          record {
            fetches = fetch_alike.same p n at ∙ unclear.fetches;
            unclear = unclear_there g.ways local four n small_four p same unclear.unclear;
          },
        )

    -- and back
    carries_up : Carries small whole start local
    carries_up small_four four small_are are p unclear =
        let (n, at) = origin sparse is p (fetch_inside small small_view p local unclear.fetches) in
        let same = same_numbers start local four small_four are small_are p n at in (
          n,
          record {
            fetches = sym (fetch_alike.same p n at) ∙ unclear.fetches;
            unclear = unclear_there g.ways local small_four p four n (turned local four n small_four p same)
                unclear.unclear;
          },
        )

module _ (sparse : Sparse) (is : IsSparse sparse) (g : Geometry) (start : Start) (block : ℕ)
    (keeps : KeepsSet sparse g (set_of g block)) where
  -- a job over the whole graph is one over the sparse graph
  pub job_down : IsJob sparse.nodes g start block → IsJob sparse.small g start block
  job_down = job_carried sparse.nodes sparse.small g start block is.graph
      (blocks_down sparse is g (set_of g block) keeps)
      (λ blocks fetches small_fetches local is_view small_view.
      carries_down sparse is g (set_of g block) keeps blocks fetches small_fetches is_view small_view start local)

  -- and back
  pub job_up : IsJob sparse.small g start block → IsJob sparse.nodes g start block
  job_up = job_carried sparse.small sparse.nodes g start block is.whole
      (blocks_up sparse is g (set_of g block) keeps)
      (λ blocks small_fetches fetches local small_view is_view.
      carries_up sparse is g (set_of g block) keeps blocks fetches small_fetches is_view small_view start local)

-- the same numbers, in whatever views of the set over both graphs
pub kept_numbers : (sparse : Sparse) → IsSparse sparse → (one other : View) (start : Start) (local p n : ℕ)
    (four small_four : Four) → KeepsSet sparse one.geometry one.set → ShowOneSet sparse.nodes sparse.small one other
    → IsFour one start local four → IsFour other start local small_four → slice_get sparse.kept p ≡ Some n
    → HasSame local four n small_four p
kept_numbers sparse is one other start local p n four small_four keeps show are small_are at =
    let first = moved (λ (view : View). IsView view × IsFour view start local four) one sparse.nodes one.geometry
    one.set one.blocks show.nodes_are refl refl refl (show.is_one, are) in
    let blocks : other.blocks ≡ one.blocks = same_over other one sparse.small show.is_other show.others_are
    show.geometry_same show.set_same
    (blocks_down sparse is one.geometry one.set keeps one.blocks first.0.blocks) in
    let second = moved (λ (view : View). IsView view × IsFour view start local small_four) other sparse.small
    one.geometry one.set one.blocks show.others_are show.geometry_same show.set_same blocks
    (show.is_other, small_are) in
    same_numbers sparse is one.geometry one.set keeps one.blocks one.fetches other.fetches first.0 second.0 start local
    four small_four first.1 second.1 p n at
