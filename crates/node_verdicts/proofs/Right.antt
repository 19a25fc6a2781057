-- The verdicts of all nodes of a graph, by what is judged of its runs.
use Rattle.std.proofs.Common.{◌≡◌, ◌↔◌, ℕ, ◌<◌, inl, inr, Bool, true, false, List, length, reverse, Some, None, refl, sym, ap, subst, ◌∙◌, arith}
use Rattle.std.proofs.lemmas.Option.{slice_get_cases}
use Rattle.std.specs.List.{Contains}
use Rattle.std.specs.Prelude.{slice_get}
use Rattle.cache_spec.specs.Blocks.{AreBlocks, HaveFew, HaveFewInAll}
use Rattle.cache_spec.specs.Geometry.{Geometry}
use Rattle.cache_spec.specs.declared.start.Start.{Start}
use Rattle.transition_spec.specs.declared.way.Way.{Way}
use Rattle.transition_spec.specs.Named.{Names}
use Rattle.path_model.specs.declared.graph.Node.{Node}
use Rattle.path_model.specs.Graph.{graph_step, address_of, addresses_of}
use Rattle.focus_spec.specs.Fate.{AllEnd, NamesEnd}
use Rattle.focus_plain.specs.Judged.{IsPathTo}
use Rattle.line_blocks.specs.Runs.{Runs, IsHead, head_of, run_of}
use Rattle.line_blocks.specs.Expand.{IsExpanded}
use Rattle.node_spec.specs.declared.verdict.Kept.{Kept}
use Rattle.node_spec.specs.declared.verdict.Kept.TheVariants.{EachNode, EachAddress}
use Rattle.node_spec.specs.declared.verdict.NodeVerdict.{NodeVerdict}
use Rattle.node_spec.specs.declared.verdict.NodeVerdict.TheVariants as verdicts
use Rattle.node_spec.specs.Verdict.{IsNodeVerdict, IsRightAt, HasWays, HasWaysFor, HaveWays}
use Rattle.set_view.specs.declared.fetched.ViewFault.{ViewFault}
use Rattle.set_view.specs.declared.fetched.ViewFault.TheVariants.{TooManyBlocks, OutOfMemory}
use Rattle.node_verdicts.specs.declared.judged.Ends.{Ends}
use Rattle.node_verdicts.specs.declared.judged.Ends.TheVariants.{Hits, Misses, Both}
use Rattle.node_verdicts.specs.declared.judged.Judged.{Judged}
use Rattle.node_verdicts.specs.Judged.{set_at, IsFetcher, IsEnds, HasPaths, HavePathsAt, Serves, AreJudged}
use Rattle.line_blocks.specs.Ways.{IsWayFor}
use Rattle.node_verdicts.specs.Noted.{IsVerdictFor, IsUntouched, AreNoted}
use Rattle.node_verdicts.specs.Ranges.{AreFew, IsFaultWithin}
use Rattle.node_verdicts.specs.Verdicts.{AreRight, IsFault}

-- a place of a list has an element
some_there : {A : Type 0} (xs : List A) (n : ℕ) → n < length xs → (x : A) × (slice_get xs n ≡ Some x)
some_there xs n inside = elim (slice_get_cases xs n).1 [
  | inl (x, within, is, get) ↦ (x, is)
  | inr (past, none) ↦ absurd (omega (arith, inside, past))
]

-- what holds of the runs of a graph, by the laws of runs
pub record Laws (r : Runs) (start : Start) : Type 0 where
  pub heads : (p : ℕ) (hits : Bool) → p < length r.runs
      → AllEnd r.nodes r.shape start (head_of r.runs p) hits ↔ AllEnd r.small r.shape start p hits
  pub paths : (p : ℕ) (hits : Bool) (members whole : List ℕ) → p < length r.runs → IsExpanded r members whole
      → IsPathTo r.small r.shape start p hits members → IsPathTo r.nodes r.shape start (head_of r.runs p) hits whole
  pub inner : (n : ℕ) → n < length r.nodes → (IsHead r.numbers r.runs n → ⊥) → AllEnd r.nodes r.shape start n true
  pub numbers : (n : ℕ) → n < length r.nodes → run_of r.numbers n < length r.runs
  pub inside : (p : ℕ) → p < length r.runs → head_of r.runs p < length r.nodes
  pub own : (p : ℕ) → p < length r.runs → run_of r.numbers (head_of r.runs p) ≡ p
  pub as_many : length r.small ≡ length r.runs
  pub addresses : (p : ℕ) → p < length r.runs → address_of r.small p ≡ address_of r.nodes (head_of r.runs p)
  pub blocks : (set : ℕ) (blocks : List ℕ)
      → AreBlocks (addresses_of r.nodes) r.shape set blocks ↔ AreBlocks (addresses_of r.small) r.shape set blocks

module _ (r : Runs) (start : Start) (laws : Laws r start) where
  -- the way of a path of the runs names a path that can do the same
  way_right : (p : ℕ) (hits : Bool) (members : List ℕ) (way : Way) → p < length r.runs
      → IsPathTo r.small r.shape start p hits members → IsWayFor r members way
      → NamesEnd r.nodes r.shape start (head_of r.runs p) way hits
  way_right p hits members way inside to (whole, expanded, names) =
      let up = laws.paths p hits members whole inside expanded to in
      record {
        earlier = up.earlier;
        is_path = up.is_path;
        names = subst (λ (xs : List ℕ). Names (graph_step r.nodes) way xs) up.ends names;
        fate = up.fate;
      }

  -- the verdict of a right judgement is right of the first node of the run
  verdict_right : (p : ℕ) (ends : Ends) (verdict : NodeVerdict) → p < length r.runs
      → IsEnds r.small r.shape start p ends → IsVerdictFor r ends verdict
      → IsNodeVerdict r.nodes r.shape start (head_of r.runs p) verdict
  verdict_right p Hits verdict inside right is =
      subst (IsNodeVerdict r.nodes r.shape start (head_of r.runs p)) (sym is) ((laws.heads p true inside).1 right)
  verdict_right p Misses verdict inside right is =
      subst (IsNodeVerdict r.nodes r.shape start (head_of r.runs p)) (sym is) ((laws.heads p false inside).1 right)
  verdict_right p (Both None) verdict inside (misses, hits) is =
      subst (IsNodeVerdict r.nodes r.shape start (head_of r.runs p)) (sym is) (
        λ all. misses ((laws.heads p true inside).0 all),
        λ all. hits ((laws.heads p false inside).0 all),
      )
  verdict_right p (Both (Some paths)) verdict inside (hit, miss) (ways, is, hit_way, miss_way) =
      subst (IsNodeVerdict r.nodes r.shape start (head_of r.runs p)) (sym is) (
        way_right p true (reverse paths.hit.items) ways.hit inside hit hit_way,
        way_right p false (reverse paths.miss.items) ways.miss inside miss miss_way,
      )

  -- two runs of one first node are one
  one_head : (p q : ℕ) → p < length r.runs → q < length r.runs → head_of r.runs p ≡ head_of r.runs q → p ≡ q
  one_head p q first second same = sym (laws.own p first) ∙ ap (run_of r.numbers) same ∙ laws.own q second

  module _ (kept : Kept) (sets : ℕ) (judged : List Judged) (found : List NodeVerdict)
      (below : (p : ℕ) → set_at r.small r.shape p < sets)
      (are : AreJudged r.small r.shape start kept (IsFetcher r.small r.shape 0 sets) judged)
      (noted : AreNoted r judged found) where
    -- a judgement is of a run
    run_inside : (one : Judged) → Contains judged one → one.node < length r.runs
    run_inside one there = omega (arith, (are.within one there).inside, laws.as_many)

    -- each run is judged
    run_judged : (p : ℕ) → p < length r.runs → (one : Judged) × Contains judged one × (one.node ≡ p)
    run_judged p inside = are.all p (record {
      inside = omega (arith, inside, laws.as_many);
      above = omega arith;
      below = below p;
    })

    -- the first node of a run isn't left untouched
    head_touched : (p : ℕ) (verdict : NodeVerdict) → p < length r.runs
        → IsUntouched r judged (head_of r.runs p) verdict → ⊥
    head_touched p verdict inside (hits, untouched) =
        let (one, there, is) = run_judged p inside in
        untouched one there (ap (head_of r.runs) is)

    -- each node has a right verdict
    right_at : (n : ℕ) → n < length r.nodes → IsRightAt r.nodes r.shape start found n
    right_at n inside =
        let (verdict, at) = some_there found n (omega (arith, inside, noted.as_many)) in
        elim (noted.sound n verdict at) [
          | inl untouched ↦
              let inner : IsHead r.numbers r.runs n → ⊥ = λ head.
              head_touched (run_of r.numbers n) verdict (laws.numbers n inside)
              (subst (λ (k : ℕ). IsUntouched r judged k verdict) (sym head) untouched) in
              (verdict, at, subst (IsNodeVerdict r.nodes r.shape start n) (sym untouched.0) (laws.inner n inside inner))
          | inr (one, there, head, is) ↦ (
            verdict,
            at,
            subst (λ (k : ℕ). IsNodeVerdict r.nodes r.shape start k verdict) head
                (verdict_right one.node one.ends verdict (run_inside one there) (are.right one there) is),
          )
        ]

    -- the verdict of a judgement without paths is without ways
    both_none : (ends : Ends) → IsVerdictFor r ends (verdicts.Both None) → ends ≡ Both None
    both_none Hits is = absurd (cc is)
    both_none Misses is = absurd (cc is)
    both_none (Both None) is = refl
    both_none (Both (Some paths)) (ways, is, hit, miss) = absurd (cc is)

    -- and that of one with paths has ways
    has_ways : (n : ℕ) (ends : Ends) (verdict : NodeVerdict) → slice_get found n ≡ Some verdict → HasPaths ends
        → IsVerdictFor r ends verdict → HasWays found n
    has_ways n Hits verdict at (paths, has) is = absurd (cc has)
    has_ways n Misses verdict at (paths, has) is = absurd (cc has)
    has_ways n (Both None) verdict at (paths, has) is = absurd (cc has)
    has_ways n (Both (Some one)) verdict at has (ways, is, hit, miss) = (ways, at ∙ ap Some is)

    -- where a node is judged with paths, the first node of its run has ways
    head_ways : (m : ℕ) → HavePathsAt judged m → HasWays found (head_of r.runs m)
    head_ways m have =
        let (one, there, node) = have.some in
        let inside : m < length r.runs = subst (λ (k : ℕ). k < length r.runs) node (run_inside one there) in
        let (verdict, at) = some_there found (head_of r.runs m) (omega (arith, laws.inside m inside, noted.as_many)) in
        elim (noted.sound (head_of r.runs m) verdict at) [
          | inl untouched ↦ absurd (head_touched m verdict inside untouched)
          | inr (other, among, head, is) ↦
              let same = one_head other.node m (run_inside other among) inside head in
              has_ways (head_of r.runs m) other.ends verdict at (have.each other among same) is
        ]

    -- the first nodes serve one another as the runs do
    ways_for : (k : Kept) (n p m : ℕ) → p < length r.runs → m < length r.runs → head_of r.runs p ≡ n
        → Serves r.small k p m → HasWays found (head_of r.runs m) → HasWaysFor r.nodes found k n (head_of r.runs m)
    ways_for EachNode n p m first second head serves has = (has, ap (head_of r.runs) serves ∙ head)
    ways_for EachAddress n p m first second head serves has = (
      has,
      sym (laws.addresses m second) ∙ serves ∙ laws.addresses p first ∙ ap (address_of r.nodes) head,
    )

    have_ways : HaveWays r.nodes found kept
    have_ways n at = elim (noted.sound n (verdicts.Both None) at) [
      | inl untouched ↦ absurd (cc (untouched.0))
      | inr (one, there, head, is) ↦
          let (m, serves, have) = are.served one there (both_none one.ends is) in
          let (other, among, node) = have.some in
          let inside : m < length r.runs = subst (λ (k : ℕ). k < length r.runs) node (run_inside other among) in
          (head_of r.runs m, ways_for kept n one.node m (run_inside one there) inside head serves (head_ways m have))
    ]

    -- all of it, of the graph whose runs these are and the shape of the cache
    pub right_whole : (nodes : List Node) (g : Geometry) → r.nodes ≡ nodes → r.shape ≡ g → AreRight nodes g start found
    right_whole nodes g nodes_is shape_is =
        subst (λ (ns : List Node). AreRight ns g start found) nodes_is
        (subst (λ (h : Geometry). AreRight r.nodes h start found) shape_is right_at)

    pub ways_whole : (nodes : List Node) → r.nodes ≡ nodes → HaveWays nodes found kept
    ways_whole nodes nodes_is = subst (λ (ns : List Node). HaveWays ns found kept) nodes_is have_ways

  -- few blocks of each set are fetched by the graph where few are by its runs
  few_set : (set : ℕ) → HaveFew (addresses_of r.small) r.shape set → HaveFew (addresses_of r.nodes) r.shape set
  few_set set (count, (blocks, are, long), few) = (count, (blocks, (laws.blocks set blocks).1 are, long), few)

  pub few_all : (nodes : List Node) (g : Geometry) → r.nodes ≡ nodes → r.shape ≡ g
      → AreFew r.small r.shape 0 g.sets → HaveFewInAll (addresses_of nodes) g
  few_all nodes g nodes_is shape_is few set below =
      subst (λ (ns : List Node). HaveFew (addresses_of ns) g set) nodes_is
      (subst (λ (h : Geometry). HaveFew (addresses_of r.nodes) h set) shape_is
      (few_set set (few set (omega arith) below)))

  -- and why nothing was found is the same
  fault_set : (sets : ℕ) (fault : ViewFault) → sets ≡ r.shape.sets → IsFaultWithin r.small r.shape 0 sets fault
      → IsFault r.nodes r.shape fault
  fault_set sets (TooManyBlocks which count) same many =
      let (blocks, are, long) = many.has in
      record {
        inside = omega (arith, many.below, same);
        earlier = λ set before. few_set set (many.earlier set (omega arith) before);
        has = (blocks, (laws.blocks which blocks).1 are, long);
        many = many.many;
      }
  fault_set sets OutOfMemory same nothing = nothing

  pub fault_all : (nodes : List Node) (g : Geometry) (fault : ViewFault) → r.nodes ≡ nodes → r.shape ≡ g
      → IsFaultWithin r.small r.shape 0 g.sets fault → IsFault nodes g fault
  fault_all nodes g fault nodes_is shape_is many =
      subst (λ (ns : List Node). IsFault ns g fault) nodes_is
      (subst (λ (h : Geometry). IsFault r.nodes h fault) shape_is
      (fault_set g.sets fault (ap (λ (h : Geometry). h.sets) (sym shape_is)) many))
