-- From each cursor on there are lines of a report by address.
use Rattle.std.proofs.Common.{◌≡◌, ℕ, zero, suc, ◌+◌, ◌^◌, ◌<◌, ◌≤◌, List, [], ◌∷◌, ◌++◌, length, refl, ap, subst, sym, ◌∙◌, arith, inl, inr, Option, Some, None}
use Rattle.std.specs.Prelude.{Bool, true, false, not, ◌==◌, ◌⊎◌, if◌then◌else◌, Contains, slice_get}
use Rattle.std.specs.List.{AllByRecursion}
use Rattle.std.proofs.lemmas.Bool.{cases_lt}
use Rattle.std.proofs.lemmas.Bool.Decides.{nat_tests}
use Rattle.std.proofs.lemmas.Option.{slice_get_within}
use Rattle.list_lemmas.proofs.Members.{has-first, has-later}
use Rattle.transition_spec.specs.declared.way.Way.{Way}
use Rattle.transition_spec.specs.Path.{IsPath, HasChoices}
use Rattle.path_model.specs.declared.graph.Node.{Node}
use Rattle.path_model.specs.Graph.{IsGraph, graph_step, address_of}
use Rattle.path_model.specs.Letters.{letter_to}
use Rattle.path_model.proofs.Moves.{letter_to-right}
use Rattle.path_model.proofs.Reached.{node_reached}
use Rattle.report_spec.specs.declared.line.Line.{Line}
use Rattle.report_spec.specs.declared.line.Line.TheVariants.{At, Unreachable}
use Rattle.report_spec.specs.declared.line.Verdict.{Verdict}
use Rattle.report_spec.specs.declared.line.Verdict.TheVariants.{AlwaysHit, AlwaysMiss, Unknown}
use Rattle.node_spec.specs.declared.verdict.NodeVerdict.{NodeVerdict}
use Rattle.node_spec.specs.declared.verdict.NodeVerdict.TheVariants.{Hits, Misses, Both}
use Rattle.node_spec.specs.declared.verdict.Kept.TheVariants.{EachAddress}
use Rattle.node_spec.specs.Verdict.{HasWays, HaveWays}
use Rattle.report_spec.specs.Inner.{step_of}
use Rattle.report_spec.specs.Report.{range_addresses}
use Rattle.node_spec.specs.Plan.{Layout, IsNodeAt, NamesPathTo, IsWayAt, IsMerged, HasLineIn, IsNextLine, IsBare, IsBareRange, IsLineAt, IsByAddress, last_of}
use Rattle.node_spec.proofs.Always.{always_node}
use Rattle.report_lines.specs.Findings.{IsWithin}
use Rattle.report_lines.specs.Lines.{AreAllFrom}
use Rattle.report_lines.proofs.Decided.{decide_node, decide_line, decide_bare}
use Rattle.report_lines.proofs.Steps.{after, after_least, step_some, range_begins, range_alone}

-- each path has choices
choices_there : (nodes : List Node) (path : List ℕ) → IsPath (graph_step nodes) 0 path
    → (letters : List ℕ) × HasChoices (graph_step nodes) path letters
choices_there nodes [] is = absurd is
choices_there nodes (n ∷ []) is = ([], refl)
choices_there nodes (m ∷ n ∷ earlier) (follows, is) =
    let (before, has) = choices_there nodes (n ∷ earlier) is in
    let letter = letter_to (slice_get nodes n) m in
    (before ++ letter, (before, letter, has, letter_to-right nodes n m follows, refl))

-- each node has a way that leads to it
way_there : (nodes : List Node) (n : ℕ) → IsGraph nodes → n < length nodes → (way : Way) × NamesPathTo nodes n way
way_there nodes n graph inside =
    let (earlier, path) = node_reached nodes n graph inside in
    let (letters, has) = choices_there nodes (n ∷ earlier) path in (
      record { steps = length (n ∷ earlier); choices = letters },
      (earlier, path, record { steps = refl; choices = has }),
    )

module _ (nodes : List Node) (verdicts : List NodeVerdict) (address : ℕ) (graph : IsGraph nodes)
    (one_each : length verdicts ≡ length nodes)
    (has : (n : ℕ) → n < length nodes → (verdict : NodeVerdict) × (slice_get verdicts n ≡ Some verdict))
    (ways : HaveWays nodes verdicts EachAddress) where
  -- some way is one to a hit of a node at the address, or to a miss
  abbrev HasWay : Bool → Type 0
  HasWay hits = (way : Way) × IsWayAt nodes verdicts address hits way

  -- where paths to a node there can do both, ways are kept at one there
  way_kept : (hits : Bool) (n : ℕ) → IsNodeAt nodes address n → slice_get verdicts n ≡ Some (Both None) → HasWay hits
  way_kept hits n at is =
      let (m, found) = ways n is in
      let there : HasWays verdicts m × (address_of nodes m ≡ address_of nodes n) = found in
      let ((kept, has_kept), same) = there in
      let within = slice_get_within verdicts m (Both (Some kept)) has_kept in
      let here : IsNodeAt nodes address m = record { inside = omega (arith, within, one_each); at = same ∙ at.at } in
      (if hits then kept.hit else kept.miss, (m, here, (Both (Some kept), has_kept, refl)))

  -- by each verdict there is a way to a hit, or no path hits; likewise for misses
  way_or_never : (hits : Bool) (n : ℕ) (verdict : NodeVerdict) → IsNodeAt nodes address n
      → slice_get verdicts n ≡ Some verdict → HasWay hits ⊎ (verdict ≡ always_node (not hits))
  way_or_never true n Hits at is =
      let (way, names) = way_there nodes n graph at.inside in inl (way, (n, at, (Hits, is, (refl, names))))
  way_or_never false n Hits at is = inr refl
  way_or_never true n Misses at is = inr refl
  way_or_never false n Misses at is =
      let (way, names) = way_there nodes n graph at.inside in inl (way, (n, at, (Misses, is, (refl, names))))
  way_or_never hits n (Both None) at is = inl (way_kept hits n at is)
  way_or_never hits n (Both (Some kept)) at is =
      inl (if hits then kept.hit else kept.miss, (n, at, (Both (Some kept), is, refl)))

  -- each of the first nodes that is at the address has the verdict
  abbrev Each : NodeVerdict → ℕ → Type 0
  Each verdict count = (n : ℕ) → n < count → IsNodeAt nodes address n → slice_get verdicts n ≡ Some verdict

  -- one node more, where it isn't at the address or has the verdict
  each_more : (verdict : NodeVerdict) (count : ℕ) → Each verdict count
      → (IsNodeAt nodes address count → slice_get verdicts count ≡ Some verdict) → Each verdict (suc count)
  each_more verdict count each last n below at = by_test (n == count) refl where
    by_test : (same : Bool) → (n == count) ≡ same → slice_get verdicts n ≡ Some verdict
    by_test true same =
        let one : n ≡ count = grind (arith, nat_tests, same) in
        subst (λ (k : ℕ). slice_get verdicts k ≡ Some verdict) (sym one)
        (last (subst (λ (k : ℕ). IsNodeAt nodes address k) one at))
    by_test false same = let other : n < count = grind (arith, nat_tests, same, below) in each n other at

  -- a node that isn't at the address has any verdict where it is there
  not_there : (count : ℕ) (verdict : NodeVerdict) → (address_of nodes count == address) ≡ false
      → IsNodeAt nodes address count
      → slice_get verdicts count ≡ Some verdict
  not_there count verdict is at = let here = at.at in absurd (grind (arith, nat_tests, is, here))

  -- a way to a hit at the address by one of the first nodes, or all of those there always miss; likewise for misses
  end_there : (hits : Bool) (count : ℕ) → count ≤ length nodes
      → HasWay hits ⊎ Each (always_node (not hits)) count
  end_there hits zero few = inr (λ n below at. absurd (omega (arith, below)))
  end_there hits (suc count) few = elim (end_there hits count (omega (arith, few))) [
    | inl found ↦ inl found
    | inr each ↦ by_test each (address_of nodes count == address) refl
  ] where
    by_verdict : Each (always_node (not hits)) count → IsNodeAt nodes address count → (verdict : NodeVerdict)
        → slice_get verdicts count ≡ Some verdict
        → HasWay hits ⊎ Each (always_node (not hits)) (suc count)
    by_verdict each at verdict is =
        elim (way_or_never hits count verdict at is) [
          | inl found ↦ inl found
          | inr never ↦ inr (each_more (always_node (not hits)) count each (λ at. is ∙ ap Some never))
        ]

    by_test : Each (always_node (not hits)) count → (here : Bool) → (address_of nodes count == address) ≡ here
        → HasWay hits ⊎ Each (always_node (not hits)) (suc count)
    by_test each false is = inr (each_more (always_node (not hits)) count each (not_there count (always_node (not hits)) is))
    by_test each true is =
        let here : address_of nodes count ≡ address = grind (arith, nat_tests, is) in
        let at : IsNodeAt nodes address count = record { inside = omega (arith, few); at = here } in
        let (verdict, is_v) = has count at.inside in by_verdict each at verdict is_v

  -- the nodes at an address have one merged verdict
  pub merged_there : (n : ℕ) → IsNodeAt nodes address n → (verdict : Verdict) × IsMerged nodes verdicts address verdict
  merged_there n here = elim (end_there true (length nodes) (omega arith)) [
    | inr misses ↦ (AlwaysMiss, record { some = (n, here); each = λ m at. misses m at.inside at })
    | inl (hit, to_hit) ↦ elim (end_there false (length nodes) (omega arith)) [
      | inr hits ↦ (AlwaysHit, record { some = (n, here); each = λ m at. hits m at.inside at })
      | inl (miss, to_miss) ↦ (Unknown hit miss, (to_hit, to_miss))
    ]
  ]

module _ (layout : Layout) (within : IsWithin layout.isa layout.image) where
  -- what is next after an address without a line is next from it on
  skip : (from : ℕ) (next : Option ℕ) → (HasLineIn layout from → ⊥) → IsNextLine layout (from + 1) next
      → IsNextLine layout from next
  skip from None none later = λ n at line. elim (cases_lt from n) [
    | inl beyond ↦ later n (omega (arith, beyond)) line
    | inr before ↦
        let same : n ≡ from = omega (arith, at, before) in none (subst (HasLineIn layout) same line)
  ]
  skip from (Some found) none later = (
    later.0,
    omega (arith, later.1),
    λ n at line. elim (cases_lt from n) [
      | inl beyond ↦ later.2 n (omega (arith, beyond)) line
      | inr before ↦
          let same : n ≡ from = omega (arith, at, before) in absurd (none (subst (HasLineIn layout) same line))
    ],
  )

  -- no line is left where no address is
  none_left : (from : ℕ) → 2 ^ 32 ≤ from → IsNextLine layout from None
  none_left from room = λ n at line. let below = within n line.0 in omega (arith, room, at, below)

  -- the next address with a line, or none is left
  pub next_there : (left from : ℕ) → 2 ^ 32 ≤ from + left → (next : Option ℕ) × IsNextLine layout from next
  next_there zero from room = (None, none_left from (omega (arith, room)))
  next_there (suc left) from room = elim (decide_line layout from) [
    | inl line ↦ (Some from, (line, omega arith, λ n at line. at))
    | inr none ↦
        let (next, is) = next_there left (from + 1) (omega (arith, room)) in (next, skip from next none is)
  ]

  -- bytes in a step
  abbrev step : ℕ
  step = step_of layout.isa

  -- the bare range from an address on
  range_there : (left p : ℕ) → 2 ^ 32 ≤ p + left → IsBare layout p
      → (last : ℕ) × (n : ℕ) × (last ≡ after step p n) × IsBareRange layout p last
  range_there zero p room bare = let below = within p bare.line.0 in absurd (omega (arith, room, below))
  range_there (suc left) p room bare = elim (decide_bare layout (p + step)) [
    | inr ends ↦ (
      p,
      0,
      refl,
      record {
        ends = subst (λ (xs : List ℕ). Contains xs p) (sym (range_alone layout.isa p)) (has-first p []);
        bare = subst (λ (xs : List ℕ). AllByRecursion (IsBare layout) xs) (sym (range_alone layout.isa p)) (bare, tt);
        greatest = ends;
      },
    )
    | inl next ↦
        let some = step_some layout.isa in
        let (last, n, at, range) = range_there left (p + step) (omega (arith, room, some)) next in
        let more = range_begins layout.isa p last n at in (
          last,
          suc n,
          at,
          record {
            ends = subst (λ (xs : List ℕ). Contains xs last) (sym more)
                (has-later p last (range_addresses step (p + step) last) range.ends);
            bare = subst (λ (xs : List ℕ). AllByRecursion (IsBare layout) xs) (sym more) (bare, range.bare);
            greatest = range.greatest;
          },
        )
  ]

  module _ (verdicts : List NodeVerdict) (graph : IsGraph layout.nodes)
      (one_each : length verdicts ≡ length layout.nodes)
      (has : (n : ℕ) → n < length layout.nodes → (verdict : NodeVerdict) × (slice_get verdicts n ≡ Some verdict))
      (ways : HaveWays layout.nodes verdicts EachAddress) where
    -- the line at an address that has one
    line_there : (p : ℕ) → HasLineIn layout p → (line : Line) × IsLineAt layout verdicts p line × (p ≤ last_of line)
    line_there p here = elim (decide_node layout.nodes p) [
      | inl (n, at) ↦ let (verdict, merged) =
          merged_there layout.nodes verdicts p graph one_each has ways n at in (At p verdict, (refl, merged), omega arith)
      | inr none ↦
          let (last, n, at, range) = range_there (2 ^ 32) p (omega arith) (record { line = here; bare = none }) in
          (Unreachable p last, (refl, range), omega (arith, at, after_least step p n))
    ]

    -- the lines from the next address on, where there are such from each later one on
    after_address : (from beyond : ℕ) → ((q : ℕ) → from < q
        → (lines : List Line) × AreAllFrom (IsByAddress layout verdicts) (Some q) lines) → from < beyond
        → (next : Option ℕ) → IsNextLine layout beyond next
        → (lines : List Line) × AreAllFrom (IsByAddress layout verdicts) next lines
    after_address from beyond later order None is = ([], refl)
    after_address from beyond later order (Some q) is = later q (omega (arith, order, is.1))

    -- the line of the next address, and the lines after it
    at_address : (from : ℕ)
        → ((q : ℕ) → from < q → (lines : List Line) × AreAllFrom (IsByAddress layout verdicts) (Some q) lines)
        → (next : Option ℕ) → IsNextLine layout from next
        → (lines : List Line) × AreAllFrom (IsByAddress layout verdicts) (Some from) lines
    at_address from later None is = ([], is)
    at_address from later (Some p) is =
        let (line, line_is, order) = line_there p is.0 in
        let (next, next_is) = next_there (2 ^ 32) (last_of line + 1) (omega arith) in
        let (lines, all) =
        after_address from (last_of line + 1) later (omega (arith, is.1, order)) next next_is in
        (line ∷ lines, (next, (p, is, line_is, next_is), all))

    -- the lines from a cursor on
    pub addresses_left : (left from : ℕ) → 2 ^ 32 ≤ from + left
        → (lines : List Line) × AreAllFrom (IsByAddress layout verdicts) (Some from) lines
    addresses_left zero from room = ([], none_left from (omega (arith, room)))
    addresses_left (suc left) from room =
        let (next, is) = next_there (2 ^ 32) from (omega arith) in
        at_address from (λ q order. addresses_left left q (omega (arith, room, order))) next is
