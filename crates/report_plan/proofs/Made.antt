-- The line that is made of a place is the one that stands there.
use Rattle.std.proofs.Common.{◌≡◌, ℕ, zero, suc, ◌+◌, ◌≤◌, ◌/◌, ◌-◌, inl, inr, List, length, Bool, true, false, Option, Some, None, IsTrue, refl, ap, sym, ◌∙◌, subst, arith}
use Rattle.std.specs.Prelude.{slice_get, if◌then◌else◌}
use Rattle.std.specs.List.{Contains}
use Rattle.std.proofs.lemmas.Bool.{and_from, and_parts}
use Rattle.std.proofs.lemmas.Bool.Decides.{nat_tests}
use Rattle.std.proofs.lemmas.List.Elements.{All-get_or}
use Rattle.std.proofs.lemmas.List.Sums.{AllPass-from_list_all}
use Rattle.std.proofs.lemmas.Option.{slice_get_within, get_or_from_slice_get, same_Some}
use Rattle.transition_spec.specs.declared.way.Way.{Way}
use Rattle.path_model.specs.declared.graph.Node.{Node}
use Rattle.path_model.specs.Graph.{graph_step}
use Rattle.report_spec.specs.declared.line.Line.{Line}
use Rattle.report_spec.specs.declared.line.Line.TheVariants.{At, Context, Unreachable}
use Rattle.report_spec.specs.declared.line.Verdict.{Verdict}
use Rattle.report_spec.specs.declared.line.Verdict.TheVariants.{AlwaysHit, AlwaysMiss, Unknown}
use Rattle.report_spec.specs.Inner.{step_of}
use Rattle.report_spec.specs.Report.{addresses_from}
use Rattle.report_spec.specs.Valid.{is_valid_way, is_valid_verdict, has_back_as_deep}
use Rattle.node_spec.specs.declared.verdict.Ways.{Ways}
use Rattle.node_spec.specs.declared.verdict.Kept.TheVariants.{EachNode}
use Rattle.node_spec.specs.declared.verdict.NodeVerdict.{NodeVerdict}
use Rattle.node_spec.specs.declared.verdict.NodeVerdict.TheVariants.{Hits, Misses, Both}
use Rattle.node_spec.specs.Plan.{Layout, IsNodeAt, IsVerdictWay, IsNodeWay, IsMerged, IsVerdictOf, IsLineAt, IsLineOf, IsByAddress, IsByNumber, IsNextLine, last_of}
use Rattle.node_spec.specs.Valid.{is_valid_node_verdict, AreValid}
use Rattle.node_spec.specs.Verdict.{HasWays, HaveWays, kept_for}
use Rattle.node_spec.proofs.Valid.{way_valid}
use Rattle.report_plan.specs.declared.place.Ends.{Ends}
use Rattle.report_plan.specs.declared.place.Ends.TheVariants.{AllHit, AllMiss, Either}
use Rattle.report_plan.specs.declared.place.Place.{Place}
use Rattle.report_plan.specs.declared.place.Place.TheVariants.{OfAddress, OfNode, OfRange}
use Rattle.report_plan.specs.Place.{AreSources, AreEndsAt, ends_of, IsPlaceAt, IsPlaceByAddress, IsPlaceByNumber, last_in}
use Rattle.report_plan.specs.Sources.{GivesWay, GiveWays, GivesLine, IsVerdictFrom, IsLineFrom}
use Rattle.report_plan.specs.Valid.{IsValidWith}
use Rattle.report_plan.proofs.Depth.{back-as_deep}

-- the ways of a valid verdict are valid
valid-kept : (verdicts : List NodeVerdict) (n : ℕ) (hits : Bool) (ways : Ways) → AreValid verdicts
    → slice_get verdicts n ≡ Some (Both (Some ways)) → IsTrue (is_valid_way (if hits then ways.hit else ways.miss))
valid-kept verdicts n hits ways valid has = one hits where
  all : IsTrue (is_valid_node_verdict (Both (Some ways)))
  all =
      let each = AllPass-from_list_all is_valid_node_verdict verdicts valid in
      let inside = slice_get_within verdicts n (Both (Some ways)) has in
      let P : NodeVerdict → Type 0 = λ verdict. is_valid_node_verdict verdict ≡ true in
      subst P (get_or_from_slice_get verdicts n (Both (Some ways)) Hits has)
      (All-get_or (λ verdict. is_valid_node_verdict verdict ≡ true) verdicts n Hits inside each)

  one : (hits : Bool) → IsTrue (is_valid_way (if hits then ways.hit else ways.miss))
  one true = (and_parts (is_valid_way ways.hit) (is_valid_way ways.miss) all).0
  one false = (and_parts (is_valid_way ways.hit) (is_valid_way ways.miss) all).1

-- no address of a range is below its first
range-up : (step first count x : ℕ) → Contains (addresses_from step first count) x → first ≤ x
range-up step first zero x (k, inside, is) = absurd (omega (arith, inside))
range-up step first (suc count) x (zero, inside, is) = omega (arith, is)
range-up step first (suc count) x (suc k, inside, is) =
    omega (arith, range-up step (first + step) count x (k, omega (arith, inside), is))

module _ (nodes : List Node) (verdicts : List NodeVerdict) where
  -- a way of a node is one by its verdict
  way-by : (n : ℕ) (verdict : NodeVerdict) (hits : Bool) (way : Way) → slice_get verdicts n ≡ Some verdict
      → IsNodeWay nodes verdicts n hits way → IsVerdictWay nodes n verdict hits way
  way-by n verdict hits way is (of, is_of, to) =
      let same : of ≡ verdict = same_Some of verdict (sym is_of ∙ is) in
      subst (λ (v : NodeVerdict). IsVerdictWay nodes n v hits way) same to

  -- each way of a node with a valid verdict is valid
  way-is_valid : (n : ℕ) (hits : Bool) (way : Way) → AreValid verdicts → IsNodeWay nodes verdicts n hits way
      → IsTrue (is_valid_way way)
  way-is_valid n hits way valid (Hits, is, (so, (earlier, path, names))) = way_valid (graph_step nodes) n earlier way names
  way-is_valid n hits way valid (Misses, is, (so, (earlier, path, names))) =
      way_valid (graph_step nodes) n earlier way names
  way-is_valid n hits way valid (Both None, is, none) = absurd none
  way-is_valid n hits way valid (Both (Some ways), is, same) =
      subst (λ (w : Way). IsTrue (is_valid_way w)) (sym same) (valid-kept verdicts n hits ways valid is)

  -- the two nodes are at the address
  sources-at : (address hit miss : ℕ) → AreSources nodes verdicts address hit miss
      → IsNodeAt nodes address hit × IsNodeAt nodes address miss
  sources-at address hit miss (inl (keeps, same)) = (keeps.0, subst (IsNodeAt nodes address) (sym same) keeps.0)
  sources-at address hit miss (inr (none, hits, misses)) = (hits.0, misses.0)

  -- a way comes from each of them
  sources-give : (address hit miss : ℕ) → AreSources nodes verdicts address hit miss
      → GivesWay verdicts true hit × GivesWay verdicts false miss
  sources-give address hit miss (inl (keeps, same)) =
      let (ways, is) = keeps.1 in (
        (Both (Some ways), is, refl),
        subst (GivesWay verdicts false) (sym same) (Both (Some ways), is, refl),
      )
  sources-give address hit miss (inr (none, hits, misses)) = ((Hits, hits.1, refl), (Misses, misses.1, refl))

  -- so do those of all ends at the address
  ends-give : (address : ℕ) (ends : Ends) → AreEndsAt nodes verdicts address ends → GiveWays verdicts ends
  ends-give address AllHit have = tt
  ends-give address AllMiss have = tt
  ends-give address (Either hit miss) sources = sources-give address hit miss sources

  -- with such ways the verdict is the merged one
  merged-from : (address : ℕ) (ends : Ends) (verdict : Verdict) → AreEndsAt nodes verdicts address ends
      → IsVerdictFrom nodes verdicts ends verdict → IsMerged nodes verdicts address verdict
  merged-from address AllHit verdict have same = subst (IsMerged nodes verdicts address) (sym same) have
  merged-from address AllMiss verdict have same = subst (IsMerged nodes verdicts address) (sym same) have
  merged-from address (Either a b) AlwaysHit sources from = absurd from
  merged-from address (Either a b) AlwaysMiss sources from = absurd from
  merged-from address (Either a b) (Unknown hit miss) sources (to_hit, to_miss) =
      let at = sources-at address a b sources in ((a, at.0, to_hit), (b, at.1, to_miss))

  -- and where they come from one node, it is that of the node
  verdict-from : (n : ℕ) (node : NodeVerdict) (verdict : Verdict) → slice_get verdicts n ≡ Some node
      → IsVerdictFrom nodes verdicts (ends_of n node) verdict → IsVerdictOf (Some node) verdict
  verdict-from n Hits verdict is from = from
  verdict-from n Misses verdict is from = from
  verdict-from n (Both None) AlwaysHit is from = absurd from
  verdict-from n (Both None) AlwaysMiss is from = absurd from
  verdict-from n (Both None) (Unknown hit miss) is from = absurd (way-by n (Both None) true hit is from.0)
  verdict-from n (Both (Some ways)) AlwaysHit is from = absurd from
  verdict-from n (Both (Some ways)) AlwaysMiss is from = absurd from
  verdict-from n (Both (Some ways)) (Unknown hit miss) is from =
      let same_hit : hit ≡ ways.hit = way-by n (Both (Some ways)) true hit is from.0 in
      let same_miss : miss ≡ ways.miss = way-by n (Both (Some ways)) false miss is from.1 in
      ap (λ (way : Way). Unknown way miss) same_hit ∙ ap (λ (way : Way). Unknown ways.hit way) same_miss

  -- where each node that can do both keeps its ways, both come from it
  node-gives : (n : ℕ) (node : NodeVerdict) → HaveWays nodes verdicts EachNode → slice_get verdicts n ≡ Some node
      → GiveWays verdicts (ends_of n node)
  node-gives n Hits have is = tt
  node-gives n Misses have is = tt
  node-gives n (Both None) have is =
      let (m, kept) = have n is in
      let there : HasWays verdicts m × (m ≡ n) = kept in
      let ((ways, has), same) = there in
      let here = subst (λ (k : ℕ). slice_get verdicts k ≡ Some (Both (Some ways))) same has in absurd (cc (is, here))
  node-gives n (Both (Some ways)) have is = ((Both (Some ways), is, refl), (Both (Some ways), is, refl))

module _ (on : Layout) (verdicts : List NodeVerdict) where
  -- the line of the place that begins at an address is the line there
  line-at : (address : ℕ) (place : Place) (line : Line) → IsPlaceAt on verdicts address place
      → IsLineFrom on.nodes verdicts place line → IsLineAt on verdicts address line
  line-at address (OfAddress at ends) line (same, have) (verdict, is, from) =
      subst (IsLineAt on verdicts address) (sym is)
      (same, merged-from on.nodes verdicts address ends verdict have from)
  line-at address (OfRange first last) line range is = subst (IsLineAt on verdicts address) (sym is) range
  line-at address (OfNode node at depth back ends) line none is = absurd none

  -- it ends where the place does
  last-same : (place : Place) (line : Line) → IsLineFrom on.nodes verdicts place line → last_of line ≡ last_in place
  last-same (OfAddress at ends) line (verdict, is, from) = ap last_of is
  last-same (OfNode node at depth back ends) line (verdict, is, from) = ap last_of is
  last-same (OfRange first last) line is = ap last_of is

  -- so it stands where the place does, by address
  pub by-address : (from : ℕ) (place : Place) (next : Option ℕ) (line : Line)
      → IsPlaceByAddress on verdicts from (Some (place, next)) → IsLineFrom on.nodes verdicts place line
      → IsByAddress on verdicts from (Some (line, next))
  by-address from place next line (address, first, place_is, beyond) is = (
    address,
    first,
    line-at address place line place_is is,
    subst (λ (last : ℕ). IsNextLine on (last + 1) next) (sym (last-same place line is)) beyond,
  )

  -- and by number
  pub by-number : (from : ℕ) (place : Place) (next : Option ℕ) (line : Line)
      → IsPlaceByNumber on.configurations verdicts from (Some (place, next)) → IsLineFrom on.nodes verdicts place line
      → IsByNumber on.configurations verdicts from (Some (line, next))
  by-number from (OfAddress at ends) next line place_is is = absurd place_is.0
  by-number from (OfRange first last) next line place_is is = absurd place_is.0
  by-number from (OfNode number at depth back ends) next line ((same, (node, is_node, ends_is), config), next_is) is =
      let (verdict, line_is, made) = is in
      let own = subst (λ (ends : Ends). IsVerdictFrom on.nodes verdicts ends verdict) ends_is made in
      let of_node = subst (λ (o : Option NodeVerdict). IsVerdictOf o verdict) (sym is_node)
      (verdict-from on.nodes verdicts from node verdict is_node own) in (
        subst (IsLineOf on.configurations verdicts from) (sym line_is) (same, of_node, config),
        next_is,
      )

  -- the ways of a line come from the nodes of its place
  pub gives-line : (contexts : Bool) (from : ℕ) (place : Place) (next : Option ℕ)
      → HaveWays on.nodes verdicts (kept_for contexts)
      → (contexts ≡ false → IsPlaceByAddress on verdicts from (Some (place, next)))
      → (contexts ≡ true → IsPlaceByNumber on.configurations verdicts from (Some (place, next)))
      → GivesLine verdicts place
  gives-line false from place next have by_address by_number = of_place place (by_address refl) where
    of_place : (place : Place) → IsPlaceByAddress on verdicts from (Some (place, next)) → GivesLine verdicts place
    of_place (OfAddress at ends) (address, first, place_is, beyond) =
        ends-give on.nodes verdicts address ends place_is.1
    of_place (OfNode node at depth back ends) (address, first, place_is, beyond) = absurd place_is
    of_place (OfRange first last) is = tt
  gives-line true from place next have by_address by_number = of_place place (by_number refl) where
    of_place : (place : Place) → IsPlaceByNumber on.configurations verdicts from (Some (place, next))
        → GivesLine verdicts place
    of_place (OfAddress at ends) is = absurd is.0
    of_place (OfNode number at depth back ends) ((same, (node, is_node, ends_is), config), next_is) =
        subst (GiveWays verdicts) (sym ends_is) (node-gives on.nodes verdicts from node have is_node)
    of_place (OfRange first last) is = absurd is.0

  -- a merged verdict is valid where all are
  merged-valid : (address : ℕ) (verdict : Verdict) → AreValid verdicts → IsMerged on.nodes verdicts address verdict
      → IsTrue (is_valid_verdict verdict)
  merged-valid address AlwaysHit valid have = refl
  merged-valid address AlwaysMiss valid have = refl
  merged-valid address (Unknown hit miss) valid ((n, at_n, to_hit), (m, at_m, to_miss)) =
      and_from (is_valid_way hit) (is_valid_way miss) (way-is_valid on.nodes verdicts n true hit valid to_hit)
      (way-is_valid on.nodes verdicts m false miss valid to_miss)

  -- so is the verdict of a line for that of a node
  node-valid : (n : ℕ) (node : NodeVerdict) (verdict : Verdict) → AreValid verdicts → slice_get verdicts n ≡ Some node
      → IsVerdictOf (Some node) verdict
      → IsTrue (is_valid_verdict verdict)
  node-valid n Hits verdict valid is same = ap is_valid_verdict same
  node-valid n Misses verdict valid is same = ap is_valid_verdict same
  node-valid n (Both None) verdict valid is none = absurd none
  node-valid n (Both (Some ways)) verdict valid is same =
      ap is_valid_verdict same
      ∙ and_from (is_valid_way ways.hit) (is_valid_way ways.miss) (valid-kept verdicts n true ways valid is)
      (valid-kept verdicts n false ways valid is)

  -- a line by address is valid where all verdicts are
  pub address-valid : (address : ℕ) (line : Line) → IsLineAt on verdicts address line → IsValidWith verdicts line
  address-valid address (At at verdict) is valid = merged-valid address verdict valid is.1
  address-valid address (Context node at depth back verdict) is valid = absurd is
  address-valid address (Unreachable first last) is valid =
      let order : first ≤ last =
      range-up (step_of on.isa) first ((last - first) / step_of on.isa + 1) last is.1.ends in
      grind (arith, nat_tests, order)

  -- and so is one by number
  pub number-valid : (number : ℕ) (line : Line) → IsLineOf on.configurations verdicts number line
      → IsValidWith verdicts line
  number-valid number (At at verdict) is valid = absurd is
  number-valid number (Unreachable first last) is valid = absurd is
  number-valid number (Context node at depth back verdict) (same, of_node, (c, is_c, at_is, depth_is, back_is)) valid =
      let P : ℕ → Type 0 = λ depth. IsTrue (has_back_as_deep depth back) in
      let Q : Option ℕ → Type 0 = λ back. IsTrue (has_back_as_deep (length c.frames) back) in
      and_from (has_back_as_deep depth back) (is_valid_verdict verdict)
      (subst P (sym depth_is) (subst Q (sym back_is) (back-as_deep c.frames)))
      (of_verdict (slice_get verdicts number) refl of_node)
    where
      of_verdict : (o : Option NodeVerdict) → slice_get verdicts number ≡ o → IsVerdictOf o verdict
          → IsTrue (is_valid_verdict verdict)
      of_verdict None is none = absurd none
      of_verdict (Some node) is of = node-valid number node verdict valid is of

  -- so the line at a cursor is valid, either way
  pub line-valid : (contexts : Bool) (from : ℕ) (line : Line) (next : Option ℕ)
      → (contexts ≡ false → IsByAddress on verdicts from (Some (line, next)))
      → (contexts ≡ true → IsByNumber on.configurations verdicts from (Some (line, next))) → IsValidWith verdicts line
  line-valid false from line next by_address by_number =
      let (address, first, is, beyond) = by_address refl in address-valid address line is
  line-valid true from line next by_address by_number = number-valid from line (by_number refl).0
