-- The lines of a report with contexts: one for each configuration, in the order of their numbers.
use Rattle.std.proofs.Common.{◌≡◌, ℕ, zero, suc, ◌+◌, ◌<◌, ◌≤◌, List, [], ◌∷◌, length, drop, refl, ap, sym, ◌∙◌, subst, arith, Option, Some, None}
use Rattle.std.specs.Prelude.{Bool, true, false, nat_lt, if◌then◌else◌, slice_get, option_map}
use Rattle.std.proofs.lemmas.Bool.Decides.{nat_tests}
use Rattle.std.proofs.lemmas.Option.{slice_get_within, get_or_from_slice_get}
use Rattle.std.proofs.lemmas.Slice.Zip.{AllZip-long}
use Rattle.list_lemmas.proofs.Members.{found-inside}
use Rattle.cache_spec.specs.Geometry.{Geometry}
use Rattle.cache_spec.specs.declared.start.Start.{Start}
use Rattle.flow_spec.specs.Program.{Program}
use Rattle.flow_spec.specs.Configuration.{Configuration, start_of, fetched}
use Rattle.flow_spec.specs.Successors.{newest}
use Rattle.path_model.specs.declared.graph.Node.{Node}
use Rattle.report_spec.specs.declared.line.Line.{Line}
use Rattle.report_spec.specs.declared.line.Line.TheVariants.{At, Context, Unreachable}
use Rattle.report_spec.specs.declared.line.Verdict.{Verdict}
use Rattle.report_spec.specs.declared.line.Verdict.TheVariants.{AlwaysHit, AlwaysMiss, Unknown}
use Rattle.node_spec.specs.declared.verdict.NodeVerdict.{NodeVerdict}
use Rattle.node_spec.specs.declared.verdict.NodeVerdict.TheVariants.{Hits, Misses, Both}
use Rattle.report_spec.specs.Right.{IsRight}
use Rattle.report_spec.specs.Report.{IsContextLine, AreContextLines}
use Rattle.call_expand.specs.Expansion.{numbered}
use Rattle.node_spec.specs.Verdict.{HasWays}
use Rattle.node_spec.specs.Plan.{IsVerdictOf, IsLineOf, IsByNumber}
use Rattle.report_lines.specs.Findings.{AreFindings}
use Rattle.report_lines.specs.Lines.{AreAllFrom}
use Rattle.report_lines.proofs.Transport.{context_right}

-- what is left from a cursor on begins with what stands there
drop_at : {A : Type 0} (xs : List A) (k : ℕ) (x : A) → slice_get xs k ≡ Some x → drop k xs ≡ x ∷ drop (k + 1) xs
drop_at [] k x is = absurd (cc is)
drop_at (y ∷ xs) zero x is = let same : y ≡ x = cc is in ap (λ z. z ∷ xs) same
drop_at (y ∷ xs) (suc k) x is =
    let next : suc k + 1 ≡ suc (k + 1) = omega arith in
    subst (λ (i : ℕ). drop k xs ≡ x ∷ drop i (y ∷ xs)) (sym next) (drop_at xs k x is)

-- past the end nothing is left
drop_past : {A : Type 0} (xs : List A) (k : ℕ) → length xs ≤ k → drop k xs ≡ []
drop_past [] zero past = refl
drop_past [] (suc k) past = refl
drop_past (x ∷ xs) zero past = absurd (omega (arith, past))
drop_past (x ∷ xs) (suc k) past = drop_past xs k (omega (arith, past))

module _ (program : Program) (g : Geometry) (start : Start) (configurations : List Configuration)
    (nodes : List Node) (verdicts : List NodeVerdict)
    (found : AreFindings program g start true configurations nodes verdicts) where
  -- there is a node for each configuration
  long : length configurations ≡ length nodes
  long = sym (AllZip-long _ _ _ found.graph.each)

  -- the line of a configuration is right
  context_line : (k : ℕ) (c : Configuration) (line : Line) → slice_get configurations k ≡ Some c
      → IsLineOf configurations verdicts k line
      → IsContextLine program g start k c line
  context_line k c (At at verdict) is line = absurd line
  context_line k c (Unreachable first last) is line = absurd line
  context_line k c (Context node at depth back verdict) is (number, has, (d, is_d, at_is, depth_is, back_is)) =
      let same : d ≡ c = cc (is, is_d) in
      let below : k < length configurations = slice_get_within configurations k c is in
      let here : numbered configurations k ≡ d = get_or_from_slice_get configurations k d (start_of 0) is_d in
      let right : IsRight program g start (λ e. e ≡ numbered configurations k) verdict =
      context_right program g start configurations nodes verdicts found.graph found.right k verdict
      (omega (arith, below, long)) long has in
      subst (λ (c : Configuration). IsContextLine program g start k c (Context node at depth back verdict)) same (
        number,
        at_is,
        depth_is,
        back_is,
        subst (λ (c : Configuration). IsRight program g start (λ e. e ≡ c) verdict) here right,
      )

  -- what stands after a number, where the lines from the next on are those of the configurations left
  after_number : (k : ℕ) (lines : List Line) → (AreAllFrom (IsByNumber configurations verdicts) (Some (k + 1)) lines
      → AreContextLines program g start (k + 1) (drop (k + 1) configurations) lines)
      → (next : Option ℕ) → next ≡ (if nat_lt (k + 1) (length configurations) then Some (k + 1) else None)
      → AreAllFrom (IsByNumber configurations verdicts) next lines → (more : Bool)
      → nat_lt (k + 1) (length configurations) ≡ more
      → AreContextLines program g start (k + 1) (drop (k + 1) configurations) lines
  after_number k lines later next next_is all true is =
      let to : next ≡ Some (k + 1) = next_is ∙ rw is refl in
      later (subst (λ (p : Option ℕ). AreAllFrom (IsByNumber configurations verdicts) p lines) to all)
  after_number k lines later next next_is all false is =
      let to : next ≡ None = next_is ∙ rw is refl in
      let none : lines ≡ [] = subst (λ (p : Option ℕ). AreAllFrom (IsByNumber configurations verdicts) p lines) to
      all in
      let past : length configurations ≤ k + 1 = grind (arith, nat_tests, is) in
      subst (λ (ls : List Line). AreContextLines program g start (k + 1) (drop (k + 1) configurations) ls)
      (sym none) (subst (λ (cs : List Configuration). AreContextLines program g start (k + 1) cs [])
      (sym (drop_past configurations (k + 1) past)) tt)

  -- a line of a configuration, and those after it
  with_context : (k : ℕ) (line : Line) (lines : List Line) → IsLineOf configurations verdicts k line
      → AreContextLines program g start (k + 1) (drop (k + 1) configurations) lines
      → AreContextLines program g start k (drop k configurations) (line ∷ lines)
  with_context k (At at verdict) lines is later = absurd is
  with_context k (Unreachable first last) lines is later = absurd is
  with_context k (Context node at depth back verdict) lines is later =
      let (number, has, (c, is_c, at_is, depth_is, back_is)) = is in
      subst (λ (cs : List Configuration). AreContextLines program g start k cs
      (Context node at depth back verdict ∷ lines))
      (sym (drop_at configurations k c is_c))
      (context_line k c (Context node at depth back verdict) is_c is, later)

  -- all lines from a number on are those of the configurations from there on
  pub context_lines : (lines : List Line) (k : ℕ) → AreAllFrom (IsByNumber configurations verdicts) (Some k) lines
      → AreContextLines program g start k (drop k configurations) lines
  context_lines [] k past =
      subst (λ (cs : List Configuration). AreContextLines program g start k cs [])
      (sym (drop_past configurations k past)) tt
  context_lines (line ∷ lines) k (next, (line_is, next_is), later) =
      with_context k line lines line_is
      (after_number k lines (context_lines lines (k + 1)) next next_is later (nat_lt (k + 1) (length configurations))
      refl)

  -- each node has the verdict of a line
  verdict_there : (k : ℕ) (node : NodeVerdict) → slice_get verdicts k ≡ Some node
      → (verdict : Verdict) × IsVerdictOf (slice_get verdicts k) verdict
  verdict_there k Hits is = (AlwaysHit, subst (λ o. IsVerdictOf o AlwaysHit) (sym is) refl)
  verdict_there k Misses is = (AlwaysMiss, subst (λ o. IsVerdictOf o AlwaysMiss) (sym is) refl)
  verdict_there k (Both None) is =
      let (m, kept) = found.ways k is in
      let there : HasWays verdicts m × (m ≡ k) = kept in
      let ((ways, has), same) = there in
      let here = subst (λ (n : ℕ). slice_get verdicts n ≡ Some (Both (Some ways))) same has in absurd (cc (is, here))
  verdict_there k (Both (Some ways)) is =
      (Unknown ways.hit ways.miss, subst (λ o. IsVerdictOf o (Unknown ways.hit ways.miss)) (sym is) refl)

  -- each number of a configuration has its line
  line_there : (k : ℕ) → k < length configurations → (line : Line) × IsLineOf configurations verdicts k line
  line_there k below =
      let (c, is_c) = found-inside configurations k below in
      let (node, is, right) = found.right k (omega (arith, below, long)) in
      let (verdict, of_node) = verdict_there k node is in (
        Context k (fetched c) (length c.frames) (option_map (λ frame. frame.back) (newest c.frames)) verdict,
        (refl, of_node, (c, is_c, refl, refl, refl)),
      )

  -- the number after one, where it is that of a configuration
  abbrev after_of : ℕ → Option ℕ
  after_of k = if nat_lt (k + 1) (length configurations) then Some (k + 1) else None

  -- there are lines from the number after one on, where there are such from it on
  rest_there : (k : ℕ) → ((lines : List Line) × AreAllFrom (IsByNumber configurations verdicts) (Some (k + 1)) lines)
      → (more : Bool)
      → (lines : List Line) × AreAllFrom (IsByNumber configurations verdicts) (if more then Some (k + 1) else None)
      lines
  rest_there k later true = later
  rest_there k later false = ([], refl)

  -- one line more, where the number is that of a configuration
  number_left : (k : ℕ) → ((lines : List Line) × AreAllFrom (IsByNumber configurations verdicts) (Some (k + 1)) lines)
      → (inside : Bool)
      → nat_lt k (length configurations) ≡ inside
      → (lines : List Line) × AreAllFrom (IsByNumber configurations verdicts) (Some k) lines
  number_left k later false is = ([], grind (arith, nat_tests, is))
  number_left k later true is =
      let (line, line_is) = line_there k (grind (arith, nat_tests, is)) in
      let (lines, all) = rest_there k later (nat_lt (k + 1) (length configurations)) in
      (line ∷ lines, (after_of k, (line_is, refl), all))

  -- there are such lines from each number on
  pub numbers_left : (left k : ℕ) → length configurations ≤ k + left
      → (lines : List Line) × AreAllFrom (IsByNumber configurations verdicts) (Some k) lines
  numbers_left zero k past = ([], omega (arith, past))
  numbers_left (suc left) k past =
      number_left k (numbers_left left (k + 1) (omega (arith, past))) (nat_lt k (length configurations)) refl
