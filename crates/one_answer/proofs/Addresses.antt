-- Two reports by address agree in all but their ways.
use Rattle.std.proofs.Common.{◌≡◌, ℕ, zero, suc, ◌+◌, ◌-◌, ◌<◌, List, [], ◌∷◌, ◌++◌, refl, ap, sym, ◌∙◌, subst, arith, inl, inr}
use Rattle.std.specs.Prelude.{Contains, flat_map}
use Rattle.std.specs.List.{AllByRecursion}
use Rattle.std.proofs.lemmas.Bool.{cases_lt}
use Rattle.list_lemmas.proofs.Members.{each-has}
use Rattle.cache_spec.specs.Geometry.{Geometry}
use Rattle.cache_spec.specs.declared.start.Start.{Start}
use Rattle.flow_spec.specs.Program.{Program}
use Rattle.report_spec.specs.declared.line.Line.{Line}
use Rattle.report_spec.specs.declared.line.Line.TheVariants.{At, Context, Unreachable}
use Rattle.report_spec.specs.declared.line.Verdict.{Verdict}
use Rattle.report_spec.specs.Right.{IsRight}
use Rattle.report_spec.specs.Inner.{IsAt, IsUnreached, step_of}
use Rattle.report_spec.specs.Report.{addresses_from, range_addresses, addresses_of, IsRightLine, AreGreatest, AreByAddress}
use Rattle.report_lines.proofs.Steps.{after, address_among, steps_in, range_first, range_end}
use Rattle.one_answer.specs.Alike.{verdict_alone, AreAlike}
use Rattle.one_answer.proofs.Listed.{same_rising}
use Rattle.one_answer.proofs.Verdicts.{one_verdict, reached}

-- one step more
after_more : (step first n : ℕ) → after step first (suc n) ≡ after step first n + step
after_more step first zero = refl
after_more step first (suc n) = after_more step (first + step) n

-- what is after fewer addresses begins with the one after them, where more addresses are the same list
after_fewer : (step first n more : ℕ) (xs ys : List ℕ)
    → addresses_from step first n ++ xs ≡ addresses_from step first (n + suc more) ++ ys
    → xs ≡ addresses_from step (after step first n) (suc more) ++ ys
after_fewer step first zero more xs ys same =
    let none : zero + suc more ≡ suc more = omega arith in
    same ∙ ap (λ k. addresses_from step first k ++ ys) none
after_fewer step first (suc n) more xs ys same =
    let next : suc n + suc more ≡ suc (n + suc more) = omega arith in
    let opened : addresses_from step first (suc n) ++ xs ≡ addresses_from step first (suc (n + suc more)) ++ ys =
    same ∙ ap (λ k. addresses_from step first k ++ ys) next in
    after_fewer step (first + step) n more xs ys (cc opened)

-- what is after as many addresses is the same
after_same : (step first n : ℕ) (xs ys : List ℕ)
    → addresses_from step first n ++ xs ≡ addresses_from step first n ++ ys → xs ≡ ys
after_same step first zero xs ys same = same
after_same step first (suc n) xs ys same = after_same step (first + step) n xs ys (cc same)

-- lines after a range are as they were without it
greatest_after : (step first last : ℕ) (lines : List Line) → AreGreatest step (Unreachable first last ∷ lines)
    → AreGreatest step lines
greatest_after step first last [] greatest = tt
greatest_after step first last (At at verdict ∷ lines) greatest = greatest
greatest_after step first last (Context node at depth back verdict ∷ lines) greatest = greatest
greatest_after step first last (Unreachable next end ∷ lines) greatest = greatest.1

module _ (program : Program) (g : Geometry) (start : Start) where
  -- bytes in a step
  abbrev step : ℕ
  step = step_of program.isa

  -- the addresses of some lines
  abbrev listed : List Line → List ℕ
  listed lines = flat_map (addresses_of step) lines

  -- each line is right
  abbrev AreRight : List Line → Type 0
  AreRight lines = AllByRecursion (IsRightLine program g start) lines

  -- how many addresses a range has after its first
  abbrev more_in : ℕ → ℕ → ℕ
  more_in first last = steps_in program.isa first last

  -- the addresses of a range, and those of the lines after it
  range_listed : (first last : ℕ) (lines : List Line)
      → listed (Unreachable first last ∷ lines) ≡ addresses_from step first (suc (more_in first last)) ++ listed lines
  range_listed first last lines = ap (λ (xs : List ℕ). xs ++ listed lines) (range_first program.isa first last)

  -- those of a range that no path reaches
  range_unreached : (first last k : ℕ) → IsRightLine program g start (Unreachable first last)
      → k < suc (more_in first last) → IsUnreached program (after step first k)
  range_unreached first last k range below =
      each-has (IsUnreached program) (range_addresses step first last) range.1 (after step first k)
      (subst (λ (xs : List ℕ). Contains xs (after step first k)) (sym (range_first program.isa first last))
      (address_among step first (suc (more_in first last)) k below))

  -- no line stands at an address that no path reaches
  not_reached : (p at : ℕ) (verdict : Verdict) → IsUnreached program p → p ≡ at
      → IsRight program g start (IsAt at) verdict → ⊥
  not_reached p at verdict unreached same right =
      let (addresses, fetched) = reached program g start (IsAt at) verdict right in
      subst (λ q. IsUnreached program q) same unreached addresses fetched

  -- a line by address has a first address
  some_address : (line : Line) (lines : List Line) → IsRightLine program g start line
      → listed (line ∷ lines) ≡ [] → ⊥
  some_address (At at verdict) lines right none = absurd (cc none)
  some_address (Context node at depth back verdict) lines right none = right
  some_address (Unreachable first last) lines right none = absurd (cc (range_listed first last lines, none))

  -- lines after a range don't begin with the address after it, where no path reaches that
  nothing_after : (first last p : ℕ) (lines : List Line) (others : List ℕ)
      → AreGreatest step (Unreachable first last ∷ lines) → AreRight lines
      → IsUnreached program p → p ≡ last + step → listed lines ≡ p ∷ others → ⊥
  nothing_after first last p [] others greatest right unreached beyond begins = absurd (cc begins)
  nothing_after first last p (At at verdict ∷ lines) others greatest right unreached beyond begins =
      let same : p ≡ at = cc begins in not_reached p at verdict unreached same right.0
  nothing_after first last p (Context node at depth back verdict ∷ lines) others greatest right unreached beyond
      begins = right.0
  nothing_after first last p (Unreachable next end ∷ lines) others greatest right unreached beyond begins =
      let same : p ≡ next = cc (range_listed next end lines, begins) in greatest.0 (sym same ∙ beyond)

  -- a range isn't shorter than another that begins with it, where both lists go on alike
  not_shorter : (first last end : ℕ) (lines others : List Line) → AreGreatest step (Unreachable first last ∷ lines)
      → AreRight lines
      → IsRightLine program g start (Unreachable first last)
      → IsRightLine program g start (Unreachable first end)
      → listed (Unreachable first last ∷ lines) ≡ listed (Unreachable first end ∷ others)
      → more_in first last < more_in first end → ⊥
  not_shorter first last end lines others greatest right range other same shorter =
      let n = more_in first last in
      let more = more_in first end - n - 1 in
      let count : suc (more_in first end) ≡ suc n + suc more = omega (arith, shorter) in
      let whole : addresses_from step first (suc n) ++ listed lines
      ≡ addresses_from step first (suc n + suc more) ++ listed others =
      sym (range_listed first last lines) ∙ same ∙ range_listed first end others
      ∙ ap (λ k. addresses_from step first k ++ listed others) count in
      let next = after step first (suc n) in
      let beyond : next ≡ last + step =
      after_more step first n ∙ ap (λ p. p + step) (sym (range_end program.isa first last range.0)) in
      nothing_after first last next lines (addresses_from step (next + step) more ++ listed others) greatest right
      (range_unreached first end (suc n) other (omega (arith, shorter))) beyond
      (after_fewer step first (suc n) more (listed lines) (listed others) whole)

  -- two ranges that begin alike are one
  one_range : (first last end : ℕ) (lines others : List Line) → AreGreatest step (Unreachable first last ∷ lines)
      → AreGreatest step (Unreachable first end ∷ others) → AreRight lines → AreRight others
      → IsRightLine program g start (Unreachable first last)
      → IsRightLine program g start (Unreachable first end)
      → listed (Unreachable first last ∷ lines) ≡ listed (Unreachable first end ∷ others) → last ≡ end
  one_range first last end lines others greatest greatest' right right' range range' same =
      elim (cases_lt (more_in first last) (more_in first end)) [
        | inl less ↦ absurd (not_shorter first last end lines others greatest right range range' same less)
        | inr as_many ↦ elim (cases_lt (more_in first end) (more_in first last)) [
          | inl less ↦ absurd (not_shorter first end last others lines greatest' right' range' range (sym same) less)
          | inr as_few ↦
              let long : more_in first last ≡ more_in first end = omega (arith, as_many, as_few) in
              range_end program.isa first last range.0 ∙ ap (λ k. after step first k) long
              ∙ sym (range_end program.isa first end range'.0)
        ]
      ]

  -- a line of an address and a range don't begin alike
  address_and_range : (at : ℕ) (verdict : Verdict) (first last : ℕ) (lines others : List Line)
      → IsRight program g start (IsAt at) verdict
      → IsRightLine program g start (Unreachable first last)
      → listed (At at verdict ∷ lines) ≡ listed (Unreachable first last ∷ others) → ⊥
  address_and_range at verdict first last lines others right range same =
      let one : at ≡ first = cc (same, range_listed first last others) in
      not_reached first at verdict (range_unreached first last 0 range (omega arith)) (sym one) right

  -- two ranges before lists that are alike are one, and what comes after them is alike
  same_range : (first first' last last' : ℕ) (lines others : List Line) → AreRight (Unreachable first last ∷ lines)
      → AreRight (Unreachable first' last' ∷ others) → AreGreatest step (Unreachable first last ∷ lines)
      → AreGreatest step (Unreachable first' last' ∷ others)
      → first ≡ first' → listed (Unreachable first last ∷ lines) ≡ listed (Unreachable first' last' ∷ others)
      → (last ≡ last') × (listed lines ≡ listed others)
  same_range first first' last last' lines others right right' greatest greatest' one =
      let Same : ℕ → Type 0 = λ p. AreRight (Unreachable p last' ∷ others)
      → AreGreatest step (Unreachable p last' ∷ others)
      → listed (Unreachable first last ∷ lines) ≡ listed (Unreachable p last' ∷ others)
      → (last ≡ last') × (listed lines ≡ listed others) in
      let here : Same first = λ right' greatest' same.
      let ends : last ≡ last' = one_range first last last' lines others greatest greatest' right.1 right'.1 right.0
      right'.0 same in
      let count = suc (more_in first last) in
      let whole : addresses_from step first count ++ listed lines ≡ addresses_from step first count ++ listed others =
      sym (range_listed first last lines) ∙ same ∙ range_listed first last' others
      ∙ ap (λ end. addresses_from step first (suc (more_in first end)) ++ listed others) (sym ends) in
      (ends, after_same step first count (listed lines) (listed others) whole) in
      subst Same one here right' greatest'

  -- right lines with the same addresses, in which no two ranges could be joined, are alike
  alike : (lines others : List Line) → AreRight lines → AreRight others → AreGreatest step lines → AreGreatest step others
      → listed lines ≡ listed others
      → AreAlike lines others
  alike [] [] right right' greatest greatest' same = refl
  alike [] (line ∷ others) right right' greatest greatest' same = absurd (some_address line others right'.0 (sym same))
  alike (line ∷ lines) [] right right' greatest greatest' same = absurd (some_address line lines right.0 same)
  alike (Context node at depth back verdict ∷ lines) (line ∷ others) right right' greatest greatest' same =
      absurd right.0
  alike (At at verdict ∷ lines) (Context node at' depth back verdict' ∷ others) right right' greatest greatest' same =
      absurd right'.0
  alike (Unreachable first last ∷ lines) (Context node at depth back verdict ∷ others) right right' greatest greatest'
      same = absurd right'.0
  alike (At at verdict ∷ lines) (At at' verdict' ∷ others) right right' greatest greatest' same =
      let one : at' ≡ at = cc same in
      let rest : listed lines ≡ listed others = cc same in
      let here : IsRight program g start (IsAt at) verdict' =
      subst (λ p. IsRight program g start (IsAt p) verdict') one right'.0 in
      let said : verdict_alone verdict ≡ verdict_alone verdict' =
      one_verdict program g start (IsAt at) verdict verdict' right.0 here in
      let later : AreAlike lines others = alike lines others right.1 right'.1 greatest greatest' rest in
      cc (one, said, later)
  alike (At at verdict ∷ lines) (Unreachable first last ∷ others) right right' greatest greatest' same =
      absurd (address_and_range at verdict first last lines others right.0 right'.0 same)
  alike (Unreachable first last ∷ lines) (At at verdict ∷ others) right right' greatest greatest' same =
      absurd (address_and_range at verdict first last others lines right'.0 right.0 (sym same))
  alike (Unreachable first last ∷ lines) (Unreachable first' last' ∷ others) right right' greatest greatest' same =
      let one : first ≡ first' = cc (range_listed first last lines, range_listed first' last' others, same) in
      let (ends, rest) = same_range first first' last last' lines others right right' greatest greatest' one same in
      let later : AreAlike lines others =
      alike lines others right.1 right'.1 (greatest_after step first last lines greatest)
      (greatest_after step first' last' others greatest') rest in
      cc (one, ends, later)

  -- two reports by address are alike
  pub by_address : (lines others : List Line) → AreByAddress program g start lines
      → AreByAddress program g start others
      → AreAlike lines others
  by_address lines others are are' =
      let same : listed lines ≡ listed others = same_rising (listed lines) (listed others) are.rising are'.rising
      (λ p has. (are'.all p).1 ((are.all p).0 has)) (λ p has. (are.all p).1 ((are'.all p).0 has)) in
      alike lines others are.right are'.right are.greatest are'.greatest same
