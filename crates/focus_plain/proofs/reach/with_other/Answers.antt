use Rattle.std.proofs.Common.{◌≡◌, ℕ, List, [], true, false, get_or, length, ap, sym, ◌∙◌, subst, arith}
use Rattle.std.proofs.lemmas.List.{get_or_read}
use Rattle.std.proofs.lemmas.Bool.{both_ways}
use Rattle.std.specs.List.{Contains}
use Rattle.std.specs.List.Sorted.{IsStrictlyIncreasing}
use Rattle.focus_plain.specs.Entries.{reached_set}
use Rattle.focus_plain.proofs.Reached.{cut-present, cut-longer, cut-too_long}
use Rattle.focus_plain.proofs.reach.with_other.Goals as goal
use Rattle.focus_plain.proofs.reach.with_other.Goals.{After-has}

module _ (c : After-has) where
  -- the numbers that are read are those of the set
  is : c.items-numbers.result.now ≡ get_or c.args.sets.now c.args.index []
  is = c.items-numbers.ensures.value ∙ get_or_read _ _ _ c.requires.inside c.index-sets-index.is []

  -- where the number is found it is one of them
  present : c.has.result ≡ true → Contains (get_or c.args.sets.now c.args.index []) c.args.other
  present found = subst (λ (s : List ℕ). Contains s c.args.other) is (c.has.ensures.0 found)

  -- where it isn't found it is none of them
  absent : c.has.result ≡ false → Contains (get_or c.args.sets.now c.args.index []) c.args.other → ⊥
  absent lost there =
      both_ways c.has.result lost (c.has.ensures.1 (subst (λ (s : List ℕ). Contains s c.args.other) (sym is) there))

pub returns-then-has-clause-value : goal.returns-then-has-clause-value
returns-then-has-clause-value c =
    let known = (goal.at.returns-then-has-clause-value c).After-has in
    ap (reached_set c.args.sets.now) c.alone.ensures
    ∙ cut-present c.args.ways c.args.other (get_or c.args.sets.now c.args.index [])
    (subst (λ (s : List ℕ). IsStrictlyIncreasing s) (is known) c.items-numbers.ensures.rising)
    (present known c.if-has.true) c.requires.small

pub returns-then-numbers-ways-clause-value : goal.returns-then-numbers-ways-clause-value
returns-then-numbers-ways-clause-value c =
    let known = (goal.at.returns-then-numbers-ways-clause-value c).After-has in
    cut-longer c.args.ways c.args.other (get_or c.args.sets.now c.args.index []) (absent known c.if-has.false)
    (omega (arith, c.if-numbers-ways.true, ap length (is known)))

pub returns-clause-value : goal.returns-clause-value
returns-clause-value c =
    let known = (goal.at.returns-clause-value c).After-has in
    cut-too_long c.args.ways c.args.other (get_or c.args.sets.now c.args.index []) (absent known c.if-has.false)
    (omega (arith, c.if-numbers-ways.false, ap length (is known)))
