-- Each step on the counter keeps the rule.
use Rattle.std.proofs.Common.{◌≡◌, ℕ, ◌+◌, ◌-◌, ◌%◌, ◌^◌, ◌<◌, ◌≤◌, Bool, true, false, cond, ◌||◌, List, [], ◌∷◌, ◌++◌}
use Rattle.std.proofs.Common.{get_or, slice_index, set, sym, ◌∙◌, subst, refl, ap, arith, length-set, get_or-set_same}
use Rattle.std.proofs.Common.{⊎_elim}
use Rattle.std.specs.Prelude.{All, sum_by, nat_le}
use Rattle.std.proofs.lemmas.Bool.{le-leb, leb-true, cases_lt, or_cases}
use Rattle.std.proofs.lemmas.List.{set-get_or}
use Rattle.std.proofs.lemmas.List.Sums.{sum_by_push, sum_by-le-sum_by}
use Rattle.std.proofs.lemmas.List.Elements.{All-set, All-push, All-weaker, All-cons, All-nil}
use mathlib.Core.Option.{none, some}
use lib.ListN.{get_elem?}
use Rattle.atomic_table.specs.Table.{step, keeps, stepped, Allows, Splits, Joins}
use Rattle.atomic_table.proofs.Lists.{at_set, set_again}
use Rattle.work_share.specs.declared.rule.SeatView.{SeatView}
use Rattle.work_share.specs.Counts.{times, once_below, IsEachBelow}
use Rattle.work_share.specs.Rule.{Office, Mine, counter_of, weight_of, ended_weight, AddsUp, first_view, view_after}
use Rattle.work_share.specs.Rule.{HasDrawn, HasLooked, kept_view, new_view, joined_view, spent_view}
use Rattle.work_share.proofs.Counted.{times-append, times-there, once_below-positive, once_below-next, once_below-past}
use Rattle.work_share.proofs.Views.{sum_by-changed, one-le-sum_by, holds_here, sum_by-alone, at_changed}

-- how often a seat has drawn a number
abbrev drawn_times : ℕ → SeatView → ℕ
drawn_times x view = times x view.drawn

-- no seat counts for more than its weight
ended_weight-le : (view : SeatView) → ended_weight view ≤ weight_of view
ended_weight-le view = either view.ended
  where
    either : (ended : Bool) → cond ended view.weight 0 ≤ view.weight
    either true = omega arith
    either false = omega arith

-- the first seat of a counter at 0
pub begins : (jobs : ℕ) → AddsUp jobs record { words = 0 ∷ []; homes = []; views = first_view jobs ∷ [] }
begins jobs = record {
  one_word = refl;
  weights = refl;
  each = λ x. sym (once_below-past x 0 (omega arith));
  bound = omega arith;
  past =
      All-cons (λ (view : SeatView). view.ended ≡ true → jobs < 0) (first_view jobs) [] (λ ended. absurd (cc))
      (All-nil (λ (view : SeatView). view.ended ≡ true → jobs < 0));
  joined =
      All-cons (λ (view : SeatView). view.weight ≡ 0 → view.drawn ≡ []) (first_view jobs) [] (λ weightless. refl)
      (All-nil (λ (view : SeatView). view.weight ≡ 0 → view.drawn ≡ []));
}

module _ (jobs : ℕ) (office : Office) (rule : AddsUp jobs office) where
  -- the counter can't wrap
  counter-le : counter_of office ≤ jobs + 64
  counter-le =
      let a = rule.bound in
      let b = rule.weights in
      let c = sum_by-le-sum_by ended_weight weight_of office.views ended_weight-le in omega arith

  module _ (id : ℕ) (view : SeatView) (at : get_elem? office.views id ≡ some view) where
    -- what a seat has drawn is below the counter
    drawn_below : All (λ x. x < counter_of office) view.drawn
    drawn_below k d inside =
        let x : ℕ = get_or view.drawn k d in
        let there = times-there view.drawn k d inside in
        let part = one-le-sum_by office.views id view at (drawn_times x) in
        let whole = rule.each x in
        let some : 0 < once_below x (counter_of office) = omega arith in
        once_below-positive x (counter_of office) some

    -- the only seat has each number below the counter
    each_below : view.weight ≡ 64 → IsEachBelow (counter_of office) view.drawn
    each_below whole x =
        sym
        (sum_by-alone office.views id view at (drawn_times x) (rule.weights ∙ sym whole) refl
        (All-weaker (λ (other : SeatView). other.weight ≡ 0 → other.drawn ≡ [])
        (λ (other : SeatView). other.weight ≡ 0 → drawn_times x other ≡ 0)
        (λ other empty weightless. ap (times x) (empty weightless)) office.views rule.joined))
        ∙ rule.each x

    -- a step that leaves counter and view leaves the rule
    unchanged : AddsUp jobs (stepped office 0 (counter_of office) id [] view keeps)
    unchanged =
        subst (λ (z : List ℕ × List SeatView). AddsUp jobs record { words = z.0; homes = office.homes; views = z.1 })
        (λ i. (sym (set-get_or office.words 0 0) i, sym (set_again office.views id view at) i)) rule

-- a look
pub looks : (jobs slots id : ℕ) (me : Mine) → me.0.jobs ≡ jobs
    → Allows (AddsUp jobs) slots id me 0 (λ n. n) (HasLooked (step slots 0 0 0 none) me)
looks jobs slots id me same office rule _ at _ = (
  me.0,
  keeps,
  tt,
  unchanged jobs office rule id me.0 at,
  (
    refl,
    each_below jobs office rule id me.0 at,
    (λ ended.
        subst (λ (k : ℕ). k < counter_of office) (sym same)
        (holds_here office.views id me.0 at (λ view. view.ended ≡ true → jobs < counter_of office) rule.past
        ended)),
  ),
)

-- the office after a draw
abbrev office_after : Office → ℕ → SeatView → Office
office_after office id view = record {
  words = set office.words 0 (counter_of office + 1);
  homes = office.homes;
  views = set office.views id (view_after view (counter_of office));
}

-- the counter is one further then
counter_after : (jobs : ℕ) (office : Office) → AddsUp jobs office
    → slice_index (set office.words 0 (counter_of office + 1)) 0 ≡ counter_of office + 1
counter_after jobs office rule =
    let one = rule.one_word in get_or-set_same office.words 0 (counter_of office + 1) 0 (omega arith)

-- the rule stands after a draw
drawn_once : (jobs : ℕ) (office : Office) (id : ℕ) (view : SeatView) → AddsUp jobs office
    → get_elem? office.views id ≡ some view → view.jobs ≡ jobs → view.ended ≡ false → 0 < view.weight
    → AddsUp jobs (office_after office id view)
drawn_once jobs office id view rule at same going weighs =
    let n : ℕ = counter_of office in
    let new : SeatView = view_after view n in
    let views : List SeatView = set office.views id new in
    let next : counter_of (office_after office id view) ≡ n + 1 = counter_after jobs office rule in
    let e = sum_by-changed office.views id view at ended_weight new in
    let b = rule.bound in
    let none : ended_weight view ≡ 0 = ap (λ (b : Bool). cond b view.weight 0) going in
    record {
      one_word = length-set office.words 0 (n + 1) ∙ rule.one_word;
      weights = let a = sum_by-changed office.views id view at weight_of new in let w = rule.weights in omega arith;
      each =
          λ x.
          let a = sum_by-changed office.views id view at (drawn_times x) new in
          let more : drawn_times x new ≡ times x view.drawn + times x (n ∷ []) =
          times-append x view.drawn (n ∷ []) in
          let was = rule.each x in
          let up = once_below-next x n in
          (let sum : sum_by (drawn_times x) views ≡ once_below x (n + 1) = omega arith in sum)
          ∙ ap (once_below x) (sym next);
      bound =
          subst (λ (k : ℕ). k ≤ jobs + sum_by ended_weight views) (sym next)
          (⊎_elim (λ (lt : n < view.jobs). omega arith)
          (λ (le : view.jobs ≤ n).
          let now : ended_weight new ≡ view.weight =
          ap (λ (b : Bool). cond b view.weight 0) (le-leb view.jobs n le) in
          omega arith) (cases_lt n view.jobs));
      past =
          subst (λ (k : ℕ). All (λ (other : SeatView). other.ended ≡ true → jobs < k) views) (sym next)
          (All-set (λ (other : SeatView). other.ended ≡ true → jobs < n + 1) office.views id new
          (λ ended. let le = leb-true view.jobs n ended in omega arith)
          (All-weaker (λ (other : SeatView). other.ended ≡ true → jobs < n)
          (λ (other : SeatView). other.ended ≡ true → jobs < n + 1)
          (λ other was ended. let lt = was ended in omega arith) office.views rule.past));
      joined =
          All-set (λ (other : SeatView). other.weight ≡ 0 → other.drawn ≡ []) office.views id new
          (λ weightless. absurd (omega arith)) rule.joined;
    }

-- a draw
pub draws : (jobs slots id : ℕ) (me : Mine) → jobs < 4294967296 → me.0.jobs ≡ jobs → me.0.ended ≡ false
    → 0 < me.0.weight
    → Allows (AddsUp jobs) slots id me 0 (λ n. (n + 1) % 2 ^ 64) (HasDrawn (step slots 0 1 0 none) me)
draws jobs slots id me few same going weighs office rule _ at _ =
    let n : ℕ = counter_of office in
    let new : SeatView = view_after me.0 n in
    let small = counter-le jobs office rule in
    let wraps_not : n + 1 ≡ (n + 1) % 18446744073709551616 = omega arith in
    let after = drawn_once jobs office id me.0 rule at same going weighs in (
      new,
      keeps,
      tt,
      subst (λ (k : ℕ). AddsUp jobs (stepped office 0 k id me.1 new keeps)) wraps_not after,
      (
        refl,
        refl,
        drawn_below jobs office rule id me.0 at,
        (λ whole.
            subst (λ (k : ℕ). IsEachBelow k new.drawn) (counter_after jobs office rule)
            (each_below jobs (office_after office id me.0) after id new (at_changed office.views id me.0 new at)
            whole)),
      ),
    )

-- after a draw the only seat has each number up to the one drawn, and is past the jobs where it has ended
pub each_after : (jobs number : ℕ) (old new : SeatView) → new ≡ view_after old number → old.jobs ≡ jobs
    → (old.weight ≡ 64 → IsEachBelow (number + 1) new.drawn) → new.weight - 1 ≡ 63
    → IsEachBelow (number + 1) new.drawn × (new.ended ≡ true → jobs < number + 1)
each_after jobs number old new is same each whole =
    let weight : new.weight ≡ old.weight = ap weight_of is in (
      each (omega arith),
      (λ ended.
          let past : nat_le old.jobs number ≡ true = sym (ap (λ (view : SeatView). view.ended) is) ∙ ended in
          let le = leb-true old.jobs number past in omega arith),
    )

-- the weights of two seats that were one, where both have ended or none
ended-split : (ended : Bool) (weight : ℕ) → 1 < weight
    → cond ended (weight - 1) 0 + cond ended 1 0 ≡ cond ended weight 0
ended-split true weight more = omega arith
ended-split false weight more = refl

-- a seat is made beside another
pub splits : (jobs id : ℕ) (view : SeatView) → 1 < view.weight
    → Splits (AddsUp jobs) id view (kept_view view) (new_view view)
splits jobs id view more office rule at =
    let kept : SeatView = kept_view view in
    let new : SeatView = new_view view in
    let views : List SeatView = set office.views id kept in
    let n : ℕ = counter_of office in
    let past = holds_here office.views id view at (λ other. other.ended ≡ true → jobs < n) rule.past in
    record {
      one_word = rule.one_word;
      weights =
          let a = sum_by_push weight_of views new in
          let b = sum_by-changed office.views id view at weight_of kept in let c = rule.weights in omega arith;
      each =
          λ x.
          (let a = sum_by_push (drawn_times x) views new in
          let b = sum_by-changed office.views id view at (drawn_times x) kept in
          let none : drawn_times x new ≡ 0 = refl in
          let sum : sum_by (drawn_times x) (views ++ new ∷ []) ≡ sum_by (drawn_times x) office.views =
          omega arith in
          sum) ∙ rule.each x;
      bound =
          let a = sum_by_push ended_weight views new in
          let b = sum_by-changed office.views id view at ended_weight kept in
          let c = rule.bound in
          let d : ended_weight kept + ended_weight new ≡ ended_weight view =
          ended-split view.ended view.weight more in
          omega arith;
      past =
          All-push (λ (other : SeatView). other.ended ≡ true → jobs < n) views new
          (All-set (λ (other : SeatView). other.ended ≡ true → jobs < n) office.views id kept past rule.past) past;
      joined =
          All-push (λ (other : SeatView). other.weight ≡ 0 → other.drawn ≡ []) views new
          (All-set (λ (other : SeatView). other.weight ≡ 0 → other.drawn ≡ []) office.views id kept
          (λ weightless. absurd (omega arith)) rule.joined) (λ weightless. refl);
    }

-- the weights of two seats, where one may have ended, are no more than those of the seat of both
ended-join : (a b : Bool) (p q : ℕ) → cond a p 0 + cond b q 0 ≤ cond (a || b) (p + q) 0
ended-join true true p q = omega arith
ended-join true false p q = omega arith
ended-join false true p q = omega arith
ended-join false false p q = omega arith

-- a seat takes in another
pub joins : (jobs id : ℕ) (view : SeatView) (other_id : ℕ) (other : SeatView) → 0 < view.weight
    → Joins (AddsUp jobs) id view other_id other (joined_view view other) spent_view
joins jobs id view other_id other weighs office rule at apart beside =
    let new : SeatView = joined_view view other in
    let views : List SeatView = set office.views id new in
    let n : ℕ = counter_of office in
    let theirs : get_elem? office.views other_id ≡ some other =
    ⊎_elim (λ (t : (other_id ≡ id) × (new ≡ other)). absurd (apart t.0))
    (λ (t : (other_id ≡ id → ⊥) × (get_elem? office.views other_id ≡ some other)). t.1)
    (at_set office.views id other_id new other beside) in
    record {
      one_word = rule.one_word;
      weights =
          let a = sum_by-changed office.views id view at weight_of new in
          let b = sum_by-changed views other_id other beside weight_of spent_view in
          let c = rule.weights in omega arith;
      each =
          λ x.
          (let a = sum_by-changed office.views id view at (drawn_times x) new in
          let b = sum_by-changed views other_id other beside (drawn_times x) spent_view in
          let d : drawn_times x new ≡ times x view.drawn + times x other.drawn =
          times-append x view.drawn other.drawn in
          let e : drawn_times x spent_view ≡ 0 = refl in
          let sum :
          sum_by (drawn_times x) (set views other_id spent_view) ≡ sum_by (drawn_times x) office.views =
          omega arith in
          sum) ∙ rule.each x;
      bound =
          let a = sum_by-changed office.views id view at ended_weight new in
          let b = sum_by-changed views other_id other beside ended_weight spent_view in
          let c = rule.bound in
          let d : ended_weight view + ended_weight other ≤ ended_weight new =
          ended-join view.ended other.ended view.weight other.weight in
          omega arith;
      past =
          All-set (λ (any : SeatView). any.ended ≡ true → jobs < n) views other_id spent_view (λ ended. absurd (cc))
          (All-set (λ (any : SeatView). any.ended ≡ true → jobs < n) office.views id new
          (λ ended.
          ⊎_elim
          (λ (first : view.ended ≡ true).
          holds_here office.views id view at (λ any. any.ended ≡ true → jobs < n) rule.past first)
          (λ (second : other.ended ≡ true).
          holds_here office.views other_id other theirs (λ any. any.ended ≡ true → jobs < n)
          rule.past second) (or_cases view.ended other.ended ended)) rule.past);
      joined =
          All-set (λ (any : SeatView). any.weight ≡ 0 → any.drawn ≡ []) views other_id spent_view (λ weightless. refl)
          (All-set (λ (any : SeatView). any.weight ≡ 0 → any.drawn ≡ []) office.views id new
          (λ weightless. absurd (omega arith)) rule.joined);
    }
