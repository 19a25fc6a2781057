-- The views of all seats, and of one among them.
use Rattle.std.proofs.Common.{◌≡◌, ℕ, zero, suc, ◌+◌, ◌<◌, ◌≤◌, List, [], ◌∷◌, length, get_or, set, sym, subst, refl}
use Rattle.std.proofs.Common.{ap, arith}
use Rattle.std.specs.Prelude.{All, sum_by}
use Rattle.std.proofs.lemmas.List.Sums.{sum_by-cons, sum_by-set, get_or-le-sum_by}
use Rattle.std.proofs.lemmas.List.Elements.{All-head, All-tail, All-set, All-get_or}
use mathlib.Core.Option.{some, some-injective, some-ne-none}
use lib.ListN.{get_elem?}
use Rattle.work_share.specs.declared.rule.SeatView.{SeatView}
use Rattle.work_share.specs.Rule.{weight_of, spent_view}

-- seats without weight add nothing
nothing_left : (f : SeatView → ℕ) (views : List SeatView) → sum_by weight_of views ≡ 0
    → All (λ view. view.weight ≡ 0 → f view ≡ 0) views → sum_by f views ≡ 0
nothing_left f [] weightless none = refl
nothing_left f (x ∷ xs) weightless none =
    let a = sum_by-cons weight_of x xs in
    let b = sum_by-cons f x xs in
    let first : x.weight ≡ 0 → f x ≡ 0 = All-head (λ view. view.weight ≡ 0 → f view ≡ 0) x xs none in
    let here = first (omega arith) in
    let more = nothing_left f xs (omega arith) (All-tail (λ view. view.weight ≡ 0 → f view ≡ 0) x xs none) in
    omega arith

-- a view stands at its place
at_place : (views : List SeatView) (id : ℕ) (view : SeatView) → get_elem? views id ≡ some view
    → (id < length views) × (get_or views id view ≡ view)
at_place [] id view at = absurd (some-ne-none view (sym at))
at_place (x ∷ xs) zero view at = (omega arith, some-injective x view at)
at_place (x ∷ xs) (suc id) view at = let r = at_place xs id view at in (omega (arith, r.0), r.1)

module _ (views : List SeatView) (id : ℕ) (view : SeatView) (at : get_elem? views id ≡ some view) where
  -- a sum over the views, where one is changed
  pub sum_by-changed : (f : SeatView → ℕ) (new : SeatView)
      → sum_by f (set views id new) + f view ≡ sum_by f views + f new
  sum_by-changed f new =
      let place = at_place views id view at in
      let parts = sum_by-set f views id new view place.0 in
      let same : f (get_or views id view) ≡ f view = ap f place.1 in omega arith

  -- one view is no more than the sum
  pub one-le-sum_by : (f : SeatView → ℕ) → f view ≤ sum_by f views
  one-le-sum_by f =
      let place = at_place views id view at in
      let part = get_or-le-sum_by f views id view place.0 in
      let same : f (get_or views id view) ≡ f view = ap f place.1 in omega arith

  -- what holds of all views holds of one
  pub holds_here : (P : SeatView → Type 0) → All P views → P view
  holds_here P all = let place = at_place views id view at in subst P place.1 (All-get_or P views id view place.0 all)

  -- a seat with all the weight has all that there is
  pub sum_by-alone : (f : SeatView → ℕ) → sum_by weight_of views ≡ view.weight → f spent_view ≡ 0
      → All (λ other. other.weight ≡ 0 → f other ≡ 0) views → sum_by f views ≡ f view
  sum_by-alone f whole nothing none =
      let a = sum_by-changed weight_of spent_view in
      let b = sum_by-changed f spent_view in
      let rest =
      nothing_left f (set views id spent_view) (omega arith)
      (All-set (λ other. other.weight ≡ 0 → f other ≡ 0) views id spent_view (λ _. nothing) none) in
      omega arith

-- a changed view stands where the view stood
pub at_changed : (views : List SeatView) (id : ℕ) (view new : SeatView) → get_elem? views id ≡ some view
    → get_elem? (set views id new) id ≡ some new
at_changed [] id view new at = absurd (some-ne-none view (sym at))
at_changed (x ∷ xs) zero view new at = refl
at_changed (x ∷ xs) (suc id) view new at = at_changed xs id view new at
