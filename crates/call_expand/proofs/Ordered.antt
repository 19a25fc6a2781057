-- The order of configurations is total, and tells any two of them apart.
use Rattle.std.proofs.Common.{◌≡◌, ℕ, ◌<◌, ◌≤◌, List, length, refl, ap}
use denote.Param.Members.{Mut}
use denote.Ref.{Bor}
use Rattle.std.specs.Prelude.{Bool}
use Rattle.std.specs.Fn.{Called, ComparesAs}
use Rattle.std.specs.List.Sorted.{IsSorted, IsSortedBy}
use Rattle.std.proofs.lemmas.Fn.{always_returns_same}
use Rattle.std.specs.Cmp.{IsTotalOrder, IsStrictWeakOrder}
use Rattle.std.specs.Ordering.{nat_cmp, is_lt, ordering_then}
use Rattle.std.specs.declared.cmp.Ordering.{Ordering}
use Rattle.std.specs.declared.cmp.Ordering.TheVariants.{Less, Equal, Greater}
use Rattle.std.proofs.lemmas.Cmp.{on_total, ranked, by_ranked}
use Rattle.std.proofs.lemmas.List.Sorted.{ranks_by}
use Rattle.flow_spec.specs.Configuration.{Configuration}
use Rattle.flow_spec.proofs.Ordered.{configurations_total}
use Rattle.frame_stacks.specs.declared.stacks.StackCell.{StackCell}
use Rattle.frame_stacks.specs.Stacks.{AreCells, frames_of}
use Rattle.call_expand.specs.declared.point.Point.{Point}
use Rattle.call_expand.specs.Point.{configuration_at, point_cmp}

-- the order of points is total, and a sort may go by it
pub point_total : (cells : List StackCell) → IsTotalOrder (point_cmp cells)
point_total cells = on_total (configuration_at cells) configurations_total

pub point_ranks : (cells : List StackCell) → IsStrictWeakOrder (λ (a b : Point). is_lt (point_cmp cells a b))
point_ranks cells = ranks_by configurations_total (configuration_at cells)

-- two orders that are equal one after the other
pub then_equal : (o p : Ordering) → ordering_then o p ≡ Equal → (o ≡ Equal) × (p ≡ Equal)
then_equal Less p equal = absurd (cc)
then_equal Equal p equal = (refl, equal)
then_equal Greater p equal = absurd (cc)

-- numbers that are compared as equal are so
pub nat_equal : (x y : ℕ) (o : Ordering) → o ≡ nat_cmp x y → o ≡ Equal → x ≡ y
nat_equal x y o is equal =
    by_ranked (x < y) (x ≡ y) (y < x) o (ranked x y o is)
    (λ (less : o ≡ Less) below. absurd (cc)) (λ (_ : o ≡ Equal) same. same) (λ (more : o ≡ Greater) above. absurd (cc))

-- a point by its fields, and one at the first part of its instruction
abbrev pub point_of : ℕ → ℕ → ℕ → Point
point_of at part stack = record { at = at; part = part; stack = stack }

abbrev pub point : ℕ → ℕ → Point
point at stack = point_of at 0 stack

-- points with the same fields are the same
pub point-fields : (p q m n s t : ℕ) → p ≡ q → m ≡ n → s ≡ t → point_of p m s ≡ point_of q n t
point-fields p q m n s t at part stack = cc

-- points of one configuration are the same
pub same_point : (cells : List StackCell) (a b : Point) → AreCells cells → a.stack ≤ length cells
    → b.stack ≤ length cells
    → configuration_at cells a ≡ configuration_at cells b → a ≡ b
same_point cells a b are first second same =
    let frames : frames_of cells a.stack ≡ frames_of cells b.stack = ap (λ (c : Configuration). c.frames) same in
    let at : a.at ≡ b.at = ap (λ (c : Configuration). c.at) same in
    let part : a.part ≡ b.part = ap (λ (c : Configuration). c.part) same in
    point-fields a.at b.at a.part b.part a.stack b.stack at part
    (are.alone a.stack b.stack first second frames)

-- a sort whose calls answer by the order leaves points in that order
pub sorted-by : (cells : List StackCell) {F : Type 0} {g : Mut F (Bor Point × (Bor Point × Unit {0})) Ordering}
    {f : F} (points : List Point)
    → ((lt : Point → Point → Bool) → IsStrictWeakOrder lt → ComparesAs g lt f → IsSortedBy lt points)
    → ((a : Bor Point × (Bor Point × Unit {0})) (r : Ordering) (f' : F) → Called g f a r f'
    → (r ≡ point_cmp cells a.0.now a.1.0.now) × (f' ≡ f))
    → IsSorted (point_cmp cells) points
sorted-by cells points sorted calls =
    sorted (λ a b. is_lt (point_cmp cells a b)) (point_ranks cells)
    (always_returns_same _ _ _ (λ a r f' k. let both = calls a r f' k in (ap is_lt both.0, both.1)))
