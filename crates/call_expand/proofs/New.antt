-- Those of some points that are new: each once, in their order.
use Rattle.std.proofs.Common.{◌≡◌, ℕ, suc, ◌+◌, inl, inr, ⊎_elim, List, [], ◌∷◌, ◌++◌, get_or, false, add-one, refl, ap, sym, ◌∙◌, subst, arith, append_assoc}
use Rattle.std.specs.Prelude.{Contains}
use Rattle.std.specs.List.{AllByRecursion}
use Rattle.std.proofs.lemmas.List.Elements.{Contains-append_left, Contains-append_right, Contains-push}
use Rattle.std.specs.Cmp.{IsTotalOrder}
use Rattle.std.specs.Ordering.{is_lt, ordering_reverse}
use Rattle.std.specs.declared.cmp.Ordering.{Ordering}
use Rattle.std.specs.declared.cmp.Ordering.TheVariants.{Less, Equal, Greater}
use Rattle.std.specs.List.Sorted.{IsSorted, IsStrictlySortedBy}
use Rattle.std.proofs.lemmas.List.Sorted.{sorted_far, ranks_by}
use Rattle.list_lemmas.proofs.Members.{has-none, has-first, has-later, has-cases, each-has, all-from_each}
use Rattle.call_expand.specs.declared.point.Point.{Point}
use Rattle.call_expand.specs.Numbers.{AreNew}

-- a new one is one of the points
pub new-listed : (found seen more : List Point) → AreNew seen found more → (point : Point) → Contains more point
    → Contains found point
new-listed [] seen more are point has =
    let P : List Point → Type 0 = λ more. Contains more point in absurd (has-none point (subst P are has))
new-listed (first ∷ found) seen more (inl old) point has =
    has-later first point found (new-listed found seen more old.1 point has)
new-listed (first ∷ found) seen more (inr new) point has =
    let P : List Point → Type 0 = λ more. Contains more point in
    ⊎_elim
    (λ (same : point ≡ first). let Q : Point → Type 0 = λ p. Contains (first ∷ found) p in subst Q (sym same)
    (has-first first found))
    (λ (rest : Contains new.1 point). has-later first point found
    (new-listed found (seen ++ first ∷ []) new.1 new.3 point rest))
    (has-cases first point new.1 (subst P new.2 has))

-- a new one wasn't seen
pub new-unseen : (found seen more : List Point) → AreNew seen found more → (point : Point) → Contains more point
    → Contains seen point → ⊥
new-unseen [] seen more are point has old =
    let P : List Point → Type 0 = λ more. Contains more point in has-none point (subst P are has)
new-unseen (first ∷ found) seen more (inl before) point has old = new-unseen found seen more before.1 point has old
new-unseen (first ∷ found) seen more (inr new) point has old =
    let P : List Point → Type 0 = λ more. Contains more point in
    ⊎_elim
    (λ (same : point ≡ first). let Q : Point → Type 0 = λ p. Contains seen p in new.0 (subst Q same old))
    (λ (rest : Contains new.1 point).
    new-unseen found (seen ++ first ∷ []) new.1 new.3 point rest (Contains-append_left seen (first ∷ []) point old))
    (has-cases first point new.1 (subst P new.2 has))

-- each point was seen or is new
pub new-all : (found seen more : List Point) → AreNew seen found more → (point : Point) → Contains found point
    → Contains (seen ++ more) point
new-all [] seen more are point has = absurd (has-none point has)
new-all (first ∷ found) seen more (inl before) point has =
    ⊎_elim
    (λ (same : point ≡ first).
    let Q : Point → Type 0 = λ p. Contains (seen ++ more) p in
    subst Q (sym same) (Contains-append_left seen more first before.0))
    (λ (rest : Contains found point). new-all found seen more before.1 point rest)
    (has-cases first point found has)
new-all (first ∷ found) seen more (inr new) point has =
    let P : List Point → Type 0 = λ more. Contains (seen ++ more) point in
    let grouped : (seen ++ first ∷ []) ++ new.1 ≡ seen ++ first ∷ new.1 = append_assoc seen (first ∷ []) new.1 in
    let Q : List Point → Type 0 = λ all. Contains all point in
    ⊎_elim
    (λ (same : point ≡ first).
    let R : Point → Type 0 = λ p. Contains (seen ++ more) p in
    let S : List Point → Type 0 = λ more. Contains (seen ++ more) first in
    subst R (sym same) (subst S (sym new.2) (Contains-append_right seen (first ∷ new.1) first (has-first first new.1))))
    (λ (rest : Contains found point).
    subst P (sym new.2) (subst Q grouped (new-all found (seen ++ first ∷ []) new.1 new.3 point rest)))
    (has-cases first point found has)

-- what isn't before an element, and doesn't tie with it, is after it
beyond : (o p : Ordering) → o ≡ ordering_reverse p → is_lt p ≡ false → (o ≡ Equal → ⊥) → o ≡ Less
beyond Less p turned not_before apart = refl
beyond Equal p turned not_before apart = absurd (apart refl)
beyond Greater Less turned not_before apart = absurd (cc)
beyond Greater Equal turned not_before apart = absurd (cc)
beyond Greater Greater turned not_before apart = absurd (cc)

-- no later element of a list in order is before its first
pub not_before-first : (order : Point → Point → Ordering) → IsTotalOrder order → (first : Point) (points : List Point)
    → IsSorted order (first ∷ points) → (point : Point) → Contains points point → is_lt (order point first) ≡ false
not_before-first order total first points sorted point has =
    let same : get_or (first ∷ points) (has.0 + 1) point ≡ point =
    ap (λ i. get_or (first ∷ points) i point) (add-one has.0) ∙ has.2 in
    let P : Point → Type 0 = λ p. is_lt (order p first) ≡ false in
    subst P same
    (sorted_far (λ a b. is_lt (order a b)) (ranks_by total (λ (p : Point). p)) (first ∷ points) sorted 0 (has.0 + 1)
    point (omega arith)
    (omega (arith, has.1)))

-- a list in order goes on in order
sorted-rest : (order : Point → Point → Ordering) (first : Point) (points : List Point) → IsSorted order (first ∷ points)
    → IsSorted order points
sorted-rest order first points sorted k d low below =
    let step = sorted (k + 1) d (omega arith) (omega arith) in
    let P : ℕ → ℕ → Type 0 = λ i j. is_lt (order (get_or (first ∷ points) i d) (get_or (first ∷ points) j d)) ≡ false in
    let Q : ℕ → Type 0 = λ i. P i (k + 1) in
    let R : ℕ → Type 0 = λ j. P (suc (k + 1)) j in
    subst R (add-one k) (subst Q (add-one (k + 1)) step)

-- the new ones of points in order are strictly in order, where known points that tie are the same
pub new-sorted : (order : Point → Point → Ordering) (Known : Point → Type 0) → IsTotalOrder order
    → ((a b : Point) → Known a → Known b → order a b ≡ Equal → a ≡ b) → (found seen more : List Point)
    → AllByRecursion Known found → IsSorted order found → AreNew seen found more → IsStrictlySortedBy order more
unfolding IsStrictlySortedBy
new-sorted order Known total same [] seen more known sorted are =
    let P : List Point → Type 0 = λ more. IsStrictlySortedBy order more in subst P (sym are) tt
new-sorted order Known total same (first ∷ found) seen more known sorted (inl before) =
    new-sorted order Known total same found seen more known.1 (sorted-rest order first found sorted) before.1
new-sorted order Known total same (first ∷ found) seen more known sorted (inr new) =
    let P : List Point → Type 0 = λ more. IsStrictlySortedBy order more in
    let rest =
    new-sorted order Known total same found (seen ++ first ∷ []) new.1 known.1 (sorted-rest order first found sorted)
    new.3 in
    let after = all-from_each (λ (point : Point). order first point ≡ Less) new.1 (λ point has.
    let listed = new-listed found (seen ++ first ∷ []) new.1 new.3 point has in
    beyond (order first point) (order point first) (total.antisymm first point)
    (not_before-first order total first found sorted point listed)
    (λ tie.
    let one = same first point known.0 (each-has Known found known.1 point listed) tie in
    let Q : Point → Type 0 = λ p. Contains (seen ++ first ∷ []) p in
    new-unseen found (seen ++ first ∷ []) new.1 new.3 point has (subst Q one (Contains-push seen first)))) in
    subst P (sym new.2) (after, rest)
