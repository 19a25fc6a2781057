-- Lists of ages, local block by local block.
use Rattle.std.proofs.Common.{◌≡◌, ℕ, zero, suc, ◌+◌, ◌*◌, ◌<◌, ◌≤◌, cond, ◌==◌, List, [], ◌∷◌, length, Option, Some, None, refl, sym, ap, ◌∙◌, arith, zero-add}
use Rattle.std.proofs.lemmas.List.{length-map, get_or-map}
use Rattle.std.proofs.lemmas.List.FromFn.{length-enumerate_from, get_or-enumerate_from}
use Rattle.std.specs.List.{enumerate_from}
use Rattle.age_spec.specs.declared.kind.Kind.{Kind}
use Rattle.age_spec.specs.Ages.{aged, met, all_met, age_at, ages_after, IsBelow}
use Rattle.age_spec.proofs.Numbers.{met_none, rank, rank_few, rank_more, rank_same}

-- where lists of ages meet
pub length-met : (kind : Kind) (one two : List ℕ) → length one ≡ length two → length (all_met kind one two) ≡ length one
length-met kind [] two long = refl
length-met kind (x ∷ one) [] long = absurd (omega (arith, long))
length-met kind (x ∷ one) (y ∷ two) long = ap suc (length-met kind one two (omega (arith, long)))

pub at-met : (kind : Kind) (one two : List ℕ) → length one ≡ length two → (local : ℕ)
    → age_at (all_met kind one two) local ≡ met kind (age_at one local) (age_at two local)
at-met kind [] [] long local = sym (met_none kind)
at-met kind [] (y ∷ two) long local = absurd (omega (arith, long))
at-met kind (x ∷ one) [] long local = absurd (omega (arith, long))
at-met kind (x ∷ one) (y ∷ two) long zero = refl
at-met kind (x ∷ one) (y ∷ two) long (suc local) = at-met kind one two (omega (arith, long)) local

-- after a node
pub length-after : (kind : Kind) (k : ℕ) (fetch : Option ℕ) (ages : List ℕ)
    → length (ages_after kind k fetch ages) ≡ length ages
length-after kind k None ages = refl
length-after kind k (Some a) ages =
    length-map (enumerate_from 0 ages)
    (λ (entry : ℕ × ℕ). cond (entry.0 == a) 0 (aged kind k (age_at ages a) entry.1))
    ∙ length-enumerate_from 0 ages

pub at-after : (kind : Kind) (k a : ℕ) (ages : List ℕ) (local : ℕ) → local < length ages
    → age_at (ages_after kind k (Some a) ages) local
    ≡ cond (local == a) 0 (aged kind k (age_at ages a) (age_at ages local))
at-after kind k a ages local inside =
    let f : ℕ × ℕ → ℕ = λ entry. cond (entry.0 == a) 0 (aged kind k (age_at ages a) entry.1) in
    let here : local < length (enumerate_from 0 ages) = omega (arith, inside, length-enumerate_from 0 ages) in
    get_or-map f (enumerate_from 0 ages) local (0, 0) 0 here
    ∙ (ap f (get_or-enumerate_from 0 ages local (0, 0) inside)
    ∙ ap (λ (n : ℕ). f (n, age_at ages local)) (zero-add local))

-- how far up the order a list stands
abbrev pub ranks : Kind → ℕ → List ℕ → ℕ
ranks kind k [] = 0
ranks kind k (x ∷ ages) = rank kind k x + ranks kind k ages

pub ranks-few : (kind : Kind) (k : ℕ) (ages : List ℕ) → ((local : ℕ) → age_at ages local ≤ k)
    → ranks kind k ages ≤ length ages * k
ranks-few kind k [] few = omega arith
ranks-few kind k (x ∷ ages) few =
    omega (arith, rank_few kind k x (few 0), ranks-few kind k ages (λ local. few (suc local)))

pub ranks-more : (kind : Kind) (k : ℕ) (one two : List ℕ) → length one ≡ length two
    → ((local : ℕ) → age_at one local ≤ k) → ((local : ℕ) → age_at two local ≤ k)
    → ((local : ℕ) → IsBelow kind (age_at one local) (age_at two local)) → ranks kind k one ≤ ranks kind k two
ranks-more kind k [] [] long few_one few_two below = omega arith
ranks-more kind k [] (y ∷ two) long few_one few_two below = absurd (omega (arith, long))
ranks-more kind k (x ∷ one) [] long few_one few_two below = absurd (omega (arith, long))
ranks-more kind k (x ∷ one) (y ∷ two) long few_one few_two below =
    let first = rank_more kind k x y (few_one 0) (few_two 0) (below 0) in
    let rest = ranks-more kind k one two (omega (arith, long)) (λ local. few_one (suc local))
    (λ local. few_two (suc local)) (λ local. below (suc local)) in
    omega (arith, first, rest)

-- a list above another that stands no higher is the same
pub ranks-same : (kind : Kind) (k : ℕ) (one two : List ℕ) → length one ≡ length two
    → ((local : ℕ) → age_at one local ≤ k) → ((local : ℕ) → age_at two local ≤ k)
    → ((local : ℕ) → IsBelow kind (age_at one local) (age_at two local)) → ranks kind k two ≤ ranks kind k one
    → one ≡ two
ranks-same kind k [] [] long few_one few_two below low = refl
ranks-same kind k [] (y ∷ two) long few_one few_two below low = absurd (omega (arith, long))
ranks-same kind k (x ∷ one) [] long few_one few_two below low = absurd (omega (arith, long))
ranks-same kind k (x ∷ one) (y ∷ two) long few_one few_two below low =
    let as_long : length one ≡ length two = omega (arith, long) in
    let first : rank kind k x ≤ rank kind k y = rank_more kind k x y (few_one 0) (few_two 0) (below 0) in
    let rest : ranks kind k one ≤ ranks kind k two =
    ranks-more kind k one two as_long (λ local. few_one (suc local)) (λ local. few_two (suc local))
    (λ local. below (suc local)) in
    let same : x ≡ y = rank_same kind k x y (few_one 0) (few_two 0) (omega (arith, first, rest, low)) in
    let others : one ≡ two =
    ranks-same kind k one two as_long (λ local. few_one (suc local)) (λ local. few_two (suc local))
    (λ local. below (suc local)) (omega (arith, first, rest, low)) in
    ap (λ (w : ℕ). w ∷ one) same ∙ ap (λ (w : List ℕ). y ∷ w) others
