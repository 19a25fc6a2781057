-- A block that is fetched again at once changes nothing.
use Rattle.std.proofs.Common.{◌≡◌, ℕ, ◌<◌, ◌≤◌, Bool, true, false, cond, ◌==◌, List, length, Some, refl, ap, sym, ◌∙◌, inl, inr, arith}
use Rattle.std.proofs.lemmas.Bool.{cases_lt, eq-eqb, le-ltb, lt-leb, le-leb}
use Rattle.std.proofs.lemmas.List.{ext_get_or, get_or_past}
use Rattle.age_spec.specs.declared.kind.Kind.{Kind}
use Rattle.age_spec.specs.declared.kind.Kind.TheVariants.{Must, May}
use Rattle.age_spec.specs.Ages.{grown, aged, age_at, ages_after}
use Rattle.age_spec.specs.Exists.{hit_bound_after, miss_bound_after, bound_after}
use Rattle.age_spec.proofs.Lists.{length-after, at-after}

-- a may age that a fetch of another block may have raised isn't 0
may_some : (k f x : ℕ) → 1 ≤ k → 1 ≤ aged May k f x
may_some k f x ways =
    let grows : Bool → ℕ = λ b. cond b (grown k x) x in
    elim (cases_lt f x) [
      | inl more ↦ omega (arith, more, ap grows (lt-leb x f more))
      | inr less ↦ omega (arith, ways, ap grows (le-leb x f less))
    ]

-- so a fetch of a block of age 0 leaves it as it is
pub aged_again : (kind : Kind) (k f x : ℕ) → 1 ≤ k → aged kind k 0 (aged kind k f x) ≡ aged kind k f x
aged_again Must k f x ways =
    let age : ℕ = aged Must k f x in
    ap (λ (b : Bool). cond b (grown k age) age) (le-ltb age 0 (omega arith))
aged_again May k f x ways =
    let age : ℕ = aged May k f x in
    ap (λ (b : Bool). cond b (grown k age) age) (lt-leb age 0 (omega (arith, may_some k f x ways)))

-- the age of a block after its fetch is 0
pub own_none : (kind : Kind) (k b : ℕ) (ages : List ℕ) → age_at (ages_after kind k (Some b) ages) b ≡ 0
own_none kind k b ages = elim (cases_lt b (length ages)) [
  | inl inside ↦ at-after kind k b ages b inside
      ∙ ap (λ (own : Bool). cond own 0 (aged kind k (age_at ages b) (age_at ages b))) (eq-eqb b b refl)
  | inr past ↦
      let long = length-after kind k (Some b) ages in
      get_or_past (ages_after kind k (Some b) ages) b 0 (omega (arith, past, long))
]

-- a second fetch of the block changes no age
pub ages_again : (kind : Kind) (k b : ℕ) (ages : List ℕ) → 1 ≤ k
    → ages_after kind k (Some b) (ages_after kind k (Some b) ages) ≡ ages_after kind k (Some b) ages
ages_again kind k b ages ways =
    let once : List ℕ = ages_after kind k (Some b) ages in
    let twice : List ℕ = ages_after kind k (Some b) once in
    let long : length twice ≡ length once = length-after kind k (Some b) once in
    ext_get_or 0 twice once long (λ local inside.
    let there : local < length once = omega (arith, inside, long) in
    let here : local < length ages = omega (arith, there, length-after kind k (Some b) ages) in
    let f : ℕ = age_at ages b in
    let x : ℕ = age_at ages local in
    let first : age_at once local ≡ cond (local == b) 0 (aged kind k f x) = at-after kind k b ages local here in
    let second : age_at twice local ≡ cond (local == b) 0 (aged kind k 0 (age_at once local)) =
    at-after kind k b once local there
    ∙ ap (λ (n : ℕ). cond (local == b) 0 (aged kind k n (age_at once local))) (own_none kind k b ages) in
    second
    ∙ (ap (λ (n : ℕ). cond (local == b) 0 (aged kind k 0 n)) first
    ∙ (elim (local == b) as (λ (own : Bool). cond own 0 (aged kind k 0 (cond own 0 (aged kind k f x)))
    ≡ cond own 0 (aged kind k f x)) [ true ↦ refl | false ↦ aged_again kind k f x ways ]
    ∙ sym first)))

-- where the must age of the fetched block is 0, an exists-hit bound stays
pub hit_again : (k q : ℕ) → hit_bound_after k 0 q ≡ q
hit_again k q = ap (λ (b : Bool). cond b q (grown k q)) (le-leb 0 q (omega arith))

-- where the may age of the fetched block is then 0, an exists-miss bound that a fetch of it changed stays
pub miss_again : (k may q : ℕ) → 1 ≤ k → miss_bound_after k 0 (miss_bound_after k may q) ≡ miss_bound_after k may q
miss_again k may q ways = aged_again May k may q ways

-- where a second change changes nothing, neither does a second node that fetches the same
pub bound_again : (change again : ℕ → ℕ → ℕ) (block other q : ℕ) → again other (change other q) ≡ change other q
    → bound_after again block (Some other) (bound_after change block (Some other) q)
    ≡ bound_after change block (Some other) q
bound_again change again block other q same =
    elim (other == block) as (λ (own : Bool). cond own 0 (again other (cond own 0 (change other q)))
    ≡ cond own 0 (change other q)) [ true ↦ refl | false ↦ same ]

-- so a second node changes no exists-hit bound, where the must age of the block that both fetch is then 0
pub hit_bound_again : (k : ℕ) (must next : ℕ → ℕ) (block other q : ℕ) → next other ≡ 0
    → bound_after (λ o. hit_bound_after k (next o)) block (Some other)
    (bound_after (λ o. hit_bound_after k (must o)) block (Some other) q)
    ≡ bound_after (λ o. hit_bound_after k (must o)) block (Some other) q
hit_bound_again k must next block other q none =
    let first : ℕ = hit_bound_after k (must other) q in
    bound_again (λ o. hit_bound_after k (must o)) (λ o. hit_bound_after k (next o)) block other q
    (ap (λ (n : ℕ). hit_bound_after k n first) none ∙ hit_again k first)

-- nor an exists-miss bound, where the may age is
pub miss_bound_again : (k : ℕ) (may next : ℕ → ℕ) (block other q : ℕ) → 1 ≤ k → next other ≡ 0
    → bound_after (λ o. miss_bound_after k (next o)) block (Some other)
    (bound_after (λ o. miss_bound_after k (may o)) block (Some other) q)
    ≡ bound_after (λ o. miss_bound_after k (may o)) block (Some other) q
miss_bound_again k may next block other q ways none =
    let first : ℕ = miss_bound_after k (may other) q in
    bound_again (λ o. miss_bound_after k (may o)) (λ o. miss_bound_after k (next o)) block other q
    (ap (λ (n : ℕ). miss_bound_after k n first) none ∙ miss_again k (may other) q ways)
