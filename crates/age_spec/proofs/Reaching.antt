-- Exists-hit and exists-miss bounds are monotone frameworks.
use Rattle.std.proofs.Common.{◌≡◌, ℕ, ◌+◌, ◌-◌, ◌≤◌, Bool, true, false, cond, ◌==◌, List, [], ◌∷◌, length, Option, Some, None, refl, ap, sym, ◌∙◌, inl, inr, arith}
use Rattle.std.proofs.lemmas.Bool.{cases_lt, lt-ltb, le-ltb, lt-leb, le-leb}
use Rattle.cache_spec.specs.declared.start.Start.{Start}
use Rattle.cache_spec.specs.declared.start.Start.TheVariants.{Empty, Any}
use Rattle.lattice_fix.specs.Framework.{IsMonotone, IsChain}
use Rattle.focus_spec.specs.Younger.{fetch_at}
use Rattle.set_view.specs.View.{View}
use Rattle.age_spec.specs.declared.kind.Kind.TheVariants.{Must, May}
use Rattle.age_spec.specs.Ages.{grown, aged, age_of}
use Rattle.age_spec.specs.Exists.{first_hit_bound, hit_bound_after, miss_bound_after, bound_after, hit_framework, miss_framework}
use Rattle.age_spec.proofs.Numbers.{aged_few, aged_more}

-- an exists-hit bound changes as a must age does
pub hit_is_aged : (k must q : ℕ) → hit_bound_after k must q ≡ aged Must k must q
hit_is_aged k must q =
    let stays : Bool → ℕ = λ b. cond b q (grown k q) in
    let grows : Bool → ℕ = λ b. cond b (grown k q) q in
    elim (cases_lt q must) [
      | inl less ↦ ap stays (lt-leb must q less) ∙ sym (ap grows (lt-ltb q must less))
      | inr more ↦ ap stays (le-leb must q more) ∙ sym (ap grows (le-ltb q must more))
    ]

-- and an exists-miss bound as a may age: the two are one definition
pub miss_is_aged : (k may q : ℕ) → miss_bound_after k may q ≡ aged May k may q
miss_is_aged k may q = refl

-- no change passes the ways
pub hit_few : (k must q : ℕ) → q ≤ k → hit_bound_after k must q ≤ k
hit_few k must q few = omega (arith, hit_is_aged k must q, aged_few Must k must q few)

pub miss_few : (k may q : ℕ) → q ≤ k → miss_bound_after k may q ≤ k
miss_few k may q few = omega (arith, miss_is_aged k may q, aged_few May k may q few)

-- bounds above others stay above them
pub hit_more : (k must x y : ℕ) → x ≤ k → y ≤ k → y ≤ x → hit_bound_after k must y ≤ hit_bound_after k must x
hit_more k must x y few_x few_y below = omega (
  arith,
  hit_is_aged k must x,
  hit_is_aged k must y,
  aged_more Must k must y must x few_y few_x (omega arith) below,
)

pub miss_more : (k may x y : ℕ) → x ≤ k → y ≤ k → x ≤ y → miss_bound_after k may x ≤ miss_bound_after k may y
miss_more k may x y few_x few_y below = omega (
  arith,
  miss_is_aged k may x,
  miss_is_aged k may y,
  aged_more May k may y may x few_y few_x (omega arith) below,
)

-- a node keeps bounds within the ways where its change does
bound_few : (k block : ℕ) (change : ℕ → ℕ → ℕ) → ((other q : ℕ) → q ≤ k → change other q ≤ k) → (fetch : Option ℕ)
    (q : ℕ) → q ≤ k → bound_after change block fetch q ≤ k
bound_few k block change keeps None q few = few
bound_few k block change keeps (Some other) q few =
    elim (other == block) as (λ (b : Bool). cond b 0 (change other q) ≤ k) [
      | true ↦ omega arith
      | false ↦ keeps other q few
    ]

-- and a lesser bound lesser
bound_more : (k block : ℕ) (change : ℕ → ℕ → ℕ)
    → ((other x y : ℕ) → x ≤ k → y ≤ k → x ≤ y → change other x ≤ change other y) → (fetch : Option ℕ) (x y : ℕ)
    → x ≤ k → y ≤ k → x ≤ y → bound_after change block fetch x ≤ bound_after change block fetch y
bound_more k block change keeps None x y few_x few_y below = below
bound_more k block change keeps (Some other) x y few_x few_y below =
    elim (other == block) as (λ (b : Bool). cond b 0 (change other x) ≤ cond b 0 (change other y)) [
      | true ↦ omega arith
      | false ↦ keeps other x y few_x few_y below
    ]

-- no exists-hit bound at node 0 passes the ways
pub first_hit_few : (start : Start) (k : ℕ) → first_hit_bound start k ≤ k
first_hit_few Empty k = omega arith
first_hit_few Any k = omega arith

module _ (view : View) (start : Start) (must : List (List ℕ)) (block : ℕ) where
  -- a rising chain has at most one member more than its last lies below the ways
  short_hits : (x : ℕ) (earlier : List ℕ) → IsChain (hit_framework view start must block) (x ∷ earlier)
      → (length (x ∷ earlier) ≤ view.geometry.ways - x + 1) × (x ≤ view.geometry.ways)
  short_hits x [] chain = (omega arith, chain)
  short_hits x (y ∷ earlier) chain =
      let rest = short_hits y earlier chain.3 in
      let below : x ≤ y = chain.1 in
      let apart : y ≡ x → ⊥ = chain.2 in
      (omega (arith, rest.0, rest.1, below, apart), chain.0)

  hit_chains : (chain : List ℕ) → IsChain (hit_framework view start must block) chain
      → length chain ≤ view.geometry.ways + 1
  hit_chains [] chain = omega arith
  hit_chains (x ∷ earlier) chain = omega (arith, (short_hits x earlier chain).0)

  -- the laws of exists-hit bounds
  pub hit_monotone : IsMonotone (hit_framework view start must block)
  hit_monotone =
      let k : ℕ = view.geometry.ways in
      let change : ℕ → ℕ → ℕ → ℕ = λ n other. hit_bound_after k (age_of must n other) in
      record {
        reflexive = λ x cx. omega arith;
        transitive = λ x y z cx cy cz one two. omega arith;
        antisymmetric = λ x y cx cy one two. omega arith;
        join_within = λ x y cx cy. omega arith;
        join_left = λ x y cx cy. omega arith;
        join_right = λ x y cx cy. omega arith;
        join_least = λ x y z cx cy cz one two. omega arith;
        start_within = first_hit_few start k;
        transfer_within = λ n x cx. bound_few k block (change n) (λ other. hit_few k (age_of must n other))
            (fetch_at view.fetches n) x cx;
        monotone = λ n x y cx cy below. bound_more k block (change n)
            (λ other x y few_x few_y. hit_more k (age_of must n other) y x few_y few_x)
            (fetch_at view.fetches n) y x cy cx below;
        chains = hit_chains;
      }

module _ (view : View) (may : List (List ℕ)) (block : ℕ) where
  -- a rising chain has at most one member more than its last says
  short_misses : (x : ℕ) (earlier : List ℕ) → IsChain (miss_framework view may block) (x ∷ earlier)
      → (length (x ∷ earlier) ≤ x + 1) × (x ≤ view.geometry.ways)
  short_misses x [] chain = (omega arith, chain)
  short_misses x (y ∷ earlier) chain =
      let rest = short_misses y earlier chain.3 in
      let below : y ≤ x = chain.1 in
      let apart : y ≡ x → ⊥ = chain.2 in
      (omega (arith, rest.0, below, apart), chain.0)

  miss_chains : (chain : List ℕ) → IsChain (miss_framework view may block) chain
      → length chain ≤ view.geometry.ways + 1
  miss_chains [] chain = omega arith
  miss_chains (x ∷ earlier) chain =
      let short = short_misses x earlier chain in
      omega (arith, short.0, short.1)

  -- the laws of exists-miss bounds
  pub miss_monotone : IsMonotone (miss_framework view may block)
  miss_monotone =
      let k : ℕ = view.geometry.ways in
      let change : ℕ → ℕ → ℕ → ℕ = λ n other. miss_bound_after k (age_of may n other) in
      record {
        reflexive = λ x cx. omega arith;
        transitive = λ x y z cx cy cz one two. omega arith;
        antisymmetric = λ x y cx cy one two. omega arith;
        join_within = λ x y cx cy. omega arith;
        join_left = λ x y cx cy. omega arith;
        join_right = λ x y cx cy. omega arith;
        join_least = λ x y z cx cy cz one two. omega arith;
        start_within = omega arith;
        transfer_within = λ n x cx. bound_few k block (change n) (λ other. miss_few k (age_of may n other))
            (fetch_at view.fetches n) x cx;
        monotone = λ n x y cx cy below. bound_more k block (change n)
            (λ other. miss_more k (age_of may n other)) (fetch_at view.fetches n) x y cx cy below;
        chains = miss_chains;
      }
