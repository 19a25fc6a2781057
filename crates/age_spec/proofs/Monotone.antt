-- Must ages and may ages are monotone frameworks.
use Rattle.std.proofs.Common.{◌≡◌, ℕ, ◌+◌, ◌*◌, ◌<◌, ◌≤◌, Bool, true, false, cond, ◌==◌, List, [], ◌∷◌, length, replicate, Option, Some, None, sym, ◌∙◌, subst, inl, inr, arith}
use Rattle.std.proofs.lemmas.Bool.{cases_lt}
use Rattle.std.proofs.lemmas.List.{get_or_past, length-replicate, get_or-replicate, ext_get_or}
use Rattle.cache_spec.specs.declared.start.Start.{Start}
use Rattle.cache_spec.specs.declared.start.Start.TheVariants.{Empty, Any}
use Rattle.lattice_fix.specs.Framework.{IsMonotone, IsChain}
use Rattle.focus_spec.specs.Younger.{fetch_at}
use Rattle.age_spec.specs.declared.kind.Kind.{Kind}
use Rattle.age_spec.specs.declared.kind.Kind.TheVariants.{Must, May}
use Rattle.age_spec.specs.Ages.{Setting, AreAges, age_framework, first_age, aged, all_met, age_at, ages_after, IsBelow}
use Rattle.age_spec.proofs.Numbers.{below_same, below_trans, below_both, met_left, met_right, met_least, met_few, aged_few, aged_more}
use Rattle.age_spec.proofs.Lists.{length-met, at-met, length-after, at-after, ranks, ranks-few, ranks-more, ranks-same}

-- the first age isn't above the ways
pub first_few : (kind : Kind) (start : Start) (k : ℕ) → first_age kind start k ≤ k
first_few Must start k = omega arith
first_few May Empty k = omega arith
first_few May Any k = omega arith

-- each age at node 0
pub at-first : (count age local : ℕ) → local < count → age_at (replicate count age) local ≡ age
at-first count age local inside = get_or-replicate count local age 0 inside

-- past the end of a list stands 0
at-past : (ages : List ℕ) (local : ℕ) → length ages ≤ local → age_at ages local ≡ 0
at-past ages local past = get_or_past ages local 0 past

-- the first ages are ages
pub first_ages : (kind : Kind) (start : Start) (count k : ℕ)
    → AreAges count k (replicate count (first_age kind start k))
first_ages kind start count k =
    let age : ℕ = first_age kind start k in
    let long = length-replicate count age in
    record {
      one_each = long;
      few = λ local. elim (cases_lt local count) [
        | inl inside ↦ omega (arith, at-first count age local inside, first_few kind start k)
        | inr past ↦ omega (arith, at-past (replicate count age) local (omega (arith, past, long)))
      ];
    }

-- and so are ages that meet
pub met_ages : (kind : Kind) (count k : ℕ) (one two : List ℕ) → AreAges count k one → AreAges count k two
    → AreAges count k (all_met kind one two)
met_ages kind count k one two are_one are_two =
    let long : length one ≡ length two = omega (arith, are_one.one_each, are_two.one_each) in
    record {
      one_each = length-met kind one two long ∙ are_one.one_each;
      few = λ local. omega (
        arith,
        at-met kind one two long local,
        met_few kind k (age_at one local) (age_at two local) (are_one.few local) (are_two.few local),
      );
    }

-- no age passes the ways
after_few : (kind : Kind) (k a : ℕ) (ages : List ℕ) → ((local : ℕ) → age_at ages local ≤ k) → (local : ℕ)
    → age_at (ages_after kind k (Some a) ages) local ≤ k
after_few kind k a ages few local = elim (cases_lt local (length ages)) [
  | inl inside ↦ subst (λ (n : ℕ). n ≤ k) (sym (at-after kind k a ages local inside))
      (elim (local == a) as (λ (b : Bool). cond b 0 (aged kind k (age_at ages a) (age_at ages local)) ≤ k) [
        | true ↦ omega arith
        | false ↦ aged_few kind k (age_at ages a) (age_at ages local) (few local)
      ])
  | inr past ↦
      let long = length-after kind k (Some a) ages in
      omega (arith, at-past (ages_after kind k (Some a) ages) local (omega (arith, past, long)))
]

-- the ages after a node are ages
pub after_ages : (kind : Kind) (count k : ℕ) (fetch : Option ℕ) (ages : List ℕ) → AreAges count k ages
    → AreAges count k (ages_after kind k fetch ages)
after_ages kind count k None ages are = are
after_ages kind count k (Some a) ages are =
    record { one_each = length-after kind k (Some a) ages ∙ are.one_each; few = after_few kind k a ages are.few }

-- ages above others are above them after a node too
after_more : (kind : Kind) (count k : ℕ) (fetch : Option ℕ) (one two : List ℕ) → AreAges count k one
    → AreAges count k two → ((local : ℕ) → IsBelow kind (age_at one local) (age_at two local)) → (local : ℕ)
    → IsBelow kind (age_at (ages_after kind k fetch one) local) (age_at (ages_after kind k fetch two) local)
after_more kind count k None one two are_one are_two below local = below local
after_more kind count k (Some a) one two are_one are_two below local =
    let after_one : List ℕ = ages_after kind k (Some a) one in
    let after_two : List ℕ = ages_after kind k (Some a) two in
    elim (cases_lt local count) [
      | inl inside ↦
          let x = at-after kind k a one local (omega (arith, inside, are_one.one_each)) in
          let y = at-after kind k a two local (omega (arith, inside, are_two.one_each)) in
          let aged_one : ℕ = aged kind k (age_at one a) (age_at one local) in
          let aged_two : ℕ = aged kind k (age_at two a) (age_at two local) in
          subst (λ (n : ℕ). IsBelow kind n (age_at after_two local)) (sym x)
          (subst (λ (n : ℕ). IsBelow kind (cond (local == a) 0 aged_one) n) (sym y)
          (elim (local == a) as (λ (b : Bool). IsBelow kind (cond b 0 aged_one) (cond b 0 aged_two)) [
            | true ↦ below_same kind 0
            | false ↦ aged_more kind k (age_at one a) (age_at one local) (age_at two a) (age_at two local)
                (are_one.few local) (are_two.few local) (below a) (below local)
          ]))
      | inr past ↦
          let long_one = length-after kind k (Some a) one in
          let long_two = length-after kind k (Some a) two in
          let x = at-past after_one local (omega (arith, past, long_one, are_one.one_each)) in
          let y = at-past after_two local (omega (arith, past, long_two, are_two.one_each)) in
          subst (λ (n : ℕ). IsBelow kind n (age_at after_two local)) (sym x)
          (subst (λ (n : ℕ). IsBelow kind 0 n) (sym y) (below_same kind 0))
    ]

-- a rising chain has at most one member more than its last stands high
short_chain : (g : Setting) (ages : List ℕ) (earlier : List (List ℕ)) → IsChain (age_framework g) (ages ∷ earlier)
    → (length (ages ∷ earlier) ≤ ranks g.kind g.ways ages + 1) × AreAges g.count g.ways ages
short_chain g ages [] chain = (omega arith, chain)
short_chain g ages (before ∷ earlier) chain =
    let rest = short_chain g before earlier chain.3 in
    let are : AreAges g.count g.ways ages = chain.0 in
    let long : length before ≡ length ages = omega (arith, rest.1.one_each, are.one_each) in
    let up : ranks g.kind g.ways before ≤ ranks g.kind g.ways ages =
    ranks-more g.kind g.ways before ages long rest.1.few are.few chain.1 in
    elim (cases_lt (ranks g.kind g.ways before) (ranks g.kind g.ways ages)) [
      | inl higher ↦ (omega (arith, rest.0, higher), are)
      | inr level ↦ absurd (chain.2 (ranks-same g.kind g.ways before ages long rest.1.few are.few chain.1 level))
    ]

short_chains : (g : Setting) (chain : List (List ℕ)) → IsChain (age_framework g) chain
    → length chain ≤ g.count * g.ways + 1
short_chains g [] chain = omega arith
short_chains g (ages ∷ earlier) chain =
    let short = short_chain g ages earlier chain in
    let room : ranks g.kind g.ways ages ≤ g.count * g.ways =
    subst (λ (n : ℕ). ranks g.kind g.ways ages ≤ n * g.ways) short.1.one_each
    (ranks-few g.kind g.ways ages short.1.few) in
    omega (arith, short.0, room)

-- the laws
pub ages_monotone : (g : Setting) → IsMonotone (age_framework g)
ages_monotone g =
    let long : (x y : List ℕ) → AreAges g.count g.ways x → AreAges g.count g.ways y → length x ≡ length y =
    λ x y are_x are_y. are_x.one_each ∙ sym are_y.one_each in
    record {
      reflexive = λ x cx local. below_same g.kind (age_at x local);
      transitive = λ x y z cx cy cz one two local.
          below_trans g.kind (age_at x local) (age_at y local) (age_at z local) (one local) (two local);
      antisymmetric = λ x y cx cy one two. ext_get_or 0 x y (long x y cx cy)
          (λ local inside. below_both g.kind (age_at x local) (age_at y local) (one local) (two local));
      join_within = λ x y cx cy. met_ages g.kind g.count g.ways x y cx cy;
      join_left = λ x y cx cy local.
          subst (IsBelow g.kind (age_at x local)) (sym (at-met g.kind x y (long x y cx cy) local))
          (met_left g.kind (age_at x local) (age_at y local));
      join_right = λ x y cx cy local.
          subst (IsBelow g.kind (age_at y local)) (sym (at-met g.kind x y (long x y cx cy) local))
          (met_right g.kind (age_at x local) (age_at y local));
      join_least = λ x y z cx cy cz one two local.
          subst (λ (n : ℕ). IsBelow g.kind n (age_at z local)) (sym (at-met g.kind x y (long x y cx cy) local))
          (met_least g.kind (age_at x local) (age_at y local) (age_at z local) (one local) (two local));
      start_within = first_ages g.kind g.start g.count g.ways;
      transfer_within = λ n x cx. after_ages g.kind g.count g.ways (fetch_at g.fetches n) x cx;
      monotone = λ n x y cx cy below. after_more g.kind g.count g.ways (fetch_at g.fetches n) x y cx cy below;
      chains = short_chains g;
    }
