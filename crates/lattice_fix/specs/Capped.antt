-- An example of a framework: numbers up to a cap, to which each node adds its own number, joined by the greater.
use Rattle.std.specs.Prelude.{◌≡◌, ◌≢◌, ℕ, ◌+◌, ◌≤◌, List, [], ◌∷◌, length, min, max}
use Rattle.std.proofs.Common.{arith, refl, ◌∙◌}
use Rattle.lattice_fix.specs.Framework.{Framework, IsMonotone, IsChain}

-- numbers up to the cap
abbrev pub capped : ℕ → Framework ℕ
capped cap = record {
  carrier = λ x. x ≤ cap;
  start = 0;
  transfer = λ n x. min (x + n) cap;
  below = λ x y. x ≤ y;
  join = λ x y. max x y;
  height = cap + 1;
}

-- such numbers, and how many calls are left
pub record Tank : Type 0 where
  pub cap : ℕ
  pub left : ℕ

-- a tank of these
abbrev pub tank_of : ℕ → ℕ → Tank
tank_of cap left = record { cap = cap; left = left }

-- calls are spent
pub record Spends (before after : Tank) : Type 0 where
  pub cap : after.cap ≡ before.cap
  pub left : after.left ≤ before.left

-- a chain that ends in x has at most x + 1 members
short_chain : (cap x : ℕ) (earlier : List ℕ) → IsChain (capped cap) (x ∷ earlier) → length (x ∷ earlier) ≤ x + 1
short_chain cap x [] chain = omega arith
short_chain cap x (y ∷ earlier) chain =
    let rest : length (y ∷ earlier) ≤ y + 1 = short_chain cap y earlier chain.3 in
    let apart : y ≢ x = chain.2 in
    let below : y ≤ x = chain.1 in
    omega (arith, rest, apart, below)

-- so a chain has at most one member more than the cap
short_chains : (cap : ℕ) (chain : List ℕ) → IsChain (capped cap) chain → length chain ≤ cap + 1
short_chains cap [] chain = omega arith
short_chains cap (x ∷ []) chain = omega arith
short_chains cap (x ∷ y ∷ earlier) chain = let few = short_chain cap x (y ∷ earlier) chain in let small : x ≤ cap =
    chain.0 in omega (arith, few, small)

-- the laws hold
pub capped_monotone : (cap : ℕ) → IsMonotone (capped cap)
capped_monotone cap = record {
  reflexive = λ x cx. omega arith;
  transitive = λ x y z cx cy cz a b. omega arith;
  antisymmetric = λ x y cx cy a b. omega arith;
  join_within = λ x y cx cy. omega arith;
  join_left = λ x y cx cy. omega arith;
  join_right = λ x y cx cy. omega arith;
  join_least = λ x y z cx cy cz a b. omega arith;
  start_within = omega arith;
  transfer_within = λ n x cx. omega arith;
  monotone = λ n x y cx cy a. omega arith;
  chains = short_chains cap;
}

-- no call is spent
pub spends_refl : (s : Tank) → Spends s s
spends_refl s = record { cap = refl; left = omega arith }

-- where none was left none is left
pub spent : (s t : Tank) → Spends s t → s.left ≡ 0 → t.left ≡ 0
spent s t goes empty = omega (arith, goes.left, empty)

-- calls are spent one after another
pub spends_trans : (s t u : Tank) → Spends s t → Spends t u → Spends s u
spends_trans s t u one two = record { cap = two.cap ∙ one.cap; left = omega (arith, one.left, two.left) }
