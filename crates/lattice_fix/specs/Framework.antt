-- Monotone frameworks, whose inequations the solver solves: Kam and Ullman 1977, with an order and a join that rise.
use Rattle.std.specs.Prelude.{◌≡◌, ◌≢◌, ℕ, ◌≤◌, List, [], ◌∷◌, length}

-- plain data in order: which data count, what enters at node 0, what each node makes of what is before it, the order,
-- the join of two, and how many data a rising chain has at most
pub record Framework (D : Type 0) : Type 1 where
  pub carrier : D → Type 0
  pub start : D
  pub transfer : ℕ → D → D
  pub below : D → D → Type 0
  pub join : D → D → D
  pub height : ℕ

-- a rising chain, its last and greatest member first
abbrev pub IsChain : {D : Type 0} → Framework D → List D → Type 0
IsChain F [] = Unit {0}
IsChain F (x ∷ []) = F.carrier x
IsChain F (y ∷ x ∷ earlier) = F.carrier y × F.below x y × (x ≢ y) × IsChain F (x ∷ earlier)

-- the laws: a partial order, least upper bounds, monotone transfers that stay in the carrier, and short chains
pub record IsMonotone {D : Type 0} (F : Framework D) : Type 0 where
  pub reflexive : (x : D) → F.carrier x → F.below x x
  pub transitive : (x y z : D) → F.carrier x → F.carrier y → F.carrier z → F.below x y → F.below y z → F.below x z
  pub antisymmetric : (x y : D) → F.carrier x → F.carrier y → F.below x y → F.below y x → x ≡ y
  pub join_within : (x y : D) → F.carrier x → F.carrier y → F.carrier (F.join x y)
  pub join_left : (x y : D) → F.carrier x → F.carrier y → F.below x (F.join x y)
  pub join_right : (x y : D) → F.carrier x → F.carrier y → F.below y (F.join x y)
  pub join_least : (x y z : D) → F.carrier x → F.carrier y → F.carrier z → F.below x z → F.below y z
      → F.below (F.join x y) z
  pub start_within : F.carrier F.start
  pub transfer_within : (n : ℕ) (x : D) → F.carrier x → F.carrier (F.transfer n x)
  pub monotone : (n : ℕ) (x y : D) → F.carrier x → F.carrier y → F.below x y → F.below (F.transfer n x) (F.transfer n y)
  pub chains : (chain : List D) → IsChain F chain → length chain ≤ F.height
