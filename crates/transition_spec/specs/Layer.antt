-- Layers of a system of steps: the states by their distance from the start.
use Rattle.std.specs.Prelude.{◌≡◌, ℕ, ◌+◌, ◌<◌, ◌↔◌, List, [], ◌∷◌, length, Result, flat_map, Contains}
use Rattle.std.specs.List.Sorted.{IsStrictlySortedBy}
use Rattle.std.specs.declared.cmp.Ordering.{Ordering}
use Rattle.transition_spec.specs.Path.{IsPath}

-- some path of n + 1 members ends in c
abbrev pub IsReachedIn : {C F : Type 0} → (C → Result (List C) F) → C → ℕ → C → Type 0
IsReachedIn {C} step start n c = (earlier : List C) × (length earlier ≡ n) × IsPath step start (c ∷ earlier)

-- layer n has the states that a path of n + 1 members reaches, and no shorter path does
pub record IsInLayer {C F : Type 0} (step : C → Result (List C) F) (start : C) (n : ℕ) (c : C) : Type 0 where
  pub reached : IsReachedIn step start n c
  pub no_sooner : (m : ℕ) → m < n → IsReachedIn step start m c → ⊥

-- the list has exactly the states of layer n, in order
pub record IsLayer {C F : Type 0} (step : C → Result (List C) F) (start : C) (order : C → C → Ordering) (n : ℕ)
    (layer : List C) : Type 0 where
  pub sorted : IsStrictlySortedBy order layer
  pub members : (c : C) → Contains layer c ↔ IsInLayer step start n c

-- the lists are the layers from n on, one after another
abbrev pub AreLayersFrom : {C F : Type 0} → (C → Result (List C) F) → C → (C → C → Ordering) → ℕ → List (List C)
    → Type 0
AreLayersFrom step start order n [] = Unit {0}
AreLayersFrom step start order n (layer ∷ layers) =
    IsLayer step start order n layer × AreLayersFrom step start order (n + 1) layers

-- the states of all layers, one layer after another
abbrev pub all_of : {C : Type 0} → List (List C) → List C
all_of layers = flat_map (λ layer. layer) layers
