-- The nodes whose fetches the ages of a set leave open, by the block that they fetch.
use Rattle.std.specs.Prelude.{◌≡◌, ◌↔◌, ℕ, ◌<◌, ◌≤◌, List, [], ◌∷◌, ◌++◌, Option, Some, None, Vec, length, map, slice_index_or}
use Rattle.std.specs.declared.alloc.Global.{Global}
use Rattle.std.specs.List.{Contains, AllPairs}
use Rattle.cache_spec.specs.declared.start.Start.{Start}
use Rattle.focus_spec.specs.Younger.{fetch_at}
use Rattle.set_view.specs.View.{View}
use Rattle.age_spec.specs.Settled.{HasUnclear}
use Rattle.node_verdicts.specs.Aged.{Aged, IsOpen}
use Rattle.node_verdicts.specs.declared.judged.Judged.{Judged}

-- a list of nodes, and such a list for each block
abbrev pub items_of : Vec ℕ Global → List ℕ
items_of nodes = nodes.items

abbrev pub lists_seen : List (Vec ℕ Global) → List (List ℕ)
lists_seen lists = map items_of lists

-- the list of a block
abbrev pub nodes_of : List (List ℕ) → ℕ → List ℕ
nodes_of lists block = slice_index_or lists block []

-- no list has a node
abbrev pub AreEmpty : List (List ℕ) → Type 0
AreEmpty lists = (block : ℕ) → block < length lists → nodes_of lists block ≡ []

-- these are the nodes whose fetch of the block the ages leave open, each below those after it
pub record AreOpenOf (a : Aged) (block : ℕ) (nodes : List ℕ) : Type 0 where
  pub rising : AllPairs (λ n m. n < m) nodes
  pub members : (n : ℕ) → Contains nodes n ↔ IsOpen a block n

-- each block of the view has a list, of these nodes
pub record AreOpen (a : Aged) (lists : List (List ℕ)) : Type 0 where
  pub one_each : length lists ≡ length a.view.blocks
  pub each : (block : ℕ) → block < length lists → AreOpenOf a block (nodes_of lists block)

-- these are the blocks with an unclear fetch among the first ones of the view
pub record AreUnclear (a : Aged) (count : ℕ) (unclear : List ℕ) : Type 0 where
  pub members : (block : ℕ) → Contains unclear block ↔ ((block < count) × HasUnclear a.view a.start block)
  pub most : length unclear ≤ count

-- the node fetches a block that has no unclear fetch
abbrev pub IsClearFetch : View → Start → ℕ → Type 0
IsClearFetch view start n =
    (block : ℕ) × (fetch_at view.fetches n ≡ Some block) × (HasUnclear view start block → ⊥)

-- its ages leave the fetch of one of the first blocks open, and the block has no unclear fetch
abbrev pub IsClearOpen : Aged → ℕ → ℕ → Type 0
IsClearOpen a count n = (block : ℕ) × (block < count) × IsOpen a block n × (HasUnclear a.view a.start block → ⊥)

-- what is judged of a block, or nothing
abbrev pub judged_in : Option (Vec Judged Global) → List Judged
judged_in (Some judged) = judged.items
judged_in None = []

-- the unclear blocks, with one more of which nothing is judged
abbrev pub unclear_with : Option (Vec Judged Global) → ℕ → List ℕ → List ℕ
unclear_with (Some judged) block unclear = unclear
unclear_with None block unclear = unclear ++ block ∷ []
