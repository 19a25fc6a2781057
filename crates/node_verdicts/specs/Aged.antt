-- The ages of the blocks of a set, and which fetches they settle.
use Rattle.std.specs.Prelude.{◌≡◌, ℕ, ◌<◌, true, false, List, Some}
use Rattle.std.specs.List.{Contains}
use Rattle.cache_spec.specs.declared.start.Start.{Start}
use Rattle.focus_spec.specs.Younger.{fetch_at}
use Rattle.focus_spec.specs.Fate.{AllEnd}
use Rattle.set_view.specs.View.{View, IsView}
use Rattle.age_spec.specs.Ages.{AreMustAges, AreMayAges, AreRows, age_of}
use Rattle.node_verdicts.specs.declared.judged.Ends.{Ends}
use Rattle.node_verdicts.specs.declared.judged.Ends.TheVariants.{Hits, Misses, Both}

-- a view of a set, what it may hold at first, and the ages of its blocks
pub record Aged : Type 0 where
  pub view : View
  pub start : Start
  pub must : List (List ℕ)
  pub may : List (List ℕ)

-- the ages are those of the view
pub record AreAges (a : Aged) : Type 0 where
  pub is_view : IsView a.view
  pub must_ages : AreMustAges a.view a.must
  pub must_rows : AreRows a.view a.must
  pub may_ages : AreMayAges a.view a.start a.may
  pub may_rows : AreRows a.view a.may

-- the node fetches the block, and its ages leave open whether it hits
pub record IsOpen (a : Aged) (block n : ℕ) : Type 0 where
  pub fetches : fetch_at a.view.fetches n ≡ Some block
  pub not_hit : age_of a.must n block ≡ a.view.geometry.ways
  pub not_miss : age_of a.may n block < a.view.geometry.ways

-- the node fetches a block that isn't among these, and its ages settle whether it hits
abbrev pub IsSettled : Aged → List ℕ → ℕ → Type 0
IsSettled a unclear n = (block : ℕ) × (fetch_at a.view.fetches n ≡ Some block) × (IsOpen a block n → ⊥)
    × (Contains unclear block → ⊥)

-- no path that ends in the node can miss, or none can hit
abbrev pub IsDecided : Aged → ℕ → Ends → Type 0
IsDecided a n Hits = AllEnd a.view.nodes a.view.geometry a.start n true
IsDecided a n Misses = AllEnd a.view.nodes a.view.geometry a.start n false
IsDecided a n (Both paths) = ⊥
