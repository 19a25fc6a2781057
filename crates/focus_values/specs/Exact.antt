-- The least warm sets and the most younger sets before each node, as they are handed back.
use Rattle.std.specs.Prelude.{◌≡◌, ℕ, Bool, List, [], ◌∷◌, length, Some, None, slice_get}
use Rattle.std.specs.List.{AllZip}
use Rattle.std.specs.Option.{option_to_list}
use Rattle.cache_spec.specs.declared.start.Start.{Start}
use Rattle.focus_spec.specs.Younger.{first_warm}
use Rattle.focus_spec.specs.Focus.{AreLeast, AreMost}
use Rattle.set_view.specs.View.{View}
use Rattle.focus_values.specs.declared.values.YoungerSets.{YoungerSets}
use Rattle.focus_values.specs.Marks.{Setting, Mark, marks_of}
use Rattle.focus_values.specs.Families.{AreFit, SameSets, SameMost}

-- what a view, the start of the cache and a block of the view say of the analysis
abbrev pub setting_of : View → Start → ℕ → Setting
setting_of view start block = record {
  fetches = view.fetches;
  block = block;
  ways = view.geometry.ways;
  count = length view.blocks;
  start = start;
}

-- they are families that least warm sets and most younger sets can be
abbrev pub IsFit : Setting → YoungerSets → Type 0
IsFit g younger = AreFit g younger.least younger.most

-- what they stand for
abbrev pub marks_in : Setting → YoungerSets → Mark → Bool
marks_in g younger = marks_of g younger.least younger.most

-- the warm set before the first fetch alone, where there is one, and absent most sets
abbrev pub AreBegun : Start → YoungerSets → Type 0
AreBegun start younger = (younger.least ≡ option_to_list (first_warm start)) × (younger.most ≡ None)

-- the empty set alone
abbrev pub AreFresh : YoungerSets → Type 0
AreFresh younger = (younger.least ≡ [] ∷ []) × (younger.most ≡ Some ([] ∷ []))

-- the sets are exactly the least warm sets and the most younger sets of the block before the node
pub record IsExact (view : View) (start : Start) (block n : ℕ) (younger : YoungerSets) : Type 0 where
  pub least : AreLeast view.nodes view.fetches view.geometry.ways start block n younger.least
  pub most : AreMost view.nodes view.fetches view.geometry.ways block n younger.most

-- so are those before each node
abbrev pub AreExact : View → Start → ℕ → List YoungerSets → Type 0
AreExact view start block sets = (n : ℕ) (younger : YoungerSets) → slice_get sets n ≡ Some younger
    → IsExact view start block n younger

-- the second has the sets of the first
abbrev pub IsCopy : YoungerSets → YoungerSets → Type 0
IsCopy younger copy = SameSets younger.least copy.least × SameMost younger.most copy.most

-- each has the sets of the one in its place
abbrev pub AreCopies : List YoungerSets → List YoungerSets → Type 0
AreCopies = AllZip IsCopy
