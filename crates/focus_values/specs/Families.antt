-- What becomes of the least warm sets and of the most younger sets before a node, as families of sets.
use Rattle.std.specs.Prelude.{◌≡◌, ◌↔◌, ◌⊎◌, ℕ, ◌<◌, ◌≤◌, true, List, [], length, Option, Some, None}
use Rattle.std.specs.List.{Contains}
use Rattle.set_list.specs.SetList.{IsSubset}
use Rattle.plain_family.specs.Family.{IsWith, IsMinimal, IsMaximal}
use Rattle.focus_values.specs.Marks.{Setting, is_set}

-- the sets, where they are there
abbrev pub sets_in : Option (List (List ℕ)) → List (List ℕ)
sets_in None = []
sets_in (Some sets) = sets

-- all are small sets of local numbers
abbrev pub AreSets : Setting → List (List ℕ) → Type 0
AreSets g sets = (s : List ℕ) → Contains sets s → is_set g s ≡ true

-- no set is included in another
abbrev pub AreLowest : List (List ℕ) → Type 0
AreLowest sets = (s : List ℕ) → Contains sets s → IsMinimal sets s

-- no set includes another
abbrev pub AreHighest : List (List ℕ) → Type 0
AreHighest sets = (s : List ℕ) → Contains sets s → IsMaximal sets s

-- families that least warm sets and most younger sets can be
pub record AreFit (g : Setting) (least : List (List ℕ)) (most : Option (List (List ℕ))) : Type 0 where
  pub least_sets : AreSets g least
  pub lowest : AreLowest least
  pub most_sets : AreSets g (sets_in most)
  pub highest : AreHighest (sets_in most)

-- the families have the same sets
abbrev pub SameSets : List (List ℕ) → List (List ℕ) → Type 0
SameSets sets others = (s : List ℕ) → Contains others s ↔ Contains sets s

-- both have the same sets, or both are absent
abbrev pub SameMost : Option (List (List ℕ)) → Option (List (List ℕ)) → Type 0
SameMost None None = Unit {0}
SameMost None (Some others) = ⊥
SameMost (Some sets) None = ⊥
SameMost (Some sets) (Some others) = SameSets sets others

-- some set of the first includes the set
abbrev pub HasOver : List (List ℕ) → List ℕ → Type 0
HasOver sets s = (t : List ℕ) × Contains sets t × IsSubset s t

-- some set of the first is included in the set
abbrev pub HasUnder : List (List ℕ) → List ℕ → Type 0
HasUnder sets s = (t : List ℕ) × Contains sets t × IsSubset t s

-- the least of the sets with another number, as far as they are small
pub record IsLeastAfter (other ways : ℕ) (sets new : List (List ℕ)) : Type 0 where
  pub comes : (s : List ℕ) → Contains new s → (t : List ℕ) × Contains sets t × IsWith other t s
  pub small : (s : List ℕ) → Contains new s → length s < ways
  pub covers : (t s : List ℕ) → Contains sets t → IsWith other t s → length s < ways → HasUnder new s
  pub lowest : AreLowest new

-- the most of the sets with another number, all of which are small
pub record AreMostAfter (other ways : ℕ) (sets new : List (List ℕ)) : Type 0 where
  pub comes : (s : List ℕ) → Contains new s → (t : List ℕ) × Contains sets t × IsWith other t s
  pub small : (t s : List ℕ) → Contains sets t → IsWith other t s → length s < ways
  pub covers : (t s : List ℕ) → Contains sets t → IsWith other t s → HasOver new s
  pub highest : AreHighest new

-- some set with another number is large
abbrev pub GetsLarge : ℕ → ℕ → List (List ℕ) → Type 0
GetsLarge other ways sets = (t : List ℕ) × (s : List ℕ) × Contains sets t × IsWith other t s × (ways ≤ length s)

-- the most of the sets with another number, absent where they were so or one gets large
abbrev pub IsMostAfter : ℕ → ℕ → Option (List (List ℕ)) → Option (List (List ℕ)) → Type 0
IsMostAfter other ways None None = Unit {0}
IsMostAfter other ways None (Some new) = ⊥
IsMostAfter other ways (Some sets) None = GetsLarge other ways sets
IsMostAfter other ways (Some sets) (Some new) = AreMostAfter other ways sets new

-- the least of the sets of both
pub record IsLeastJoined (one two new : List (List ℕ)) : Type 0 where
  pub comes : (s : List ℕ) → Contains new s → Contains one s ⊎ Contains two s
  pub covers : (s : List ℕ) → Contains one s ⊎ Contains two s → HasUnder new s
  pub lowest : AreLowest new

-- the most of the sets of both
pub record AreMostJoined (one two new : List (List ℕ)) : Type 0 where
  pub comes : (s : List ℕ) → Contains new s → Contains one s ⊎ Contains two s
  pub covers : (s : List ℕ) → Contains one s ⊎ Contains two s → HasOver new s
  pub highest : AreHighest new

-- the most of the sets of both, absent where either are
abbrev pub IsMostJoined : Option (List (List ℕ)) → Option (List (List ℕ)) → Option (List (List ℕ)) → Type 0
IsMostJoined (Some one) (Some two) (Some new) = AreMostJoined one two new
IsMostJoined (Some one) (Some two) None = ⊥
IsMostJoined (Some one) None new = new ≡ None
IsMostJoined None two new = new ≡ None

-- each of the sets includes one of the others
abbrev pub AllOver : List (List ℕ) → List (List ℕ) → Type 0
AllOver sets others = (s : List ℕ) → Contains sets s → HasUnder others s

-- each of the sets is included in one of the others
abbrev pub AllUnder : List (List ℕ) → List (List ℕ) → Type 0
AllUnder sets others = (s : List ℕ) → Contains sets s → HasOver others s

-- the same, where absent others are above all sets
abbrev pub MostUnder : Option (List (List ℕ)) → Option (List (List ℕ)) → Type 0
MostUnder sets None = Unit {0}
MostUnder None (Some others) = ⊥
MostUnder (Some sets) (Some others) = AllUnder sets others
