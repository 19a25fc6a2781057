-- The families that the operations on families make are those that a fetch or a meeting of paths asks for.
use Rattle.std.proofs.Common.{ℕ, ◌<◌, ◌↔◌, ◌⊎◌, List, length, Contains}
use Rattle.plain_family.specs.Family.{AreRising, IsWith, IsMinimal, IsMaximal}
use Rattle.focus_values.specs.Families.{IsLeastAfter, AreMostAfter, IsLeastJoined, AreMostJoined, AreLowest, AreHighest, HasUnder, HasOver}
use Rattle.focus_values.proofs.Lowest.{has_lowest, has_highest}

-- the family has the least of the sets
abbrev pub HasLeastOf : List (List ℕ) → List (List ℕ) → Type 0
HasLeastOf sets least = (s : List ℕ) → Contains least s ↔ (Contains sets s × IsMinimal sets s)

-- the family has the most of the sets
abbrev pub HasMostOf : List (List ℕ) → List (List ℕ) → Type 0
HasMostOf sets most = (s : List ℕ) → Contains most s ↔ (Contains sets s × IsMaximal sets s)

-- the family has the sets with x added
abbrev pub HasEachWith : ℕ → List (List ℕ) → List (List ℕ) → Type 0
HasEachWith x sets more = (s : List ℕ) → Contains more s ↔ ((t : List ℕ) × Contains sets t × IsWith x t s)

-- the family has the sets of both
abbrev pub HasBoth : List (List ℕ) → List (List ℕ) → List (List ℕ) → Type 0
HasBoth one two both = (s : List ℕ) → Contains both s ↔ (Contains one s ⊎ Contains two s)

-- the least of the sets are the least among themselves
lowest_of : (sets least : List (List ℕ)) → HasLeastOf sets least → AreLowest least
lowest_of sets least is s there t other subset = ((is s).0 there).1 t ((is t).0 other).0 subset

-- the most of the sets are the most among themselves
highest_of : (sets most : List (List ℕ)) → HasMostOf sets most → AreHighest most
highest_of sets most is s there t other subset = ((is s).0 there).1 t ((is t).0 other).0 subset

-- each of the sets includes one of the least
under_of : (sets least : List (List ℕ)) → AreRising sets → HasLeastOf sets least → (s : List ℕ) → Contains sets s
    → HasUnder least s
under_of sets least rising is s there =
    let lowest = has_lowest sets s rising there in
    (lowest.0, (is lowest.0).1 (lowest.1, lowest.2), lowest.3)

-- each of the sets is included in one of the most
over_of : (sets most : List (List ℕ)) → AreRising sets → HasMostOf sets most → (s : List ℕ) → Contains sets s
    → HasOver most s
over_of sets most rising is s there =
    let highest = has_highest sets s rising there in
    (highest.0, (is highest.0).1 (highest.1, highest.2), highest.3)

-- the least warm sets after a fetch
pub made_least_after : (other ways : ℕ) (sets more small new : List (List ℕ)) → HasEachWith other sets more
    → ((s : List ℕ) → Contains small s ↔ (Contains more s × (length s < ways))) → AreRising small → HasLeastOf small new
    → IsLeastAfter other ways sets new
made_least_after other ways sets more small new with few rising is = record {
  comes = λ s there. (with s).0 ((few s).0 ((is s).0 there).0).0;
  small = λ s there. ((few s).0 ((is s).0 there).0).1;
  covers = λ t s there grown less. under_of small new rising is s ((few s).1 ((with s).1 (t, there, grown), less));
  lowest = lowest_of small new is;
}

-- the most younger sets after a fetch
pub made_most_after : (other ways : ℕ) (sets more new : List (List ℕ)) → HasEachWith other sets more
    → ((s : List ℕ) → Contains more s → length s < ways) → AreRising more → HasMostOf more new
    → AreMostAfter other ways sets new
made_most_after other ways sets more new with few rising is = record {
  comes = λ s there. (with s).0 ((is s).0 there).0;
  small = λ t s there grown. few s ((with s).1 (t, there, grown));
  covers = λ t s there grown. over_of more new rising is s ((with s).1 (t, there, grown));
  highest = highest_of more new is;
}

-- the least warm sets where paths meet
pub made_least_joined : (one two both new : List (List ℕ)) → HasBoth one two both → AreRising both
    → HasLeastOf both new → IsLeastJoined one two new
made_least_joined one two both new has rising is = record {
  comes = λ s there. (has s).0 ((is s).0 there).0;
  covers = λ s there. under_of both new rising is s ((has s).1 there);
  lowest = lowest_of both new is;
}

-- the most younger sets where paths meet
pub made_most_joined : (one two both new : List (List ℕ)) → HasBoth one two both → AreRising both → HasMostOf both new
    → AreMostJoined one two new
made_most_joined one two both new has rising is = record {
  comes = λ s there. (has s).0 ((is s).0 there).0;
  covers = λ s there. over_of both new rising is s ((has s).1 there);
  highest = highest_of both new is;
}
