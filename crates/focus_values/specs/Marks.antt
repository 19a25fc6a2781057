-- What the least warm sets and the most younger sets before a node stand for, as marks over sets of local numbers:
-- which sets include a warm set, which are included in a younger set, and whether some younger set is large or not
-- there.
use Rattle.std.specs.Prelude.{ℕ, ◌+◌, Bool, true, false, ◌&&◌, ◌==◌, not, if◌then◌else◌, nat_lt, List, [], ◌∷◌, ◌++◌, length, map, filter, Option, Some, None}
use Rattle.std.specs.List.{list_any}
use Rattle.lattice_fix.specs.Framework.{Framework}
use Rattle.cache_spec.specs.declared.start.Start.{Start}
use Rattle.cache_spec.specs.declared.start.Start.TheVariants.{Empty, Any}
use Rattle.focus_spec.specs.Younger.{fetch_at}
use Rattle.focus_values.specs.Power.{Marking, power}
use Rattle.focus_values.specs.Sets.{has, is_within, rises, without, sets_from}

-- what each node fetches of a cache set, the block that is looked at, the room of the set, how many blocks it has, and
-- what the cache starts with
pub record Setting : Type 0 where
  pub fetches : List (Option ℕ)
  pub block : ℕ
  pub ways : ℕ
  pub count : ℕ
  pub start : Start

-- a small set of blocks: fewer than the cache set has room for
abbrev pub is_set : Setting → List ℕ → Bool
is_set g numbers = rises 0 g.count numbers && nat_lt (length numbers) g.ways

-- "this set includes a small warm set", "a younger set includes this set, or is large", "one is large or absent"
pub data Mark : Type 0 where
  over : List ℕ → Mark
  under : List ℕ → Mark
  lost : Mark

-- marks are over small sets
abbrev pub is_mark : Setting → Mark → Bool
is_mark g (over set) = is_set g set
is_mark g (under set) = is_set g set
is_mark g lost = true

-- all sets of local numbers
abbrev pub all_sets : Setting → List (List ℕ)
all_sets g = sets_from g.count 0

-- all marks, and some more
abbrev pub all_marks : Setting → List Mark
all_marks g = lost ∷ (map over (all_sets g) ++ map under (all_sets g))

-- the cache may start with anything
abbrev pub is_any : Start → Bool
is_any Empty = false
is_any Any = true

-- before the first fetch there is no younger set, and the warm set is empty if the cache may start with anything
abbrev pub begins : Start → Mark → Bool
begins start (over set) = is_any start
begins start (under set) = true
begins start lost = true

-- after a fetch of the block its warm set and its younger set are empty
abbrev pub is_fresh : Mark → Bool
is_fresh (over set) = true
is_fresh (under []) = true
is_fresh (under (x ∷ xs)) = false
is_fresh lost = false

-- the set is full and lacks the block, and so becomes large with it
abbrev pub fills : Setting → ℕ → List ℕ → Bool
fills g other set = nat_lt g.ways (length set + 2) && not (has set other)

-- where "large or absent" comes from after a fetch of another block
abbrev pub lost_sources : Setting → ℕ → List Mark
lost_sources g other = lost ∷ map under (filter (fills g other) (all_sets g))

-- where a mark comes from after a fetch of another block
abbrev pub other_sources : Setting → ℕ → Mark → List Mark
other_sources g other (over set) = if has set other then over set ∷ [] else []
other_sources g other (under set) = under (without other set) ∷ lost_sources g other
other_sources g other lost = lost_sources g other

-- where a mark comes from after a fetch
abbrev pub sources_of : Setting → Option ℕ → Mark → List Mark
sources_of g None mark = mark ∷ []
sources_of g (Some other) mark = if other == g.block then [] else other_sources g other mark

-- which marks stand always after a fetch
abbrev pub always_of : Setting → Option ℕ → Mark → Bool
always_of g None mark = false
always_of g (Some other) mark = other == g.block && is_fresh mark

-- the marks of a setting
abbrev pub marking : Setting → Marking Mark
marking g = record {
  all = all_marks g;
  is_mark = is_mark g;
  begins = begins g.start;
  always = λ n. always_of g (fetch_at g.fetches n);
  sources = λ n. sources_of g (fetch_at g.fetches n);
}

-- sets of marks, in order of inclusion
abbrev pub framework_of : Setting → Framework (Mark → Bool)
framework_of g = power (marking g)

-- what families say of a mark, if it is over a small set
abbrev pub says : List (List ℕ) → Option (List (List ℕ)) → Mark → Bool
says least most (over set) = list_any (λ t. is_within t set) least
says least None (under set) = true
says least (Some sets) (under set) = list_any (λ t. is_within set t) sets
says least None lost = true
says least (Some sets) lost = false

-- what families stand for
abbrev pub marks_of : Setting → List (List ℕ) → Option (List (List ℕ)) → Mark → Bool
marks_of g least most mark = is_mark g mark && says least most mark
