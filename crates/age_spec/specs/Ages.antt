-- Must and may ages: before each node a number from 0 to the ways for each local block (Ferdinand and Wilhelm 1999).
use Rattle.std.specs.Prelude.{◌≡◌, ℕ, ◌+◌, ◌*◌, ◌<◌, ◌≤◌, Bool, ◌==◌, nat_lt, nat_le, if◌then◌else◌, min, max, List, [], ◌∷◌, length, map, replicate, slice_index_or, Option, Some, None}
use Rattle.std.specs.List.{enumerate_from}
use Rattle.cache_spec.specs.declared.start.Start.{Start}
use Rattle.cache_spec.specs.declared.start.Start.TheVariants.{Empty, Any}
use Rattle.lattice_fix.specs.Framework.{Framework}
use Rattle.lattice_fix.specs.Solution.{IsLeast}
use Rattle.focus_spec.specs.Younger.{fetch_at}
use Rattle.set_view.specs.View.{View}
use Rattle.age_spec.specs.declared.kind.Kind.{Kind}
use Rattle.age_spec.specs.declared.kind.Kind.TheVariants.{Must, May}

-- which ages, what the set may hold at first, what each node fetches of it, how many local blocks, and how many ways
pub record Setting : Type 0 where
  pub kind : Kind
  pub start : Start
  pub fetches : List (Option ℕ)
  pub count : ℕ
  pub ways : ℕ

-- what a view makes of these
abbrev pub setting_of : View → Kind → Start → Setting
setting_of view kind start = record {
  kind = kind;
  start = start;
  fetches = view.fetches;
  count = length view.blocks;
  ways = view.geometry.ways;
}

-- every age at node 0: the ways, but 0 for may ages where the set may hold anything
abbrev pub first_age : Kind → Start → ℕ → ℕ
first_age Must start ways = ways
first_age May Empty ways = ways
first_age May Any ways = 0

-- a number that grows by 1, but not past the ways
abbrev pub grown : ℕ → ℕ → ℕ
grown ways age = min (age + 1) ways

-- whether a fetch of a block of this age makes a block older: a must age that is less, a may age that is no greater
abbrev pub grows : Kind → ℕ → ℕ → Bool
grows Must fetched age = nat_lt age fetched
grows May fetched age = nat_le age fetched

-- the age of another block after the fetch
abbrev pub aged : Kind → ℕ → ℕ → ℕ → ℕ
aged kind ways fetched age = if grows kind fetched age then grown ways age else age

-- the age of a local block
abbrev pub age_at : List ℕ → ℕ → ℕ
age_at ages local = slice_index_or ages local 0

-- the ages after the fetch of a block: its own is 0
abbrev pub ages_after_block : Kind → ℕ → ℕ → List ℕ → List ℕ
ages_after_block kind ways block ages =
    map (λ entry. if entry.0 == block then 0 else aged kind ways (age_at ages block) entry.1) (enumerate_from 0 ages)

-- the ages after a node, which fetches a block, or another set and changes nothing
abbrev pub ages_after : Kind → ℕ → Option ℕ → List ℕ → List ℕ
ages_after kind ways None ages = ages
ages_after kind ways (Some block) ages = ages_after_block kind ways block ages

-- the age where paths meet: the greater must age, the lesser may age
abbrev pub met : Kind → ℕ → ℕ → ℕ
met Must one two = max one two
met May one two = min one two

-- the ages where paths meet
abbrev pub all_met : Kind → List ℕ → List ℕ → List ℕ
all_met kind [] two = []
all_met kind (x ∷ one) [] = []
all_met kind (x ∷ one) (y ∷ two) = met kind x y ∷ all_met kind one two

-- the order of the ages: that of numbers for must, and the reverse for may
abbrev pub IsBelow : Kind → ℕ → ℕ → Type 0
IsBelow Must one two = one ≤ two
IsBelow May one two = two ≤ one

-- an age for each local block, none above the ways
pub record AreAges (count ways : ℕ) (ages : List ℕ) : Type 0 where
  pub one_each : length ages ≡ count
  pub few : (local : ℕ) → age_at ages local ≤ ways

-- the equations: first ages, what a node makes of ages, and which of two sets of ages says less
abbrev pub age_framework : Setting → Framework (List ℕ)
age_framework g = record {
  carrier = AreAges g.count g.ways;
  start = replicate g.count (first_age g.kind g.start g.ways);
  transfer = λ n ages. ages_after g.kind g.ways (fetch_at g.fetches n) ages;
  below = λ one two. (local : ℕ) → IsBelow g.kind (age_at one local) (age_at two local);
  join = all_met g.kind;
  height = g.count * g.ways + 1;
}

-- these are the must ages before each node
abbrev pub AreMustAges : View → List (List ℕ) → Type 0
AreMustAges view ages = IsLeast (age_framework (setting_of view Must Empty)) view.nodes ages

-- these are the may ages before each node
abbrev pub AreMayAges : View → Start → List (List ℕ) → Type 0
AreMayAges view start ages = IsLeast (age_framework (setting_of view May start)) view.nodes ages

-- the age of a local block before a node
abbrev pub age_of : List (List ℕ) → ℕ → ℕ → ℕ
age_of ages n local = age_at (slice_index_or ages n []) local

-- ages of each local block before each node
pub record AreRows (view : View) (ages : List (List ℕ)) : Type 0 where
  pub one_each : length ages ≡ length view.nodes
  pub rows : (n : ℕ) → n < length view.nodes
      → AreAges (length view.blocks) view.geometry.ways (slice_index_or ages n [])
