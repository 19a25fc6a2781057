-- The exists-hit and exists-miss equations of a local block as one framework, which a flag tells apart.
use Rattle.std.specs.Prelude.{ℕ, ◌+◌, ◌≤◌, Bool, true, false, min, max, List, length, map, replicate, Option, Some, None}
use Rattle.std.specs.List.{enumerate_from}
use Rattle.cache_spec.specs.declared.start.Start.{Start}
use Rattle.lattice_fix.specs.Framework.{Framework}
use Rattle.focus_spec.specs.Younger.{fetch_at}
use Rattle.set_view.specs.View.{View}
use Rattle.age_spec.specs.declared.kind.Kind.{Kind}
use Rattle.age_spec.specs.declared.kind.Kind.TheVariants.{Must, May}
use Rattle.age_spec.specs.Ages.{age_of}
use Rattle.age_spec.specs.Exists.{first_hit_bound, hit_bound_after, miss_bound_after, bound_after}

-- the ages that the equations are over: must ages for exists-hit, may ages for exists-miss
abbrev pub kind_of : Bool → Kind
kind_of true = Must
kind_of false = May

-- the bound at node 0
abbrev pub first_bound : Bool → Start → ℕ → ℕ
first_bound true start ways = first_hit_bound start ways
first_bound false start ways = ways

-- a bound after the fetch of another block, which has this age
abbrev pub bound_changed : Bool → ℕ → ℕ → ℕ → ℕ
bound_changed true ways age bound = hit_bound_after ways age bound
bound_changed false ways age bound = miss_bound_after ways age bound

-- the bound where paths meet
abbrev pub bounds_met : Bool → ℕ → ℕ → ℕ
bounds_met true one two = min one two
bounds_met false one two = max one two

-- the order of the bounds
abbrev pub IsBoundBelow : Bool → ℕ → ℕ → Type 0
IsBoundBelow true one two = two ≤ one
IsBoundBelow false one two = one ≤ two

-- the exists-hit equations, or the exists-miss ones where `hits` is false
abbrev pub exists_framework : Bool → View → Start → List (List ℕ) → ℕ → Framework ℕ
exists_framework hits view start ages block = record {
  carrier = λ bound. bound ≤ view.geometry.ways;
  start = first_bound hits start view.geometry.ways;
  transfer = λ n bound. bound_after (λ other. bound_changed hits view.geometry.ways (age_of ages n other)) block
      (fetch_at view.fetches n) bound;
  below = IsBoundBelow hits;
  join = bounds_met hits;
  height = view.geometry.ways + 1;
}

-- the age of the block that a node fetches, or 0
abbrev pub own_age : List (List ℕ) → ℕ → Option ℕ → ℕ
own_age ages n None = 0
own_age ages n (Some local) = age_of ages n local

-- the same for each node
abbrev pub own_ages : List (Option ℕ) → List (List ℕ) → List ℕ
own_ages fetches ages = map (λ entry. own_age ages entry.0 entry.1) (enumerate_from 0 fetches)

-- what the equations need of ages: rows in which each local block has the age of the block that the node fetches
abbrev pub rows_of : ℕ → List ℕ → List (List ℕ)
rows_of count own = map (replicate count) own

-- which equations: over a view, from the ages of what each node fetches
pub record Setting : Type 0 where
  pub hits : Bool
  pub view : View
  pub start : Start
  pub own : List ℕ
  pub block : ℕ

-- the equations
abbrev pub framework_of : Setting → Framework ℕ
framework_of s = exists_framework s.hits s.view s.start (rows_of (length s.view.blocks) s.own) s.block

-- with these members
abbrev pub setting_with : Bool → View → Start → List ℕ → ℕ → Setting
setting_with hits view start own block =
    record { hits = hits; view = view; start = start; own = own; block = block }
