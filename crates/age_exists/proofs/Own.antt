-- The ages of what the nodes fetch are all that the exists equations need of ages.
use Rattle.std.proofs.Common.{◌≡◌, ℕ, ◌+◌, ◌<◌, ◌≤◌, Bool, cond, inl, inr, ◌==◌, List, [], length, replicate, Option, Some, None, refl, sym, ap, ◌∙◌, zero-add, arith}
use Rattle.std.specs.Prelude.{slice_index}
use Rattle.std.specs.List.{enumerate_from}
use Rattle.std.proofs.Math.Path.{fun_ext}
use Rattle.std.proofs.lemmas.List.{length-map, get_or-map, get_or-replicate, get_or_past}
use Rattle.std.proofs.lemmas.Bool.{cases_lt}
use Rattle.std.proofs.lemmas.Option.{none-some}
use Rattle.std.proofs.lemmas.List.FromFn.{length-enumerate_from, get_or-enumerate_from}
use Rattle.cache_spec.specs.declared.start.Start.{Start}
use Rattle.lattice_fix.specs.Framework.{Framework}
use Rattle.focus_spec.specs.Younger.{fetch_at}
use Rattle.set_view.specs.View.{View, IsView}
use Rattle.age_spec.specs.Ages.{age_of, age_at}
use Rattle.age_spec.specs.Exists.{bound_after}
use Rattle.age_exists.specs.Equations.{first_bound, bound_changed, bounds_met, IsBoundBelow, exists_framework, own_age, own_ages, rows_of, framework_of, setting_with}

-- there is one for each fetch
pub length-own : (fetches : List (Option ℕ)) (ages : List (List ℕ)) → length (own_ages fetches ages) ≡ length fetches
length-own fetches ages =
    length-map (enumerate_from 0 fetches) (λ (entry : ℕ × Option ℕ). own_age ages entry.0 entry.1)
    ∙ length-enumerate_from 0 fetches

-- the age at a node
pub own-each : (fetches : List (Option ℕ)) (ages : List (List ℕ)) (n : ℕ) → n < length fetches
    → slice_index (own_ages fetches ages) n ≡ own_age ages n (fetch_at fetches n)
own-each fetches ages n inside =
    let f : ℕ × Option ℕ → ℕ = λ entry. own_age ages entry.0 entry.1 in
    let here : n < length (enumerate_from 0 fetches) = omega (arith, inside, length-enumerate_from 0 fetches) in
    get_or-map f (enumerate_from 0 fetches) n (0, None) 0 here
    ∙ (ap f (get_or-enumerate_from 0 fetches n (0, None) inside)
    ∙ ap (λ (m : ℕ). f (m, fetch_at fetches n)) (zero-add n))

-- each local block has it in the row of the node
pub at-rows : (count : ℕ) (own : List ℕ) (n local : ℕ) → n < length own → local < count
    → age_of (rows_of count own) n local ≡ slice_index own n
at-rows count own n local inside known =
    ap (λ (l : List ℕ). age_at l local) (get_or-map (replicate count) own n 0 [] inside)
    ∙ get_or-replicate count local (slice_index own n) 0 known

-- a node that fetches is one of the view's
pub fetch_inside : (view : View) (n other : ℕ) → fetch_at view.fetches n ≡ Some other → n < length view.fetches
fetch_inside view n other fetches = elim (cases_lt n (length view.fetches)) [
  | inl inside ↦ inside
  | inr past ↦ absurd (none-some other (sym (get_or_past view.fetches n None past) ∙ fetches))
]

module _ (view : View) (is : IsView view) (hits : Bool) (start : Start) (ages : List (List ℕ)) (block : ℕ) where
  abbrev Rows : List (List ℕ)
  Rows = rows_of (length view.blocks) (own_ages view.fetches ages)

  abbrev Change : List (List ℕ) → ℕ → ℕ → ℕ → ℕ
  Change of n other = bound_changed hits view.geometry.ways (age_of of n other)

  -- the rows have the age of the fetched block
  rows-age : (n other : ℕ) → fetch_at view.fetches n ≡ Some other → age_of Rows n other ≡ age_of ages n other
  rows-age n other fetches =
      let inside : n < length view.fetches = fetch_inside view n other fetches in
      at-rows (length view.blocks) (own_ages view.fetches ages) n other
      (omega (arith, inside, length-own view.fetches ages)) (is.within n other fetches)
      ∙ (own-each view.fetches ages n inside ∙ ap (own_age ages n) fetches)

  -- and a node changes a bound over the rows as over the ages
  after-same : (n bound : ℕ) (fetch : Option ℕ) → fetch_at view.fetches n ≡ fetch
      → bound_after (Change Rows n) block fetch bound ≡ bound_after (Change ages n) block fetch bound
  after-same n bound None fetches = refl
  after-same n bound (Some other) fetches =
      ap (λ (age : ℕ). cond (other == block) 0 (bound_changed hits view.geometry.ways age bound))
      (rows-age n other fetches)

  -- the equations with these transfers
  abbrev With : (ℕ → ℕ → ℕ) → Framework ℕ
  With transfer = record {
    carrier = λ bound. bound ≤ view.geometry.ways;
    start = first_bound hits start view.geometry.ways;
    transfer = transfer;
    below = IsBoundBelow hits;
    join = bounds_met hits;
    height = view.geometry.ways + 1;
  }

  -- so the equations are the same
  pub over_own : framework_of (setting_with hits view start (own_ages view.fetches ages) block)
      ≡ exists_framework hits view start ages block
  over_own = ap With (fun_ext (λ n. fun_ext (λ bound. after-same n bound (fetch_at view.fetches n) refl)))

-- and so they are over numbers that are these ages
pub over_ages : (view : View) → IsView view → (hits : Bool) (start : Start) (own : List ℕ) (ages : List (List ℕ))
    (block : ℕ) → own ≡ own_ages view.fetches ages
    → framework_of (setting_with hits view start own block) ≡ exists_framework hits view start ages block
over_ages view is hits start own ages block same =
    ap (λ (numbers : List ℕ). framework_of (setting_with hits view start numbers block)) same
    ∙ over_own view is hits start ages block
