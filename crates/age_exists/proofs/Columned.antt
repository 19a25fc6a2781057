-- The bounds of all local blocks, made block by block.
use Rattle.std.proofs.Common.{◌≡◌, ℕ, ◌+◌, ◌<◌, Bool, true, false, List, [], ◌∷◌, ◌++◌, length, sym, ◌∙◌, subst, inl, inr, arith}
use Rattle.std.proofs.lemmas.Bool.{cases_lt}
use Rattle.std.proofs.lemmas.List.{get_or_append_left, get_or_push, length_push}
use Rattle.cache_spec.specs.declared.start.Start.{Start}
use Rattle.lattice_fix.specs.Framework.{Framework, IsMonotone}
use Rattle.lattice_fix.specs.Solution.{IsLeast}
use Rattle.lattice_fix.proofs.Paths.{least_same}
use Rattle.set_view.specs.View.{View, IsView}
use Rattle.age_spec.specs.declared.kind.Kind.TheVariants.{Must, May}
use Rattle.age_spec.specs.Ages.{AreMustAges, AreMayAges}
use Rattle.age_spec.proofs.Bounded.{solution_bounds}
use Rattle.age_spec.proofs.Reaching.{hit_monotone, miss_monotone}
use Rattle.age_exists.specs.Equations.{exists_framework, framework_of, setting_with, own_ages, rows_of}
use Rattle.age_exists.specs.Bounded.{AreOwn}
use Rattle.age_exists.specs.Columns.{Columns, column_at, AreColumns, AreHitColumns, AreMissColumns, AreHitsOf, AreMissesOf}
use Rattle.age_exists.proofs.Own.{over_ages}

-- the bounds of the first blocks
pub record AreFirst (view : View) (start : Start) (hits : Bool) (own : List ℕ) (count : ℕ) (columns : List (List ℕ))
    : Type 0 where
  pub one_each : length columns ≡ count
  pub least : (local : ℕ) → local < count
      → IsLeast (framework_of (setting_with hits view start own local)) view.nodes (column_at columns local)

-- those of one block more
pub columns_more : (view : View) (start : Start) (hits : Bool) (own : List ℕ) (count : ℕ) (columns next : List (List ℕ))
    (column : List ℕ) → AreFirst view start hits own count columns
    → IsLeast (framework_of (setting_with hits view start own count)) view.nodes column → next ≡ columns ++ column ∷ []
    → AreFirst view start hits own (count + 1) next
columns_more view start hits own count columns next column are new made =
    let Least : ℕ → List ℕ → Type 0 =
    λ local. IsLeast (framework_of (setting_with hits view start own local)) view.nodes in
    subst (AreFirst view start hits own (count + 1)) (sym made) (record {
      one_each = omega (arith, length_push columns column, are.one_each);
      least = λ local below. elim (cases_lt local count) [
        | inl old ↦
            let stays = get_or_append_left columns (column ∷ []) [] local (omega (arith, old, are.one_each)) in
            subst (Least local) (sym stays) (are.least local old)
        | inr past ↦
            let here : local ≡ count = omega (arith, past, below) in
            subst (Least local) (sym (get_or_push columns column [] local (are.one_each ∙ sym here)))
            (subst (λ (k : ℕ). Least k column) (sym here) new)
      ];
    })

-- all at the end
pub columns_end : (view : View) (start : Start) (hits : Bool) (own : List ℕ) (count : ℕ) (columns : List (List ℕ))
    → AreFirst view start hits own count columns → count ≡ length view.blocks → AreColumns view start hits own columns
columns_end view start hits own count columns are all = record {
  one_each = are.one_each ∙ all;
  least = λ local below. are.least local (omega (arith, below, all));
}

-- the equations are monotone
exists-monotone : (hits : Bool) (view : View) (start : Start) (own : List ℕ) (block : ℕ)
    → IsMonotone (framework_of (setting_with hits view start own block))
exists-monotone true view start own block = hit_monotone view start (rows_of (length view.blocks) own) block
exists-monotone false view start own block = miss_monotone view (rows_of (length view.blocks) own) block

-- so the least solution for a block is its column
pub column_same : (view : View) (start : Start) (hits : Bool) (own : List ℕ) (columns : List (List ℕ)) (local : ℕ)
    (bounds : List ℕ) → AreColumns view start hits own columns → local < length view.blocks
    → IsLeast (framework_of (setting_with hits view start own local)) view.nodes bounds
    → bounds ≡ column_at columns local
column_same view start hits own columns local bounds are known least =
    least_same (framework_of (setting_with hits view start own local)) (exists-monotone hits view start own local)
    view.nodes bounds (column_at columns local) least (are.least local known)

module _ (view : View) (is : IsView view) (start : Start) (own : List ℕ) (ages columns : List (List ℕ))
    (same : own ≡ own_ages view.fetches ages) where
  -- one equation over the ages of what the nodes fetch is one over all ages
  over : (hits : Bool) (local : ℕ)
      → framework_of (setting_with hits view start own local) ≡ exists_framework hits view start ages local
  over hits local = over_ages view is hits start own ages local same

  -- so these are the exists-hit bounds, or the exists-miss bounds
  pub hit_columns : AreColumns view start true own columns → AreHitColumns view start ages columns
  hit_columns are = record {
    one_each = are.one_each;
    each = λ local known. subst (λ (F : Framework ℕ). IsLeast F view.nodes (column_at columns local)) (over true local)
        (are.least local known);
  }

  pub miss_columns : AreColumns view start false own columns → AreMissColumns view ages columns
  miss_columns are = record {
    one_each = are.one_each;
    each = λ local known. subst (λ (F : Framework ℕ). IsLeast F view.nodes (column_at columns local)) (over false local)
        (are.least local known);
  }

  -- and the other way
  from-hits : AreHitColumns view start ages columns → AreColumns view start true own columns
  from-hits are = record {
    one_each = are.one_each;
    least = λ local known. subst (λ (F : Framework ℕ). IsLeast F view.nodes (column_at columns local))
        (sym (over true local)) (are.each local known);
  }

  from-misses : AreMissColumns view ages columns → AreColumns view start false own columns
  from-misses are = record {
    one_each = are.one_each;
    least = λ local known. subst (λ (F : Framework ℕ). IsLeast F view.nodes (column_at columns local))
        (sym (over false local)) (are.each local known);
  }

-- bounds that are made for a view are those of the view
pub hits_of : (view : View) → IsView view → (start : Start) (must : List (List ℕ)) (c : Columns) → c.start ≡ start
    → AreMustAges view must → c.own ≡ own_ages view.fetches must → AreColumns view start true c.own c.columns
    → AreHitsOf view c
hits_of view is start must c begins ages same are = record {
  must = must;
  ages = ages;
  same = same;
  bounds = subst (λ (s : Start). AreHitColumns view s must c.columns) (sym begins)
      (hit_columns view is start c.own must c.columns same are);
}

pub misses_of : (view : View) → IsView view → (start : Start) (may : List (List ℕ)) (c : Columns) → c.start ≡ start
    → AreMayAges view start may → c.own ≡ own_ages view.fetches may → AreColumns view start false c.own c.columns
    → AreMissesOf view c
misses_of view is start may c begins ages same are = record {
  may = may;
  ages = subst (λ (s : Start). AreMayAges view s may) (sym begins) ages;
  same = same;
  bounds = miss_columns view is start c.own may c.columns same are;
}

-- and what is kept of them serves to find a way
pub hits_own : (view : View) → IsView view → (c : Columns) → AreHitsOf view c → AreOwn view c.start true c.own
hits_own view is c of = record {
  ages = of.must;
  sound = solution_bounds view is c.start Must of.must of.ages.solution;
  same = of.same;
}

pub hits_columns : (view : View) → IsView view → (c : Columns) → AreHitsOf view c
    → AreColumns view c.start true c.own c.columns
hits_columns view is c of = from-hits view is c.start c.own of.must c.columns of.same of.bounds

pub misses_own : (view : View) → IsView view → (c : Columns) → AreMissesOf view c → AreOwn view c.start false c.own
misses_own view is c of = record {
  ages = of.may;
  sound = solution_bounds view is c.start May of.may of.ages.solution;
  same = of.same;
}

pub misses_columns : (view : View) → IsView view → (c : Columns) → AreMissesOf view c
    → AreColumns view c.start false c.own c.columns
misses_columns view is c of = from-misses view is c.start c.own of.may c.columns of.same of.bounds
