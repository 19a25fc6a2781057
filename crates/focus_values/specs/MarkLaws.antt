-- The marks of a setting are finite, so that their sets are a monotone framework.
use Rattle.std.proofs.Common.{◌≡◌, ℕ, true, List, ◌++◌, Option, map, length, refl, inl, inr, ltb, arith}
use Rattle.std.proofs.lemmas.Bool.{and_parts}
use Rattle.std.proofs.lemmas.List.Elements.{Contains-append_left, Contains-append_right}
use Rattle.std.specs.List.{Contains}
use Rattle.list_lemmas.proofs.Members.{has-map}
use Rattle.set_list.specs.Rising.{Contains-cons}
use Rattle.lattice_fix.specs.Framework.{IsMonotone}
use Rattle.focus_values.specs.Power.{HasAll}
use Rattle.focus_values.specs.PowerLaws.{power_monotone}
use Rattle.focus_values.specs.Sets.{rises}
use Rattle.focus_values.specs.AllSets.{sets_complete}
use Rattle.focus_values.specs.Marks.{Setting, Mark, over, under, lost, is_set, is_mark, all_sets, marking, framework_of, marks_of, says}

-- each small set of local numbers is listed
pub listed : (g : Setting) (set : List ℕ) → is_set g set ≡ true → Contains (all_sets g) set
listed g set small = sets_complete g.count 0 g.count set (omega arith)
    (and_parts (rises 0 g.count set) (ltb (length set) g.ways) small).0

-- and so is each mark
pub all_listed : (g : Setting) → HasAll (marking g)
all_listed g (over set) is =
    let sets = all_sets g in
    (Contains-cons lost (map over sets ++ map under sets) (over set)).1
    (inl (Contains-append_left (map over sets) (map under sets) (over set)
    (has-map over sets set (listed g set is))))
all_listed g (under set) is =
    let sets = all_sets g in
    (Contains-cons lost (map over sets ++ map under sets) (under set)).1
    (inl (Contains-append_right (map over sets) (map under sets) (under set)
    (has-map under sets set (listed g set is))))
all_listed g lost is =
    let sets = all_sets g in
    (Contains-cons lost (map over sets ++ map under sets) lost).1 (inr refl)

-- the laws hold
pub framework_monotone : (g : Setting) → IsMonotone (framework_of g)
framework_monotone g = power_monotone (marking g) (all_listed g)

-- what families stand for is over small sets
pub marks_within : (g : Setting) (least : List (List ℕ)) (most : Option (List (List ℕ))) (mark : Mark)
    → marks_of g least most mark ≡ true → is_mark g mark ≡ true
marks_within g least most mark has = (and_parts (is_mark g mark) (says least most mark) has).0
