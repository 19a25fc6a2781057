-- Frameworks whose data are sets of marks: the marks of a finite list, in order of inclusion, where each mark comes
-- from single marks before a node. Their solutions are what some path leads to, mark by mark.
use Rattle.std.specs.Prelude.{◌≡◌, ℕ, ◌+◌, Bool, true, ◌&&◌, ◌||◌, List, length}
use Rattle.std.specs.List.{Contains, list_any}
use Rattle.lattice_fix.specs.Framework.{Framework}

-- which marks there are, in a list and by a test; which of them stand at the start; and after a node which of them
-- stand always, and from which others, of which one has to stand before it, each comes
pub record Marking (M : Type 0) : Type 0 where
  pub all : List M
  pub is_mark : M → Bool
  pub begins : M → Bool
  pub always : ℕ → M → Bool
  pub sources : ℕ → M → List M

-- the marks after a node
abbrev pub moved : {M : Type 0} → Marking M → ℕ → (M → Bool) → M → Bool
moved K n x mark = K.is_mark mark && (K.always n mark || list_any x (K.sources n mark))

-- sets of marks, by their tests
abbrev pub power : {M : Type 0} → Marking M → Framework (M → Bool)
power {M} K = record {
  carrier = λ x. (mark : M) → x mark ≡ true → K.is_mark mark ≡ true;
  start = λ mark. K.is_mark mark && K.begins mark;
  transfer = moved K;
  below = λ x y. (mark : M) → x mark ≡ true → y mark ≡ true;
  join = λ x y mark. x mark || y mark;
  height = length K.all + 1;
}

-- the list has all marks
abbrev pub HasAll : {M : Type 0} → Marking M → Type 0
HasAll {M} K = (mark : M) → K.is_mark mark ≡ true → Contains K.all mark
