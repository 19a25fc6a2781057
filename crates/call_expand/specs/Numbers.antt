-- Numbers of points.
use Rattle.std.specs.Prelude.{◌≡◌, ◌⊎◌, ℕ, List, [], ◌∷◌, ◌++◌, Option, Some, None, slice_get, Contains, flat_map}
use Rattle.std.specs.List.{AllByRecursion}
use Rattle.std.specs.List.Sorted.{IsPermutation, IsSorted}
use Rattle.std.specs.Ordering.{nat_cmp, ordering_then}
use Rattle.std.specs.declared.cmp.Ordering.{Ordering}
use Rattle.std.specs.BTreeMap.{BTreeMap, get}
use Rattle.path_model.specs.declared.graph.Node.{Node}
use Rattle.frame_stacks.specs.declared.stacks.StackCell.{StackCell}
use Rattle.call_expand.specs.Point.{fetched_by, point_cmp, points_of}
use Rattle.call_expand.specs.declared.point.Point.{Point}
use Rattle.call_expand.specs.declared.point.Edges.{Edges}

-- the key of a point in a map, and the order of keys
abbrev pub Key : Type 0
Key = ℕ × ℕ × ℕ

abbrev pub key_of : Point → Key
key_of point = (point.at, point.part, point.stack)

abbrev pub key_cmp : Key → Key → Ordering
key_cmp a b = ordering_then (ordering_then (nat_cmp a.0 b.0) (nat_cmp a.1 b.1)) (nat_cmp a.2 b.2)

-- the map has the index of each of these points as its number, and no other number
pub record AreNumbers (points : List Point) (numbers : BTreeMap Key ℕ) : Type 0 where
  pub found : (n : ℕ) (point : Point) → slice_get points n ≡ Some point
      → get key_cmp numbers (key_of point) ≡ Some n
  pub only : (n : ℕ) (point : Point) → get key_cmp numbers (key_of point) ≡ Some n
      → slice_get points n ≡ Some point

-- no point is listed twice
abbrev pub AreApart : List Point → Type 0
AreApart points = (n m : ℕ) (point : Point) → slice_get points n ≡ Some point → slice_get points m ≡ Some point → n ≡ m

-- the point was listed before, or is now, after the others
abbrev pub IsAdded : List Point → Point → List Point → Type 0
IsAdded before point after =
    (Contains before point × (after ≡ before)) ⊎ ((Contains before point → ⊥) × (after ≡ before ++ point ∷ []))

-- those of found that aren't among the seen, each once and in their order
abbrev pub AreNew : List Point → List Point → List Point → Type 0
AreNew seen [] more = more ≡ []
AreNew seen (point ∷ found) more =
    (Contains seen point × AreNew seen found more)
    ⊎ ((Contains seen point → ⊥) × (rest : List Point) × (more ≡ point ∷ rest) × AreNew (seen ++ point ∷ []) found rest)

-- the number is that of the point, or both are absent
abbrev pub HasNumber : List Point → Option Point → Option ℕ → Type 0
HasNumber points None None = Unit {0}
HasNumber points None (Some n) = ⊥
HasNumber points (Some point) None = ⊥
HasNumber points (Some point) (Some n) = slice_get points n ≡ Some point

-- the node of a point with these edges
pub record IsNodeFor (points : List Point) (point : Point) (edges : Edges) (node : Node) : Type 0 where
  pub at : node.at ≡ fetched_by point
  pub first : HasNumber points edges.first node.first
  pub second : HasNumber points edges.second node.second

-- the nodes of all these points, each with its edges
abbrev pub AreNodesFor : List Point → List Point → List Edges → List Node → Type 0
AreNodesFor all [] [] [] = Unit {0}
AreNodesFor all (point ∷ points) (edge ∷ edges) (node ∷ nodes) =
    IsNodeFor all point edge node × AreNodesFor all points edges nodes
AreNodesFor all _ _ _ = ⊥

-- each of these points is one of those
abbrev pub AreAmong : List Point → List Point → Type 0
AreAmong all points = AllByRecursion (Contains all) points

-- the points that these edges lead to are put in order, and those that are new are numbered after the others
pub record AreNumbered (cells : List StackCell) (edges : List Edges) (before after : List Point) : Type 0 where
  pub found : List Point
  pub same : IsPermutation (flat_map points_of edges) found
  pub sorted : IsSorted (point_cmp cells) found
  pub new : List Point
  pub is : after ≡ before ++ new
  pub are : AreNew before found new
