-- The four numbers of a fetch, at nodes of two graphs.
use Rattle.std.specs.Prelude.{◌≡◌, ℕ, List}
use Rattle.cache_spec.specs.declared.start.Start.{Start}
use Rattle.path_model.specs.declared.graph.Node.{Node}
use Rattle.set_view.specs.View.{View, IsView}
use Rattle.age_spec.specs.Ages.{age_of, age_at}
use Rattle.age_spec.specs.Settled.{AreFour}

-- ages by node and block, and one local block's bounds by node
pub record Four : Type 0 where
  pub must : List (List ℕ)
  pub may : List (List ℕ)
  pub hit : List ℕ
  pub miss : List ℕ

-- these are the least solutions of the four systems
abbrev pub IsFour : View → Start → ℕ → Four → Type 0
IsFour view start local four = AreFour view start local four.must four.may four.hit four.miss

-- a local block has the same four numbers before a node of one graph and before a node of another
pub record HasSame (local : ℕ) (one : Four) (n : ℕ) (other : Four) (p : ℕ) : Type 0 where
  pub must : age_of other.must p local ≡ age_of one.must n local
  pub may : age_of other.may p local ≡ age_of one.may n local
  pub hit : age_at other.hit p ≡ age_at one.hit n
  pub miss : age_at other.miss p ≡ age_at one.miss n

-- two views show one set, the first over the one graph and the second over the other
pub record ShowOneSet (nodes others : List Node) (one other : View) : Type 0 where
  pub is_one : IsView one
  pub is_other : IsView other
  pub nodes_are : one.nodes ≡ nodes
  pub others_are : other.nodes ≡ others
  pub geometry_same : other.geometry ≡ one.geometry
  pub set_same : other.set ≡ one.set
