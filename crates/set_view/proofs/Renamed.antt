-- The fetches of a path, by blocks and by local numbers.
use Rattle.std.proofs.Common.{◌≡◌, ℕ, zero, suc, ◌<◌, List, [], ◌∷◌, length, map, Option, Some, None, refl, ap, sym, ◌∙◌, arith}
use Rattle.std.specs.Prelude.{option_map, nat_lt, ◌==◌}
use Rattle.std.specs.List.{Contains, AllByRecursion}
use Rattle.std.proofs.lemmas.Bool.Decides.{nat_tests}
use Rattle.std.proofs.lemmas.List.{length-map}
use Rattle.std.proofs.lemmas.Option.{cond_some}
use Rattle.transition_spec.specs.Path.{IsPath, IsSuccessor}
use Rattle.cache_spec.specs.Geometry.{Geometry, block_of, set_of}
use Rattle.path_model.specs.declared.graph.Node.{Node}
use Rattle.path_model.specs.Graph.{IsGraph, graph_step, address_of}
use Rattle.focus_spec.specs.Younger.{is_small, named, fetch_at}
use Rattle.cache_spec.specs.Blocks.{block_in}
use Rattle.set_view.specs.View.{View, IsView}

-- each of these members is the number of a node
abbrev pub AreInside : List Node → List ℕ → Type 0
AreInside nodes members = AllByRecursion (λ n. n < length nodes) members

-- the members of a path are numbers of nodes
pub path-inside : (nodes : List Node) (members : List ℕ) → IsGraph nodes
    → ((n m : ℕ) → IsSuccessor (graph_step nodes) n m → m < length nodes) → IsPath (graph_step nodes) 0 members
    → AreInside nodes members
path-inside nodes [] graph inside path = absurd path
path-inside nodes (n ∷ []) graph inside path = (omega (arith, path, graph.some), tt)
path-inside nodes (m ∷ n ∷ earlier) graph inside path =
    (inside n m path.0, path-inside nodes (n ∷ earlier) graph inside path.1)

-- the blocks that members fetch are those that their local numbers name
pub map-block_in : (view : View) (members : List ℕ) → IsView view → AreInside view.nodes members
    → map (block_in view.geometry view.set) (map (address_of view.nodes) members)
    ≡ map (option_map (named view.blocks)) (map (fetch_at view.fetches) members)
map-block_in view [] is all = refl
map-block_in view (n ∷ members) is all =
    ap (λ first. first ∷ map (block_in view.geometry view.set) (map (address_of view.nodes) members))
    (sym (is.fetches n all.0))
    ∙ ap (λ rest. option_map (named view.blocks) (fetch_at view.fetches n) ∷ rest) (map-block_in view members is all.1)

-- each local number that members fetch is that of a block
pub fetched-within : (view : View) (members : List ℕ) (local : ℕ) → IsView view
    → Contains (map (fetch_at view.fetches) members) (Some local) → local < length view.blocks
fetched-within view [] local is (k, within, same) = absurd (omega arith)
fetched-within view (n ∷ members) local is (zero, within, same) = is.within n local same
fetched-within view (n ∷ members) local is (suc k, within, same) =
    fetched-within view members local is (k, omega arith, same)

-- new names leave a younger set as small as it is
pub is_small-renamed : (ways : ℕ) (names : ℕ → ℕ) (younger : Option (List ℕ))
    → is_small ways (option_map (map names) younger) ≡ is_small ways younger
is_small-renamed ways names None = refl
is_small-renamed ways names (Some set) = ap (λ n. nat_lt n ways) (length-map set names)

-- an address whose block is one of the set
pub block_in-Some : (g : Geometry) (set address block : ℕ) → block_in g set address ≡ Some block
    → (set_of g (block_of g address) ≡ set) × (block_of g address ≡ block)
block_in-Some g set address block is =
    let parts = cond_some (set_of g (block_of g address) == set) (block_of g address) block is in
    (grind (arith, nat_tests), parts.1)
