-- The fetched blocks of a set, by nodes and by their addresses.
use Rattle.std.proofs.Common.{◌≡◌, ℕ, zero, suc, ◌<◌, List, [], ◌∷◌, length, refl, ap, ◌∙◌, subst, arith, Option, Some, None}
use Rattle.std.specs.Prelude.{Bool, true, false, ◌==◌, if◌then◌else◌, option_map}
use Rattle.std.specs.List.{Contains}
use Rattle.std.proofs.lemmas.Bool.Decides.{nat_tests}
use Rattle.cache_spec.specs.Geometry.{Geometry, block_of, set_of}
use Rattle.path_model.specs.declared.graph.Node.{Node}
use Rattle.path_model.specs.Graph.{address_of, addresses_of}
use Rattle.focus_spec.specs.Younger.{named, fetch_at}
use Rattle.set_view.specs.View.{View, IsView}
use Rattle.cache_spec.specs.Blocks.{block_in, block_limit, HaveBlocks, HaveFew}
use Rattle.set_list.specs.RisingSets.{same_from_subsets}
use Rattle.node_verdicts.specs.Judged.{set_at}

-- an address is that of a node
node_of : (nodes : List Node) (address : ℕ) → Contains (addresses_of nodes) address
    → (n : ℕ) × (n < length nodes) × (address_of nodes n ≡ address)
node_of [] address (k, lt, is) = absurd (omega (arith, lt))
node_of (node ∷ nodes) address (zero, lt, is) = (0, omega arith, is)
node_of (node ∷ nodes) address (suc k, lt, is) =
    let (n, inside, at) = node_of nodes address (k, omega (arith, lt), is) in (suc n, omega (arith, inside), at)

-- few blocks of a set that has a view are fetched
pub few_viewed : (nodes : List Node) (g : Geometry) (view : View) → IsView view → view.nodes ≡ nodes → view.geometry ≡ g
    → HaveFew (addresses_of nodes) g view.set
few_viewed nodes g view is nodes_is geometry_is =
    subst (λ (ns : List Node). HaveFew (addresses_of ns) g view.set) nodes_is
    (subst (λ (h : Geometry). HaveFew (addresses_of view.nodes) h view.set) geometry_is
    (length view.blocks, (view.blocks, is.blocks, refl), is.few))

-- an address in a block of the set lies in the set: by the test of its set
set_is_by : (g : Geometry) (set address block : ℕ) (same : Bool) → (set_of g (block_of g address) == set) ≡ same
    → (if same then Some (block_of g address) else None) ≡ Some block → set_of g (block_of g address) ≡ set
set_is_by g set address block true is some = grind (arith, nat_tests, is)
set_is_by g set address block false is none = absurd (cc none)

-- an address in a block of the set lies in the set
pub set_is : (g : Geometry) (set address block : ℕ) → block_in g set address ≡ Some block
    → set_of g (block_of g address) ≡ set
set_is g set address block some = set_is_by g set address block (set_of g (block_of g address) == set) refl some

-- where no node fetches the set no block of it is fetched
pub few_unfetched : (nodes : List Node) (g : Geometry) (set : ℕ)
    → ((n : ℕ) → n < length nodes → set_at nodes g n ≡ set → ⊥)
    → HaveFew (addresses_of nodes) g set
few_unfetched nodes g set none = (
  0,
  (
    [],
    record {
      rising = λ k inside. absurd (omega (arith, inside));
      members = λ block. (
        λ (k, lt, is). absurd (omega (arith, lt)),
        λ (address, has, is).
            let (n, inside, at) = node_of nodes address has in
            absurd (none n inside (ap (λ (a : ℕ). set_of g (block_of g a)) at ∙ set_is g set address block is)),
      );
    },
    refl,
  ),
  omega arith,
)

-- an address that lies in the set lies in a block of it: by the test of its set
in_set_by : (g : Geometry) (set address : ℕ) (same : Bool) → (set_of g (block_of g address) == set) ≡ same
    → set_of g (block_of g address) ≡ set
    → (if same then Some (block_of g address) else None) ≡ Some (block_of g address)
in_set_by g set address true is at = refl
in_set_by g set address false is at = absurd (grind (arith, nat_tests, is, at))

-- where a local number names a block there is such a number
some_local : (blocks : List ℕ) (local : Option ℕ) (block : ℕ) → option_map (named blocks) local ≡ Some block
    → (l : ℕ) × (local ≡ Some l)
some_local blocks None block is = absurd (cc is)
some_local blocks (Some l) block is = (l, refl)

-- a node that fetches the set fetches one of its viewed blocks, by the local number of that block
pub local_there : (view : View) → IsView view → (n : ℕ) → n < length view.nodes
    → set_at view.nodes view.geometry n ≡ view.set
    → (local : ℕ) × (fetch_at view.fetches n ≡ Some local) × (local < length view.blocks)
local_there view is n inside at =
    let address = address_of view.nodes n in
    let g = view.geometry in
    let block : block_in g view.set address ≡ Some (block_of g address) =
    in_set_by g view.set address (set_of g (block_of g address) == view.set) refl at in
    let (local, found) =
    some_local view.blocks (fetch_at view.fetches n) (block_of g address) (is.fetches n inside ∙ block) in
    (local, found, is.within n local found)

-- a set with few fetched blocks isn't one with many
pub few_not_many : (addresses : List ℕ) (g : Geometry) (set count : ℕ) → HaveFew addresses g set
    → HaveBlocks addresses g set count → block_limit < count → ⊥
few_not_many addresses g set count (fewer, (blocks, are, long), few) (others, theirs, as_long) many =
    let same : blocks ≡ others =
    same_from_subsets blocks others are.rising theirs.rising
    (λ block has. (theirs.members block).1 ((are.members block).0 has))
    (λ block has. (are.members block).1 ((theirs.members block).0 has)) in
    omega (arith, few, many, long, as_long, ap length same)
