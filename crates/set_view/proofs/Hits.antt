-- Which paths can hit and which can miss, by the local numbers of a view.
use Rattle.std.proofs.Common.{◌≡◌, ◌↔◌, ℕ, ◌<◌, ◌≤◌, ⊎_elim, Bool, true, false, IsTrue, IsFalse, List, ◌∷◌, length, map, Option, Some, None, ap, sym, subst, ◌∙◌, arith}
use Rattle.std.specs.Prelude.{option_map}
use Rattle.std.specs.List.{Contains}
use Rattle.std.specs.List.Sorted.{IsStrictlyIncreasing}
use Rattle.std.proofs.lemmas.Bool.{cases_lt}
use Rattle.std.proofs.lemmas.List.{get_or_past}
use Rattle.std.proofs.lemmas.Option.{none-some}
use Rattle.transition_spec.specs.Path.{IsPath, IsSuccessor}
use Rattle.cache_spec.specs.declared.start.Start.{Start}
use Rattle.cache_spec.specs.declared.start.Start.TheVariants.{Empty}
use Rattle.cache_spec.specs.Geometry.{Geometry, block_of, set_of}
use Rattle.cache_spec.specs.Start.{CanEnd}
use Rattle.path_model.specs.declared.graph.Node.{Node}
use Rattle.path_model.specs.Graph.{IsGraph, graph_step, address_of}
use Rattle.focus_spec.specs.Younger.{younger, warm, is_small, named, fetch_at}
use Rattle.cache_spec.specs.Blocks.{block_in}
use Rattle.focus_spec.specs.Focus.{younger_after, warm_after}
use Rattle.set_view.specs.View.{View, IsView}
use Rattle.set_view.proofs.Renamed.{path-inside, map-block_in, fetched-within, is_small-renamed, block_in-Some}

-- what a warm set says of a hit
abbrev pub HitsByWarm : Type 0
HitsByWarm = (g : Geometry) (start : Start) (address : ℕ) (earlier : List ℕ) → CanEnd g start (address ∷ earlier) true
    ↔ IsTrue (is_small g.ways
    (warm start (block_of g address) (map (block_in g (set_of g (block_of g address))) earlier)))

-- what a younger set says of a miss
abbrev pub MissesByYounger : Type 0
MissesByYounger = (g : Geometry) (start : Start) (address : ℕ) (earlier : List ℕ)
    → CanEnd g start (address ∷ earlier) false
    ↔ IsFalse (is_small g.ways
    (younger (block_of g address) (map (block_in g (set_of g (block_of g address))) earlier)))

-- a warm set is the same under the names of a list that rises
abbrev pub HasNames : Type 0
HasNames = (start : Start) (blocks : List ℕ) (block : ℕ) (fetches : List (Option ℕ)) → IsStrictlyIncreasing blocks
    → block < length blocks → ((local : ℕ) → Contains fetches (Some local) → local < length blocks)
    → warm start (named blocks block) (map (option_map (named blocks)) fetches)
    ≡ option_map (map (named blocks)) (warm start block fetches)

-- a node of a graph leads to one of its nodes
abbrev pub StaysInside : Type 0
StaysInside = (nodes : List Node) (n m : ℕ) → IsGraph nodes → IsSuccessor (graph_step nodes) n m → m < length nodes

-- only a node fetches
fetch-inside : (view : View) (n local : ℕ) → IsView view → fetch_at view.fetches n ≡ Some local → n < length view.nodes
fetch-inside view n local is fetched = ⊎_elim
    (λ (inside : n < length view.nodes). inside)
    (λ (past : length view.nodes ≤ n). absurd (none-some local
    (sym (get_or_past view.fetches n None (omega (arith, is.one_each))) ∙ fetched)))
    (cases_lt n (length view.nodes))

-- the warm set of a block, by the block and by its local number
warm-renamed : HasNames → (view : View) (start : Start) (local : ℕ) (earlier : List ℕ) → IsView view
    → local < length view.blocks
    → map (block_in view.geometry view.set) (map (address_of view.nodes) earlier)
    ≡ map (option_map (named view.blocks)) (map (fetch_at view.fetches) earlier)
    → is_small view.geometry.ways (warm start (named view.blocks local)
    (map (block_in view.geometry view.set) (map (address_of view.nodes) earlier)))
    ≡ is_small view.geometry.ways (warm_after view.fetches start local earlier)
warm-renamed renamed view start local earlier is within same =
    let fetches = map (fetch_at view.fetches) earlier in
    ap (λ fetches. is_small view.geometry.ways (warm start (named view.blocks local) fetches)) same
    ∙ ap (is_small view.geometry.ways) (renamed start view.blocks local fetches is.blocks.rising within
    (λ other inside. fetched-within view earlier other is inside))
    ∙ is_small-renamed view.geometry.ways (named view.blocks) (warm_after view.fetches start local earlier)

-- the warm set of the last block of a path, by the addresses that it fetches and by its local numbers
view-warm : HasNames → StaysInside → (view : View) (start : Start) (n local : ℕ) (earlier : List ℕ) → IsView view
    → IsPath (graph_step view.nodes) 0 (n ∷ earlier) → fetch_at view.fetches n ≡ Some local
    → (let block = block_of view.geometry (address_of view.nodes n) in
    is_small view.geometry.ways (warm start block
    (map (block_in view.geometry (set_of view.geometry block)) (map (address_of view.nodes) earlier))))
    ≡ is_small view.geometry.ways (warm_after view.fetches start local earlier)
view-warm renamed inside view start n local earlier is path fetched =
    let g = view.geometry in
    let address : ℕ = address_of view.nodes n in
    let addresses : List ℕ = map (address_of view.nodes) earlier in
    let all = path-inside view.nodes (n ∷ earlier) is.graph (λ n m leads. inside view.nodes n m is.graph leads) path in
    let block = block_in-Some g view.set address (named view.blocks local)
    (sym (is.fetches n (fetch-inside view n local is fetched)) ∙ ap (option_map (named view.blocks)) fetched) in
    ap (λ set. is_small g.ways (warm start (block_of g address) (map (block_in g set) addresses))) block.0
    ∙ ap (λ block. is_small g.ways (warm start block (map (block_in g view.set) addresses))) block.1
    ∙ warm-renamed renamed view start local earlier is (is.within n local fetched) (map-block_in view earlier is all.1)

-- a path can hit exactly where the warm set of its last block, in local numbers, has fewer than the ways
pub view-hits : HitsByWarm → HasNames → StaysInside
    → (view : View) (start : Start) (n local : ℕ) (earlier : List ℕ) → IsView view
    → IsPath (graph_step view.nodes) 0 (n ∷ earlier) → fetch_at view.fetches n ≡ Some local
    → CanEnd view.geometry start (map (address_of view.nodes) (n ∷ earlier)) true
    ↔ IsTrue (is_small view.geometry.ways (warm_after view.fetches start local earlier))
view-hits hits renamed inside view start n local earlier is path fetched =
    let addresses : List ℕ = map (address_of view.nodes) earlier in
    subst (λ (b : Bool). CanEnd view.geometry start (address_of view.nodes n ∷ addresses) true ↔ IsTrue b)
    (view-warm renamed inside view start n local earlier is path fetched)
    (hits view.geometry start (address_of view.nodes n) addresses)

-- a path can miss exactly where the younger set of its last block, in local numbers, has not
pub view-misses : MissesByYounger → HasNames → StaysInside
    → (view : View) (start : Start) (n local : ℕ) (earlier : List ℕ) → IsView view
    → IsPath (graph_step view.nodes) 0 (n ∷ earlier) → fetch_at view.fetches n ≡ Some local
    → CanEnd view.geometry start (map (address_of view.nodes) (n ∷ earlier)) false
    ↔ IsFalse (is_small view.geometry.ways (younger_after view.fetches local earlier))
view-misses misses renamed inside view start n local earlier is path fetched =
    let addresses : List ℕ = map (address_of view.nodes) earlier in
    subst (λ (b : Bool). CanEnd view.geometry start (address_of view.nodes n ∷ addresses) false ↔ IsFalse b)
    (view-warm renamed inside view Empty n local earlier is path fetched)
    (misses view.geometry start (address_of view.nodes n) addresses)
