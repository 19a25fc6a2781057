-- The local numbers of the blocks that nodes fetch.
use Rattle.std.proofs.Common.{◌≡◌, ℕ, zero, suc, ◌<◌, ◌≤◌, ⊎_elim, List, [], ◌∷◌, length, map, Option, Some, None, refl, ap, sym, ◌∙◌, subst, arith}
use Rattle.std.specs.Prelude.{nat_eq, option_map, option_and_then}
use Rattle.std.specs.List.{Contains}
use Rattle.std.specs.List.Sorted.{IsStrictlyIncreasing}
use Rattle.std.proofs.Math.ListN.{get_or}
use Rattle.std.proofs.lemmas.Bool.{cases_lt}
use Rattle.std.proofs.lemmas.List.{get_or_past, get_or_default, length-map}
use Rattle.std.proofs.lemmas.List.Quantifiers.{position-Some}
use Rattle.std.proofs.lemmas.Option.{none-some}
use Rattle.cache_spec.specs.Geometry.{Geometry}
use Rattle.path_model.specs.declared.graph.Node.{Node}
use Rattle.path_model.specs.Graph.{IsGraph, address_of, addresses_of}
use Rattle.focus_spec.specs.Younger.{named, fetch_at}
use Rattle.cache_spec.specs.Blocks.{block_in, block_limit, AreBlocks}
use Rattle.set_view.specs.View.{IsView}
use Rattle.set_view.specs.Places.{place_of, local_at}
use Rattle.set_view.proofs.Rising.{place_of-found}
use Rattle.set_view.proofs.Members.{has-address}

-- what node n fetches, by the block that it fetches
pub fetch_at-map : (nodes : List Node) (blocks : List ℕ) (g : Geometry) (set n : ℕ) → n < length nodes
    → fetch_at (map (local_at blocks g set) nodes) n
    ≡ option_and_then (place_of blocks) (block_in g set (address_of nodes n))
fetch_at-map [] blocks g set n within = absurd (omega arith)
fetch_at-map (node ∷ nodes) blocks g set zero within = refl
fetch_at-map (node ∷ nodes) blocks g set (suc n) within = fetch_at-map nodes blocks g set n (omega arith)

-- a listed block has the place where it stands
named-place : (blocks : List ℕ) (block : ℕ) → IsStrictlyIncreasing blocks → Contains blocks block
    → option_map (named blocks) (place_of blocks block) ≡ Some block
named-place blocks block rising (k, within, same) =
    let here : get_or blocks k 0 ≡ block = get_or_default blocks k 0 block within ∙ same in
    ap (option_map (named blocks)) (place_of-found blocks block k rising within here) ∙ ap Some here

-- the place of a block that is listed, if there is a block, names it
named-place_of : (blocks : List ℕ) (o : Option ℕ) → IsStrictlyIncreasing blocks
    → ((block : ℕ) → o ≡ Some block → Contains blocks block)
    → option_map (named blocks) (option_and_then (place_of blocks) o) ≡ o
named-place_of blocks None rising listed = refl
named-place_of blocks (Some block) rising listed = named-place blocks block rising (listed block refl)

-- each node has the place of its block
pub named-fetch_at : (nodes : List Node) (blocks : List ℕ) (g : Geometry) (set n : ℕ)
    → AreBlocks (addresses_of nodes) g set blocks → n < length nodes
    → option_map (named blocks) (fetch_at (map (local_at blocks g set) nodes) n) ≡ block_in g set (address_of nodes n)
named-fetch_at nodes blocks g set n fetched within =
    ap (option_map (named blocks)) (fetch_at-map nodes blocks g set n within)
    ∙ named-place_of blocks (block_in g set (address_of nodes n)) fetched.rising
    (λ block is. (fetched.members block).1 (address_of nodes n, has-address nodes n within, is))

-- a place is one of the list
place_of-within : (blocks : List ℕ) (o : Option ℕ) (place : ℕ) → option_and_then (place_of blocks) o ≡ Some place
    → place < length blocks
place_of-within blocks None place is = absurd (none-some place is)
place_of-within blocks (Some block) place is = (position-Some (nat_eq block) blocks place 0 is).0

-- a local number is the place of a block
pub fetch_at-within : (nodes : List Node) (blocks : List ℕ) (g : Geometry) (set n place : ℕ)
    → fetch_at (map (local_at blocks g set) nodes) n ≡ Some place → place < length blocks
fetch_at-within nodes blocks g set n place is = ⊎_elim
    (λ (within : n < length nodes). place_of-within blocks (block_in g set (address_of nodes n)) place
    (sym (fetch_at-map nodes blocks g set n within) ∙ is))
    (λ (past : length nodes ≤ n). absurd (none-some place
    (sym (get_or_past (map (local_at blocks g set) nodes) n None
    (omega (arith, length-map nodes (local_at blocks g set)))) ∙ is)))
    (cases_lt n (length nodes))

-- what the fetched blocks and their places make is a view
pub view-made : (nodes : List Node) (g : Geometry) (set : ℕ) (blocks : List ℕ) (fetches : List (Option ℕ))
    → IsGraph nodes → 1 ≤ g.ways → g.ways ≤ 16
    → AreBlocks (addresses_of nodes) g set blocks → length blocks ≤ block_limit
    → fetches ≡ map (local_at blocks g set) nodes
    → IsView (record { nodes = nodes; geometry = g; set = set; blocks = blocks; fetches = fetches })
view-made nodes g set blocks fetches graph some_ways few_ways fetched few made =
    let P : List (Option ℕ) → Type 0 = λ fetches. IsView (record
    { nodes = nodes; geometry = g; set = set; blocks = blocks; fetches = fetches }) in
    subst P (sym made) (record {
      graph = graph;
      some_ways = some_ways;
      few_ways = few_ways;
      blocks = fetched;
      few = few;
      one_each = length-map nodes (local_at blocks g set);
      within = fetch_at-within nodes blocks g set;
      fetches = λ n within. named-fetch_at nodes blocks g set n fetched within;
    })
