-- Which blocks the nodes fetch.
use Rattle.std.proofs.Common.{◌≡◌, ℕ, zero, suc, ◌+◌, ◌<◌, ◌≤◌, inl, inr, List, [], ◌∷◌, length, Option, Some, None, refl, ap, sym, ◌∙◌, subst, arith}
use Rattle.std.specs.List.{Contains, filter_map, cons_option}
use Rattle.list_lemmas.proofs.Members.{has-none, has-first, has-later, has-cases}
use Rattle.cache_spec.specs.Geometry.{Geometry}
use Rattle.path_model.specs.declared.graph.Node.{Node}
use Rattle.path_model.specs.Graph.{address_of, addresses_of}
use Rattle.cache_spec.specs.Blocks.{block_in, LieIn}

-- the blocks that the nodes fetch, one for each fetch
abbrev pub blocks_of : List Node → Geometry → ℕ → List ℕ
blocks_of nodes g set = filter_map (λ node. block_in g set node.at) nodes

-- what one of the addresses lies in, one of more addresses lies in
lies-further : (address : ℕ) (addresses : List ℕ) (g : Geometry) (set block : ℕ) → LieIn addresses g set block
    → LieIn (address ∷ addresses) g set block
lies-further address addresses g set block (other, has, is) = (other, has-later address other addresses has, is)

-- a listed block is the first one, or a later one
listed-cases : (o : Option ℕ) (address : ℕ) (addresses : List ℕ) (g : Geometry) (set block : ℕ) (rest : List ℕ)
    → block_in g set address ≡ o
    → (Contains rest block → LieIn addresses g set block) → Contains (cons_option o rest) block
    → LieIn (address ∷ addresses) g set block
listed-cases None address addresses g set block rest is later listed =
    lies-further address addresses g set block (later listed)
listed-cases (Some first) address addresses g set block rest is later listed =
    elim (has-cases first block rest listed) [
      | inl same ↦ (address, has-first address addresses, is ∙ ap Some (sym same))
      | inr beyond ↦ lies-further address addresses g set block (later beyond)
    ]

-- each listed block is one that a node fetches
pub listed-fetched : (nodes : List Node) (g : Geometry) (set block : ℕ) → Contains (blocks_of nodes g set) block
    → LieIn (addresses_of nodes) g set block
listed-fetched [] g set block listed = absurd (has-none block listed)
listed-fetched (node ∷ nodes) g set block listed =
    listed-cases (block_in g set node.at) node.at (addresses_of nodes) g set block (blocks_of nodes g set) refl
    (listed-fetched nodes g set block) listed

-- one fetch more before the others
listed-further : (o : Option ℕ) (rest : List ℕ) (block : ℕ) → Contains rest block → Contains (cons_option o rest) block
listed-further None rest block listed = listed
listed-further (Some first) rest block listed = has-later first block rest listed

-- each block that a node fetches is listed
pub fetched-listed : (nodes : List Node) (g : Geometry) (set block : ℕ) → LieIn (addresses_of nodes) g set block
    → Contains (blocks_of nodes g set) block
fetched-listed [] g set block (address, has, is) = absurd (has-none address has)
fetched-listed (node ∷ nodes) g set block (address, has, is) =
    elim (has-cases node.at address (addresses_of nodes) has) [
      | inl same ↦
          let P : Option ℕ → Type 0 = λ o. Contains (cons_option o (blocks_of nodes g set)) block in
          let here : block_in g set node.at ≡ Some block = ap (block_in g set) (sym same) ∙ is in
          subst P (sym here) (has-first block (blocks_of nodes g set))
      | inr later ↦ listed-further (block_in g set node.at) (blocks_of nodes g set) block
          (fetched-listed nodes g set block (address, later, is))
    ]

-- the address of a node is one of them
pub has-address : (nodes : List Node) (n : ℕ) → n < length nodes → Contains (addresses_of nodes) (address_of nodes n)
has-address [] n inside = absurd (omega (arith, inside))
has-address (node ∷ nodes) zero inside = has-first node.at (addresses_of nodes)
has-address (node ∷ nodes) (suc n) inside =
    has-later node.at (address_of nodes n) (addresses_of nodes) (has-address nodes n (omega (arith, inside)))

-- with the block of one node more, the length grows by at most one
length-cons_option : (o : Option ℕ) (rest : List ℕ) → length (cons_option o rest) ≤ length rest + 1
length-cons_option None rest = omega arith
length-cons_option (Some first) rest = omega arith

-- there are no more listed blocks than nodes
pub length-blocks_of : (nodes : List Node) (g : Geometry) (set : ℕ) → length (blocks_of nodes g set) ≤ length nodes
length-blocks_of [] g set = omega arith
length-blocks_of (node ∷ nodes) g set =
    omega (arith, length-cons_option (block_in g set node.at) (blocks_of nodes g set), length-blocks_of nodes g set)
