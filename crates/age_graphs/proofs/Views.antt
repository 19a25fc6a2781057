-- Views of one set over two graphs that fetch the same blocks of it.
use Rattle.std.proofs.Common.{◌≡◌, ℕ, ◌<◌, inl, inr, List, length, map, Option, Some, None, refl, ap, sym, ◌∙◌, subst, arith}
use Rattle.std.specs.Prelude.{option_map, slice_get}
use Rattle.std.proofs.lemmas.Bool.{cases_lt}
use Rattle.std.proofs.lemmas.List.{get_or_past}
use Rattle.std.proofs.lemmas.Option.{same_Some, none-some}
use Rattle.cache_spec.specs.declared.start.Start.{Start}
use Rattle.cache_spec.specs.Geometry.{Geometry, block_of, set_of}
use Rattle.cache_spec.specs.Blocks.{block_in, AreBlocks}
use Rattle.path_model.specs.declared.graph.Node.{Node}
use Rattle.path_model.specs.Graph.{IsGraph, address_of, addresses_of}
use Rattle.focus_spec.specs.Younger.{named, fetch_at}
use Rattle.set_list.specs.RisingSets.{same_from_subsets}
use Rattle.set_view.specs.View.{View, IsView}
use Rattle.set_view.specs.Places.{local_at}
use Rattle.set_view.proofs.Locals.{view-made}
use Rattle.age_spec.specs.Settled.{HasUnclear}
use Rattle.age_spec.specs.Jobs.{IsJob}
use Rattle.age_spec.proofs.Kept.{named-apart, block_in-some}

-- a view, by its parts
abbrev pub view_by : List Node → Geometry → ℕ → List ℕ → List (Option ℕ) → View
view_by nodes g set blocks fetches =
    record { nodes = nodes; geometry = g; set = set; blocks = blocks; fetches = fetches }

-- a job, with the parts of its view
pub record IsJobBy (nodes : List Node) (g : Geometry) (start : Start) (block : ℕ) : Type 0 where
  pub blocks : List ℕ
  pub fetches : List (Option ℕ)
  pub is_view : IsView (view_by nodes g (set_of g block) blocks fetches)
  pub local : ℕ
  pub block_is : slice_get blocks local ≡ Some block
  pub unclear : HasUnclear (view_by nodes g (set_of g block) blocks fetches) start local

-- what holds of a view holds of one with the same parts
pub moved : (P : View → Type 0) (view : View) (nodes : List Node) (g : Geometry) (set : ℕ) (blocks : List ℕ)
    → view.nodes ≡ nodes → view.geometry ≡ g → view.set ≡ set → view.blocks ≡ blocks → P view
    → P (view_by nodes g set blocks view.fetches)
moved P view nodes g set blocks nodes_are geometry_is set_is blocks_are holds =
    let there : P (view_by nodes view.geometry view.set view.blocks view.fetches) =
    subst (λ (x : List Node). P (view_by x view.geometry view.set view.blocks view.fetches)) nodes_are holds in
    let shaped : P (view_by nodes g view.set view.blocks view.fetches) =
    subst (λ (x : Geometry). P (view_by nodes x view.set view.blocks view.fetches)) geometry_is there in
    let of_set : P (view_by nodes g set view.blocks view.fetches) =
    subst (λ (x : ℕ). P (view_by nodes g x view.blocks view.fetches)) set_is shaped in
    subst (λ (x : List ℕ). P (view_by nodes g set x view.fetches)) blocks_are of_set

-- each job is one
pub parts : (nodes : List Node) (g : Geometry) (start : Start) (block : ℕ) → IsJob nodes g start block
    → IsJobBy nodes g start block
parts nodes g start block job =
    let both = moved (λ (view : View). IsView view × HasUnclear view start job.local) job.view nodes g (set_of g block)
    job.view.blocks job.nodes_are job.geometry_is job.set_is refl (job.is_view, job.unclear) in
    record {
      blocks = job.view.blocks;
      fetches = job.view.fetches;
      is_view = both.0;
      local = job.local;
      block_is = job.block_is;
      unclear = both.1;
    }

-- and back
pub joined : (nodes : List Node) (g : Geometry) (start : Start) (block : ℕ) → IsJobBy nodes g start block
    → IsJob nodes g start block
joined nodes g start block job = record {
  view = view_by nodes g (set_of g block) job.blocks job.fetches;
  is_view = job.is_view;
  nodes_are = refl;
  geometry_is = refl;
  set_is = refl;
  local = job.local;
  block_is = job.block_is;
  unclear = job.unclear;
}

-- what other nodes fetch of these blocks
abbrev pub fetches_by : List Node → Geometry → ℕ → List ℕ → List (Option ℕ)
fetches_by others g set blocks = map (local_at blocks g set) others

-- the view over another graph that fetches the same blocks
pub view_over : (nodes : List Node) (g : Geometry) (set : ℕ) (blocks : List ℕ) (fetches : List (Option ℕ))
    (others : List Node) → IsView (view_by nodes g set blocks fetches) → IsGraph others
    → AreBlocks (addresses_of others) g set blocks
    → IsView (view_by others g set blocks (fetches_by others g set blocks))
view_over nodes g set blocks fetches others is graph same =
    view-made others g set blocks (fetches_by others g set blocks) graph is.some_ways is.few_ways same is.few refl

-- a node that fetches of the set is one of the graph
pub fetch_inside : (view : View) → IsView view → (n local : ℕ) → fetch_at view.fetches n ≡ Some local
    → n < length view.nodes
fetch_inside view is n local fetches = elim (cases_lt n (length view.nodes)) [
  | inl inside ↦ inside
  | inr past ↦
      let none : fetch_at view.fetches n ≡ None = get_or_past view.fetches n None (omega (arith, past, is.one_each)) in
      absurd (none-some local (sym none ∙ fetches))
]

-- and its address lies in the set
pub fetch_set : (view : View) → IsView view → (n local : ℕ) → fetch_at view.fetches n ≡ Some local
    → set_of view.geometry (block_of view.geometry (address_of view.nodes n)) ≡ view.set
fetch_set view is n local fetches =
    (block_in-some view.geometry view.set (address_of view.nodes n) (named view.blocks local)
    (sym (is.fetches n (fetch_inside view is n local fetches)) ∙ ap (option_map (named view.blocks)) fetches)).0

-- local numbers of one block are the same
same_local : (view : View) → IsView view → (one two : Option ℕ)
    → ((a : ℕ) → one ≡ Some a → a < length view.blocks) → ((a : ℕ) → two ≡ Some a → a < length view.blocks)
    → option_map (named view.blocks) one ≡ option_map (named view.blocks) two → one ≡ two
same_local view is None None one_within two_within same = refl
same_local view is None (Some b) one_within two_within same = absurd (cc)
same_local view is (Some a) None one_within two_within same = absurd (cc)
same_local view is (Some a) (Some b) one_within two_within same =
    ap Some (named-apart view is a b (one_within a refl) (two_within b refl)
    (same_Some (named view.blocks a) (named view.blocks b) same))

-- so nodes of both graphs that fetch the same block have the same local number
pub same_fetch : (nodes others : List Node) (g : Geometry) (set : ℕ) (blocks : List ℕ)
    (fetches other_fetches : List (Option ℕ)) → IsView (view_by nodes g set blocks fetches)
    → IsView (view_by others g set blocks other_fetches) → (n p : ℕ) → n < length nodes → p < length others
    → block_in g set (address_of others p) ≡ block_in g set (address_of nodes n)
    → fetch_at other_fetches p ≡ fetch_at fetches n
same_fetch nodes others g set blocks fetches other_fetches is are n p inside p_inside same =
    same_local (view_by nodes g set blocks fetches) is (fetch_at other_fetches p) (fetch_at fetches n)
    (λ a there. are.within p a there) (λ a there. is.within n a there)
    (are.fetches p p_inside ∙ (same ∙ sym (is.fetches n inside)))

-- a view has the blocks that the nodes of its graph fetch of its set
pub same_over : (other one : View) (others : List Node) → IsView other → other.nodes ≡ others
    → other.geometry ≡ one.geometry → other.set ≡ one.set
    → AreBlocks (addresses_of others) one.geometry one.set one.blocks → other.blocks ≡ one.blocks
same_over other one others is others_are geometry_same set_same are =
    let own = moved IsView other others one.geometry one.set other.blocks others_are geometry_same set_same refl is in
    same_from_subsets other.blocks one.blocks own.blocks.rising are.rising
    (λ block has. (are.members block).1 ((own.blocks.members block).0 has))
    (λ block has. (own.blocks.members block).1 ((are.members block).0 has))
