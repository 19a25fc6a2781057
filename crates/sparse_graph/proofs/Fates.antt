-- What paths that have fetched the same can do at their ends.
use Rattle.std.proofs.Common.{◌≡◌, ◌==◌, ℕ, Bool, true, false, cond, not, List, [], ◌∷◌, map, Option, Some, None, refl, ap, sym, ◌∙◌, subst, arith}
use Rattle.std.specs.Prelude.{slice_get}
use Rattle.std.specs.List.{filter_map, cons_option}
use Rattle.std.proofs.lemmas.Bool.Decides.{nat_tests}
use Rattle.std.proofs.lemmas.Option.{same_Some}
use Rattle.list_lemmas.proofs.Members.{found-inside}
use Rattle.transition_spec.specs.Path.{IsPath}
use Rattle.cache_spec.specs.declared.start.Start.{Start}
use Rattle.cache_spec.specs.Geometry.{Geometry, block_of, set_of}
use Rattle.cache_spec.specs.Lru.{touch, is_in}
use Rattle.cache_spec.specs.Contents.{contents}
use Rattle.cache_spec.specs.Blocks.{block_in}
use Rattle.cache_spec.specs.Start.{CanEnd}
use Rattle.path_model.specs.declared.graph.Node.{Node}
use Rattle.path_model.specs.Graph.{graph_step, address, address_of}
use Rattle.focus_spec.specs.Younger.{after, after_all}
use Rattle.focus_spec.specs.Fate.{AllEnd, PathCanEnd}
use Rattle.sparse_graph.specs.Plan.{lead_of}
use Rattle.sparse_graph.specs.Sparse.{Sparse, IsSparse, FetchAlike, KeepsSet}
use Rattle.sparse_graph.specs.Expand.{AreAlike, IsExpanded}
use Rattle.sparse_graph.proofs.Edges.{small_node}
use Rattle.sparse_graph.proofs.Paths.{path_down, path_up}

-- what a set keeps after these blocks of it, the last of them first
touched : ℕ → List ℕ → List ℕ → List ℕ
touched ways held [] = held
touched ways held (block ∷ earlier) = touch ways (touched ways held earlier) block

-- one fetch more
one_touched : (ways block : ℕ) (held : List ℕ) (same : Bool) (blocks : List ℕ)
    → cond same (touch ways (touched ways held blocks) block) (touched ways held blocks)
    ≡ touched ways held (cons_option (cond same (Some block) None) blocks)
unfolding touched
one_touched ways block held true blocks = refl
one_touched ways block held false blocks = refl

-- the contents of a set hang on the fetched blocks of it alone
contents-touched : (g : Geometry) (set : ℕ) (held : List ℕ) (f : ℕ → ℕ) (members : List ℕ)
    → contents g set held (map f members) ≡ touched g.ways held (filter_map (λ n. block_in g set (f n)) members)
unfolding touched
contents-touched g set held f [] = refl
contents-touched g set held f (n ∷ members) =
    let block : ℕ = block_of g (f n) in
    let same : Bool = set_of g block == set in
    ap (λ (kept : List ℕ). cond same (touch g.ways kept block) kept) (contents-touched g set held f members)
    ∙ one_touched g.ways block held same (filter_map (λ k. block_in g set (f k)) members)

-- the warm set after these fetches of the set, the last of them first
warmed : ℕ → Option (List ℕ) → List ℕ → Option (List ℕ)
warmed block first [] = first
warmed block first (fetch ∷ earlier) = after block (Some fetch) (warmed block first earlier)

-- one fetch more
one_warmed : (block : ℕ) (first : Option (List ℕ)) (fetch : Option ℕ) (seen : List ℕ)
    → after block fetch (warmed block first seen) ≡ warmed block first (cons_option fetch seen)
unfolding warmed
one_warmed block first None seen = refl
one_warmed block first (Some x) seen = refl

-- a warm set hangs on the fetches of the set alone
after_all-warmed : (block : ℕ) (first : Option (List ℕ)) (fetch : ℕ → Option ℕ) (members : List ℕ)
    → after_all block (map fetch members) first ≡ warmed block first (filter_map fetch members)
unfolding warmed
after_all-warmed block first fetch [] = refl
after_all-warmed block first fetch (n ∷ members) =
    ap (after block (fetch n)) (after_all-warmed block first fetch members)
    ∙ one_warmed block first (fetch n) (filter_map fetch members)

-- so the same fetches leave the same warm set
pub same_after : (block : ℕ) (first : Option (List ℕ)) (one two : ℕ → Option ℕ) (members others : List ℕ)
    → filter_map one members ≡ filter_map two others
    → after_all block (map one members) first ≡ after_all block (map two others) first
same_after block first one two members others same =
    after_all-warmed block first one members
    ∙ (ap (warmed block first) same ∙ sym (after_all-warmed block first two others))

-- an address of another set is in no block of this one
not_in : (g : Geometry) (set at : ℕ) → (set_of g (block_of g at) ≡ set → ⊥) → block_in g set at ≡ None
not_in g set at other = grind (arith, nat_tests)

-- an address after others can do what it can after others yet that leave the same in its set
can_end-by : (g : Geometry) (start : Start) (at : ℕ) (xs ys : List ℕ) (hits : Bool)
    → ((held : List ℕ) → contents g (set_of g (block_of g at)) held xs ≡ contents g (set_of g (block_of g at)) held ys)
    → CanEnd g start (at ∷ xs) hits → CanEnd g start (at ∷ ys) hits
can_end-by g start at xs ys hits same can =
    (can.0, can.1, ap (λ (kept : List ℕ). is_in kept (block_of g at)) (sym (same can.0)) ∙ can.2)

module _ (sparse : Sparse) (is : IsSparse sparse) where
  -- a kept node fetches the same address in both graphs
  pub same_address : (p n : ℕ) → slice_get sparse.kept p ≡ Some n
      → address_of sparse.small p ≡ address_of sparse.nodes n
  same_address p n at =
      let found = found-inside sparse.nodes n (is.plan.own p n at).0 in
      ap address (small_node sparse is p n found.0 at found.1) ∙ sym (ap address found.1)

  module _ (g : Geometry) (set : ℕ) (keeps : KeepsSet sparse g set) where
    -- what the nodes of a graph fetch of the set
    abbrev fetch : List Node → ℕ → Option ℕ
    fetch nodes n = block_in g set (address_of nodes n)

    -- only kept nodes fetch of the set
    pub fetch_alike : FetchAlike sparse (fetch sparse.nodes) (fetch sparse.small)
    fetch_alike = record {
      none = λ n inside not. not_in g set (address_of sparse.nodes n) (λ in_set. not (keeps n inside in_set));
      same = λ p n at. ap (block_in g set) (same_address p n at);
    }

    -- the same contents
    same_contents : (members others : List ℕ)
        → filter_map (fetch sparse.nodes) members ≡ filter_map (fetch sparse.small) others → (held : List ℕ)
        → contents g set held (map (address_of sparse.nodes) members)
        ≡ contents g set held (map (address_of sparse.small) others)
    same_contents members others same held =
        contents-touched g set held (address_of sparse.nodes) members
        ∙ (ap (touched g.ways held) same ∙ sym (contents-touched g set held (address_of sparse.small) others))

  module _ (g : Geometry) (start : Start) (p n : ℕ) (at : slice_get sparse.kept p ≡ Some n)
      (keeps : KeepsSet sparse g (set_of g (block_of g (address_of sparse.nodes n)))) where
    -- the set that the node fetches of
    abbrev own : ℕ
    own = set_of g (block_of g (address_of sparse.nodes n))

    -- members of both graphs fetch the same of it
    abbrev SameFetches : List ℕ → List ℕ → Type 0
    SameFetches earlier others =
        filter_map (fetch g own keeps sparse.nodes) earlier ≡ filter_map (fetch g own keeps sparse.small) others

    -- after the same fetches a path of the sparse graph can do what one of the whole graph can
    end_down : (earlier others : List ℕ) (hits : Bool) → SameFetches earlier others
        → PathCanEnd sparse.nodes g start (n ∷ earlier) hits → PathCanEnd sparse.small g start (p ∷ others) hits
    end_down earlier others hits same can =
        subst (λ (a : ℕ). CanEnd g start (a ∷ map (address_of sparse.small) others) hits) (sym (same_address p n at))
        (can_end-by g start (address_of sparse.nodes n) (map (address_of sparse.nodes) earlier)
        (map (address_of sparse.small) others) hits (same_contents g own keeps earlier others same) can)

    -- and back
    end_up : (earlier others : List ℕ) (hits : Bool) → SameFetches earlier others
        → PathCanEnd sparse.small g start (p ∷ others) hits → PathCanEnd sparse.nodes g start (n ∷ earlier) hits
    end_up earlier others hits same can =
        can_end-by g start (address_of sparse.nodes n) (map (address_of sparse.small) others)
        (map (address_of sparse.nodes) earlier) hits (λ held. sym (same_contents g own keeps earlier others same held))
        (subst (λ (a : ℕ). CanEnd g start (a ∷ map (address_of sparse.small) others) hits) (same_address p n at) can)

    -- all paths to the node do the same as those of the sparse graph
    pub all_down : (hits : Bool) → AllEnd sparse.nodes g start n hits → AllEnd sparse.small g start p hits
    all_down hits all other path can =
        let alike = fetch_alike g own keeps in
        let up = path_up sparse is (fetch g own keeps sparse.nodes) (fetch g own keeps sparse.small) alike p n other at
        path in
        all up.0 up.1 (end_up up.0 other (not hits) up.2 can)

    --
    pub all_up : (hits : Bool) → AllEnd sparse.small g start p hits → AllEnd sparse.nodes g start n hits
    all_up hits all earlier path can =
        let alike = fetch_alike g own keeps in
        let down = path_down sparse is (fetch g own keeps sparse.nodes) (fetch g own keeps sparse.small) alike n earlier
        path in
        let lead : lead_of sparse.leads n ≡ p = (is.plan.own p n at).1 in
        all down.0 (subst (λ (q : ℕ). IsPath (graph_step sparse.small) 0 (q ∷ down.0)) lead down.1)
        (end_down earlier down.0 (not hits) down.2 can)

    -- a path of the whole graph for one of the sparse graph can do what that can
    expanded_end : (earlier others : List ℕ) (hits : Bool) → AreAlike sparse earlier others
        → PathCanEnd sparse.small g start (p ∷ others) hits → PathCanEnd sparse.nodes g start (n ∷ earlier) hits
    expanded_end earlier others hits alike can =
        end_up earlier others hits
        (alike (fetch g own keeps sparse.nodes) (fetch g own keeps sparse.small) (fetch_alike g own keeps)) can

-- a path that is expanded ends in the origin of its last member
pub expanded_ends : (sparse : Sparse) (path whole others : List ℕ) (p n : ℕ) → IsExpanded sparse path whole
    → path ≡ p ∷ others → slice_get sparse.kept p ≡ Some n
    → (earlier : List ℕ) × IsPath (graph_step sparse.nodes) 0 (n ∷ earlier) × (whole ≡ n ∷ earlier)
expanded_ends sparse path whole others p n made is_path at =
    let last : made.last ≡ p = cc (made.path_is, is_path) in
    let node : made.node ≡ n = same_Some made.node n (sym made.ends ∙ (ap (slice_get sparse.kept) last ∙ at)) in (
      made.earlier,
      subst (λ (k : ℕ). IsPath (graph_step sparse.nodes) 0 (k ∷ made.earlier)) node made.is_path,
      made.whole_is ∙ ap (λ (k : ℕ). k ∷ made.earlier) node,
    )

-- and can do what it could
pub expanded_can : (sparse : Sparse) → IsSparse sparse → (g : Geometry) (start : Start)
    (path whole others : List ℕ) (p n : ℕ) (hits : Bool)
    → KeepsSet sparse g (set_of g (block_of g (address_of sparse.nodes n))) → IsExpanded sparse path whole
    → path ≡ p ∷ others → slice_get sparse.kept p ≡ Some n → PathCanEnd sparse.small g start path hits
    → PathCanEnd sparse.nodes g start whole hits
expanded_can sparse is g start path whole others p n hits keeps made is_path at can =
    let last : made.last ≡ p = cc (made.path_is, is_path) in
    let rest : made.others ≡ others = cc (made.path_is, is_path) in
    let node : made.node ≡ n = same_Some made.node n (sym made.ends ∙ (ap (slice_get sparse.kept) last ∙ at)) in
    let ended : whole ≡ n ∷ made.earlier = made.whole_is ∙ ap (λ (k : ℕ). k ∷ made.earlier) node in
    let alike : AreAlike sparse made.earlier others =
    subst (λ (xs : List ℕ). AreAlike sparse made.earlier xs) rest made.alike in
    subst (λ (xs : List ℕ). PathCanEnd sparse.nodes g start xs hits) (sym ended)
    (expanded_end sparse is g start p n at keeps made.earlier others hits alike
    (subst (λ (xs : List ℕ). PathCanEnd sparse.small g start xs hits) is_path can))
