-- What a set keeps of a path's fetches, one member further.
use Rattle.std.proofs.Common.{◌≡◌, ℕ, ◌+◌, ◌<◌, ◌==◌, if◌then◌else◌, List, length, map, take, reverse, ap, sym, ◌∙◌}
use Rattle.std.proofs.Math.ListN.{get_or}
use Rattle.cache_spec.specs.Geometry.{Geometry, block_of, set_of}
use Rattle.cache_spec.specs.Lru.{touch}
use Rattle.cache_spec.specs.Contents.{contents}
use Rattle.path_model.specs.declared.graph.Node.{Node}
use Rattle.path_model.specs.Graph.{address_of}
use Rattle.path_model.proofs.Turned.{reverse-more}

-- what the set keeps after an address is fetched
abbrev pub after_fetch : Geometry → ℕ → ℕ → ℕ → List ℕ → List ℕ
after_fetch g set address ways blocks =
    if set_of g (block_of g address) == set then touch ways blocks (block_of g address) else blocks

-- one member further
pub kept_more : (g : Geometry) (set : ℕ) (nodes : List Node) (path : List ℕ) (held : List ℕ) (i x address ways : ℕ)
    (old new : List ℕ)
    → i < length path
    → address ≡ address_of nodes (get_or path i x) → ways ≡ g.ways
    → old ≡ contents g set held (map (address_of nodes) (reverse (take i path)))
    → new ≡ after_fetch g set address ways old
    → new ≡ contents g set held (map (address_of nodes) (reverse (take (i + 1) path)))
kept_more g set nodes path held i x address ways old new below address_is ways_is old_is new_is =
    new_is
    ∙ ap (λ a. after_fetch g set a ways old) address_is
    ∙ ap (λ w. after_fetch g set (address_of nodes (get_or path i x)) w old) ways_is
    ∙ ap (λ blocks. after_fetch g set (address_of nodes (get_or path i x)) g.ways blocks) old_is
    ∙ ap (λ xs. contents g set held (map (address_of nodes) xs)) (sym (reverse-more path i x below))
