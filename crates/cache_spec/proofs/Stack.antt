-- The recency list of a set without its cut.
use Rattle.std.proofs.Common.{◌≡◌, ℕ, zero, suc, Bool, true, false, ◌==◌, if◌then◌else◌, not, List, [], ◌∷◌, ◌++◌, take, map, Option, Some, None, refl, ap, sym, ◌∙◌}
use Rattle.std.proofs.lemmas.List.{take_all}
use Rattle.std.proofs.lemmas.List.Elements.{filter-append}
use Rattle.cache_spec.specs.Contents.{contents}
use Rattle.cache_spec.specs.Geometry.{Geometry, block_of, set_of}
use Rattle.cache_spec.specs.Lru.{touch}
use Rattle.cache_spec.specs.Distinct.{AreDistinct}
use Rattle.cache_spec.specs.Blocks.{block_in}
use Rattle.cache_spec.specs.Start.{MayHold}
use Rattle.cache_spec.proofs.Distinct.{others, fetched-distinct}
use Rattle.cache_spec.proofs.Others.{take-others}

-- all blocks that were held or fetched, each once: the last fetched first, and those that were only held last
abbrev pub stack : List ℕ → List (Option ℕ) → List ℕ
stack held [] = held
stack held (None ∷ earlier) = stack held earlier
stack held (Some block ∷ earlier) = block ∷ others (stack held earlier) block

-- no block stands twice
pub stack-distinct : (held : List ℕ) (fetches : List (Option ℕ)) → AreDistinct held → AreDistinct (stack held fetches)
stack-distinct held [] distinct = distinct
stack-distinct held (None ∷ earlier) distinct = stack-distinct held earlier distinct
stack-distinct held (Some block ∷ earlier) distinct =
    fetched-distinct block (stack held earlier) (stack-distinct held earlier distinct)

-- a fetch makes of the first blocks of a list the first ones after the fetch
touch-take : (ways block : ℕ) (blocks : List ℕ) → AreDistinct blocks
    → touch ways (take ways blocks) block ≡ take ways (block ∷ others blocks block)
touch-take zero block blocks distinct = refl
touch-take (suc n) block blocks distinct = ap (λ s. block ∷ s) (take-others n block blocks distinct)

-- one more fetch, of the set or of another one
contents-more : (here : Bool) (ways block : ℕ) (kept held : List ℕ) (earlier : List (Option ℕ)) → AreDistinct held
    → kept ≡ take ways (stack held earlier)
    → (if here then touch ways kept block else kept)
    ≡ take ways (stack held ((if here then Some block else None) ∷ earlier))
contents-more true ways block kept held earlier distinct same =
    ap (λ s. touch ways s block) same
    ∙ touch-take ways block (stack held earlier) (stack-distinct held earlier distinct)
contents-more false ways block kept held earlier distinct same = same

-- what a set keeps is the list, cut to its ways
pub contents-stack : (g : Geometry) (set : ℕ) (held addresses : List ℕ) → MayHold g set held
    → contents g set held addresses ≡ take g.ways (stack held (map (block_in g set) addresses))
contents-stack g set held [] may = sym (take_all g.ways held may.few)
contents-stack g set held (address ∷ earlier) may =
    let fetches = map (block_in g set) earlier in
    let block = block_of g address in
    contents-more (set_of g block == set) g.ways block (contents g set held earlier) held fetches may.distinct
    (contents-stack g set held earlier may)

-- the blocks that were held and not fetched, in their order
abbrev pub unfetched : List ℕ → List (Option ℕ) → List ℕ
unfetched held [] = held
unfetched held (None ∷ earlier) = unfetched held earlier
unfetched held (Some block ∷ earlier) = others (unfetched held earlier) block

-- after the fetched blocks stand those that were only held
pub stack-held : (held : List ℕ) (fetches : List (Option ℕ))
    → stack held fetches ≡ stack [] fetches ++ unfetched held fetches
stack-held held [] = refl
stack-held held (None ∷ earlier) = stack-held held earlier
stack-held held (Some block ∷ earlier) =
    ap (λ s. block ∷ others s block) (stack-held held earlier)
    ∙ ap (λ s. block ∷ s) (filter-append (λ other. not (other == block)) (stack [] earlier) (unfetched held earlier))
