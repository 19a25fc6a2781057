-- The slots of an LRU set: its blocks, and 0 past them.
use Rattle.std.proofs.Common.{◌≡◌, ℕ, ◌-◌, List, ◌++◌, length, take, replicate, ap, sym, ◌∙◌, arith, length-take-le, take-append-drop}
use Rattle.cache_geom.specs.LruSet.{IsSound}

-- there are as many blocks as len says
pub length-blocks : (slots : List ℕ) (len ways : ℕ) → IsSound slots len ways → length (take len slots) ≡ len
length-blocks slots len ways sound =
    length-take-le len slots (omega (arith, sound.room, sound.within, sound.few_ways))

-- the blocks give the slots back
pub slots_from_blocks : (slots : List ℕ) (len ways : ℕ) → IsSound slots len ways
    → take len slots ++ replicate (16 - length (take len slots)) 0 ≡ slots
slots_from_blocks slots len ways sound =
    ap (λ n. take len slots ++ replicate (16 - n) 0) (length-blocks slots len ways sound)
    ∙ ap (λ rest. take len slots ++ rest) (sym sound.unused)
    ∙ take-append-drop len slots
