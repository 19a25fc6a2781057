-- A block that is fetched twice in a row.
use Rattle.std.proofs.Common.{◌≡◌, ◌==◌, ℕ, zero, suc, ◌≤◌, Bool, true, false, not, cond, List, [], ◌∷◌, take, refl, ap, ◌∙◌, arith}
use Rattle.std.specs.Prelude.{filter}
use Rattle.std.proofs.lemmas.Bool.Decides.{nat_tests}
use Rattle.cache_spec.specs.Geometry.{Geometry, block_of, set_of}
use Rattle.cache_spec.specs.Lru.{touch, is_in}
use Rattle.cache_spec.specs.Contents.{contents}

-- one element more, which passes or doesn't
kept_by : (p : ℕ → Bool) (room x : ℕ) (xs : List ℕ) (test : Bool) → p x ≡ test
    → ((v : ℕ) → filter p (take v (filter p xs)) ≡ take v (filter p xs))
    → filter p (take (suc room) (cond test (x ∷ filter p xs) (filter p xs)))
    ≡ take (suc room) (cond test (x ∷ filter p xs) (filter p xs))
kept_by p room x xs false test rest = rest (suc room)
kept_by p room x xs true test rest =
    ap (λ (b : Bool). cond b (x ∷ filter p (take room (filter p xs))) (filter p (take room (filter p xs)))) test
    ∙ ap (λ (ys : List ℕ). x ∷ ys) (rest room)

-- the first ones of those that pass all pass
kept_again : (p : ℕ → Bool) (xs : List ℕ) (room : ℕ) → filter p (take room (filter p xs)) ≡ take room (filter p xs)
kept_again p [] zero = refl
kept_again p [] (suc room) = refl
kept_again p (x ∷ xs) zero = refl
kept_again p (x ∷ xs) (suc room) = kept_by p room x xs (p x) refl (kept_again p xs)

-- a list that was cut isn't cut again
cut_again : (xs : List ℕ) (room : ℕ) → take room (take room xs) ≡ take room xs
cut_again [] zero = refl
cut_again [] (suc room) = refl
cut_again (x ∷ xs) zero = refl
cut_again (x ∷ xs) (suc room) = ap (λ (ys : List ℕ). x ∷ ys) (cut_again xs room)

-- a block is no other than itself
not_other : (b : ℕ) → not (b == b) ≡ false
not_other b = grind (arith, nat_tests)

same_block : (b : ℕ) → (b == b) ≡ true
same_block b = grind (arith, nat_tests)

-- a second fetch leaves a set as the first one did
touch_again : (ways b : ℕ) (blocks : List ℕ) → 1 ≤ ways → touch ways (touch ways blocks b) b ≡ touch ways blocks b
touch_again zero b blocks some = absurd (omega (arith, some))
touch_again (suc room) b blocks some =
    let others : ℕ → Bool = λ other. not (other == b) in
    let rest : List ℕ = take room (filter others blocks) in
    let out : filter others (b ∷ rest) ≡ filter others rest =
    ap (λ (t : Bool). cond t (b ∷ filter others rest) (filter others rest)) (not_other b) in
    ap (λ (ys : List ℕ). b ∷ take room ys) (out ∙ kept_again others blocks room)
    ∙ ap (λ (ys : List ℕ). b ∷ ys) (cut_again (filter others blocks) room)

-- what was fetched last is there
touched : (ways b : ℕ) (blocks : List ℕ) → 1 ≤ ways → is_in (touch ways blocks b) b ≡ true
touched zero b blocks some = absurd (omega (arith, some))
touched (suc room) b blocks some = grind (arith, nat_tests, same_block b)

after_again : (ways block : ℕ) (kept : List ℕ) (own : Bool) → 1 ≤ ways
    → cond own (touch ways (cond own (touch ways kept block) kept) block) (cond own (touch ways kept block) kept)
    ≡ cond own (touch ways kept block) kept
after_again ways block kept true some = touch_again ways block kept some
after_again ways block kept false some = refl

-- a fetch of the block that was fetched right before changes no set
pub same_again : (g : Geometry) (set : ℕ) (held : List ℕ) (a b : ℕ) (earlier : List ℕ) → 1 ≤ g.ways
    → block_of g a ≡ block_of g b → contents g set held (a ∷ b ∷ earlier) ≡ contents g set held (b ∷ earlier)
same_again g set held a b earlier some same =
    let before : List ℕ = contents g set held (b ∷ earlier) in
    ap (λ (block : ℕ). cond (set_of g block == set) (touch g.ways before block) before) same
    ∙ after_again g.ways (block_of g b) (contents g set held earlier) (set_of g (block_of g b) == set) some

-- and it hits
pub hits_again : (g : Geometry) (held : List ℕ) (a b : ℕ) (earlier : List ℕ) → 1 ≤ g.ways
    → block_of g a ≡ block_of g b → is_in (contents g (set_of g (block_of g a)) held (b ∷ earlier)) (block_of g a) ≡ true
hits_again g held a b earlier some same =
    let block : ℕ = block_of g b in
    let kept : List ℕ = contents g (set_of g block) held earlier in
    ap (λ (k : ℕ). is_in (contents g (set_of g k) held (b ∷ earlier)) k) same
    ∙ (ap (λ (own : Bool). is_in (cond own (touch g.ways kept block) kept) block) (same_block (set_of g block))
    ∙ touched g.ways block kept some)
