-- What a fetch makes of the places of blocks.
use Rattle.std.proofs.Common.{◌≡◌, ℕ, zero, suc, ◌+◌, ◌<◌, ◌≤◌, Bool, true, false, not, ◌||◌, ◌==◌, cond, true≢false, List, [], ◌∷◌, length, take, refl, sym, ap, ◌∙◌, subst, inl, inr, arith}
use Rattle.std.proofs.lemmas.Bool.{cases_eq, cases_lt, eq-eqb, ne_eqb, lt-ltb, le-ltb}
use Rattle.std.specs.Prelude.{nat_lt, nat_eq, unwrap_or, Some, None}
use Rattle.std.specs.List.{position_or_len}
use Rattle.cache_spec.specs.Lru.{is_in, touch}
use Rattle.cache_spec.specs.Distinct.{AreDistinct}
use Rattle.cache_spec.proofs.Distinct.{others, others-absent, fetched-distinct, is_in-take}
use Rattle.age_spec.specs.Place.{place}

-- the place of a block among the first k of a list, or k: in this form a cut at k changes nothing
abbrev pub among : ℕ → List ℕ → ℕ → ℕ
among zero blocks block = 0
among (suc k) [] block = suc k
among (suc k) (first ∷ blocks) block = cond (block == first) 0 (suc (among k blocks block))

one-more : (n : ℕ) → 1 + n ≡ suc n
one-more n = omega arith

-- an index in a list, from the index in what follows the first element
index-cons : (same : Bool) (k index len : ℕ)
    → unwrap_or (cond (nat_lt (cond (not same) (1 + index) 0) (suc len)) (Some (cond (not same) (1 + index) 0)) None) (suc k)
    ≡ cond same 0 (suc (unwrap_or (cond (nat_lt index len) (Some index) None) k))
index-cons true k index len =
    ap (λ (b : Bool). unwrap_or (cond b (Some 0) None) (suc k)) (lt-ltb 0 (suc len) (omega arith))
index-cons false k index len =
    let longer : Bool → ℕ = λ b. unwrap_or (cond b (Some (1 + index)) None) (suc k) in
    let shorter : Bool → ℕ = λ b. suc (unwrap_or (cond b (Some index) None) k) in
    elim (cases_lt index len) [
      | inl less ↦
          ap longer (lt-ltb (1 + index) (suc len) (omega (arith, less)))
          ∙ (one-more index ∙ sym (ap shorter (lt-ltb index len less)))
      | inr more ↦ ap longer (le-ltb (1 + index) (suc len) (omega (arith, more))) ∙ sym (ap shorter (le-ltb index len more))
    ]

-- a place in a list without its first block
place-cons : (k first block : ℕ) (blocks : List ℕ)
    → place (suc k) (first ∷ blocks) block ≡ cond (block == first) 0 (suc (place k blocks block))
place-cons k first block blocks =
    index-cons (block == first) k (position_or_len (nat_eq block) blocks) (length blocks)

-- in a list that has room both are the same
pub place-among : (k : ℕ) (blocks : List ℕ) (block : ℕ) → length blocks ≤ k → place k blocks block ≡ among k blocks block
place-among zero [] block few = refl
place-among (suc k) [] block few = refl
place-among zero (first ∷ blocks) block few = absurd (omega (arith, few))
place-among (suc k) (first ∷ blocks) block few =
    place-cons k first block blocks
    ∙ ap (λ (n : ℕ). cond (block == first) 0 (suc n)) (place-among k blocks block (omega (arith, few)))

-- where the block stands first
among-same : (k first block : ℕ) (blocks : List ℕ) → block ≡ first → among (suc k) (first ∷ blocks) block ≡ 0
among-same k first block blocks same = ap (λ (b : Bool). cond b 0 (suc (among k blocks block))) (eq-eqb block first same)

-- where another does
among-other : (k first block : ℕ) (blocks : List ℕ) → (block ≡ first → ⊥)
    → among (suc k) (first ∷ blocks) block ≡ suc (among k blocks block)
among-other k first block blocks apart = ap (λ (b : Bool). cond b 0 (suc (among k blocks block))) (ne_eqb block first apart)

-- no place is above the ways
pub among-few : (k : ℕ) (blocks : List ℕ) (block : ℕ) → among k blocks block ≤ k
among-few zero blocks block = omega arith
among-few (suc k) [] block = omega arith
among-few (suc k) (first ∷ blocks) block = elim (cases_eq block first) [
  | inl same ↦ omega (arith, among-same k first block blocks same)
  | inr apart ↦ omega (arith, among-other k first block blocks apart, among-few k blocks block)
]

-- an empty list keeps no block
pub among-empty : (k block : ℕ) → among k [] block ≡ k
among-empty zero block = refl
among-empty (suc k) block = refl

-- the first k of a list have the places of the list
among-take : (k : ℕ) (blocks : List ℕ) (block : ℕ) → among k (take k blocks) block ≡ among k blocks block
among-take zero blocks block = refl
among-take (suc k) [] block = refl
among-take (suc k) (first ∷ blocks) block =
    ap (λ (n : ℕ). cond (block == first) 0 (suc n)) (among-take k blocks block)

-- two blocks of one place are both not there
pub among-apart : (k : ℕ) (blocks : List ℕ) (a b : ℕ) → (a ≡ b → ⊥) → among k blocks a ≡ among k blocks b
    → among k blocks b ≡ k
among-apart zero blocks a b apart same = refl
among-apart (suc k) [] a b apart same = refl
among-apart (suc k) (first ∷ blocks) a b apart same = elim (cases_eq a first) [
  | inl a_first ↦
      let b_other : (b ≡ first → ⊥) = λ b_first. apart (a_first ∙ sym b_first) in
      absurd (omega (arith, same, among-same k first a blocks a_first, among-other k first b blocks b_other))
  | inr a_other ↦ elim (cases_eq b first) [
    | inl b_first ↦ absurd (omega (arith, same, among-same k first b blocks b_first, among-other k first a blocks a_other))
    | inr b_other ↦
        let a_next = among-other k first a blocks a_other in
        let b_next = among-other k first b blocks b_other in
        let rest : among k blocks a ≡ among k blocks b = omega (arith, same, a_next, b_next) in
        omega (arith, b_next, among-apart k blocks a b apart rest)
  ]
]

-- what becomes of a block's place where another block is fetched: it grows exactly where it was before the other
pub record Moves (fetched before after : ℕ) : Type 0 where
  pub older : before < fetched → after ≡ before + 1
  pub stays : fetched ≤ before → after ≡ before

-- the same of equal numbers
moves-same : (f b c p q r : ℕ) → p ≡ f → q ≡ b → r ≡ c → Moves f b c → Moves p q r
moves-same f b c p q r same_f same_b same_c moves = record {
  older = λ less. omega (arith, same_b, same_c, moves.older (omega (arith, same_f, same_b)));
  stays = λ more. omega (arith, same_b, same_c, moves.stays (omega (arith, same_f, same_b)));
}

-- and where one more block stands before all
moves-suc : (f b c : ℕ) → Moves f b c → Moves (suc f) (suc b) (suc c)
moves-suc f b c moves = record {
  older = λ less. omega (arith, moves.older (omega (arith, less)));
  stays = λ more. omega (arith, moves.stays (omega (arith, more)));
}

-- the others, where the block stands first
others-same : (first a : ℕ) (blocks : List ℕ) → first ≡ a → others (first ∷ blocks) a ≡ others blocks a
others-same first a blocks same =
    ap (λ (b : Bool). cond (not b) (first ∷ others blocks a) (others blocks a)) (eq-eqb first a same)

-- and where another does
others-other : (first a : ℕ) (blocks : List ℕ) → (first ≡ a → ⊥) → others (first ∷ blocks) a ≡ first ∷ others blocks a
others-other first a blocks apart =
    ap (λ (b : Bool). cond (not b) (first ∷ others blocks a) (others blocks a)) (ne_eqb first a apart)

-- what stands first, in however many places
among-first : (k first block : ℕ) (blocks : List ℕ) → block ≡ first → among k (first ∷ blocks) block ≡ 0
among-first zero first block blocks same = refl
among-first (suc k) first block blocks same = among-same k first block blocks same

-- a first block that is neither of two
moves-behind : (k first : ℕ) (blocks : List ℕ) (a b : ℕ) → (a ≡ first → ⊥) → (b ≡ first → ⊥)
    → ((m : ℕ) → Moves (among (suc m) blocks a) (among (suc m) blocks b) (suc (among m (others blocks a) b)))
    → Moves (among (suc k) (first ∷ blocks) a) (among (suc k) (first ∷ blocks) b)
    (suc (among k (first ∷ others blocks a) b))
moves-behind zero first blocks a b a_other b_other each =
    let a_next = among-other zero first a blocks a_other in
    let b_next = among-other zero first b blocks b_other in
    record { older = λ less. absurd (omega (arith, less, a_next, b_next)); stays = λ more. omega (arith, b_next) }
moves-behind (suc k) first blocks a b a_other b_other each =
    moves-same (suc (among (suc k) blocks a)) (suc (among (suc k) blocks b)) (suc (suc (among k (others blocks a) b)))
    (among (suc (suc k)) (first ∷ blocks) a) (among (suc (suc k)) (first ∷ blocks) b)
    (suc (among (suc k) (first ∷ others blocks a) b))
    (among-other (suc k) first a blocks a_other) (among-other (suc k) first b blocks b_other)
    (ap suc (among-other k first b (others blocks a) b_other))
    (moves-suc (among (suc k) blocks a) (among (suc k) blocks b) (suc (among k (others blocks a) b)) (each k))

-- the fetched block is taken out, and one block more stands before the others
moves-others : (k : ℕ) (blocks : List ℕ) (a b : ℕ) → AreDistinct blocks → (a ≡ b → ⊥)
    → Moves (among (suc k) blocks a) (among (suc k) blocks b) (suc (among k (others blocks a) b))
moves-others k [] a b distinct apart = record {
  older = λ less. absurd (omega (arith, less));
  stays = λ more. ap suc (among-empty k b);
}
moves-others k (first ∷ blocks) a b distinct apart = elim (cases_eq first a) [
  | inl a_first ↦
      let b_other : (b ≡ first → ⊥) = λ b_first. apart (sym a_first ∙ sym b_first) in
      let absent : others blocks a ≡ blocks =
      others-absent a blocks (subst (λ (c : ℕ). is_in blocks c ≡ false) a_first distinct.0) in
      moves-same 0 (suc (among k blocks b)) (suc (among k blocks b))
      (among (suc k) (first ∷ blocks) a) (among (suc k) (first ∷ blocks) b) (suc (among k (others (first ∷ blocks) a) b))
      (among-same k first a blocks (sym a_first)) (among-other k first b blocks b_other)
      (ap (λ (l : List ℕ). suc (among k l b)) (others-same first a blocks a_first ∙ absent))
      (record { older = λ less. absurd (omega (arith, less)); stays = λ more. refl })
  | inr a_other ↦
      let taken = others-other first a blocks a_other in
      elim (cases_eq b first) [
        | inl b_first ↦
            moves-same (suc (among k blocks a)) 0 1
            (among (suc k) (first ∷ blocks) a) (among (suc k) (first ∷ blocks) b)
            (suc (among k (others (first ∷ blocks) a) b))
            (among-other k first a blocks (λ same. a_other (sym same))) (among-same k first b blocks b_first)
            (ap (λ (l : List ℕ). suc (among k l b)) taken ∙ ap suc (among-first k first b (others blocks a) b_first))
            (record { older = λ less. refl; stays = λ more. absurd (omega (arith, more)) })
        | inr b_other ↦
            subst (λ (l : List ℕ). Moves (among (suc k) (first ∷ blocks) a) (among (suc k) (first ∷ blocks) b)
            (suc (among k l b))) (sym taken)
            (moves-behind k first blocks a b (λ same. a_other (sym same)) b_other
            (λ m. moves-others m blocks a b distinct.1 apart))
      ]
]

-- what a fetch makes of another block's place
pub among-touch : (k : ℕ) (blocks : List ℕ) (a b : ℕ) → 1 ≤ k → AreDistinct blocks → (a ≡ b → ⊥)
    → Moves (among k blocks a) (among k blocks b) (among k (touch k blocks a) b)
among-touch zero blocks a b some distinct apart = absurd (omega (arith, some))
among-touch (suc k) blocks a b some distinct apart =
    let cut = among-take (suc k) (a ∷ others blocks a) b in
    let next = among-other k a b (others blocks a) (λ same. apart (sym same)) in
    subst (λ (n : ℕ). Moves (among (suc k) blocks a) (among (suc k) blocks b) n) (sym (cut ∙ next))
    (moves-others k blocks a b distinct apart)

-- and of its own
pub among-touched : (k : ℕ) (blocks : List ℕ) (a : ℕ) → among k (touch k blocks a) a ≡ 0
among-touched zero blocks a = refl
among-touched (suc k) blocks a =
    among-take (suc k) (a ∷ others blocks a) a ∙ among-same k a a (others blocks a) refl

-- the first k of distinct blocks are distinct
take-distinct : (k : ℕ) (blocks : List ℕ) → AreDistinct blocks → AreDistinct (take k blocks)
take-distinct zero blocks distinct = tt
take-distinct (suc k) [] distinct = tt
take-distinct (suc k) (first ∷ blocks) distinct =
    (is_in-take k first blocks distinct.0, take-distinct k blocks distinct.1)

-- blocks stay distinct
pub touch-distinct : (k : ℕ) (blocks : List ℕ) (a : ℕ) → AreDistinct blocks → AreDistinct (touch k blocks a)
touch-distinct k blocks a distinct = take-distinct k (a ∷ others blocks a) (fetched-distinct a blocks distinct)

-- a block that is there, in a list that has room, has a place below the ways
pub among-in : (k : ℕ) (blocks : List ℕ) (block : ℕ) → length blocks ≤ k → is_in blocks block ≡ true
    → among k blocks block < k
among-in k [] block few there = absurd (true≢false (sym there))
among-in zero (first ∷ blocks) block few there = absurd (omega (arith, few))
among-in (suc k) (first ∷ blocks) block few there = elim (cases_eq block first) [
  | inl same ↦ omega (arith, among-same k first block blocks same)
  | inr apart ↦
      let rest : is_in blocks block ≡ true =
      sym (ap (λ (b : Bool). b || is_in blocks block) (ne_eqb block first apart)) ∙ there in
      omega (arith, among-other k first block blocks apart, among-in k blocks block (omega (arith, few)) rest)
]

-- a block that isn't there has the ways
pub among-out : (k : ℕ) (blocks : List ℕ) (block : ℕ) → is_in blocks block ≡ false → among k blocks block ≡ k
among-out zero blocks block absent = refl
among-out (suc k) [] block absent = refl
among-out (suc k) (first ∷ blocks) block absent = elim (cases_eq block first) [
  | inl same ↦
      absurd (true≢false (sym (ap (λ (b : Bool). b || is_in blocks block) (eq-eqb block first same)) ∙ absent))
  | inr apart ↦
      let rest : is_in blocks block ≡ false =
      sym (ap (λ (b : Bool). b || is_in blocks block) (ne_eqb block first apart)) ∙ absent in
      omega (arith, among-other k first block blocks apart, among-out k blocks block rest)
]
