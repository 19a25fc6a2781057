-- Segments that have no address in common, put in order, rise.
use Rattle.std.proofs.Common.{◌≡◌, ℕ, ◌<◌, ◌≤◌, zero, suc, ◌⊎◌, inl, inr, List, [], ◌∷◌, length, get_or, All, AllPairs, IsPermutation, refl, ap, ◌∙◌, arith}
use Rattle.std.specs.Prelude.{nat_le}
use Rattle.std.proofs.lemmas.Bool.{cond_both, leb-true, leb-false}
use Rattle.std.proofs.lemmas.List.Sorted.{IsPermutation-refl, IsPermutation-cons, IsPermutation-middle, IsPermutation-trans}
use Rattle.std.proofs.lemmas.List.Elements.{All-nil, All-cons, All-head, All-tail, All-weaker}
use Rattle.elf_spec.specs.declared.segment.Segment.{Segment}
use Rattle.elf_spec.specs.Image.{placed, in_order}
use Rattle.elf_image.specs.Fits.{EndsBefore}

-- one of the two ends at or before the other begins
abbrev pub IsApart : Segment → Segment → Type 0
IsApart s t = EndsBefore s t ⊎ EndsBefore t s

abbrev pub IsFilled : Segment → Type 0
IsFilled s = 0 < s.size

-- each is apart from each other one
abbrev pub AreApart : List Segment → Type 0
AreApart [] = Unit {0}
AreApart (s ∷ later) = All (IsApart s) later × AreApart later

-- each ends at or before each later one begins
abbrev pub Rise : List Segment → Type 0
Rise [] = Unit {0}
Rise (s ∷ later) = All (EndsBefore s) later × Rise later

-- what holds of a segment and of the others holds when it is in its place
placed_all : (P : Segment → Type 0) (s : Segment) (others : List Segment) → P s → All P others → All P (placed s others)
placed_all P s [] here others = All-cons P s [] here others
placed_all P s (next ∷ later) here others =
    cond_both (nat_le s.at next.at) (s ∷ next ∷ later) (next ∷ placed s later) (All P)
    (λ e. All-cons P s (next ∷ later) here others)
    (λ e. All-cons P next (placed s later) (All-head P next later others)
    (placed_all P s later here (All-tail P next later others)))

-- putting in order keeps what holds of each
pub in_order_all : (P : Segment → Type 0) (segments : List Segment) → All P segments → All P (in_order segments)
in_order_all P [] all = all
in_order_all P (s ∷ later) all =
    placed_all P s (in_order later) (All-head P s later all) (in_order_all P later (All-tail P s later all))

-- of two that are apart, the one that begins first ends before the other begins
lower_ends : (s next : Segment) → IsApart s next → IsFilled next → s.at ≤ next.at → EndsBefore s next
lower_ends s next apart filled le = elim apart [ inl before ↦ before | inr beyond ↦ absurd (omega arith) ]

-- and the one that begins later begins after the other
upper_begins : (s next : Segment) → IsApart s next → IsFilled s → next.at < s.at → EndsBefore next s
upper_begins s next apart filled lt = elim apart [ inl before ↦ absurd (omega arith) | inr beyond ↦ beyond ]

-- a segment that is apart from others that rise goes among them
placed_rises : (s : Segment) (others : List Segment) → IsFilled s → All IsFilled others → All (IsApart s) others
    → Rise others
    → Rise (placed s others)
placed_rises s [] filled all apart rise = (All-nil (EndsBefore s), tt)
placed_rises s (next ∷ later) filled all apart rise =
    cond_both (nat_le s.at next.at) (s ∷ next ∷ later) (next ∷ placed s later) Rise
    (λ e.
    let before : EndsBefore s next =
    lower_ends s next (All-head (IsApart s) next later apart) (All-head IsFilled next later all) (leb-true _ _ e) in (
      All-cons (EndsBefore s) next later before (All-weaker (EndsBefore next) (EndsBefore s) (λ t h. omega arith) later
          rise.0),
      rise,
    ))
    (λ e.
    let beyond : EndsBefore next s =
    upper_begins s next (All-head (IsApart s) next later apart) filled (leb-false _ _ e) in (
      placed_all (EndsBefore next) s later beyond rise.0,
      placed_rises s later filled (All-tail IsFilled next later all) (All-tail (IsApart s) next later apart) rise.1,
    ))

-- segments that are apart rise once they are in order
in_order_rises : (segments : List Segment) → All IsFilled segments → AreApart segments → Rise (in_order segments)
in_order_rises [] filled apart = tt
in_order_rises (s ∷ later) filled apart =
    let rest = All-tail IsFilled s later filled in
    placed_rises s (in_order later) (All-head IsFilled s later filled) (in_order_all IsFilled later rest)
    (in_order_all (IsApart s) later apart.0) (in_order_rises later rest apart.1)

-- two segments by index, of which the first may be the head
pair_at : (s : Segment) (later : List Segment) (i j : ℕ) (d : Segment) → All (EndsBefore s) later
    → AllPairs EndsBefore later → i < j
    → j < length (s ∷ later) → EndsBefore (get_or (s ∷ later) i d) (get_or (s ∷ later) j d)
pair_at s later i zero d first pairs lt within = absurd (omega arith)
pair_at s later zero (suc j) d first pairs lt within = first j d (omega arith)
pair_at s later (suc i) (suc j) d first pairs lt within = pairs i j d (omega arith) (omega arith)

-- to rise is said of each two
pairs_from_rise : (segments : List Segment) → Rise segments → AllPairs EndsBefore segments
pairs_from_rise [] rise = λ i j d lt within. absurd (omega arith)
pairs_from_rise (s ∷ later) rise = λ i j d lt within. pair_at s later i j d rise.0 (pairs_from_rise later rise.1) lt
    within

-- segments that are apart, in order: each ends at or before each later one begins
pub in_order_pairs : (segments : List Segment) → All IsFilled segments → AreApart segments
    → AllPairs EndsBefore (in_order segments)
in_order_pairs segments filled apart = pairs_from_rise (in_order segments) (in_order_rises segments filled apart)

-- nothing is lost or doubled by putting in order
length-placed : (s : Segment) (others : List Segment) → length (placed s others) ≡ suc (length others)
length-placed s [] = refl
length-placed s (next ∷ later) =
    cond_both (nat_le s.at next.at) (s ∷ next ∷ later) (next ∷ placed s later)
    (λ l. length l ≡ suc (suc (length later)))
    (λ e. refl) (λ e. ap suc (length-placed s later))

pub length-in_order : (segments : List Segment) → length (in_order segments) ≡ length segments
length-in_order [] = refl
length-in_order (s ∷ later) = length-placed s (in_order later) ∙ ap suc (length-in_order later)

-- only the order changes
placed_moves : (s : Segment) (others : List Segment) → IsPermutation (s ∷ others) (placed s others)
placed_moves s [] = IsPermutation-refl (s ∷ [])
placed_moves s (next ∷ later) =
    cond_both (nat_le s.at next.at) (s ∷ next ∷ later) (next ∷ placed s later) (IsPermutation (s ∷ next ∷ later))
    (λ e. IsPermutation-refl (s ∷ next ∷ later))
    (λ e.
    IsPermutation-trans (s ∷ next ∷ later) (next ∷ s ∷ later) (next ∷ placed s later)
    (IsPermutation-middle (s ∷ []) next later)
    (IsPermutation-cons next (s ∷ later) (placed s later) (placed_moves s later)))

pub in_order_moves : (segments : List Segment) → IsPermutation segments (in_order segments)
in_order_moves [] = IsPermutation-refl []
in_order_moves (s ∷ later) =
    IsPermutation-trans (s ∷ later) (s ∷ in_order later) (in_order (s ∷ later))
    (IsPermutation-cons s later (in_order later) (in_order_moves later))
    (placed_moves s (in_order later))
