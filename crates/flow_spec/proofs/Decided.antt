-- What a comparison by numbers tells of configurations: which one comes first, or that they are the same.
use Rattle.std.proofs.Common.{◌≡◌, ℕ, ◌<◌, List, [], ◌∷◌, ◌++◌, refl, sym, ap, subst, inl, inr}
use Rattle.std.proofs.lemmas.Cmp.{ranked}
use Rattle.std.specs.Prelude.{◌⊎◌, flat_map}
use Rattle.std.specs.Ordering.{nat_cmp, ordering_then, MatchOrdering}
use Rattle.std.specs.declared.cmp.Ordering.{Ordering}
use Rattle.std.specs.declared.cmp.Ordering.TheVariants.{Less, Equal, Greater}
use Rattle.std.specs.Cmp.Lexicographic.{slice_cmp}
use Rattle.riscv_spec.specs.declared.kind.Link.{Link}
use Rattle.riscv_spec.specs.declared.kind.Link.TheVariants.{X1, X5}
use Rattle.flow_spec.specs.declared.frame.Frame.{Frame}
use Rattle.flow_spec.specs.Configuration.{Configuration}
use Rattle.flow_spec.specs.Order.{link_number, frame_numbers, configuration_cmp}
use Rattle.flow_spec.specs.Before.{IsLinkBefore, IsFrameBefore, AreFramesBefore, IsBefore}

-- what Less and Equal tell
abbrev Tells : Ordering → Type 0 → Type 0 → Type 0
Tells o IsLess IsEqual = MatchOrdering o IsLess IsEqual (Unit {0})

-- what two comparisons tell, the second where the first finds no difference
tells-then : (P Q R S : Type 0) (o p : Ordering) → Tells o P Q → Tells p R S
    → Tells (ordering_then o p) (P ⊎ (Q × R)) (Q × S)
tells-then P Q R S Less p first second = inl first
tells-then P Q R S Equal Less first second = inr (first, second)
tells-then P Q R S Equal Equal first second = (first, second)
tells-then P Q R S Equal Greater first second = tt
tells-then P Q R S Greater p first second = tt

-- the same with what follows from it
tells-weaker : {P Q R S : Type 0} (o : Ordering) → (P → R) → (Q → S) → Tells o P Q → Tells o R S
tells-weaker Less less equal is = less is
tells-weaker Equal less equal is = equal is
tells-weaker Greater less equal is = tt

-- what a comparison tells of two numbers
tells-number : (x y : ℕ) (o : Ordering) → MatchOrdering o (x < y) (x ≡ y) (y < x) → Tells o (x < y) (x ≡ y)
tells-number x y Less is = is
tells-number x y Equal is = is
tells-number x y Greater is = tt

-- what the order of numbers tells
numbers-tell : (x y : ℕ) → Tells (nat_cmp x y) (x < y) (x ≡ y)
numbers-tell x y = tells-number x y (nat_cmp x y) (ranked x y (nat_cmp x y) refl)

-- comparisons one after another
then-assoc : (o p q : Ordering) → ordering_then (ordering_then o p) q ≡ ordering_then o (ordering_then p q)
then-assoc Less p q = refl
then-assoc Equal p q = refl
then-assoc Greater p q = refl

-- what the numbers of two links tell
links-tell : (link other : Link)
    → Tells (nat_cmp (link_number link) (link_number other)) (IsLinkBefore link other) (link ≡ other)
links-tell X1 X1 = refl
links-tell X1 X5 = (refl, refl)
links-tell X5 X1 = tt
links-tell X5 X5 = refl

-- a frame by its parts
abbrev frame_by : ℕ → Link → ℕ → Frame
frame_by back link callee = record { back = back; link = link; callee = callee }

-- frames with the same parts are the same
frame-parts : (b c : ℕ) (k l : Link) (s t : ℕ) → b ≡ c → k ≡ l → s ≡ t → frame_by b k s ≡ frame_by c l t
frame-parts b c k l s t back link callee = cc

module _ (frame other : Frame) (Rest : Type 0) where
  -- a frame comes first by one of its parts, or all are the same and the rest decides
  by-parts : (frame.back < other.back) ⊎ ((frame.back ≡ other.back) × (IsLinkBefore frame.link other.link
      ⊎ ((frame.link ≡ other.link) × ((frame.callee < other.callee) ⊎ ((frame.callee ≡ other.callee) × Rest)))))
      → IsFrameBefore frame other ⊎ ((frame ≡ other) × Rest)
  by-parts (inl back) = inl (inl back)
  by-parts (inr (back, inl link)) = inl (inr (back, inl link))
  by-parts (inr (back, inr (link, inl callee))) = inl (inr (back, inr (link, callee)))
  by-parts (inr (back, inr (link, inr (callee, rest)))) =
      inr (frame-parts frame.back other.back frame.link other.link frame.callee other.callee back link callee, rest)

  -- all parts of two frames are the same
  same-parts : (frame.back ≡ other.back) × ((frame.link ≡ other.link) × ((frame.callee ≡ other.callee) × Rest))
      → (frame ≡ other) × Rest
  same-parts (back, (link, (callee, rest))) =
      (frame-parts frame.back other.back frame.link other.link frame.callee other.callee back link callee, rest)

-- what the numbers of two frames tell, with what stands after them
frame-tells : (P Q : Type 0) (frame other : Frame) (numbers others : List ℕ)
    → Tells (slice_cmp nat_cmp numbers others) P Q
    → Tells (slice_cmp nat_cmp (frame_numbers frame ++ numbers) (frame_numbers other ++ others))
    (IsFrameBefore frame other ⊎ ((frame ≡ other) × P)) ((frame ≡ other) × Q)
frame-tells P Q frame other numbers others rest =
    let back = nat_cmp frame.back other.back in
    let link = nat_cmp (link_number frame.link) (link_number other.link) in
    let callee = nat_cmp frame.callee other.callee in
    let after = slice_cmp nat_cmp numbers others in
    tells-weaker (ordering_then back (ordering_then link (ordering_then callee after)))
    (by-parts frame other P) (same-parts frame other Q)
    (tells-then _ _ _ _ back (ordering_then link (ordering_then callee after)) (numbers-tell frame.back other.back)
    (tells-then _ _ _ _ link (ordering_then callee after) (links-tell frame.link other.link)
    (tells-then _ _ _ _ callee after (numbers-tell frame.callee other.callee) rest)))

-- frames that come before others do so after one more frame
before-more : (frame : Frame) (frames others : List Frame) → AreFramesBefore frames others
    → AreFramesBefore (frame ∷ frames) (frame ∷ others)
before-more frame frames others (inl (next, more, is)) = inl (next, more, ap (λ rest. frame ∷ rest) is)
before-more frame frames others (inr parts) = inr record {
  common = frame ∷ parts.common;
  frame = parts.frame;
  other = parts.other;
  newer = parts.newer;
  newer_others = parts.newer_others;
  first_is = ap (λ rest. frame ∷ rest) parts.first_is;
  second_is = ap (λ rest. frame ∷ rest) parts.second_is;
  before = parts.before;
}

-- the first frame comes before the other's, or both are the same and the rest comes before the other's
first-before : (frame other : Frame) (frames others : List Frame)
    → IsFrameBefore frame other ⊎ ((frame ≡ other) × AreFramesBefore frames others)
    → AreFramesBefore (frame ∷ frames) (other ∷ others)
first-before frame other frames others (inl before) = inr record {
  common = [];
  frame = frame;
  other = other;
  newer = frames;
  newer_others = others;
  first_is = refl;
  second_is = refl;
  before = before;
}
first-before frame other frames others (inr (same, before)) =
    subst (λ f. AreFramesBefore (frame ∷ frames) (f ∷ others)) same (before-more frame frames others before)

-- lists with the same first frame and the same others
same-first : (frame other : Frame) (frames others : List Frame) → (frame ≡ other) × (frames ≡ others)
    → frame ∷ frames ≡ other ∷ others
same-first frame other frames others (first, rest) = cc

-- what the numbers of two lists of frames tell
frames-tell : (frames others : List Frame)
    → Tells (slice_cmp nat_cmp (flat_map frame_numbers frames) (flat_map frame_numbers others))
    (AreFramesBefore frames others) (frames ≡ others)
frames-tell [] [] = refl
frames-tell [] (other ∷ others) = inl (other, others, refl)
frames-tell (frame ∷ frames) [] = tt
frames-tell (frame ∷ frames) (other ∷ others) =
    let numbers = flat_map frame_numbers in
    tells-weaker (slice_cmp nat_cmp (numbers (frame ∷ frames)) (numbers (other ∷ others)))
    (first-before frame other frames others) (same-first frame other frames others)
    (frame-tells _ _ frame other (numbers frames) (numbers others) (frames-tell frames others))

-- a configuration by its members
abbrev configuration_by : List Frame → ℕ → ℕ → Configuration
configuration_by frames at part = record { frames = frames; at = at; part = part }

-- configurations with the same members are the same
same-members : (frames others : List Frame) (p q m n : ℕ) → (p ≡ q) × ((frames ≡ others) × (m ≡ n))
    → configuration_by frames p m ≡ configuration_by others q n
same-members frames others p q m n (at, (same, part)) = cc

-- what the order tells of two configurations
configurations-tell : (c d : Configuration) → Tells (configuration_cmp c d) (IsBefore c d) (c ≡ d)
configurations-tell c d =
    let numbers = flat_map frame_numbers in
    let at = nat_cmp c.at d.at in
    let frames = slice_cmp nat_cmp (numbers c.frames) (numbers d.frames) in
    let part = nat_cmp c.part d.part in
    subst (λ o. Tells o (IsBefore c d) (c ≡ d)) (sym (then-assoc at frames part))
    (tells-weaker (ordering_then at (ordering_then frames part)) (λ before. before)
    (same-members c.frames d.frames c.at d.at c.part d.part)
    (tells-then _ _ _ _ at (ordering_then frames part) (numbers-tell c.at d.at)
    (tells-then _ _ _ _ frames part (frames-tell c.frames d.frames) (numbers-tell c.part d.part))))

-- what Less tells
before-by : (c d : Configuration) (o : Ordering) → Tells o (IsBefore c d) (c ≡ d) → o ≡ Less → IsBefore c d
before-by c d Less is less = is
before-by c d Equal is less = absurd (cc)
before-by c d Greater is less = absurd (cc)

-- what Equal tells
same-by : (c d : Configuration) (o : Ordering) → Tells o (IsBefore c d) (c ≡ d) → o ≡ Equal → c ≡ d
same-by c d Less is equal = absurd (cc)
same-by c d Equal is equal = is
same-by c d Greater is equal = absurd (cc)

-- a lesser configuration comes before the other
pub before-from_less : (c d : Configuration) → configuration_cmp c d ≡ Less → IsBefore c d
before-from_less c d = before-by c d (configuration_cmp c d) (configurations-tell c d)

-- configurations that are compared as equal are the same
pub same-from_equal : (c d : Configuration) → configuration_cmp c d ≡ Equal → c ≡ d
same-from_equal c d = same-by c d (configuration_cmp c d) (configurations-tell c d)
