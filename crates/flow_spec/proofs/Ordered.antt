-- What comes before another configuration is the lesser one, and the order is strict and total.
use Rattle.std.proofs.Common.{◌≡◌, ℕ, ◌<◌, List, [], ◌∷◌, ◌++◌, refl, sym, ap, subst, ◌∙◌, inl, inr}
use Rattle.std.proofs.lemmas.Cmp.{on_total, then_total, nat_cmp_total, nat_list_cmp_total, tied_itself}
use Rattle.std.proofs.lemmas.List.{append-nil}
use Rattle.std.proofs.lemmas.List.Concat.{flat_map-append}
use Rattle.std.specs.Prelude.{◌⊎◌, ◌↔◌, flat_map}
use Rattle.std.specs.Cmp.{IsTotalOrder, nat_cmp_is}
use Rattle.std.specs.Ordering.{nat_cmp, ordering_then, ordering_reverse}
use Rattle.std.specs.declared.cmp.Ordering.{Ordering}
use Rattle.std.specs.declared.cmp.Ordering.TheVariants.{Less, Equal, Greater}
use Rattle.std.specs.Cmp.Lexicographic.{slice_cmp}
use Rattle.riscv_spec.specs.declared.kind.Link.{Link}
use Rattle.flow_spec.specs.declared.frame.Frame.{Frame}
use Rattle.flow_spec.specs.Configuration.{Configuration}
use Rattle.flow_spec.specs.Order.{link_number, frame_numbers, numbers_of, configuration_cmp}
use Rattle.flow_spec.specs.Before.{IsLinkBefore, IsFrameBefore, AreFramesBefore, IsBefore}
use Rattle.flow_spec.proofs.Decided.{before-from_less, same-from_equal}

-- the order of lists of frames by their numbers
abbrev frames_cmp : List Frame → List Frame → Ordering
frames_cmp frames others = slice_cmp nat_cmp (flat_map frame_numbers frames) (flat_map frame_numbers others)

-- a lesser number
number-less : (x y : ℕ) → x < y → nat_cmp x y ≡ Less
number-less x y less = sym (nat_cmp_is x y Less less)

-- the same number
number-same : (x y : ℕ) → x ≡ y → nat_cmp x y ≡ Equal
number-same x y same = sym (nat_cmp_is x y Equal same)

-- a lesser link has the lesser number
link-less : (link other : Link) → IsLinkBefore link other → nat_cmp (link_number link) (link_number other) ≡ Less
link-less link other (first, second) = cc

-- the same link has the same number
link-same : (link other : Link) → link ≡ other → nat_cmp (link_number link) (link_number other) ≡ Equal
link-same link other same = number-same (link_number link) (link_number other) (ap link_number same)

-- the first comparison decides
then-first : (o p : Ordering) → o ≡ Less → ordering_then o p ≡ Less
then-first o p first = ap (λ q. ordering_then q p) first

-- the next one does where the first finds no difference
then-next : (o p : Ordering) → o ≡ Equal → p ≡ Less → ordering_then o p ≡ Less
then-next o p same next = ap (λ q. ordering_then q p) same ∙ next

-- a frame that comes before another decides, whatever comes after it
frame-less : (frame other : Frame) (frames others : List Frame) → IsFrameBefore frame other
    → frames_cmp (frame ∷ frames) (other ∷ others) ≡ Less
frame-less frame other frames others before =
    let back = nat_cmp frame.back other.back in
    let link = nat_cmp (link_number frame.link) (link_number other.link) in
    let callee = nat_cmp frame.callee other.callee in
    let after = frames_cmp frames others in
    let by_callee = ordering_then callee after in
    let by_link = ordering_then link by_callee in
    elim before as (λ _. ordering_then back by_link ≡ Less) [
      | inl less ↦ then-first back by_link (number-less frame.back other.back less)
      | inr (same, inl less) ↦ then-next back by_link (number-same frame.back other.back same)
          (then-first link by_callee (link-less frame.link other.link less))
      | inr (same, inr (also, less)) ↦ then-next back by_link (number-same frame.back other.back same)
          (then-next link by_callee (link-same frame.link other.link also)
          (then-first callee after (number-less frame.callee other.callee less)))
    ]

-- common numbers decide nothing
after-common : (common numbers others : List ℕ)
    → slice_cmp nat_cmp (common ++ numbers) (common ++ others) ≡ slice_cmp nat_cmp numbers others
after-common [] numbers others = refl
after-common (n ∷ common) numbers others =
    ap (λ o. ordering_then o (slice_cmp nat_cmp (common ++ numbers) (common ++ others))) (number-same n n refl)
    ∙ after-common common numbers others

-- common frames decide nothing
frames-after : (common frames others : List Frame)
    → frames_cmp (common ++ frames) (common ++ others) ≡ frames_cmp frames others
frames-after common frames others =
    let numbers = flat_map frame_numbers in
    ap (λ first. slice_cmp nat_cmp first (numbers (common ++ others))) (flat_map-append frame_numbers common frames)
    ∙ ap (slice_cmp nat_cmp (numbers common ++ numbers frames)) (flat_map-append frame_numbers common others)
    ∙ after-common (numbers common) (numbers frames) (numbers others)

-- lists of frames that come before others are less
frames-less : (frames others : List Frame) → AreFramesBefore frames others → frames_cmp frames others ≡ Less
frames-less frames others (inl (next, more, is)) =
    ap (λ (first : List Frame). frames_cmp first others) (sym (append-nil frames))
    ∙ ap (frames_cmp (frames ++ [])) is
    ∙ frames-after frames [] (next ∷ more)
frames-less frames others (inr parts) =
    ap (λ (first : List Frame). frames_cmp first others) parts.first_is
    ∙ ap (frames_cmp (parts.common ++ parts.frame ∷ parts.newer)) parts.second_is
    ∙ frames-after parts.common (parts.frame ∷ parts.newer) (parts.other ∷ parts.newer_others)
    ∙ frame-less parts.frame parts.other parts.newer parts.newer_others parts.before

-- what the first of three comparisons that finds a difference tells
less-by : (c d : Configuration) → (nat_cmp c.at d.at ≡ Less) ⊎ ((nat_cmp c.at d.at ≡ Equal)
    × ((frames_cmp c.frames d.frames ≡ Less)
    ⊎ ((frames_cmp c.frames d.frames ≡ Equal) × (nat_cmp c.part d.part ≡ Less))))
    → configuration_cmp c d ≡ Less
less-by c d (inl at) = cc
less-by c d (inr (at, inl frames)) = cc
less-by c d (inr (at, inr (frames, part))) = cc

-- lists of frames that are the same are compared as equal
frames-same : (frames others : List Frame) → frames ≡ others → frames_cmp frames others ≡ Equal
frames-same frames others same =
    subst (λ o. frames_cmp frames o ≡ Equal) same (tied_itself nat_list_cmp_total (flat_map frame_numbers frames))

-- a configuration that comes before another is less
less-from_before : (c d : Configuration) → IsBefore c d → configuration_cmp c d ≡ Less
less-from_before c d (inl less) = less-by c d (inl (number-less c.at d.at less))
less-from_before c d (inr (same, inl before)) =
    less-by c d (inr (number-same c.at d.at same, inl (frames-less c.frames d.frames before)))
less-from_before c d (inr (same, inr (frames, less))) =
    less-by c d (inr (
      number-same c.at d.at same,
      inr (
        frames-same c.frames d.frames frames,
        number-less c.part d.part less,
      ),
    ))

-- the order is total
pub configurations_total : IsTotalOrder configuration_cmp
configurations_total = then_total (on_total numbers_of nat_list_cmp_total)
    (on_total (λ (c : Configuration). c.part) nat_cmp_total)

-- a configuration is less exactly where it comes before the other
pub less-before : (c d : Configuration) → (configuration_cmp c d ≡ Less) ↔ IsBefore c d
less-before c d = (before-from_less c d, less-from_before c d)

-- configurations are compared as equal exactly where they are the same
pub equal-same : (c d : Configuration) → (configuration_cmp c d ≡ Equal) ↔ (c ≡ d)
equal-same c d = (
  same-from_equal c d,
  λ same. subst (λ e. configuration_cmp c e ≡ Equal) same (tied_itself configurations_total c),
)

-- two orders, each the other turned round
turned : (o : Ordering) → ordering_reverse o ≡ Greater → o ≡ Less
turned Less is = refl
turned Equal is = absurd (cc)
turned Greater is = absurd (cc)

-- a configuration is greater exactly where the other comes before it
pub greater-after : (c d : Configuration) → (configuration_cmp c d ≡ Greater) ↔ IsBefore d c
greater-after c d = (
  λ greater. before-from_less d c (turned (configuration_cmp d c) (sym (configurations_total.antisymm c d) ∙ greater)),
  λ before. configurations_total.antisymm c d ∙ ap ordering_reverse (less-from_before d c before),
)

-- one of two configurations comes first, or they are the same
decided-by : (c d : Configuration) (o : Ordering) → o ≡ configuration_cmp c d → IsBefore c d ⊎ ((c ≡ d) ⊎ IsBefore d c)
decided-by c d Less is = inl (before-from_less c d (sym is))
decided-by c d Equal is = inr (inl (same-from_equal c d (sym is)))
decided-by c d Greater is = inr (inr ((greater-after c d).0 (sym is)))

-- the same of the order itself
pub decided : (c d : Configuration) → IsBefore c d ⊎ ((c ≡ d) ⊎ IsBefore d c)
decided c d = decided-by c d (configuration_cmp c d) refl

-- what comes before a configuration comes before all that it comes before
pub before-trans : (c d e : Configuration) → IsBefore c d → IsBefore d e → IsBefore c e
before-trans c d e first second =
    before-from_less c e (configurations_total.trans c d e (less-from_before c d first) (less-from_before d e second))
