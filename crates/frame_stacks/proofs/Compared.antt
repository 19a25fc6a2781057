-- The order of stacks, by their frames from the oldest on.
use Rattle.std.proofs.Common.{◌≡◌, ℕ, ◌*◌, List, [], ◌∷◌, ◌++◌, length, refl, sym, ap, ◌∙◌, arith}
use Rattle.std.proofs.lemmas.List.Concat.{flat_map-append}
use Rattle.std.proofs.lemmas.Cmp.{nat_list_cmp_total, tied_itself}
use Rattle.std.specs.Prelude.{flat_map}
use Rattle.std.specs.Ordering.{nat_cmp, ordering_then}
use Rattle.std.specs.declared.cmp.Ordering.{Ordering}
use Rattle.std.specs.declared.cmp.Ordering.TheVariants.{Less, Equal, Greater}
use Rattle.std.specs.Cmp.Lexicographic.{slice_cmp}
use Rattle.riscv_spec.specs.declared.kind.Link.{Link}
use Rattle.riscv_spec.specs.declared.kind.Link.TheVariants.{X1, X5}
use Rattle.flow_spec.specs.declared.frame.Frame.{Frame}
use Rattle.flow_spec.specs.Order.{frame_numbers, link_number}
use Rattle.frame_stacks.specs.Stacks.{frames_cmp}

-- what decides first, second and third
ordering_then_assoc : (one two three : Ordering)
    → ordering_then (ordering_then one two) three ≡ ordering_then one (ordering_then two three)
ordering_then_assoc Less two three = refl
ordering_then_assoc Equal two three = refl
ordering_then_assoc Greater two three = refl

-- after equally long beginnings the rests decide what the beginnings don't
slice_cmp-append : (xs ys us vs : List ℕ) → length xs ≡ length ys
    → slice_cmp nat_cmp (xs ++ us) (ys ++ vs) ≡ ordering_then (slice_cmp nat_cmp xs ys) (slice_cmp nat_cmp us vs)
slice_cmp-append [] [] us vs same = refl
slice_cmp-append [] (y ∷ ys) us vs same = absurd (omega arith)
slice_cmp-append (x ∷ xs) [] us vs same = absurd (omega arith)
slice_cmp-append (x ∷ xs) (y ∷ ys) us vs same =
    ap (ordering_then (nat_cmp x y)) (slice_cmp-append xs ys us vs (omega arith))
    ∙ sym (ordering_then_assoc (nat_cmp x y) (slice_cmp nat_cmp xs ys) (slice_cmp nat_cmp us vs))

-- a frame has three numbers
length-numbers : (frames : List Frame) → length (flat_map frame_numbers frames) ≡ 3 * length frames
length-numbers [] = refl
length-numbers (frame ∷ frames) = omega (arith, length-numbers frames)

-- after equally many frames, the rests decide what those don't
pub frames_cmp-append : (xs ys us vs : List Frame) → length xs ≡ length ys
    → frames_cmp (xs ++ us) (ys ++ vs) ≡ ordering_then (frames_cmp xs ys) (frames_cmp us vs)
frames_cmp-append xs ys us vs same =
    ap (λ numbers. slice_cmp nat_cmp numbers (flat_map frame_numbers (ys ++ vs))) (flat_map-append frame_numbers xs us)
    ∙ ap (slice_cmp nat_cmp (flat_map frame_numbers xs ++ flat_map frame_numbers us))
    (flat_map-append frame_numbers ys vs)
    ∙ slice_cmp-append (flat_map frame_numbers xs) (flat_map frame_numbers ys) (flat_map frame_numbers us)
    (flat_map frame_numbers vs) (omega (arith, length-numbers xs, length-numbers ys))

-- a list of frames is as great as itself
pub frames_cmp_itself : (frames : List Frame) → frames_cmp frames frames ≡ Equal
frames_cmp_itself frames = tied_itself nat_list_cmp_total (flat_map frame_numbers frames)

-- a link register's number is its own
pub link_from_number : (link other : Link) → link_number link ≡ link_number other → link ≡ other
link_from_number X1 X1 same = refl
link_from_number X5 X5 same = refl
link_from_number X1 X5 same = absurd (omega arith)
link_from_number X5 X1 same = absurd (omega arith)

abbrev frame_with : ℕ → Link → ℕ → Frame
frame_with back link callee = record { back = back; link = link; callee = callee }

-- a frame's numbers are its own
pub frame_from_numbers : (frame other : Frame) → frame_numbers frame ≡ frame_numbers other → frame ≡ other
frame_from_numbers frame other same =
    let back : frame.back ≡ other.back = cc in
    let link : frame.link ≡ other.link = link_from_number frame.link other.link cc in
    let callee : frame.callee ≡ other.callee = cc in
    ap (λ n. frame_with n frame.link frame.callee) back
    ∙ ap (λ l. frame_with other.back l frame.callee) link
    ∙ ap (frame_with other.back other.link) callee
