-- The order of configurations: by address, then by their frames from the oldest on, a prefix first, then by part. Frames
-- are compared by return address, then link, then callee.
use Rattle.std.specs.Prelude.{ℕ, List, [], ◌∷◌, flat_map}
use Rattle.std.specs.Ordering.{nat_cmp, ordering_then}
use Rattle.std.specs.declared.cmp.Ordering.{Ordering}
use Rattle.std.specs.Cmp.Lexicographic.{slice_cmp}
use Rattle.riscv_spec.specs.declared.kind.Link.{Link}
use Rattle.riscv_spec.specs.declared.kind.Link.TheVariants.{X1, X5}
use Rattle.flow_spec.specs.declared.frame.Frame.{Frame}
use Rattle.flow_spec.specs.Configuration.{Configuration}

-- the number of the register
abbrev pub link_number : Link → ℕ
link_number X1 = 1
link_number X5 = 5

abbrev pub frame_numbers : Frame → List ℕ
frame_numbers frame = frame.back ∷ link_number frame.link ∷ frame.callee ∷ []

-- the address and the frames of a configuration as numbers, by which it is compared
abbrev pub numbers_of : Configuration → List ℕ
numbers_of c = c.at ∷ flat_map frame_numbers c.frames

abbrev pub configuration_cmp : Configuration → Configuration → Ordering
configuration_cmp c d = ordering_then (slice_cmp nat_cmp (numbers_of c) (numbers_of d)) (nat_cmp c.part d.part)
