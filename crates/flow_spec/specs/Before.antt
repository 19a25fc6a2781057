-- Which of two configurations comes first, by their addresses, their open calls and their parts. This project's own
-- order.
use Rattle.std.specs.Prelude.{◌≡◌, ◌⊎◌, ◌<◌, List, ◌∷◌, ◌++◌}
use Rattle.riscv_spec.specs.declared.kind.Link.{Link}
use Rattle.riscv_spec.specs.declared.kind.Link.TheVariants.{X1, X5}
use Rattle.flow_spec.specs.declared.frame.Frame.{Frame}
use Rattle.flow_spec.specs.Configuration.{Configuration}

-- x1 comes before x5
abbrev pub IsLinkBefore : Link → Link → Type 0
IsLinkBefore link other = (link ≡ X1) × (other ≡ X5)

-- by return address, then by link, then by callee
abbrev pub IsFrameBefore : Frame → Frame → Type 0
IsFrameBefore frame other =
    (frame.back < other.back)
    ⊎ ((frame.back ≡ other.back)
    × (IsLinkBefore frame.link other.link ⊎ ((frame.link ≡ other.link) × (frame.callee < other.callee))))

-- the second list has all frames of the first, and more after them
abbrev pub IsProperPrefix : List Frame → List Frame → Type 0
IsProperPrefix frames others = (next : Frame) × (more : List Frame) × (others ≡ frames ++ next ∷ more)

-- after the same frames, the first list has a frame that comes before the second list's
pub record PartsBefore (frames others : List Frame) : Type 0 where
  pub common : List Frame
  pub frame : Frame
  pub other : Frame
  pub newer : List Frame
  pub newer_others : List Frame
  pub first_is : frames ≡ common ++ frame ∷ newer
  pub second_is : others ≡ common ++ other ∷ newer_others
  pub before : IsFrameBefore frame other

-- the shorter of two lists comes first where it is a prefix, else the oldest frames that differ decide
abbrev pub AreFramesBefore : List Frame → List Frame → Type 0
AreFramesBefore frames others = IsProperPrefix frames others ⊎ PartsBefore frames others

-- by address, then by the open calls, then by part
abbrev pub IsBefore : Configuration → Configuration → Type 0
IsBefore c d =
    (c.at < d.at)
    ⊎ ((c.at ≡ d.at)
    × (AreFramesBefore c.frames d.frames ⊎ ((c.frames ≡ d.frames) × (c.part < d.part))))
