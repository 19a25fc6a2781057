-- A list of frames and one frame more.
use Rattle.std.proofs.Common.{◌≡◌, Bool, List, [], ◌∷◌, ◌++◌, refl, sym, ap, ◌∙◌}
use Rattle.std.proofs.Math.Bool.{or-false, or_assoc}
use Rattle.std.specs.List.{list_any}
use Rattle.std.specs.Prelude.{◌||◌, Some}
use Rattle.flow_spec.specs.declared.frame.Frame.{Frame}
use Rattle.flow_spec.specs.Successors.{newest, older}

-- the last frame is the newest
pub newest_push : (frames : List Frame) (frame : Frame) → newest (frames ++ frame ∷ []) ≡ Some frame
newest_push [] frame = refl
newest_push (first ∷ []) frame = refl
newest_push (first ∷ second ∷ frames) frame = newest_push (second ∷ frames) frame

-- without the newest the others stay
pub older_push : (frames : List Frame) (frame : Frame) → older (frames ++ frame ∷ []) ≡ frames
older_push [] frame = refl
older_push (first ∷ []) frame = refl
older_push (first ∷ second ∷ frames) frame = rw (older_push (second ∷ frames) frame)

-- a test holds of some frame: of an older one, or of the newest
pub any_push : (test : Frame → Bool) (frames : List Frame) (frame : Frame)
    → list_any test (frames ++ frame ∷ []) ≡ (list_any test frames || test frame)
any_push test [] frame = or-false (test frame)
any_push test (first ∷ frames) frame =
    ap (λ b. test first || b) (any_push test frames frame)
    ∙ sym (or_assoc (test first) (list_any test frames) (test frame))
