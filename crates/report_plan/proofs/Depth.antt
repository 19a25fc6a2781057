-- The newest open call of a configuration.
use Rattle.std.proofs.Common.{◌≡◌, List, [], ◌∷◌, length, Option, Some, IsTrue, refl, sym, subst, arith}
use Rattle.std.specs.Prelude.{option_map}
use Rattle.std.proofs.lemmas.Bool.Decides.{nat_tests}
use Rattle.flow_spec.specs.declared.frame.Frame.{Frame}
use Rattle.flow_spec.specs.Successors.{newest}
use Rattle.report_spec.specs.Valid.{has_back_as_deep}

-- where a call is open, there is a newest one
newest-some : (frame : Frame) (frames : List Frame) → (last : Frame) × (newest (frame ∷ frames) ≡ Some last)
newest-some frame [] = (frame, refl)
newest-some frame (next ∷ frames) = newest-some next frames

-- it has a return address exactly there
pub back-as_deep : (frames : List Frame)
    → IsTrue (has_back_as_deep (length frames) (option_map (λ frame. frame.back) (newest frames)))
back-as_deep [] = refl
back-as_deep (frame ∷ frames) =
    let last = newest-some frame frames in
    let P : Option Frame → Type 0 = λ newest. IsTrue (has_back_as_deep (length (frame ∷ frames))
    (option_map (λ frame. frame.back) newest)) in
    subst P (sym last.1) (grind (arith, nat_tests))
