-- The first fault of tests that are made in groups.
use Rattle.std.proofs.Common.{◌≡◌, ℕ, Option, Some, None, List, [], ◌∷◌, ◌++◌, refl, sym}
use Rattle.std.specs.Prelude.{option_map}
use Rattle.std.proofs.lemmas.Option.{none-some}
use Rattle.elf_spec.specs.declared.fault.ElfFault.{ElfFault}
use Rattle.elf_spec.specs.Image.{first_fault}

-- a group that passes leaves the answer to the later ones
pub passed : (tests later : List (Option ElfFault)) → first_fault tests ≡ None
    → first_fault (tests ++ later) ≡ first_fault later
passed [] later none = refl
passed (None ∷ tests) later none = passed tests later none
passed (Some fault ∷ tests) later none = absurd (none-some fault (sym none))

-- the answer of a group that fails is the whole answer
pub failed : (tests later : List (Option ElfFault)) (fault : ElfFault) → first_fault tests ≡ Some fault
    → first_fault (tests ++ later) ≡ Some fault
failed [] later fault some = absurd (none-some fault some)
failed (None ∷ tests) later fault some = failed tests later fault some
failed (Some first ∷ tests) later fault some = some

-- each test of a group that passes passes
pub parts : (test : Option ElfFault) (later : List (Option ElfFault)) → first_fault (test ∷ later) ≡ None
    → (test ≡ None) × (first_fault later ≡ None)
parts None later none = (refl, none)
parts (Some fault) later none = absurd (none-some fault (sym none))

-- there is no fault where no index is found
pub map-None : (f : ℕ → ElfFault) (index : Option ℕ) → option_map f index ≡ None → index ≡ None
map-None f None none = refl
map-None f (Some index) none = absurd (none-some (f index) (sym none))
