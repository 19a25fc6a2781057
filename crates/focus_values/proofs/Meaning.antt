-- What the marks of families mean.
use Rattle.std.proofs.Common.{◌≡◌, ℕ, true, List, Option, Some, None, refl}
use Rattle.std.proofs.lemmas.Bool.{and_parts, and_from, false≢true}
use Rattle.focus_values.specs.Tests.{found_from_any, any_from_found}
use Rattle.focus_values.specs.Sets.{is_within}
use Rattle.focus_values.proofs.SetFacts.{is_within-true, is_within_from}
use Rattle.focus_values.specs.Marks.{Setting, Mark, over, under, lost, is_mark, says, marks_of}
use Rattle.focus_values.specs.Families.{HasUnder, HasOver}

-- what families say of a mark
abbrev pub Says : List (List ℕ) → Option (List (List ℕ)) → Mark → Type 0
Says least most (over s) = HasUnder least s
Says least None (under s) = Unit {0}
Says least (Some sets) (under s) = HasOver sets s
Says least None lost = Unit {0}
Says least (Some sets) lost = ⊥

-- the test means what is said
pub says-true : (least : List (List ℕ)) (most : Option (List (List ℕ))) (mark : Mark) → says least most mark ≡ true
    → Says least most mark
says-true least most (over s) passes = let found = found_from_any (λ t. is_within t s) least passes in
    (found.0, found.1, is_within-true found.0 s found.2)
says-true least None (under s) passes = tt
says-true least (Some sets) (under s) passes = let found = found_from_any (λ t. is_within s t) sets passes in
    (found.0, found.1, is_within-true s found.0 found.2)
says-true least None lost passes = tt
says-true least (Some sets) lost passes = false≢true passes

-- and what is said passes the test
pub says_from : (least : List (List ℕ)) (most : Option (List (List ℕ))) (mark : Mark) → Says least most mark
    → says least most mark ≡ true
says_from least most (over s) is = any_from_found (λ t. is_within t s) least is.0 is.1 (is_within_from is.0 s is.2)
says_from least None (under s) is = refl
says_from least (Some sets) (under s) is = any_from_found (λ t. is_within s t) sets is.0 is.1
    (is_within_from s is.0 is.2)
says_from least None lost is = refl
says_from least (Some sets) lost is = absurd is

-- the marks that families stand for
pub marks-true : (g : Setting) (least : List (List ℕ)) (most : Option (List (List ℕ))) (mark : Mark)
    → marks_of g least most mark ≡ true
    → (is_mark g mark ≡ true) × Says least most mark
marks-true g least most mark has =
    let parts = and_parts (is_mark g mark) (says least most mark) has in
    (parts.0, says-true least most mark parts.1)

-- a mark over a small set that the families tell is among those that they stand for
pub marks_from : (g : Setting) (least : List (List ℕ)) (most : Option (List (List ℕ))) (mark : Mark)
    → is_mark g mark ≡ true → Says least most mark
    → marks_of g least most mark ≡ true
marks_from g least most mark is said = and_from (is_mark g mark) (says least most mark) is
    (says_from least most mark said)
