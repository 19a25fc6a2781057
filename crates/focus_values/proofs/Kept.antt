-- The families at the start, after a fetch of the block itself or of another set, where paths meet, and copied: they
-- stand for the marks that the framework asks for.
use Rattle.std.proofs.Common.{◌≡◌, ℕ, ◌⊎◌, Bool, true, false, ◌&&◌, ◌||◌, cond, List, [], ◌∷◌, Option, Some, None, inl, inr, refl, sym, ap, ◌∙◌}
use mathlib.Core.Path.{fun_ext}
use Rattle.std.proofs.lemmas.Bool.{and_parts, and_from, or_cases, or_left, or_right, eq-eqb}
use Rattle.std.specs.List.{list_any}
use Rattle.std.specs.Option.{option_to_list}
use Rattle.cache_spec.specs.declared.start.Start.{Start}
use Rattle.cache_spec.specs.declared.start.Start.TheVariants.{Empty, Any}
use Rattle.focus_spec.specs.Younger.{first_warm}
use Rattle.focus_values.specs.Tests.{same_tests}
use Rattle.focus_values.specs.Marks.{Setting, Mark, over, under, lost, is_mark, is_fresh, says, marks_of, other_sources, begins}
use Rattle.focus_values.specs.Families.{AreSets, AreFit, sets_in, SameSets, SameMost, HasUnder, IsLeastJoined, IsMostJoined, AllOver, MostUnder}
use Rattle.focus_values.proofs.Meaning.{Says, marks-true, marks_from}
use Rattle.focus_values.proofs.Moved.{moved_by}

-- before the first fetch
begins_says : (start : Start) (mark : Mark) → says (option_to_list (first_warm start)) None mark ≡ begins start mark
begins_says Empty (over s) = refl
begins_says Any (over s) = refl
begins_says start (under s) = refl
begins_says start lost = refl

-- so the families of the start stand for the start
pub marks-begin : (g : Setting) → marks_of g (option_to_list (first_warm g.start)) None
    ≡ (λ (mark : Mark). is_mark g mark && begins g.start mark)
marks-begin g = fun_ext (λ (mark : Mark). ap (λ (b : Bool). is_mark g mark && b) (begins_says g.start mark))

-- after a fetch of the block itself
fresh_says : (mark : Mark) → says ([] ∷ []) (Some ([] ∷ [])) mark ≡ (is_fresh mark || false)
fresh_says (over s) = refl
fresh_says (under []) = refl
fresh_says (under (x ∷ xs)) = refl
fresh_says lost = refl

-- so the empty set stands for what moves over a fetch of the block itself
pub marks-fresh : (g : Setting) (other : ℕ) (x : Mark → Bool) → other ≡ g.block
    → marks_of g ([] ∷ []) (Some ([] ∷ [])) ≡ moved_by g (Some other) x
marks-fresh g other x same = fun_ext (λ (mark : Mark).
    ap (λ (b : Bool). is_mark g mark && b) (fresh_says mark)
    ∙ ap (λ (b : Bool). is_mark g mark && ((b && is_fresh mark) || list_any x
    (cond b [] (other_sources g other mark)))) (sym (eq-eqb other g.block same)))

-- after a fetch of another set
pub marks-still : (g : Setting) (x : Mark → Bool) → ((mark : Mark) → x mark ≡ true → is_mark g mark ≡ true)
    → x ≡ moved_by g None x
marks-still g x within = fun_ext (λ (mark : Mark). same_tests (x mark) (moved_by g None x mark)
    (λ has. and_from (is_mark g mark) (x mark || false) (within mark has) (or_left (x mark) false has))
    (λ has. elim (or_cases (x mark) false (and_parts (is_mark g mark) (x mark || false) has).1) [
      | inl is ↦ is
      | inr never ↦ absurd (cc)
    ]))

-- families that say the same stand for the same
same_marks : (g : Setting) (least less : List (List ℕ)) (most more : Option (List (List ℕ)))
    → ((mark : Mark) → is_mark g mark ≡ true → Says less more mark → Says least most mark)
    → ((mark : Mark) → is_mark g mark ≡ true → Says least most mark → Says less more mark)
    → marks_of g less more ≡ marks_of g least most
same_marks g least less most more there back = fun_ext
    (λ (mark : Mark). same_tests (marks_of g less more mark) (marks_of g least most mark)
    (λ has. let said = marks-true g less more mark has in marks_from g least most mark said.0
    (there mark said.0 said.1))
    (λ has. let said = marks-true g least most mark has in marks_from g less more mark said.0
    (back mark said.0 said.1)))

-- copies say the same
copy_says : (least less : List (List ℕ)) (most more : Option (List (List ℕ))) → SameSets least less
    → SameMost most more → (mark : Mark) → Says less more mark → Says least most mark
copy_says least less most more low high (over s) said = (said.0, (low said.0).0 said.1, said.2)
copy_says least less None more low high (under s) said = tt
copy_says least less (Some sets) None low high (under s) said = absurd high
copy_says least less (Some sets) (Some others) low high (under s) said = (said.0, (high said.0).0 said.1, said.2)
copy_says least less None more low high lost said = tt
copy_says least less (Some sets) None low high lost said = absurd high
copy_says least less (Some sets) (Some others) low high lost said = absurd said

-- what is the same the other way round
turned : (sets others : List (List ℕ)) → SameSets sets others → SameSets others sets
turned sets others same s = ((same s).1, (same s).0)

-- the same of sets that may be absent
turned_most : (most more : Option (List (List ℕ))) → SameMost most more → SameMost more most
turned_most None None same = tt
turned_most None (Some others) same = same
turned_most (Some sets) None same = same
turned_most (Some sets) (Some others) same = turned sets others same

-- so copies stand for the same
pub marks-copy : (g : Setting) (least less : List (List ℕ)) (most more : Option (List (List ℕ))) → SameSets least less
    → SameMost most more
    → marks_of g less more ≡ marks_of g least most
marks-copy g least less most more low high = same_marks g least less most more
    (λ mark is. copy_says least less most more low high mark)
    (λ mark is. copy_says less least more most (turned least less low) (turned_most most more high) mark)

-- where paths meet each mark of one stands
joined_says : (l1 l2 less : List (List ℕ)) (m1 m2 more : Option (List (List ℕ))) → IsLeastJoined l1 l2 less
    → IsMostJoined m1 m2 more → (mark : Mark)
    → Says less more mark → Says l1 m1 mark ⊎ Says l2 m2 mark
joined_says l1 l2 less m1 m2 more low high (over s) said = elim (low.comes said.0 said.1) [
  | inl one ↦ inl (said.0, one, said.2)
  | inr two ↦ inr (said.0, two, said.2)
]
joined_says l1 l2 less None m2 more low high (under s) said = inl tt
joined_says l1 l2 less (Some a) None more low high (under s) said = inr tt
joined_says l1 l2 less (Some a) (Some b) None low high (under s) said = absurd high
joined_says l1 l2 less (Some a) (Some b) (Some new) low high (under s) said = elim (high.comes said.0 said.1) [
  | inl one ↦ inl (said.0, one, said.2)
  | inr two ↦ inr (said.0, two, said.2)
]
joined_says l1 l2 less None m2 more low high lost said = inl tt
joined_says l1 l2 less (Some a) None more low high lost said = inr tt
joined_says l1 l2 less (Some a) (Some b) None low high lost said = absurd high
joined_says l1 l2 less (Some a) (Some b) (Some new) low high lost said = absurd said

-- and no other
over_joined : (l1 l2 less : List (List ℕ)) → IsLeastJoined l1 l2 less → (s : List ℕ) → HasUnder l1 s ⊎ HasUnder l2 s
    → HasUnder less s
over_joined l1 l2 less low s either = elim either [
  | inl one ↦ let covered = low.covers one.0 (inl one.1) in (covered.0, covered.1, λ x has. one.2 x (covered.2 x has))
  | inr two ↦ let covered = low.covers two.0 (inr two.1) in (covered.0, covered.1, λ x has. two.2 x (covered.2 x has))
]

-- a set that is included in one of either is included in one of both
under_joined : (less l1 l2 : List (List ℕ)) (m1 m2 more : Option (List (List ℕ))) → IsMostJoined m1 m2 more
    → (s : List ℕ) → Says l1 m1 (under s) ⊎ Says l2 m2 (under s) → Says less more (under s)
under_joined less l1 l2 m1 m2 None high s either = tt
under_joined less l1 l2 None m2 (Some new) high s either = absurd (cc)
under_joined less l1 l2 (Some a) None (Some new) high s either = absurd (cc)
under_joined less l1 l2 (Some a) (Some b) (Some new) high s either = elim either [
  | inl one ↦ let covered = high.covers one.0 (inl one.1) in (covered.0, covered.1, λ x has. covered.2 x (one.2 x has))
  | inr two ↦ let covered = high.covers two.0 (inr two.1) in (covered.0, covered.1, λ x has. covered.2 x (two.2 x has))
]

-- where either are absent both are
lost_joined : (less l1 l2 : List (List ℕ)) (m1 m2 more : Option (List (List ℕ))) → IsMostJoined m1 m2 more
    → Says l1 m1 lost ⊎ Says l2 m2 lost → Says less more lost
lost_joined less l1 l2 m1 m2 None high either = tt
lost_joined less l1 l2 None m2 (Some new) high either = absurd (cc)
lost_joined less l1 l2 (Some a) None (Some new) high either = absurd (cc)
lost_joined less l1 l2 (Some a) (Some b) (Some new) high either =
    elim either [ inl one ↦ absurd one | inr two ↦ absurd two ]

-- so each mark of either is one of both
all_joined : (l1 l2 less : List (List ℕ)) (m1 m2 more : Option (List (List ℕ))) → IsLeastJoined l1 l2 less
    → IsMostJoined m1 m2 more → (mark : Mark)
    → Says l1 m1 mark ⊎ Says l2 m2 mark → Says less more mark
all_joined l1 l2 less m1 m2 more low high (over s) either = over_joined l1 l2 less low s either
all_joined l1 l2 less m1 m2 more low high (under s) either = under_joined less l1 l2 m1 m2 more high s either
all_joined l1 l2 less m1 m2 more low high lost either = lost_joined less l1 l2 m1 m2 more high either

-- the families where paths meet stand for the marks of both
pub marks-joined : (g : Setting) (l1 l2 less : List (List ℕ)) (m1 m2 more : Option (List (List ℕ)))
    → IsLeastJoined l1 l2 less → IsMostJoined m1 m2 more
    → marks_of g less more ≡ (λ (mark : Mark). marks_of g l1 m1 mark || marks_of g l2 m2 mark)
marks-joined g l1 l2 less m1 m2 more low high = fun_ext
    (λ (mark : Mark). same_tests (marks_of g less more mark) (marks_of g l1 m1 mark || marks_of g l2 m2 mark)
    (λ has.
    let said = marks-true g less more mark has in
    elim (joined_says l1 l2 less m1 m2 more low high mark said.1) [
      | inl one ↦ or_left (marks_of g l1 m1 mark) (marks_of g l2 m2 mark) (marks_from g l1 m1 mark said.0 one)
      | inr two ↦ or_right (marks_of g l1 m1 mark) (marks_of g l2 m2 mark) (marks_from g l2 m2 mark said.0 two)
    ])
    (λ has. elim (or_cases (marks_of g l1 m1 mark) (marks_of g l2 m2 mark) has) [
      | inl one ↦ let said = marks-true g l1 m1 mark one in marks_from g less more mark said.0
          (all_joined l1 l2 less m1 m2 more low high mark (inl said.1))
      | inr two ↦ let said = marks-true g l2 m2 mark two in marks_from g less more mark said.0
          (all_joined l1 l2 less m1 m2 more low high mark (inr said.1))
    ]))

-- what one family says the other says, where its sets are over and under the other's
within_says : (l1 l2 : List (List ℕ)) (m1 m2 : Option (List (List ℕ))) → AllOver l2 l1 → MostUnder m2 m1
    → (mark : Mark) → Says l2 m2 mark → Says l1 m1 mark
within_says l1 l2 m1 m2 low high (over s) said = let under_one = low said.0 said.1 in
    (under_one.0, under_one.1, λ x has. said.2 x (under_one.2 x has))
within_says l1 l2 None m2 low high (under s) said = tt
within_says l1 l2 (Some a) None low high (under s) said = absurd high
within_says l1 l2 (Some a) (Some b) low high (under s) said = let over_one = high said.0 said.1 in
    (over_one.0, over_one.1, λ x has. over_one.2 x (said.2 x has))
within_says l1 l2 None m2 low high lost said = tt
within_says l1 l2 (Some a) None low high lost said = absurd high
within_says l1 l2 (Some a) (Some b) low high lost said = said

-- then the join with it changes nothing
pub marks-within : (g : Setting) (l1 l2 : List (List ℕ)) (m1 m2 : Option (List (List ℕ))) → AllOver l2 l1
    → MostUnder m2 m1
    → marks_of g l1 m1 ≡ (λ (mark : Mark). marks_of g l1 m1 mark || marks_of g l2 m2 mark)
marks-within g l1 l2 m1 m2 low high = fun_ext
    (λ (mark : Mark). same_tests (marks_of g l1 m1 mark) (marks_of g l1 m1 mark || marks_of g l2 m2 mark)
    (λ has. or_left (marks_of g l1 m1 mark) (marks_of g l2 m2 mark) has)
    (λ has. elim (or_cases (marks_of g l1 m1 mark) (marks_of g l2 m2 mark) has) [
      | inl one ↦ one
      | inr two ↦ let said = marks-true g l2 m2 mark two in marks_from g l1 m1 mark said.0
          (within_says l1 l2 m1 m2 low high mark said.1)
    ]))

-- and only then
below_over : (g : Setting) (l1 l2 : List (List ℕ)) (m1 m2 : Option (List (List ℕ))) → AreSets g l2
    → ((mark : Mark) → marks_of g l2 m2 mark ≡ true → marks_of g l1 m1 mark ≡ true) → AllOver l2 l1
below_over g l1 l2 m1 m2 sets below s there =
    (marks-true g l1 m1 (over s) (below (over s)
    (marks_from g l2 m2 (over s) (sets s there) (s, there, λ x has. has)))).1

-- what stands for no more has its most sets in those of the other
below_under : (g : Setting) (l1 l2 : List (List ℕ)) (m1 m2 : Option (List (List ℕ))) → AreSets g (sets_in m2)
    → ((mark : Mark) → marks_of g l2 m2 mark ≡ true → marks_of g l1 m1 mark ≡ true) → MostUnder m2 m1
below_under g l1 l2 None m2 sets below = tt
below_under g l1 l2 (Some a) None sets below = (marks-true g l1 (Some a) lost (below lost refl)).1
below_under g l1 l2 (Some a) (Some b) sets below = λ s there.
    (marks-true g l1 (Some a) (under s) (below (under s)
    (marks_from g l2 (Some b) (under s) (sets s there) (s, there, λ x has. has)))).1

-- so where the join changes nothing the families lie within the others
pub within_from_marks : (g : Setting) (l1 l2 : List (List ℕ)) (m1 m2 : Option (List (List ℕ))) → AreFit g l2 m2
    → (λ (mark : Mark). marks_of g l1 m1 mark || marks_of g l2 m2 mark) ≡ marks_of g l1 m1
    → AllOver l2 l1 × MostUnder m2 m1
within_from_marks g l1 l2 m1 m2 fit same =
    let below : (mark : Mark) → marks_of g l2 m2 mark ≡ true → marks_of g l1 m1 mark ≡ true = λ mark has.
    sym (ap (λ (x : Mark → Bool). x mark) same) ∙ or_right (marks_of g l1 m1 mark) (marks_of g l2 m2 mark) has in
    (below_over g l1 l2 m1 m2 fit.least_sets below, below_under g l1 l2 m1 m2 fit.most_sets below)
