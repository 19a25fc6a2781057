-- What a node makes of the sets before it, as a value of the domain.
use Rattle.std.proofs.Common.{◌≡◌, ℕ, ◌<◌, Bool, List, [], ◌∷◌, Option, Some, None, sym, subst, ap, ◌∙◌}
use Rattle.focus_spec.specs.Younger.{fetch_at}
use Rattle.focus_values.specs.declared.values.YoungerSets.{YoungerSets}
use Rattle.focus_values.specs.Power.{moved}
use Rattle.focus_values.specs.Marks.{Setting, Mark, marking, marks_of}
use Rattle.focus_values.specs.MarkLaws.{marks_within}
use Rattle.focus_values.specs.Families.{AreFit, IsLeastAfter, IsMostAfter}
use Rattle.focus_values.specs.Exact.{IsFit, marks_in, AreFresh, IsCopy}
use Rattle.focus_values.proofs.Moved.{moved_by, marks-after}
use Rattle.focus_values.proofs.Kept.{marks-copy, marks-fresh, marks-still}
use Rattle.focus_values.proofs.Fit.{fit-copy, fit-after, fit-one, empty_set}

-- what a fetch of another block makes
abbrev pub IsAfter : ℕ → ℕ → YoungerSets → YoungerSets → Type 0
IsAfter other ways younger next = IsLeastAfter other ways younger.least next.least × IsMostAfter other ways
    younger.most next.most

module _ (g : Setting) (n : ℕ) (fetch : Option ℕ) (is : fetch ≡ fetch_at g.fetches n) where
  -- what moves by the fetch moves at the node
  at_node : (x : Mark → Bool) → moved_by g fetch x ≡ moved (marking g) n x
  at_node x = ap (λ (f : Option ℕ). moved_by g f x) is

  -- after a fetch of another set
  pub copy_value : (younger copy : YoungerSets) → fetch ≡ None → IsCopy younger copy
      → marks_in g copy ≡ moved (marking g) n (marks_in g younger)
  copy_value younger copy none same =
      marks-copy g younger.least copy.least younger.most copy.most same.0 same.1
      ∙ (marks-still g (marks_in g younger) (marks_within g younger.least younger.most)
      ∙ (ap (λ (f : Option ℕ). moved_by g f (marks_in g younger)) (sym none) ∙ at_node (marks_in g younger)))

  -- after a fetch of the block itself
  pub fresh_value : (younger next : YoungerSets) (other : ℕ) → fetch ≡ Some other → other ≡ g.block → AreFresh next
      → marks_in g next ≡ moved (marking g) n (marks_in g younger)
  fresh_value younger next other some own empty =
      ap (λ (least : List (List ℕ)). marks_of g least next.most) empty.0
      ∙ (ap (marks_of g ([] ∷ [])) empty.1
      ∙ (marks-fresh g other (marks_in g younger) own
      ∙ (ap (λ (f : Option ℕ). moved_by g f (marks_in g younger)) (sym some) ∙ at_node (marks_in g younger))))

  -- after a fetch of another block
  pub after_value : (younger next : YoungerSets) (other ways : ℕ) → fetch ≡ Some other → (other ≡ g.block → ⊥)
      → ways ≡ g.ways → IsFit g younger → IsAfter other ways younger next
      → marks_in g next ≡ moved (marking g) n (marks_in g younger)
  after_value younger next other ways some apart same fit made =
      let exact : IsAfter other g.ways younger next = subst (λ (k : ℕ). IsAfter other k younger next) same made in
      marks-after g other younger.least next.least younger.most next.most apart fit exact.0 exact.1
      ∙ (ap (λ (f : Option ℕ). moved_by g f (marks_in g younger)) (sym some) ∙ at_node (marks_in g younger))

-- each of them is fit
pub copy_fits : (g : Setting) (younger copy : YoungerSets) → IsFit g younger → IsCopy younger copy → IsFit g copy
copy_fits g younger copy fit same = fit-copy g younger.least copy.least younger.most copy.most fit same.0 same.1

-- the empty set alone is fit
pub fresh_fits : (g : Setting) (next : YoungerSets) → 0 < g.ways → AreFresh next → IsFit g next
fresh_fits g next some empty =
    subst (λ (least : List (List ℕ)). AreFit g least next.most) (sym empty.0)
    (subst (AreFit g ([] ∷ [])) (sym empty.1) (fit-one g [] (empty_set g some)))

-- what a fetch of another block makes is fit
pub after_fits : (g : Setting) (younger next : YoungerSets) (other ways : ℕ) → other < g.count → ways ≡ g.ways
    → IsFit g younger → IsAfter other ways younger next → IsFit g next
after_fits g younger next other ways below same fit made =
    let exact : IsAfter other g.ways younger next = subst (λ (k : ℕ). IsAfter other k younger next) same made in
    fit-after g other younger.least next.least younger.most next.most below fit exact.0 exact.1
