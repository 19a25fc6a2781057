-- The families stay fit: small sets of local numbers, none of which is included in another.
use Rattle.std.proofs.Common.{◌≡◌, ℕ, ◌<◌, true, List, [], ◌∷◌, Option, Some, None, Contains, inl, inr, sym, subst, ◌∙◌, arith}
use Rattle.std.proofs.lemmas.Bool.{lt-ltb}
use Rattle.std.specs.Option.{option_to_list}
use Rattle.cache_spec.specs.declared.start.Start.{Start}
use Rattle.cache_spec.specs.declared.start.Start.TheVariants.{Empty, Any}
use Rattle.set_list.specs.Rising.{Contains-cons}
use Rattle.focus_spec.specs.Younger.{first_warm}
use Rattle.focus_values.specs.Marks.{Setting, is_set}
use Rattle.focus_values.specs.Families.{AreSets, AreHighest, AreLowest, AreFit, sets_in, SameSets, SameMost, IsLeastAfter, IsMostAfter, IsLeastJoined, IsMostJoined}
use Rattle.focus_values.proofs.Small.{with-set}

-- no sets are fit
none_sets : (g : Setting) → AreSets g []
none_sets g s there = absurd (omega (arith, there.1))

-- none of no sets includes another
none_highest : AreHighest []
none_highest s there = absurd (omega (arith, there.1))

-- none of no sets is included in another
pub none_lowest : AreLowest []
none_lowest s there = absurd (omega (arith, there.1))

-- no least sets and absent most sets are fit
pub fit-none : (g : Setting) → AreFit g [] None
fit-none g = record { least_sets = none_sets g; lowest = none_lowest; most_sets = none_sets g; highest = none_highest }

-- a family of one set has that set
pub one_set : (s t : List ℕ) → Contains (t ∷ []) s → s ≡ t
one_set s t there = elim ((Contains-cons t [] s).0 there) [
  | inl none ↦ absurd (omega (arith, none.1))
  | inr same ↦
      same
]

-- a family of one small set is fit
pub fit-one : (g : Setting) (s : List ℕ) → is_set g s ≡ true → AreFit g (s ∷ []) (Some (s ∷ []))
fit-one g s is = record {
  least_sets = λ t there. subst (λ (u : List ℕ). is_set g u ≡ true) (sym (one_set t s there)) is;
  lowest = λ t there u other subset. one_set u s other ∙ sym (one_set t s there);
  most_sets = λ t there. subst (λ (u : List ℕ). is_set g u ≡ true) (sym (one_set t s there)) is;
  highest = λ t there u other subset. one_set u s other ∙ sym (one_set t s there);
}

-- the least sets of some fit families and the most sets of others are fit
pub fit-both : (g : Setting) (least less : List (List ℕ)) (most more : Option (List (List ℕ))) → AreFit g least most
    → AreFit g less more → AreFit g least more
fit-both g least less most more low high = record {
  least_sets = low.least_sets;
  lowest = low.lowest;
  most_sets = high.most_sets;
  highest = high.highest;
}

-- the empty set is small
pub empty_set : (g : Setting) → 0 < g.ways → is_set g [] ≡ true
empty_set g some = lt-ltb 0 g.ways some

-- the families before the first fetch are fit
begun-fit : (g : Setting) (start : Start) → 0 < g.ways → AreFit g (option_to_list (first_warm start)) None
begun-fit g Empty some = fit-none g
begun-fit g Any some = fit-both g ([] ∷ []) [] (Some ([] ∷ [])) None (fit-one g [] (empty_set g some)) (fit-none g)

-- so are those of the setting's start
pub fit-begin : (g : Setting) → 0 < g.ways → AreFit g (option_to_list (first_warm g.start)) None
fit-begin g some = begun-fit g g.start some

-- after a fetch of another block
after_sets : (g : Setting) (other : ℕ) (most more : Option (List (List ℕ))) → other < g.count
    → AreSets g (sets_in most) → IsMostAfter other g.ways most more → AreSets g (sets_in more)
after_sets g other most None below sets is = none_sets g
after_sets g other None (Some new) below sets is = absurd is
after_sets g other (Some many) (Some new) below sets is = λ s there.
    let source = is.comes s there in
    with-set g other source.0 s (sets source.0 source.1) below source.2 (is.small source.0 s source.1 source.2)

-- the most sets after a fetch include no other
after_highest : (g : Setting) (other : ℕ) (most more : Option (List (List ℕ))) → IsMostAfter other g.ways most more
    → AreHighest (sets_in more)
after_highest g other most None is = none_highest
after_highest g other None (Some new) is = absurd is
after_highest g other (Some many) (Some new) is = is.highest

-- so the families after a fetch are fit
pub fit-after : (g : Setting) (other : ℕ) (least less : List (List ℕ)) (most more : Option (List (List ℕ)))
    → other < g.count → AreFit g least most
    → IsLeastAfter other g.ways least less → IsMostAfter other g.ways most more → AreFit g less more
fit-after g other least less most more below fit low high = record {
  least_sets = λ s there. let source = low.comes s there in with-set g other source.0 s
      (fit.least_sets source.0 source.1) below source.2 (low.small s there);
  lowest = low.lowest;
  most_sets = after_sets g other most more below fit.most_sets high;
  highest = after_highest g other most more high;
}

-- where paths meet
joined_sets : (g : Setting) (m1 m2 more : Option (List (List ℕ))) → AreSets g (sets_in m1) → AreSets g (sets_in m2)
    → IsMostJoined m1 m2 more → AreSets g (sets_in more)
joined_sets g m1 m2 None one two is = none_sets g
joined_sets g None m2 (Some new) one two is = absurd (cc)
joined_sets g (Some a) None (Some new) one two is = absurd (cc)
joined_sets g (Some a) (Some b) (Some new) one two is = λ s there.
    elim (is.comes s there) [ inl first ↦ one s first | inr second ↦ two s second ]

-- the most sets where paths meet include no other
joined_highest : (m1 m2 more : Option (List (List ℕ))) → IsMostJoined m1 m2 more → AreHighest (sets_in more)
joined_highest m1 m2 None is = none_highest
joined_highest None m2 (Some new) is = absurd (cc)
joined_highest (Some a) None (Some new) is = absurd (cc)
joined_highest (Some a) (Some b) (Some new) is = is.highest

-- so the families where paths meet are fit
pub fit-joined : (g : Setting) (l1 l2 less : List (List ℕ)) (m1 m2 more : Option (List (List ℕ))) → AreFit g l1 m1
    → AreFit g l2 m2
    → IsLeastJoined l1 l2 less → IsMostJoined m1 m2 more → AreFit g less more
fit-joined g l1 l2 less m1 m2 more one two low high = record {
  least_sets = λ s there. elim (low.comes s there) [
    | inl first ↦ one.least_sets s first
    | inr second ↦ two.least_sets
        s second
  ];
  lowest = low.lowest;
  most_sets = joined_sets g m1 m2 more one.most_sets two.most_sets high;
  highest = joined_highest m1 m2 more high;
}

-- copies
copy_sets : (g : Setting) (most more : Option (List (List ℕ))) → AreSets g (sets_in most) → SameMost most more
    → AreSets g (sets_in more)
copy_sets g most None sets same = none_sets g
copy_sets g None (Some others) sets same = absurd same
copy_sets g (Some many) (Some others) sets same = λ s there. sets s ((same s).0 there)

-- copies of sets that include no other include no other
copy_highest : (most more : Option (List (List ℕ))) → AreHighest (sets_in most) → SameMost most more
    → AreHighest (sets_in more)
copy_highest most None high same = none_highest
copy_highest None (Some others) high same = absurd same
copy_highest (Some many) (Some others) high same = λ s there t other. high s ((same s).0 there) t ((same t).0 other)

-- so copies of fit families are fit
pub fit-copy : (g : Setting) (least less : List (List ℕ)) (most more : Option (List (List ℕ))) → AreFit g least most
    → SameSets least less → SameMost most more → AreFit g less more
fit-copy g least less most more fit low high = record {
  least_sets = λ s there. fit.least_sets s ((low s).0 there);
  lowest = λ s there t other. fit.lowest s ((low s).0 there) t ((low t).0 other);
  most_sets = copy_sets g most more fit.most_sets high;
  highest = copy_highest most more fit.highest high;
}
