-- Families whose marks are those of all paths to a node have exactly the least warm sets there.
use Rattle.std.proofs.Common.{◌≡◌, ℕ, ◌<◌, ◌⊎◌, true, List, ◌∷◌, length, Option, Some, Contains, inl, inr, sym, subst, ap, ◌∙◌, arith}
use Rattle.std.proofs.lemmas.Bool.{false≢true, lt-ltb}
use Rattle.std.specs.Prelude.{IsFalse}
use Rattle.transition_spec.specs.Path.{IsPath}
use Rattle.path_model.specs.declared.graph.Node.{Node}
use Rattle.path_model.specs.Graph.{graph_step}
use Rattle.set_list.specs.SetList.{IsSubset}
use Rattle.set_list.specs.RisingSets.{subset-short, same_from_subsets}
use Rattle.focus_spec.specs.Younger.{first_warm, is_small}
use Rattle.focus_spec.specs.Focus.{younger_after, warm_after, AreLeast}
use Rattle.focus_values.specs.Marks.{Setting, Mark, over, under, lost, is_set, marks_of}
use Rattle.focus_values.specs.Families.{AreFit, HasUnder}
use Rattle.focus_values.proofs.Small.{set-rising, set-few, set_from}
use Rattle.focus_values.proofs.Meaning.{Says, marks-true, marks_from}
use Rattle.focus_values.proofs.Fit.{one_set}
use Rattle.focus_values.proofs.Outcome.{least_one, most_one, IsAlone, small-alone, of_alone, alone_or_lost, marks_two, marks_left, IsLocal, AreLocal, AreWithin, left_of, left_of-local, first-local, only}

-- what a family of one set has
in_alone : (ways : ℕ) (w : Option (List ℕ)) (set t : List ℕ) → IsAlone ways w set → Contains (least_one ways w) t
    → t ≡ set
in_alone ways w set t alone there = one_set t set (subst (λ (sets : List (List ℕ)). Contains sets t) alone.least there)

-- a set that includes the warm set, where that is small, has its mark
one-over : (g : Setting) (y : Option (List ℕ)) (set s : List ℕ) → length set < g.ways → is_set g s ≡ true
    → IsSubset set s → marks_two g (Some set) y (over s) ≡ true
one-over g y set s few is subset =
    marks_from g (least_one g.ways (Some set)) (most_one g.ways y) (over s) is
    (of_alone g.ways (Some set) set (small-alone g.ways set few) (λ least most. HasUnder least s)
    (set, only set, subset))

-- a set with its mark includes the warm set, which is small
over-one : (g : Setting) (w y : Option (List ℕ)) (s : List ℕ) → marks_two g w y (over s) ≡ true
    → (set : List ℕ) × (w ≡ Some set) × (length set < g.ways) × IsSubset set s
over-one g w y s has =
    let said = (marks-true g (least_one g.ways w) (most_one g.ways y) (over s) has).1 in
    elim (alone_or_lost g.ways w) [
      | inl one ↦ (
        one.0,
        one.1.is,
        one.1.few,
        subst (λ (t : List ℕ). IsSubset t s)
            (in_alone g.ways w one.0 said.0 one.1 said.1) said.2,
      )
      | inr gone ↦ absurd (omega (arith, (subst (λ (sets : List (List ℕ)). Contains sets said.0) gone.least said.1).1))
    ]

-- a set that is included in the younger set, where that is small, has its mark
pub one-under : (g : Setting) (w : Option (List ℕ)) (set s : List ℕ) → length set < g.ways → is_set g s ≡ true
    → IsSubset s set → marks_two g w (Some set) (under s) ≡ true
one-under g w set s few is subset =
    let low : List (List ℕ) = least_one g.ways w in
    marks_from g low (most_one g.ways (Some set)) (under s) is
    (of_alone g.ways (Some set) set (small-alone g.ways set few) (λ least most. Says low most (under s))
    (set, only set, subset))

-- a set with its mark is included in the younger set, or that is large or not there
pub under-one : (g : Setting) (w y : Option (List ℕ)) (s : List ℕ) → marks_two g w y (under s) ≡ true
    → IsFalse (is_small g.ways y) ⊎ ((set : List ℕ) × (y ≡ Some set) × (length set < g.ways) × IsSubset s set)
under-one g w y s has = elim (alone_or_lost g.ways y) [
  | inl one ↦
      let least : List (List ℕ) = least_one g.ways w in
      let said = subst (λ (most : Option (List (List ℕ))). Says least most (under s)) one.1.most
      (marks-true g least (most_one g.ways y) (under s) has).1 in
      inr (one.0, one.1.is, one.1.few, subst (IsSubset s) (one_set said.0 one.0 said.1) said.2)
  | inr gone ↦ inl gone.large
]

-- a younger set that is large or not there has the mark of such
pub one-lost : (g : Setting) (w y : Option (List ℕ)) → IsFalse (is_small g.ways y) → marks_two g w y lost ≡ true
one-lost g w y large = elim (alone_or_lost g.ways y) [
  | inl one ↦ absurd (false≢true
      (sym large ∙ (ap (is_small g.ways) one.1.is ∙ lt-ltb (length one.0) g.ways one.1.few)))
  | inr gone ↦ ap (λ (most : Option (List (List ℕ))). marks_of g (least_one g.ways w) most lost) gone.most
]

-- its mark says that it is large or not there
pub lost-one : (g : Setting) (w y : Option (List ℕ)) → marks_two g w y lost ≡ true → IsFalse (is_small g.ways y)
lost-one g w y has = elim (alone_or_lost g.ways y) [
  | inl one ↦ absurd (false≢true
      (sym (ap (λ (most : Option (List (List ℕ))). marks_of g (least_one g.ways w) most lost) one.1.most) ∙ has))
  | inr gone ↦ gone.large
]

module _ (g : Setting) (nodes : List Node) (n : ℕ) where
  -- some path leaves the set, from the one that is there before the first fetch
  abbrev pub IsLeft : Option (List ℕ) → List ℕ → Type 0
  IsLeft first set = (earlier : List ℕ) × IsPath (graph_step nodes) 0 (n ∷ earlier) × (left_of g first earlier
      ≡ Some set)

  -- then it is local
  pub left-local : AreWithin g → (first : Option (List ℕ)) → AreLocal g first → (set : List ℕ) → IsLeft first set
      → IsLocal g set
  left-local within first is set left = subst (AreLocal g) left.2 (left_of-local g within first is left.0)

  -- and small where it has few numbers
  pub left-set : AreWithin g → (first : Option (List ℕ)) → AreLocal g first → (set : List ℕ) → IsLeft first set
      → length set < g.ways → is_set g set ≡ true
  left-set within first is set left few =
      let local = left-local within first is set left in
      set_from g set local.rising local.within few

  -- the families stand for what each path leaves
  abbrev pub AreAbove : List (List ℕ) → Option (List (List ℕ)) → Type 0
  AreAbove least most = (earlier : List ℕ) → IsPath (graph_step nodes) 0 (n ∷ earlier) → (mark : Mark)
      → marks_left g earlier mark ≡ true → marks_of g least most mark ≡ true

  -- and for nothing else
  abbrev pub AreReached : List (List ℕ) → Option (List (List ℕ)) → Type 0
  AreReached least most = (mark : Mark) → marks_of g least most mark ≡ true
      → (earlier : List ℕ) × IsPath (graph_step nodes) 0 (n ∷ earlier) × (marks_left g earlier mark ≡ true)

module _ (g : Setting) (nodes : List Node) (within : AreWithin g) (n : ℕ) (least : List (List ℕ))
    (most : Option (List (List ℕ))) (fit : AreFit g least most) (above : AreAbove g nodes n least most)
    (reached : AreReached g nodes n least most) where
  -- some path leaves the warm set
  abbrev IsWarm : List ℕ → Type 0
  IsWarm = IsLeft g nodes n (first_warm g.start)

  -- then it is local
  warm-local : (set : List ℕ) → IsWarm set → IsLocal g set
  warm-local = left-local g nodes n within (first_warm g.start) (first-local g g.start)

  -- a small warm set that a path leaves includes one of the least
  includes_least : (set : List ℕ) → IsWarm set → length set < g.ways → HasUnder least set
  includes_least set left few =
      let y : Option (List ℕ) = younger_after g.fetches g.block left.0 in
      let is = left-set g nodes n within (first_warm g.start) (first-local g g.start) set left few in
      (marks-true g least most (over set) (above left.0 left.1 (over set)
      (ap (λ (w : Option (List ℕ)). marks_two g w y (over set)) left.2
      ∙ one-over g y set set few is (λ x has. has)))).1

  -- a path leaves each of the least
  least_left : (s : List ℕ) → Contains least s → IsWarm s
  least_left s there =
      let s_is = fit.least_sets s there in
      let path = reached (over s) (marks_from g least most (over s) s_is (s, there, λ x has. has)) in
      let one = over-one g (warm_after g.fetches g.start g.block path.0) (younger_after g.fetches g.block path.0) s
      path.2 in
      let left : IsWarm one.0 = (path.0, path.1, one.1) in
      let less = includes_least one.0 left one.2 in
      let is_s = fit.lowest s there less.0 less.1 (λ x has. one.3 x (less.2 x has)) in
      let back : IsSubset s one.0 = subst (λ (t : List ℕ). IsSubset t one.0) is_s less.2 in
      let same = same_from_subsets one.0 s (warm-local one.0 left).rising (set-rising g s s_is) one.3 back in
      subst IsWarm same left

  -- and no other that is included in it
  least_least : (s : List ℕ) → Contains least s → (other : List ℕ) → IsWarm other → IsSubset other s → other ≡ s
  least_least s there other left subset =
      let s_is = fit.least_sets s there in
      let other_is = warm-local other left in
      let short = subset-short other s other_is.rising (set-rising g s s_is) subset in
      let less = includes_least other left (omega (arith, short, set-few g s s_is)) in
      let is_s = fit.lowest s there less.0 less.1 (λ x has. subset x (less.2 x has)) in
      same_from_subsets other s other_is.rising (set-rising g s s_is) subset
      (subst (λ (t : List ℕ). IsSubset t other) is_s less.2)

  -- the least warm sets are exact
  pub exact_least : AreLeast nodes g.fetches g.ways g.start g.block n least
  exact_least s = (
    λ there. record {
      left = least_left s there;
      small = set-few g s (fit.least_sets s there);
      least = least_least s
          there;
    },
    λ is.
        let less = includes_least s is.left is.small in
        subst (Contains least) (is.least less.0 (least_left less.0 less.1) less.2) less.1,
  )
