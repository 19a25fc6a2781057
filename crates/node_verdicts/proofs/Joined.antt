-- Judgements of some nodes and of others.
use Rattle.std.proofs.Common.{◌≡◌, ℕ, ◌⊎◌, inl, inr, List, [], ◌++◌, sym, subst}
use Rattle.std.proofs.lemmas.List.Elements.{Contains-append_left, Contains-append_right, Contains-append_cases}
use Rattle.cache_spec.specs.declared.start.Start.{Start}
use Rattle.cache_spec.specs.Geometry.{Geometry}
use Rattle.path_model.specs.declared.graph.Node.{Node}
use Rattle.node_spec.specs.declared.verdict.Kept.{Kept}
use Rattle.node_verdicts.specs.declared.judged.Judged.{Judged}
use Rattle.node_verdicts.specs.Judged.{HavePathsAt, AreJudged}
use Rattle.node_verdicts.proofs.Block.{none_there}

-- no node is judged where there is none
pub judged_none : (nodes : List Node) (g : Geometry) (start : Start) (kept : Kept) (Within : ℕ → Type 0)
    (judged : List Judged) → judged ≡ [] → ((n : ℕ) → Within n → ⊥) → AreJudged nodes g start kept Within judged
judged_none nodes g start kept Within judged none empty =
    subst (AreJudged nodes g start kept Within) (sym none) (record {
      within = λ one there. absurd (none_there one there);
      right = λ one there. absurd (none_there one there);
      all = λ n is. absurd (empty n is);
      served = λ one there is. absurd (none_there one there);
    })

-- the same nodes, said otherwise
pub judged_as : (nodes : List Node) (g : Geometry) (start : Start) (kept : Kept) (Within Other : ℕ → Type 0)
    (judged : List Judged) → AreJudged nodes g start kept Within judged → ((n : ℕ) → Within n → Other n)
    → ((n : ℕ) → Other n → Within n) → AreJudged nodes g start kept Other judged
judged_as nodes g start kept Within Other judged are to from = record {
  within = λ one there. to one.node (are.within one there);
  right = are.right;
  all = λ n is. are.all n (from n is);
  served = are.served;
}

module _ (nodes : List Node) (g : Geometry) (start : Start) (kept : Kept) (First Second Within : ℕ → Type 0)
    (xs ys : List Judged) (first : AreJudged nodes g start kept First xs)
    (second : AreJudged nodes g start kept Second ys) (apart : (n : ℕ) → First n → Second n → ⊥)
    (from_first : (n : ℕ) → First n → Within n) (from_second : (n : ℕ) → Second n → Within n)
    (cases : (n : ℕ) → Within n → First n ⊎ Second n) where
  -- a node of the first list with paths has them in both
  have_first : (m : ℕ) → HavePathsAt xs m → HavePathsAt (xs ++ ys) m
  have_first m have =
      let (one, there, is) = have.some in
      record {
        some = (one, Contains-append_left xs ys one there, is);
        each = λ other among at. elim (Contains-append_cases xs ys other among) [
          | inl left ↦ have.each other left at
          | inr right ↦
              absurd (apart m (subst First is (first.within one there)) (subst Second at (second.within other right)))
        ];
      }

  -- and so has one of the second list
  have_second : (m : ℕ) → HavePathsAt ys m → HavePathsAt (xs ++ ys) m
  have_second m have =
      let (one, there, is) = have.some in
      record {
        some = (one, Contains-append_right xs ys one there, is);
        each = λ other among at. elim (Contains-append_cases xs ys other among) [
          | inl left ↦
              absurd (apart m (subst First at (first.within other left)) (subst Second is (second.within one there)))
          | inr right ↦ have.each other right at
        ];
      }

  both : AreJudged nodes g start kept Within (xs ++ ys)
  both = record {
    within = λ one there. elim (Contains-append_cases xs ys one there) [
      | inl left ↦ from_first one.node (first.within one left)
      | inr right ↦ from_second one.node (second.within one right)
    ];
    right = λ one there. elim (Contains-append_cases xs ys one there) [
      | inl left ↦ first.right one left
      | inr right ↦ second.right one right
    ];
    all = λ n is. elim (cases n is) [
      | inl left ↦
          let (one, there, at) = first.all n left in
          (one, Contains-append_left xs ys one there, at)
      | inr right ↦
          let (one, there, at) = second.all n right in
          (one, Contains-append_right xs ys one there, at)
    ];
    served = λ one there none. elim (Contains-append_cases xs ys one there) [
      | inl left ↦ let (m, serves, have) = first.served one left none in (m, serves, have_first m have)
      | inr right ↦ let (m, serves, have) = second.served one right none in (m, serves, have_second m have)
    ];
  }

  -- the judgements of both lists
  pub judged_both : (all : List Judged) → all ≡ xs ++ ys → AreJudged nodes g start kept Within all
  judged_both all is = subst (AreJudged nodes g start kept Within) (sym is) both
