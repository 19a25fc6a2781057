-- Judgements that are taken from the end of their list, each for what goes with it.
use Rattle.std.proofs.Common.{◌≡◌, ◌⊎◌, inl, inr, List, [], ◌∷◌, ◌++◌, sym, subst}
use Rattle.std.proofs.lemmas.List.Elements.{Contains-push, Contains-push_cases, Contains-append_left}
use Rattle.std.specs.List.{Contains}
use Rattle.node_verdicts.specs.Judged.{AreMatched}
use Rattle.node_verdicts.specs.declared.judged.Judged.{Judged}
use Rattle.node_verdicts.proofs.Block.{none_there}

-- the judgements but those that are left have what goes with them
pub record IsMatching {X : Type 0} (Goes : Judged → X → Type 0) (judged left : List Judged) (others : List X)
    : Type 0 where
  pub within : (one : Judged) → Contains left one → Contains judged one
  pub each : (one : Judged) → Contains judged one
      → Contains left one ⊎ ((other : X) × Contains others other × Goes one other)
  pub none_else : (other : X) → Contains others other → (one : Judged) × Contains judged one × Goes one other

module _ {X : Type 0} (Goes : Judged → X → Type 0) (judged : List Judged) where
  -- at first all are left
  pub matching_none : (others : List X) → others ≡ [] → IsMatching Goes judged judged others
  matching_none others none = subst (IsMatching Goes judged judged) (sym none) (record {
    within = λ one there. there;
    each = λ one there. inl there;
    none_else = λ other there. absurd (none_there other there);
  })

  -- one more
  pub matching_more : (left rest : List Judged) (others more : List X) (one : Judged) (other : X)
      → left ≡ rest ++ one ∷ [] → more ≡ others ++ other ∷ [] → Goes one other
      → IsMatching Goes judged left others → IsMatching Goes judged rest more
  matching_more left rest others more one other left_is more_is goes matching =
      let within : (x : Judged) → Contains rest x → Contains judged x = λ x there.
      matching.within x (subst (λ (xs : List Judged). Contains xs x) (sym left_is)
      (Contains-append_left rest (one ∷ []) x there)) in
      let last = matching.within one
      (subst (λ (xs : List Judged). Contains xs one) (sym left_is) (Contains-push rest one)) in
      subst (IsMatching Goes judged rest) (sym more_is) (record {
        within = within;
        each = λ x there. elim (matching.each x there) [
          | inl among ↦
              elim (Contains-push_cases rest one x (subst (λ (xs : List Judged). Contains xs x) left_is among)) [
                | inl before ↦ inl before
                | inr same ↦ inr
                    (other, Contains-push others other, subst (λ (j : Judged). Goes j other) same goes)
              ]
          | inr (y, before, with_it) ↦ inr (y, Contains-append_left others (other ∷ []) y before, with_it)
        ];
        none_else = λ y there. elim (Contains-push_cases others other y there) [
          | inl before ↦ matching.none_else y before
          | inr same ↦ (one, last, subst (Goes one) same goes)
        ];
      })

  -- all
  pub matching_all : (left : List Judged) (others : List X) → left ≡ [] → IsMatching Goes judged left others
      → AreMatched Goes judged others
  matching_all left others none matching = record {
    each = λ one there. elim (matching.each one there) [
      | inl among ↦ absurd (none_there one (subst (λ (xs : List Judged). Contains xs one) none among))
      | inr (other, before, goes) ↦ (other, before, goes)
    ];
    none_else = matching.none_else;
  }
