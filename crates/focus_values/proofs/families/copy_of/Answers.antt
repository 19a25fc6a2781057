use Rattle.std.proofs.Common.{List, ℕ, Contains, inl, inr, subst, arith}
use Rattle.std.proofs.lemmas.Result.{IfOk-weaker}
use Rattle.focus_values.specs.Families.{SameSets}
use Rattle.focus_values.proofs.Made.{HasBoth}
use Rattle.focus_values.proofs.families.copy_of.Goals as goal

pub returns : goal.returns
returns c = IfOk-weaker c.union-2.result (HasBoth c.args.sets.now c.empty.result) (SameSets c.args.sets.now)
    (λ copy both s. (
      λ there. elim ((both s).0 there) [
        | inl old ↦ old
        | inr new ↦ absurd (omega (
          arith,
          (subst (λ (sets : List (List ℕ)). Contains sets s) c.empty.ensures.sets
              new).1,
        ))
      ],
      λ there. (both s).1 (inl there),
    ))
    c.union-2.ensures.sets
