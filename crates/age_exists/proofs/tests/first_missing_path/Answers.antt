use Rattle.std.proofs.Common.{◌≡◌, ◌∷◌, [], Some, rules, inl, inr, sym, ap, ◌∙◌, subst}
use Rattle.list_lemmas.proofs.Members.{has-cases, has-only, has-first, has-later}
use Rattle.focus_spec.specs.Younger.{fetch_at}
use Rattle.set_view.specs.View.{View}
use Rattle.age_exists.proofs.tests.first_missing_path.Goals as goal

pub miss_first-requires-clause-fetch : goal.miss_first-requires-clause-fetch
miss_first-requires-clause-fetch g c = λ n has.
    let seen : View = c.args.seen.now in
    let one : fetch_at seen.fetches c.args.other ≡ Some c.args.block = search rules in
    let two : fetch_at seen.fetches c.args.node ≡ Some c.args.block = search rules in
    subst (λ (v : View). fetch_at v.fetches n ≡ Some c.args.block) (sym c.in_ok-solver.ensures.view)
    (elim (has-cases c.args.other n (c.args.node ∷ []) has) [
      | inl first ↦ ap (fetch_at seen.fetches) first ∙ one
      | inr later ↦ ap (fetch_at seen.fetches) (has-only c.args.node n later) ∙ two
    ])

pub first_path-requires : goal.first_path-requires
first_path-requires g c =
    c.in_ok-miss_first.ensures c.if-not-branch.false c.args.node
    (has-later c.args.other c.args.node (c.args.node ∷ []) (has-first c.args.node []))
