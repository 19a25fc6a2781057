use Rattle.std.proofs.Common.{◌≡◌, ℕ, ◌<◌, List, [], get_or, length, Option, sym, ap, ◌∙◌, subst, arith}
use Rattle.std.proofs.lemmas.List.{get_or_read}
use Rattle.std.specs.List.Sorted.{IsStrictlyIncreasing}
use Rattle.focus_spec.specs.Younger.{with_number}
use Rattle.focus_plain.specs.declared.reach.Reach.{Reach}
use Rattle.focus_plain.specs.Entries.{IsReachable}
use Rattle.focus_plain.proofs.Table.{keeps-value, rising-more}
use Rattle.focus_plain.proofs.search.keep.Goals as goal
use Rattle.focus_plain.proofs.search.keep.Goals.{After-index}

module _ (c : After-index) where
  -- the index is one of the table's
  inside : c.in-Some.field-0.index < length c.args.sets.now.items
  inside = subst (λ (o : Option Reach). IsReachable c.args.sets.now.items o) c.in-Some.is c.requires.reached

  -- the set that is read stands there
  read : c.index.result.now ≡ get_or c.args.sets.now.items c.in-Some.field-0.index []
  read = get_or_read c.args.sets.now.items c.in-Some.field-0.index c.index.result.now inside c.index.ensures []

pub longer-requires : goal.longer-requires
longer-requires c =
    let known = (goal.at.longer-requires c).After-index in
    subst (λ (s : List ℕ). IsStrictlyIncreasing s) (sym (read known))
    (c.requires.rising c.in-Some.field-0.index (inside known))

pub returns-clause-value : goal.returns-clause-value
returns-clause-value c =
    let set_is = read (goal.at.returns-clause-value c).After-index in
    keeps-value c.args.sets.now.items c.push.new.self.items c.args.reached c.in-Some.field-0 c.in-Some-more.number
    c.len-kept.result c.in_ok-longer.longer c.in-Some.is (cc)
    (c.in_ok-longer.ensures.value ∙ ap (with_number c.in-Some-more.number) set_is) c.in_ok-push.ensures.items
    (omega (arith, c.args.sets.now.ok.0, c.len-kept.ensures))

pub returns-clause-rising : goal.returns-clause-rising
returns-clause-rising c = rising-more c.args.sets.now.items c.push.new.self.items c.in_ok-longer.longer
    c.requires.rising c.in_ok-longer.ensures.rising c.in_ok-push.ensures.items
