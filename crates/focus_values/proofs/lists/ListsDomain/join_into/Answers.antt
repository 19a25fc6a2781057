use Rattle.std.proofs.Common.{true≢false, refl, sym, ◌∙◌}
use Rattle.focus_values.specs.Exact.{setting_of}
use Rattle.focus_values.proofs.Kept.{marks-joined, marks-within, within_from_marks}
use Rattle.focus_values.proofs.Fit.{fit-joined}
use Rattle.focus_values.proofs.lists.ListsDomain.join_into.Goals as goal

pub returns-then-are_within-clause-value : goal.returns-then-are_within-clause-value
returns-then-are_within-clause-value c =
    let within = c.if-are_within.ensures.0 refl in
    marks-within (setting_of c.args.self.now.view.now c.args.self.now.start c.args.self.now.block) c.args.into.now.least
    c.args.other.now.least c.args.into.now.most c.args.other.now.most within.0 within.1

pub returns-clause-fits : goal.returns-clause-fits
returns-clause-fits c =
    fit-joined (setting_of c.args.self.now.view.now c.args.self.now.start c.args.self.now.block) c.args.into.now.least
    c.args.other.now.least c.in_ok-into.field-0.least
    c.args.into.now.most c.args.other.now.most c.in_ok-into.field-0.most c.requires.into c.requires.other
    c.in_ok-into.ensures.0 c.in_ok-into.ensures.1

pub returns-clause-value : goal.returns-clause-value
returns-clause-value c =
    marks-joined (setting_of c.args.self.now.view.now c.args.self.now.start c.args.self.now.block) c.args.into.now.least
    c.args.other.now.least c.in_ok-into.field-0.least
    c.args.into.now.most c.args.other.now.most c.in_ok-into.field-0.most c.in_ok-into.ensures.0 c.in_ok-into.ensures.1

pub returns-clause-raised : goal.returns-clause-raised
returns-clause-raised c = (
  λ same. absurd (true≢false same),
  λ same.
      let g = setting_of c.args.self.now.view.now c.args.self.now.start c.args.self.now.block in
      let joined = marks-joined g c.args.into.now.least c.args.other.now.least c.in_ok-into.field-0.least
      c.args.into.now.most c.args.other.now.most c.in_ok-into.field-0.most c.in_ok-into.ensures.0
      c.in_ok-into.ensures.1 in
      let within = within_from_marks g c.args.into.now.least c.args.other.now.least c.args.into.now.most
      c.args.other.now.most c.requires.other (sym joined ∙ same) in
      sym (c.if-are_within.ensures.1 within),
)
