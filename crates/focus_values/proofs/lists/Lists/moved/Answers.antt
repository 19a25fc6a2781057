use Rattle.std.proofs.Common.{◌≡◌, ◌<◌, refl, sym, true≢false, arith}
use Rattle.std.proofs.lemmas.Result.{IfOk-weaker}
use Rattle.focus_values.specs.Power.{moved}
use Rattle.focus_values.specs.Marks.{marking}
use Rattle.focus_values.specs.Exact.{setting_of, IsFit, marks_in, AreFresh, IsCopy}
use Rattle.focus_values.proofs.NodeValues.{IsAfter, copy_value, fresh_value, after_value, copy_fits, fresh_fits, after_fits}
use Rattle.focus_values.proofs.lists.Lists.moved.Goals as goal

pub returns-in_default-clause-fits : goal.returns-in_default-clause-fits
returns-in_default-clause-fits c =
    let g = setting_of c.args.self.now.view.now c.args.self.now.start c.args.self.now.block in
    IfOk-weaker c.copy_of_both.result (IsCopy c.args.younger.now) (IsFit g)
    (λ copy same. copy_fits g c.args.younger.now copy c.requires same) c.copy_of_both.ensures

pub returns-in_default-clause-value : goal.returns-in_default-clause-value
returns-in_default-clause-value c =
    let g = setting_of c.args.self.now.view.now c.args.self.now.start c.args.self.now.block in
    IfOk-weaker c.copy_of_both.result (IsCopy c.args.younger.now)
    (λ next. marks_in g next ≡ moved (marking g) c.args.node (marks_in g c.args.younger.now))
    (λ copy same. copy_value g c.args.node c.fetched.result c.fetched.ensures.value c.args.younger.now copy
    c.in_default.is same) c.copy_of_both.ensures

pub returns-then-is_own-clause-fits : goal.returns-then-is_own-clause-fits
returns-then-is_own-clause-fits c =
    let g = setting_of c.args.self.now.view.now c.args.self.now.start c.args.self.now.block in
    let some : 0 < g.ways = omega (arith, c.ways-ways.ensures.same, c.ways-ways.ensures.least) in
    IfOk-weaker c.fresh.result AreFresh (IsFit g) (λ next empty. fresh_fits g next some empty) c.fresh.ensures

pub returns-then-is_own-clause-value : goal.returns-then-is_own-clause-value
returns-then-is_own-clause-value c =
    let g = setting_of c.args.self.now.view.now c.args.self.now.start c.args.self.now.block in
    IfOk-weaker c.fresh.result AreFresh (λ next. marks_in g next ≡ moved (marking g) c.args.node
    (marks_in g c.args.younger.now))
    (λ next empty. fresh_value g c.args.node c.fetched.result c.fetched.ensures.value c.args.younger.now next
    c.in-Some.other c.in-Some.is (c.if-is_own.ensures.0 refl) empty) c.fresh.ensures

pub returns-clause-fits : goal.returns-clause-fits
returns-clause-fits c =
    let g = setting_of c.args.self.now.view.now c.args.self.now.start c.args.self.now.block in
    IfOk-weaker c.both_after.result (IsAfter c.in-Some.other c.ways-ways.result c.args.younger.now) (IsFit g)
    (λ next made. after_fits g c.args.younger.now next c.in-Some.other c.ways-ways.result c.in-Some.ensures.known
    c.ways-ways.ensures.same c.requires made) c.both_after.ensures

pub returns-clause-value : goal.returns-clause-value
returns-clause-value c =
    let g = setting_of c.args.self.now.view.now c.args.self.now.start c.args.self.now.block in
    IfOk-weaker c.both_after.result (IsAfter c.in-Some.other c.ways-ways.result c.args.younger.now)
    (λ next. marks_in g next ≡ moved (marking g) c.args.node (marks_in g c.args.younger.now))
    (λ next made. after_value g c.args.node c.fetched.result c.fetched.ensures.value c.args.younger.now next
    c.in-Some.other c.ways-ways.result c.in-Some.is
    (λ own. true≢false (sym (c.if-is_own.ensures.1 own))) c.ways-ways.ensures.same c.requires made) c.both_after.ensures
