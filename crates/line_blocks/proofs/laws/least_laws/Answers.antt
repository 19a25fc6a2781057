use Rattle.line_blocks.proofs.Solutions.{least_heads, least_same_at, inner_value}
use Rattle.line_blocks.proofs.laws.least_laws.Goals as goal

pub returns-clause-least : goal.returns-clause-least
returns-clause-least g c = λ r before are alike least.
    let s = g.D.Domain.state c.args.whole.now in
    let t = g.D.Domain.state c.args.small.now in
    least_heads r are (g.D.Domain.framework (g.D.Domain.setting s)) (g.D.Domain.framework (g.D.Domain.setting t))
    (g.met.D.Domain.monotone c.args.whole.now) alike before least

pub returns-clause-agree : goal.returns-clause-agree
returns-clause-agree g c = λ r before after p are alike whole least inside.
    let s = g.D.Domain.state c.args.whole.now in
    let t = g.D.Domain.state c.args.small.now in
    least_same_at r are (g.D.Domain.framework (g.D.Domain.setting s)) (g.D.Domain.framework (g.D.Domain.setting t))
    (g.met.D.Domain.monotone c.args.whole.now) alike before after p whole least inside

pub returns-clause-inner : goal.returns-clause-inner
returns-clause-inner g c = λ r before m x y are alike whole later has_x has_y.
    let s = g.D.Domain.state c.args.whole.now in
    let t = g.D.Domain.state c.args.small.now in
    inner_value r are (g.D.Domain.framework (g.D.Domain.setting s)) (g.D.Domain.framework (g.D.Domain.setting t))
    (g.met.D.Domain.monotone c.args.whole.now) alike before m x y whole later has_x has_y
