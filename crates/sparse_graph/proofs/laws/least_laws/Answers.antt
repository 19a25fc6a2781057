use Rattle.sparse_graph.proofs.Solutions.{least_narrow, least_same_at}
use Rattle.sparse_graph.proofs.laws.least_laws.Goals as goal

pub returns-clause-least : goal.returns-clause-least
returns-clause-least g c = λ sparse before is alike least.
    let s = g.D.Domain.state c.args.whole.now in
    let t = g.D.Domain.state c.args.small.now in
    least_narrow sparse is (g.D.Domain.framework (g.D.Domain.setting s)) (g.D.Domain.framework (g.D.Domain.setting t))
    (g.met.D.Domain.monotone c.args.whole.now) alike before least

pub returns-clause-agree : goal.returns-clause-agree
returns-clause-agree g c = λ sparse before after p n is alike whole least at.
    let s = g.D.Domain.state c.args.whole.now in
    let t = g.D.Domain.state c.args.small.now in
    least_same_at sparse is (g.D.Domain.framework (g.D.Domain.setting s)) (g.D.Domain.framework (g.D.Domain.setting t))
    (g.met.D.Domain.monotone c.args.whole.now) alike before after p n whole least at
