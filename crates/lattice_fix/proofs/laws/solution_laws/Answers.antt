use Rattle.lattice_fix.proofs.Paths.{along_below, least_same, least_over_paths}
use Rattle.lattice_fix.proofs.laws.solution_laws.Goals as goal

pub returns-clause-above : goal.returns-clause-above
returns-clause-above g c = λ nodes before n earlier x graph solution path is.
    let s = g.D.Domain.state c.args.domain.now in
    along_below (g.D.Domain.framework (g.D.Domain.setting s)) (g.met.D.Domain.monotone c.args.domain.now) nodes graph
    before solution n earlier x path is

pub returns-clause-unique : goal.returns-clause-unique
returns-clause-unique g c = λ nodes one two a b.
    let s = g.D.Domain.state c.args.domain.now in
    least_same (g.D.Domain.framework (g.D.Domain.setting s)) (g.met.D.Domain.monotone c.args.domain.now) nodes one two
    a b

pub returns-clause-over_paths : goal.returns-clause-over_paths
returns-clause-over_paths g c = λ nodes changes before n x bound distributive replay is carrier below.
    let s = g.D.Domain.state c.args.domain.now in
    least_over_paths (g.D.Domain.framework (g.D.Domain.setting s)) (g.met.D.Domain.monotone c.args.domain.now) nodes
    distributive changes before replay n x bound is carrier below
