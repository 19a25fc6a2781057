use Rattle.lattice_fix.specs.UnderWay.{framework_of, fits_in, data_in}
use Rattle.lattice_fix.proofs.Begun.{course_begun, settled_begun}
use Rattle.lattice_fix.proofs.solver.begin.Goals as goal

pub returns-in-Ok-first_work-clause-under_way : goal.returns-in-Ok-first_work-clause-under_way
returns-in-Ok-first_work-clause-under_way g c =
    let domain = c.start.new.self in
    let made = c.in-Ok-first_work.ensures in
    let work = c.in-Ok-first_work.work in
    course_begun (framework_of g.D.Domain domain) (g.met.D.Domain.monotone domain) (fits_in g.D.Domain domain)
    (data_in g.D.Domain domain) c.args.nodes.now c.requires.graph
    c.in-Ok.start c.in-Ok.ensures.fits c.in-Ok.ensures.value
    work.values.items made.values work.changes.items made.changes work.waiting made.waiting

pub returns-in-Ok-first_work-clause-settled : goal.returns-in-Ok-first_work-clause-settled
returns-in-Ok-first_work-clause-settled g c =
    let domain = c.start.new.self in
    let made = c.in-Ok-first_work.ensures in
    let work = c.in-Ok-first_work.work in
    settled_begun (framework_of g.D.Domain domain) (g.met.D.Domain.monotone domain) (fits_in g.D.Domain domain)
    (data_in g.D.Domain domain) c.args.nodes.now c.requires.graph
    c.in-Ok.start c.in-Ok.ensures.fits c.in-Ok.ensures.value
    work.values.items made.values work.changes.items made.changes work.waiting made.waiting
