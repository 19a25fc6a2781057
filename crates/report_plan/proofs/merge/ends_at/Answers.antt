use Rattle.report_plan.proofs.AtAddress.{those-inside, sources-apart, all-hit, all-miss, none-there, none-found, some-found}
use Rattle.report_plan.proofs.merge.ends_at.Goals as goal

pub first_of-requires : goal.first_of-requires
first_of-requires c = those-inside c.args.layout.now.nodes c.args.verdicts.now c.args.address _
    (record { one_each = c.requires.one_each; members = c.nodes_of-here.ensures.here })

pub first_of-hit-requires : goal.first_of-hit-requires
first_of-hit-requires c = those-inside c.args.layout.now.nodes c.args.verdicts.now c.args.address _
    (record { one_each = c.requires.one_each; members = c.nodes_of-here.ensures.here })

pub first_of-miss-requires : goal.first_of-miss-requires
first_of-miss-requires c = those-inside c.args.layout.now.nodes c.args.verdicts.now c.args.address _
    (record { one_each = c.requires.one_each; members = c.nodes_of-here.ensures.here })

pub returns-in-None-None-clause-none : goal.returns-in-None-None-clause-none
returns-in-None-None-clause-none c =
    none-there c.args.layout.now.nodes c.args.verdicts.now c.args.address _
    (record { one_each = c.requires.one_each; members = c.nodes_of-here.ensures.here }) c.requires.ways
    c.in_default.ensures.none
    (none-found c.first_of-hit.result _ c.in-None-None.is-0 c.first_of-hit.ensures.none)
    (none-found c.first_of-miss.result _ c.in-None-None.is-1 c.first_of-miss.ensures.none)

pub returns-in-None-Some-clause-some : goal.returns-in-None-Some-clause-some
returns-in-None-Some-clause-some c =
    let n = c.in-None-Some.field-0-1 in
    let found = some-found c.first_of-miss.result _ n c.in-None-Some.is-1 c.first_of-miss.ensures.some in
    all-miss c.args.layout.now.nodes c.args.verdicts.now c.args.address _
    (record { one_each = c.requires.one_each; members = c.nodes_of-here.ensures.here }) c.requires.ways
    c.in_default.ensures.none n found.0
    (none-found c.first_of-hit.result _ c.in-None-Some.is-0 c.first_of-hit.ensures.none)

pub returns-in-Some-None-clause-some : goal.returns-in-Some-None-clause-some
returns-in-Some-None-clause-some c =
    let n = c.in-Some-None.field-0-0 in
    let found = some-found c.first_of-hit.result _ n c.in-Some-None.is-0 c.first_of-hit.ensures.some in
    all-hit c.args.layout.now.nodes c.args.verdicts.now c.args.address _
    (record { one_each = c.requires.one_each; members = c.nodes_of-here.ensures.here }) c.requires.ways
    c.in_default.ensures.none n found.0
    (none-found c.first_of-miss.result _ c.in-Some-None.is-1 c.first_of-miss.ensures.none)

pub returns-in-Some-Some-clause-some : goal.returns-in-Some-Some-clause-some
returns-in-Some-Some-clause-some c =
    let hit = c.in-Some-Some.hit in
    let miss = c.in-Some-Some.miss in
    let hits = some-found c.first_of-hit.result _ hit c.in-Some-Some.is-0 c.first_of-hit.ensures.some in
    let misses = some-found c.first_of-miss.result _ miss c.in-Some-Some.is-1 c.first_of-miss.ensures.some in
    sources-apart c.args.layout.now.nodes c.args.verdicts.now c.args.address _
    (record { one_each = c.requires.one_each; members = c.nodes_of-here.ensures.here }) c.requires.ways
    c.in_default.ensures.none hit miss hits.0 hits.1 misses.0 misses.1
