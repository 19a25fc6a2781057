use Rattle.age_spec.proofs.Bounded.{solution_rows, solution_bounds, must_hits, may_misses}
use Rattle.age_spec.proofs.Existing.{four_exist}
use Rattle.age_spec.proofs.laws.age_laws.Goals as goal

pub returns-clause-rows : goal.returns-clause-rows
returns-clause-rows c = λ view kind start ages is solution. solution_rows view is start kind ages solution

pub returns-clause-bounds : goal.returns-clause-bounds
returns-clause-bounds c = λ view kind start ages is solution. solution_bounds view is start kind ages solution

pub returns-clause-hits : goal.returns-clause-hits
returns-clause-hits c = λ view start ages n local is bounds fetches young.
    must_hits view is start ages n local bounds fetches young

pub returns-clause-misses : goal.returns-clause-misses
returns-clause-misses c = λ view start ages n local is bounds fetches old.
    may_misses view is start ages n local bounds fetches old

pub returns-clause-four : goal.returns-clause-four
returns-clause-four c = λ view start local is. four_exist view is start local
