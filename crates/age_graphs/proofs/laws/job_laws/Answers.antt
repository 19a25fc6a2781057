use Rattle.age_graphs.proofs.SparseAges as sparse_ages
use Rattle.age_graphs.proofs.RunAges as run_ages
use Rattle.age_graphs.proofs.laws.job_laws.Goals as goal

pub returns-clause-sparse : goal.returns-clause-sparse
returns-clause-sparse c = λ sparse g start block is keeps.
    (sparse_ages.job_down sparse is g start block keeps, sparse_ages.job_up sparse is g start block keeps)

pub returns-clause-runs : goal.returns-clause-runs
returns-clause-runs c = λ r start block are. (run_ages.job_down r are start block, run_ages.job_up r are start block)
