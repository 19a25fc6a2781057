use Rattle.age_graphs.proofs.SparseAges.{kept_numbers}
use Rattle.age_graphs.proofs.RunAges.{head_numbers, inner_age}
use Rattle.age_graphs.proofs.laws.number_laws.Goals as goal

pub returns-clause-kept : goal.returns-clause-kept
returns-clause-kept c = λ sparse one other start local p n four small_four is keeps show are small_are at.
    kept_numbers sparse is one other start local p n four small_four keeps show are small_are at

pub returns-clause-heads : goal.returns-clause-heads
returns-clause-heads c = λ r one other start local p four small_four are shape show is_four small_is inside.
    head_numbers r are one other start local p four small_four shape show is_four small_is inside

pub returns-clause-inner : goal.returns-clause-inner
returns-clause-inner c = λ r view must n local are is nodes_are shape ages later fetched.
    inner_age r are view must n local is nodes_are shape ages later fetched
