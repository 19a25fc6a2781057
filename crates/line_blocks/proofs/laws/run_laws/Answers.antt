use Rattle.line_blocks.proofs.Edges.{run_inside, head_is, run_address}
use Rattle.line_blocks.proofs.Walks.{base, all_alike, some_alike, inner_hits}
use Rattle.line_blocks.proofs.Blocks.{as_many, run_block, blocks_alike}
use Rattle.line_blocks.proofs.Expanded.{expanded_ends, expanded_alike}
use Rattle.line_blocks.proofs.laws.run_laws.Goals as goal

pub returns-clause-heads : goal.returns-clause-heads
returns-clause-heads c = λ r start p hits are inside. all_alike r are start p hits inside

pub returns-clause-some : goal.returns-clause-some
returns-clause-some c = λ r start p hits are inside. some_alike r are start p hits inside

pub returns-clause-inner : goal.returns-clause-inner
returns-clause-inner c = λ r start n are inside later. inner_hits r are start n later

pub returns-clause-numbers : goal.returns-clause-numbers
returns-clause-numbers c = λ r n are inside. run_inside r (base r are) n inside

pub returns-clause-inside : goal.returns-clause-inside
returns-clause-inside c = λ r p are inside. (are.plan.2 p inside).0

pub returns-clause-own : goal.returns-clause-own
returns-clause-own c = λ r p are inside. (are.plan.2 p inside).1

pub returns-clause-origins : goal.returns-clause-origins
returns-clause-origins c = λ r p are inside. head_is r (base r are) p inside

pub returns-clause-as_many : goal.returns-clause-as_many
returns-clause-as_many c = λ r are. as_many r are

pub returns-clause-addresses : goal.returns-clause-addresses
returns-clause-addresses c = λ r p are inside. run_address r (base r are) p inside

pub returns-clause-lines : goal.returns-clause-lines
returns-clause-lines c = λ r n are inside. run_block r are n inside

pub returns-clause-blocks : goal.returns-clause-blocks
returns-clause-blocks c = λ r set blocks are. blocks_alike r are set blocks

pub returns-clause-whole : goal.returns-clause-whole
returns-clause-whole c = λ r path whole are expanded. expanded.is_path

pub returns-clause-ends : goal.returns-clause-ends
returns-clause-ends c = λ r run others whole are expanded. expanded_ends r are run others whole expanded

pub returns-clause-paths : goal.returns-clause-paths
returns-clause-paths c = λ r start path whole hits are expanded. expanded_alike r are start path whole hits expanded
