use Rattle.top_words.specs.FaultText.{flow_text}
use Rattle.top_words.proofs.fault_text.push_flow.Goals as goal

pub returns-in-Illegal-clause-text : goal.returns-in-Illegal-clause-text
unfolding flow_text
returns-in-Illegal-clause-text c = rw c.in-Illegal.is c.push_both.ensures.text

pub returns-in-Recursion-clause-text : goal.returns-in-Recursion-clause-text
unfolding flow_text
returns-in-Recursion-clause-text c = rw c.in-Recursion.is c.push_placed-in-Recursion.ensures.text

pub returns-in-TooManyFetches-clause-text : goal.returns-in-TooManyFetches-clause-text
unfolding flow_text
returns-in-TooManyFetches-clause-text c = rw c.in-TooManyFetches.is c.push_counted.ensures.text
