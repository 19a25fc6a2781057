use Rattle.age_must_may.proofs.Meeting.{IsMeeting}
use Rattle.age_must_may.proofs.system.meet.Given as goal

abbrev pub invariant-loop-local : goal.invariant-loop-local
invariant-loop-local l = IsMeeting l.kind l.local l.initial.ages l.others l.ages l.raised
