use Rattle.std.proofs.Common.{length}
use Rattle.node_verdicts.proofs.Parted.{AreSifted}
use Rattle.node_verdicts.proofs.verdicts.sift.Given as goal

-- the first parts are sifted
abbrev pub invariant-loop-part : goal.invariant-loop-part
invariant-loop-part g l =
    AreSifted l.job (length l.yielded) l.sifted.verdicts.items l.sifted.jobs.items l.sifted.graphs.items
