-- What an error of clap says of its faults.
use Rattle.std.proofs.Common.{◌≡◌, [], inl, inr, subst}
use Rattle.clap.specs.Kinds.{HasKind, IsAmong, Kinds}
use Rattle.clap.specs.Values.{kind_of}
use Rattle.clap.specs.declared.error.Error.{Error}
use Rattle.clap.specs.declared.error.kind.ErrorKind.TheVariants.{OutOfMemory}

-- where it isn't out of memory, there is a fault
pub some_fault : (kinds : Kinds) (e : Error) → HasKind kinds e → (kind_of e ≡ OutOfMemory → ⊥) → kinds ≡ [] → ⊥
some_fault kinds e (inl memory) other none = other memory
some_fault kinds e (inr among) other none = subst (λ (ks : Kinds). IsAmong (kind_of e) ks) none among
