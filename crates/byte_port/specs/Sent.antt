-- A text that went to a sink, whole or up to where the sink ended it, in the words of any sink.
use Rattle.std.specs.Prelude.{ℕ, List, Result, OnOk, OnErr}
use Rattle.std.specs.Io.KnownBytes.{Appends}
use Rattle.byte_port.specs.Calls.{SendsBy}
use Rattle.byte_port.specs.Count.{CountsFaults, CountsRefusals}
use Rattle.byte_port.specs.Stream.{SendsPrefix}
use Rattle.byte_port.specs.declared.Sink.{Ghosts}
use Rattle.byte_port.specs.declared.SinkFault.{SinkFault}

module _ {O : Type 0} (g : Ghosts O) where
  -- the text was sent
  abbrev pub Sends : O → O → List ℕ → Type 0
  Sends old new text = Appends (g.sent old) (g.sent new) text

  -- a prefix of the text was sent
  abbrev pub SendsPrefixOf : O → O → List ℕ → Type 0
  SendsPrefixOf old new text = SendsPrefix (g.sent old) (g.sent new) text

  -- sending the text ended with this answer: the whole of it went over, or a prefix, and then the one write that failed
  -- or was refused, which is counted
  pub record IsSent (text : List ℕ) (answer : Result (Unit {0}) SinkFault) (old new : O) : Type 0 where
    pub whole : OnOk answer (Sends old new text)
    pub part : OnErr answer (SendsPrefixOf old new text)
    pub faults_counted : CountsFaults answer (g.faults old) (g.faults new)
    pub refusals_counted : CountsRefusals answer (g.refusals old) (g.refusals new)
    pub calls : SendsBy g.writes answer old new

  -- the text was sent, as much of it as the sink took
  abbrev pub Reports : List ℕ → O → O → Type 0
  Reports text old new = (answer : Result (Unit {0}) SinkFault) × IsSent text answer old new
