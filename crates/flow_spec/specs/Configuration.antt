-- Configurations: what is open, where control is, and which part of the instruction there is fetched.
use Rattle.std.specs.Prelude.{ℕ, ◌+◌, ◌*◌, List, []}
use Rattle.flow_spec.specs.declared.frame.Frame.{Frame}

-- the open calls, the oldest first, an address of the text, and a part of the instruction there, 0 or 1
pub record Configuration : Type 0 where
  pub frames : List Frame
  pub at : ℕ
  pub part : ℕ

-- control comes to an instruction at its first part
abbrev pub configuration : List Frame → ℕ → Configuration
configuration frames at = record { frames = frames; at = at; part = 0 }

-- no call is open at the entry
abbrev pub start_of : ℕ → Configuration
start_of entry = configuration [] entry

-- the next part of the same instruction
abbrev pub next_part : Configuration → Configuration
next_part c = record { frames = c.frames; at = c.at; part = c.part + 1 }

-- the address that is fetched: parts are of two bytes
abbrev pub fetched : Configuration → ℕ
fetched c = c.at + 2 * c.part
