-- Where control goes from a place.
use Rattle.std.specs.Prelude.{ℕ, Option}
use Rattle.flow_spec.specs.declared.frame.Frame.{Frame}
use Rattle.flow_spec.specs.Next.{Going, next_by}
use Rattle.flow_spec.specs.Transfer.{Transfer}
use Rattle.flow_graph.specs.declared.next.Place.{Place}

-- from this place, where an instruction of this code stands, with this newest frame
abbrev pub Goes : Place → ℕ → Option Frame → Transfer → Going
Goes place code top transfer = next_by place.isa place.image.now place.at place.next code top transfer
