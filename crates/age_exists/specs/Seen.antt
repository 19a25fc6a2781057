-- How the steps that are kept are seen as a trail.
use Rattle.std.specs.Prelude.{List, map}
use Rattle.path_trail.specs.Trail.{TrailEntry}
use Rattle.age_exists.specs.declared.retracing.Step.{Step}
use Rattle.age_exists.specs.declared.retracing.Steps.{Steps}
use Rattle.age_exists.specs.Retraced.{Retraced}

-- a step as an entry
abbrev pub entry_seen : Step → TrailEntry
entry_seen step = record { node = step.node; earlier = step.earlier }

-- all of them
abbrev pub entries_seen : List Step → List TrailEntry
entries_seen steps = map entry_seen steps

-- and the last one of each node
abbrev pub seen_as : Steps → Retraced
seen_as steps = record { entries = entries_seen steps.entries.items; last = steps.last.items }
