-- Which path a way names.
use Rattle.std.specs.Prelude.{◌≡◌, List, length, Result}
use Rattle.transition_spec.specs.declared.way.Way.{Way}
use Rattle.transition_spec.specs.Path.{HasChoices}

-- the way names the path: it has that many members, and these choices
pub record Names {C F : Type 0} (step : C → Result (List C) F) (way : Way) (path : List C) : Type 0 where
  pub steps : way.steps ≡ length path
  pub choices : HasChoices step path way.choices
