-- What is made once for all blocks of a set.
use Rattle.std.specs.Prelude.{◌≡◌, ℕ, List, length}
use Rattle.age_exists.specs.Equations.{own_ages}
use Rattle.age_exists.specs.Fetchers.{HaveFetchers}
use Rattle.age_exists.specs.Solving.{Solving, IsSolving}

-- the may ages of what each node fetches, and for each local block the nodes that fetch it
pub record IsPrepared (s : Solving) (own : List ℕ) (fetchers : List (List ℕ)) : Type 0 where
  pub solving : IsSolving s
  pub ages : own ≡ own_ages s.view.fetches s.may
  pub lists : HaveFetchers s.view (length s.view.nodes) fetchers
