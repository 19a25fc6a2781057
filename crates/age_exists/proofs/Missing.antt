-- Where first paths attest that their ends can miss.
use Rattle.std.proofs.Common.{◌≡◌, ℕ, ◌<◌, false, List, [], ◌∷◌, length, Some, sym, ap, ◌∙◌, arith}
use Rattle.std.specs.Prelude.{slice_get}
use Rattle.std.proofs.lemmas.Option.{slice_get-get_or}
use Rattle.transition_spec.specs.Path.{IsPath}
use Rattle.path_model.specs.Graph.{graph_step}
use Rattle.path_trail.specs.Trail.{IsChain}
use Rattle.path_trail.proofs.Chains.{IsPath-chain}
use Rattle.lattice_fix.specs.Framework.{Framework}
use Rattle.lattice_fix.proofs.Paths.{along_below}
use Rattle.focus_spec.specs.Younger.{fetch_at}
use Rattle.age_spec.specs.declared.kind.Kind.TheVariants.{May}
use Rattle.age_spec.specs.Ages.{age_at}
use Rattle.age_spec.specs.Exists.{AreMissBounds, miss_framework}
use Rattle.age_spec.specs.Settled.{CanMissByBound}
use Rattle.age_spec.specs.Sound.{IsWitness}
use Rattle.age_spec.proofs.Bounded.{solution_bounds}
use Rattle.age_spec.proofs.Reaching.{miss_monotone}
use Rattle.age_exists.specs.Led.{LeadsTo}
use Rattle.age_exists.specs.Solving.{Solving, IsSolving, MissesFirst}
use Rattle.age_exists.proofs.Own.{fetch_inside}
use Rattle.age_exists.proofs.Attests.{led_witness}
use Rattle.age_exists.proofs.Chained.{entry_chained}

module _ (s : Solving) (is : IsSolving s) (block : ℕ) (known : block < length s.view.blocks) (n bound : ℕ)
    (fetches : fetch_at s.view.fetches n ≡ Some block)
    (leads : LeadsTo (miss_framework s.view s.may block) s.firsts n bound n)
    (shown : CanMissByBound s.view.geometry.ways bound) where
  abbrev F : Framework ℕ
  F = miss_framework s.view s.may block

  inside : n < length s.view.nodes
  inside = omega (arith, fetch_inside s.view n block fetches, is.is_view.one_each)

  -- the path of the entry of the node attests that it can miss
  witness : (members : List ℕ) → IsChain s.firsts (Some n) members → IsWitness s.view s.start n false members
  witness members chain =
      led_witness s.view is.is_view false s.start s.may
      (solution_bounds s.view is.is_view s.start May s.may is.may_ages.solution) block known n inside fetches s.firsts
      bound n leads shown members chain
      (IsPath-chain s.view.nodes s.firsts n members is.firsts.trail leads.inside chain)

  -- and no solution is below what is moved along it
  shows : (bounds : List ℕ) → AreMissBounds s.view s.may block bounds → (members : List ℕ)
      → IsChain s.firsts (Some n) members → CanMissByBound s.view.geometry.ways (age_at bounds n)
  shows bounds are [] chain = absurd chain
  shows bounds are (m ∷ earlier) chain =
      let here : m ≡ n = chain.0 ∙ leads.node in
      let path : IsPath (graph_step s.view.nodes) 0 (m ∷ earlier) =
      IsPath-chain s.view.nodes s.firsts n (m ∷ earlier) is.firsts.trail leads.inside chain in
      let long : m < length bounds = omega (arith, here, inside, are.solution.one_each) in
      let at : slice_get bounds m ≡ Some (age_at bounds m) = slice_get-get_or bounds m 0 long in
      let below = along_below F (miss_monotone s.view s.may block) s.view.nodes is.is_view.graph bounds are.solution m
      earlier (age_at bounds m) path at in
      let most = are.solution.within m (age_at bounds m) at in
      ap (age_at bounds) (sym here) ∙ omega (arith, below, most, leads.moved (m ∷ earlier) chain, shown)

  -- so the node misses first
  pub misses_first : MissesFirst s n
  misses_first =
      let whole = entry_chained s.view.nodes s.firsts is.firsts.trail n leads.inside in
      record {
        block = block;
        fetches = fetches;
        bound = λ bounds are. shows bounds are whole.0 whole.1;
        first = witness;
        some = (whole.0, witness whole.0 whole.1);
      }
