-- The last entry of a node attests the bound there.
use Rattle.std.proofs.Common.{◌≡◌, ℕ, ◌<◌, ◌⊎◌, Bool, true, false, List, [], ◌∷◌, length, map, Option, Some, None, Result, Ok, Err, sym, ap, ◌∙◌, subst, inl, inr, arith}
use Rattle.std.specs.Prelude.{slice_index_or, IfOk}
use Rattle.std.proofs.lemmas.Bool.{cases_lt}
use Rattle.std.proofs.lemmas.List.{length-map}
use Rattle.std.proofs.lemmas.Option.{same_Some, slice_get-get_or}
use Rattle.transition_spec.specs.Path.{IsPath}
use Rattle.path_model.specs.declared.graph.Node.{Node}
use Rattle.path_model.specs.Graph.{graph_step}
use Rattle.path_trail.specs.Trail.{TrailEntry, IsChain}
use Rattle.cache_spec.specs.declared.start.Start.{Start}
use Rattle.lattice_fix.specs.declared.change.Change.{Change}
use Rattle.lattice_fix.specs.Framework.{Framework}
use Rattle.lattice_fix.specs.Along.{along}
use Rattle.lattice_fix.specs.Solution.{IsLeast}
use Rattle.lattice_fix.specs.Replay.{Replays, nothing}
use Rattle.lattice_fix.proofs.Filled.{value_at-filled}
use Rattle.focus_spec.specs.Younger.{fetch_at}
use Rattle.set_view.specs.View.{View, IsView}
use Rattle.age_spec.specs.Ages.{age_at}
use Rattle.age_spec.specs.Settled.{IsShown}
use Rattle.age_spec.specs.Sound.{IsWitness, BoundPlaces}
use Rattle.age_exists.specs.Retraced.{Retraced, last_at, with_changes, no_entries}
use Rattle.age_exists.specs.Led.{LeadsTo, AreLed}
use Rattle.age_exists.specs.Equations.{Setting, setting_with, framework_of, bounds_met, exists_framework, own_ages, kind_of}
use Rattle.age_exists.specs.Bounded.{Bounded, AreAttested, bounded_with}
use Rattle.age_exists.proofs.Led.{replay_led}
use Rattle.age_exists.proofs.Own.{fetch_inside, over_ages}
use Rattle.age_exists.proofs.Attained.{along_ends}

-- where bounds meet there is one of the two
pub met_picks : (hits : Bool) (x y : ℕ) → (bounds_met hits x y ≡ x) ⊎ (bounds_met hits x y ≡ y)
met_picks true x y = elim (cases_lt x y) [ inl less ↦ inl (omega arith) | inr more ↦ inr (omega arith) ]
met_picks false x y = elim (cases_lt x y) [ inl less ↦ inr (omega arith) | inr more ↦ inl (omega arith) ]

-- what a solver answers: the least solution, and the changes that lead to it
pub record IsSolved (nodes : List Node) (values : List ℕ) (changes : List Change) (s : Setting) : Type 0 where
  pub least : IsLeast (framework_of s) nodes values
  pub replay : Replays (framework_of s) nodes (nothing nodes) changes (map Some values)

-- the trail of the changes leads to it
pub solved_led : (s : Setting) (nodes : List Node) (values : List ℕ) (changes : List Change)
    → IsSolved nodes values changes s
    → AreLed (framework_of s) nodes values (with_changes (no_entries (length nodes)) changes)
solved_led s nodes values changes solved = record {
  least = solved.least;
  led = replay_led (framework_of s) (met_picks s.hits) nodes changes (map Some values) solved.replay;
}

-- the last entry of a node, which leads to the bound there
pub record HasEntry (F : Framework ℕ) (bounds : List ℕ) (t : Retraced) (n : ℕ) : Type 0 where
  pub number : ℕ
  pub last : last_at t.last n ≡ Some number
  pub leads : LeadsTo F t.entries n (age_at bounds n) number

-- each node has one
pub has_entry : (F : Framework ℕ) (nodes : List Node) (bounds : List ℕ) (t : Retraced) → AreLed F nodes bounds t
    → (n : ℕ) → n < length nodes → HasEntry F bounds t n
has_entry F nodes bounds t are n inside =
    let here : n < length bounds = omega (arith, inside, are.least.solution.one_each) in
    let found = are.led.found n (age_at bounds n) (value_at-filled bounds n ∙ slice_get-get_or bounds n 0 here) in
    record { number = found.0; last = found.1; leads = found.2 }

-- an entry that is read at a place of the list is that of the node
pub last_read : (last : List (Option ℕ)) (n : ℕ) (read : Option ℕ) → n < length last
    → read ≡ slice_index_or last n read → last_at last n ≡ read
last_read last n read inside is =
    same_Some (last_at last n) (slice_index_or last n read)
    (sym (slice_get-get_or last n None inside) ∙ slice_get-get_or last n read inside) ∙ sym is

-- what follows from two facts of one outcome
pub IfOk-two : {T E : Type 0} (r : Result T E) (P Q R : T → Type 0) → ((x : T) → P x → Q x → R x) → IfOk r P
    → IfOk r Q → IfOk r R
IfOk-two (Ok x) P Q R then p q = then x p q
IfOk-two (Err fault) P Q R then p q = tt

module _ (view : View) (is : IsView view) (hits : Bool) (start : Start) (own : List ℕ) (ages : List (List ℕ))
    (block : ℕ) (same : own ≡ own_ages view.fetches ages) (bounds : List ℕ) (t : Retraced)
    (are : AreLed (framework_of (setting_with hits view start own block)) view.nodes bounds t) where
  -- bounds that are led to over the ages of what the nodes fetch are led to over all ages
  pub led_over : AreLed (exists_framework hits view start ages block) view.nodes bounds t
  led_over = subst (λ (F : Framework ℕ). AreLed F view.nodes bounds t)
      (over_ages view is hits start own ages block same) are

  -- and attested where the ages bound the places of blocks
  pub attested_over : block < length view.blocks → BoundPlaces view (kind_of hits) start ages
      → AreAttested (bounded_with view start block hits bounds) t
  attested_over known sound =
      record { is_view = is; known = known; ages = ages; sound = sound; are_led = led_over }

module _ (view : View) (is : IsView view) (hits : Bool) (start : Start) (ages : List (List ℕ))
    (sound : BoundPlaces view (kind_of hits) start ages) (block : ℕ) (known : block < length view.blocks) (n : ℕ)
    (inside : n < length view.nodes) (fetches : fetch_at view.fetches n ≡ Some block) where
  -- where a node fetches the block, the path of an entry that leads to a bound that shows something is a witness
  pub led_witness : (trail : List TrailEntry) (bound number : ℕ)
      → LeadsTo (exists_framework hits view start ages block) trail n bound number
      → IsShown hits view.geometry.ways bound → (members : List ℕ) → IsChain trail (Some number) members
      → IsPath (graph_step view.nodes) 0 members → IsWitness view start n hits members
  led_witness trail bound number leads shown [] chain path = absurd path
  led_witness trail bound number leads shown (m ∷ earlier) chain path =
      let F : Framework ℕ = exists_framework hits view start ages block in
      let here : m ≡ n = chain.0 ∙ leads.node in
      let path_here : IsPath (graph_step view.nodes) 0 (n ∷ earlier) =
      subst (λ (k : ℕ). IsPath (graph_step view.nodes) 0 (k ∷ earlier)) here path in
      let moved : along F (n ∷ earlier) ≡ bound =
      ap (λ (k : ℕ). along F (k ∷ earlier)) (sym here) ∙ leads.moved (m ∷ earlier) chain in
      record {
        earlier = earlier;
        ends = ap (λ (k : ℕ). k ∷ earlier) here;
        is_path = path_here;
        fate = along_ends view is hits start ages sound block known n earlier inside fetches path_here
            (subst (IsShown hits view.geometry.ways) (sym moved) shown);
      }

module _ (b : Bounded) (t : Retraced) (are : AreAttested b t) (n : ℕ)
    (fetches : fetch_at b.view.fetches n ≡ Some b.block) where
  abbrev F : Framework ℕ
  F = exists_framework b.hits b.view b.start are.ages b.block

  -- the node is one of the view's
  pub attested_inside : n < length b.view.nodes
  attested_inside = omega (arith, fetch_inside b.view n b.block fetches, are.is_view.one_each)

  pub attested_entry : HasEntry F b.bounds t n
  attested_entry = has_entry F b.view.nodes b.bounds t are.are_led n attested_inside

  -- an entry that is read is there
  pub attested_number : (read : Option ℕ) → read ≡ slice_index_or t.last n read → read ≡ Some attested_entry.number
  attested_number read is =
      let here : n < length t.last = omega (
        arith,
        attested_inside,
        are.are_led.led.one_each,
        are.are_led.least.solution.one_each,
        length-map b.bounds Some,
      ) in
      sym (last_read t.last n read here is) ∙ attested_entry.last

  -- and its path is a witness, where the bound shows something
  pub attested_path : IsShown b.hits b.view.geometry.ways (age_at b.bounds n) → (members : List ℕ)
      → IsChain t.entries (Some attested_entry.number) members → IsPath (graph_step b.view.nodes) 0 members
      → IsWitness b.view b.start n b.hits members
  attested_path shown members chain path =
      led_witness b.view are.is_view b.hits b.start are.ages are.sound b.block are.known n attested_inside fetches
      t.entries (age_at b.bounds n) attested_entry.number attested_entry.leads shown members chain path
