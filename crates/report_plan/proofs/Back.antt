-- The smaller nodes before each node are a trail, and its ways lead to the nodes.
use Rattle.std.proofs.Common.{◌≡◌, ℕ, zero, suc, ◌<◌, List, [], ◌∷◌, length, Option, Some, option_map, refl, ap, sym, ◌∙◌, subst, arith}
use Rattle.std.specs.Prelude.{slice_get, slice_index}
use Rattle.std.specs.List.{range_with_len}
use Rattle.std.proofs.Math.ListN.{get_or}
use Rattle.std.proofs.lemmas.List.FromFn.{length-range_with_len, get_or-range_with_len, length-map-range_with_len}
use Rattle.std.proofs.lemmas.Option.{slice_get-map, slice_get-get_or}
use Rattle.transition_spec.specs.declared.way.Way.{Way}
use Rattle.transition_spec.specs.Path.{IsPath, IsSuccessor}
use Rattle.transition_spec.specs.Named.{Names}
use Rattle.path_model.specs.declared.graph.Node.{Node}
use Rattle.path_model.specs.Graph.{graph_step}
use Rattle.path_trail.specs.Trail.{node_of, node_at, earlier_of, earlier_at, IsChain, LeadsOn, IsTrail}
use Rattle.path_trail.specs.Ways.{IsWayOf}
use Rattle.node_spec.specs.Plan.{NamesPathTo}
use Rattle.report_plan.specs.Kept.{AreBefore}
use Rattle.report_plan.specs.Befores.{before_of, entry_of, entries_of}

-- there is an entry for each node
pub length-entries : (before : List ℕ) → length (entries_of before) ≡ length before
length-entries before = length-map-range_with_len (entry_of before) 0 (length before)

-- the entry with the number of a node is that of the node
slice_get-entries : (before : List ℕ) (n : ℕ) → n < length before
    → slice_get (entries_of before) n ≡ Some (entry_of before n)
slice_get-entries before n inside =
    let numbers = range_with_len 0 (length before) in
    let there : n < length numbers = omega (arith, inside, length-range_with_len 0 (length before)) in
    let number : get_or numbers n 0 ≡ n = omega (arith, get_or-range_with_len 0 (length before) n 0 inside) in
    slice_get-map (entry_of before) numbers n
    ∙ ap (option_map (entry_of before)) (slice_get-get_or numbers n 0 there ∙ ap Some number)

-- an entry is at the node with its number
pub node_at-entries : (before : List ℕ) (n : ℕ) → n < length before → node_at (entries_of before) n ≡ n
node_at-entries before n inside = ap node_of (slice_get-entries before n inside)

-- the entry before one is that of the node before
pub earlier_at-entries : (before : List ℕ) (n : ℕ) → n < length before
    → earlier_at (entries_of before) n ≡ before_of before n
earlier_at-entries before n inside = ap earlier_of (slice_get-entries before n inside)

-- each node but the first has one before it
pub before_of-later : (before : List ℕ) (n : ℕ) → (n ≡ 0 → ⊥) → before_of before n ≡ Some (slice_index before n)
before_of-later before zero later = absurd (later refl)
before_of-later before (suc n) later = refl

-- the node before a node is smaller and leads to it, and the first node has none
leads-back : (nodes : List Node) (before : List ℕ) (n : ℕ) → AreBefore nodes before → n < length before
    → LeadsOn nodes (entries_of before) n (before_of before n) n
leads-back nodes before zero are inside = refl
leads-back nodes before (suc n) are inside =
    let smaller = are.smaller (suc n) (omega arith) (omega (arith, inside, are.one_each)) in
    let leads = are.leads (suc n) (omega arith) (omega (arith, inside, are.one_each)) in
    let at = node_at-entries before _ (omega (arith, smaller, inside)) in
    (smaller, subst (λ (m : ℕ). IsSuccessor (graph_step nodes) m (suc n)) (sym at) leads)

-- the entries are a trail
pub IsTrail-entries : (nodes : List Node) (before : List ℕ) → AreBefore nodes before → IsTrail nodes (entries_of before)
IsTrail-entries nodes before are n inside =
    let entries = entries_of before in
    let there : n < length before = omega (arith, inside, length-entries before) in
    subst (λ (o : Option ℕ). LeadsOn nodes entries n o (node_at entries n)) (sym (earlier_at-entries before n there))
    (subst (λ (m : ℕ). LeadsOn nodes entries n (before_of before n) m) (sym (node_at-entries before n there))
    (leads-back nodes before n are there))

-- the way of an entry names a path to its node
pub way-names : (nodes : List Node) (before : List ℕ) (n : ℕ) (way : Way) → n < length before
    → IsWayOf nodes (entries_of before) n way → NamesPathTo nodes n way
way-names nodes before n way inside is = of_members is.members is.chain is.path is.named where
  of_members : (members : List ℕ) → IsChain (entries_of before) (Some n) members
      → IsPath (graph_step nodes) 0 members → Names (graph_step nodes) way members → NamesPathTo nodes n way
  of_members [] chain path named = absurd chain
  of_members (m ∷ earlier) chain path named =
      let same : m ≡ n = chain.0 ∙ node_at-entries before n inside in (
        earlier,
        subst (λ (k : ℕ). IsPath (graph_step nodes) 0 (k ∷ earlier)) same path,
        subst (λ (k : ℕ). Names (graph_step nodes) way (k ∷ earlier)) same named,
      )
