-- Bounds are lowered after one node and another, until nothing is owed.
use Rattle.std.proofs.Common.{◌≡◌, ◌≢◌, ℕ, ◌+◌, ◌<◌, ◌≤◌, ◌⊎◌, List, [], ◌∷◌, length, get_or, Option, Some, None, sym, ap, ◌∙◌, subst, inl, inr, arith}
use Rattle.std.specs.Prelude.{Contains, option_map, slice_get, slice_index_or}
use Rattle.std.proofs.lemmas.Bool.{cases_eq, cases_lt}
use Rattle.std.proofs.lemmas.List.{get_or_default, length-map}
use Rattle.std.proofs.lemmas.Option.{same_Some, none-some, slice_get-get_or, slice_get-map, get_or_from_slice_get, slice_get_within}
use Rattle.transition_spec.specs.Path.{IsPath}
use Rattle.path_model.specs.declared.graph.Node.{Node}
use Rattle.path_model.specs.Graph.{IsGraph, graph_step}
use Rattle.path_trail.specs.Trail.{TrailEntry, node_of, node_at, earlier_at, IsChain, LeadsOn, IsTrail}
use Rattle.path_trail.proofs.Chains.{IsPath-chain}
use Rattle.lattice_fix.specs.Framework.{Framework, IsMonotone}
use Rattle.lattice_fix.specs.Along.{along}
use Rattle.lattice_fix.specs.Solution.{IsSolution}
use Rattle.lattice_fix.proofs.Edges.{edge_inside}
use Rattle.lattice_fix.proofs.Filled.{value_at-filled}
use Rattle.lattice_fix.proofs.Paths.{along_within, along_below}
use Rattle.focus_spec.specs.Younger.{fetch_at}
use Rattle.set_view.specs.View.{View, IsView}
use Rattle.age_spec.specs.Ages.{age_at}
use Rattle.age_spec.proofs.Reaching.{hit_monotone}
use Rattle.age_exists.specs.declared.retracing.Step.{Step}
use Rattle.age_exists.specs.Firsts.{AreFetchers}
use Rattle.age_exists.specs.Led.{LeadsTo, AreLed}
use Rattle.age_exists.specs.Seen.{entry_seen, entries_seen}
use Rattle.age_exists.specs.Spread.{Hits, equations_of, Spread, HasLast, IsSpread, IsMet, IsClear, IsBegun, IsUnderWay, SpreadsFrom}
use Rattle.age_exists.proofs.Chained.{entry_chained}
use Rattle.age_exists.proofs.Own.{fetch_inside}

-- but after nodes that wait, nothing is owed after node 0, the first of the fetchers, and each node that is neither
pub record AreSeeded (h : Hits) (fetchers : List ℕ) (head index : ℕ) (s : Spread) : Type 0 where
  pub spread : IsSpread h s
  pub within : head ≤ length s.trail.entries
  pub zero : IsClear h head s 0
  pub done : (k : ℕ) → k < index → IsClear h head s (get_or fetchers k 0)
  pub others : (n : ℕ) → n ≢ 0 → fetch_at h.view.fetches n ≢ Some h.block → IsClear h head s n

-- after node 0
pub seeded_begins : (h : Hits) (fetchers : List ℕ) (head : ℕ) (s next : Spread) → head ≤ length s.trail.entries
    → IsBegun h s → SpreadsFrom h 0 s next → AreSeeded h fetchers head 0 next
seeded_begins h fetchers head s next within begun spreads = record {
  spread = spreads.lowers.spread;
  within = omega (arith, within, spreads.lowers.longer);
  zero = inr spreads.met;
  done = λ k below. absurd (omega (arith, below));
  others = λ n other apart. spreads.lowers.keeps head n within (inr (begun.met n other apart));
}

-- one fetcher more
pub seeded_more : (h : Hits) (fetchers : List ℕ) (head index : ℕ) (s next : Spread)
    → AreSeeded h fetchers head index s → SpreadsFrom h (get_or fetchers index 0) s next
    → AreSeeded h fetchers head (index + 1) next
seeded_more h fetchers head index s next are spreads = record {
  spread = spreads.lowers.spread;
  within = omega (arith, are.within, spreads.lowers.longer);
  zero = spreads.lowers.keeps head 0 are.within are.zero;
  done = λ k below. elim (cases_lt k index) [
    | inl before ↦ spreads.lowers.keeps head (get_or fetchers k 0) are.within (are.done k before)
    | inr after ↦
        let here : k ≡ index = omega (arith, below, after) in
        subst (λ (i : ℕ). IsClear h head next (get_or fetchers i 0)) (sym here) (inr spreads.met)
  ];
  others = λ n other apart. spreads.lowers.keeps head n are.within (are.others n other apart);
}

-- a node fetches the block, or it doesn't
fetches-or : (fetch : Option ℕ) (block : ℕ) → (fetch ≡ Some block) ⊎ (fetch ≢ Some block)
fetches-or None block = inr (λ is. none-some block is)
fetches-or (Some other) block = elim (cases_eq other block) [
  | inl same ↦ inl (ap Some same)
  | inr apart ↦ inr (λ is. apart (same_Some other block is))
]

-- after all fetchers
pub seeded_all : (h : Hits) (fetchers : List ℕ) (head index : ℕ) (s : Spread) → AreFetchers h.view h.block fetchers
    → length fetchers ≤ index → AreSeeded h fetchers head index s → IsUnderWay h head s
seeded_all h fetchers head index s fetch all are = record {
  spread = are.spread;
  within = are.within;
  clear = λ n. elim (cases_eq n 0) [
    | inl first ↦ subst (IsClear h head s) (sym first) are.zero
    | inr other ↦ elim (fetches-or (fetch_at h.view.fetches n) h.block) [
      | inl is ↦
          let place = (fetch n).1 is in
          let below : place.0 < index = omega (arith, place.1, all) in
          subst (IsClear h head s) (sym (get_or_default fetchers place.0 n 0 place.1) ∙ place.2)
          (are.done place.0 below)
      | inr apart ↦ are.others n other apart
    ]
  ];
}

-- a node that fetches a block is one of the view's
pub fetcher_inside : (view : View) → IsView view → (block : ℕ) (fetchers : List ℕ) → AreFetchers view block fetchers
    → (k : ℕ) → k < length fetchers → get_or fetchers k 0 < length view.nodes
fetcher_inside view is block fetchers fetch k below =
    let n : ℕ = get_or fetchers k 0 in
    let has : Contains fetchers n = (k, below, get_or_default fetchers k n 0 below) in
    omega (arith, fetch_inside view n block ((fetch n).0 has), is.one_each)

-- one entry more
pub under_way_more : (h : Hits) (head : ℕ) (s next : Spread) → IsUnderWay h head s
    → head < length s.trail.entries → SpreadsFrom h (node_at s.trail.entries head) s next
    → IsUnderWay h (head + 1) next
under_way_more h head s next is inside spreads = record {
  spread = spreads.lowers.spread;
  within = omega (arith, inside, spreads.lowers.longer);
  clear = λ n. elim (cases_eq n (node_at s.trail.entries head)) [
    | inl same ↦ subst (IsClear h (head + 1) next) (sym same) (inr spreads.met)
    | inr other ↦ spreads.lowers.keeps (head + 1) n (omega (arith, inside)) (later n other (is.clear n))
  ];
}
  where
    later : (n : ℕ) → n ≢ node_at s.trail.entries head → IsClear h head s n → IsClear h (head + 1) s n
    later n other (inr met) = inr met
    later n other (inl waits) = elim (cases_eq waits.number head) [
      | inl here ↦ absurd (other (sym waits.node ∙ ap (node_at s.trail.entries) here))
      | inr apart ↦ inl (record {
        number = waits.number;
        from = omega (arith, waits.from, apart);
        inside = waits.inside;
        node = waits.node;
      })
    ]

-- the node of a step that is read is that of its entry
pub node_seen : (steps : List Step) (k : ℕ) (step : Step) → k < length steps → step ≡ slice_index_or steps k step
    → node_at (entries_seen steps) k ≡ step.node
node_seen steps k step inside is =
    ap node_of (slice_get-map entry_seen steps k
    ∙ ap (option_map entry_seen) (slice_get-get_or steps k step inside ∙ ap Some (sym is)))

-- the node of an entry is one of the graph
pub entry_inside : (nodes : List Node) → IsGraph nodes → (entries : List TrailEntry) → IsTrail nodes entries
    → (number : ℕ) → number < length entries → node_at entries number < length nodes
entry_inside nodes graph entries trail number inside =
    led-inside (earlier_at entries number) (node_at entries number) (trail number inside)
  where
    led-inside : (before : Option ℕ) (node : ℕ) → LeadsOn nodes entries number before node → node < length nodes
    led-inside None node leads = omega (arith, leads, graph.some)
    led-inside (Some k) node leads = (edge_inside nodes graph (node_at entries k) node leads.1).1

module _ (h : Hits) (s : Spread) (is : IsUnderWay h (length s.trail.entries) s) where
  abbrev K : ℕ
  K = h.view.geometry.ways

  abbrev F : Framework ℕ
  F = equations_of h

  abbrev Laws : IsMonotone F
  Laws = hit_monotone h.view h.start h.must h.block

  -- once all entries are worked off nothing is owed
  all-met : (n : ℕ) → IsMet h s.bounds n
  all-met n = elim (is.clear n) [
    | inl waits ↦ absurd (omega (arith, waits.from, waits.inside))
    | inr met ↦ met
  ]

  -- a bound that is read
  read-is : (n x : ℕ) → slice_get s.bounds n ≡ Some x → age_at s.bounds n ≡ x
  read-is n x read = get_or_from_slice_get s.bounds n x 0 read

  solves : IsSolution F h.view.nodes s.bounds
  solves = record {
    one_each = is.spread.one_each;
    within = λ n x read. omega (arith, read-is n x read, is.spread.few n);
    starts = λ x read. omega (arith, read-is 0 x read, is.spread.starts);
    follows = λ n m x y edge read_n read_m. omega (
      arith,
      all-met n m edge,
      read-is m y read_m,
      ap (F.transfer n) (read-is n x read_n),
    );
  }

  -- each last entry leads to its node's bound, also where that is the ways
  leads-all : (n : ℕ) → n < length h.view.nodes → (has : HasLast h s n)
      → LeadsTo F s.trail.entries n (age_at s.bounds n) has.number
  leads-all n inside has = elim (cases_lt (age_at s.bounds n) K) [
    | inl below ↦ has.leads below
    | inr above ↦ record { inside = has.inside; node = has.node; moved = λ members chain. at-ways above members chain }
  ]
    where
      at-ways : K ≤ age_at s.bounds n → (members : List ℕ) → IsChain s.trail.entries (Some has.number) members
          → along F members ≡ age_at s.bounds n
      at-ways above [] chain = absurd chain
      at-ways above (m ∷ earlier) chain =
          let path : IsPath (graph_step h.view.nodes) 0 (m ∷ earlier) =
          IsPath-chain h.view.nodes s.trail.entries has.number (m ∷ earlier) is.spread.trail has.inside chain in
          let read : slice_get s.bounds m ≡ Some (age_at s.bounds n) =
          ap (slice_get s.bounds) (chain.0 ∙ has.node)
          ∙ slice_get-get_or s.bounds n 0 (omega (arith, inside, is.spread.one_each)) in
          let below : age_at s.bounds n ≤ along F (m ∷ earlier) =
          along_below F Laws h.view.nodes is.spread.is_view.graph s.bounds solves m earlier (age_at s.bounds n) path read in
          let few : along F (m ∷ earlier) ≤ K = along_within F Laws (m ∷ earlier) in
          omega (arith, above, below, few, is.spread.few n)

  -- so each bound is what is moved along some path
  attained : (other : List ℕ) → IsSolution F h.view.nodes other → (n x y : ℕ) → slice_get s.bounds n ≡ Some x
      → slice_get other n ≡ Some y → y ≤ x
  attained other solution n x y read_x read_y =
      let inside : n < length h.view.nodes =
      omega (arith, slice_get_within s.bounds n x read_x, is.spread.one_each) in
      let has : HasLast h s n = is.spread.each n inside in
      let chained = entry_chained h.view.nodes s.trail.entries is.spread.trail has.number has.inside in
      along-no_less inside has chained.0 chained.1 chained.2
    where
      along-no_less : n < length h.view.nodes → (has : HasLast h s n) → (members : List ℕ)
          → IsChain s.trail.entries (Some has.number) members → IsPath (graph_step h.view.nodes) 0 members → y ≤ x
      along-no_less inside has [] chain path = absurd chain
      along-no_less inside has (m ∷ earlier) chain path =
          let moved = (leads-all n inside has).moved (m ∷ earlier) chain in
          let less : y ≤ along F (m ∷ earlier) =
          along_below F Laws h.view.nodes is.spread.is_view.graph other solution m earlier y path
          (ap (slice_get other) (chain.0 ∙ has.node) ∙ read_y) in
          omega (arith, moved, less, read-is n x read_x)

  -- and the bounds are the least solution, with a path to each
  pub worked_off : AreLed F h.view.nodes s.bounds s.trail
  worked_off = record {
    least = record { solution = solves; least = attained };
    led = record {
      one_each = is.spread.one_last_each ∙ sym (length-map s.bounds Some ∙ is.spread.one_each);
      trail = is.spread.trail;
      found = λ n x held.
          let read : slice_get s.bounds n ≡ Some x = sym (value_at-filled s.bounds n) ∙ held in
          let inside : n < length h.view.nodes =
          omega (arith, slice_get_within s.bounds n x read, is.spread.one_each) in
          let has : HasLast h s n = is.spread.each n inside in (
            has.number,
            has.last,
            subst (λ (v : ℕ). LeadsTo F s.trail.entries n v has.number) (read-is n x read) (leads-all n inside has),
          );
    };
  }
