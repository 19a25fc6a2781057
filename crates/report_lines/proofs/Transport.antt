-- What is right of nodes is right of their configurations.
use Rattle.std.proofs.Common.{◌≡◌, ℕ, ◌<◌, List, [], ◌∷◌, length, map, refl, ap, sym, ◌∙◌, subst, inl, inr, arith, Some, None}
use Rattle.std.specs.Prelude.{Bool, true, false, not, slice_get}
use Rattle.std.proofs.lemmas.List.{length-map}
use Rattle.cache_spec.specs.Geometry.{Geometry}
use Rattle.cache_spec.specs.declared.start.Start.{Start}
use Rattle.cache_spec.specs.Start.{CanEnd}
use Rattle.cache_spec.proofs.Starts.{can_end}
use Rattle.transition_spec.specs.declared.way.Way.{Way}
use Rattle.transition_spec.specs.Path.{IsPath}
use Rattle.transition_spec.specs.Named.{Names}
use Rattle.flow_spec.specs.Program.{Program}
use Rattle.flow_spec.specs.Configuration.{Configuration, fetched}
use Rattle.flow_spec.specs.Successors.{successors}
use Rattle.path_model.specs.declared.graph.Node.{Node}
use Rattle.path_model.specs.Graph.{graph_step, address, address_of}
use Rattle.path_model.proofs.Reached.{node_reached}
use Rattle.report_spec.specs.Right.{fetches_of, EndsIn, Fetches, NamesFate, IsRight}
use Rattle.report_spec.specs.Inner.{IsAt, IsUnreached}
use Rattle.report_spec.specs.declared.line.Verdict.{Verdict}
use Rattle.report_spec.specs.declared.line.Verdict.TheVariants.{AlwaysHit, AlwaysMiss, Unknown}
use Rattle.node_spec.specs.declared.verdict.NodeVerdict.{NodeVerdict}
use Rattle.node_spec.specs.declared.verdict.NodeVerdict.TheVariants.{Hits, Misses, Both}
use Rattle.call_expand.specs.Expansion.{IsGraphOf, numbered}
use Rattle.call_expand.proofs.Paths.{address_at, path_to, path_from, choices_to, path_addresses, member_inside}
use Rattle.focus_spec.specs.Fate.{PathCanEnd, AllEnd, NamesEnd}
use Rattle.node_spec.specs.Verdict.{IsNodeVerdict, IsRightAt}
use Rattle.node_spec.specs.Plan.{IsNodeAt, NamesPathTo, IsVerdictWay, IsWayAt, IsMerged, IsVerdictOf}

module _ (program : Program) (g : Geometry) (start : Start) (configurations : List Configuration)
    (nodes : List Node)
    (is : IsGraphOf (successors program) program.entry configurations nodes) (Ends : Configuration → Type 0) where
  -- a path of the graph that ends in a node of these configurations, as one of the configurations
  pub ends_in : (n : ℕ) (earlier : List ℕ) → IsPath (graph_step nodes) 0 (n ∷ earlier) → Ends (numbered configurations n)
      → EndsIn program Ends (map (numbered configurations) (n ∷ earlier))
  ends_in n earlier path ends = record {
    last = numbered configurations n;
    earlier = map (numbered configurations) earlier;
    path_is = refl;
    is_path = path_to (successors program) program.entry configurations nodes is (n ∷ earlier) path;
    ends = ends;
  }

  -- both fetch the same addresses
  same_fetches : (n : ℕ) (earlier : List ℕ) → IsPath (graph_step nodes) 0 (n ∷ earlier)
      → map (address_of nodes) (n ∷ earlier) ≡ fetches_of (map (numbered configurations) (n ∷ earlier))
  same_fetches n earlier path =
      path_addresses (successors program) program.entry configurations nodes is (n ∷ earlier) path

  -- the way to a node names a path to its configuration, which can end as the one to the node can
  pub named_fate : (n : ℕ) (earlier : List ℕ) (way : Way) (hits : Bool) → IsPath (graph_step nodes) 0 (n ∷ earlier)
      → Names (graph_step nodes) way (n ∷ earlier) → PathCanEnd nodes g start (n ∷ earlier) hits
      → Ends (numbered configurations n)
      → NamesFate program g start Ends way hits
  named_fate n earlier way hits path names fate ends = record {
    path = map (numbered configurations) (n ∷ earlier);
    ends_in = ends_in n earlier path ends;
    names = record {
      steps = names.steps ∙ sym (length-map (n ∷ earlier) (numbered configurations));
      choices = choices_to (successors program) program.entry configurations nodes is (n ∷ earlier) way.choices path
          names.choices;
    };
    fate = subst (λ (addresses : List ℕ). CanEnd g start addresses hits) (same_fetches n earlier path) fate;
  }

  -- some path ends in the configuration of each node
  pub some_fetches : (n : ℕ) → n < length nodes → Ends (numbered configurations n)
      → (addresses : List ℕ) × Fetches program Ends addresses
  some_fetches n inside ends =
      let (earlier, path) = node_reached nodes n is.graph inside in
      let whole = map (numbered configurations) (n ∷ earlier) in
      (fetches_of whole, (whole, ends_in n earlier path ends, refl))

  -- each path that ends in one of the configurations is one of the graph, and ends in a node of it
  pub of_graph : (addresses : List ℕ) → Fetches program Ends addresses
      → (n : ℕ) × (earlier : List ℕ) × IsPath (graph_step nodes) 0 (n ∷ earlier) × Ends (numbered configurations n)
      × (addresses ≡ map (address_of nodes) (n ∷ earlier))
  of_graph addresses (path, ends, same) =
      let found = path_from (successors program) program.entry configurations nodes is path ends.is_path in
      of_members found.0 found.1 (found.2 ∙ ends.path_is) ends.ends (same ∙ ap fetches_of (sym found.2)) where
        of_members : (members : List ℕ) → IsPath (graph_step nodes) 0 members
            → map (numbered configurations) members ≡ ends.last ∷ ends.earlier
            → Ends ends.last → addresses ≡ fetches_of (map (numbered configurations) members)
            → (n : ℕ) × (earlier : List ℕ) × IsPath (graph_step nodes) 0 (n ∷ earlier)
            × Ends (numbered configurations n)
            × (addresses ≡ map (address_of nodes) (n ∷ earlier))
        of_members [] is_path whole end from = absurd is_path
        of_members (n ∷ earlier) is_path whole end from =
            let here : numbered configurations n ≡ ends.last = cc whole in
            (n, earlier, is_path, subst Ends (sym here) end, from ∙ sym (same_fetches n earlier is_path))

  -- where no path to these nodes can end otherwise, none to their configurations can
  none_ends : (hits : Bool)
      → ((n : ℕ) → Ends (numbered configurations n) → n < length nodes → AllEnd nodes g start n hits)
      → (addresses : List ℕ) → Fetches program Ends addresses → CanEnd g start addresses (not hits) → ⊥
  none_ends hits all addresses fetches can =
      let (n, earlier, path, ends, same) = of_graph addresses fetches in
      let inside = member_inside (successors program) program.entry configurations nodes is n earlier path in
      all n ends inside earlier path (subst (λ (addresses : List ℕ). CanEnd g start addresses (not hits)) same can)

  -- where all nodes of the configurations always hit, so do these
  pub always_hit : (n : ℕ) → n < length nodes → Ends (numbered configurations n)
      → ((m : ℕ) → Ends (numbered configurations m) → m < length nodes → AllEnd nodes g start m true)
      → IsRight program g start Ends AlwaysHit
  always_hit n inside ends all =
      record { some = some_fetches n inside ends; none = λ addresses fetches. none_ends true all addresses fetches }

  -- where all always miss, so do these
  pub always_miss : (n : ℕ) → n < length nodes → Ends (numbered configurations n)
      → ((m : ℕ) → Ends (numbered configurations m) → m < length nodes → AllEnd nodes g start m false)
      → IsRight program g start Ends AlwaysMiss
  always_miss n inside ends all =
      record { some = some_fetches n inside ends; none = λ addresses fetches. none_ends false all addresses fetches }

-- what is right of a node is what its verdict says
verdict_is : (nodes : List Node) (g : Geometry) (start : Start) (verdicts : List NodeVerdict) (n : ℕ)
    (verdict : NodeVerdict)
    → IsRightAt nodes g start verdicts n
    → slice_get verdicts n ≡ Some verdict → IsNodeVerdict nodes g start n verdict
verdict_is nodes g start verdicts n verdict right is =
    let same : right.0 ≡ verdict = cc (is, right.1) in
    subst (λ (v : NodeVerdict). IsNodeVerdict nodes g start n v) same right.2

-- fetches that can't miss can hit, and those that can't hit can miss
can_so : (g : Geometry) (start : Start) (addresses : List ℕ) (hits : Bool)
    → (CanEnd g start addresses (not hits) → ⊥)
    → CanEnd g start addresses hits
can_so g start addresses true never = elim (can_end g start addresses) [
  | inl hit ↦ hit
  | inr miss ↦ absurd (never miss)
]
can_so g start addresses false never = elim (can_end g start addresses) [
  | inl hit ↦ absurd (never hit)
  | inr miss ↦ miss
]

-- where no path to a node can end otherwise, a way to it names a path that can end so
names_end : (nodes : List Node) (g : Geometry) (start : Start) (n : ℕ) (hits : Bool) (way : Way)
    → AllEnd nodes g start n hits → NamesPathTo nodes n way → NamesEnd nodes g start n way hits
names_end nodes g start n hits way all (earlier, path, names) = record {
  earlier = earlier;
  is_path = path;
  names = names;
  fate = can_so g start (map (address_of nodes) (n ∷ earlier)) hits (all earlier path);
}

-- a way to a hit by a right verdict names a path that can hit, and one to a miss a path that can miss
way_ends : (nodes : List Node) (g : Geometry) (start : Start) (n : ℕ) (verdict : NodeVerdict) (hits : Bool) (way : Way)
    → IsNodeVerdict nodes g start n verdict → IsVerdictWay nodes n verdict hits way → NamesEnd nodes g start n way hits
way_ends nodes g start n Hits true way all (so, to) = names_end nodes g start n true way all to
way_ends nodes g start n Hits false way all (so, to) = absurd (cc so)
way_ends nodes g start n Misses true way all (so, to) = absurd (cc so)
way_ends nodes g start n Misses false way all (so, to) = names_end nodes g start n false way all to
way_ends nodes g start n (Both None) hits way ends is = absurd is
way_ends nodes g start n (Both (Some ways)) true way ends same =
    subst (λ (w : Way). NamesEnd nodes g start n w true) (sym same) ends.0
way_ends nodes g start n (Both (Some ways)) false way ends same =
    subst (λ (w : Way). NamesEnd nodes g start n w false) (sym same) ends.1

module _ (program : Program) (g : Geometry) (start : Start) (configurations : List Configuration)
    (nodes : List Node) (verdicts : List NodeVerdict)
    (is : IsGraphOf (successors program) program.entry configurations nodes)
    (right : (n : ℕ) → n < length nodes → IsRightAt nodes g start verdicts n) where
  -- the configuration of a node is at the node's address
  pub at_address : (address n : ℕ) → IsNodeAt nodes address n → fetched (numbered configurations n) ≡ address
  at_address address n here = sym (address_at (successors program) program.entry configurations nodes is n here.inside)
      ∙ here.at

  -- the node of a configuration at an address is there
  node_there : (address n : ℕ) → n < length nodes → fetched (numbered configurations n) ≡ address
      → IsNodeAt nodes address n
  node_there address n inside at = record {
    inside = inside;
    at = address_at (successors program) program.entry configurations nodes is n inside ∙ at;
  }

  -- the way to a hit at an address names a path that can hit, and that to a miss one that can miss
  way_right : (address : ℕ) (hits : Bool) (way : Way) → IsWayAt nodes verdicts address hits way
      → NamesFate program g start (IsAt address) way hits
  way_right address hits way (n, here, (verdict, has, to)) =
      let so = verdict_is nodes g start verdicts n verdict (right n here.inside) has in
      let ends : NamesEnd nodes g start n way hits = way_ends nodes g start n verdict hits way so to in
      named_fate program g start configurations nodes is (IsAt address) n ends.earlier way hits ends.is_path
      ends.names ends.fate (at_address address n here)

  -- the merged verdict of an address is right of the configurations there
  pub merged_right : (address : ℕ) (verdict : Verdict) → IsMerged nodes verdicts address verdict
      → IsRight program g start (IsAt address) verdict
  merged_right address AlwaysHit have =
      let (n, here) = have.some in
      always_hit program g start configurations nodes is (IsAt address) n here.inside (at_address address n here)
      (λ m at inside. verdict_is nodes g start verdicts m Hits (right m inside)
      (have.each m (node_there address m inside at)))
  merged_right address AlwaysMiss have =
      let (n, here) = have.some in
      always_miss program g start configurations nodes is (IsAt address) n here.inside (at_address address n here)
      (λ m at inside. verdict_is nodes g start verdicts m Misses (right m inside)
      (have.each m (node_there address m inside at)))
  merged_right address (Unknown hit miss) ways =
      (way_right address true hit ways.0, way_right address false miss ways.1)

  -- no path ends at an address without a node
  pub bare_unreached : (address : ℕ) → ((n : ℕ) → IsNodeAt nodes address n → ⊥) → IsUnreached program address
  bare_unreached address bare addresses fetches =
      let (n, earlier, path, at, same) = of_graph program g start configurations nodes is (IsAt address) addresses
      fetches in
      bare n (node_there address n
      (member_inside (successors program) program.entry configurations nodes is n earlier path) at)

  -- the configuration of a node is that of no other
  only_node : (n m : ℕ) → n < length configurations → m < length configurations
      → numbered configurations m ≡ numbered configurations n
      → m ≡ n
  only_node n m below below' same = is.apart m n below' below same

  -- the configurations of a node: its own alone
  abbrev IsOf : ℕ → Configuration → Type 0
  IsOf n d = d ≡ numbered configurations n

  -- where each path to a node ends so, each to a node of its configuration does
  only_ends : (n : ℕ) (hits : Bool) → n < length nodes → length configurations ≡ length nodes
      → AllEnd nodes g start n hits
      → (m : ℕ) → IsOf n (numbered configurations m) → m < length nodes → AllEnd nodes g start m hits
  only_ends n hits inside long all m same below =
      subst (λ (k : ℕ). AllEnd nodes g start k hits)
      (sym (only_node n m (omega (arith, inside, long)) (omega (arith, below, long)) same)) all

  -- the verdict of a line for a verdict that is right of a node is right of the node's configuration alone
  verdict_right : (n : ℕ) (node : NodeVerdict) (verdict : Verdict) → n < length nodes
      → length configurations ≡ length nodes
      → IsNodeVerdict nodes g start n node → IsVerdictOf (Some node) verdict
      → IsRight program g start (IsOf n) verdict
  verdict_right n Hits verdict inside long all same =
      subst (IsRight program g start (IsOf n)) (sym same)
      (always_hit program g start configurations nodes is (IsOf n) n inside refl (only_ends n true inside long all))
  verdict_right n Misses verdict inside long all same =
      subst (IsRight program g start (IsOf n)) (sym same)
      (always_miss program g start configurations nodes is (IsOf n) n inside refl (only_ends n false inside long all))
  verdict_right n (Both None) verdict inside long ends none = absurd none
  verdict_right n (Both (Some ways)) verdict inside long ends same =
      let a : NamesEnd nodes g start n ways.hit true = ends.0 in
      let b : NamesEnd nodes g start n ways.miss false = ends.1 in
      subst (IsRight program g start (IsOf n)) (sym same) (
        named_fate program g start configurations nodes is (IsOf n) n a.earlier ways.hit true a.is_path a.names a.fate
            refl,
        named_fate program g start configurations nodes is (IsOf n) n b.earlier ways.miss false b.is_path b.names
            b.fate refl,
      )

  -- the verdict of a node is right of its configuration alone
  pub context_right : (n : ℕ) (verdict : Verdict) → n < length nodes → length configurations ≡ length nodes
      → IsVerdictOf (slice_get verdicts n) verdict
      → IsRight program g start (IsOf n) verdict
  context_right n verdict inside long has =
      let (node, is_node, ends) = right n inside in
      verdict_right n node verdict inside long ends (subst (λ o. IsVerdictOf o verdict) is_node has)
