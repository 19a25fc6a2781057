use Rattle.std.proofs.Common.{◌≡◌, ℕ, ◌<◌, Bool, List, length, reverse, Some, refl, sym, ap, ◌∙◌, subst}
use Rattle.std.proofs.lemmas.Option.{same_Some, none-some}
use Rattle.path_model.specs.declared.graph.Node.{Node}
use Rattle.path_model.specs.Graph.{graph_step}
use Rattle.transition_spec.specs.Path.{IsPath}
use Rattle.path_trail.specs.Trail.{IsChain}
use Rattle.age_spec.specs.Settled.{IsShown}
use Rattle.age_spec.specs.Ages.{age_at}
use Rattle.age_exists.specs.Bounded.{Bounded, AreAttested}
use Rattle.age_exists.specs.declared.retracing.Step.{Step}
use Rattle.age_exists.specs.Seen.{seen_as, entries_seen}
use Rattle.age_exists.proofs.Attests.{attested_entry, attested_number, attested_path}
use Rattle.age_exists.proofs.one_block.BlockBounds.path.Goals as goal

pub unreachable-requires : goal.unreachable-requires
unreachable-requires c =
    let b : Bounded = c.args.self.now in
    let t = seen_as c.self.inside.steps in
    let are : AreAttested b t = subst (λ (b : Bounded). AreAttested b t) c.self.view_is c.self.invariant in
    let number = attested_number b t are c.args.node c.requires.fetches c.index.result.now c.index.ensures in
    none-some (attested_entry b t are c.args.node c.requires.fetches).number (sym c.in_default.is ∙ number)

pub trace-requires-clause-inside : goal.trace-requires-clause-inside
trace-requires-clause-inside c =
    let b : Bounded = c.args.self.now in
    let t = seen_as c.self.inside.steps in
    let are : AreAttested b t = subst (λ (b : Bounded). AreAttested b t) c.self.view_is c.self.invariant in
    let entry = attested_entry b t are c.args.node c.requires.fetches in
    let number = attested_number b t are c.args.node c.requires.fetches c.index.result.now c.index.ensures in
    let here : entry.number ≡ c.in-Some.entry = same_Some entry.number c.in-Some.entry (sym number ∙ c.in-Some.is) in
    subst (λ (steps : List Step). c.in-Some.entry < length (entries_seen steps)) (sym c.deref.ensures.value)
    (subst (λ (k : ℕ). k < length t.entries) here entry.leads.inside)

pub returns-clause-path : goal.returns-clause-path
returns-clause-path c =
    let b : Bounded = c.args.self.now in
    let t = seen_as c.self.inside.steps in
    let are : AreAttested b t = subst (λ (b : Bounded). AreAttested b t) c.self.view_is c.self.invariant in
    let entry = attested_entry b t are c.args.node c.requires.fetches in
    let number = attested_number b t are c.args.node c.requires.fetches c.index.result.now c.index.ensures in
    let here : c.in-Some.entry ≡ entry.number = same_Some c.in-Some.entry entry.number (sym c.in-Some.is ∙ number) in
    let hits_is : c.self.inside.hits ≡ b.hits = ap (λ (b : Bounded). b.hits) c.self.view_is in
    let ways_is : c.ways.result ≡ b.view.geometry.ways =
    c.ways.ensures.same ∙ ap (λ (b : Bounded). b.view.geometry.ways) c.self.view_is in
    let by_test : IsShown c.self.inside.hits c.ways.result c.bound.result = c.if-not-is_shown.ensures.0 refl in
    let shown : IsShown b.hits b.view.geometry.ways (age_at b.bounds c.args.node) =
    subst (λ (h : Bool). IsShown h b.view.geometry.ways (age_at b.bounds c.args.node)) hits_is
    (subst (λ (k : ℕ). IsShown c.self.inside.hits k (age_at b.bounds c.args.node)) ways_is
    (subst (IsShown c.self.inside.hits c.ways.result) c.bound.ensures.bound by_test)) in
    let nodes_are : c.graph.result.now ≡ b.view.nodes =
    c.graph.ensures.same ∙ ap (λ (b : Bounded). b.view.nodes) c.self.view_is in
    let members : List ℕ = reverse c.in_ok-path.path.items in
    attested_path b t are c.args.node c.requires.fetches shown members
    (subst (λ (k : ℕ). IsChain t.entries (Some k) members) here
    (subst (λ (steps : List Step). IsChain (entries_seen steps) (Some c.in-Some.entry) members) c.deref.ensures.value
    c.in_ok-path.ensures.chain))
    (subst (λ (nodes : List Node). IsPath (graph_step nodes) 0 members) nodes_are c.in_ok-path.ensures.path)
