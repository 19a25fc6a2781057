-- The paths of the graph are the paths of the configurations, member by member and with the same letters.
use Rattle.std.proofs.Common.{◌≡◌, ℕ, ◌<◌, ◌⊎◌, inl, inr, ⊎_elim, List, [], ◌∷◌, ◌++◌, length, map, Option, Some, None, refl, ap, sym, ◌∙◌, subst, arith, codes}
use Rattle.std.specs.Prelude.{slice_get, Ok, Contains}
use Rattle.std.specs.Result.{IsOkAnd}
use Rattle.std.specs.Option.{option_to_list}
use Rattle.std.proofs.lemmas.Option.{slice_get_within, get_or_from_slice_get}
use Rattle.list_lemmas.proofs.Members.{found-inside, has-map, from-map}
use Rattle.transition_spec.specs.Path.{IsPath, IsSuccessor, IsLetter, HasChoices}
use Rattle.flow_spec.specs.Acceptance.{Step}
use Rattle.flow_spec.specs.Configuration.{Configuration, start_of, fetched}
use Rattle.flow_spec.specs.Successors.{Successors}
use Rattle.flow_spec.specs.declared.fault.FlowFault.{FlowFault}
use Rattle.path_model.specs.declared.graph.Node.{Node}
use Rattle.path_model.specs.Graph.{successors, graph_step, address, address_of}
use Rattle.path_model.proofs.Edges.{LeadsTo, node-from_successor, fit_at, below-from_fit}
use Rattle.call_expand.specs.Expansion.{numbered, IsNodeOf, IsGraphOf}
use Rattle.call_expand.proofs.Zipped.{zip-length, zip-at}

-- the numbers of a node's successors
abbrev pub links : Option ℕ → Option ℕ → List ℕ
links first second = option_to_list first ++ option_to_list second

-- the successors of a node that is there
listed : (o : Option Node) (m : ℕ) → IsOkAnd (successors o) (λ s. Contains s m)
    → (node : Node) × (o ≡ Some node) × Contains (links node.first node.second) m
listed None m none = absurd none
listed (Some node) m has = (node, refl, has)

module _ (step : Step) (entry : ℕ) (configurations : List Configuration) (nodes : List Node)
    (is : IsGraphOf step entry configurations nodes) where
  -- there is a node for each configuration
  as_many : length configurations ≡ length nodes
  as_many = zip-length (IsNodeOf step configurations) configurations nodes is.each

  -- a node is that of the configuration with its number
  pub node_at : (n : ℕ) (node : Node) → slice_get nodes n ≡ Some node
      → IsNodeOf step configurations (numbered configurations n) node
  node_at n node found =
      let below = slice_get_within nodes n node found in
      let P : Node → Type 0 = λ node. IsNodeOf step configurations (numbered configurations n) node in
      subst P (get_or_from_slice_get nodes n node node found)
      (zip-at (IsNodeOf step configurations) configurations nodes n (start_of 0) node is.each
      (omega (arith, as_many, below)))

  -- a successor is the number of a node
  inside : (n m : ℕ) → IsSuccessor (graph_step nodes) n m → m < length nodes
  inside n m follows =
      let from = node-from_successor nodes n m follows in
      below-from_fit (length nodes) m from.0 (fit_at nodes (length nodes) n from.0 is.graph.fit from.1) from.2

  -- each member of a path is
  pub member_inside : (n : ℕ) (earlier : List ℕ) → IsPath (graph_step nodes) 0 (n ∷ earlier) → n < length nodes
  member_inside n [] path = omega (arith, path, is.graph.some)
  member_inside m (n ∷ earlier) path = inside n m path.0

  -- a move of the graph is one of the configurations
  follow_to : (n m : ℕ) → IsSuccessor (graph_step nodes) n m
      → IsSuccessor step (numbered configurations n) (numbered configurations m)
  follow_to n m follows =
      let from = listed (slice_get nodes n) m follows in
      let P : Successors → Type 0 = λ r. IsOkAnd r (λ s. Contains s (numbered configurations m)) in
      subst P (sym (node_at n from.0 from.1).goes)
      (has-map (numbered configurations) (links from.0.first from.0.second) m from.2)

  -- a move of the configurations is one of the graph
  follow_from : (n : ℕ) (d : Configuration) → n < length nodes → IsSuccessor step (numbered configurations n) d
      → (m : ℕ) × IsSuccessor (graph_step nodes) n m × (numbered configurations m ≡ d)
  follow_from n d below follows =
      let node = found-inside nodes n below in
      let P : Successors → Type 0 = λ r. IsOkAnd r (λ s. Contains s d) in
      let has =
      from-map (numbered configurations) (links node.0.first node.0.second) d
      (subst P (node_at n node.0 node.1).goes follows) in
      let Q : Option Node → Type 0 = λ o. IsOkAnd (successors o) (λ s. Contains s has.0) in
      (has.0, subst Q (sym node.1) has.1, has.2)

  -- a path of the graph is one of the configurations
  pub path_to : (members : List ℕ) → IsPath (graph_step nodes) 0 members
      → IsPath step (start_of entry) (map (numbered configurations) members)
  path_to [] path = path
  path_to (n ∷ []) path = ap (numbered configurations) path ∙ is.begins
  path_to (m ∷ n ∷ earlier) path = (follow_to n m path.0, path_to (n ∷ earlier) path.1)

  -- one member more
  path_more : (d c : Configuration) (earlier : List Configuration) → IsSuccessor step c d
      → (members : List ℕ) × IsPath (graph_step nodes) 0 members × (map (numbered configurations) members ≡ c ∷ earlier)
      → (members : List ℕ) × IsPath (graph_step nodes) 0 members
      × (map (numbered configurations) members ≡ d ∷ c ∷ earlier)
  path_more d c earlier follows ([], path, same) = absurd path
  path_more d c earlier follows (n ∷ members, path, same) =
      let here : numbered configurations n ≡ c = cc in
      let P : Configuration → Type 0 = λ c. IsSuccessor step c d in
      let to = follow_from n d (member_inside n members path) (subst P (sym here) follows) in
      (to.0 ∷ n ∷ members, (to.1, path), cc (to.2, same))

  -- a path of the configurations is one of the graph
  pub path_from : (path : List Configuration) → IsPath step (start_of entry) path
      → (members : List ℕ) × IsPath (graph_step nodes) 0 members × (map (numbered configurations) members ≡ path)
  path_from [] path = absurd path
  path_from (c ∷ []) path = (0 ∷ [], refl, ap (λ c. c ∷ []) (is.begins ∙ sym path))
  path_from (d ∷ c ∷ earlier) path = path_more d c earlier path.0 (path_from (c ∷ earlier) path.1)

  -- a node fetches the address of its configuration
  pub address_at : (n : ℕ) → n < length nodes → address_of nodes n ≡ fetched (numbered configurations n)
  address_at n below = let node = found-inside nodes n below in ap address node.1 ∙ (node_at n node.0 node.1).at

  -- the addresses of the members are those of their configurations
  pub path_addresses : (members : List ℕ) → IsPath (graph_step nodes) 0 members
      → map (address_of nodes) members ≡ map fetched (map (numbered configurations) members)
  path_addresses [] path = refl
  path_addresses (n ∷ []) path = ap (λ a. a ∷ []) (address_at n (member_inside n [] path))
  path_addresses (m ∷ n ∷ earlier) path =
      cc (address_at m (member_inside m (n ∷ earlier) path), path_addresses (n ∷ earlier) path.1)

  -- the letter of a move of the graph is that of the move of the configurations
  letter_to : (first second : Option ℕ) (m : ℕ) (letter : List ℕ)
      → IsLetter {C = ℕ} {F = Unit {0}} (Ok (links first second)) m letter
      → IsLetter {C = Configuration} {F = FlowFault} (Ok (map (numbered configurations) (links first second)))
      (numbered configurations m) letter
  letter_to None None m letter has = has
  letter_to None (Some b) m letter has = has
  letter_to (Some a) None m letter has = has
  letter_to (Some a) (Some b) m letter has =
      ⊎_elim
      (λ (n : (m ≡ a) × (letter ≡ codes "n")). inl (ap (numbered configurations) n.0, n.1))
      (λ (t : (m ≡ b) × (letter ≡ codes "t")). inr (ap (numbered configurations) t.0, t.1))
      has

  -- a letter of the configurations of links is one of the links
  letter_from : (first second : Option ℕ) (m : ℕ) (letter : List ℕ) → m < length nodes
      → ((a : ℕ) → (first ≡ Some a) ⊎ (second ≡ Some a) → a < length nodes)
      → IsLetter {C = Configuration} {F = FlowFault} (Ok (map (numbered configurations) (links first second)))
      (numbered configurations m) letter
      → IsLetter {C = ℕ} {F = Unit {0}} (Ok (links first second)) m letter
  letter_from None None m letter below fit has = has
  letter_from None (Some b) m letter below fit has = has
  letter_from (Some a) None m letter below fit has = has
  letter_from (Some a) (Some b) m letter below fit has =
      ⊎_elim
      (λ (n : (numbered configurations m ≡ numbered configurations a) × (letter ≡ codes "n")).
      inl (is.apart m a (omega (arith, as_many)) (omega (arith, as_many, fit a (inl refl))) n.0, n.1))
      (λ (t : (numbered configurations m ≡ numbered configurations b) × (letter ≡ codes "t")).
      inr (is.apart m b (omega (arith, as_many)) (omega (arith, as_many, fit b (inr refl))) t.0, t.1))
      has

  -- a letter of a node is one of its configuration
  move_to : (n m : ℕ) (letter : List ℕ) → n < length nodes → IsLetter (graph_step nodes n) m letter
      → IsLetter (step (numbered configurations n)) (numbered configurations m) letter
  move_to n m letter below has =
      let node = found-inside nodes n below in
      let P : Option Node → Type 0 = λ o. IsLetter (successors o) m letter in
      let Q : Successors → Type 0 = λ r. IsLetter r (numbered configurations m) letter in
      subst Q (sym (node_at n node.0 node.1).goes) (letter_to node.0.first node.0.second m letter (subst P node.1 has))

  -- a letter of a configuration is one of its node
  move_from : (n m : ℕ) (letter : List ℕ) → n < length nodes → m < length nodes
      → IsLetter (step (numbered configurations n)) (numbered configurations m) letter
      → IsLetter (graph_step nodes n) m letter
  move_from n m letter below within has =
      let node = found-inside nodes n below in
      let P : Option Node → Type 0 = λ o. IsLetter (successors o) m letter in
      let Q : Successors → Type 0 = λ r. IsLetter r (numbered configurations m) letter in
      let fit = λ (a : ℕ) (leads : LeadsTo node.0 a).
      below-from_fit (length nodes) a node.0 (fit_at nodes (length nodes) n node.0 is.graph.fit node.1) leads in
      subst P (sym node.1) (letter_from node.0.first node.0.second m letter within fit
      (subst Q (node_at n node.0 node.1).goes has))

  -- the choices of a path of the graph are those of the configurations
  pub choices_to : (members choices : List ℕ) → IsPath (graph_step nodes) 0 members
      → HasChoices (graph_step nodes) members choices
      → HasChoices step (map (numbered configurations) members) choices
  choices_to [] choices path has = has
  choices_to (n ∷ []) choices path has = has
  choices_to (m ∷ n ∷ earlier) choices path has = (
    has.0,
    has.1,
    choices_to (n ∷ earlier) has.0 path.1 has.2,
    move_to n m has.1 (member_inside n earlier path.1) has.3,
    has.4,
  )

  -- the choices of the configurations of a path are those of the path
  pub choices_from : (members choices : List ℕ) → IsPath (graph_step nodes) 0 members
      → HasChoices step (map (numbered configurations) members) choices → HasChoices (graph_step nodes) members choices
  choices_from [] choices path has = has
  choices_from (n ∷ []) choices path has = has
  choices_from (m ∷ n ∷ earlier) choices path has = (
    has.0,
    has.1,
    choices_from (n ∷ earlier) has.0 path.1 has.2,
    move_from n m has.1 (member_inside n earlier path.1) (inside n m path.0) has.3,
    has.4,
  )
