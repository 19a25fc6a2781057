-- The search at its end, as the graph of all configurations.
use Rattle.std.proofs.Common.{◌≡◌, ℕ, ◌^◌, ◌<◌, ◌≤◌, List, [], ◌∷◌, ◌++◌, length, map, take, drop, Option, Some, None, refl, sym, ap, ◌∙◌, subst, arith, append-nil, IsTrue, Bool, true, false, ◌&&◌}
use Rattle.std.specs.Prelude.{slice_get, Contains, Ok, IsSome, IfSome, IfNone, flat_map}
use Rattle.std.specs.Result.{IsOkAnd}
use Rattle.std.specs.List.{AllByRecursion, AllZip, list_all}
use Rattle.std.specs.Option.{option_to_list}
use Rattle.std.proofs.lemmas.Bool.Decides.{nat_tests}
use Rattle.std.proofs.lemmas.List.{map-append, length-map, get_or-map, take_all, drop_all}
use Rattle.std.proofs.lemmas.Option.{slice_get_within, slice_get-get_or, get_or_from_slice_get}
use Rattle.list_lemmas.proofs.Members.{found-inside, has-map, from-map, each-has, all-from_each}
use Rattle.flow_spec.specs.Program.{Program}
use Rattle.transition_spec.specs.Path.{IsSuccessor}
use Rattle.transition_spec.specs.Layer.{all_of}
use Rattle.flow_spec.specs.Instruction.{IsText}
use Rattle.flow_spec.specs.Acceptance.{Step, IsAccepted, is_good_entry}
use Rattle.flow_spec.specs.Configuration.{Configuration, start_of, fetched}
use Rattle.flow_spec.specs.Successors.{Successors, successors}
use Rattle.path_model.specs.declared.graph.Node.{Node}
use Rattle.path_model.specs.Graph.{IsGraph, address, address_of, graph_step, successors as node_successors, is_fit, are_fit}
use Rattle.path_model.proofs.Edges.{node-from_successor, fit_at, below-from_fit}
use Rattle.frame_stacks.specs.declared.stacks.StackCell.{StackCell}
use Rattle.frame_stacks.specs.Stacks.{AreCells}
use Rattle.call_expand.specs.declared.point.Point.{Point}
use Rattle.call_expand.specs.declared.point.Edges.{Edges}
use Rattle.call_expand.specs.Expansion.{numbered, IsNodeOf, IsGraphOf}
use Rattle.call_expand.specs.Point.{fetched_by, configuration_at, configurations_at, IsPoint, points_of, IsEdge, AreExpanded}
use Rattle.call_expand.specs.Numbers.{AreApart, HasNumber, IsNodeFor, AreNodesFor, AreAmong}
use Rattle.call_expand.specs.Search.{IsWalked, IsAt}
use Rattle.call_expand.proofs.Zipped.{all-weaker, all-map, zip-length, zip-at}
use Rattle.call_expand.proofs.Ordered.{point, same_point}
use Rattle.call_expand.proofs.Texts.{good-text}
use Rattle.call_expand.proofs.Edges.{point-at}
use Rattle.call_expand.proofs.Walked.{walked_begin, accepted}
use Rattle.call_expand.proofs.Layer.{edge-from, edges-points}
use Rattle.call_expand.proofs.Paths.{links}
use Rattle.call_expand.proofs.Numbered.{listed-at}

-- the number is that of a successor of the node
abbrev IsSuccessorBy : Option Node → ℕ → Type 0
IsSuccessorBy o m = IsOkAnd (node_successors o) (λ s. Contains s m)

-- without cells there is the stack without frames alone
cells-none : AreCells []
cells-none = record { below = λ k cell found. absurd (cc); alone = λ s t first second same. omega arith }

-- the entry alone
begin_at : (program : Program) → program.entry < 2 ^ 32 → IsTrue (is_good_entry program)
    → IsAt program [] (point program.entry 0 ∷ []) [] 0
begin_at program fits good = record {
  are_cells = cells-none;
  are_points = (
    point-at program.entry 0 (omega arith) (good-text program.isa program.image program.entry good) fits,
    tt,
  );
  within = omega arith;
  each = tt;
  room = omega arith;
  walked = walked_begin (successors program) program good;
}

-- the entry alone, as the calls have made it
pub at_begin : (program : Program) (cells : List StackCell) (points : List Point) (edges : List Edges)
    → cells ≡ []
    → points ≡ point program.entry 0 ∷ [] → edges ≡ [] → program.entry < 2 ^ 32 → IsTrue (is_good_entry program)
    → IsAt program cells points edges 0
at_begin program cells points edges no_cells one no_edges fits good =
    let Q : List StackCell → Type 0 = λ cells. IsAt program cells points edges 0 in
    let R : List Point → Type 0 = λ points. IsAt program [] points edges 0 in
    let S : List Edges → Type 0 = λ edges. IsAt program [] (point program.entry 0 ∷ []) edges 0 in
    subst Q (sym no_cells) (subst R (sym one) (subst S (sym no_edges) (begin_at program fits good)))

-- two tests that hold, hold together
both-true : (a b : Bool) → IsTrue a → IsTrue b → IsTrue (a && b)
both-true true b first second = second
both-true false b first second = first

-- the configuration of a point with a number
numbered-point : (cells : List StackCell) (points : List Point) (n : ℕ) (p : Point) → slice_get points n ≡ Some p
    → numbered (configurations_at cells points) n ≡ configuration_at cells p
numbered-point cells points n p at =
    get_or-map (configuration_at cells) points n p (start_of 0) (slice_get_within points n p at)
    ∙ ap (configuration_at cells) (get_or_from_slice_get points n p p at)

-- a node has the address that its configuration fetches
pub fetch-at : (cells : List StackCell) (points : List Point) (nodes : List Node) (n : ℕ) (p : Point) (node : Node)
    → AllZip (λ point node. node.at ≡ fetched_by point) points nodes → length nodes ≡ length points → n < length nodes
    → address_of nodes n ≡ fetched (numbered (configurations_at cells points) n)
fetch-at cells points nodes n p node fetches as_many below =
    let within : n < length points = omega (arith, as_many, below) in
    ap address (slice_get-get_or nodes n node below)
    ∙ zip-at (λ point node. node.at ≡ fetched_by point) points nodes n p node fetches within
    ∙ sym (ap fetched (get_or-map (configuration_at cells) points n p (start_of 0) within))

-- the numbers of points are those of their configurations
number-list : (cells : List StackCell) (points : List Point) (o : Option Point) (n : Option ℕ) → HasNumber points o n
    → map (configuration_at cells) (option_to_list o)
    ≡ map (numbered (configurations_at cells points)) (option_to_list n)
number-list cells points None None has = refl
number-list cells points None (Some n) has = absurd has
number-list cells points (Some p) None has = absurd has
number-list cells points (Some p) (Some n) has =
    ap (λ (c : Configuration). c ∷ []) (sym (numbered-point cells points n p has))

module _ (step : Step) (program : Program) (cells : List StackCell) (all : List Point) where
  -- the node of a point is that of its configuration
  node-is : (p : Point) (edge : Edges) (node : Node) → IsEdge step program cells p edge → IsNodeFor all p edge node
      → IsNodeOf step (configurations_at cells all) (configuration_at cells p) node
  node-is p edge node is for = record {
    at = for.at;
    goes =
        is.goes
        ∙ ap (λ cs. Ok cs) (map-append (configuration_at cells) (option_to_list edge.first) (option_to_list edge.second)
        ∙ ap (λ cs. cs ++ map (configuration_at cells) (option_to_list edge.second))
        (number-list cells all edge.first node.first for.first)
        ∙ ap (λ cs. map (numbered (configurations_at cells all)) (option_to_list node.first) ++ cs)
        (number-list cells all edge.second node.second for.second)
        ∙ sym (map-append (numbered (configurations_at cells all)) (option_to_list node.first)
        (option_to_list node.second)));
  }

  -- the nodes of some points are those of their configurations
  nodes-are : (points : List Point) (edges : List Edges) (nodes : List Node)
      → AllZip (IsEdge step program cells) points edges
      → AreNodesFor all points edges nodes
      → AllZip (IsNodeOf step (configurations_at cells all)) (configurations_at cells points) nodes
  nodes-are [] [] [] each are = tt
  nodes-are [] [] (node ∷ nodes) each are = absurd are
  nodes-are [] (edge ∷ edges) nodes each are = absurd each
  nodes-are (p ∷ points) [] nodes each are = absurd each
  nodes-are (p ∷ points) (edge ∷ edges) [] each are = absurd are
  nodes-are (p ∷ points) (edge ∷ edges) (node ∷ nodes) each are =
      (node-is p edge node each.0 are.0, nodes-are points edges nodes each.1 are.1)

  -- each node has the address that its point fetches
  nodes-fetch : (points : List Point) (edges : List Edges) (nodes : List Node) → AreNodesFor all points edges nodes
      → AllZip (λ point node. node.at ≡ fetched_by point) points nodes
  nodes-fetch [] [] [] are = tt
  nodes-fetch [] [] (node ∷ nodes) are = absurd are
  nodes-fetch [] (edge ∷ edges) nodes are = absurd are
  nodes-fetch (p ∷ points) [] nodes are = absurd are
  nodes-fetch (p ∷ points) (edge ∷ edges) [] are = absurd are
  nodes-fetch (p ∷ points) (edge ∷ edges) (node ∷ nodes) are = (are.0.at, nodes-fetch points edges nodes are.1)

  -- the numbers of edges are fit
  fit-by : (first second : Option Point) (one other : Option ℕ) → HasNumber all first one → HasNumber all second other
      → (first ≡ None → second ≡ None)
      → ((a b : Point) → first ≡ Some a → second ≡ Some b → a.at ≡ b.at → ⊥) → IsTrue (are_fit (length all) one other)
  fit-by None None None None has also order apart = refl
  fit-by None None None (Some n) has also order apart = absurd also
  fit-by None None (Some m) other has also order apart = absurd has
  fit-by None (Some q) one other has also order apart = absurd (cc (order refl))
  fit-by (Some p) second None other has also order apart = absurd has
  fit-by (Some p) None (Some m) None has also order apart =
      let below : m < length all = slice_get_within all m p has in grind (arith, nat_tests)
  fit-by (Some p) None (Some m) (Some n) has also order apart = absurd also
  fit-by (Some p) (Some q) (Some m) None has also order apart = absurd also
  fit-by (Some p) (Some q) (Some m) (Some n) has also order apart =
      let first : m < length all = slice_get_within all m p has in
      let second : n < length all = slice_get_within all n q also in
      let other : m ≡ n → ⊥ = λ same.
      let P : ℕ → Type 0 = λ m. slice_get all m ≡ Some p in
      let both : Some p ≡ Some q = sym (subst P same has) ∙ also in
      let one : p ≡ q = cc in
      apart p q refl refl (ap (λ (p : Point). p.at) one) in
      grind (arith, nat_tests)

  -- the numbers of some nodes are fit
  nodes-fit : (points : List Point) (edges : List Edges) (nodes : List Node)
      → AllZip (IsEdge step program cells) points edges
      → AreNodesFor all points edges nodes → IsTrue (list_all (is_fit (length all)) nodes)
  nodes-fit [] [] [] each are = refl
  nodes-fit [] [] (node ∷ nodes) each are = absurd are
  nodes-fit [] (edge ∷ edges) nodes each are = absurd each
  nodes-fit (p ∷ points) [] nodes each are = absurd each
  nodes-fit (p ∷ points) (edge ∷ edges) [] each are = absurd are
  nodes-fit (p ∷ points) (edge ∷ edges) (node ∷ nodes) each are =
      let here : IsTrue (is_fit (length all) node) =
      fit-by edge.first edge.second node.first node.second are.0.first are.0.second each.0.first each.0.apart in
      let rest = nodes-fit points edges nodes each.1 are.1 in
      both-true (is_fit (length all) node) (list_all (is_fit (length all)) nodes) here rest

-- each node that is there has its successors among the nodes
module _ {program : Program} {cells : List StackCell} {points : List Point} {edges : List Edges}
    (at : IsAt program cells points edges (length points)) where
  -- the configurations of all points
  abbrev all_configurations : List Configuration
  all_configurations = configurations_at cells points

  -- all points are followed
  prefix : take (length points) points ≡ points
  prefix = take_all (length points) points (omega arith)

  -- no point is left
  back : drop (length points) points ≡ []
  back = drop_all (length points) points (omega arith)

  -- each point has its edges
  each : AllZip (IsEdge (successors program) program cells) points edges
  each =
      let P : List Point → Type 0 =
      λ ps. AllZip (IsEdge (successors program) program cells) ps edges in subst P prefix at.each

  -- the last layer is empty
  walked : IsWalked (successors program) program all_configurations []
  walked =
      let P : List Point → Type 0 =
      λ ps. IsWalked (successors program) program (configurations_at cells ps)
      (configurations_at cells (drop (length points) points)) in
      let Q : List Point → Type 0 =
      λ ps. IsWalked (successors program) program all_configurations (configurations_at cells ps) in
      subst Q back (subst P prefix at.walked)

  -- the program is accepted
  pub is_accepted : (configurations : List Configuration) → configurations ≡ configurations_at cells points
      → (layers : List (List Configuration)) × IsAccepted (successors program) program layers
      × (configurations ≡ all_of layers)
  is_accepted configurations same = (
    walked.earlier,
    accepted (successors program) program all_configurations [] walked refl,
    same
        ∙ sym walked.all,
  )

  -- its configurations are in the text
  pub are_texts : (configurations : List Configuration) → configurations ≡ configurations_at cells points
      → AllByRecursion (λ c. IsText program.isa program.image c.at) configurations
  are_texts configurations same =
      let P : List Configuration → Type 0 = λ cs. AllByRecursion (λ c. IsText program.isa program.image c.at) cs in
      subst P (sym same)
      (all-map (λ (c : Configuration). IsText program.isa program.image c.at) (configuration_at cells) points
      (all-weaker (IsPoint program cells) (λ p. IsText program.isa program.image p.at) (λ p is. is.text) points
      at.are_points))

  -- the points fetch addresses
  pub are_fit_points : AllByRecursion (λ point. fetched_by point < 2 ^ 32) points
  are_fit_points =
      all-weaker (IsPoint program cells) (λ p. fetched_by p < 2 ^ 32) (λ p is. is.fits) points at.are_points

  -- there are edges for each point
  pub edges_long : length edges ≡ length points
  edges_long = sym (zip-length (IsEdge (successors program) program cells) points edges each)

  -- the edges lead to points that are there
  pub edges_among : AreAmong points (flat_map points_of edges)
  edges_among = all-from_each (Contains points) (flat_map points_of edges) (λ p has.
      let q = edge-from (successors program) program cells points edges p each has in
      let P : List Configuration → Type 0 = λ cs. Contains cs (configuration_at cells p) in
      let closed = walked.searched.closed (configuration_at cells q.0) (configuration_at cells p)
      (has-map (configuration_at cells) points q.0 q.1) q.2 in
      let r =
      from-map (configuration_at cells) points (configuration_at cells p)
      (subst P (append-nil all_configurations) closed) in
      let is =
      each-has (IsPoint program cells) (flat_map points_of edges)
      (edges-points (successors program) program cells points edges each) p has in
      let known = each-has (IsPoint program cells) points at.are_points r.0 r.1 in
      let one : r.0 ≡ p = same_point cells r.0 p at.are_cells known.known is.known r.2 in
      let Q : Point → Type 0 = λ p. Contains points p in
      subst Q one r.1)

  module _ (apart : AreApart points) where
    -- no two configurations are equal
    configurations_apart : (n m : ℕ) → n < length all_configurations → m < length all_configurations
        → numbered all_configurations n ≡ numbered all_configurations m → n ≡ m
    configurations_apart n m first second same =
        let long : length all_configurations ≡ length points = length-map points (configuration_at cells) in
        let p = found-inside points n (omega (arith, long)) in
        let q = found-inside points m (omega (arith, long)) in
        let are = sym (numbered-point cells points n p.0 p.1) ∙ same ∙ numbered-point cells points m q.0 q.1 in
        let first_is = each-has (IsPoint program cells) points at.are_points p.0 (listed-at points n p.0 p.1) in
        let second_is = each-has (IsPoint program cells) points at.are_points q.0 (listed-at points m q.0 q.1) in
        let one : p.0 ≡ q.0 = same_point cells p.0 q.0 at.are_cells first_is.known second_is.known are in
        let P : Point → Type 0 = λ p. slice_get points n ≡ Some p in
        apart n m q.0 (subst P one p.1) q.1

    module _ (nodes : List Node) (are : AreNodesFor points points edges nodes) where
      -- the nodes are those of all configurations
      nodes_of_all : AllZip (IsNodeOf (successors program) all_configurations) all_configurations nodes
      nodes_of_all = nodes-are (successors program) program cells points points edges nodes each are

      -- there is a node for each point
      pub nodes_long : length nodes ≡ length points
      nodes_long =
          sym (zip-length (IsNodeOf (successors program) all_configurations) all_configurations nodes nodes_of_all)
          ∙ length-map points (configuration_at cells)

      -- all nodes are fit
      all_fit : IsTrue (list_all (is_fit (length nodes)) nodes)
      all_fit =
          let P : ℕ → Type 0 = λ count. IsTrue (list_all (is_fit count) nodes) in
          subst P (sym nodes_long) (nodes-fit (successors program) program cells points points edges nodes each are)

      -- a successor of a configuration is the number of a successor of its node
      back_to : (n m : ℕ) → n < length nodes → m < length nodes
          → IsSuccessor (successors program) (numbered all_configurations n) (numbered all_configurations m)
          → IsSuccessor (graph_step nodes) n m
      back_to n m first second follows =
          let node = found-inside nodes n first in
          let long : length all_configurations ≡ length points = length-map points (configuration_at cells) in
          let P : Node → Type 0 =
          λ node. IsNodeOf (successors program) all_configurations (numbered all_configurations n) node in
          let is = subst P (get_or_from_slice_get nodes n node.0 node.0 node.1)
          (zip-at (IsNodeOf (successors program) all_configurations) all_configurations nodes n (start_of 0) node.0
          nodes_of_all
          (omega (arith, long, nodes_long, first))) in
          let Q : Successors → Type 0 = λ r. IsOkAnd r (λ s. Contains s (numbered all_configurations m)) in
          let k =
          from-map (numbered all_configurations) (links node.0.first node.0.second) (numbered all_configurations m)
          (subst Q is.goes follows) in
          let R : Option Node → Type 0 = λ o. IsSuccessorBy o k.0 in
          let to : IsSuccessor (graph_step nodes) n k.0 = subst R (sym node.1) k.1 in
          let leads = node-from_successor nodes n k.0 to in
          let below =
          below-from_fit (length nodes) k.0 leads.0 (fit_at nodes (length nodes) n leads.0 all_fit leads.1) leads.2 in
          let one : k.0 ≡ m =
          configurations_apart k.0 m (omega (arith, long, nodes_long, below)) (omega (arith, long, nodes_long, second))
          k.2 in
          let S : ℕ → Type 0 = λ m. IsSuccessor (graph_step nodes) n m in
          subst S one to

      -- the nodes are a graph
      pub is_graph : IsGraph nodes
      is_graph =
          let long : length all_configurations ≡ length points = length-map points (configuration_at cells) in
          let joined : length (all_configurations ++ []) ≡ length nodes =
          ap length (append-nil all_configurations) ∙ long ∙ sym nodes_long in
          record {
            some = omega (arith, walked.some, joined);
            few = omega (arith, walked.few, joined);
            fit = all_fit;
            reached = λ m one below.
                let from = walked.follow_smaller m one (omega (arith, below, joined)) in
                let P : List Configuration → Type 0 =
                λ cs. IsSuccessor (successors program) (numbered cs from.0) (numbered cs m) in (
                  from.0,
                  from.1,
                  back_to from.0 m (omega (arith, from.1, below)) below
                      (subst P (append-nil all_configurations) from.2),
                );
          }

      -- the nodes are the graph of all configurations
      graph_of_all : IsGraphOf (successors program) program.entry all_configurations nodes
      graph_of_all = record {
        begins =
            ap (λ (cs : List Configuration). numbered cs 0) (sym (append-nil all_configurations)) ∙ walked.begins;
        each = nodes_of_all;
        graph = is_graph;
        apart = configurations_apart;
      }

      -- the graph that the calls have made is that of the configurations
      pub is_graph_of : (configurations : List Configuration) (graph : List Node)
          → configurations ≡ configurations_at cells points → graph ≡ nodes
          → IsGraphOf (successors program) program.entry configurations graph
      is_graph_of configurations graph same same_nodes =
          let P : List Configuration → Type 0 = λ cs. IsGraphOf (successors program) program.entry cs graph in
          let Q : List Node → Type 0 = λ nodes. IsGraphOf (successors program) program.entry all_configurations nodes in
          subst P (sym same) (subst Q (sym same_nodes) graph_of_all)

      -- the points and nodes belong together
      pub are_expanded : (graph : List Node) → graph ≡ nodes → AreExpanded cells points graph
      are_expanded graph same =
          let P : List Node → Type 0 = IsGraph in
          let Fetches : List Node → Type 0 = λ nodes. AllZip (λ point node. node.at ≡ fetched_by point) points nodes in
          record {
            known =
                all-weaker (IsPoint program cells) (λ p. p.stack ≤ length cells) (λ p is. is.known) points
                at.are_points;
            are_cells = at.are_cells;
            graph = subst P (sym same) is_graph;
            as_many = ap length same ∙ nodes_long;
            fetches = subst Fetches (sym same)
                (nodes-fetch (successors program) program cells points points edges nodes are);
          }

-- there is a value, where a property of none can't hold
pub some-from : {X A : Type 0} (o : Option X) → IfNone o (A → ⊥) → A → IsSome o
some-from None never holds = absurd (never holds)
some-from (Some x) never holds = refl

-- the value that is there is the one that each value is
pub same-at : {X : Type 0} (o : Option X) (x y : X) → o ≡ Some x → IfSome o (λ z. z ≡ y) → x ≡ y
same-at {X = X} o x y is same = let P : Option X → Type 0 = λ o. IfSome o (λ z. z ≡ y) in subst P is same
