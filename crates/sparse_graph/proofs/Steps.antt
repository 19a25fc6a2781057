-- The steps by which a path is expanded.
use Rattle.std.proofs.Common.{◌≡◌, ◌==◌, ◌⊎◌, ℕ, ◌+◌, ◌-◌, ◌<◌, ◌≤◌, nat_lt, Bool, true, false, cond, inl, inr, List, [], ◌∷◌, ◌++◌, length, take, drop, reverse, get_or, Option, Some, None, refl, ap, sym, ◌∙◌, subst, arith}
use Rattle.std.specs.Prelude.{slice_get}
use Rattle.std.specs.List.{filter_map, cons_option}
use Rattle.std.proofs.lemmas.Bool.Decides.{nat_tests}
use Rattle.std.proofs.lemmas.Option.{same_Some, slice_get_within, slice_get-get_or, get_or_from_slice_get}
use Rattle.transition_spec.specs.Path.{IsPath, IsSuccessor}
use Rattle.path_model.specs.declared.graph.Node.{Node}
use Rattle.path_model.specs.Graph.{graph_step}
use Rattle.path_model.proofs.Edges.{leads-from_successor, successor-from_node, node-from_successor}
use Rattle.path_model.proofs.Reached.{successor_inside}
use Rattle.path_model.proofs.Moves.{IsPath-suffix}
use Rattle.path_model.proofs.Turned.{reverse-more, reverse-split}
use Rattle.sparse_graph.specs.Plan.{IsKept, lead_of, rank_of, origin_of}
use Rattle.sparse_graph.specs.Sparse.{Sparse, IsSparse}
use Rattle.sparse_graph.specs.Expand.{IsExpanded, HasArrived, IsOnWay, choose, toward_by, nearer_by}
use Rattle.sparse_graph.proofs.Edges.{as_many, edge_up}

-- one of two successors is this one
abbrev IsOneOf : Option ℕ → Option ℕ → ℕ → Type 0
IsOneOf first second m = (first ≡ Some m) ⊎ (second ≡ Some m)

-- what is chosen of two numbers, the first of them tested
chosen_by : (passes : ℕ → Bool) (x y m : ℕ) (test : Bool) → passes x ≡ test → IsOneOf (Some x) (Some y) m
    → passes m ≡ true → IsOneOf (Some x) (Some y) (cond test x y) × (passes (cond test x y) ≡ true)
chosen_by passes x y m true test leads passed = (inl refl, test)
chosen_by passes x y m false test leads passed = elim leads [
  | inl is ↦
      let same : x ≡ m = same_Some x m is in
      absurd (let no : passes m ≡ false = ap passes (sym same) ∙ test in cc)
  | inr is ↦ (inr refl, ap passes (same_Some y m is) ∙ passed)
]

-- what is chosen is there and passes, where one of the two does
choose_right : (passes : ℕ → Bool) (first second : Option ℕ) (m : ℕ) → IsOneOf first second m → passes m ≡ true
    → IsOneOf first second (choose passes first second) × (passes (choose passes first second) ≡ true)
choose_right passes None None m leads passed = elim leads [ inl is ↦ absurd (cc) | inr is ↦ absurd (cc) ]
choose_right passes None (Some y) m leads passed = elim leads [
  | inl is ↦ absurd (cc)
  | inr is ↦ (inr refl, ap passes (same_Some y m is) ∙ passed)
]
choose_right passes (Some x) None m leads passed = elim leads [
  | inl is ↦ (inl refl, ap passes (same_Some x m is) ∙ passed)
  | inr is ↦ absurd (cc)
]
choose_right passes (Some x) (Some y) m leads passed = chosen_by passes x y m (passes x) refl leads passed

-- an equation, as a test
test_eq : (a b : ℕ) → a ≡ b → (a == b) ≡ true
test_eq a b same = grind (arith, nat_tests)

--
eq_test : (a b : ℕ) → (a == b) ≡ true → a ≡ b
eq_test a b test = grind (arith, nat_tests)

--
test_lt : (a b : ℕ) → a < b → nat_lt a b ≡ true
test_lt a b less = grind (arith, nat_tests)

--
lt_test : (a b : ℕ) → nat_lt a b ≡ true → a < b
lt_test a b test = grind (arith, nat_tests)

module _ (sparse : Sparse) (is : IsSparse sparse) where
  -- a node with a successor in the sparse graph is one of the kept
  pub from_inside : (from to : ℕ) → IsSuccessor (graph_step sparse.small) from to → from < length sparse.kept
  from_inside from to edge =
      let named = node-from_successor sparse.small from to edge in
      subst (λ (c : ℕ). from < c) (as_many sparse is) (slice_get_within sparse.small from named.0 named.1)

  -- its origin is a node
  pub origin_inside : (from : ℕ) → from < length sparse.kept → origin_of sparse.kept from < length sparse.nodes
  origin_inside from inside =
      (is.plan.own from (origin_of sparse.kept from) (slice_get-get_or sparse.kept from 0 inside)).0

  -- the successor of a kept node toward another
  pub toward_right : (from to : ℕ) (here : Node) → IsSuccessor (graph_step sparse.small) from to
      → slice_get sparse.nodes (origin_of sparse.kept from) ≡ Some here
      → IsSuccessor (graph_step sparse.nodes) (origin_of sparse.kept from)
      (toward_by sparse.leads to here.first here.second)
      × (lead_of sparse.leads (toward_by sparse.leads to here.first here.second) ≡ to)
  toward_right from to here edge found =
      let n : ℕ = origin_of sparse.kept from in
      let next : ℕ = toward_by sparse.leads to here.first here.second in
      let up = edge_up sparse is from n to (slice_get-get_or sparse.kept from 0 (from_inside from to edge)) edge in
      let right = choose_right (λ m. lead_of sparse.leads m == to) here.first here.second up.0
      (leads-from_successor sparse.nodes n up.0 here found up.1) (test_eq (lead_of sparse.leads up.0) to up.2) in
      (successor-from_node sparse.nodes n next here found right.0, eq_test (lead_of sparse.leads next) to right.1)

  -- the nearer successor of a dropped node
  pub nearer_right : (n : ℕ) (here : Node) → n < length sparse.nodes → (IsKept sparse.kept sparse.leads n → ⊥)
      → slice_get sparse.nodes n ≡ Some here
      → IsSuccessor (graph_step sparse.nodes) n (nearer_by sparse.ranks n here.first here.second)
      × (rank_of sparse.ranks (nearer_by sparse.ranks n here.first here.second) < rank_of sparse.ranks n)
  nearer_right n here inside not found =
      let next = (is.plan.dropped n inside not).nearer in
      let rank : ℕ = rank_of sparse.ranks n in
      let chosen : ℕ = nearer_by sparse.ranks n here.first here.second in
      let right = choose_right (λ m. nat_lt (rank_of sparse.ranks m) rank) here.first here.second next.0
      (leads-from_successor sparse.nodes n next.0 here found next.1)
      (test_lt (rank_of sparse.ranks next.0) rank next.2) in
      (successor-from_node sparse.nodes n chosen here found right.0, lt_test (rank_of sparse.ranks chosen) rank right.1)

  -- it leads to where the node does
  pub nearer_lead : (n m : ℕ) → n < length sparse.nodes → (IsKept sparse.kept sparse.leads n → ⊥)
      → IsSuccessor (graph_step sparse.nodes) n m → lead_of sparse.leads m ≡ lead_of sparse.leads n
  nearer_lead n m inside not edge = (is.plan.dropped n inside not).alike m edge

  -- the last member of a path is a node
  pub last_inside : (n : ℕ) (earlier : List ℕ) → IsPath (graph_step sparse.nodes) 0 (n ∷ earlier)
      → n < length sparse.nodes
  last_inside n [] path = subst (λ (k : ℕ). k < length sparse.nodes) (sym path) (is.plan.own 0 0 is.plan.first).0
  last_inside n (d ∷ earlier) path = successor_inside sparse.nodes d n is.whole path.0

  -- a node on its way that isn't its end is dropped
  pub before_end : (to at : ℕ) → lead_of sparse.leads at ≡ to → (at ≡ origin_of sparse.kept to → ⊥)
      → IsKept sparse.kept sparse.leads at → ⊥
  before_end to at lead other kept =
      other
      (sym (get_or_from_slice_get sparse.kept to at 0
      (subst (λ (q : ℕ). slice_get sparse.kept q ≡ Some at) lead kept)))

  -- and the end is kept
  pub end_kept : (to at : ℕ) → at < length sparse.nodes → lead_of sparse.leads at ≡ to → at ≡ origin_of sparse.kept to
      → IsKept sparse.kept sparse.leads at
  end_kept to at inside lead same =
      let here : at ≡ origin_of sparse.kept (lead_of sparse.leads at) =
      same ∙ ap (origin_of sparse.kept) (sym lead) in
      slice_get-get_or sparse.kept (lead_of sparse.leads at) 0 (is.plan.inside at inside) ∙ ap Some (sym here)

  -- a step over a dropped node
  pub way_more : (to at next : ℕ) (before members : List ℕ) → IsOnWay sparse to before at members
      → (IsKept sparse.kept sparse.leads at → ⊥) → IsSuccessor (graph_step sparse.nodes) at next
      → lead_of sparse.leads next ≡ lead_of sparse.leads at → IsOnWay sparse to before next (at ∷ members)
  way_more to at next before members way not edge lead = record {
    is_path = (edge, way.is_path);
    lead = lead ∙ way.lead;
    nothing = λ fetch small_fetch alike.
        ap (λ (o : Option ℕ). cons_option o (filter_map fetch members))
        (alike.none at (last_inside at members way.is_path) not) ∙ way.nothing fetch small_fetch alike;
  }

  -- the way's end
  pub way_done : (to at : ℕ) (before members after : List ℕ) → IsOnWay sparse to before at members
      → IsKept sparse.kept sparse.leads at → after ≡ at ∷ members → HasArrived sparse to before after
  way_done to at before members after way kept is_after = record {
    node = at;
    earlier = members;
    after_is = is_after;
    ends = subst (λ (q : ℕ). slice_get sparse.kept q ≡ Some at) way.lead kept;
    is_path = way.is_path;
    nothing = way.nothing;
  }

  -- a path whose first member stands first begins with node 0
  begins : (path : List ℕ) → IsPath (graph_step sparse.small) 0 (reverse path) → (rest : List ℕ) × (path ≡ 0 ∷ rest)
  begins [] path_is = absurd path_is
  begins (x ∷ rest) path_is =
      let split : reverse (x ∷ rest) ≡ reverse rest ++ x ∷ [] = reverse-split (x ∷ rest) 1 in
      let first = IsPath-suffix (graph_step sparse.small) 0 x (reverse rest) []
      (subst (λ (xs : List ℕ). IsPath (graph_step sparse.small) 0 xs) split path_is) in
      (rest, ap (λ (k : ℕ). k ∷ rest) first)

  -- the first member, expanded
  pub first_expanded : (path whole : List ℕ) → IsPath (graph_step sparse.small) 0 (reverse path)
      → reverse whole ≡ 0 ∷ [] → IsExpanded sparse (reverse (take 1 path)) (reverse whole)
  first_expanded path whole path_is whole_is = record {
    last = 0;
    others = [];
    node = 0;
    earlier = [];
    path_is = ap (λ (xs : List ℕ). reverse (take 1 xs)) (begins path path_is).1;
    whole_is = whole_is;
    ends = is.plan.first;
    is_path = refl;
    alike = λ fetch small_fetch alike. refl;
  }

  -- one member more
  expanded_more : (to : ℕ) (path whole after : List ℕ) → IsExpanded sparse path whole
      → HasArrived sparse to whole after → IsExpanded sparse (to ∷ path) after
  expanded_more to path whole after made arrived = record {
    last = to;
    others = path;
    node = arrived.node;
    earlier = arrived.earlier;
    path_is = refl;
    whole_is = arrived.after_is;
    ends = arrived.ends;
    is_path = arrived.is_path;
    alike = λ fetch small_fetch alike.
        arrived.nothing fetch small_fetch alike
        ∙ (ap (filter_map fetch) made.whole_is
        ∙ (ap (λ (o : Option ℕ). cons_option o (filter_map fetch made.earlier))
        (sym (alike.same made.last made.node made.ends))
        ∙ (ap (cons_option (small_fetch made.last)) (made.alike fetch small_fetch alike)
        ∙ ap (filter_map small_fetch) (sym made.path_is))));
  }

  --
  pub expanded_goes_on : (path whole after : List ℕ) (i to : ℕ) → i < length path → to ≡ get_or path i 0
      → IsExpanded sparse (reverse (take i path)) (reverse whole)
      → HasArrived sparse to (reverse whole) (reverse after)
      → IsExpanded sparse (reverse (take (i + 1) path)) (reverse after)
  expanded_goes_on path whole after i to below same made arrived =
      subst (λ (xs : List ℕ). IsExpanded sparse xs (reverse after)) (sym (reverse-more path i 0 below))
      (expanded_more (get_or path i 0) (reverse (take i path)) (reverse whole) (reverse after) made
      (subst (λ (k : ℕ). HasArrived sparse k (reverse whole) (reverse after)) same arrived))

  -- the edge between two neighbours of a path
  edge_between : (path : List ℕ) (i : ℕ) → i + 1 < length path → IsPath (graph_step sparse.small) 0 (reverse path)
      → IsSuccessor (graph_step sparse.small) (get_or path i 0) (get_or path (i + 1) 0)
  edge_between path i below path_is =
      let step = graph_step sparse.small in
      let a : ℕ = get_or path i 0 in
      let b : ℕ = get_or path (i + 1) 0 in
      let earlier : List ℕ = reverse (take i path) in
      let later : List ℕ = reverse (drop (i + 1 + 1) path) in
      let one : reverse (take (i + 1) path) ≡ a ∷ earlier = reverse-more path i 0 (omega arith) in
      let two : reverse (take (i + 1 + 1) path) ≡ b ∷ a ∷ earlier =
      reverse-more path (i + 1) 0 below ∙ ap (λ (xs : List ℕ). b ∷ xs) one in
      let split : reverse path ≡ later ++ b ∷ a ∷ earlier =
      reverse-split path (i + 1 + 1) ∙ ap (λ (xs : List ℕ). later ++ xs) two in
      (IsPath-suffix step 0 b later (a ∷ earlier) (subst (λ (xs : List ℕ). IsPath step 0 xs) split path_is)).0

  -- the edge from the member before
  pub edge_at : (path : List ℕ) (i : ℕ) → 1 ≤ i → i < length path → IsPath (graph_step sparse.small) 0 (reverse path)
      → IsSuccessor (graph_step sparse.small) (get_or path (i - 1) 0) (get_or path i 0)
  edge_at path i some below path_is =
      let k : ℕ = i - 1 in
      let same : k + 1 ≡ i = omega arith in
      subst (λ (j : ℕ). IsSuccessor (graph_step sparse.small) (get_or path k 0) (get_or path j 0)) same
      (edge_between path k (omega arith) path_is)

  -- the first origin is node 0
  pub first_origin : origin_of sparse.kept 0 ≡ 0
  first_origin = get_or_from_slice_get sparse.kept 0 0 0 is.plan.first

-- what goes on from an expanded path goes on a path
pub expanded_path : (sparse : Sparse) (path whole : List ℕ) (from next : ℕ) → IsExpanded sparse path whole
    → (rest : List ℕ) × (path ≡ from ∷ rest) → IsSuccessor (graph_step sparse.nodes) (origin_of sparse.kept from) next
    → IsPath (graph_step sparse.nodes) 0 (next ∷ whole)
expanded_path sparse path whole from next made front edge =
    let last : made.last ≡ from = cc (made.path_is, front.1) in
    let node : origin_of sparse.kept from ≡ made.node =
    get_or_from_slice_get sparse.kept from made.node 0
    (subst (λ (k : ℕ). slice_get sparse.kept k ≡ Some made.node) last made.ends) in
    subst (λ (xs : List ℕ). IsPath (graph_step sparse.nodes) 0 (next ∷ xs)) (sym made.whole_is)
    (subst (λ (k : ℕ). IsSuccessor (graph_step sparse.nodes) k next) node edge, made.is_path)

-- the members so far end in the one before
pub front_at : (path : List ℕ) (i : ℕ) → 1 ≤ i → i < length path
    → (rest : List ℕ) × (reverse (take i path) ≡ get_or path (i - 1) 0 ∷ rest)
front_at path i some below =
    let k : ℕ = i - 1 in
    let same : k + 1 ≡ i = omega arith in (
      reverse (take k path),
      subst (λ (j : ℕ). reverse (take j path) ≡ get_or path k 0 ∷ reverse (take k path)) same
          (reverse-more path k 0 (omega arith)),
    )
