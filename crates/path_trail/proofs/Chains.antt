-- The chain of an entry of a trail, and the path that it is.
use Rattle.std.proofs.Common.{◌≡◌, ℕ, ◌+◌, ◌<◌, List, [], ◌∷◌, ◌++◌, length, Option, Some, None, sym, subst, arith, append_assoc, append-nil}
use Rattle.transition_spec.specs.Path.{IsPath, IsSuccessor}
use Rattle.path_model.specs.declared.graph.Node.{Node}
use Rattle.path_model.specs.Graph.{graph_step}
use Rattle.path_trail.specs.Trail.{TrailEntry, node_at, earlier_at, IsChain, LeadsOn, IsTrail}

-- with a chain of what stands before it, a node that is led to ends a path
path-after : (nodes : List Node) (entries : List TrailEntry) → IsTrail nodes entries
    → (members : List ℕ) (number : ℕ) (before : Option ℕ) (node : ℕ)
    → number < length entries → LeadsOn nodes entries number before node → IsChain entries before members
    → IsPath (graph_step nodes) 0 (node ∷ members)
path-after nodes entries trail [] number None node inside leads chain = leads
path-after nodes entries trail (x ∷ members) number None node inside leads chain = absurd chain
path-after nodes entries trail [] number (Some earlier) node inside leads chain = absurd chain
path-after nodes entries trail (x ∷ members) number (Some earlier) node inside leads chain =
    let smaller : earlier < number = leads.0 in
    let there : earlier < length entries = omega arith in (
      subst (λ (n : ℕ). IsSuccessor (graph_step nodes) n node) (sym chain.0) leads.1,
      path-after nodes entries trail members earlier (earlier_at entries earlier) x there
          (subst (λ (n : ℕ). LeadsOn nodes entries earlier (earlier_at entries earlier) n) (sym chain.0)
          (trail earlier there)) chain.1,
    )

-- the chain of an entry is a path
pub IsPath-chain : (nodes : List Node) (entries : List TrailEntry) (number : ℕ) (members : List ℕ)
    → IsTrail nodes entries → number < length entries
    → IsChain entries (Some number) members → IsPath (graph_step nodes) 0 members
IsPath-chain nodes entries number [] trail inside chain = absurd chain
IsPath-chain nodes entries number (node ∷ members) trail inside chain =
    path-after nodes entries trail members number (earlier_at entries number) node inside
    (subst (λ (n : ℕ). LeadsOn nodes entries number (earlier_at entries number) n) (sym chain.0) (trail number inside))
    chain.1

-- these members and any chain of the entry to go on with are a chain of the first entry
pub record IsPrefix (entries : List TrailEntry) (first : ℕ) (members : List ℕ) (next : Option ℕ) : Type 0 where
  pub inside : (number : ℕ) → next ≡ Some number → number < length entries
  pub goes_on : (rest : List ℕ) → IsChain entries next rest → IsChain entries (Some first) (members ++ rest)

-- at first there are no members
pub prefix_none : (entries : List TrailEntry) (first : ℕ) (members : List ℕ) → first < length entries → members ≡ []
    → IsPrefix entries first members (Some first)
prefix_none entries first members within none = record {
  inside = λ number same. let equal : first ≡ number = cc in omega arith;
  goes_on = λ rest chain. subst (λ (prefix : List ℕ). IsChain entries (Some first) (prefix ++ rest)) (sym none) chain;
}

-- the entry before one that leads on has a smaller number
pub before_smaller : (nodes : List Node) (entries : List TrailEntry) (number : ℕ) (before : Option ℕ) (node earlier : ℕ)
    → LeadsOn nodes entries number before node
    → before ≡ Some earlier → earlier < number
before_smaller nodes entries number None node earlier leads same = absurd (cc)
before_smaller nodes entries number (Some other) node earlier leads same =
    let equal : other ≡ earlier = cc in
    let smaller : other < number = leads.0 in
    omega arith

-- one member more
pub prefix_more : (nodes : List Node) (entries : List TrailEntry) (first number node : ℕ) (members more : List ℕ)
    (next before : Option ℕ) → IsTrail nodes entries
    → IsPrefix entries first members next → next ≡ Some number → node ≡ node_at entries number
    → before ≡ earlier_at entries number
    → more ≡ members ++ node ∷ [] → IsPrefix entries first more before
prefix_more nodes entries first number node members more next before trail prefix at node_is before_is more_is =
    let there : number < length entries = prefix.inside number at in
    record {
      inside = λ earlier same.
          let smaller = before_smaller nodes entries number before _ earlier
          (subst (λ (o : Option ℕ). LeadsOn nodes entries number o (node_at entries number)) (sym before_is)
          (trail number there)) same in
          omega arith;
      goes_on = λ rest chain.
          let whole : IsChain entries (Some number) (node ∷ rest) =
          (node_is, subst (λ (o : Option ℕ). IsChain entries o rest) before_is chain) in
          let on = prefix.goes_on (node ∷ rest) (subst (λ (o : Option ℕ). IsChain entries o (node ∷ rest)) (sym at)
          whole) in
          subst (λ (xs : List ℕ). IsChain entries (Some first) (xs ++ rest)) (sym more_is)
          (subst (λ (xs : List ℕ). IsChain entries (Some first) xs) (sym (append_assoc members (node ∷ []) rest)) on);
    }

-- with no entry to go on with, the members are the chain
pub prefix_all : (entries : List TrailEntry) (first : ℕ) (members : List ℕ) (next : Option ℕ)
    → IsPrefix entries first members next → next ≡ None
    → IsChain entries (Some first) members
prefix_all entries first members next prefix done =
    subst (λ (xs : List ℕ). IsChain entries (Some first) xs) (append-nil members)
    (prefix.goes_on [] (subst (λ (o : Option ℕ). IsChain entries o []) (sym done) tt))

-- how many entries may still come
abbrev pub left : Option ℕ → ℕ
left None = 0
left (Some number) = number + 1

-- the chain goes down
pub left_smaller : (nodes : List Node) (entries : List TrailEntry) (first number : ℕ) (members : List ℕ)
    (next before : Option ℕ) → IsTrail nodes entries
    → IsPrefix entries first members next → next ≡ Some number → before ≡ earlier_at entries number
    → left before < left next
left_smaller nodes entries first number members next before trail prefix at before_is =
    let there : number < length entries = prefix.inside number at in
    let leads = subst (λ (o : Option ℕ). LeadsOn nodes entries number o (node_at entries number)) (sym before_is)
    (trail number there) in
    subst (λ (o : Option ℕ). left before < left o) (sym at) (below before leads)
  where
    below : (o : Option ℕ) → LeadsOn nodes entries number o (node_at entries number) → left o < number + 1
    below None leads = omega arith
    below (Some earlier) leads = let smaller : earlier < number = leads.0 in omega arith
