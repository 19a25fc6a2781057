-- One bound is lowered: the new entry leads to it, and what was clear is clear.
use Rattle.std.proofs.Common.{◌≡◌, ◌≢◌, ℕ, ◌<◌, ◌≤◌, Bool, true, false, cond, ◌==◌, List, [], ◌∷◌, length, get_or-set_same, get_or-set_other, Option, Some, None, refl, sym, ap, ◌∙◌, subst, inl, inr, arith}
use Rattle.std.specs.Prelude.{IfSome, nat_le, slice_set, slice_get}
use Rattle.std.proofs.Math.ListN.{length-set}
use Rattle.std.proofs.lemmas.Bool.{cases_eq, cases_lt, cases_Bool, ne_eqb, lt-ltb, le-ltb}
use Rattle.std.proofs.lemmas.List.{length_push}
use Rattle.std.proofs.lemmas.List.Sums.{sum_by-set}
use Rattle.std.proofs.lemmas.Option.{same_Some, none-some}
use Rattle.transition_spec.specs.Path.{IsSuccessor}
use Rattle.path_model.specs.declared.graph.Node.{Node}
use Rattle.path_model.specs.Graph.{IsGraph, graph_step}
use Rattle.path_model.proofs.Edges.{successor-from_node, leads-from_successor}
use Rattle.path_trail.specs.Trail.{TrailEntry, node_of, IsChain, LeadsOn}
use Rattle.lattice_fix.specs.declared.change.Change.{Change}
use Rattle.lattice_fix.specs.Framework.{Framework}
use Rattle.lattice_fix.specs.Along.{along}
use Rattle.lattice_fix.proofs.Edges.{edge_inside}
use Rattle.focus_spec.specs.Younger.{fetch_at}
use Rattle.age_spec.specs.Ages.{grown, age_at, age_of}
use Rattle.age_spec.specs.Exists.{hit_bound_after, bound_after}
use Rattle.age_exists.specs.Led.{LeadsTo}
use Rattle.age_exists.specs.Retraced.{entry_of}
use Rattle.age_exists.specs.Spread.{Hits, equations_of, Spread, with_bound, lowered, lowered_at, HasLast, IsSpread, Waits, IsMet, Lowers, SpreadsFrom}
use Rattle.age_exists.proofs.Led.{get-last, old-node, trail_more, old-leads-to, new-leads-to}

-- the fetch of another block lowers no bound
hit-no_less : (k age x : ℕ) → x ≤ k → x ≤ hit_bound_after k age x
hit-no_less k age x few = elim (nat_le age x) as (λ (b : Bool). x ≤ cond b x (grown k x)) [
  | true ↦ omega arith
  | false ↦ omega (arith, few)
]

-- so a node that doesn't fetch the block lowers none
after-no_less : (k block : ℕ) (age : ℕ → ℕ) (fetch : Option ℕ) (x : ℕ) → x ≤ k → fetch ≢ Some block
    → x ≤ bound_after (λ other. hit_bound_after k (age other)) block fetch x
after-no_less k block age None x few apart = omega arith
after-no_less k block age (Some other) x few apart =
    let left : Bool → ℕ = λ b. cond b 0 (hit_bound_after k (age other) x) in
    elim (cases_eq other block) [
      | inl same ↦ absurd (apart (ap Some same))
      | inr different ↦ omega (arith, ap left (ne_eqb other block different), hit-no_less k (age other) x few)
    ]

pub transfer-no_less : (h : Hits) (n x : ℕ) → x ≤ h.view.geometry.ways → fetch_at h.view.fetches n ≢ Some h.block
    → x ≤ (equations_of h).transfer n x
transfer-no_less h n x few apart =
    after-no_less h.view.geometry.ways h.block (age_of h.must n) (fetch_at h.view.fetches n) x few apart

-- and one that lowers a bound fetches the block, and makes the same of each bound
after-lower : (k block : ℕ) (age : ℕ → ℕ) (fetch : Option ℕ) (x y : ℕ) → x ≤ k
    → bound_after (λ other. hit_bound_after k (age other)) block fetch x < x
    → bound_after (λ other. hit_bound_after k (age other)) block fetch y
    ≡ bound_after (λ other. hit_bound_after k (age other)) block fetch x
after-lower k block age None x y few less = absurd (omega (arith, less))
after-lower k block age (Some other) x y few less =
    let left : ℕ → Bool → ℕ = λ z b. cond b 0 (hit_bound_after k (age other) z) in
    elim (cases_Bool (other == block)) [
      | inl same ↦ ap (left y) same ∙ sym (ap (left x) same)
      | inr apart ↦ absurd (omega (arith, less, ap (left x) apart, hit-no_less k (age other) x few))
    ]

pub transfer-lower : (h : Hits) (n x y : ℕ) → x ≤ h.view.geometry.ways → (equations_of h).transfer n x < x
    → (equations_of h).transfer n y ≡ (equations_of h).transfer n x
transfer-lower h n x y few less =
    after-lower h.view.geometry.ways h.block (age_of h.must n) (fetch_at h.view.fetches n) x y few less

-- a bound that is set to less is less, and no other changes
set-no_more : (bounds : List ℕ) (node bound n : ℕ) → node < length bounds → bound < age_at bounds node
    → age_at (slice_set bounds node bound) n ≤ age_at bounds n
set-no_more bounds node bound n inside less = elim (cases_eq n node) [
  | inl same ↦
      let now : age_at (slice_set bounds node bound) n ≡ bound =
      ap (age_at (slice_set bounds node bound)) same ∙ get_or-set_same bounds node bound 0 inside in
      omega (arith, now, ap (age_at bounds) same, less)
  | inr other ↦ omega (arith, get_or-set_other bounds node n bound 0 other)
]

module _ (h : Hits) (s : Spread) (spread : IsSpread h s) (from : ℕ) where
  abbrev K : ℕ
  K = h.view.geometry.ways

  abbrev F : Framework ℕ
  F = equations_of h

  module _ (node bound : ℕ) (edge : IsSuccessor (graph_step h.view.nodes) from node)
      (moved : bound ≡ F.transfer from (age_at s.bounds from)) (less : bound < age_at s.bounds node) where
    abbrev After : Spread
    After = with_bound s from node bound

    abbrev Change_here : Change
    Change_here = record { node = node; from = Some from }

    abbrev Entry : TrailEntry
    Entry = entry_of s.trail.last Change_here

    -- the node that the bound comes from, and the node itself
    from-inside : from < length h.view.nodes
    from-inside = (edge_inside h.view.nodes spread.is_view.graph from node edge).0

    node-inside : node < length s.bounds
    node-inside = omega (arith, (edge_inside h.view.nodes spread.is_view.graph from node edge).1, spread.one_each)

    has-from : HasLast h s from
    has-from = spread.each from from-inside

    -- the new entry may follow
    follows : LeadsOn h.view.nodes s.trail.entries (length s.trail.entries) Entry.earlier node
    follows = subst (λ (o : Option ℕ). LeadsOn h.view.nodes s.trail.entries (length s.trail.entries) o node)
        (sym has-from.last) (
          has-from.inside,
          subst (λ (k : ℕ). IsSuccessor (graph_step h.view.nodes) k node) (sym has-from.node) edge,
        )

    -- what the node that it comes from makes of what is moved along a chain of its last entry
    transfer-along : (members : List ℕ) → IsChain s.trail.entries (Some has-from.number) members
        → F.transfer from (along F members) ≡ bound
    transfer-along members chain =
        let x : ℕ = age_at s.bounds from in
        elim (cases_lt x K) [
          | inl below ↦ ap (F.transfer from) ((has-from.leads below).moved members chain) ∙ sym moved
          | inr above ↦
              transfer-lower h from x (along F members) (spread.few from)
              (omega (arith, moved, less, spread.few node, above)) ∙ sym moved
        ]

    moves-some : (members : List ℕ) → IsChain s.trail.entries (Some has-from.number) members
        → along F (node ∷ members) ≡ bound
    moves-some [] chain = absurd chain
    moves-some (m ∷ members) chain =
        ap (λ (n : ℕ). F.transfer n (along F (m ∷ members))) (chain.0 ∙ has-from.node)
        ∙ transfer-along (m ∷ members) chain

    moves : (members : List ℕ) → IsChain s.trail.entries Entry.earlier members → along F (node ∷ members) ≡ bound
    moves members chain =
        moves-some members (subst (λ (o : Option ℕ). IsChain s.trail.entries o members) has-from.last chain)

    -- it is the last entry of the node, and leads to the bound
    new-last : HasLast h After node
    new-last =
        let now : age_at After.bounds node ≡ bound = get_or-set_same s.bounds node bound 0 node-inside in
        let leads : LeadsTo F After.trail.entries node bound (length s.trail.entries) =
        new-leads-to h.view.nodes s.trail.entries Entry spread.trail F bound follows moves in
        record {
          number = length s.trail.entries;
          last = get_or-set_same s.trail.last node (Some (length s.trail.entries)) None
              (omega (arith, node-inside, spread.one_each, spread.one_last_each));
          inside = leads.inside;
          node = leads.node;
          leads = λ below. subst (λ (x : ℕ). LeadsTo F After.trail.entries node x (length s.trail.entries)) (sym now)
              leads;
        }

    -- each other node keeps its bound and its last entry
    old-last : (n : ℕ) → n ≢ node → n < length h.view.nodes → HasLast h After n
    old-last n other inside =
        let has : HasLast h s n = spread.each n inside in
        let now : age_at After.bounds n ≡ age_at s.bounds n = get_or-set_other s.bounds node n bound 0 other in
        record {
          number = has.number;
          last = get_or-set_other s.trail.last node n (Some (length s.trail.entries)) None other ∙ has.last;
          inside = omega (arith, has.inside, length_push s.trail.entries Entry);
          node = old-node h.view.nodes s.trail.entries Entry spread.trail has.number has.inside ∙ has.node;
          leads = λ below. subst (λ (x : ℕ). LeadsTo F After.trail.entries n x has.number) (sym now)
              (old-leads-to h.view.nodes s.trail.entries Entry spread.trail F n (age_at s.bounds n) has.number
              (has.leads (omega (arith, below, now))));
        }

    -- so all is as it was
    set-spread : IsSpread h After
    set-spread = record {
      is_view = spread.is_view;
      one_each = length-set s.bounds node bound ∙ spread.one_each;
      one_last_each = length-set s.trail.last node (Some (length s.trail.entries)) ∙ spread.one_last_each;
      few = λ n. omega (arith, set-no_more s.bounds node bound n node-inside less, spread.few n);
      starts = omega (arith, set-no_more s.bounds node bound 0 node-inside less, spread.starts);
      trail = trail_more h.view.nodes s.trail.entries Entry spread.trail follows;
      each = λ n inside. elim (cases_eq n node) [
        | inl same ↦ subst (λ (k : ℕ). HasLast h After k) (sym same) new-last
        | inr other ↦ old-last n other inside
      ];
    }

    -- a node that waits waits still
    still-waits : (head n : ℕ) → Waits s.trail.entries head n → Waits After.trail.entries head n
    still-waits head n waits = record {
      number = waits.number;
      from = waits.from;
      inside = omega (arith, waits.inside, length_push s.trail.entries Entry);
      node = old-node h.view.nodes s.trail.entries Entry spread.trail waits.number waits.inside ∙ waits.node;
    }

    -- the node waits now
    node-waits : (head : ℕ) → head ≤ length s.trail.entries → Waits After.trail.entries head node
    node-waits head within = record {
      number = length s.trail.entries;
      from = within;
      inside = omega (arith, length_push s.trail.entries Entry);
      node = ap node_of (get-last s.trail.entries Entry);
    }

    -- after each other node nothing more is owed
    still-met : (n : ℕ) → n ≢ node → IsMet h s.bounds n → IsMet h After.bounds n
    still-met n other met = λ m edge_to. omega (
      arith,
      set-no_more s.bounds node bound m node-inside less,
      met m edge_to,
      ap (F.transfer n) (get_or-set_other s.bounds node n bound 0 other),
    )

    set-lowers : Lowers h s After
    set-lowers = record {
      spread = set-spread;
      longer = omega (arith, length_push s.trail.entries Entry);
      falls = omega (
        arith,
        length_push s.trail.entries Entry,
        sum_by-set (λ (x : ℕ). x) s.bounds node bound 0 node-inside,
        less,
      );
      keeps = λ head n within clear. elim clear [
        | inl waits ↦ inl (still-waits head n waits)
        | inr met ↦ elim (cases_eq n node) [
          | inl same ↦ inl (subst (Waits After.trail.entries head) (sym same) (node-waits head within))
          | inr other ↦ inr (still-met n other met)
        ]
      ];
    }

-- a lower bound is set, and another one isn't
lowered-less : (s : Spread) (from node bound : ℕ) → bound < age_at s.bounds node
    → lowered s from node bound ≡ with_bound s from node bound
lowered-less s from node bound less =
    ap (λ (b : Bool). cond b (with_bound s from node bound) s) (lt-ltb bound (age_at s.bounds node) less)

lowered-more : (s : Spread) (from node bound : ℕ) → age_at s.bounds node ≤ bound → lowered s from node bound ≡ s
lowered-more s from node bound more =
    ap (λ (b : Bool). cond b (with_bound s from node bound) s) (le-ltb bound (age_at s.bounds node) more)

-- bounds that are lowered twice are lowered
lowers_none : (h : Hits) (s : Spread) → IsSpread h s → Lowers h s s
lowers_none h s spread = record {
  spread = spread;
  longer = omega arith;
  falls = omega arith;
  keeps = λ head n within clear. clear;
}

lowers_twice : (h : Hits) (one two three : Spread) → Lowers h one two → Lowers h two three → Lowers h one three
lowers_twice h one two three first second = record {
  spread = second.spread;
  longer = omega (arith, first.longer, second.longer);
  falls = omega (arith, first.falls, second.falls);
  keeps = λ head n within clear.
      second.keeps head n (omega (arith, within, first.longer)) (first.keeps head n within clear);
}

-- what a node makes of its bound has come to a successor, if there is one
record HasCome (h : Hits) (from bound : ℕ) (to : Option ℕ) (before after : Spread) : Type 0 where
  lowers : Lowers h before after
  same : bound ≡ (equations_of h).transfer from (age_at after.bounds from)
  no_more : (n : ℕ) → age_at after.bounds n ≤ age_at before.bounds n
  come : (m : ℕ) → to ≡ Some m → age_at after.bounds m ≤ bound

module _ (h : Hits) (s : Spread) (spread : IsSpread h s) (from bound : ℕ)
    (moved : bound ≡ (equations_of h).transfer from (age_at s.bounds from)) where
  -- a node makes the same of its own bound where that is lowered
  same-after : (node : ℕ) → IsSuccessor (graph_step h.view.nodes) from node → bound < age_at s.bounds node
      → bound ≡ (equations_of h).transfer from (age_at (slice_set s.bounds node bound) from)
  same-after node edge less = elim (cases_eq from node) [
    | inl own ↦
        let x : ℕ = age_at s.bounds from in
        let y : ℕ = age_at (slice_set s.bounds node bound) from in
        moved ∙ sym (transfer-lower h from x y (spread.few from) (omega (arith, moved, less, ap (age_at s.bounds) own)))
    | inr other ↦ moved ∙ ap ((equations_of h).transfer from) (sym (get_or-set_other s.bounds node from bound 0 other))
  ]

  come-less : (node : ℕ) → IsSuccessor (graph_step h.view.nodes) from node → bound < age_at s.bounds node
      → HasCome h from bound (Some node) s (with_bound s from node bound)
  come-less node edge less =
      let inside : node < length s.bounds =
      omega (arith, (edge_inside h.view.nodes spread.is_view.graph from node edge).1, spread.one_each) in
      record {
        lowers = set-lowers h s spread from node bound edge moved less;
        same = same-after node edge less;
        no_more = λ n. set-no_more s.bounds node bound n inside less;
        come = λ m same. omega (
          arith,
          ap (age_at (slice_set s.bounds node bound)) (same_Some node m same),
          get_or-set_same s.bounds node bound 0 inside,
        );
      }

  come-more : (to : Option ℕ) → ((m : ℕ) → to ≡ Some m → age_at s.bounds m ≤ bound) → HasCome h from bound to s s
  come-more to more = record {
    lowers = lowers_none h s spread;
    same = moved;
    no_more = λ n. omega arith;
    come = more;
  }

  has-come : (to : Option ℕ) → ((m : ℕ) → to ≡ Some m → IsSuccessor (graph_step h.view.nodes) from m)
      → HasCome h from bound to s (lowered_at s from to bound)
  has-come None edge = come-more None (λ m is_some. absurd (none-some m is_some))
  has-come (Some node) edge = elim (cases_lt bound (age_at s.bounds node)) [
    | inl less ↦
        subst (HasCome h from bound (Some node) s) (sym (lowered-less s from node bound less))
        (come-less node (edge node refl) less)
    | inr more ↦
        subst (HasCome h from bound (Some node) s) (sym (lowered-more s from node bound more))
        (come-more (Some node) (λ m same. omega (arith, more, ap (age_at s.bounds) (same_Some node m same))))
  ]

  -- lowering the bounds of both successors leaves nothing owed after the node
  module _ (here : Node) (found : slice_get h.view.nodes from ≡ Some here) where
    abbrev Once : Spread
    Once = lowered_at s from here.first bound

    first-come : HasCome h from bound here.first s Once
    first-come = has-come here.first (λ m same. successor-from_node h.view.nodes from m here found (inl same))

-- so it is spread
pub spreads : (h : Hits) (s : Spread) → IsSpread h s → (n bound : ℕ)
    → bound ≡ (equations_of h).transfer n (age_at s.bounds n) → (here : Node) → slice_get h.view.nodes n ≡ Some here
    → SpreadsFrom h n s (lowered_at (lowered_at s n here.first bound) n here.second bound)
spreads h s spread n bound moved here found =
    let once : Spread = lowered_at s n here.first bound in
    let first : HasCome h n bound here.first s once = first-come h s spread n bound moved here found in
    let second : HasCome h n bound here.second once (lowered_at once n here.second bound) =
    has-come h once first.lowers.spread n bound first.same here.second
    (λ m same. successor-from_node h.view.nodes n m here found (inr same)) in
    record {
      lowers = lowers_twice h s once (lowered_at once n here.second bound) first.lowers second.lowers;
      met = λ m edge. elim (leads-from_successor h.view.nodes n m here found edge) [
        | inl one ↦ omega (arith, first.come m one, second.no_more m, second.same)
        | inr two ↦ omega (arith, second.come m two, second.same)
      ];
    }

-- lists stay as long as they are
pub length-lowered : (s : Spread) (from : ℕ) (to : Option ℕ) (bound : ℕ)
    → (length (lowered_at s from to bound).bounds ≡ length s.bounds)
    × (length (lowered_at s from to bound).trail.last ≡ length s.trail.last)
length-lowered s from None bound = (refl, refl)
length-lowered s from (Some node) bound = elim (cases_lt bound (age_at s.bounds node)) [
  | inl less ↦
      let is : lowered s from node bound ≡ with_bound s from node bound = lowered-less s from node bound less in (
        ap (λ (t : Spread). length t.bounds) is ∙ length-set s.bounds node bound,
        ap (λ (t : Spread). length t.trail.last) is
            ∙ length-set s.trail.last node (Some (length s.trail.entries)),
      )
  | inr more ↦
      let is : lowered s from node bound ≡ s = lowered-more s from node bound more in
      (ap (λ (t : Spread). length t.bounds) is, ap (λ (t : Spread). length t.trail.last) is)
]

-- a second successor, if there is one, is the number of a node
pub second_inside : (nodes : List Node) → IsGraph nodes → (n : ℕ) (here : Node) → slice_get nodes n ≡ Some here
    → (count : ℕ) → length nodes ≤ count → IfSome here.second (λ m. m < count)
second_inside nodes graph n here found count within = if-below here.second (λ m same.
    let edge = successor-from_node nodes n m here found (inr same) in
    omega (arith, (edge_inside nodes graph n m edge).1, within))
  where
    if-below : (to : Option ℕ) → ((m : ℕ) → to ≡ Some m → m < count) → IfSome to (λ m. m < count)
    if-below None each = tt
    if-below (Some m) each = each m refl
