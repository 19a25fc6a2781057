-- Before any bound is lowered: nothing is owed but after node 0 and the nodes that fetch the block.
use Rattle.std.proofs.Common.{◌≡◌, ◌≢◌, ℕ, ◌<◌, ◌≤◌, List, [], ◌∷◌, length, map, replicate, get_or-set_same, get_or-set_other, Option, Some, None, refl, sym, ap, ◌∙◌, subst, inl, inr, zero-add, arith}
use Rattle.std.specs.Prelude.{slice_set}
use Rattle.std.specs.List.{range_with_len}
use Rattle.std.proofs.Math.ListN.{length-set}
use Rattle.std.proofs.lemmas.Bool.{cases_eq, cases_lt}
use Rattle.std.proofs.lemmas.List.{length-replicate, get_or-replicate, get_or_past}
use Rattle.std.proofs.lemmas.List.FromFn.{length-map-range_with_len, get_or-map-range_with_len}
use Rattle.path_trail.specs.Trail.{TrailEntry, node_at, earlier_at, IsChain, LeadsOn}
use Rattle.lattice_fix.specs.Framework.{Framework}
use Rattle.lattice_fix.specs.Along.{along}
use Rattle.lattice_fix.proofs.Edges.{edge_inside}
use Rattle.set_view.specs.View.{IsView}
use Rattle.age_spec.specs.Ages.{age_at}
use Rattle.age_spec.proofs.Reaching.{first_hit_few}
use Rattle.age_exists.specs.Firsts.{AreFirsts}
use Rattle.age_exists.specs.Led.{LeadsTo}
use Rattle.age_exists.specs.Spread.{Hits, equations_of, Spread, HasLast, IsBegun}
use Rattle.age_exists.proofs.Lowered.{transfer-no_less}

-- a number that is there
abbrev pub own : ℕ → Option ℕ
own n = Some n

-- with these lists
abbrev pub spread_with : List ℕ → List TrailEntry → List (Option ℕ) → Spread
spread_with bounds entries last = record { bounds = bounds; trail = record { entries = entries; last = last } }

-- the start at node 0 and the ways elsewhere, and a first path to each node
abbrev pub first_spread : Hits → List TrailEntry → Spread
first_spread h firsts = record {
  bounds = slice_set (replicate (length h.view.nodes) h.view.geometry.ways) 0 (equations_of h).start;
  trail = record { entries = firsts; last = map own (range_with_len 0 (length h.view.nodes)) };
}

module _ (h : Hits) (is : IsView h.view) (firsts : List TrailEntry)
    (are : AreFirsts h.view.nodes firsts) where
  abbrev K : ℕ
  K = h.view.geometry.ways

  abbrev Count : ℕ
  Count = length h.view.nodes

  abbrev F : Framework ℕ
  F = equations_of h

  abbrev First : Spread
  First = first_spread h firsts

  abbrev Ways : List ℕ
  Ways = replicate Count K

  -- the bound at node 0, and those at the other nodes
  zero-is : age_at First.bounds 0 ≡ F.start
  zero-is = get_or-set_same Ways 0 F.start 0 (omega (arith, is.graph.some, length-replicate Count K))

  other-is : (n : ℕ) → n ≢ 0 → n < Count → age_at First.bounds n ≡ K
  other-is n other inside = get_or-set_other Ways 0 n F.start 0 other ∙ get_or-replicate Count n K 0 inside

  few : (n : ℕ) → age_at First.bounds n ≤ K
  few n = elim (cases_eq n 0) [
    | inl same ↦ omega (arith, ap (age_at First.bounds) same, zero-is, first_hit_few h.start K)
    | inr other ↦ elim (cases_lt n Count) [
      | inl inside ↦ omega (arith, other-is n other inside)
      | inr past ↦ omega (
        arith,
        get_or-set_other Ways 0 n F.start 0 other,
        get_or_past Ways n 0 (omega (arith, past, length-replicate Count K)),
      )
    ]
  ]

  -- along the chain of the entry of node 0 the start is moved
  start-moved : (m : ℕ) (before : Option ℕ) (node : ℕ) → LeadsOn h.view.nodes firsts 0 before node
      → (members : List ℕ) → IsChain firsts before members → along F (m ∷ members) ≡ F.start
  start-moved m None node leads [] chain = refl
  start-moved m None node leads (x ∷ members) chain = absurd chain
  start-moved m (Some k) node leads members chain = absurd (omega (arith, leads.0))

  zero-moved : (members : List ℕ) → IsChain firsts (Some 0) members → along F members ≡ F.start
  zero-moved [] chain = absurd chain
  zero-moved (m ∷ members) chain =
      start-moved m (earlier_at firsts 0) (node_at firsts 0)
      (are.trail 0 (omega (arith, is.graph.some, are.one_each))) members chain.1

  zero-leads : LeadsTo F firsts 0 F.start 0
  zero-leads = record {
    inside = omega (arith, is.graph.some, are.one_each);
    node = are.own 0 (omega (arith, is.graph.some));
    moved = zero-moved;
  }

  -- the first entries lead to these bounds
  first-leads : (n : ℕ) → n < Count → age_at First.bounds n < K → LeadsTo F firsts n (age_at First.bounds n) n
  first-leads n inside below = elim (cases_eq n 0) [
    | inl same ↦ subst (λ (k : ℕ). LeadsTo F firsts k (age_at First.bounds k) k) (sym same)
        (subst (λ (x : ℕ). LeadsTo F firsts 0 x 0) (sym zero-is) zero-leads)
    | inr other ↦ absurd (omega (arith, below, other-is n other inside))
  ]

  first-last : (n : ℕ) → n < Count → HasLast h First n
  first-last n inside = record {
    number = n;
    last = get_or-map-range_with_len own 0 Count n n None inside (zero-add n);
    inside = omega (arith, inside, are.one_each);
    node = are.own n inside;
    leads = first-leads n inside;
  }

  -- so it is begun
  pub first_begun : IsBegun h First
  first_begun = record {
    spread = record {
      is_view = is;
      one_each = length-set Ways 0 F.start ∙ length-replicate Count K;
      one_last_each = length-map-range_with_len own 0 Count;
      few = few;
      starts = omega (arith, zero-is);
      trail = are.trail;
      each = first-last;
    };
    met = λ n other apart m edge.
        let inside : n < Count = (edge_inside h.view.nodes is.graph n m edge).0 in
        omega (
          arith,
          few m,
          other-is n other inside,
          transfer-no_less h n (age_at First.bounds n) (few n) apart,
        );
  }

  -- also where the lists are known by equations
  pub begun_as : (s : Spread) → s.bounds ≡ First.bounds → s.trail.entries ≡ firsts → s.trail.last ≡ First.trail.last
      → IsBegun h s
  begun_as s bounds entries last =
      let same : s ≡ First =
      ap (λ (l : List ℕ). spread_with l s.trail.entries s.trail.last) bounds
      ∙ (ap (λ (l : List TrailEntry). spread_with First.bounds l s.trail.last) entries
      ∙ ap (λ (l : List (Option ℕ)). spread_with First.bounds firsts l) last) in
      subst (IsBegun h) (sym same) first_begun
