-- What bounds and first paths show of the open fetches of a block.
use Rattle.std.proofs.Common.{◌≡◌, ℕ, ◌<◌, Bool, true, false, List, length, Some, ap, sym, ◌∙◌, subst, arith}
use Rattle.std.specs.List.{Contains}
use Rattle.cache_spec.specs.declared.start.Start.{Start}
use Rattle.focus_spec.specs.Fate.{AllEnd}
use Rattle.focus_spec.specs.Younger.{fetch_at}
use Rattle.set_view.specs.View.{View}
use Rattle.age_spec.specs.Ages.{age_at}
use Rattle.age_spec.specs.Exists.{AreHitBounds, AreMissBounds}
use Rattle.age_spec.specs.Settled.{IsShown, CanHitByBound, CanMissByBound, HasUnclear}
use Rattle.age_spec.proofs.Existing.{hit_exist, miss_exist}
use Rattle.age_spec.proofs.Unique.{must_same, may_same, hit_same, miss_same}
use Rattle.age_exists.specs.Bounded.{Bounded}
use Rattle.age_exists.specs.Solving.{Solving, MissesFirst}
use Rattle.node_verdicts.specs.Aged.{Aged, AreAges, IsOpen}
use Rattle.node_verdicts.specs.Open.{AreOpenOf}
use Rattle.node_verdicts.specs.Witnesses.{aged_of, HasWitness, IsBoundShown, AreFetches, AreAllShown, IsSomeNotShown}
use Rattle.node_verdicts.proofs.Block.{fetch_inside, fetches_one}
use Rattle.node_verdicts.proofs.ByAges.{unclear_open}

-- a path that ends so is one that the others don't rule out
pub witness_hits : (view : View) (start : Start) (n : ℕ) → HasWitness view start n true
    → AllEnd view.nodes view.geometry start n false → ⊥
witness_hits view start n (members, is) all = all is.earlier is.is_path is.fate

pub witness_misses : (view : View) (start : Start) (n : ℕ) → HasWitness view start n false
    → AllEnd view.nodes view.geometry start n true → ⊥
witness_misses view start n (members, is) all = all is.earlier is.is_path is.fate

-- with a path of each kind neither all paths hit nor all miss
pub both_ends : (view : View) (start : Start) (n : ℕ) → HasWitness view start n true → HasWitness view start n false
    → (AllEnd view.nodes view.geometry start n true → ⊥) × (AllEnd view.nodes view.geometry start n false → ⊥)
both_ends view start n hit miss = (witness_misses view start n miss, witness_hits view start n hit)

-- the bounds are the exists-hit bounds of a block over these ages
pub record AreHitsOf (a : Aged) (block : ℕ) (b : Bounded) : Type 0 where
  pub view : b.view ≡ a.view
  pub start : b.start ≡ a.start
  pub block_is : b.block ≡ block
  pub hits : b.hits ≡ true
  pub are : AreHitBounds a.view a.start a.must block b.bounds

-- the bounds are its exists-miss bounds
pub record AreMissesOf (a : Aged) (block : ℕ) (b : Bounded) : Type 0 where
  pub view : b.view ≡ a.view
  pub start : b.start ≡ a.start
  pub block_is : b.block ≡ block
  pub hits : b.hits ≡ false
  pub are : AreMissBounds a.view a.may block b.bounds

-- the exists-hit bounds that a solver finds are those over its ages
pub hits_of : (a : Aged) (s : Solving) (block : ℕ) (b : Bounded) → aged_of s ≡ a → b.view ≡ s.view → b.start ≡ s.start
    → b.block ≡ block → b.hits ≡ true → AreHitBounds s.view s.start s.must block b.bounds → AreHitsOf a block b
hits_of a s block b over view_is start_is block_is hits are =
    subst (λ (o : Aged). AreHitsOf o block b) over (record {
      view = view_is;
      start = start_is;
      block_is = block_is;
      hits = hits;
      are = are;
    })

-- and so are its exists-miss bounds
pub misses_of : (a : Aged) (s : Solving) (block : ℕ) (b : Bounded) → aged_of s ≡ a → b.view ≡ s.view
    → b.start ≡ s.start → b.block ≡ block → b.hits ≡ false → AreMissBounds s.view s.may block b.bounds
    → AreMissesOf a block b
misses_of a s block b over view_is start_is block_is hits are =
    subst (λ (o : Aged). AreMissesOf o block b) over (record {
      view = view_is;
      start = start_is;
      block_is = block_is;
      hits = hits;
      are = are;
    })

module _ (a : Aged) (are : AreAges a) (block : ℕ) where
  -- an open fetch is unclear where the bounds don't show both
  unclear_by : (hit miss : List ℕ) → AreHitBounds a.view a.start a.must block hit
      → AreMissBounds a.view a.may block miss → (n : ℕ) → IsOpen a block n
      → (CanHitByBound a.view.geometry.ways (age_at hit n) → CanMissByBound a.view.geometry.ways (age_at miss n) → ⊥)
      → HasUnclear a.view a.start block
  unclear_by hit miss hits misses n is not = record {
    must = a.must;
    may = a.may;
    hit = hit;
    miss = miss;
    four = record {
      must_ages = are.must_ages;
      may_ages = are.may_ages;
      hit_bounds = hits;
      miss_bounds = misses;
    };
    node = n;
    unclear = record {
      fetches = is.fetches;
      unclear = record {
        not_hit = is.not_hit;
        not_miss = is.not_miss;
        not_both = not;
      };
    };
  }

  -- so it is where it isn't shown to hit, whatever the exists-miss bounds are
  pub unclear_hit : (b : Bounded) → AreHitsOf a block b → (nodes : List ℕ) → AreOpenOf a block nodes
      → IsSomeNotShown b nodes → HasUnclear a.view a.start block
  unclear_hit b of nodes exactly (n, there, not) =
      let misses = miss_exist a.view are.is_view a.may block in
      unclear_by b.bounds misses.0 of.are misses.1 n ((exactly.members n).0 there)
      (λ hit miss. not
      (subst (λ (h : Bool). IsShown h b.view.geometry.ways (age_at b.bounds n)) (sym of.hits)
      (subst (λ (v : View). CanHitByBound v.geometry.ways (age_at b.bounds n)) (sym of.view) hit)))

  -- and where it isn't shown to miss, whatever the exists-hit bounds are
  pub unclear_miss : (b : Bounded) → AreMissesOf a block b → (nodes : List ℕ) → AreOpenOf a block nodes
      → IsSomeNotShown b nodes → HasUnclear a.view a.start block
  unclear_miss b of nodes exactly (n, there, not) =
      let hits = hit_exist a.view are.is_view a.start a.must block in
      unclear_by hits.0 b.bounds hits.1 of.are n ((exactly.members n).0 there)
      (λ hit miss. not
      (subst (λ (h : Bool). IsShown h b.view.geometry.ways (age_at b.bounds n)) (sym of.hits)
      (subst (λ (v : View). CanMissByBound v.geometry.ways (age_at b.bounds n)) (sym of.view) miss)))

  -- none is unclear where all bounds show that each open fetch can hit and miss
  none_unclear : (hit : List ℕ) → AreHitBounds a.view a.start a.must block hit
      → ((n : ℕ) → IsOpen a block n → CanHitByBound a.view.geometry.ways (age_at hit n))
      → ((miss : List ℕ) → AreMissBounds a.view a.may block miss → (n : ℕ) → IsOpen a block n
      → CanMissByBound a.view.geometry.ways (age_at miss n))
      → HasUnclear a.view a.start block → ⊥
  none_unclear hit hits can_hit can_miss u =
      let k : ℕ = a.view.geometry.ways in
      let must : u.must ≡ a.must = must_same a.view u.must a.must u.four.must_ages are.must_ages in
      let may : u.may ≡ a.may = may_same a.view a.start u.may a.may u.four.may_ages are.may_ages in
      let same : u.hit ≡ hit =
      hit_same a.view a.start a.must block u.hit hit
      (subst (λ (ages : List (List ℕ)). AreHitBounds a.view a.start ages block u.hit) must u.four.hit_bounds) hits in
      let is = unclear_open a are block u in
      u.unclear.unclear.not_both
      (subst (λ (b : List ℕ). CanHitByBound k (age_at b u.node)) (sym same) (can_hit u.node is))
      (can_miss u.miss
      (subst (λ (ages : List (List ℕ)). AreMissBounds a.view ages block u.miss) may u.four.miss_bounds) u.node is)

  -- a bound that is shown to hit is below the ways of the view
  can_hit_by : (b : Bounded) → AreHitsOf a block b → (n : ℕ) → IsBoundShown b n
      → CanHitByBound a.view.geometry.ways (age_at b.bounds n)
  can_hit_by b of n shown =
      subst (λ (v : View). CanHitByBound v.geometry.ways (age_at b.bounds n)) of.view
      (subst (λ (h : Bool). IsShown h b.view.geometry.ways (age_at b.bounds n)) of.hits shown)

  -- one that is shown to miss is the ways of the view
  can_miss_by : (b : Bounded) → AreMissesOf a block b → (n : ℕ) → IsBoundShown b n
      → CanMissByBound a.view.geometry.ways (age_at b.bounds n)
  can_miss_by b of n shown =
      subst (λ (v : View). CanMissByBound v.geometry.ways (age_at b.bounds n)) of.view
      (subst (λ (h : Bool). IsShown h b.view.geometry.ways (age_at b.bounds n)) of.hits shown)

  -- none is unclear where first paths miss
  pub none_unclear_first : (b : Bounded) → AreHitsOf a block b → (nodes : List ℕ) → AreOpenOf a block nodes
      → AreAllShown b nodes → (s : Solving) → aged_of s ≡ a
      → ((n : ℕ) → Contains nodes n → MissesFirst s n) → HasUnclear a.view a.start block → ⊥
  none_unclear_first b of nodes exactly shown s over first =
      none_unclear b.bounds of.are (λ n is. can_hit_by b of n (shown n ((exactly.members n).1 is)).shown)
      (λ miss misses n is.
      let by = first n ((exactly.members n).1 is) in
      let view : s.view ≡ a.view = ap (λ (o : Aged). o.view) over in
      let same : by.block ≡ block =
      fetches_one a.view n by.block block
      (subst (λ (v : View). fetch_at v.fetches n ≡ Some by.block) view by.fetches) is.fetches in
      subst (λ (v : View). CanMissByBound v.geometry.ways (age_at miss n)) view
      (by.bound miss
      (subst (λ (o : Aged). AreMissBounds o.view o.may by.block miss) (sym over)
      (subst (λ (l : ℕ). AreMissBounds a.view a.may l miss) (sym same) misses))))

  -- none is unclear where bounds show both
  pub none_unclear_both : (b m : Bounded) → AreHitsOf a block b → AreMissesOf a block m → (nodes : List ℕ)
      → AreOpenOf a block nodes → AreAllShown b nodes → AreAllShown m nodes → HasUnclear a.view a.start block → ⊥
  none_unclear_both b m of mof nodes exactly shown missed =
      none_unclear b.bounds of.are (λ n is. can_hit_by b of n (shown n ((exactly.members n).1 is)).shown)
      (λ miss misses n is.
      subst (λ (bounds : List ℕ). CanMissByBound a.view.geometry.ways (age_at bounds n))
      (miss_same a.view a.may block m.bounds miss mof.are misses)
      (can_miss_by m mof n (missed n ((exactly.members n).1 is)).shown))

  -- the open fetches are fetches of the block
  pub open_fetches : (b : Bounded) → b.view ≡ a.view → b.block ≡ block → (nodes : List ℕ) → AreOpenOf a block nodes
      → AreFetches b nodes
  open_fetches b view_is block_is nodes exactly n there =
      let is = (exactly.members n).0 there in
      let inside : n < length a.view.nodes =
      omega (arith, fetch_inside a.view.fetches n block is.fetches, are.is_view.one_each) in
      subst (λ (v : View). (n < length v.nodes) × (fetch_at v.fetches n ≡ Some b.block)) (sym view_is)
      (inside, is.fetches ∙ ap Some (sym block_is))
