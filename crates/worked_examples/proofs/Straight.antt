-- Programs of one path, which never branch and come to an end: each layer has one configuration.
use Rattle.std.proofs.Common.{◌≡◌, ℕ, zero, suc, ◌+◌, ◌≤◌, List, [], ◌∷◌, ◌++◌, length, map, refl, ap, sym, subst, arith}
use Rattle.std.specs.Prelude.{Ok, IsOk, IsOkAnd, IsTrue, Contains}
use Rattle.std.specs.List.{AllByRecursion}
use Rattle.flow_spec.specs.Acceptance.{Step, IsFaultless, is_good_entry, fetch_limit}
use Rattle.flow_spec.specs.Configuration.{Configuration}
use Rattle.flow_spec.specs.Order.{configuration_cmp}
use Rattle.flow_spec.specs.Successors.{Successors, successors}
use Rattle.transition_spec.specs.Layer.{IsInLayer, IsLayer, AreLayersFrom, all_of}
use Rattle.transition_spec.specs.Path.{IsSuccessor}
use Rattle.worked_examples.specs.Programs.{as_parcels, at}
use Rattle.worked_examples.specs.Reports.{IsAcceptedIn}
use Rattle.worked_examples.proofs.Moves.{follows_in, one_of_one, none_of_none}
use Rattle.worked_examples.proofs.Layers.{Reached, reached_first, reached_next, reached_from, has_first, sorted_one, sorted_none}

-- a layer of one configuration
abbrev pub single : Configuration → List Configuration
single c = c ∷ []

module _ (step : Step) where
  -- these follow a configuration one after another, and then the path ends
  abbrev pub GoesBy : Configuration → List Configuration → Type 0
  GoesBy c [] = step c ≡ Ok []
  GoesBy c (d ∷ rest) = (step c ≡ Ok (d ∷ [])) × GoesBy d rest

  -- what follows is one list
  one_rest : (c : Configuration) (rest other : List Configuration) → GoesBy c rest → GoesBy c other → rest ≡ other
  one_rest c [] [] goes goes' = refl
  one_rest c [] (d ∷ other) goes goes' = absurd (cc (goes, goes'.0))
  one_rest c (d ∷ rest) [] goes goes' = absurd (cc (goes.0, goes'))
  one_rest c (d ∷ rest) (e ∷ other) goes goes' =
      let same : d ≡ e = cc (goes.0, goes'.0) in
      cc (same, one_rest e rest other (subst (λ f. GoesBy f rest) same goes.1) goes'.1)

  -- none of these has a fault
  all_faultless : (c : Configuration) (rest : List Configuration) → GoesBy c rest
      → AllByRecursion (IsFaultless step) (all_of (map single (c ∷ rest)))
  all_faultless c [] goes = (subst (λ (r : Successors). IsOk r) (sym goes) refl, tt)
  all_faultless c (d ∷ rest) goes =
      (subst (λ (r : Successors). IsOk r) (sym goes.0) refl, all_faultless d rest goes.1)

  -- the next one is reached one step later
  reached_later : (n : ℕ) (c d : Configuration) → step c ≡ Ok (d ∷ []) → Reached step n c → Reached step (suc n) d
  reached_later n c d goes (earlier, long, path) =
      let Leads : Successors → Type 0 = λ r. IsOkAnd r (λ found. Contains found d) in
      (c ∷ earlier, omega (arith, long), (subst Leads (sym goes) (has_first d d [] refl), path))

  module _ (whole : List Configuration) (begins : GoesBy (at 0x10000) whole) where
    -- what follows a configuration that n steps reach is shorter than the whole by n
    abbrev Left : ℕ → Configuration → Type 0
    Left n c = (rest : List Configuration) × GoesBy c rest × (length rest + n ≡ length whole)

    left_next : (n : ℕ) (b c : Configuration) → IsSuccessor step b c → Left n b → Left (suc n) c
    left_next n b c follows ([], goes, long) = absurd (none_of_none c (follows_in step b b c [] refl goes follows))
    left_next n b c follows (d ∷ rest, goes, long) =
        let same : c ≡ d = one_of_one d c (follows_in step b b c (d ∷ []) refl goes.0 follows) in
        (rest, subst (λ e. GoesBy e rest) (sym same) goes.1, omega (arith, long))

    left : (n : ℕ) (c : Configuration) → Reached step n c → Left n c
    left zero c reached =
        (whole, subst (λ e. GoesBy e whole) (sym (reached_first step c reached)) begins, omega arith)
    left (suc n) c reached =
        let (b, before, follows) = reached_next step n c reached in left_next n b c follows (left n b before)

    -- so a configuration is reached in one number of steps
    as_long : (n m : ℕ) (c : Configuration) → Reached step n c → Reached step m c → n ≡ m
    as_long n m c reached other =
        let (rest, goes, long) = left n c reached in
        let (rest', goes', long') = left m c other in
        omega (arith, long, long', ap length (one_rest c rest rest' goes goes'))

    -- the layer of the one that n steps reach
    one_layer : (n : ℕ) (c : Configuration) → Reached step n c → ((d : Configuration) → Reached step n d → d ≡ c)
        → IsLayer step (at 0x10000) configuration_cmp n (c ∷ [])
    one_layer n c reached only = record {
      sorted = sorted_one c;
      members = λ d. (
        λ has. subst (λ d. IsInLayer step (at 0x10000) n d) (sym (one_of_one c d has)) record {
          reached = reached;
          no_sooner = λ m sooner before. omega (arith, sooner, as_long n m c reached before);
        },
        λ in_layer. has_first c d [] (only d in_layer.reached),
      );
    }

    -- after the last comes an empty one
    empty_layer : (n : ℕ) (c : Configuration) → step c ≡ Ok [] → ((d : Configuration) → Reached step n d → d ≡ c)
        → IsLayer step (at 0x10000) configuration_cmp (suc n) []
    empty_layer n c ends only = record {
      sorted = sorted_none;
      members = λ d. (
        λ has. absurd (none_of_none d has),
        λ in_layer. absurd (none_of_none d (reached_from step n c d [] only ends in_layer.reached)),
      );
    }

    -- the layers from one on
    layers_from : (n : ℕ) (c : Configuration) (rest : List Configuration) → GoesBy c rest → Reached step n c
        → ((d : Configuration) → Reached step n d → d ≡ c)
        → AreLayersFrom step (at 0x10000) configuration_cmp n (map single (c ∷ rest) ++ [] ∷ [])
    layers_from n c [] goes reached only =
        let next : suc n ≡ n + 1 = omega arith in
        let Layer : ℕ → Type 0 = λ k. IsLayer step (at 0x10000) configuration_cmp k [] in
        (one_layer n c reached only, (subst Layer next (empty_layer n c goes only), tt))
    layers_from n c (d ∷ rest) goes reached only =
        let next : suc n ≡ n + 1 = omega arith in
        let Layers : ℕ → Type 0 = λ k. AreLayersFrom step (at 0x10000) configuration_cmp k
        (map single (d ∷ rest) ++ [] ∷ []) in (
          one_layer n c reached only,
          subst Layers next (layers_from (suc n) d rest goes.1 (reached_later n c d goes.0 reached)
              (λ e later. one_of_one d e (reached_from step n c e (d ∷ []) only goes.0 later))),
        )

-- such a program is accepted
pub straight_accepted : (line : ℕ) (words : List ℕ) (rest : List Configuration)
    → IsTrue (is_good_entry (as_parcels line words)) → GoesBy (successors (as_parcels line words)) (at 0x10000) rest
    → length (all_of (map single (at 0x10000 ∷ rest))) ≤ fetch_limit
    → IsAcceptedIn (as_parcels line words) (map single (at 0x10000 ∷ rest))
straight_accepted line words rest good goes few =
    let step = successors (as_parcels line words) in
    record {
      entry_is_good = good;
      are_layers = layers_from step rest goes 0 (at 0x10000) rest goes ([], refl, refl) (reached_first step);
      faultless = all_faultless step (at 0x10000) rest goes;
      few = few;
    }
