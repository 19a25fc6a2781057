-- The least warm and the most younger sets before a node, and the ways that end there.
use Rattle.std.proofs.Common.{◌≡◌, ◌≢◌, ℕ, zero, suc, ◌+◌, ◌<◌, ◌↔◌, inl, inr, true, false, List, [], ◌∷◌, length, map, Option, Some, None, option_map, IsSome, refl, sym, ap, subst, ◌∙◌, arith}
use Rattle.std.proofs.lemmas.Bool.{cases_lt, ltb-true, lt-ltb}
use Rattle.std.proofs.lemmas.Option.{slice_get-map, same_Some}
use Rattle.std.specs.List.Sorted.{IsStrictlyIncreasing}
use Rattle.std.specs.Prelude.{slice_get}
use Rattle.list_lemmas.proofs.Members.{has-found}
use Rattle.transition_spec.specs.declared.way.Way.{Way}
use Rattle.set_list.specs.Rising.{Contains-cons}
use Rattle.cache_spec.specs.declared.start.Start.{Start}
use Rattle.focus_spec.specs.Younger.{first_warm, is_small, fetch_at}
use Rattle.focus_spec.specs.Focus.{younger_after, warm_after, LeavesWarm, MayBeSmall, MayBeLarge, IsLeastWarm, AreLeast, AreMost}
use Rattle.focus_spec.specs.Fate.{AllEnd, NamesEnd}
use Rattle.set_list.specs.RisingSets.{subset-same, same_from_subsets}
use Rattle.set_view.specs.View.{View}
use Rattle.focus_plain.specs.declared.settling.Fate.{Fate}
use Rattle.focus_plain.specs.declared.settling.PlainPlace.{PlainPlace}
use Rattle.focus_plain.specs.Judged.{IsEnd, AreFetchers}
use Rattle.focus_plain.specs.Settled.{IsFate, IsPlainPlace, IsAlike}
use Rattle.focus_plain.proofs.Order.{IsRising, first-rising, all-rising}
use Rattle.focus_plain.proofs.Fates.{EndsBySets}

-- what is small is there
small-set : (ways : ℕ) (younger : Option (List ℕ)) → is_small ways younger ≡ true
    → (set : List ℕ) × (younger ≡ Some set) × (length set < ways)
small-set ways None small = absurd (cc)
small-set ways (Some set) small = (set, refl, ltb-true (length set) ways small)

-- where no set is least, none is small
no_least : (view : View) (start : Start) (block n : ℕ)
    → ((s : List ℕ) → IsLeastWarm view.nodes view.fetches view.geometry.ways start block n s → ⊥)
    → (bound : ℕ) (set : List ℕ) → length set < bound → LeavesWarm view.nodes view.fetches start block n (Some set)
    → length set < view.geometry.ways → ⊥
no_least view start block n none zero set below left small = omega arith
no_least view start block n none (suc bound) set below left small =
    let rising : (s : List ℕ) → LeavesWarm view.nodes view.fetches start block n (Some s) → IsStrictlyIncreasing s =
    λ s there. subst IsRising there.2 (all-rising block (map (fetch_at view.fetches) there.0) (first_warm start)
    (first-rising start (first_warm start) (inr refl))) in
    none set (record {
      left = left;
      small = small;
      least = λ other there within. elim (cases_lt (length other) (length set)) [
        | inl shorter ↦ absurd (no_least view start block n none bound other (omega arith) there (omega arith))
        | inr as_long ↦ subset-same other set (rising other there) (rising set left) within as_long
      ];
    })

module _ (view : View) (start : Start) (block : ℕ) (law : EndsBySets view start block) (n : ℕ)
    (fetches : fetch_at view.fetches n ≡ Some block) where
  -- a path that can hit leaves a small warm set
  small_from_hit : (way : Way) → NamesEnd view.nodes view.geometry start n way true
      → MayBeSmall view.nodes view.fetches view.geometry.ways start block n
  small_from_hit way is =
      let set = small-set view.geometry.ways (warm_after view.fetches start block is.earlier)
      ((law n is.earlier is.is_path fetches).0.0 is.fate) in
      (set.0, (is.earlier, is.is_path, set.1), set.2)

  -- a path that can miss leaves a large younger set, or none
  large_from_miss : (way : Way) → NamesEnd view.nodes view.geometry start n way false
      → MayBeLarge view.nodes view.fetches view.geometry.ways block n
  large_from_miss way is = (
    younger_after view.fetches block is.earlier,
    (is.earlier, is.is_path, refl),
    (law n is.earlier is.is_path fetches).1.0 is.fate,
  )

  -- where no path can hit, no set is small
  none_small_from_misses : AllEnd view.nodes view.geometry start n false
      → MayBeSmall view.nodes view.fetches view.geometry.ways start block n → ⊥
  none_small_from_misses none (set, (earlier, path, is), small) =
      none earlier path ((law n earlier path fetches).0.1
      (ap (is_small view.geometry.ways) is ∙ lt-ltb (length set) view.geometry.ways small))

  -- where none can miss, none is large or absent
  none_large_from_hits : AllEnd view.nodes view.geometry start n true
      → MayBeLarge view.nodes view.fetches view.geometry.ways block n → ⊥
  none_large_from_hits none (younger, (earlier, path, is), large) =
      none earlier path ((law n earlier path fetches).1.1 (ap (is_small view.geometry.ways) is ∙ large))

  -- a way to a hit is there where a least warm set is
  pub hit_alike : (hit : Option Way) (least : List (List ℕ)) → IsEnd view start n true hit
      → AreLeast view.nodes view.fetches view.geometry.ways start block n least
      → IsSome hit ↔ (least ≢ [])
  hit_alike None [] is are = (λ some. absurd (cc), λ others. absurd (others refl))
  hit_alike None (first ∷ others) is are = (
    λ some. absurd (cc),
    λ other.
        let one = (are first).0 ((Contains-cons first others first).1 (inr refl)) in
        absurd (none_small_from_misses is (first, one.left, one.small)),
  )
  hit_alike (Some way) [] is are = (
    λ some none.
        let may = small_from_hit way is in
        no_least view start block n (λ s least. let there = (are s).1 least in omega (arith, there.1))
        (length may.0 + 1)
        may.0 (omega arith) may.1 may.2,
    λ other. refl,
  )
  hit_alike (Some way) (first ∷ others) is are = (λ some none. absurd (cc), λ other. refl)

  -- a way to a miss is there where the most younger sets are absent
  pub miss_alike : (miss : Option Way) (most : Option (List (List ℕ))) → IsEnd view start n false miss
      → AreMost view.nodes view.fetches view.geometry.ways block n most
      → IsSome miss ↔ (most ≡ None)
  miss_alike None None is are = (λ some. refl, λ none. absurd (none_large_from_hits is are))
  miss_alike None (Some sets) is are = (λ some. absurd (cc), λ none. absurd (cc))
  miss_alike (Some way) None is are = (λ some. refl, λ none. refl)
  miss_alike (Some way) (Some sets) is are = (λ some. absurd (are.0 (large_from_miss way is)), λ none. refl)

-- two lists of the fetchers are one
fetchers_same : (fetches : List (Option ℕ)) (block : ℕ) (one two : List ℕ) → AreFetchers fetches block one
    → AreFetchers fetches block two → one ≡ two
fetchers_same fetches block one two first second =
    same_from_subsets one two first.rising second.rising (λ n there. (second.members n).1 ((first.members n).0 there))
    (λ n there. (first.members n).1 ((second.members n).0 there))

-- what is settled of one node is alike
pub all_alike : (view : View) (start : Start) (block : ℕ) → EndsBySets view start block
    → (places : List PlainPlace) (fates : List Fate)
    → AreFetchers view.fetches block (map (λ place. place.node) places)
    → AreFetchers view.fetches block (map (λ fate. fate.node) fates)
    → (k : ℕ) (place : PlainPlace) (fate : Fate) → slice_get places k ≡ Some place → slice_get fates k ≡ Some fate
    → IsPlainPlace view start block place → IsFate view start fate → IsAlike place fate
all_alike view start block law places fates places_are fates_are k place fate place_at fate_at place_is fate_is =
    let place_node : slice_get (map (λ (p : PlainPlace). p.node) places) k ≡ Some place.node =
    slice_get-map (λ (p : PlainPlace). p.node) places k ∙ ap (option_map (λ (p : PlainPlace). p.node)) place_at in
    let fate_node : slice_get (map (λ (f : Fate). f.node) fates) k ≡ Some fate.node =
    slice_get-map (λ (f : Fate). f.node) fates k ∙ ap (option_map (λ (f : Fate). f.node)) fate_at in
    let lists = fetchers_same view.fetches block (map (λ (p : PlainPlace). p.node) places)
    (map (λ (f : Fate). f.node) fates) places_are fates_are in
    let same : fate.node ≡ place.node = same_Some fate.node place.node
    (sym fate_node ∙ sym (ap (λ (ns : List ℕ). slice_get ns k) lists) ∙ place_node) in
    let fetches = (places_are.members place.node).0 (has-found (map (λ (p : PlainPlace). p.node) places) k place.node
    place_node) in
    record {
      same = same;
      hit = hit_alike view start block law place.node fetches fate.hit place.least
          (subst (λ (m : ℕ). IsEnd view start m true fate.hit) same fate_is.hit) place_is.least;
      miss = miss_alike view start block law place.node fetches fate.miss place.most
          (subst (λ (m : ℕ). IsEnd view start m false fate.miss) same fate_is.miss) place_is.most;
    }
