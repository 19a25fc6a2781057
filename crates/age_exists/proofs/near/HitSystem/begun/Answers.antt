use Rattle.std.proofs.Common.{◌≡◌, ℕ, List, length, map, replicate, ap, ◌∙◌, arith}
use Rattle.std.specs.Prelude.{slice_set}
use Rattle.std.specs.List.{range_with_len}
use Rattle.std.specs.Vec.{with_item}
use Rattle.std.proofs.lemmas.List.{length-map}
use Rattle.age_spec.specs.Exists.{first_hit_bound}
use Rattle.age_exists.specs.Seen.{entry_seen, entries_seen}
use Rattle.age_exists.specs.Spread.{Hits, hits_seen, Spread, spread_seen}
use Rattle.age_exists.proofs.Begun.{begun_as, own}
use Rattle.age_exists.proofs.near.HitSystem.begun.Goals as goal

pub returns : goal.returns
returns c =
    let h : Hits = hits_seen c.args.self.now in
    let ways : ℕ = h.view.geometry.ways in
    let nodes : ℕ = length h.view.nodes in
    let firsts = entries_seen c.args.firsts.now in
    let first : ℕ = c.first_bound.result in
    let same_count : length c.args.firsts.now ≡ nodes =
    omega (arith, length-map c.args.firsts.now entry_seen, c.requires.one_each) in
    let same_ways : c.ways-ways.result ≡ ways = c.ways-ways.ensures.same in
    let same_first : first ≡ first_hit_bound h.start ways =
    c.first_bound.ensures ∙ ap (first_hit_bound h.start) same_ways in
    let bounds : slice_set c.in_ok-bounds.bounds.items 0 first
    ≡ slice_set (replicate nodes ways) 0 (first_hit_bound h.start ways) =
    ap (λ (l : List ℕ). slice_set l 0 first) (c.in_ok-bounds.ensures.items_if_clones_equal (λ y is. is))
    ∙ (ap (λ (n : ℕ). slice_set (replicate n c.ways-ways.result) 0 first) same_count
    ∙ (ap (λ (k : ℕ). slice_set (replicate nodes k) 0 first) same_ways
    ∙ ap (λ (x : ℕ). slice_set (replicate nodes ways) 0 x) same_first)) in
    let s : Spread = spread_seen (record {
      bounds = with_item c.in_ok-bounds.bounds 0 first;
      steps = record { entries = c.in_ok-from_slice.field-0; last = c.in_ok-own_numbers.field-0 };
    }) in
    begun_as h c.blocks-blocks.ensures.view firsts c.requires s bounds
    (ap entries_seen c.in_ok-from_slice.ensures.items)
    (c.in_ok-own_numbers.ensures ∙ ap (λ (n : ℕ). map own (range_with_len 0 n)) same_count)
