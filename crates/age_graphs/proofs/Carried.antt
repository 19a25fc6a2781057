-- What carries unclear fetches from one view of a set to another.
use Rattle.std.proofs.Common.{◌≡◌, ℕ, ◌<◌, List, length, Option, sym, ◌∙◌, arith}
use Rattle.std.specs.Prelude.{slice_get, slice_index_or}
use Rattle.std.proofs.lemmas.Option.{get_or_from_slice_get}
use Rattle.list_lemmas.proofs.Members.{found-inside}
use Rattle.cache_spec.specs.declared.start.Start.{Start}
use Rattle.cache_spec.specs.Geometry.{Geometry, set_of}
use Rattle.cache_spec.specs.Blocks.{AreBlocks}
use Rattle.path_model.specs.declared.graph.Node.{Node}
use Rattle.path_model.specs.Graph.{IsGraph, addresses_of}
use Rattle.set_view.specs.View.{View, IsView}
use Rattle.age_spec.specs.Ages.{age_of, age_at}
use Rattle.age_spec.specs.Settled.{IsUnclear, IsUnclearAt, HasUnclear}
use Rattle.age_spec.specs.Jobs.{IsJob}
use Rattle.age_spec.proofs.Existing.{four_exist}
use Rattle.age_graphs.specs.Numbers.{Four, IsFour, HasSame}
use Rattle.age_graphs.proofs.Views.{view_by, parts, joined, fetches_by, view_over}

-- the same stands at two places, the second of which is one of the list
pub same_place : {D : Type 0} (before after : List D) (d : D) (p n : ℕ) → n < length before
    → slice_get after p ≡ slice_get before n → slice_index_or after p d ≡ slice_index_or before n d
same_place before after d p n inside same =
    let found = found-inside before n inside in
    get_or_from_slice_get after p found.0 d (same ∙ found.1) ∙ sym (get_or_from_slice_get before n found.0 d found.1)

-- numbers that are the same are so the other way round
pub turned : (local : ℕ) (one : Four) (n : ℕ) (other : Four) (p : ℕ) → HasSame local one n other p
    → HasSame local other p one n
turned local one n other p same =
    record { must = sym same.must; may = sym same.may; hit = sym same.hit; miss = sym same.miss }

-- the numbers of the local block before a node are unclear
abbrev pub AreUnclear : ℕ → ℕ → Four → ℕ → Type 0
AreUnclear ways local four n =
    IsUnclear ways (age_of four.must n local) (age_of four.may n local) (age_at four.hit n) (age_at four.miss n)

-- and so are the same numbers before another
pub unclear_there : (ways local : ℕ) (one : Four) (n : ℕ) (other : Four) (p : ℕ) → HasSame local one n other p
    → AreUnclear ways local one n → AreUnclear ways local other p
unclear_there ways local one n other p same unclear = record {
  not_hit = same.must ∙ unclear.not_hit;
  not_miss = omega (arith, same.may, unclear.not_miss);
  not_both = λ can_hit can_miss. unclear.not_both (omega (arith, same.hit, can_hit)) (sym same.miss ∙ can_miss);
}

-- a node's fetch of the local block is unclear
abbrev pub IsUnclearBy : View → ℕ → Four → ℕ → Type 0
IsUnclearBy view local four n = IsUnclearAt view local four.must four.may four.hit four.miss n

-- an unclear fetch in one view is one in another, whatever the least solutions are
abbrev pub Carries : View → View → Start → ℕ → Type 0
Carries one other start local = (four other_four : Four) → IsFour one start local four
    → IsFour other start local other_four → (n : ℕ) → IsUnclearBy one local four n
    → (m : ℕ) × IsUnclearBy other local other_four m

-- so a local block that has one in the one view has one in the other
has_carried : (one other : View) (start : Start) (local : ℕ) → IsView other → Carries one other start local
    → HasUnclear one start local → HasUnclear other start local
has_carried one other start local is carries has =
    let found = four_exist other is start local in
    let four : Four = record { must = has.must; may = has.may; hit = has.hit; miss = has.miss } in
    let other_four : Four = record { must = found.0; may = found.1; hit = found.2; miss = found.3 } in
    let there = carries four other_four has.four found.4 has.node has.unclear in
    record {
      must = found.0;
      may = found.1;
      hit = found.2;
      miss = found.3;
      four = found.4;
      node = there.0;
      unclear = there.1;
    }

-- and a job over the one graph is one over the other, which fetches the same blocks of the set
pub job_carried : (nodes others : List Node) (g : Geometry) (start : Start) (block : ℕ) → IsGraph others
    → ((blocks : List ℕ) → AreBlocks (addresses_of nodes) g (set_of g block) blocks
    → AreBlocks (addresses_of others) g (set_of g block) blocks)
    → ((blocks : List ℕ) (fetches other_fetches : List (Option ℕ)) (local : ℕ)
    → IsView (view_by nodes g (set_of g block) blocks fetches)
    → IsView (view_by others g (set_of g block) blocks other_fetches)
    → Carries (view_by nodes g (set_of g block) blocks fetches) (view_by others g (set_of g block) blocks other_fetches)
    start local)
    → IsJob nodes g start block → IsJob others g start block
job_carried nodes others g start block graph same carries job =
    let one = parts nodes g start block job in
    let set : ℕ = set_of g block in
    let there : List (Option ℕ) = fetches_by others g set one.blocks in
    let is_view = view_over nodes g set one.blocks one.fetches others one.is_view graph
    (same one.blocks one.is_view.blocks) in
    joined others g start block (record {
      blocks = one.blocks;
      fetches = there;
      is_view = is_view;
      local = one.local;
      block_is = one.block_is;
      unclear = has_carried (view_by nodes g set one.blocks one.fetches) (view_by others g set one.blocks there) start
          one.local is_view (carries one.blocks one.fetches there one.local one.is_view is_view) one.unclear;
    })
