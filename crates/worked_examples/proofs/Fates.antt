-- How the paths of the loop end in a cache of one line of 16 bytes.
use Rattle.std.proofs.Common.{◌≡◌, ℕ, ◌/◌, List, [], ◌∷◌, refl, ap, ◌∙◌, subst, inl, inr, arith, lit<}
use Rattle.std.specs.Prelude.{Bool, true, false, codes}
use Rattle.elf_spec.specs.Word.{word_at}
use Rattle.riscv_spec.specs.Pair.{pair_of}
use Rattle.riscv_spec.specs.Table.{kind_of}
use Rattle.cache_spec.specs.Geometry.{Geometry}
use Rattle.cache_spec.specs.declared.start.Start.{Start}
use Rattle.cache_spec.specs.declared.start.Start.TheVariants.{Empty}
use Rattle.cache_spec.specs.Contents.{ends_in_hit}
use Rattle.cache_spec.specs.Start.{CanEnd}
use Rattle.cache_spec.proofs.Starts.{can_miss}
use Rattle.flow_spec.specs.Configuration.{Configuration, start_of, fetched}
use Rattle.flow_spec.specs.Next.{next_at}
use Rattle.flow_spec.specs.Successors.{successors}
use Rattle.transition_spec.specs.Path.{IsPath}
use Rattle.report_spec.specs.declared.line.Verdict.TheVariants.{AlwaysHit, Unknown}
use Rattle.report_spec.specs.Right.{EndsIn, Fetches, NamesFate, IsRight, fetches_of}
use Rattle.report_spec.specs.Inner.{IsUnreached}
use Rattle.worked_examples.specs.Caches.{geometry}
use Rattle.worked_examples.specs.Programs.{as_words, at, loop_and_rest}
use Rattle.worked_examples.specs.Texts.{way}
use Rattle.worked_examples.proofs.Moves.{step, IsAmong, among}

-- fetches that hit from an empty cache can't miss
pub hits_only : (g : Geometry) (start : Start) (addresses : List ℕ) → ends_in_hit g addresses ≡ true
    → CanEnd g start addresses false → ⊥
hits_only g start addresses hits can = let misses = (can_miss g start addresses).0 can in cc (hits, misses)

-- the path to the first word of a program can end as its one fetch can
pub alone : (words : List ℕ) (start : Start) (Ends : Configuration → Type 0) (hits : Bool) → Ends (at 0x10000)
    → CanEnd (geometry 16 1 1) start (0x10000 ∷ []) hits
    → NamesFate (as_words 16 words) (geometry 16 1 1) start Ends (way 1 []) hits
alone words start Ends hits ends can = record {
  path = at 0x10000 ∷ [];
  ends_in = record { last = at 0x10000; earlier = []; path_is = refl; is_path = refl; ends = ends };
  names = record { steps = refl; choices = refl };
  fate = can;
}

-- the three words lie in one block
block_is : (c : Configuration) → IsAmong c → fetched c / 16 ≡ 4096
block_is c (inl is) = ap (λ (c : Configuration). fetched c / 16) is
block_is c (inr (inl is)) = ap (λ (c : Configuration). fetched c / 16) is
block_is c (inr (inr is)) = ap (λ (c : Configuration). fetched c / 16) is

same_block : (p q : ℕ) (addresses : List ℕ) → p / 16 ≡ 4096 → q / 16 ≡ 4096
    → ends_in_hit (geometry 16 1 1) (q ∷ p ∷ addresses) ≡ true
same_block p q addresses before now = rw (before, now) refl

-- each path but the shortest ends in a hit
longer_hits : (c : Configuration) (earlier : List Configuration) → IsPath step (start_of 0x10000) (c ∷ earlier)
    → (fetched c ≡ 0x10000 → ⊥)
    → ends_in_hit (geometry 16 1 1) (fetches_of (c ∷ earlier)) ≡ true
longer_hits c [] path other = absurd (other (ap fetched path))
longer_hits c (b ∷ earlier) path other =
    same_block (fetched b) (fetched c) (fetches_of earlier) (block_is b (among earlier b path.1))
    (block_is c (among (b ∷ earlier) c path))

-- the configurations are somewhere else than at the entry
abbrev pub AreElsewhere : (Configuration → Type 0) → Type 0
AreElsewhere Ends = (d : Configuration) → Ends d → fetched d ≡ 0x10000 → ⊥

each_hits : (Ends : Configuration → Type 0) → AreElsewhere Ends → (addresses : List ℕ)
    → Fetches (as_words 16 loop_and_rest) Ends addresses → ends_in_hit (geometry 16 1 1) addresses ≡ true
each_hits Ends elsewhere addresses (path, ends, is) =
    let P : List Configuration → Type 0 = λ path. IsPath step (start_of 0x10000) path in
    ap (λ addresses. ends_in_hit (geometry 16 1 1) addresses) (is ∙ ap fetches_of ends.path_is)
    ∙ longer_hits ends.last ends.earlier (subst P ends.path_is ends.is_path) (elsewhere ends.last ends.ends)

none_misses : (Ends : Configuration → Type 0) → AreElsewhere Ends → (addresses : List ℕ)
    → Fetches (as_words 16 loop_and_rest) Ends addresses → CanEnd (geometry 16 1 1) Empty addresses false → ⊥
none_misses Ends elsewhere addresses fetches =
    hits_only (geometry 16 1 1) Empty addresses (each_hits Ends elsewhere addresses fetches)

address_is : (c : Configuration) → IsAmong c → fetched c ≡ 0x1000c → ⊥
address_is c (inl is) there = let e = ap fetched is in omega arith
address_is c (inr (inl is)) there = let e = ap fetched is in omega arith
address_is c (inr (inr is)) there = let e = ap fetched is in omega arith

-- no path reaches the word after
pub unreached : IsUnreached (as_words 16 loop_and_rest) 0x1000c
unreached addresses (path, ends, is) =
    let P : List Configuration → Type 0 = λ path. IsPath step (start_of 0x10000) path in
    address_is ends.last (among ends.earlier ends.last (subst P ends.path_is ends.is_path)) ends.ends

module _ (Ends : Configuration → Type 0) where
  once_to : Ends (at 0x10004) → EndsIn (as_words 16 loop_and_rest) Ends (at 0x10004 ∷ at 0x10000 ∷ [])
  unfolding successors next_at word_at kind_of pair_of
  once_to ends = record {
    last = at 0x10004;
    earlier = at 0x10000 ∷ [];
    path_is = refl;
    is_path = ((0, lit< tt, refl), refl);
    ends = ends;
  }

  through : Ends (at 0x10008)
      → EndsIn (as_words 16 loop_and_rest) Ends (at 0x10008 ∷ at 0x10004 ∷ at 0x10000 ∷ [])
  unfolding successors next_at word_at kind_of pair_of
  through ends = record {
    last = at 0x10008;
    earlier = at 0x10004 ∷ at 0x10000 ∷ [];
    path_is = refl;
    is_path = ((0, lit< tt, refl), ((0, lit< tt, refl), refl));
    ends = ends;
  }

  pub second_right : Ends (at 0x10004) → AreElsewhere Ends
      → IsRight (as_words 16 loop_and_rest) (geometry 16 1 1) Empty Ends AlwaysHit
  second_right ends elsewhere = record { some = (_, (_, once_to ends, refl)); none = none_misses Ends elsewhere }

  pub third_right : Ends (at 0x10008) → AreElsewhere Ends
      → IsRight (as_words 16 loop_and_rest) (geometry 16 1 1) Empty Ends AlwaysHit
  third_right ends elsewhere = record { some = (_, (_, through ends, refl)); none = none_misses Ends elsewhere }

  pub first_right : Ends (at 0x10000)
      → IsRight (as_words 16 loop_and_rest) (geometry 16 1 1) Empty Ends
      (Unknown (way 3 (codes "t")) (way 1 []))
  unfolding successors next_at word_at kind_of pair_of
  first_right ends = (
    record {
      path = at 0x10000 ∷ at 0x10004 ∷ at 0x10000 ∷ [];
      ends_in = record {
        last = at 0x10000;
        earlier = at 0x10004 ∷ at 0x10000 ∷ [];
        path_is = refl;
        is_path = ((1, lit< tt, refl), ((0, lit< tt, refl), refl));
        ends = ends;
      };
      names = record { steps = refl; choices = ([], codes "t", ([], [], refl, refl, refl), inr (refl, refl), refl) };
      fate = ([], refl, refl);
    },
    alone loop_and_rest Empty Ends false ends ([], refl, refl),
  )
