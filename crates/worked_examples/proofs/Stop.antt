-- The paths of a word and a stop, and how they can end in a cache of one line of 16 bytes that may start with anything.
use Rattle.std.proofs.Common.{◌≡◌, ℕ, List, [], ◌∷◌, refl, ap, ◌∙◌, subst, inl, inr, arith, lit<, lit≤}
use Rattle.std.specs.Prelude.{◌⊎◌, Ok, true, false}
use Rattle.elf_spec.specs.Word.{word_at}
use Rattle.riscv_spec.specs.Pair.{pair_of}
use Rattle.riscv_spec.specs.Table.{kind_of}
use Rattle.cache_spec.specs.declared.start.Start.TheVariants.{Any}
use Rattle.cache_spec.specs.Contents.{ends_in_hit}
use Rattle.cache_spec.proofs.Starts.{can_hit-alone, can_miss}
use Rattle.flow_spec.specs.Acceptance.{Step}
use Rattle.flow_spec.specs.Configuration.{Configuration, start_of, fetched}
use Rattle.flow_spec.specs.Next.{next_at}
use Rattle.flow_spec.specs.Successors.{successors}
use Rattle.transition_spec.specs.Path.{IsPath}
use Rattle.report_spec.specs.declared.line.Verdict.TheVariants.{AlwaysHit, Unknown}
use Rattle.report_spec.specs.Right.{Fetches, IsRight, fetches_of}
use Rattle.report_spec.specs.Inner.{IsAt}
use Rattle.worked_examples.specs.Caches.{geometry}
use Rattle.worked_examples.specs.Programs.{as_words, at, nop_and_stop}
use Rattle.worked_examples.specs.Texts.{way}
use Rattle.worked_examples.proofs.Moves.{follows_in, one_of_one, none_of_none}
use Rattle.worked_examples.proofs.Fates.{hits_only, alone}

abbrev step : Step
step = successors (as_words 16 nop_and_stop)

first : step (at 0x10000) ≡ Ok (at 0x10004 ∷ [])
unfolding successors next_at word_at kind_of pair_of
first = refl

second : step (at 0x10004) ≡ Ok []
unfolding successors next_at word_at kind_of pair_of
second = refl

-- one path ends in each word
one_path : (c : Configuration) (earlier : List Configuration) → IsPath step (start_of 0x10000) (c ∷ earlier)
    → (c ∷ earlier ≡ at 0x10000 ∷ []) ⊎ (c ∷ earlier ≡ at 0x10004 ∷ at 0x10000 ∷ [])
one_path c [] path = inl (cc path)
one_path c (b ∷ earlier) (follows, path) = elim (one_path b earlier path) [
  | inl only ↦
      let b_is : b ≡ at 0x10000 = cc only in
      let c_is : c ≡ at 0x10004 = one_of_one _ c (follows_in step b _ c _ b_is first follows) in
      inr (cc (only, c_is))
  | inr longer ↦
      let b_is : b ≡ at 0x10004 = cc longer in
      absurd (none_of_none c (follows_in step b _ c _ b_is second follows))
]

-- what the path to the stop fetches
to_stop : (addresses : List ℕ) → Fetches (as_words 16 nop_and_stop) (IsAt 0x10004) addresses
    → addresses ≡ 0x10004 ∷ 0x10000 ∷ []
to_stop addresses (path, ends, is) =
    let P : List Configuration → Type 0 = λ path. IsPath step (start_of 0x10000) path in
    elim (one_path ends.last ends.earlier (subst P ends.path_is ends.is_path)) [
      | inl first ↦
          let last : ends.last ≡ at 0x10000 = cc first in
          let there = ap fetched last in
          let stop = ends.ends in absurd (omega (arith, there, stop))
      | inr whole ↦ is ∙ ap fetches_of (ends.path_is ∙ whole)
    ]

-- the word can hit, where its block was there, and can miss
pub first_unknown : IsRight (as_words 16 nop_and_stop) (geometry 16 1 1) Any (IsAt 0x10000)
    (Unknown (way 1 []) (way 1 []))
first_unknown = (
  alone nop_and_stop Any (IsAt 0x10000) true refl ((can_hit-alone (geometry 16 1 1) 0x10000 [] (lit≤ tt)).1 refl),
  alone nop_and_stop Any (IsAt 0x10000) false refl ((can_miss (geometry 16 1 1) Any (0x10000 ∷ [])).1 refl),
)

-- the stop always hits
pub second_hits : IsRight (as_words 16 nop_and_stop) (geometry 16 1 1) Any (IsAt 0x10004) AlwaysHit
unfolding successors next_at word_at kind_of pair_of
second_hits = record {
  some = (
    _,
    (
      at 0x10004 ∷ at 0x10000 ∷ [],
      record {
        last = at 0x10004;
        earlier = at 0x10000 ∷ [];
        path_is = refl;
        is_path = ((0, lit< tt, refl), refl);
        ends = refl;
      },
      refl,
    ),
  );
  none = λ addresses fetches. hits_only (geometry 16 1 1) Any addresses
      (ap (ends_in_hit (geometry 16 1 1)) (to_stop addresses fetches));
}
