-- What is found of the jobs, put together with what ages settle.
use Rattle.std.proofs.Common.{◌≡◌, ◌⊎◌, ℕ, zero, suc, ◌+◌, ◌<◌, ◌++◌, ◌∷◌, [], inl, inr, List, length, get_or, refl, sym, ap, ◌∙◌, arith}
use Rattle.std.specs.Prelude.{slice_index}
use Rattle.std.specs.List.{Contains}
use Rattle.std.specs.List.Sorted.{IsStrictlyIncreasing}
use Rattle.std.proofs.lemmas.Bool.{cases_eq}
use Rattle.std.proofs.lemmas.Grind.{get_or_default_zero}
use Rattle.std.proofs.lemmas.List.Kept.{AllPairs-from_increasing}
use Rattle.cache_spec.specs.Geometry.{set_of}
use Rattle.line_blocks.specs.Runs.{AreRuns}
use Rattle.node_spec.specs.declared.verdict.NodeVerdict.{NodeVerdict}
use Rattle.node_verdicts.specs.declared.noting.HeadVerdict.{HeadVerdict}
use Rattle.node_verdicts.specs.declared.block_jobs.BlockJob.{BlockJob}
use Rattle.node_verdicts.specs.Judged.{block_at, IsFetcher, IsFetcherOf}
use Rattle.node_verdicts.specs.Found.{AreJobsWithin, IsClearWithin}
use Rattle.node_verdicts.specs.Noted.{IsNoted, with_heads}
use Rattle.node_verdicts.specs.Searches.{IsSearched}
use Rattle.node_verdicts.proofs.Joined.{judged_as, judged_both}
use Rattle.node_verdicts.proofs.Noted.{noted_more}
use Rattle.node_verdicts.proofs.Parted.{heads_inside}

-- a number is in a list or not
has_or_not : (xs : List ℕ) (x : ℕ) → Contains xs x ⊎ (Contains xs x → ⊥)
has_or_not [] x = inr (λ (k, inside, is). omega (arith, inside))
has_or_not (y ∷ xs) x = elim (cases_eq y x) [
  | inl same ↦ inl (0, omega arith, same)
  | inr other ↦ elim (has_or_not xs x) [
    | inl (k, inside, is) ↦ inl (suc k, omega (arith, inside), is)
    | inr not ↦ inr (absent not other)
  ]
]
  where
    absent : (Contains xs x → ⊥) → (y ≡ x → ⊥) → Contains (y ∷ xs) x → ⊥
    absent not other (zero, inside, is) = other is
    absent not other (suc k, inside, is) = not (k, omega (arith, inside), is)

-- a block that ages settle, or one of the first jobs
abbrev pub IsKnown : BlockJob → ℕ → ℕ → Type 0
IsKnown job count block =
    IsClearWithin job.blocks.now.small job.geometry job.start 0 job.geometry.sets block
    ⊎ ((place : ℕ) × (place < count) × (slice_index job.jobs.now place ≡ block))

-- what is known of these blocks is noted
abbrev pub IsNotedTo : BlockJob → ℕ → List NodeVerdict → Type 0
IsNotedTo job count =
    IsNoted job.blocks.now job.geometry job.start job.kept
    (IsFetcherOf job.blocks.now.small job.geometry (IsKnown job count))

module _ (job : BlockJob)
    (jobs : AreJobsWithin job.blocks.now.small job.geometry job.start 0 job.geometry.sets job.jobs.now) where
  -- at first what ages settle is known
  pub searched_none : (found : List NodeVerdict)
      → IsNoted job.blocks.now job.geometry job.start job.kept
      (IsFetcherOf job.blocks.now.small job.geometry
      (IsClearWithin job.blocks.now.small job.geometry job.start 0 job.geometry.sets)) found
      → IsNotedTo job 0 found
  searched_none found noted = record {
    judged = noted.judged;
    are = judged_as job.blocks.now.small job.geometry job.start job.kept
        (IsFetcherOf job.blocks.now.small job.geometry
        (IsClearWithin job.blocks.now.small job.geometry job.start 0 job.geometry.sets))
        (IsFetcherOf job.blocks.now.small job.geometry (IsKnown job 0)) noted.judged noted.are
        (λ n fetcher. record { inside = fetcher.inside; among = inl fetcher.among })
        (λ n fetcher. record {
          inside = fetcher.inside;
          among = elim fetcher.among [
            | inl clear ↦ clear
            | inr (place, below, is) ↦ absurd (omega (arith, below))
          ];
        });
    noted = noted.noted;
  }

  -- a block that is known isn't the next job
  apart : IsStrictlyIncreasing job.jobs.now → (count : ℕ) → count < length job.jobs.now → (block : ℕ)
      → IsKnown job count block → block ≡ slice_index job.jobs.now count → ⊥
  apart rising count inside block (inl clear) same =
      clear.no_job ((jobs.members block).0 (count, inside, at)).is_job
    where
      at : get_or job.jobs.now count block ≡ block
      at = get_or_default_zero job.jobs.now count block inside ∙ sym same
  apart rising count inside block (inr (place, below, is)) same =
      let less = AllPairs-from_increasing job.jobs.now rising place count 0 below inside in
      omega (arith, less, is, same)

  -- one more job
  pub searched_more : AreRuns job.blocks.now → IsStrictlyIncreasing job.jobs.now → (count : ℕ)
      → count < length job.jobs.now → (found more : List NodeVerdict) (heads : List HeadVerdict)
      → IsNotedTo job count found → IsSearched job count heads → more ≡ with_heads heads found
      → IsNotedTo job (count + 1) more
  searched_more runs rising count inside found more heads noted is more_is =
      let next = slice_index job.jobs.now count in
      record {
        judged = noted.judged ++ is.judged;
        are = judged_both job.blocks.now.small job.geometry job.start job.kept
            (IsFetcherOf job.blocks.now.small job.geometry (IsKnown job count))
            (IsFetcherOf job.blocks.now.small job.geometry (λ block. block ≡ next))
            (IsFetcherOf job.blocks.now.small job.geometry (IsKnown job (count + 1)))
            noted.judged is.judged noted.are is.are
            (λ n one two. apart rising count inside (block_at job.blocks.now.small job.geometry n) one.among two.among)
            (λ n one. record { inside = one.inside; among = wider (block_at job.blocks.now.small job.geometry n) one.among })
            (λ n two. record { inside = two.inside; among = inr (count, omega arith, sym two.among) })
            (λ n known. elim (narrower (block_at job.blocks.now.small job.geometry n) known.among) [
              | inl before ↦ inl (record { inside = known.inside; among = before })
              | inr last ↦ inr (record { inside = known.inside; among = last })
            ])
            _ refl;
        noted = noted_more job.blocks.now noted.judged is.judged heads found more noted.noted is.verdicts
            (λ head there. omega (
              arith,
              heads_inside job.blocks.now runs is.judged heads (λ one among. (is.are.within one among).inside)
                  is.verdicts head there,
              noted.noted.as_many,
            ))
            more_is;
      }
    where
      wider : (block : ℕ) → IsKnown job count block → IsKnown job (count + 1) block
      wider block (inl clear) = inl clear
      wider block (inr (place, below, is)) = inr (place, omega (arith, below), is)

      narrower : (block : ℕ) → IsKnown job (count + 1) block
          → IsKnown job count block ⊎ (block ≡ slice_index job.jobs.now count)
      narrower block (inl clear) = inl (inl clear)
      narrower block (inr (place, below, is)) = elim (cases_eq place count) [
        | inl last ↦ inr (sym is ∙ ap (slice_index job.jobs.now) last)
        | inr before ↦ inl (inr (place, omega (arith, below, before), is))
      ]

  -- with all jobs all nodes are known
  pub searched_all : (count : ℕ) (found : List NodeVerdict) → count ≡ length job.jobs.now
      → ((block : ℕ) → set_of job.geometry block < job.geometry.sets) → IsNotedTo job count found
      → IsNoted job.blocks.now job.geometry job.start job.kept
      (IsFetcher job.blocks.now.small job.geometry 0 job.geometry.sets) found
  searched_all count found all sets noted = record {
    judged = noted.judged;
    are = judged_as job.blocks.now.small job.geometry job.start job.kept
        (IsFetcherOf job.blocks.now.small job.geometry (IsKnown job count))
        (IsFetcher job.blocks.now.small job.geometry 0 job.geometry.sets) noted.judged noted.are
        (λ n known. record {
          inside = known.inside;
          above = omega arith;
          below = sets (block_at job.blocks.now.small job.geometry n);
        })
        (λ n fetcher. record { inside = fetcher.inside; among = known (block_at job.blocks.now.small job.geometry n) });
    noted = noted.noted;
  }
    where
      known : (block : ℕ) → IsKnown job count block
      known block = elim (has_or_not job.jobs.now block) [
        | inl (place, inside, is) ↦ inr (place, omega (arith, inside, all), at place inside is)
        | inr not ↦ inl (record {
          above = omega arith;
          below = sets block;
          no_job = λ job_here.
              not ((jobs.members block).1 (record { above = omega arith; below = sets block; is_job = job_here }));
        })
      ]
        where
          at : (place : ℕ) → place < length job.jobs.now → get_or job.jobs.now place block ≡ block
              → slice_index job.jobs.now place ≡ block
          at place inside is = sym (get_or_default_zero job.jobs.now place block inside) ∙ is
