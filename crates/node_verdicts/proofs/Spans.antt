-- Spans of sets.
use Rattle.std.proofs.Common.{◌≡◌, ◌↔◌, ℕ, ◌+◌, ◌++◌, ◌<◌, ◌≤◌, inl, inr, List, [], length, Option, Some, None, sym, ap, subst, arith}
use Rattle.std.proofs.lemmas.Bool.{cases_eq, cases_lt}
use Rattle.std.specs.Prelude.{Result, Ok, Err, IfErr, IsErrAnd}
use Rattle.cache_spec.specs.Geometry.{Geometry, set_of}
use Rattle.cache_spec.specs.Blocks.{HaveFew, HaveBlocks}
use Rattle.cache_spec.specs.declared.start.Start.{Start}
use Rattle.path_model.specs.declared.graph.Node.{Node}
use Rattle.path_model.specs.Graph.{addresses_of}
use Rattle.node_spec.specs.declared.verdict.Kept.{Kept}
use Rattle.set_view.specs.declared.fetched.ViewFault.{ViewFault}
use Rattle.set_view.specs.declared.fetched.ViewFault.TheVariants.{TooManyBlocks, OutOfMemory}
use Rattle.set_view.specs.View.{IsFault}
use Rattle.node_verdicts.specs.declared.judged.Judged.{Judged}
use Rattle.node_verdicts.specs.declared.ranges.Span.{Span}
use Rattle.age_spec.specs.Jobs.{IsJob}
use Rattle.node_verdicts.specs.Found.{IsClearWithin}
use Rattle.node_verdicts.specs.Judged.{block_at, set_at, IsFetcher, IsFetcherOf, AreJudged}
use Rattle.node_verdicts.specs.Ranges.{IsSpan, AreFew, HaveManyWithin, IsFaultWithin, widened}
use Rattle.node_verdicts.proofs.Counted.{few_unfetched}
use Rattle.node_verdicts.proofs.Joined.{judged_none, judged_as, judged_both}

-- the span of the sets that the first `count` nodes fetch; none where they fetch none
abbrev pub IsSpanSoFar : List Node → Geometry → ℕ → ℕ → ℕ → Option Span → Type 0
IsSpanSoFar nodes g low high count None = (n : ℕ) → n < count → IsFetcher nodes g low high n → ⊥
IsSpanSoFar nodes g low high count (Some span) = (low ≤ span.first) × (span.first ≤ span.last) × (span.last < high)
    × ((n : ℕ) → n < count → IsFetcher nodes g low high n
    → (span.first ≤ set_at nodes g n) × (set_at nodes g n ≤ span.last))

module _ (nodes : List Node) (g : Geometry) (low high count : ℕ) where
  -- one more node that fetches one of the sets
  pub span_more : (span : Option Span) → IsSpanSoFar nodes g low high count span → low ≤ set_at nodes g count
      → set_at nodes g count < high → IsSpanSoFar nodes g low high (count + 1) (Some (widened span (set_at nodes g count)))
  span_more None none above below = (
    above,
    omega arith,
    below,
    λ n under fetcher. elim (cases_eq count n) [
      | inl last ↦
          let same : set_at nodes g count ≡ set_at nodes g n = ap (set_at nodes g) last in
          (omega (arith, same), omega (arith, same))
      | inr before ↦ absurd (none n (omega (arith, under, before)) fetcher)
    ],
  )
  span_more (Some span) (low_end, some, high_end, all) above below = (
    omega (arith, low_end, above),
    omega (arith, some),
    omega (arith, high_end, below),
    λ n under fetcher. elim (cases_eq count n) [
      | inl last ↦
          let same : set_at nodes g count ≡ set_at nodes g n = ap (set_at nodes g) last in
          (omega (arith, same), omega (arith, same))
      | inr before ↦
          let old = all n (omega (arith, under, before)) fetcher in
          (omega (arith, old.0), omega (arith, old.1))
    ],
  )

  -- one more that fetches none of them
  pub span_passed : (span : Option Span) → IsSpanSoFar nodes g low high count span
      → (low ≤ set_at nodes g count → set_at nodes g count < high → ⊥)
      → IsSpanSoFar nodes g low high (count + 1) span
  span_passed None none other = λ n under fetcher. elim (cases_eq count n) [
    | inl last ↦
        let same : set_at nodes g count ≡ set_at nodes g n = ap (set_at nodes g) last in
        other (omega (arith, same, fetcher.above)) (omega (arith, same, fetcher.below))
    | inr before ↦ none n (omega (arith, under, before)) fetcher
  ]
  span_passed (Some span) (low_end, some, high_end, all) other = (
    low_end,
    some,
    high_end,
    λ n under fetcher. elim (cases_eq count n) [
      | inl last ↦
          let same : set_at nodes g count ≡ set_at nodes g n = ap (set_at nodes g) last in
          absurd (other (omega (arith, same, fetcher.above)) (omega (arith, same, fetcher.below)))
      | inr before ↦ all n (omega (arith, under, before)) fetcher
    ],
  )

-- all nodes
pub span_all : (nodes : List Node) (g : Geometry) (low high count : ℕ) (span : Span) → length nodes ≤ count
    → IsSpanSoFar nodes g low high count (Some span) → IsSpan nodes g low high span
span_all nodes g low high count span all is = record {
  low_end = is.0;
  some = is.1;
  high_end = is.2;
  all = λ n fetcher. is.3 n (omega (arith, fetcher.inside, all)) fetcher;
}

module _ (nodes : List Node) (g : Geometry) (low high : ℕ) (span : Span) (is : IsSpan nodes g low high span) where
  -- few blocks of a set outside the span are fetched: none
  few_outside : (set : ℕ) → low ≤ set → set < high → ((span.first ≤ set) → (set ≤ span.last) → ⊥)
      → HaveFew (addresses_of nodes) g set
  few_outside set above below outside = few_unfetched nodes g set (λ n inside at.
      let within = is.all n (record { inside = inside; above = omega (arith, above, at); below = omega (arith, below, at) }) in
      outside (omega (arith, within.0, at)) (omega (arith, within.1, at)))

  -- where few blocks of each set of the span are fetched, so are of each set
  pub few_span : AreFew nodes g span.first (span.last + 1) → AreFew nodes g low high
  few_span few set above below = elim (cases_lt set span.first) [
    | inl before ↦ few_outside set above below (λ first last. omega (arith, before, first))
    | inr from ↦ elim (cases_lt span.last set) [
      | inl after ↦ few_outside set above below (λ first last. omega (arith, after, last))
      | inr to ↦ few set from (omega (arith, to))
    ]
  ]

  -- the first set of the span with too many is the first of all
  many_span : (which count : ℕ) → HaveManyWithin nodes g span.first (span.last + 1) which count
      → HaveManyWithin nodes g low high which count
  many_span which count many = record {
    above = omega (arith, is.low_end, many.above);
    below = omega (arith, is.high_end, many.below);
    earlier = λ set above before. elim (cases_lt set span.first) [
      | inl outside ↦
          few_outside set above (omega (arith, before, many.below, is.high_end)) (λ first last. omega (arith, outside, first))
      | inr from ↦ many.earlier set from before
    ];
    has = many.has;
    many = many.many;
  }

  pub fault_span : (fault : ViewFault) → IsFaultWithin nodes g span.first (span.last + 1) fault
      → IsFaultWithin nodes g low high fault
  fault_span (TooManyBlocks which count) many = many_span which count many
  fault_span OutOfMemory nothing = nothing

  -- the nodes that fetch a clear block of the sets are those that fetch one of the span
  pub judged_span : (start : Start) (kept : Kept) (judged : List Judged)
      → AreJudged nodes g start kept (IsFetcherOf nodes g (IsClearWithin nodes g start span.first (span.last + 1))) judged
      → AreJudged nodes g start kept (IsFetcherOf nodes g (IsClearWithin nodes g start low high)) judged
  judged_span start kept judged are =
      judged_as nodes g start kept (IsFetcherOf nodes g (IsClearWithin nodes g start span.first (span.last + 1)))
      (IsFetcherOf nodes g (IsClearWithin nodes g start low high)) judged are
      (λ n fetcher. record {
        inside = fetcher.inside;
        among = record {
          above = omega (arith, is.low_end, fetcher.among.above);
          below = omega (arith, is.high_end, fetcher.among.below);
          no_job = fetcher.among.no_job;
        };
      })
      (λ n fetcher.
      let within = is.all n
      (record { inside = fetcher.inside; above = fetcher.among.above; below = fetcher.among.below }) in
      record {
        inside = fetcher.inside;
        among = record { above = within.0; below = omega (arith, within.1); no_job = fetcher.among.no_job };
      })

-- few blocks of one set, as sets from it to the next one
pub few_one : (nodes : List Node) (g : Geometry) (first last : ℕ) → first ≡ last → HaveFew (addresses_of nodes) g first
    → AreFew nodes g first (last + 1)
few_one nodes g first last same few set above below =
    subst (HaveFew (addresses_of nodes) g) (let e : first ≡ set = omega (arith, same, above, below) in e) few

-- why there is no view of one set
pub fault_one : (nodes : List Node) (g : Geometry) (first last : ℕ) → first ≡ last → (fault : ViewFault)
    → IsFault nodes g first fault → IsFaultWithin nodes g first (last + 1) fault
fault_one nodes g first last same (TooManyBlocks which count) (is, has, many) = record {
  above = omega (arith, is);
  below = omega (arith, is, same);
  earlier = λ set above before. absurd (omega (arith, above, before, is));
  has = subst (λ (set : ℕ). HaveBlocks (addresses_of nodes) g set count) (sym is) has;
  many = many;
}
fault_one nodes g first last same OutOfMemory nothing = nothing

-- few blocks of the sets of both parts
pub few_both : (nodes : List Node) (g : Geometry) (low middle high : ℕ) → AreFew nodes g low middle
    → AreFew nodes g middle high → AreFew nodes g low high
few_both nodes g low middle high first second set above below = elim (cases_lt set middle) [
  | inl before ↦ first set above before
  | inr from ↦ second set from below
]

-- the first fault of the lower part is that of both
pub fault_first : (nodes : List Node) (g : Geometry) (low middle high : ℕ) → middle ≤ high → (fault : ViewFault)
    → IsFaultWithin nodes g low middle fault → IsFaultWithin nodes g low high fault
fault_first nodes g low middle high fits (TooManyBlocks which count) many = record {
  above = many.above;
  below = omega (arith, many.below, fits);
  earlier = many.earlier;
  has = many.has;
  many = many.many;
}
fault_first nodes g low middle high fits OutOfMemory nothing = nothing

-- and that of the higher part, where the lower one has none
pub fault_second : (nodes : List Node) (g : Geometry) (low middle high : ℕ) → low ≤ middle → AreFew nodes g low middle
    → (fault : ViewFault) → IsFaultWithin nodes g middle high fault → IsFaultWithin nodes g low high fault
fault_second nodes g low middle high fits few (TooManyBlocks which count) many = record {
  above = omega (arith, many.above, fits);
  below = many.below;
  earlier = few_both nodes g low middle which few many.earlier;
  has = many.has;
  many = many.many;
}
fault_second nodes g low middle high fits few OutOfMemory nothing = nothing

-- the nodes of both parts are judged
pub judged_parts : (nodes : List Node) (g : Geometry) (start : Start) (kept : Kept) (low middle high : ℕ)
    (xs ys all : List Judged) → low ≤ middle → middle ≤ high
    → AreJudged nodes g start kept (IsFetcherOf nodes g (IsClearWithin nodes g start low middle)) xs
    → AreJudged nodes g start kept (IsFetcherOf nodes g (IsClearWithin nodes g start middle high)) ys → all ≡ xs ++ ys
    → AreJudged nodes g start kept (IsFetcherOf nodes g (IsClearWithin nodes g start low high)) all
judged_parts nodes g start kept low middle high xs ys all above below first second is =
    judged_both nodes g start kept (IsFetcherOf nodes g (IsClearWithin nodes g start low middle))
    (IsFetcherOf nodes g (IsClearWithin nodes g start middle high))
    (IsFetcherOf nodes g (IsClearWithin nodes g start low high)) xs ys first second
    (λ n one two. omega (arith, one.among.below, two.among.above))
    (λ n one. record {
      inside = one.inside;
      among = record {
        above = one.among.above;
        below = omega (arith, one.among.below, below);
        no_job = one.among.no_job;
      };
    })
    (λ n two. record {
      inside = two.inside;
      among = record {
        above = omega (arith, two.among.above, above);
        below = two.among.below;
        no_job = two.among.no_job;
      };
    })
    (λ n fetcher. elim (cases_lt (set_at nodes g n) middle) [
      | inl before ↦ inl (record {
        inside = fetcher.inside;
        among = record { above = fetcher.among.above; below = before; no_job = fetcher.among.no_job };
      })
      | inr from ↦ inr (record {
        inside = fetcher.inside;
        among = record { above = from; below = fetcher.among.below; no_job = fetcher.among.no_job };
      })
    ])
    all is

-- no node fetches a clear block of no sets
pub judged_empty : (nodes : List Node) (g : Geometry) (start : Start) (kept : Kept) (low high : ℕ) (judged : List Judged)
    → judged ≡ [] → ((n : ℕ) → IsFetcher nodes g low high n → ⊥)
    → AreJudged nodes g start kept (IsFetcherOf nodes g (IsClearWithin nodes g start low high)) judged
judged_empty nodes g start kept low high judged none nobody =
    judged_none nodes g start kept (IsFetcherOf nodes g (IsClearWithin nodes g start low high)) judged none
    (λ n fetcher.
    nobody n (record { inside = fetcher.inside; above = fetcher.among.above; below = fetcher.among.below }))

-- the clear blocks of two graphs that have the same jobs are the same
pub judged_clear : (nodes : List Node) (g : Geometry) (start : Start) (kept : Kept) (low high : ℕ) (others : List Node)
    (judged : List Judged)
    → ((block : ℕ) → low ≤ set_of g block → set_of g block < high
    → IsJob others g start block ↔ IsJob nodes g start block)
    → AreJudged nodes g start kept (IsFetcherOf nodes g (IsClearWithin others g start low high)) judged
    → AreJudged nodes g start kept (IsFetcherOf nodes g (IsClearWithin nodes g start low high)) judged
judged_clear nodes g start kept low high others judged same are =
    judged_as nodes g start kept (IsFetcherOf nodes g (IsClearWithin others g start low high))
    (IsFetcherOf nodes g (IsClearWithin nodes g start low high)) judged are
    (λ n fetcher.
    let clear = fetcher.among in
    record {
      inside = fetcher.inside;
      among = record {
        above = clear.above;
        below = clear.below;
        no_job = λ job. clear.no_job ((same (block_at nodes g n) clear.above clear.below).1 job);
      };
    })
    (λ n fetcher.
    let clear = fetcher.among in
    record {
      inside = fetcher.inside;
      among = record {
        above = clear.above;
        below = clear.below;
        no_job = λ job. clear.no_job ((same (block_at nodes g n) clear.above clear.below).0 job);
      };
    })

-- why nothing was found is handed on
pub err_as : {A : Type 0} (Is : ViewFault → Type 0) (result : Result A ViewFault) (fault : ViewFault)
    → IsErrAnd result (λ e. e ≡ fault) → Is fault → IfErr result Is
err_as Is (Ok found) fault same is = tt
err_as Is (Err e) fault same is = subst Is (sym same) is
