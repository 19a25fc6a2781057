-- A program is accepted or refused: layer by layer, until one has a fault, passes the limit or is empty.
use Rattle.std.proofs.Common.{◌≡◌, ℕ, zero, suc, ◌+◌, ◌<◌, ◌⊎◌, inl, inr, List, [], ◌∷◌, ◌++◌, length, refl, ap, sym, subst, arith, length-append}
use Rattle.std.specs.Prelude.{Contains, Bool, true, false, not, IsTrue, Ok, Err, IsOk, IsOkAnd, flat_map}
use Rattle.std.specs.List.{AllByRecursion}
use Rattle.std.specs.Result.{result_unwrap_or}
use Rattle.std.proofs.lemmas.Bool.{cases_lt}
use Rattle.list_lemmas.proofs.Members.{has-none}
use Rattle.flow_spec.specs.Program.{Program}
use Rattle.flow_spec.specs.Acceptance.{Step, is_good_entry, IsFaultless, IsAccepted, IsRefused, fetch_limit}
use Rattle.flow_spec.specs.Configuration.{Configuration, start_of}
use Rattle.flow_spec.specs.Order.{configuration_cmp}
use Rattle.flow_spec.specs.Successors.{Successors}
use Rattle.flow_spec.proofs.Ordered.{configurations_total, equal-same}
use Rattle.flow_spec.specs.declared.fault.FlowFault.{FlowFault}
use Rattle.flow_spec.specs.declared.fault.FlowFault.TheVariants.{BadEntry, TooManyFetches}
use Rattle.call_expand.specs.Point.{FailsAt}
use Rattle.call_expand.specs.Search.{AreNext, IsWalked}
use Rattle.call_expand.proofs.Walked.{walked_begin, accepted, faulty, too_many, walked_more}
use Rattle.one_answer.proofs.FlatMapped.{has-flat_map, from-flat_map}
use Rattle.one_answer.proofs.InOrder.{rest_of}

-- a configuration that a step's list contains is among its successors; a fault has an empty list
from-listed : (r : Successors) (c : Configuration) → Contains (result_unwrap_or r []) c
    → IsOkAnd r (λ successors. Contains successors c)
from-listed (Ok successors) c has = has
from-listed (Err fault) c has = has-none c has

-- and a successor is in the list
has-listed : (r : Successors) (c : Configuration) → IsOkAnd r (λ successors. Contains successors c)
    → Contains (result_unwrap_or r []) c
has-listed (Ok successors) c has = has
has-listed (Err fault) c has = absurd has

module _ (step : Step) where
  -- one of some configurations is the first faulty one, or none is faulty
  abbrev FailsOrNot : List Configuration → Type 0
  FailsOrNot cs = ((fault : FlowFault) × FailsAt step cs fault) ⊎ AllByRecursion (IsFaultless step) cs

  -- the same with one more configuration before them, by where it leads
  fails-more : (r : Successors) (c : Configuration) (cs : List Configuration) → step c ≡ r → FailsOrNot cs
      → FailsOrNot (c ∷ cs)
  fails-more (Err fault) c cs goes rest =
      inl (fault, record { before = []; c = c; after = cs; split = refl; faultless = tt; faulty = goes })
  fails-more (Ok next) c cs goes (inr none) = inr (subst (λ (r : Successors). IsOk r) (sym goes) refl, none)
  fails-more (Ok next) c cs goes (inl (fault, fails)) =
      inl (
        fault,
        record {
          before = c ∷ fails.before;
          c = fails.c;
          after = fails.after;
          split = ap (λ cs. c ∷ cs) fails.split;
          faultless = (subst (λ (r : Successors). IsOk r) (sym goes) refl, fails.faultless);
          faulty = fails.faulty;
        },
      )

  -- so it is of all lists of configurations
  fails_or_not : (cs : List Configuration) → FailsOrNot cs
  fails_or_not [] = inr tt
  fails_or_not (c ∷ cs) = fails-more (step c) c cs refl (fails_or_not cs)

  -- what comes after the last layer so far: its successors that are in no layer yet, in order
  next_of : (before last : List Configuration)
      → (next : List Configuration) × AreNext step configuration_cmp before last next
  next_of before last =
      let gives : Configuration → List Configuration = λ c. result_unwrap_or (step c) [] in
      let found = flat_map gives last in
      let (next, are) = rest_of configuration_cmp configurations_total (λ c d. (equal-same c d).0) (before ++ last)
      found in (
        next,
        record {
          sorted = are.sorted;
          follow = λ c has.
              let (b, there, leads) = from-flat_map gives last c (are.found_there c has) in
              (b, there, from-listed (step b) c leads);
          unseen = are.unseen;
          all = λ b c has follows. are.all c (has-flat_map gives last b c has (has-listed (step b) c follows));
        },
      )

  module _ (program : Program) where
    -- the program is accepted or refused
    abbrev IsDecided : Type 0
    IsDecided =
        ((layers : List (List Configuration)) × IsAccepted step program layers)
        ⊎ ((fault : FlowFault) × IsRefused step program fault)

    -- the last layer so far has a fault, or the limit is passed with the next one, or the walk goes on with that
    further : (before last : List Configuration) → IsWalked step program before last
        → ((next : List Configuration) → IsWalked step program (before ++ last) next → IsDecided) → IsDecided
    further before last walked go_on = elim (fails_or_not last) [
      | inl (fault, fails) ↦ inr (fault, inr (inl (faulty step program before last walked fault fails)))
      | inr faultless ↦
          let (next, are) = next_of before last in
          elim (cases_lt fetch_limit (length ((before ++ last) ++ next))) [
            | inl many ↦
                let passed = too_many step program before last walked next faultless are many in
                inr (TooManyFetches fetch_limit, inr (inr passed))
            | inr few ↦ go_on next (walked_more step program before last walked next faultless are few)
          ]
    ]

    -- a walk ends, since n configurations more would pass the limit and each layer that isn't empty takes one
    decided_from : (n : ℕ) (before last : List Configuration) → IsWalked step program before last
        → fetch_limit < length before + n → IsDecided
    decided_from zero before last walked room = absurd (omega (arith, room, walked.few, length-append before last))
    decided_from (suc n) before [] walked room = inl (walked.earlier, accepted step program before [] walked refl)
    decided_from (suc n) before (c ∷ last) walked room =
        further before (c ∷ last) walked (λ next goes_on.
        decided_from n (before ++ c ∷ last) next goes_on (omega (arith, room, length-append before (c ∷ last))))

    -- by whether the entry is good
    decided_by : (good : Bool) → is_good_entry program ≡ good → IsDecided
    decided_by true is =
        decided_from (fetch_limit + 1) [] (start_of program.entry ∷ []) (walked_begin step program is) (omega arith)
    decided_by false is =
        inr (BadEntry program.entry, inl (subst (λ (good : Bool). IsTrue (not good)) (sym is) refl, refl))

    -- so it is of each program
    pub accepted_or_refused : IsDecided
    accepted_or_refused = decided_by (is_good_entry program) refl
