-- The layers of a program: one more, and the answers in which the search ends.
use Rattle.std.proofs.Common.{◌≡◌, ℕ, ◌+◌, ◌-◌, ◌<◌, ◌≤◌, ⊎_elim, List, [], ◌∷◌, ◌++◌, length, refl, sym, ap, ◌∙◌, subst, arith, IsTrue, append-nil, length-append}
use Rattle.std.specs.Prelude.{Contains}
use Rattle.std.specs.List.{AllByRecursion}
use Rattle.std.proofs.lemmas.Bool.{cases_lt}
use Rattle.std.proofs.lemmas.List.{length_push, get_or_append_left, get_or-append_right, get_or_default}
use Rattle.std.proofs.lemmas.List.Concat.{flat_map-append}
use Rattle.std.proofs.lemmas.List.Elements.{Contains-get_or, Contains-append_right}
use Rattle.flow_spec.specs.Program.{Program}
use Rattle.transition_spec.specs.Path.{IsSuccessor}
use Rattle.transition_spec.specs.Layer.{all_of}
use Rattle.flow_spec.specs.Configuration.{Configuration, start_of}
use Rattle.flow_spec.specs.Order.{configuration_cmp}
use Rattle.flow_spec.specs.Acceptance.{Step, is_good_entry, AreLayers, IsFaultless, IsAccepted, HasFaulty, HasTooMany, fetch_limit}
use Rattle.flow_spec.specs.declared.fault.FlowFault.{FlowFault}
use Rattle.flow_spec.specs.declared.fault.FlowFault.TheVariants.{TooManyFetches}
use Rattle.call_expand.specs.Expansion.{numbered}
use Rattle.call_expand.specs.Point.{FailsAt}
use Rattle.call_expand.specs.Search.{IsSearched, AreNext, FollowSmaller, IsWalked}
use Rattle.call_expand.proofs.Zipped.{all-append}
use Rattle.call_expand.proofs.Searched.{begun, first_layer, searched_more, next_layer, layers_more}

-- the configuration with a number that is in the first list
pub numbered-prefix : (prefix back : List Configuration) (n : ℕ) → n < length prefix
    → numbered (prefix ++ back) n ≡ numbered prefix n
numbered-prefix prefix back n below = get_or_append_left prefix back (start_of 0) n below

-- a successor, where both are given otherwise
same-successor : (step : Step) (b c d e : Configuration) → d ≡ b → e ≡ c → IsSuccessor step b c → IsSuccessor step d e
same-successor step b c d e first second follows =
    let P : Configuration → Type 0 = λ b. IsSuccessor step b e in
    let Q : Configuration → Type 0 = λ c. IsSuccessor step b c in
    subst P (sym first) (subst Q (sym second) follows)

-- one that is listed in the first list has a number there
prefix-number : (prefix back : List Configuration) (c : Configuration) → Contains prefix c
    → (n : ℕ) × (n < length prefix) × (numbered (prefix ++ back) n ≡ c)
prefix-number prefix back c has =
    (has.0, has.1, numbered-prefix prefix back has.0 has.1 ∙ (get_or_default prefix has.0 (start_of 0) c has.1 ∙ has.2))

module _ (step : Step) (program : Program) where
  -- the entry alone
  pub walked_begin : IsTrue (is_good_entry program) → IsWalked step program [] (start_of program.entry ∷ [])
  walked_begin good = record {
    earlier = [];
    all = refl;
    entry_is_good = good;
    are_layers = (first_layer step (start_of program.entry) configuration_cmp, tt);
    faultless = tt;
    searched = begun step (start_of program.entry) configuration_cmp;
    some = omega arith;
    follow_smaller = λ m one below. absurd (omega arith);
    begins = refl;
    few = omega arith;
  }

  module _ (before last : List Configuration) (walked : IsWalked step program before last) where
    -- where the last layer is empty, the program is accepted
    pub accepted : last ≡ [] → IsAccepted step program walked.earlier
    accepted empty =
        let Layers : List Configuration → Type 0 = λ last. AreLayers step program.entry (walked.earlier ++ last ∷ []) in
        let Faultless : List Configuration → Type 0 = λ cs. AllByRecursion (IsFaultless step) cs in
        record {
          entry_is_good = walked.entry_is_good;
          are_layers = subst Layers empty walked.are_layers;
          faultless = subst Faultless (sym walked.all) walked.faultless;
          few = omega (arith, walked.few, length-append before last, ap length walked.all);
        }

    -- the first faulty configuration of the last layer
    pub faulty : (fault : FlowFault) → FailsAt step last fault → HasFaulty step program fault
    faulty fault fails =
        let Layers : List Configuration → Type 0 = λ last. AreLayers step program.entry (walked.earlier ++ last ∷ []) in
        let Faultless : List Configuration → Type 0 = λ cs. AllByRecursion (IsFaultless step) cs in (
          walked.earlier,
          fails.before,
          fails.c,
          fails.after,
          record {
            entry_is_good = walked.entry_is_good;
            are_layers = subst Layers fails.split walked.are_layers;
            faultless =
                all-append (IsFaultless step) (all_of walked.earlier) fails.before
                (subst Faultless (sym walked.all) walked.faultless) fails.faultless;
            few = omega (
              arith,
              walked.few,
              length-append before last,
              length-append (all_of walked.earlier) (fails.before ++ fails.c ∷ fails.after),
              ap length walked.all,
              ap length fails.split,
            );
          },
          fails.faulty,
        )

    -- the states of the layers with the last one
    all_more : all_of (walked.earlier ++ last ∷ []) ≡ before ++ last
    all_more =
        flat_map-append (λ (layer : List Configuration). layer) walked.earlier (last ∷ [])
        ∙ ap (λ cs. cs ++ (last ++ [])) walked.all
        ∙ ap (λ cs. before ++ cs) (append-nil last)

    module _ (next : List Configuration) (faultless : AllByRecursion (IsFaultless step) last)
        (is : AreNext step configuration_cmp before last next) where
      -- the layers with the next one
      more_layers : AreLayers step program.entry ((walked.earlier ++ last ∷ []) ++ next ∷ [])
      more_layers =
          layers_more step (start_of program.entry) configuration_cmp 0 (length walked.earlier + 1)
          (walked.earlier ++ last ∷ []) next
          (omega (arith, length_push walked.earlier last)) walked.are_layers
          (next_layer step (start_of program.entry) configuration_cmp (length walked.earlier) before last next
          walked.searched is)

      -- no configuration before the next layer has a fault
      all_faultless : AllByRecursion (IsFaultless step) (before ++ last)
      all_faultless = all-append (IsFaultless step) before last walked.faultless faultless

      -- with the next layer the limit is passed
      pub too_many : fetch_limit < length ((before ++ last) ++ next)
          → HasTooMany step program (TooManyFetches fetch_limit)
      too_many many =
          let Faultless : List Configuration → Type 0 = λ cs. AllByRecursion (IsFaultless step) cs in (
            walked.earlier ++ last ∷ [],
            next,
            record {
              entry_is_good = walked.entry_is_good;
              are_layers = more_layers;
              faultless = subst Faultless (sym all_more) all_faultless;
              few = omega (arith, walked.few, ap length all_more);
              many = omega (
                arith,
                many,
                length-append (before ++ last) next,
                length-append (all_of (walked.earlier ++ last ∷ [])) next,
                ap length all_more,
              );
            },
            refl,
          )

      -- a configuration of the next layer follows one of the last
      next_follow_smaller : (m : ℕ) → length (before ++ last) ≤ m → m < length ((before ++ last) ++ next)
          → (n : ℕ) × (n < m)
          × IsSuccessor step (numbered ((before ++ last) ++ next) n) (numbered ((before ++ last) ++ next) m)
      next_follow_smaller m past below =
          let k : ℕ = m - length (before ++ last) in
          let same = get_or-append_right (before ++ last) next (length (before ++ last)) m (start_of 0) refl past in
          let from =
          is.follow (numbered next k)
          (Contains-get_or next k (start_of 0) (omega (arith, length-append (before ++ last) next))) in
          let n = prefix-number (before ++ last) next from.0 (Contains-append_right before last from.0 from.1) in (
            n.0,
            omega (arith, n.1),
            same-successor step from.0 (numbered next k) (numbered ((before ++ last) ++ next) n.0)
                (numbered ((before ++ last) ++ next) m) n.2 same from.2,
          )

      -- each configuration but the first follows one with a smaller number
      follow_more : FollowSmaller step ((before ++ last) ++ next)
      follow_more m one below =
          ⊎_elim
          (λ (prefix : m < length (before ++ last)).
          let old = walked.follow_smaller m one prefix in (
            old.0,
            old.1,
            same-successor step (numbered (before ++ last) old.0) (numbered (before ++ last) m)
                (numbered ((before ++ last) ++ next) old.0)
                (numbered ((before ++ last) ++ next) m)
                (numbered-prefix (before ++ last) next old.0 (omega (arith, old.1)))
                (numbered-prefix (before ++ last) next m prefix) old.2,
          ))
          (λ (past : length (before ++ last) ≤ m). next_follow_smaller m past below)
          (cases_lt m (length (before ++ last)))

      -- else the search goes on with it
      pub walked_more : length ((before ++ last) ++ next) ≤ fetch_limit
          → IsWalked step program (before ++ last) next
      walked_more few = record {
        earlier = walked.earlier ++ last ∷ [];
        all = all_more;
        entry_is_good = walked.entry_is_good;
        are_layers = more_layers;
        faultless = all_faultless;
        searched =
            let P : ℕ → Type 0 = λ n. IsSearched step (start_of program.entry) n (before ++ last) next in
            subst P (sym (length_push walked.earlier last))
            (searched_more step (start_of program.entry) configuration_cmp (length walked.earlier) before last next
            walked.searched is);
        some = omega (arith, walked.some, length-append (before ++ last) next);
        follow_smaller = follow_more;
        begins = numbered-prefix (before ++ last) next 0 walked.some ∙ walked.begins;
        few = few;
      }
