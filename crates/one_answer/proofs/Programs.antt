-- A program is accepted or refused, with one numbering or one fault.
use Rattle.std.proofs.Common.{◌≡◌, ◌≤◌, List, [], ◌∷◌, ◌++◌, length, refl, ap, sym, ◌∙◌, subst, arith, inl, inr, append_assoc, append-nil, length-append}
use Rattle.std.specs.Prelude.{◌⊎◌, Contains, Ok, Err, IsOk, IsTrue, not, Bool, true, false}
use Rattle.std.specs.List.{AllByRecursion}
use Rattle.std.proofs.lemmas.List.Concat.{flat_map-append}
use Rattle.std.proofs.lemmas.List.Elements.{Contains-append_left, Contains-append_right}
use Rattle.list_lemmas.proofs.Members.{has-first, each-has}
use Rattle.transition_spec.specs.Layer.{AreLayersFrom, all_of}
use Rattle.flow_spec.specs.Program.{Program}
use Rattle.flow_spec.specs.declared.fault.FlowFault.{FlowFault}
use Rattle.flow_spec.specs.Configuration.{Configuration, start_of}
use Rattle.flow_spec.specs.Order.{configuration_cmp}
use Rattle.flow_spec.specs.Successors.{Successors}
use Rattle.flow_spec.specs.Acceptance.{Step, is_good_entry, IsFaultless, IsAccepted, IsFirstFaulty, PassesLimit, IsRefused}
use Rattle.flow_spec.proofs.Ordered.{configurations_total}
use Rattle.call_expand.proofs.Zipped.{all-prefix, all-back}
use Rattle.one_answer.proofs.Layers.{EndsWithin, none_from, meet}

-- the configurations of layers that go on after some
all_split : (earlier rest : List (List Configuration)) (last : List Configuration)
    → all_of (earlier ++ last ∷ rest) ≡ all_of earlier ++ (last ++ all_of rest)
all_split earlier rest last = flat_map-append (λ (layer : List Configuration). layer) earlier (last ∷ rest)

-- empty layers have none
all_none : (layers : List (List Configuration)) → AllByRecursion (λ (layer : List Configuration). layer ≡ []) layers
    → all_of layers ≡ []
all_none [] none = refl
all_none (layer ∷ layers) none = cc (none.0, all_none layers none.1)

-- a configuration in the middle of some
in_middle : (before after : List Configuration) (c : Configuration) → Contains (before ++ c ∷ after) c
in_middle before after c = Contains-append_right before (c ∷ after) c (has-first c after)

module _ (step : Step) where
  -- a faultless configuration has no fault
  no_fault : (c : Configuration) (fault : FlowFault) (s : Successors) → s ≡ step c → IsOk s → s ≡ Err fault → ⊥
  no_fault c fault (Ok next) is ok faulty = absurd (cc faulty)
  no_fault c fault (Err other) is ok faulty = absurd (cc ok)

  -- no faulty one is among faultless ones
  faulty_among : (cs : List Configuration) (c : Configuration) (fault : FlowFault)
      → AllByRecursion (IsFaultless step) cs → Contains cs c
      → step c ≡ Err fault → ⊥
  faulty_among cs c fault all has faulty =
      no_fault c fault (step c) refl (each-has (IsFaultless step) cs all c has) faulty

  -- the first faulty one is one, by the first of both lists
  first_faulty : (before before' after after' : List Configuration) (c c' : Configuration) (fault fault' : FlowFault)
      → before ++ c ∷ after ≡ before' ++ c' ∷ after' → AllByRecursion (IsFaultless step) before
      → AllByRecursion (IsFaultless step) before'
      → step c ≡ Err fault → step c' ≡ Err fault' → fault ≡ fault'
  first_faulty [] [] after after' c c' fault fault' same all all' faulty faulty' =
      let one : c ≡ c' = cc same in cc (one, faulty, faulty')
  first_faulty [] (b ∷ before') after after' c c' fault fault' same all all' faulty faulty' =
      let one : c ≡ b = cc same in
      absurd (faulty_among (b ∷ before') c fault all' (subst (λ d. Contains (b ∷ before') d) (sym one)
      (has-first b before')) faulty)
  first_faulty (b ∷ before) [] after after' c c' fault fault' same all all' faulty faulty' =
      let one : b ≡ c' = cc same in
      absurd (faulty_among (b ∷ before) c' fault' all (subst (λ d. Contains (b ∷ before) d) one (has-first b before))
      faulty')
  first_faulty (b ∷ before) (b' ∷ before') after after' c c' fault fault' same all all' faulty faulty' =
      let rest : before ++ c ∷ after ≡ before' ++ c' ∷ after' = cc same in
      first_faulty before before' after after' c c' fault fault' rest all.1 all'.1 faulty faulty'

  -- a configuration of the layer with which some end is among those that go on
  ends_among : (earlier others : List (List Configuration)) (last : List Configuration) (c : Configuration)
      → EndsWithin earlier last others
      → Contains last c → Contains (all_of others) c
  ends_among earlier others last c (rest, is) has =
      subst (λ (cs : List Configuration). Contains cs c) (sym (ap all_of is ∙ all_split earlier rest last))
      (Contains-append_right (all_of earlier) (last ++ all_of rest) c (Contains-append_left last (all_of rest) c has))

  -- there are no more of the former than of the latter
  ends_fewer : (earlier others : List (List Configuration)) (last : List Configuration) → EndsWithin earlier last others
      → length (all_of earlier ++ last) ≤ length (all_of others)
  ends_fewer earlier others last (rest, is) =
      omega (
        arith,
        ap length (ap all_of is ∙ all_split earlier rest last),
        length-append (all_of earlier) last,
        length-append (all_of earlier) (last ++ all_of rest),
        length-append last (all_of rest),
      )

  module _ (program : Program) where
    -- the layers of a program
    abbrev Are : List (List Configuration) → Type 0
    Are layers = AreLayersFrom step (start_of program.entry) configuration_cmp 0 layers

    -- what two lists of layers of it are to one another
    met : (earlier others : List (List Configuration)) (last end : List Configuration) → Are (earlier ++ last ∷ [])
        → Are (others ++ end ∷ [])
        → ((earlier ≡ others) × (last ≡ end)) ⊎ (EndsWithin earlier last others ⊎ EndsWithin others end earlier)
    met earlier others last end =
        meet step (start_of program.entry) configuration_cmp configurations_total 0 earlier others last end

    -- layers that go on after an empty one go on with empty ones
    after_empty : (earlier others : List (List Configuration)) (end : List Configuration)
        → EndsWithin earlier [] others → Are (others ++ end ∷ [])
        → (rest : List (List Configuration)) × (others ≡ earlier ++ [] ∷ rest)
        × AllByRecursion (λ (layer : List Configuration). layer ≡ []) (rest ++ end ∷ [])
    after_empty earlier others end (rest, is) are =
        let split : others ++ end ∷ [] ≡ earlier ++ [] ∷ (rest ++ end ∷ []) =
        ap (λ l. l ++ end ∷ []) is ∙ append_assoc earlier ([] ∷ rest) (end ∷ []) in (
          rest,
          is,
          none_from step (start_of program.entry) configuration_cmp configurations_total 0 earlier (rest ++ end ∷ [])
              (subst Are split are),
        )

    -- so the last of them is empty
    last_empty : (earlier others : List (List Configuration)) (end : List Configuration) → EndsWithin earlier [] others
        → Are (others ++ end ∷ [])
        → end ≡ []
    last_empty earlier others end within are =
        let (rest, is, none) = after_empty earlier others end within are in
        (all-back (λ (layer : List Configuration). layer ≡ []) rest (end ∷ []) none).0

    -- and they have no more configurations
    none_more : (earlier others : List (List Configuration)) (end : List Configuration) → EndsWithin earlier [] others
        → Are (others ++ end ∷ [])
        → all_of others ≡ all_of earlier
    none_more earlier others end within are =
        let (rest, is, none) = after_empty earlier others end within are in
        ap all_of is
        ∙ all_split earlier rest []
        ∙ ap (λ (cs : List Configuration). all_of earlier ++ cs)
        (all_none rest (all-prefix (λ (layer : List Configuration). layer ≡ []) rest (end ∷ []) none))
        ∙ append-nil (all_of earlier)

    -- an entry is good or isn't
    good_and_bad : (good : Bool) → IsTrue good → IsTrue (not good) → ⊥
    good_and_bad true is not_so = absurd (cc not_so)
    good_and_bad false is not_so = absurd (cc is)

    -- an accepted program has no faulty configuration
    accepted_faulty : (layers earlier : List (List Configuration)) (before after : List Configuration)
        (c : Configuration) (fault : FlowFault)
        → IsAccepted step program layers → IsFirstFaulty step program earlier before c after
        → step c ≡ Err fault → ⊥
    accepted_faulty layers earlier before after c fault accepted first faulty =
        elim (met layers earlier [] (before ++ c ∷ after) accepted.are_layers first.are_layers) [
          | inl (same, empty) ↦ omega (arith, ap length empty, length-append before (c ∷ after))
          | inr (inl within) ↦
              let empty : before ++ c ∷ after ≡ [] =
              last_empty layers earlier (before ++ c ∷ after) within first.are_layers in
              omega (arith, ap length empty, length-append before (c ∷ after))
          | inr (inr within) ↦
              faulty_among (all_of layers) c fault accepted.faultless
              (ends_among earlier layers (before ++ c ∷ after) c within (in_middle before after c)) faulty
        ]

    -- and doesn't pass the limit
    accepted_many : (layers earlier : List (List Configuration)) (last : List Configuration)
        → IsAccepted step program layers
        → PassesLimit step program earlier last → ⊥
    accepted_many layers earlier last accepted passes =
        elim (met layers earlier [] last accepted.are_layers passes.are_layers) [
          | inl (same, empty) ↦ omega (
            arith,
            passes.few,
            passes.many,
            ap length (sym empty),
            length-append (all_of earlier) last,
          )
          | inr (inl within) ↦
              let empty : last ≡ [] = last_empty layers earlier last within passes.are_layers in
              omega (arith, passes.few, passes.many, ap length empty, length-append (all_of earlier) last)
          | inr (inr within) ↦ omega (arith, accepted.few, passes.many, ends_fewer earlier layers last within)
        ]

    -- so it isn't refused
    pub accepted_refused : (layers : List (List Configuration)) (fault : FlowFault)
        → IsAccepted step program layers
        → IsRefused step program fault → ⊥
    accepted_refused layers fault accepted (inl (bad, is)) =
        good_and_bad (is_good_entry program) accepted.entry_is_good bad
    accepted_refused layers fault accepted (inr (inl (earlier, before, c, after, first, faulty))) =
        accepted_faulty layers earlier before after c fault accepted first faulty
    accepted_refused layers fault accepted (inr (inr (earlier, last, passes, is))) =
        accepted_many layers earlier last accepted passes

    -- its configurations are numbered in one way
    pub one_numbering : (layers others : List (List Configuration)) → IsAccepted step program layers
        → IsAccepted step program others
        → all_of layers ≡ all_of others
    one_numbering layers others accepted accepted' =
        elim (met layers others [] [] accepted.are_layers accepted'.are_layers) [
          | inl (same, ends) ↦ ap all_of same
          | inr (inl within) ↦ sym (none_more layers others [] within accepted'.are_layers)
          | inr (inr within) ↦ none_more others layers [] within accepted.are_layers
        ]

    -- two first faulty configurations have one fault
    faulty_faulty : (earlier others : List (List Configuration)) (before before' after after' : List Configuration)
        (c c' : Configuration)
        (fault other : FlowFault) → IsFirstFaulty step program earlier before c after
        → IsFirstFaulty step program others before' c' after'
        → step c ≡ Err fault → step c' ≡ Err other → fault ≡ other
    faulty_faulty earlier others before before' after after' c c' fault other first first' faulty faulty' =
        elim (met earlier others (before ++ c ∷ after) (before' ++ c' ∷ after') first.are_layers first'.are_layers) [
          | inl (same, ends) ↦
              first_faulty before before' after after' c c' fault other ends
              (all-back (IsFaultless step) (all_of earlier) before first.faultless)
              (all-back (IsFaultless step) (all_of others) before' first'.faultless) faulty faulty'
          | inr (inl within) ↦
              absurd (faulty_among (all_of others) c fault (all-prefix (IsFaultless step) (all_of others) before'
              first'.faultless)
              (ends_among earlier others (before ++ c ∷ after) c within (in_middle before after c)) faulty)
          | inr (inr within) ↦
              absurd (faulty_among (all_of earlier) c' other (all-prefix (IsFaultless step) (all_of earlier) before
              first.faultless)
              (ends_among others earlier (before' ++ c' ∷ after') c' within (in_middle before' after' c')) faulty')
        ]

    -- the limit isn't passed where there is a first faulty configuration
    faulty_many : (earlier others : List (List Configuration)) (before after last : List Configuration)
        (c : Configuration) (fault : FlowFault)
        → IsFirstFaulty step program earlier before c after → step c ≡ Err fault
        → PassesLimit step program others last → ⊥
    faulty_many earlier others before after last c fault first faulty passes =
        elim (met earlier others (before ++ c ∷ after) last first.are_layers passes.are_layers) [
          | inl (same, ends) ↦
              let all : all_of earlier ++ (before ++ c ∷ after) ≡ all_of others ++ last = cc (same, ends) in
              omega (arith, first.few, passes.many, ap length all)
          | inr (inl within) ↦
              faulty_among (all_of others) c fault passes.faultless
              (ends_among earlier others (before ++ c ∷ after) c within (in_middle before after c)) faulty
          | inr (inr within) ↦
              omega (
                arith,
                first.few,
                passes.many,
                ends_fewer others earlier last within,
                length-append (all_of earlier) (before ++ c ∷ after),
              )
        ]

    -- a refused program has one fault
    pub one_fault : (fault other : FlowFault) → IsRefused step program fault → IsRefused step program other
        → fault ≡ other
    one_fault fault other (inl (bad, is)) (inl (bad', is')) = cc (is, is')
    one_fault fault other (inl (bad, is)) (inr (inl (earlier, before, c, after, first, faulty))) =
        absurd (good_and_bad (is_good_entry program) first.entry_is_good bad)
    one_fault fault other (inl (bad, is)) (inr (inr (earlier, last, passes, is'))) =
        absurd (good_and_bad (is_good_entry program) passes.entry_is_good bad)
    one_fault fault other (inr (inl (earlier, before, c, after, first, faulty))) (inl (bad, is)) =
        absurd (good_and_bad (is_good_entry program) first.entry_is_good bad)
    one_fault fault other (inr (inl (earlier, before, c, after, first, faulty)))
        (inr (inl (others, before', c', after', first', faulty'))) =
        faulty_faulty earlier others before before' after after' c c' fault other first first' faulty faulty'
    one_fault fault other (inr (inl (earlier, before, c, after, first, faulty)))
        (inr (inr (others, last, passes, is))) =
        absurd (faulty_many earlier others before after last c fault first faulty passes)
    one_fault fault other (inr (inr (others, last, passes, is))) (inl (bad, is')) =
        absurd (good_and_bad (is_good_entry program) passes.entry_is_good bad)
    one_fault fault other (inr (inr (others, last, passes, is)))
        (inr (inl (earlier, before, c, after, first, faulty))) =
        absurd (faulty_many earlier others before after last c other first faulty passes)
    one_fault fault other (inr (inr (others, last, passes, is))) (inr (inr (earlier, end, passes', is'))) =
        cc (is, is')
