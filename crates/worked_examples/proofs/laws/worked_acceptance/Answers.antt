-- The first layers of each program, and its faults, which compute.
use Rattle.std.proofs.Common.{◌≡◌, [], ◌∷◌, refl, inl, inr, arith, lit<}
use Rattle.std.specs.Prelude.{◌⊎◌, Ok}
use Rattle.std.specs.List.Sorted.{IsStrictlySortedBy}
use Rattle.elf_spec.specs.Word.{word_at}
use Rattle.riscv_spec.specs.Pair.{pair_of}
use Rattle.riscv_spec.specs.Table.{kind_of}
use Rattle.flow_spec.specs.Acceptance.{Step}
use Rattle.flow_spec.specs.Configuration.{Configuration}
use Rattle.flow_spec.specs.Order.{configuration_cmp}
use Rattle.flow_spec.specs.Next.{next_at}
use Rattle.flow_spec.specs.Successors.{successors}
use Rattle.transition_spec.specs.Layer.{IsInLayer, IsLayer}
use Rattle.transition_spec.specs.Path.{IsSuccessor}
use Rattle.worked_examples.specs.Programs.{as_words, at}
use Rattle.worked_examples.specs.Reports.{two_faults}
use Rattle.worked_examples.proofs.Moves.{one_of_two}
use Rattle.worked_examples.proofs.Layers.{loop_accepted, start_layer, in_next, reached_from, reached_first}
use Rattle.worked_examples.proofs.laws.worked_acceptance.Goals as goal

abbrev steps : Step
steps = successors (as_words 32 two_faults)

branches : steps (at 0x10000) ≡ Ok (at 0x10004 ∷ at 0x10008 ∷ [])
unfolding successors next_at word_at kind_of pair_of
branches = refl

to_first : IsSuccessor steps (at 0x10000) (at 0x10004)
unfolding successors next_at word_at kind_of pair_of
to_first = (0, lit< tt, refl)

to_other : IsSuccessor steps (at 0x10000) (at 0x10008)
unfolding successors next_at word_at kind_of pair_of
to_other = (1, lit< tt, refl)

in_both : (c : Configuration) → (c ≡ at 0x10004) ⊎ (c ≡ at 0x10008) → IsInLayer steps (at 0x10000) 1 c
in_both c (inl is) = in_next steps c 0x10004 is (λ same. omega (arith, same)) to_first
in_both c (inr is) = in_next steps c 0x10008 is (λ same. omega (arith, same)) to_other

sorted : IsStrictlySortedBy configuration_cmp (at 0x10004 ∷ at 0x10008 ∷ [])
unfolding IsStrictlySortedBy
sorted = ((refl, tt), (tt, tt))

both_layer : IsLayer steps (at 0x10000) configuration_cmp 1 (at 0x10004 ∷ at 0x10008 ∷ [])
both_layer = record {
  sorted = sorted;
  members = λ c. (
    λ has. in_both c (one_of_two _ _ c has),
    λ in_layer. reached_from steps 0 _ c _ (reached_first steps) branches in_layer.reached,
  );
}

pub returns-clause-accepted : goal.returns-clause-accepted
returns-clause-accepted c = loop_accepted

pub returns-clause-bad_entry : goal.returns-clause-bad_entry
unfolding word_at pair_of
returns-clause-bad_entry c = inl (refl, refl)

pub returns-clause-bad_target : goal.returns-clause-bad_target
unfolding successors next_at word_at kind_of pair_of
returns-clause-bad_target c = inr (inl (
  [],
  [],
  at 0x10000,
  [],
  record { entry_is_good = refl; are_layers = (start_layer _, tt); faultless = tt; few = omega arith },
  refl,
))

pub returns-clause-first_fault : goal.returns-clause-first_fault
unfolding successors next_at word_at kind_of pair_of
returns-clause-first_fault c = inr (inl (
  (at 0x10000 ∷ []) ∷ [],
  [],
  at 0x10004,
  at 0x10008 ∷ [],
  record {
    entry_is_good = refl;
    are_layers = (start_layer steps, (both_layer, tt));
    faultless = (refl, tt);
    few = omega
        arith;
  },
  refl,
))
