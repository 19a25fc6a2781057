-- The paths of the loop: each stays among its three words.
use Rattle.std.proofs.Common.{◌≡◌, zero, suc, List, [], ◌∷◌, refl, sym, subst, inl, inr, arith}
use Rattle.std.specs.Prelude.{◌⊎◌, Ok, Contains, IsOkAnd}
use Rattle.elf_spec.specs.Word.{word_at}
use Rattle.riscv_spec.specs.Pair.{pair_of}
use Rattle.riscv_spec.specs.Table.{kind_of}
use Rattle.flow_spec.specs.Acceptance.{Step}
use Rattle.flow_spec.specs.Configuration.{Configuration, start_of}
use Rattle.flow_spec.specs.Next.{next_at}
use Rattle.flow_spec.specs.Successors.{Successors, successors}
use Rattle.transition_spec.specs.Path.{IsPath, IsSuccessor}
use Rattle.worked_examples.specs.Programs.{as_words, at, loop_and_rest}

-- what follows a configuration whose successors are known
pub follows_in : (step : Step) (b known c : Configuration) (found : List Configuration) → b ≡ known
    → step known ≡ Ok found
    → IsSuccessor step b c → Contains found c
follows_in step b known c found is leads follows =
    let P : Configuration → Type 0 = λ b. IsSuccessor step b c in
    let Q : Successors → Type 0 = λ r. IsOkAnd r (λ found. Contains found c) in
    subst Q leads (subst P is follows)

abbrev pub step : Step
step = successors (as_words 16 loop_and_rest)

pub first : step (at 0x10000) ≡ Ok (at 0x10004 ∷ [])
unfolding successors next_at word_at kind_of pair_of
first = refl

pub second : step (at 0x10004) ≡ Ok (at 0x10008 ∷ at 0x10000 ∷ [])
unfolding successors next_at word_at kind_of pair_of
second = refl

pub third : step (at 0x10008) ≡ Ok []
unfolding successors next_at word_at kind_of pair_of
third = refl

-- one of the three words
abbrev pub IsAmong : Configuration → Type 0
IsAmong c = (c ≡ at 0x10000) ⊎ ((c ≡ at 0x10004) ⊎ (c ≡ at 0x10008))

pub one_of_one : (a c : Configuration) → Contains (a ∷ []) c → c ≡ a
one_of_one a c (zero, lt, is) = sym is
one_of_one a c (suc k, lt, is) = absurd (omega arith)

pub one_of_two : (a b c : Configuration) → Contains (a ∷ b ∷ []) c → (c ≡ a) ⊎ (c ≡ b)
one_of_two a b c (zero, lt, is) = inl (sym is)
one_of_two a b c (suc zero, lt, is) = inr (sym is)
one_of_two a b c (suc (suc k), lt, is) = absurd (omega arith)

pub none_of_none : (c : Configuration) → Contains [] c → ⊥
none_of_none c (k, lt, is) = omega arith

back_or_on : (c : Configuration) → (c ≡ at 0x10008) ⊎ (c ≡ at 0x10000) → IsAmong c
back_or_on c (inl is) = inr (inr is)
back_or_on c (inr is) = inl is

stays : (b c : Configuration) → IsAmong b → IsSuccessor step b c → IsAmong c
stays b c (inl is) follows = inr (inl (one_of_one _ c (follows_in step b _ c _ is first follows)))
stays b c (inr (inl is)) follows = back_or_on c (one_of_two _ _ c (follows_in step b _ c _ is second follows))
stays b c (inr (inr is)) follows = absurd (none_of_none c (follows_in step b _ c _ is third follows))

pub among : (earlier : List Configuration) (c : Configuration) → IsPath step (start_of 0x10000) (c ∷ earlier)
    → IsAmong c
among [] c path = inl path
among (b ∷ earlier) c path = stays b c (among earlier b path.1) path.0
