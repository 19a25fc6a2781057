-- The layers of the loop, and the first layers of any program.
use Rattle.std.proofs.Common.{◌≡◌, ℕ, zero, suc, ◌<◌, List, [], ◌∷◌, refl, sym, ap, ◌∙◌, subst, inl, inr, arith, lit<}
use Rattle.std.specs.Prelude.{◌⊎◌, Ok, Contains, IsOkAnd}
use Rattle.std.specs.List.Sorted.{IsStrictlySortedBy}
use Rattle.elf_spec.specs.Word.{word_at}
use Rattle.riscv_spec.specs.Pair.{pair_of}
use Rattle.riscv_spec.specs.Table.{kind_of}
use Rattle.flow_spec.specs.Acceptance.{Step}
use Rattle.flow_spec.specs.Configuration.{Configuration}
use Rattle.flow_spec.specs.Order.{configuration_cmp}
use Rattle.flow_spec.specs.Next.{next_at}
use Rattle.flow_spec.specs.Successors.{Successors, successors}
use Rattle.transition_spec.specs.Layer.{IsReachedIn, IsInLayer, IsLayer}
use Rattle.transition_spec.specs.Path.{IsSuccessor}
use Rattle.worked_examples.specs.Programs.{as_words, at, loop_and_rest}
use Rattle.worked_examples.specs.Reports.{IsAcceptedIn, loop_layers}
use Rattle.worked_examples.proofs.Moves.{step, first, second, third, follows_in, one_of_one, one_of_two, none_of_none}

-- a list has its first member
pub has_first : (a c : Configuration) (others : List Configuration) → c ≡ a → Contains (a ∷ others) c
has_first a c others is = (0, omega arith, sym is)

-- a configuration is at one address alone
apart : (c : Configuration) (p q : ℕ) → c ≡ at p → c ≡ at q → p ≡ q
apart c p q one other = sym (ap (λ (c : Configuration). c.at) one) ∙ ap (λ (c : Configuration). c.at) other

pub sorted_one : (c : Configuration) → IsStrictlySortedBy configuration_cmp (c ∷ [])
unfolding IsStrictlySortedBy
sorted_one c = (tt, tt)

module _ (step : Step) where
  abbrev pub Reached : ℕ → Configuration → Type 0
  Reached n c = IsReachedIn step (at 0x10000) n c

  abbrev InLayer : ℕ → Configuration → Type 0
  InLayer n c = IsInLayer step (at 0x10000) n c

  pub reached_first : (c : Configuration) → Reached 0 c → c ≡ at 0x10000
  reached_first c ([], long, path) = path
  reached_first c (b ∷ earlier, long, path) = absurd (omega (arith, long))

  pub reached_next : (n : ℕ) (c : Configuration) → Reached (suc n) c
      → (b : Configuration) × Reached n b × IsSuccessor step b c
  reached_next n c ([], long, path) = absurd (omega (arith, long))
  reached_next n c (b ∷ earlier, long, path) = (b, (earlier, omega (arith, long), path.1), path.0)

  -- what one move from known configurations reaches
  pub reached_from : (n : ℕ) (known c : Configuration) (found : List Configuration)
      → ((b : Configuration) → Reached n b → b ≡ known)
      → step known ≡ Ok found → Reached (suc n) c → Contains found c
  reached_from n known c found only leads reached =
      let before = reached_next n c reached in
      let P : Configuration → Type 0 = λ b. IsSuccessor step b c in
      let Q : Successors → Type 0 = λ r. IsOkAnd r (λ found. Contains found c) in
      subst Q leads (subst P (only before.0 before.1) before.2)

  start_in : (c : Configuration) → c ≡ at 0x10000 → InLayer 0 c
  start_in c is = record { reached = ([], refl, is); no_sooner = λ m sooner reached. omega arith }

  -- layer 0 is the start
  pub start_layer : IsLayer step (at 0x10000) configuration_cmp 0 (at 0x10000 ∷ [])
  start_layer = record {
    sorted = sorted_one (at 0x10000);
    members = λ c. (
      λ has. start_in c (one_of_one _ c has),
      λ in_layer. has_first _ c [] (reached_first c in_layer.reached),
    );
  }

  not_sooner : (c : Configuration) (p : ℕ) → c ≡ at p → (p ≡ 0x10000 → ⊥) → (m : ℕ) → m < 1 → Reached m c → ⊥
  not_sooner c p is other zero sooner reached = other (apart c p 0x10000 is (reached_first c reached))
  not_sooner c p is other (suc m) sooner reached = omega arith

  follows_start : (c : Configuration) (p : ℕ) → c ≡ at p → IsSuccessor step (at 0x10000) (at p) → Reached 1 c
  follows_start c p is follows =
      let P : Configuration → Type 0 = λ c. IsSuccessor step (at 0x10000) c in
      (at 0x10000 ∷ [], refl, (subst P (sym is) follows, refl))

  pub in_next : (c : Configuration) (p : ℕ) → c ≡ at p → (p ≡ 0x10000 → ⊥) → IsSuccessor step (at 0x10000) (at p)
      → InLayer 1 c
  in_next c p is other follows = record { reached = follows_start c p is follows; no_sooner = not_sooner c p is other }

-- what the moves of the loop reach
reached_second : (c : Configuration) → Reached step 1 c → c ≡ at 0x10004
reached_second c reached = one_of_one _ c (reached_from step 0 _ c _ (reached_first step) first reached)

reached_third : (c : Configuration) → Reached step 2 c → (c ≡ at 0x10008) ⊎ (c ≡ at 0x10000)
reached_third c reached = one_of_two _ _ c (reached_from step 1 _ c _ reached_second second reached)

follows_third : (b c : Configuration) → (b ≡ at 0x10008) ⊎ (b ≡ at 0x10000) → IsSuccessor step b c → c ≡ at 0x10004
follows_third b c (inl is) follows = absurd (none_of_none c (follows_in step b _ c _ is third follows))
follows_third b c (inr is) follows = one_of_one _ c (follows_in step b _ c _ is first follows)

reached_fourth : (c : Configuration) → Reached step 3 c → c ≡ at 0x10004
reached_fourth c reached = let before =
    reached_next step 2 c reached in follows_third before.0 c (reached_third before.0 before.1) before.2

to_second : IsSuccessor step (at 0x10000) (at 0x10004)
unfolding successors next_at word_at kind_of pair_of
to_second = (0, lit< tt, refl)

to_third : IsSuccessor step (at 0x10004) (at 0x10008)
unfolding successors next_at word_at kind_of pair_of
to_third = (0, lit< tt, refl)

second_layer : IsLayer step (at 0x10000) configuration_cmp 1 (at 0x10004 ∷ [])
second_layer = record {
  sorted = sorted_one (at 0x10004);
  members = λ c. (
    λ has. in_next step c 0x10004 (one_of_one _ c has) (λ same. omega (arith, same)) to_second,
    λ in_layer. has_first _ c [] (reached_second c in_layer.reached),
  );
}

third_no_sooner : (c : Configuration) → c ≡ at 0x10008 → (m : ℕ) → m < 2 → Reached step m c → ⊥
third_no_sooner c is zero sooner reached = let same =
    apart c 0x10008 0x10000 is (reached_first step c reached) in omega (arith, same)
third_no_sooner c is (suc zero) sooner reached = let same =
    apart c 0x10008 0x10004 is (reached_second c reached) in omega (arith, same)
third_no_sooner c is (suc (suc m)) sooner reached = omega arith

third_in : (c : Configuration) → c ≡ at 0x10008 → IsInLayer step (at 0x10000) 2 c
third_in c is =
    let P : Configuration → Type 0 = λ c. IsSuccessor step (at 0x10004) c in
    record {
      reached = (at 0x10004 ∷ at 0x10000 ∷ [], refl, (subst P (sym is) to_third, (to_second, refl)));
      no_sooner = third_no_sooner c is;
    }

third_only : (c : Configuration) → (c ≡ at 0x10008) ⊎ (c ≡ at 0x10000) → IsInLayer step (at 0x10000) 2 c
    → Contains (at 0x10008 ∷ []) c
third_only c (inl is) in_layer = has_first _ c [] is
third_only c (inr is) in_layer = absurd (in_layer.no_sooner 0 (lit< tt) ([], refl, is))

third_layer : IsLayer step (at 0x10000) configuration_cmp 2 (at 0x10008 ∷ [])
third_layer = record {
  sorted = sorted_one (at 0x10008);
  members = λ c. (
    λ has. third_in c (one_of_one _ c has),
    λ in_layer. third_only c (reached_third c in_layer.reached) in_layer,
  );
}

pub sorted_none : IsStrictlySortedBy configuration_cmp []
unfolding IsStrictlySortedBy
sorted_none = tt

none_later : (c : Configuration) → IsInLayer step (at 0x10000) 3 c → ⊥
none_later c in_layer =
    let is = reached_fourth c in_layer.reached in in_layer.no_sooner 1 (lit< tt)
    (follows_start step c 0x10004 is to_second)

-- after the third layer is none
last_layer : IsLayer step (at 0x10000) configuration_cmp 3 []
last_layer = record {
  sorted = sorted_none;
  members = λ c. (λ has. absurd (none_of_none c has), λ in_layer. absurd (none_later c in_layer));
}

pub loop_accepted : IsAcceptedIn (as_words 16 loop_and_rest) loop_layers
unfolding successors next_at word_at kind_of pair_of
loop_accepted = record {
  entry_is_good = refl;
  are_layers = (start_layer step, (second_layer, (third_layer, (last_layer, tt))));
  faultless = (refl, (refl, (refl, tt)));
  few = omega arith;
}
