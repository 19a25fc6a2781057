-- A walk along two lists of ages, which writes over the first what they are where they meet.
use Rattle.std.proofs.Common.{◌≡◌, ℕ, ◌+◌, ◌<◌, ◌≤◌, Bool, true, false, List, length, refl, sym, ap, ◌∙◌, subst, inl, inr, arith, true≢false, get_or-set_same, get_or-set_other}
use Rattle.std.proofs.lemmas.Bool.{cases_eq, cases_Bool}
use Rattle.std.proofs.Math.ListN.{set, length-set}
use Rattle.std.proofs.lemmas.List.{ext_get_or}
use Rattle.age_spec.specs.declared.kind.Kind.{Kind}
use Rattle.age_spec.specs.Ages.{met, all_met, age_at}
use Rattle.age_spec.proofs.Lists.{length-met, at-met}

-- at place i: those before it have met and the others are as they were, and the flag says whether one has changed
pub record IsMeeting (kind : Kind) (i : ℕ) (before others now : List ℕ) (raised : Bool) : Type 0 where
  pub long : length now ≡ length before
  pub done : (n : ℕ) → n < i → age_at now n ≡ met kind (age_at before n) (age_at others n)
  pub rest : (n : ℕ) → i ≤ n → age_at now n ≡ age_at before n
  pub same : raised ≡ false → (n : ℕ) → n < i → age_at now n ≡ age_at before n
  pub changed : raised ≡ true → (n : ℕ) × (n < i) × (age_at now n ≡ age_at before n → ⊥)

-- at first
pub meeting-begins : (kind : Kind) (before others : List ℕ) → IsMeeting kind 0 before others before false
meeting-begins kind before others = record {
  long = refl;
  done = λ n below. absurd (omega (arith, below));
  rest = λ n above. refl;
  same = λ calm n below. refl;
  changed = λ raised. absurd (true≢false (sym raised));
}

-- past an age that stays
pub meeting-stays : (kind : Kind) (i : ℕ) (before others now : List ℕ) (raised : Bool) (age : ℕ)
    → IsMeeting kind i before others now raised → age ≡ met kind (age_at now i) (age_at others i)
    → age ≡ age_at now i → IsMeeting kind (i + 1) before others now raised
meeting-stays kind i before others now raised age meeting is_met stays =
    let here = meeting.rest i (omega arith) in
    record {
      long = meeting.long;
      done = λ n below. elim (cases_eq n i) [
        | inl at ↦
            subst (λ (m : ℕ). age_at now m ≡ met kind (age_at before m) (age_at others m)) (sym at)
            (sym stays ∙ (is_met ∙ ap (λ (x : ℕ). met kind x (age_at others i)) here))
        | inr apart ↦ meeting.done n (omega (arith, below, apart))
      ];
      rest = λ n above. meeting.rest n (omega (arith, above));
      same = λ calm n below. elim (cases_eq n i) [
        | inl at ↦ subst (λ (m : ℕ). age_at now m ≡ age_at before m) (sym at) here
        | inr apart ↦ meeting.same calm n (omega (arith, below, apart))
      ];
      changed = λ is. let found = meeting.changed is in (found.0, omega (arith, found.1), found.2);
    }

-- past an age that is written
pub meeting-writes : (kind : Kind) (i : ℕ) (before others now : List ℕ) (raised : Bool) (age : ℕ)
    → IsMeeting kind i before others now raised → i < length now → age ≡ met kind (age_at now i) (age_at others i)
    → (age ≡ age_at now i → ⊥) → IsMeeting kind (i + 1) before others (set now i age) true
meeting-writes kind i before others now raised age meeting inside is_met differs =
    let here = meeting.rest i (omega arith) in
    let written : age_at (set now i age) i ≡ age = get_or-set_same now i age 0 inside in
    let elsewhere : (n : ℕ) → (n ≡ i → ⊥) → age_at (set now i age) n ≡ age_at now n =
    λ n apart. get_or-set_other now i n age 0 apart in
    record {
      long = length-set now i age ∙ meeting.long;
      done = λ n below. elim (cases_eq n i) [
        | inl at ↦
            subst (λ (m : ℕ). age_at (set now i age) m ≡ met kind (age_at before m) (age_at others m)) (sym at)
            (written ∙ (is_met ∙ ap (λ (x : ℕ). met kind x (age_at others i)) here))
        | inr apart ↦ elsewhere n apart ∙ meeting.done n (omega (arith, below, apart))
      ];
      rest = λ n above.
          elsewhere n (λ at. absurd (omega (arith, above, at))) ∙ meeting.rest n (omega (arith, above));
      same = λ calm. absurd (true≢false calm);
      changed = λ is. (i, omega arith, λ stays. differs (sym written ∙ (stays ∙ sym here)));
    }

-- at the end all have met
pub meeting-ends : (kind : Kind) (i : ℕ) (before others now : List ℕ) (raised : Bool)
    → IsMeeting kind i before others now raised → length before ≡ length others → length before ≤ i
    → now ≡ all_met kind before others
meeting-ends kind i before others now raised meeting long end =
    ext_get_or 0 now (all_met kind before others) (meeting.long ∙ sym (length-met kind before others long))
    (λ n inside. meeting.done n (omega (arith, inside, end, meeting.long)) ∙ sym (at-met kind before others long n))

-- and the flag says whether the list is another one
pub meeting-raised : (kind : Kind) (i : ℕ) (before others now : List ℕ) (raised : Bool)
    → IsMeeting kind i before others now raised → length before ≤ i
    → (raised ≡ false → now ≡ before) × (now ≡ before → raised ≡ false)
meeting-raised kind i before others now raised meeting end = (
  λ calm. ext_get_or 0 now before meeting.long
      (λ n inside. meeting.same calm n (omega (arith, inside, end, meeting.long))),
  λ equal. elim (cases_Bool raised) [
    | inl is ↦ let found = meeting.changed is in absurd (found.2 (ap (λ (l : List ℕ). age_at l found.0) equal))
    | inr calm ↦ calm
  ],
)
