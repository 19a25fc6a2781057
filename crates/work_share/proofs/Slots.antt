-- Results that are put into slots by their numbers, one after another.
use Rattle.std.proofs.Common.{◌≡◌, ℕ, ◌<◌, List, [], ◌∷◌, ◌++◌, length, map, get_or, set, sym, ◌∙◌, subst, refl, ap}
use Rattle.std.proofs.Common.{arith, length-set, get_or-set_same, ⊎_elim}
use Rattle.std.specs.Prelude.{All, Contains, Option, Some, None, IsSome}
use Rattle.std.proofs.lemmas.Bool.{cases_eq}
use Rattle.std.proofs.lemmas.List.{get_or-set_other, get_or_default, get_or-map, length-map, map-append}
use Rattle.work_share.specs.declared.station.Numbered.{Numbered}
use Rattle.work_share.specs.Counts.{times, IsEachBelow}
use Rattle.work_share.specs.Station.{numbered, numbers_of}
use Rattle.work_share.proofs.Counted.{times-append, times-other, times-there, once_below-under, once_below-positive}
use Rattle.work_share.proofs.Stations.{all_but_last, last_too}

-- The slots while some of the results are left to be put into theirs
pub record IsPartlyPut {D : Type 0} (jobs : ℕ) (all left : List (Numbered D)) (slots : List (Option D)) : Type 0 where
  pub wide : length slots ≡ jobs
  pub own : (i : ℕ) (done : D) → i < jobs → get_or slots i None ≡ Some done → Contains all (numbered i done)
  pub full : (i : ℕ) → i < jobs → times i (numbers_of left) ≡ 0 → (done : D) × (get_or slots i None ≡ Some done)
  pub here : All (Contains all) left
  pub small : All (λ entry. entry.number < jobs) left

module _ {D : Type 0} (jobs : ℕ) (all : List (Numbered D)) where
  -- each slot is empty, and all results are left
  pub put_none : (slots : List (Option D)) → IsEachBelow jobs (numbers_of all) → length slots ≡ jobs
      → All (λ slot. slot ≡ None) slots → IsPartlyPut jobs all all slots
  put_none slots each wide empty = record {
    wide = wide;
    own = λ i done lt at. let none : None ≡ Some done = sym (empty i None (omega arith)) ∙ at in absurd (cc);
    full = λ i lt none. let one = each i in let some = once_below-under i jobs lt in absurd (omega arith);
    here = λ k d inside. (k, inside, get_or_default all k _ d inside);
    small =
        λ k d inside.
        let x : ℕ = (get_or all k d).number in
        let len = length-map all (λ (e : Numbered D). e.number) in
        let same : get_or (numbers_of all) k 0 ≡ x = get_or-map (λ (e : Numbered D). e.number) all k d 0 inside in
        let there : 0 < times (get_or (numbers_of all) k 0) (numbers_of all) =
        times-there (numbers_of all) k 0 (omega arith) in
        let once = each (get_or (numbers_of all) k 0) in
        let lt = once_below-positive (get_or (numbers_of all) k 0) jobs (omega arith) in omega arith;
  }

  -- one result more is put into its slot
  pub put_one : (left rest : List (Numbered D)) (entry : Numbered D) (slots : List (Option D))
      → left ≡ rest ++ entry ∷ [] → IsPartlyPut jobs all left slots
      → (entry.number < length slots) × IsPartlyPut jobs all rest (set slots entry.number (Some entry.done))
  put_one left rest entry slots is put =
      let n : ℕ = entry.number in
      let new : List (Option D) = set slots n (Some entry.done) in
      let wide = put.wide in
      let numbers : numbers_of left ≡ numbers_of rest ++ n ∷ [] =
      ap numbers_of is ∙ map-append (λ (e : Numbered D). e.number) rest (entry ∷ []) in
      let small : All (λ (e : Numbered D). e.number < jobs) (rest ++ entry ∷ []) =
      subst (λ (l : List (Numbered D)). All (λ e. e.number < jobs) l) is put.small in
      let here : All (Contains all) (rest ++ entry ∷ []) =
      subst (λ (l : List (Numbered D)). All (Contains all) l) is put.here in
      let inside : n < jobs = last_too (λ (e : Numbered D). e.number < jobs) rest entry small in
      let mine : Contains all entry = last_too (Contains all) rest entry here in (
        omega arith,
        record {
          wide = length-set slots n (Some entry.done) ∙ wide;
          own =
              λ i done lt at.
              ⊎_elim
              (λ (same : i ≡ n).
              let is : Some entry.done ≡ Some done =
              sym (get_or-set_same slots n (Some entry.done) None (omega arith))
              ∙ ap (λ (k : ℕ). get_or new k None) (sym same) ∙ at in
              let value : entry.done ≡ done = cc in
              subst (λ (z : ℕ × D). Contains all (numbered z.0 z.1)) (λ k. (sym same k, value k)) mine)
              (λ (other : i ≡ n → ⊥).
              put.own i done lt (sym (get_or-set_other slots n i (Some entry.done) None other) ∙ at))
              (cases_eq i n);
          full =
              λ i lt none.
              ⊎_elim
              (λ (same : i ≡ n). (
                entry.done,
                ap (λ (k : ℕ). get_or new k None) same
                    ∙ get_or-set_same slots n (Some entry.done) None (omega arith),
              ))
              (λ (other : i ≡ n → ⊥).
              let a = times-append i (numbers_of rest) (n ∷ []) in
              let b = times-other i n (λ e. other (sym e)) in
              let c : times i (numbers_of left) ≡ times i (numbers_of rest ++ n ∷ []) =
              ap (times i) numbers in
              let full = put.full i lt (omega arith) in
              (full.0, get_or-set_other slots n i (Some entry.done) None other ∙ full.1)) (cases_eq i n);
          here = all_but_last (Contains all) rest entry here;
          small = all_but_last (λ (e : Numbered D). e.number < jobs) rest entry small;
        },
      )

  -- all results are in their slots
  pub all_put : (slots : List (Option D)) → IsPartlyPut jobs all [] slots → (i : ℕ) → i < jobs
      → (done : D) × (get_or slots i None ≡ Some done) × Contains all (numbered i done)
  all_put slots put i lt = let full = put.full i lt refl in (full.0, full.1, put.own i full.0 lt full.1)

  -- no slot is empty
  pub none_empty : (slots : List (Option D)) → length slots ≡ jobs
      → ((i : ℕ) → i < jobs → (done : D) × (get_or slots i None ≡ Some done) × Contains all (numbered i done))
      → All (λ slot. IsSome slot) slots
  none_empty slots wide each k d inside =
      let there = each k (omega arith) in
      let is : get_or slots k d ≡ Some there.0 = get_or_default slots k d None inside ∙ there.1 in
      subst (λ (slot : Option D). IsSome slot) (sym is) refl

  -- what the slots have, in the same order
  pub in_place : (slots : List (Option D)) (out : List D) → map (λ x. Some x) out ≡ slots → length slots ≡ jobs
      → ((i : ℕ) → i < jobs → (done : D) × (get_or slots i None ≡ Some done) × Contains all (numbered i done))
      → (i : ℕ) (d : D) → i < jobs → Contains all (numbered i (get_or out i d))
  in_place slots out is wide each i d lt =
      let len : length out ≡ length slots = sym (length-map out (λ (x : D). Some x)) ∙ ap length is in
      let there = each i lt in
      let e : Some (get_or out i d) ≡ Some there.0 =
      sym (get_or-map (λ (x : D). Some x) out i d None (omega arith))
      ∙ ap (λ (l : List (Option D)). get_or l i None) is ∙ there.1 in
      let value : there.0 ≡ get_or out i d = cc in subst (λ (x : D). Contains all (numbered i x)) value there.2
