-- What a draw tells a worker, and the numbers of its results.
use Rattle.std.proofs.Common.{◌≡◌, ℕ, ◌+◌, ◌<◌, ◌≤◌, ◌↔◌, true, false, List, [], ◌∷◌, ◌++◌, sym, ◌∙◌, subst, ap, arith}
use Rattle.std.proofs.Common.{⊎_elim}
use Rattle.std.specs.Prelude.{All, Some, None, fold}
use Rattle.std.proofs.lemmas.Bool.{lt-ltb, le-ltb, cases_Bool, cases_lt, cond-true, cond-false}
use Rattle.std.proofs.lemmas.List.{map-append}
use Rattle.std.proofs.lemmas.List.Elements.{All-head, All-tail}
use Rattle.std.proofs.lemmas.List.Sums.{fold_push}
use Rattle.work_share.specs.declared.station.Numbered.{Numbered}
use Rattle.work_share.specs.declared.tickets.TicketSeat.{TicketSeat}
use Rattle.work_share.specs.Counts.{times}
use Rattle.work_share.specs.Seat.{drawn_of, has_ended, number_drawn, job_below}
use Rattle.work_share.specs.Station.{numbers_of, SameBelow}
use Rattle.work_share.proofs.Counted.{times-append, times-other}

module _ (jobs : ℕ) (old new : TicketSeat) where
  -- a draw that gave a number
  pub some_drawn : (n : ℕ) → (has_ended old ≡ true → (Some n ≡ None) × (new ≡ old))
      → (has_ended old ≡ false → drawn_of new ≡ drawn_of old ++ number_drawn old new ∷ [])
      → (has_ended old ≡ false → All (λ earlier. earlier < number_drawn old new) (drawn_of old))
      → (has_ended old ≡ false → Some n ≡ job_below jobs (number_drawn old new))
      → (n < jobs) × (drawn_of new ≡ drawn_of old ++ n ∷ []) × All (λ earlier. earlier < n) (drawn_of old)
  some_drawn n after drawn greater answer =
      ⊎_elim (λ (ended : has_ended old ≡ true). let none = (after ended).0 in absurd (cc))
      (λ (going : has_ended old ≡ false).
      let m : ℕ = number_drawn old new in
      ⊎_elim
      (λ (lt : m < jobs).
      let is : Some n ≡ Some m = answer going ∙ cond-true _ (Some m) None (lt-ltb m jobs lt) in
      let same : n ≡ m = cc in
      subst
      (λ (k : ℕ).
      (k < jobs) × (drawn_of new ≡ drawn_of old ++ k ∷ [])
      × All (λ earlier. earlier < k) (drawn_of old)) (sym same)
      (lt, drawn going, greater going))
      (λ (le : jobs ≤ m).
      let is : Some n ≡ None = answer going ∙ cond-false _ (Some m) None (le-ltb m jobs le) in
      absurd (cc)) (cases_lt m jobs)) (cases_Bool (has_ended old))

  -- a draw that gave none
  pub none_drawn : (has_ended old ≡ true → new ≡ old)
      → (has_ended old ≡ false → drawn_of new ≡ drawn_of old ++ number_drawn old new ∷ [])
      → (has_ended old ≡ false → None ≡ job_below jobs (number_drawn old new))
      → (has_ended old ≡ false → (has_ended new ≡ true) ↔ (jobs ≤ number_drawn old new))
      → (has_ended new ≡ true) × SameBelow jobs (drawn_of old) (drawn_of new)
  none_drawn after drawn answer ends =
      ⊎_elim
      (λ (ended : has_ended old ≡ true).
      let same = after ended in
      (ap has_ended same ∙ ended, (λ x lt. sym (ap (λ (seat : TicketSeat). times x (drawn_of seat)) same))))
      (λ (going : has_ended old ≡ false).
      let m : ℕ = number_drawn old new in
      ⊎_elim
      (λ (lt : m < jobs).
      let is : None ≡ Some m = answer going ∙ cond-true _ (Some m) None (lt-ltb m jobs lt) in
      absurd (cc))
      (λ (le : jobs ≤ m). (
        (ends going).1 le,
        (λ x lt.
            let a = times-append x (drawn_of old) (m ∷ []) in
            let b = times-other x m (λ e. omega arith) in
            let is : times x (drawn_of new) ≡ times x (drawn_of old ++ m ∷ []) =
            ap (times x) (drawn going) in
            omega arith),
      )) (cases_lt m jobs)) (cases_Bool (has_ended old))

-- a result is put behind others, and its number behind theirs
pub same_push : {D : Type 0} (jobs : ℕ) (results : List (Numbered D)) (entry : Numbered D) (xs ys : List ℕ)
    → ys ≡ xs ++ entry.number ∷ [] → SameBelow jobs (numbers_of results) xs
    → SameBelow jobs (numbers_of (results ++ entry ∷ [])) ys
same_push {D} jobs results entry xs ys is same x lt =
    let n : ℕ = entry.number in
    let a = times-append x xs (n ∷ []) in
    let b = times-append x (numbers_of results) (n ∷ []) in
    let c : times x (numbers_of (results ++ entry ∷ [])) ≡ times x (numbers_of results ++ n ∷ []) =
    ap (times x) (map-append (λ (e : Numbered D). e.number) results (entry ∷ [])) in
    let d : times x ys ≡ times x (xs ++ n ∷ []) = ap (times x) is in let e = same x lt in omega arith

-- the least number that the next draw may give, after these
abbrev pub next_after : List ℕ → ℕ
next_after drawn = fold (λ _ x. x + 1) 0 drawn

-- numbers below n end no further than at n
bound-from : (n first : ℕ) (xs : List ℕ) → first ≤ n → All (λ x. x < n) xs → fold (λ _ x. x + 1) first xs ≤ n
bound-from n first [] le small = le
bound-from n first (x ∷ xs) le small =
    let here : x < n = All-head (λ x. x < n) x xs small in
    bound-from n (x + 1) xs (omega arith) (All-tail (λ x. x < n) x xs small)

-- a number that is greater than these is not below it
pub next_after-le : (n : ℕ) (drawn : List ℕ) → All (λ x. x < n) drawn → next_after drawn ≤ n
next_after-le n drawn small = bound-from n 0 drawn (omega arith) small

-- after one number more, the next may be the one behind it
pub next_after-push : (n : ℕ) (drawn : List ℕ) → next_after (drawn ++ n ∷ []) ≡ n + 1
next_after-push n drawn = fold_push (λ _ x. x + 1) 0 drawn n
