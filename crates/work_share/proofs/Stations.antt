-- The stations of the workers, before, after and as they are taken in.
use Rattle.std.proofs.Common.{◌≡◌, ℕ, zero, suc, ◌+◌, ◌<◌, ◌≤◌, ◌||◌, get_or, take, List, [], ◌∷◌, ◌++◌, length}
use Rattle.std.proofs.Common.{length-append, sym, ◌∙◌, subst, refl, ap, arith, ⊎_elim}
use Rattle.std.specs.Prelude.{All, Contains}
use Rattle.std.specs.List.{AllZip, range_with_len}
use Rattle.std.proofs.lemmas.Bool.{cases_lt, or_left}
use Rattle.std.proofs.lemmas.List.{map-append, append_assoc, get_or_append_left, get_or_push}
use Rattle.std.proofs.lemmas.List.Sums.{sum_by_push, sum_by-cons}
use Rattle.std.proofs.lemmas.List.Elements.{All-append, All-weaker, All-nil, All-cons, All-head, All-tail, All-push}
use Rattle.std.proofs.lemmas.List.Elements.{All-map, All-contains, AllZip-push, AllZip-get_or, Contains-append_left}
use Rattle.std.proofs.lemmas.List.Elements.{Contains-push}
use Rattle.work_share.specs.declared.close.Gathered.{Gathered}
use Rattle.work_share.specs.declared.station.Numbered.{Numbered}
use Rattle.work_share.specs.declared.station.Station.{Station}
use Rattle.work_share.specs.declared.tickets.Tickets.{Tickets}
use Rattle.work_share.specs.declared.tickets.TicketSeat.{TicketSeat}
use Rattle.work_share.specs.Counts.{times, IsEachBelow}
use Rattle.work_share.specs.Seat.{drawn_of, has_ended, spare_of}
use Rattle.work_share.specs.Station.{numbered, numbers_of, states_of, weights_of, workers_of}
use Rattle.work_share.specs.Station.{HasFinished, HasGathered, HasWorked}
use Rattle.work_share.specs.Station.{IsOver, IsRightBeside, SameBelow}
use Rattle.work_share.proofs.Counted.{times-append, times-above, once_below-under, once_below-past}

-- what holds of a list and one element more holds of the list
pub all_but_last : {X : Type 0} (P : X → Type 0) (xs : List X) (x : X) → All P (xs ++ x ∷ []) → All P xs
all_but_last P xs x all k d inside =
    subst P (get_or_append_left xs (x ∷ []) d k inside) (all k d (let n = length-append xs (x ∷ []) in omega arith))

-- and of the element
pub last_too : {X : Type 0} (P : X → Type 0) (xs : List X) (x : X) → All P (xs ++ x ∷ []) → P x
last_too P xs x all =
    subst P (get_or_push xs x x (length xs) refl)
    (all (length xs) x (let n = length-append xs (x ∷ []) in omega arith))

-- the state of the last station comes first
pub states_of-push : {S D : Type 0} (stations : List (Station S D)) (last : Station S D)
    → states_of (stations ++ last ∷ []) ≡ last.state ∷ states_of stations
states_of-push [] last = refl
states_of-push {S} (station ∷ more) last =
    ap (λ (states : List S). states ++ station.state ∷ []) (states_of-push more last)

-- a state that moves to a station of its own stays among the states and those of stations
pub states_moved : {S D : Type 0} (states rest : List S) (stations : List (Station S D)) (new : Station S D)
    → states ≡ rest ++ new.state ∷ [] → rest ++ states_of (stations ++ new ∷ []) ≡ states ++ states_of stations
states_moved {S} states rest stations new is =
    ap (λ (more : List S). rest ++ more) (states_of-push stations new)
    ∙ sym (append_assoc rest (new.state ∷ []) (states_of stations))
    ∙ ap (λ (all : List S). all ++ states_of stations) (sym is)

-- the same for one that goes back
pub states_back : {S D : Type 0} (states : List S) (stations rest : List (Station S D)) (last : Station S D)
    → stations ≡ rest ++ last ∷ [] → (states ++ last.state ∷ []) ++ states_of rest ≡ states ++ states_of stations
states_back {S} states stations rest last is =
    append_assoc states (last.state ∷ []) (states_of rest)
    ∙ ap (λ (more : List S). states ++ more) (sym (states_of-push rest last))
    ∙ ap (λ (all : List (Station S _)). states ++ states_of all) (sym is)

-- the worker of the last station comes first
workers_of-push : {S D : Type 0} (stations : List (Station S D)) (last : Station S D)
    → workers_of (stations ++ last ∷ []) ≡ last.worker ∷ workers_of stations
workers_of-push [] last = refl
workers_of-push (station ∷ more) last =
    ap (λ (workers : List ℕ). workers ++ station.worker ∷ []) (workers_of-push more last)

-- one worker more, numbered by the place of its state
pub workers_moved : {S D : Type 0} (m n : ℕ) (stations : List (Station S D)) (new : Station S D) → new.worker ≡ m
    → n ≡ m + 1 → workers_of stations ≡ range_with_len n (length stations)
    → workers_of (stations ++ new ∷ []) ≡ range_with_len m (length (stations ++ new ∷ []))
workers_moved m n stations new worker next before =
    let added = length-append stations (new ∷ []) in
    let len : length (stations ++ new ∷ []) ≡ suc (length stations) = omega arith in
    workers_of-push stations new ∙ ap (λ (k : ℕ). k ∷ workers_of stations) worker
    ∙ ap (λ (l : List ℕ). m ∷ l) (before ∙ ap (λ (k : ℕ). range_with_len k (length stations)) next)
    ∙ sym (ap (range_with_len m) len)

-- one station more, and its weight
pub weights_of-push : {S D : Type 0} (stations : List (Station S D)) (last : Station S D)
    → weights_of (stations ++ last ∷ []) ≡ weights_of stations + (spare_of last.seat + 1)
weights_of-push {S} {D} stations last =
    sum_by_push (λ (station : Station S D). spare_of station.seat + 1) stations last

-- what the workers did, station by station
pub worked_each : {S D : Type 0} (IsFit : S → Type 0) (GoesOn : S → S → Type 0) (IsRight : ℕ → S → D → Type 0)
    (tickets : Tickets) (old new : List (Station S D))
    → length new ≡ length old
    → ((k : ℕ) (d : Station S D) → k < length old
    → HasWorked IsFit GoesOn IsRight tickets (get_or old k d) (get_or new k d))
    → All (IsOver IsFit IsRight tickets) new × AllZip GoesOn (states_of old) (states_of new)
    × (weights_of new ≡ weights_of old)
worked_each IsFit GoesOn IsRight tickets [] [] same each = (All-nil (IsOver IsFit IsRight tickets), tt, refl)
worked_each IsFit GoesOn IsRight tickets [] (y ∷ ys) same each = absurd (omega arith)
worked_each IsFit GoesOn IsRight tickets (x ∷ xs) [] same each = absurd (omega arith)
worked_each {S} {D} IsFit GoesOn IsRight tickets (x ∷ xs) (y ∷ ys) same each =
    let here = each 0 x (omega arith) in
    let more =
    worked_each IsFit GoesOn IsRight tickets xs ys (omega arith) (λ k d inside. each (suc k) d (omega arith)) in
    let a = sum_by-cons (λ (station : Station S D). spare_of station.seat + 1) x xs in
    let b = sum_by-cons (λ (station : Station S D). spare_of station.seat + 1) y ys in
    let c = here.spare in
    let d = more.2 in (
      All-cons (IsOver IsFit IsRight tickets) y ys here.over more.0,
      AllZip-push GoesOn (states_of xs) (states_of ys) x.state y.state more.1 here.onward,
      omega arith,
    )

-- the states of stations whose workers are done are fit
states_of-fit : {S D : Type 0} (IsFit : S → Type 0) (IsRight : ℕ → S → D → Type 0) (tickets : Tickets)
    (stations : List (Station S D))
    → All (IsOver IsFit IsRight tickets) stations → All IsFit (states_of stations)
states_of-fit IsFit IsRight tickets [] over = All-nil IsFit
states_of-fit IsFit IsRight tickets (station ∷ more) over =
    All-push IsFit (states_of more) station.state
    (states_of-fit IsFit IsRight tickets more (All-tail (IsOver IsFit IsRight tickets) station more over))
    (All-head (IsOver IsFit IsRight tickets) station more over).fit

-- the states after a run, which went out to stations and came back
pub back_again : {S D : Type 0} (IsFit : S → Type 0) (GoesOn : S → S → Type 0) (IsRight : ℕ → S → D → Type 0)
    (tickets : Tickets) (old new : List S) (before after : List (Station S D))
    → states_of before ≡ old → new ≡ states_of after → All (IsOver IsFit IsRight tickets) after
    → AllZip GoesOn (states_of before) (states_of after)
    → All IsFit new × ((k : ℕ) (s : S) → k < length old → GoesOn (get_or old k s) (get_or new k s))
back_again {S} {D} IsFit GoesOn IsRight tickets old new before after out back over onward = (
  subst (λ (states : List S). All IsFit states) (sym back) (states_of-fit IsFit IsRight tickets after over),
  (λ k s inside.
      AllZip-get_or GoesOn old new k s s
      (subst (λ (states : List S). AllZip GoesOn old states) (sym back)
      (subst (λ (states : List S). AllZip GoesOn states (states_of after)) out onward)) inside),
)

-- a part that was changed in place is all of a list that is no longer
pub restored : {X : Type 0} (n : ℕ) (xs ys : List X) → length xs ≡ n → take n (xs ++ ys) ≡ xs
restored zero [] ys is = refl
restored zero (x ∷ xs) ys is = absurd (omega arith)
restored (suc n) [] ys is = absurd (omega arith)
restored {X} (suc n) (x ∷ xs) ys is = ap (λ (more : List X). x ∷ more) (restored n xs ys (omega arith))

-- the first station is taken in
pub gathered_first : {S D : Type 0} (IsRight : ℕ → S → D → Type 0) (jobs : ℕ) (station : Station S D)
    (states : List S) (gathered : Gathered D)
    → gathered.seat ≡ station.seat → gathered.results.items ≡ station.results.items → states ≡ station.state ∷ []
    → HasFinished IsRight jobs station → HasGathered IsRight jobs states gathered
gathered_first {S} {D} IsRight jobs station states gathered seat results is done = record {
  ended = ap has_ended seat ∙ done.ended;
  drawn =
      λ x lt.
      ap (λ (all : List (Numbered D)). times x (numbers_of all)) results ∙ done.drawn x lt
      ∙ ap (λ (s : TicketSeat). times x (drawn_of s)) (sym seat);
  small = subst (λ (all : List (Numbered D)). All (λ entry. entry.number < jobs) all) (sym results) done.small;
  right =
      subst (λ (all : List (Numbered D)). All (IsRightBeside IsRight states) all) (sym results)
      (All-weaker (λ (entry : Numbered D). IsRight entry.number station.state entry.done)
      (IsRightBeside IsRight states)
      (λ entry right. (
        station.state,
        subst (λ (all : List S). Contains all station.state) (sym is) (Contains-push [] station.state),
        right,
      )) station.results.items done.right);
}

-- one station more is taken in
pub gathered_more : {S D : Type 0} (IsRight : ℕ → S → D → Type 0) (jobs : ℕ) (station : Station S D)
    (states states' : List S) (gathered gathered' : Gathered D)
    → drawn_of gathered'.seat ≡ drawn_of gathered.seat ++ drawn_of station.seat
    → has_ended gathered'.seat ≡ (has_ended gathered.seat || has_ended station.seat)
    → gathered'.results.items ≡ gathered.results.items ++ station.results.items
    → states' ≡ states ++ station.state ∷ [] → HasFinished IsRight jobs station
    → HasGathered IsRight jobs states gathered → HasGathered IsRight jobs states' gathered'
gathered_more {S} {D} IsRight jobs station states states' gathered gathered' drawn ended grown is done all =
    let before : List (Numbered D) = gathered.results.items in
    let more : List (Numbered D) = station.results.items in
    record {
      ended = ended ∙ or_left (has_ended gathered.seat) (has_ended station.seat) all.ended;
      drawn =
          λ x lt.
          let a :
          times x (numbers_of gathered'.results.items) ≡ times x (numbers_of before) + times x
          (numbers_of more) =
          ap (λ (l : List (Numbered D)). times x (numbers_of l)) grown
          ∙ ap (times x) (map-append (λ (e : Numbered D). e.number) before more)
          ∙ times-append x (numbers_of before) (numbers_of more) in
          let b :
          times x (drawn_of gathered'.seat) ≡ times x (drawn_of gathered.seat) + times x
          (drawn_of station.seat) =
          ap (times x) drawn ∙ times-append x (drawn_of gathered.seat) (drawn_of station.seat) in
          let c = all.drawn x lt in let d = done.drawn x lt in omega arith;
      small =
          subst (λ (l : List (Numbered D)). All (λ entry. entry.number < jobs) l) (sym grown)
          (All-append (λ (entry : Numbered D). entry.number < jobs) before more all.small done.small);
      right =
          subst (λ (l : List (Numbered D)). All (IsRightBeside IsRight states') l) (sym grown)
          (All-append (IsRightBeside IsRight states') before more
          (All-weaker (IsRightBeside IsRight states) (IsRightBeside IsRight states')
          (λ entry right. (
            right.0,
            subst (λ (l : List S). Contains l right.0) (sym is)
                (Contains-append_left states (station.state ∷ []) right.0 right.1),
            right.2,
          )) before all.right)
          (All-weaker (λ (entry : Numbered D). IsRight entry.number station.state entry.done)
          (IsRightBeside IsRight states')
          (λ entry right. (
            station.state,
            subst (λ (l : List S). Contains l station.state) (sym is)
                (Contains-push states station.state),
            right,
          )) more done.right));
    }

-- where the only seat has each number below a counter above `jobs`, the results have each below `jobs`
pub all_gathered : {D : Type 0} (jobs counter : ℕ) (drawn drawn' : List ℕ) (results : List (Numbered D))
    → SameBelow jobs (numbers_of results) drawn → All (λ entry. entry.number < jobs) results → drawn' ≡ drawn ++ []
    → IsEachBelow counter drawn' → jobs < counter → IsEachBelow jobs (numbers_of results)
all_gathered {D} jobs counter drawn drawn' results same small is each past x =
    ⊎_elim
    (λ (lt : x < jobs).
    let a = same x lt in
    let b : times x drawn' ≡ times x drawn + times x [] = ap (times x) is ∙ times-append x drawn [] in
    let c : times x [] ≡ 0 = refl in
    let d = each x in
    let e = once_below-under x counter (omega arith) in let f = once_below-under x jobs lt in omega arith)
    (λ (le : jobs ≤ x).
    let a =
    times-above x jobs (numbers_of results) le
    (All-map (λ n. n < jobs) (λ (e : Numbered D). e.number) results small) in
    let b = once_below-past x jobs le in omega arith) (cases_lt x jobs)

-- a right result, found by its number
pub right_at : {S D : Type 0} (IsRight : ℕ → S → D → Type 0) (states : List S) (results : List (Numbered D)) (i : ℕ)
    (d : D)
    → All (IsRightBeside IsRight states) results → Contains results (numbered i d)
    → (s : S) × Contains states s × IsRight i s d
right_at IsRight states results i d all has =
    All-contains (IsRightBeside IsRight states) results (numbered i d) all has
