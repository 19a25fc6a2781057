-- What a node has once something is joined into it.
use Rattle.std.proofs.Common.{◌≡◌, ◌≢◌, ℕ, ◌<◌, Bool, true, false, List, length, slice_index_or, slice_set, Option, Some, None, refl, sym, ◌∙◌, subst, get_or-set_same, get_or-set_other, ⊎_elim}
use Rattle.std.proofs.lemmas.Option.{same_Some, none-some}
use Rattle.std.proofs.lemmas.Bool.{cases_eq, true≢false}
use Rattle.lattice_fix.specs.Framework.{Framework, IsMonotone}
use Rattle.lattice_fix.specs.Replay.{value_at, joined}
use Rattle.lattice_fix.specs.Course.{IsMet, IsClear}

-- what each node has is in the carrier
abbrev pub AllWithin : {D : Type 0} → Framework D → List (Option D) → Type 0
AllWithin {D} F held = (n : ℕ) (x : D) → value_at held n ≡ Some x → F.carrier x

-- what the nodes have once x came to a node
abbrev pub raised_at : {D : Type 0} → Framework D → List (Option D) → ℕ → D → List (Option D)
raised_at F held to x = slice_set held to (Some (joined F (value_at held to) x))

-- a join stays in the carrier
pub joined_within : {D : Type 0} (F : Framework D) → IsMonotone F → (o : Option D) (x : D) →
    ((y : D) → o ≡ Some y → F.carrier y) → F.carrier x → F.carrier (joined F o x)
joined_within F M None x within carrier = carrier
joined_within F M (Some y) x within carrier = M.join_within y x (within y refl) carrier

-- what comes lies below the join
pub below_joined : {D : Type 0} (F : Framework D) → IsMonotone F → (o : Option D) (x : D) →
    ((y : D) → o ≡ Some y → F.carrier y) → F.carrier x → F.below x (joined F o x)
below_joined F M None x within carrier = M.reflexive x carrier
below_joined F M (Some y) x within carrier = M.join_right y x (within y refl) carrier

-- what was there lies below the join
pub had_below_joined : {D : Type 0} (F : Framework D) → IsMonotone F → (o : Option D) (x y : D) →
    ((y : D) → o ≡ Some y → F.carrier y) → F.carrier x → o ≡ Some y → F.below y (joined F o x)
had_below_joined F M None x y within carrier had = absurd (none-some y had)
had_below_joined F M (Some z) x y within carrier had =
    subst (λ w. F.below w (F.join z x)) (same_Some z y had) (M.join_left z x (within z refl) carrier)

-- a join lies below what both lie below
pub joined_below : {D : Type 0} (F : Framework D) → IsMonotone F → (o : Option D) (x w : D) →
    ((y : D) → o ≡ Some y → F.carrier y × F.below y w) → F.carrier x → F.carrier w → F.below x w →
    F.below (joined F o x) w
joined_below F M None x w had cx cw below = below
joined_below F M (Some y) x w had cx cw below = let h = had y refl in M.join_least y x w h.0 cx cw h.1 below

-- the node to which x came has the join
pub raised_same : {D : Type 0} (F : Framework D) (held : List (Option D)) (to : ℕ) (x : D) → to < length held →
    value_at (raised_at F held to x) to ≡ Some (joined F (value_at held to) x)
raised_same F held to x inside = get_or-set_same held to (Some (joined F (value_at held to) x)) None inside

-- another node has what it had
pub raised_other : {D : Type 0} (F : Framework D) (held : List (Option D)) (to : ℕ) (x : D) (n : ℕ) → n ≢ to →
    value_at (raised_at F held to x) n ≡ value_at held n
raised_other F held to x n other = get_or-set_other held to n (Some (joined F (value_at held to) x)) None other

-- all stays in the carrier
pub raised_within : {D : Type 0} (F : Framework D) → IsMonotone F → (held : List (Option D)) (to : ℕ) (x : D) →
    to < length held → AllWithin F held → F.carrier x → AllWithin F (raised_at F held to x)
raised_within {D} F M held to x inside within carrier n y is = ⊎_elim
    (λ (same : n ≡ to).
    let here : value_at (raised_at F held to x) to ≡ Some y =
    subst (λ k. value_at (raised_at F held to x) k ≡ Some y) same is in
    subst F.carrier (same_Some (joined F (value_at held to) x) y (sym (raised_same F held to x inside) ∙ here))
    (joined_within F M (value_at held to) x (within to) carrier))
    (λ (other : n ≢ to). within n y (sym (raised_other F held to x n other) ∙ is))
    (cases_eq n to)

-- an edge from another node stays met
pub met_kept : {D : Type 0} (F : Framework D) → IsMonotone F → (held : List (Option D)) (to : ℕ) (x : D) →
    to < length held → AllWithin F held → F.carrier x →
    (n m : ℕ) → n ≢ to → IsMet F held n m → IsMet F (raised_at F held to x) n m
met_kept {D} F M held to x inside within carrier n m other met z is =
    let was : value_at held n ≡ Some z = sym (raised_other F held to x n other) ∙ is in
    let old = met z was in
    ⊎_elim
    (λ (same : m ≡ to).
    let had : value_at held to ≡ Some old.0 = subst (λ k. value_at held k ≡ Some old.0) same old.1 in
    let y : D = joined F (value_at held to) x in
    let has : value_at (raised_at F held to x) m ≡ Some y =
    subst (λ k. value_at (raised_at F held to x) k ≡ Some y) (sym same) (raised_same F held to x inside) in (
      y,
      has,
      M.transitive (F.transfer n z) old.0 y (M.transfer_within n z (within n z was)) (within to old.0 had)
          (joined_within F M (value_at held to) x (within to) carrier) old.2
          (had_below_joined F M (value_at held to) x old.0 (within to) carrier had),
    ))
    (λ (apart : m ≢ to). (old.0, raised_other F held to x m apart ∙ old.1, old.2))
    (cases_eq m to)

-- the edge along which the transfer came is met
pub met_came : {D : Type 0} (F : Framework D) → IsMonotone F → (held : List (Option D)) (from to : ℕ) (z : D) →
    to < length held → AllWithin F held →
    from ≢ to → value_at held from ≡ Some z → IsMet F (raised_at F held to (F.transfer from z)) from to
met_came {D} F M held from to z inside within other had w is =
    let x : D = F.transfer from z in
    let same : z ≡ w = same_Some z w (sym had ∙ (sym (raised_other F held to x from other) ∙ is)) in (
      joined F (value_at held to) x,
      raised_same F held to x inside,
      subst (λ v. F.below (F.transfer from v) (joined F (value_at held to) x)) same
          (below_joined F M (value_at held to) x (within to) (M.transfer_within from z (within from z had))),
    )

-- a node that was made to wait does not count as done
waits_not_done : (waiting : List Bool) (n to : ℕ) → to < length waiting → n ≡ to →
    slice_index_or (slice_set waiting to true) n false ≡ false → ⊥
waits_not_done waiting n to inside same done =
    true≢false (sym (get_or-set_same waiting to true false inside)
    ∙ subst (λ k. slice_index_or (slice_set waiting to true) k false ≡ false) same done)

-- what is clear stays so where x comes to a node that then waits
pub clear_kept : {D : Type 0} (F : Framework D) → IsMonotone F →
    (held : List (Option D)) (waiting : List Bool) (to : ℕ) (x : D) → to < length held → to < length waiting →
    AllWithin F held → F.carrier x →
    (n m : ℕ) → IsClear F held waiting n m → IsClear F (raised_at F held to x) (slice_set waiting to true) n m
clear_kept F M held waiting to x inside flagged within carrier n m clear done = ⊎_elim
    (λ (same : n ≡ to). absurd (waits_not_done waiting n to flagged same done))
    (λ (other : n ≢ to). met_kept F M held to x inside within carrier n m other
    (clear (sym (get_or-set_other waiting to n true false other) ∙ done)))
    (cases_eq n to)

-- and the edge along which it came is clear
pub clear_came : {D : Type 0} (F : Framework D) → IsMonotone F →
    (held : List (Option D)) (waiting : List Bool) (from to : ℕ) (z : D) → to < length held → to < length waiting →
    AllWithin F held →
    value_at held from ≡ Some z →
    IsClear F (raised_at F held to (F.transfer from z)) (slice_set waiting to true) from to
clear_came F M held waiting from to z inside flagged within had done = ⊎_elim
    (λ (same : from ≡ to). absurd (waits_not_done waiting from to flagged same done))
    (λ (other : from ≢ to). met_came F M held from to z inside within other had)
    (cases_eq from to)
