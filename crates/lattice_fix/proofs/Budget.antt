-- What the solver may still spend: each change is worth more than all nodes that can wait.
use Rattle.std.proofs.Common.{◌≡◌, ℕ, ◌+◌, ◌*◌, ◌-◌, ◌<◌, ◌≤◌, Bool, true, false, List, length, slice_index_or, slice_set, ◌≢◌, ap, subst, arith, cond, ⊎_elim}
use Rattle.std.specs.List.{count_by}
use Rattle.std.proofs.lemmas.List.Sums.{sum_by-set, count_by-le-length}
use Rattle.std.proofs.lemmas.Bool.{cases_eq}
use Rattle.std.proofs.lemmas.Nat.{mul-le}
use Rattle.lattice_fix.specs.Waits.{Waits}

-- how many nodes wait
abbrev pub count_of : List Bool → ℕ
count_of waiting = count_by (λ b. b) waiting

-- `changes` may still come, each worth one more than the nodes, and `waiting` nodes wait
abbrev pub budget : ℕ → ℕ → ℕ → List Bool → ℕ
budget nodes height changes waiting = (nodes * height - changes) * (nodes + 1) + count_of waiting

-- the flag of a node that waits counts one
flag-one : (b : Bool) → b ≡ true → ◌≡◌ {A = ℕ} (cond b 1 0) 1
flag-one b waits = ap (λ (c : Bool). cond c 1 0) waits

-- a node that waited and is taken counts no more
pub count_of-taken : (waiting : List Bool) (n : ℕ) → n < length waiting → Waits waiting n →
    count_of (slice_set waiting n false) + 1 ≡ count_of waiting
count_of-taken waiting n inside waits =
    let one = flag-one (slice_index_or waiting n false) waits in
    omega (arith, sum_by-set (λ b. cond b 1 0) waiting n false false inside, one)

-- fewer changes to come are worth less, however many nodes wait
product_falls : (fewer more nodes count : ℕ) → fewer + 1 ≤ more → count ≤ nodes →
    fewer * (nodes + 1) + count < more * (nodes + 1)
product_falls fewer more nodes count less few =
    let product = mul-le (fewer + 1) (nodes + 1) more (nodes + 1) less (omega arith) in
    let whole : (fewer + 1) * (nodes + 1) ≡ fewer * (nodes + 1) + (nodes + 1) = grind arith in
    omega (arith, product, whole)

-- after a visit the budget is smaller: there are more changes, or the node that was taken waits no more
pub budget_falls : (nodes height old new : ℕ) (waited taken waiting : List Bool) → new ≤ nodes * height → old ≤ new →
    length waiting ≡ nodes → count_of taken + 1 ≡ count_of waited
    → (new ≡ old → waiting ≡ taken) → budget nodes height new waiting < budget nodes height old waited
budget_falls nodes height old new waited taken waiting short longer len fell calm = ⊎_elim
    (λ (same : new ≡ old).
    let flags : count_of waiting ≡ count_of taken = ap count_of (calm same) in
    let spent : (nodes * height - new) * (nodes + 1) ≡ (nodes * height - old) * (nodes + 1) =
    ap (λ (k : ℕ). (nodes * height - k) * (nodes + 1)) same in
    omega (arith, flags, spent))
    (λ (other : new ≢ old).
    let fewer : (nodes * height - new) + 1 ≤ nodes * height - old = omega arith in
    let few : count_of waiting ≤ nodes =
    subst (λ (k : ℕ). count_of waiting ≤ k) len (count_by-le-length (λ b. b) waiting) in
    let falls = product_falls (nodes * height - new) (nodes * height - old) nodes (count_of waiting) fewer few in
    omega (arith, falls))
    (cases_eq new old)
