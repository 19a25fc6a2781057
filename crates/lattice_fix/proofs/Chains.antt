-- A replay is short: what each node had, one after another, is a rising chain.
use Rattle.std.proofs.Common.{◌≡◌, ◌≢◌, ℕ, suc, zero, ◌+◌, ◌*◌, ◌<◌, ◌≤◌, List, [], ◌∷◌, length, replicate, slice_index_or, slice_set, map, Option, Some, None, refl, sym, ◌∙◌, ap, subst, arith, get_or-set_same, get_or-set_other, ⊎_elim}
use Rattle.std.specs.List.{sum_by, All}
use Rattle.std.proofs.lemmas.Bool.{cases_eq}
use Rattle.std.proofs.lemmas.List.Elements.{All-from_get_or}
use Rattle.std.proofs.lemmas.List.{length-map, map-set, get_or-map}
use Rattle.std.proofs.lemmas.List.Sums.{sum_by-set, sum_by-le}
use Rattle.path_model.specs.declared.graph.Node.{Node}
use Rattle.lattice_fix.specs.declared.change.Change.{Change}
use Rattle.lattice_fix.specs.Framework.{Framework, IsMonotone, IsChain}
use Rattle.lattice_fix.specs.Replay.{value_at, joined, Raises, IsStep, Replays, nothing}
use Rattle.lattice_fix.proofs.Joined.{AllWithin}
use Rattle.lattice_fix.proofs.Steps.{brought_within, step_within, at_replicate, nothing_at}

-- the last member of a chain
abbrev pub last_of : {D : Type 0} → List D → Option D
last_of [] = None
last_of (x ∷ earlier) = Some x

-- a chain for each node, with what the node has as its last member; together they have `count` members
record HasChains {D : Type 0} (F : Framework D) (held : List (Option D)) (count : ℕ) : Type 0 where
  chains : List (List D)
  lasts : held ≡ map last_of chains
  each : (n : ℕ) → IsChain F (slice_index_or chains n [])
  total : sum_by length chains ≡ count

-- a raise makes a chain longer
longer : {D : Type 0} (F : Framework D) → IsMonotone F → (chain : List D) (o : Option D) (x : D) → last_of chain ≡ o →
    ((y : D) → o ≡ Some y → F.carrier y) → F.carrier x → Raises F o x → IsChain F chain →
    IsChain F (joined F o x ∷ chain)
longer F M [] o x last within carrier raises chain =
    subst (λ (p : Option _). IsChain F (joined F p x ∷ [])) last carrier
longer {D} F M (y ∷ earlier) o x last within carrier raises chain =
    let cy : F.carrier y = within y (sym last) in
    let apart : F.join y x ≢ y = subst (λ (p : Option D). Raises F p x) (sym last) raises in
    subst (λ (p : Option D). IsChain F (joined F p x ∷ y ∷ earlier)) last
    (M.join_within y x cy carrier, M.join_left y x cy carrier, (λ (same : y ≡ F.join y x). apart (sym same)), chain)

-- a change makes one of the chains longer by one
step_chains : {D : Type 0} (F : Framework D) → IsMonotone F →
    (nodes : List Node) (before : List (Option D)) (change : Change) (after : List (Option D)) (count : ℕ) →
    AllWithin F before → HasChains F before count → IsStep F nodes before change after → HasChains F after (count + 1)
step_chains {D} F M nodes before change after count within has step =
    let n : ℕ = change.node in
    let chain : List D = slice_index_or has.chains n [] in
    let o : Option D = value_at before n in
    let top : D = joined F o step.brought in
    let inside : n < length has.chains =
    subst (λ (k : ℕ). n < k) (ap length has.lasts ∙ length-map has.chains last_of) step.inside in
    let last : last_of chain ≡ o =
    sym (get_or-map last_of has.chains n [] None inside) ∙ ap (λ (w : List (Option D)). value_at w n) (sym has.lasts) in
    let grown : IsChain F (top ∷ chain) =
    longer F M chain o step.brought last (within n)
    (brought_within F M nodes before n change.from step.brought within step.brings) step.raises (has.each n) in
    record {
      chains = slice_set has.chains n (top ∷ chain);
      lasts = step.leaves
          ∙ (ap (λ (w : List (Option D)). slice_set w n (Some top)) has.lasts
          ∙ sym (map-set last_of has.chains n (top ∷ chain)));
      each = λ i. ⊎_elim
          (λ (same : i ≡ n). subst (λ (v : List D). IsChain F v)
          (sym (get_or-set_same has.chains n (top ∷ chain) [] inside)
          ∙ ap (λ (q : ℕ). slice_index_or (slice_set has.chains n (top ∷ chain)) q []) (sym same)) grown)
          (λ (apart : i ≢ n). subst (λ (v : List D). IsChain F v)
          (sym (get_or-set_other has.chains n i (top ∷ chain) [] apart)) (has.each i))
          (cases_eq i n);
      total = omega (arith, sum_by-set length has.chains n (top ∷ chain) [] inside, has.total);
    }

-- a replay makes the chains longer by one for each change
Replays-chains : {D : Type 0} (F : Framework D) → IsMonotone F →
    (nodes : List Node) (before : List (Option D)) (changes : List Change) (after : List (Option D)) (count : ℕ) →
    AllWithin F before → HasChains F before count → Replays F nodes before changes after →
    HasChains F after (count + length changes)
Replays-chains {D} F M nodes before [] after count within has replay =
    let sum : count ≡ count + 0 = omega arith in
    subst (λ (i : ℕ). HasChains F after i) sum (subst (λ (w : List (Option D)). HasChains F w count) (sym replay) has)
Replays-chains {D} F M nodes before (change ∷ changes) after count within has replay =
    let sum : (count + 1) + length changes ≡ count + length (change ∷ changes) = omega arith in
    subst (λ (i : ℕ). HasChains F after i) sum
    (Replays-chains F M nodes replay.0 changes after (count + 1)
    (step_within F M nodes before change replay.0 within replay.1)
    (step_chains F M nodes before change replay.0 count within has replay.1) replay.2)

-- at first each chain is empty
lasts-nothing : (D : Type 0) (n : ℕ) → ◌≡◌ {A = List (Option D)} (replicate n None) (map last_of (replicate n []))
lasts-nothing D zero = refl
lasts-nothing D (suc n) = ap (λ (w : List (Option D)). None ∷ w) (lasts-nothing D n)

-- and all together are
total-nothing : (D : Type 0) (n : ℕ) → sum_by (length {A = D}) (replicate n []) ≡ 0
total-nothing D zero = refl
total-nothing D (suc n) = total-nothing D n

-- a replay from nothing has at most as many changes as the nodes' chains can have members
pub length-replay : {D : Type 0} (F : Framework D) → IsMonotone F →
    (nodes : List Node) (changes : List Change) (after : List (Option D)) →
    Replays F nodes (nothing nodes) changes after → length after ≡ length nodes →
    length changes ≤ length nodes * F.height
length-replay {D} F M nodes changes after replay len =
    let n : ℕ = length nodes in
    let begin : HasChains F (nothing nodes) 0 = record {
      chains = replicate n [];
      lasts = lasts-nothing D n;
      each = λ i. subst (λ (chain : List D). IsChain F chain) (sym (at_replicate n i [])) tt;
      total = total-nothing D n;
    } in
    let has : HasChains F after (0 + length changes) =
    Replays-chains F M nodes (nothing nodes) changes after 0 (λ k x is. absurd (nothing_at nodes k x is)) begin
    replay in
    let as_many : length has.chains ≡ n = sym (ap length has.lasts ∙ length-map has.chains last_of) ∙ len in
    let each : All (λ (chain : List D). length chain ≤ F.height) has.chains =
    All-from_get_or (λ (chain : List D). length chain ≤ F.height) has.chains []
    (λ i _. M.chains (slice_index_or has.chains i []) (has.each i)) in
    let few : sum_by length has.chains ≤ length has.chains * F.height = sum_by-le length F.height has.chains each in
    let fewer : sum_by length has.chains ≤ n * F.height =
    subst (λ (i : ℕ). sum_by length has.chains ≤ i * F.height) as_many few in
    omega (arith, has.total, fewer)
