-- A trail that is read off recorded changes, where each join is one of the two that meet: along the chain of the last
-- entry of a node is moved exactly what the node has.
use Rattle.std.proofs.Common.{◌≡◌, ℕ, zero, suc, ◌<◌, ◌≤◌, ◌⊎◌, List, [], ◌∷◌, ◌++◌, length, get_or-set_same, get_or-set_other, Option, Some, None, refl, sym, ap, ◌∙◌, subst, inl, inr, arith}
use Rattle.std.specs.Prelude.{slice_get}
use Rattle.std.specs.List.{All}
use Rattle.std.proofs.Math.ListN.{set, length-set}
use Rattle.std.proofs.lemmas.Bool.{cases_eq, cases_lt}
use Rattle.std.proofs.lemmas.List.{length-replicate, length_push}
use Rattle.std.proofs.lemmas.Option.{same_Some, none-some}
use Rattle.transition_spec.specs.Path.{IsSuccessor}
use Rattle.path_model.specs.declared.graph.Node.{Node}
use Rattle.path_model.specs.Graph.{graph_step}
use Rattle.path_trail.specs.Trail.{TrailEntry, node_of, earlier_of, node_at, earlier_at, IsChain, LeadsOn, IsTrail}
use Rattle.lattice_fix.specs.declared.change.Change.{Change}
use Rattle.lattice_fix.specs.Framework.{Framework}
use Rattle.lattice_fix.specs.Along.{along}
use Rattle.lattice_fix.specs.Replay.{Brings, IsStep, Raises, Replays, joined, nothing, value_at}
use Rattle.lattice_fix.proofs.Steps.{nothing_at}
use Rattle.age_exists.specs.Retraced.{Retraced, last_at, entry_before, entry_of, with_change, with_changes, no_entries}
use Rattle.age_exists.specs.Led.{LeadsTo, IsLed}

-- members of a list that grows stay where they are
pub get-earlier : {X : Type 0} (xs ys : List X) (k : ℕ) → k < length xs → slice_get (xs ++ ys) k ≡ slice_get xs k
get-earlier [] ys k inside = absurd (omega (arith, inside))
get-earlier (x ∷ xs) ys zero inside = refl
get-earlier (x ∷ xs) ys (suc k) inside = get-earlier xs ys k (omega (arith, inside))

-- and the new one is the last
pub get-last : {X : Type 0} (xs : List X) (y : X) → slice_get (xs ++ y ∷ []) (length xs) ≡ Some y
get-last [] y = refl
get-last (x ∷ xs) y = get-last xs y

-- an entry has one with a smaller number before it
before-smaller : (nodes : List Node) (trail : List TrailEntry) (number node : ℕ) (before : Option ℕ)
    → LeadsOn nodes trail number before node → (other : ℕ) → before ≡ Some other → other < number
before-smaller nodes trail number node None leads other same = absurd (none-some other same)
before-smaller nodes trail number node (Some k) leads other same =
    subst (λ (i : ℕ). i < number) (same_Some k other same) leads.0

module _ (nodes : List Node) (trail : List TrailEntry) (entry : TrailEntry) (is : IsTrail nodes trail) where
  abbrev Longer : List TrailEntry
  Longer = trail ++ entry ∷ []

  -- the nodes of the entries, and what stands before them
  pub old-node : (k : ℕ) → k < length trail → node_at Longer k ≡ node_at trail k
  old-node k inside = ap node_of (get-earlier trail (entry ∷ []) k inside)

  old-earlier : (k : ℕ) → k < length trail → earlier_at Longer k ≡ earlier_at trail k
  old-earlier k inside = ap earlier_of (get-earlier trail (entry ∷ []) k inside)

  -- a chain of an old entry has old entries alone
  old-chain : (first : Option ℕ) (members : List ℕ) → ((k : ℕ) → first ≡ Some k → k < length trail)
      → IsChain Longer first members → IsChain trail first members
  old-chain None [] inside chain = tt
  old-chain None (node ∷ earlier) inside chain = chain
  old-chain (Some k) [] inside chain = chain
  old-chain (Some k) (node ∷ earlier) inside chain =
      let here : k < length trail = inside k refl in
      let rest : IsChain Longer (earlier_at trail k) earlier =
      subst (λ (o : Option ℕ). IsChain Longer o earlier) (old-earlier k here) chain.1 in
      let smaller : (other : ℕ) → earlier_at trail k ≡ Some other → other < k =
      before-smaller nodes trail k (node_at trail k) (earlier_at trail k) (is k here) in (
        chain.0 ∙ old-node k here,
        old-chain (earlier_at trail k) earlier (λ other same. omega (arith, smaller other same, here)) rest,
      )

  -- an old entry leads on as before
  old-leads : (number : ℕ) (before : Option ℕ) (node : ℕ) → number ≤ length trail
      → LeadsOn nodes trail number before node → LeadsOn nodes Longer number before node
  old-leads number None node few leads = leads
  old-leads number (Some k) node few leads = (
    leads.0,
    subst (λ (n : ℕ). IsSuccessor (graph_step nodes) n node) (sym (old-node k (omega (arith, few, leads.0)))) leads.1,
  )

  -- with an entry that is led to there is still a trail
  pub trail_more : LeadsOn nodes trail (length trail) entry.earlier entry.node → IsTrail nodes Longer
  trail_more leads number inside = elim (cases_lt number (length trail)) [
    | inl below ↦
        subst (λ (o : Option ℕ). LeadsOn nodes Longer number o (node_at Longer number)) (sym (old-earlier number below))
        (subst (LeadsOn nodes Longer number (earlier_at trail number)) (sym (old-node number below))
        (old-leads number (earlier_at trail number) (node_at trail number) (omega (arith, below)) (is number below)))
    | inr above ↦
        let here : number ≡ length trail = omega (arith, above, inside, length_push trail entry) in
        let read : slice_get Longer number ≡ Some entry = ap (slice_get Longer) here ∙ get-last trail entry in
        subst (λ (o : Option ℕ). LeadsOn nodes Longer number o (node_at Longer number)) (sym (ap earlier_of read))
        (subst (LeadsOn nodes Longer number entry.earlier) (sym (ap node_of read))
        (old-leads number entry.earlier entry.node (omega (arith, here))
        (subst (λ (k : ℕ). LeadsOn nodes trail k entry.earlier entry.node) (sym here) leads)))
  ]

  module _ {D : Type 0} (F : Framework D) where
    -- what led to something leads to it still
    pub old-leads-to : (n : ℕ) (x : D) (number : ℕ) → LeadsTo F trail n x number → LeadsTo F Longer n x number
    old-leads-to n x number leads = record {
      inside = omega (arith, leads.inside, length_push trail entry);
      node = old-node number leads.inside ∙ leads.node;
      moved = λ members chain. leads.moved members (old-chain (Some number) members
          (λ k same. subst (λ (i : ℕ). i < length trail) (same_Some number k same) leads.inside) chain);
    }

    -- and the new entry leads to what is moved along its node and a chain of what stands before it
    pub new-leads-to : (x : D) → LeadsOn nodes trail (length trail) entry.earlier entry.node
        → ((members : List ℕ) → IsChain trail entry.earlier members → along F (entry.node ∷ members) ≡ x)
        → LeadsTo F Longer entry.node x (length trail)
    new-leads-to x leads moves =
        let read : slice_get Longer (length trail) ≡ Some entry = get-last trail entry in
        record {
          inside = omega (arith, length_push trail entry);
          node = ap node_of read;
          moved = new-moved read;
        }
      where
        new-moved : slice_get Longer (length trail) ≡ Some entry → (members : List ℕ)
            → IsChain Longer (Some (length trail)) members → along F members ≡ x
        new-moved read [] chain = absurd chain
        new-moved read (node ∷ members) chain =
            let rest : IsChain Longer entry.earlier members =
            subst (λ (o : Option ℕ). IsChain Longer o members) (ap earlier_of read) chain.1 in
            let old : IsChain trail entry.earlier members = old-chain entry.earlier members
            (before-smaller nodes trail (length trail) entry.node entry.earlier leads) rest in
            ap (λ (n : ℕ). along F (n ∷ members)) (chain.0 ∙ ap node_of read) ∙ moves members old

module _ {D : Type 0} (F : Framework D) where
  -- with no member before it, the start
  pub start-moved : (trail : List TrailEntry) (node : ℕ) (x : D) → x ≡ F.start → (members : List ℕ)
      → IsChain trail None members → along F (node ∷ members) ≡ x
  start-moved trail node x is [] chain = sym is
  start-moved trail node x is (m ∷ members) chain = absurd chain

  -- after an entry that leads to y, what its node makes of y
  pub transfer-moved : (trail : List TrailEntry) (node from number : ℕ) (y x : D) → LeadsTo F trail from y number
      → x ≡ F.transfer from y → (members : List ℕ) → IsChain trail (Some number) members
      → along F (node ∷ members) ≡ x
  transfer-moved trail node from number y x leads is [] chain = absurd chain
  transfer-moved trail node from number y x leads is (m ∷ members) chain =
      ap (λ (n : ℕ). F.transfer n (along F (m ∷ members))) (chain.0 ∙ leads.node)
      ∙ (ap (F.transfer from) (leads.moved (m ∷ members) chain) ∙ sym is)

module _ {D : Type 0} (F : Framework D) (picks : (x y : D) → (F.join x y ≡ x) ⊎ (F.join x y ≡ y))
    (nodes : List Node) where
  -- a raise leaves what it brings
  raised-is : (held : Option D) (x : D) → Raises F held x → joined F held x ≡ x
  raised-is None x raises = refl
  raised-is (Some y) x raises = elim (picks y x) [ inl kept ↦ absurd (raises kept) | inr new ↦ new ]

  -- the entry may follow, and x is moved along the node and a chain of what stands before it
  record Continues (trail : List TrailEntry) (node : ℕ) (x : D) (before : Option ℕ) : Type 0 where
    leads : LeadsOn nodes trail (length trail) before node
    moves : (members : List ℕ) → IsChain trail before members → along F (node ∷ members) ≡ x

  -- what a change brings is moved along its node and what stands before its entry
  change_continues : (held : List (Option D)) (t : Retraced) (node : ℕ) (from : Option ℕ) (x : D)
      → IsLed F nodes held t → Brings F nodes held node from x
      → Continues t.entries node x (entry_before t.last from)
  change_continues held t node None x led brings =
      record { leads = brings.0; moves = start-moved F t.entries node x brings.1 }
  change_continues held t node (Some from) x led brings =
      let y : D = brings.1.0 in
      let found = led.found from y brings.1.1 in
      let number : ℕ = found.0 in
      let leads : LeadsTo F t.entries from y number = found.2 in
      let edge : IsSuccessor (graph_step nodes) (node_at t.entries number) node =
      subst (λ (n : ℕ). IsSuccessor (graph_step nodes) n node) (sym leads.node) brings.0 in
      subst (Continues t.entries node x) (sym found.1) (record {
        leads = (leads.inside, edge);
        moves = transfer-moved F t.entries node from number y x leads brings.1.2;
      })

  -- a change leaves all led to
  change_led : (before : List (Option D)) (change : Change) (after : List (Option D)) (t : Retraced)
      → IsLed F nodes before t → IsStep F nodes before change after → IsLed F nodes after (with_change t change)
  change_led before change after t led step =
      let x : D = step.brought in
      let to : ℕ = change.node in
      let top : Option D = Some (joined F (value_at before to) x) in
      let number : Option ℕ = Some (length t.entries) in
      let entry : TrailEntry = entry_of t.last change in
      let on : Continues t.entries to x (entry_before t.last change.from) =
      change_continues before t to change.from x led step.brings in
      let here : to < length t.last = omega (arith, step.inside, led.one_each) in
      record {
        one_each = length-set t.last to number
            ∙ (led.one_each ∙ sym (ap length step.leaves ∙ length-set before to top));
        trail = trail_more nodes t.entries entry led.trail on.leads;
        found = λ n y is. elim (cases_eq n to) [
          | inl same ↦
              let now : value_at after to ≡ Some y = subst (λ (k : ℕ). value_at after k ≡ Some y) same is in
              let left : value_at after to ≡ top =
              ap (λ (l : List (Option D)). value_at l to) step.leaves
              ∙ get_or-set_same before to top None step.inside in
              let y_is : x ≡ y =
              sym (raised-is (value_at before to) x step.raises)
              ∙ same_Some (joined F (value_at before to) x) y (sym left ∙ now) in
              let leads : LeadsTo F (t.entries ++ entry ∷ []) to x (length t.entries) =
              new-leads-to nodes t.entries entry led.trail F x on.leads on.moves in (
                length t.entries,
                ap (last_at (set t.last to number)) same ∙ get_or-set_same t.last to number None here,
                subst (λ (k : ℕ). LeadsTo F (t.entries ++ entry ∷ []) k y (length t.entries)) (sym same)
                    (subst (λ (v : D). LeadsTo F (t.entries ++ entry ∷ []) to v (length t.entries)) y_is leads),
              )
          | inr other ↦
              let was : value_at before n ≡ Some y =
              sym (ap (λ (l : List (Option D)). value_at l n) step.leaves ∙ get_or-set_other before to n top None other)
              ∙ is in
              let found = led.found n y was in (
                found.0,
                get_or-set_other t.last to n number None other ∙ found.1,
                old-leads-to nodes t.entries entry led.trail F n y found.0 found.2,
              )
        ];
      }

  -- and so do all changes
  changes_led : (before : List (Option D)) (changes : List Change) (after : List (Option D)) (t : Retraced)
      → IsLed F nodes before t → Replays F nodes before changes after → IsLed F nodes after (with_changes t changes)
  changes_led before [] after t led replay = subst (λ (held : List (Option D)). IsLed F nodes held t) (sym replay) led
  changes_led before (change ∷ changes) after t led replay =
      changes_led replay.0 changes after (with_change t change) (change_led before change replay.0 t led replay.1)
      replay.2

  -- with no change there is nothing to lead to
  none_led : IsLed F nodes (nothing nodes) (no_entries (length nodes))
  none_led = record {
    one_each = length-replicate (length nodes) no_number ∙ sym (length-replicate (length nodes) no_data);
    trail = λ number inside. absurd (omega (arith, inside));
    found = λ n x is. absurd (nothing_at nodes n x is);
  }
    where
      no_number : Option ℕ
      no_number = None

      no_data : Option D
      no_data = None

  -- what a replay leads to is led to by the trail of its changes
  pub replay_led : (changes : List Change) (after : List (Option D)) → Replays F nodes (nothing nodes) changes after
      → IsLed F nodes after (with_changes (no_entries (length nodes)) changes)
  replay_led changes after replay =
      changes_led (nothing nodes) changes after (no_entries (length nodes)) none_led replay

-- each change of a replay is at one of the nodes
changes-inside : {D : Type 0} (F : Framework D) (nodes : List Node) (before : List (Option D)) (changes : List Change)
    (after : List (Option D)) → length before ≡ length nodes → Replays F nodes before changes after
    → All (λ change. change.node < length nodes) changes
changes-inside F nodes before [] after long replay k default inside = absurd (omega (arith, inside))
changes-inside F nodes before (change ∷ changes) after long replay zero default inside =
    omega (arith, replay.1.inside, long)
changes-inside F nodes before (change ∷ changes) after long replay (suc k) default inside =
    changes-inside F nodes replay.0 changes after
    (ap length replay.1.leaves
    ∙ (length-set before change.node (Some (joined F (value_at before change.node) replay.1.brought)) ∙ long))
    replay.2 k default (omega (arith, inside))

pub replay_inside : {D : Type 0} (F : Framework D) (nodes : List Node) (changes : List Change)
    (after : List (Option D)) → Replays F nodes (nothing nodes) changes after
    → All (λ change. change.node < length nodes) changes
replay_inside {D} F nodes changes after replay =
    changes-inside F nodes (nothing nodes) changes after (length-replicate (length nodes) no_data) replay
  where
    no_data : Option D
    no_data = None
