-- The bounds of a block along the first paths, one node after another.
use Rattle.std.proofs.Common.{◌≡◌, ℕ, ◌+◌, ◌<◌, List, [], ◌∷◌, ◌++◌, length, Option, Some, None, refl, sym, ap, ◌∙◌, subst, inl, inr, arith}
use Rattle.std.specs.Prelude.{IfSome}
use Rattle.std.proofs.lemmas.Bool.{cases_lt}
use Rattle.std.proofs.lemmas.List.{get_or_append_left, get_or_push, length_push}
use Rattle.path_model.specs.declared.graph.Node.{Node}
use Rattle.path_trail.specs.Trail.{TrailEntry, node_at, earlier_at, IsChain, LeadsOn}
use Rattle.lattice_fix.specs.Framework.{Framework}
use Rattle.lattice_fix.specs.Along.{along}
use Rattle.age_spec.specs.Ages.{age_at}
use Rattle.age_exists.specs.Led.{LeadsTo}
use Rattle.age_exists.specs.Firsts.{AreFirsts}
use Rattle.age_exists.specs.FirstBounds.{AreFirstBounds, moved_from}
use Rattle.age_exists.proofs.Led.{start-moved, transfer-moved}

module _ (F : Framework ℕ) (nodes : List Node) (firsts : List TrailEntry) (are : AreFirsts nodes firsts) where
  -- the entry before that of a node is one of the earlier ones
  pub earlier_inside : (n : ℕ) → n < length firsts → IfSome (earlier_at firsts n) (λ earlier. earlier < n)
  earlier_inside n inside = smaller (earlier_at firsts n) (are.trail n inside)
    where
      smaller : (before : Option ℕ) → LeadsOn nodes firsts n before (node_at firsts n)
          → IfSome before (λ earlier. earlier < n)
      smaller None leads = tt
      smaller (Some k) leads = leads.0

  module _ (n : ℕ) (inside : n < length firsts) (bounds : List ℕ) (so_far : AreFirstBounds F firsts n bounds) where
    -- along what stands before a node and then the node its bound is moved
    moved-on : (before : Option ℕ) → IfSome before (λ earlier. earlier < n) → (members : List ℕ)
        → IsChain firsts before members → along F (n ∷ members) ≡ moved_from F bounds before
    moved-on None smaller = start-moved F firsts n F.start refl
    moved-on (Some k) smaller = transfer-moved F firsts n k k (age_at bounds k) (F.transfer k (age_at bounds k))
        (so_far.led k smaller) refl

    -- so its entry leads to that bound
    leads-there : LeadsTo F firsts n (moved_from F bounds (earlier_at firsts n)) n
    leads-there = record { inside = inside; node = own; moved = moved }
      where
        own : node_at firsts n ≡ n
        own = are.own n (omega (arith, inside, are.one_each))

        moved : (members : List ℕ) → IsChain firsts (Some n) members
            → along F members ≡ moved_from F bounds (earlier_at firsts n)
        moved [] chain = absurd chain
        moved (node ∷ members) chain =
            ap (λ (k : ℕ). along F (k ∷ members)) (chain.0 ∙ own)
            ∙ moved-on (earlier_at firsts n) (earlier_inside n inside) members chain.1

    -- with which there are the bounds of one node more
    pub bounds_more : AreFirstBounds F firsts (n + 1) (bounds ++ moved_from F bounds (earlier_at firsts n) ∷ [])
    bounds_more =
        let x : ℕ = moved_from F bounds (earlier_at firsts n) in
        record {
          one_each = omega (arith, length_push bounds x, so_far.one_each);
          led = λ k below. elim (cases_lt k n) [
            | inl old ↦
                let stays : age_at (bounds ++ x ∷ []) k ≡ age_at bounds k =
                get_or_append_left bounds (x ∷ []) 0 k (omega (arith, old, so_far.one_each)) in
                subst (λ (y : ℕ). LeadsTo F firsts k y k) (sym stays) (so_far.led k old)
            | inr past ↦
                let here : k ≡ n = omega (arith, past, below) in
                let new : age_at (bounds ++ x ∷ []) k ≡ x = get_or_push bounds x 0 k (so_far.one_each ∙ sym here) in
                subst (λ (y : ℕ). LeadsTo F firsts k y k) (sym new)
                (subst (λ (m : ℕ). LeadsTo F firsts m x m) (sym here) leads-there)
          ];
        }
