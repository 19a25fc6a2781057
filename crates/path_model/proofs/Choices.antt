-- The choices of a path: there is one list of them, and they tell each move.
use Rattle.std.proofs.Common.{◌≡◌, ℕ, ◌≤◌, ◌⊎◌, inl, inr, ⊎_elim, List, [], ◌∷◌, ◌++◌, length, take, Option, Some, None, refl, ap, sym, ◌∙◌, subst, arith, IsTrue, codes, append_assoc, ◌==◌, if◌then◌else◌, eq-eqb}
use Rattle.std.specs.Prelude.{slice_get, Ok}
use Rattle.std.specs.Option.{option_to_list}
use Rattle.std.proofs.lemmas.Bool.{cases_eq, ne_eqb}
use Rattle.std.proofs.lemmas.Option.{some_pair_parts, none-some}
use Rattle.std.proofs.lemmas.Bool.Decides.{nat_tests}
use Rattle.std.proofs.lemmas.Grind.{common_steps}
use Rattle.transition_spec.specs.Path.{IsLetter, HasChoices}
use Rattle.path_model.specs.declared.graph.Node.{Node}
use Rattle.path_model.specs.Graph.{IsGraph, successors, graph_step, are_fit, is_fit}
use Rattle.path_model.specs.Follow.{next_by}
use Rattle.path_model.proofs.Edges.{fit_at}

-- the letter of a move by two successors
abbrev pub IsLetterBy : Option ℕ → Option ℕ → ℕ → List ℕ → Type 0
IsLetterBy first second d letter = IsLetter {C = ℕ} {F = Unit {0}} (Ok (option_to_list first ++ option_to_list second))
    d letter

-- two fit successors differ
two_apart : (count first second : ℕ) → IsTrue (are_fit count (Some first) (Some second)) → first ≡ second → ⊥
two_apart count first second fit same = grind (arith, nat_tests)

-- a move by two fit successors has one letter
letter_by-unique : (count : ℕ) (first second : Option ℕ) (d : ℕ) (a b : List ℕ) → IsTrue (are_fit count first second)
    → IsLetterBy first second d a → IsLetterBy first second d b → a ≡ b
letter_by-unique count None None d a b fit one two = one ∙ sym two
letter_by-unique count None (Some second) d a b fit one two = one ∙ sym two
letter_by-unique count (Some first) None d a b fit one two = one ∙ sym two
letter_by-unique count (Some first) (Some second) d a b fit one two = ⊎_elim
    (λ (n : (d ≡ first) × (a ≡ codes "n")). ⊎_elim
    (λ (m : (d ≡ first) × (b ≡ codes "n")). n.1 ∙ sym m.1)
    (λ (m : (d ≡ second) × (b ≡ codes "t")). absurd (two_apart count first second fit (sym n.0 ∙ m.0)))
    two)
    (λ (n : (d ≡ second) × (a ≡ codes "t")). ⊎_elim
    (λ (m : (d ≡ first) × (b ≡ codes "n")). absurd (two_apart count first second fit (sym m.0 ∙ n.0)))
    (λ (m : (d ≡ second) × (b ≡ codes "t")). n.1 ∙ sym m.1)
    two)
    one

-- a move from a fit node has one letter
letter-unique : (count : ℕ) (o : Option Node) (d : ℕ) (a b : List ℕ)
    → ((node : Node) → o ≡ Some node → IsTrue (is_fit count node))
    → IsLetter (successors o) d a → IsLetter (successors o) d b → a ≡ b
letter-unique count None d a b fit one two = one ∙ sym two
letter-unique count (Some node) d a b fit one two =
    letter_by-unique count node.first node.second d a b (fit node refl) one two

-- a path of a graph has one list of choices
pub choices-unique : (nodes : List Node) (path a b : List ℕ) → IsGraph nodes → HasChoices (graph_step nodes) path a
    → HasChoices (graph_step nodes) path b → a ≡ b
choices-unique nodes [] a b graph one two = one ∙ sym two
choices-unique nodes (c ∷ []) a b graph one two = one ∙ sym two
choices-unique nodes (d ∷ c ∷ earlier) a b graph one two =
    let before : one.0 ≡ two.0 = choices-unique nodes (c ∷ earlier) one.0 two.0 graph one.2 two.2 in
    let letter : one.1 ≡ two.1 = letter-unique (length nodes) (slice_get nodes c) d one.1 two.1
    (λ node found. fit_at nodes (length nodes) c node graph.fit found) one.3 two.3 in
    one.4 ∙ ap (λ xs. xs ++ one.1) before ∙ ap (λ xs. two.0 ++ xs) letter ∙ sym two.4

-- the choices up to an earlier member stand first
pub choices-prefix : (nodes : List Node) (c : ℕ) (later earlier choices : List ℕ)
    → HasChoices (graph_step nodes) (later ++ c ∷ earlier) choices
    → (before : List ℕ) × (rest : List ℕ) × HasChoices (graph_step nodes) (c ∷ earlier) before
    × (choices ≡ before ++ rest)
choices-prefix nodes c [] earlier choices has = (choices, [], has, grind (arith, common_steps))
choices-prefix nodes c (d ∷ []) earlier choices has = (has.0, has.1, has.2, has.4)
choices-prefix nodes c (e ∷ d ∷ later) earlier choices has =
    let rest = choices-prefix nodes c (d ∷ later) earlier has.0 has.2 in
    (rest.0, rest.1 ++ has.1, rest.2, has.4 ∙ ap (λ xs. xs ++ has.1) rest.3 ∙ append_assoc rest.0 rest.1 has.1)

-- a move by a letter
next_by_letter : (first second letter to k : ℕ) → next_by (Some first) (Some second) (Some letter) ≡ Some (to, k)
    → ((letter ≡ 110) × (first ≡ to) × (1 ≡ k)) ⊎ ((letter ≡ 116) × (second ≡ to) × (1 ≡ k))
next_by_letter first second letter to k is = ⊎_elim
    (λ (n : letter ≡ 110).
    let parts = some_pair_parts first to 1 k (ap (λ b. if b then Some (first, 1) else
    (if letter == 116 then Some (second, 1) else None)) (sym (eq-eqb letter 110 n)) ∙ is) in
    inl (n, parts.0, parts.1))
    (λ (other : letter ≡ 110 → ⊥).
    let rest : (if letter == 116 then Some (second, 1) else None) ≡ Some (to, k) =
    ap (λ b. if b then Some (first, 1) else (if letter == 116 then Some (second, 1) else None))
    (sym (ne_eqb letter 110 other)) ∙ is in
    ⊎_elim
    (λ (t : letter ≡ 116).
    let parts = some_pair_parts second to 1 k (ap (λ b. if b then Some (second, 1) else None)
    (sym (eq-eqb letter 116 t)) ∙ rest) in
    inr (t, parts.0, parts.1))
    (λ (no : letter ≡ 116 → ⊥).
    absurd (none-some (to, k) (ap (λ b. if b then Some (second, 1) else None) (sym (ne_eqb letter 116 no)) ∙ rest)))
    (cases_eq letter 116))
    (cases_eq letter 110)

-- what a move of the code is
pub next_by-right : (first second : Option ℕ) (rest : List ℕ) (to k : ℕ)
    → next_by first second (slice_get rest 0) ≡ Some (to, k)
    → ((first ≡ Some to) ⊎ (second ≡ Some to)) × IsLetterBy first second to (take k rest) × (k ≤ length rest)
next_by-right None second rest to k is = absurd (cc)
next_by-right (Some first) None rest to k is =
    let parts = some_pair_parts first to 0 k is in
    (inl (ap Some parts.0), ap (λ n. take n rest) (sym parts.1), omega (arith, parts.1))
next_by-right (Some first) (Some second) [] to k is = absurd (cc)
next_by-right (Some first) (Some second) (letter ∷ rest) to k is = ⊎_elim
    (λ (n : (letter ≡ 110) × (first ≡ to) × (1 ≡ k)). (
      inl (ap Some n.1),
      inl (sym n.1, ap (λ n. take n (letter ∷ rest)) (sym n.2) ∙ ap (λ x. x ∷ []) n.0),
      omega (arith, n.2),
    ))
    (λ (t : (letter ≡ 116) × (second ≡ to) × (1 ≡ k)). (
      inr (ap Some t.1),
      inr (sym t.1, ap (λ n. take n (letter ∷ rest)) (sym t.2) ∙ ap (λ x. x ∷ []) t.0),
      omega (arith, t.2),
    ))
    (next_by_letter first second letter to k is)

-- a path's move is the one of the code
pub next_by-only : (count : ℕ) (first second : Option ℕ) (d : ℕ) (letter rest : List ℕ)
    → IsTrue (are_fit count first second)
    → ((first ≡ Some d) ⊎ (second ≡ Some d)) → IsLetterBy first second d letter
    → next_by first second (slice_get (letter ++ rest) 0) ≡ Some (d, length letter)
next_by-only count None None d letter rest fit leads is =
    ⊎_elim (λ (e : None ≡ Some d). absurd (cc)) (λ (e : None ≡ Some d). absurd (cc)) leads
next_by-only count None (Some second) d letter rest fit leads is = absurd (cc)
next_by-only count (Some first) None d letter rest fit leads is =
    let same : first ≡ d = ⊎_elim (λ (e : Some first ≡ Some d). cc) (λ (e : None ≡ Some d). absurd (cc)) leads in
    ap (λ x. Some (x, 0)) same ∙ ap (λ xs. Some (d, length xs)) (sym is)
next_by-only count (Some first) (Some second) d letter rest fit leads is = ⊎_elim
    (λ (n : (d ≡ first) × (letter ≡ codes "n")).
    let P : List ℕ → Type 0 = λ xs. next_by (Some first) (Some second) (slice_get (xs ++ rest) 0)
    ≡ Some (d, length xs) in
    subst P (sym n.1) (ap (λ x. Some (x, 1)) (sym n.0)))
    (λ (n : (d ≡ second) × (letter ≡ codes "t")).
    let P : List ℕ → Type 0 = λ xs. next_by (Some first) (Some second) (slice_get (xs ++ rest) 0)
    ≡ Some (d, length xs) in
    subst P (sym n.1) (ap (λ x. Some (x, 1)) (sym n.0)))
    is
