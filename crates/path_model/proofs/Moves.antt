-- The moves of a path, and their letters.
use Rattle.std.proofs.Common.{◌≡◌, ℕ, ◌+◌, ◌-◌, ◌<◌, ◌≤◌, ◌⊎◌, List, [], ◌∷◌, ◌++◌, length, take, drop, reverse, Option, Some, None, refl, ap, sym, ◌∙◌, subst, arith}
use Rattle.std.specs.Prelude.{slice_get, Result, Ok}
use Rattle.std.specs.Option.{option_to_list}
use Rattle.std.proofs.Math.ListN.{get_or}
use Rattle.std.proofs.lemmas.Bool.Decides.{nat_tests}
use Rattle.std.proofs.lemmas.Grind.{common_steps}
use Rattle.transition_spec.specs.Path.{IsPath, IsSuccessor, IsLetter, HasChoices}
use Rattle.path_model.specs.declared.graph.Node.{Node}
use Rattle.path_model.specs.Graph.{successors, graph_step}
use Rattle.path_model.specs.Letters.{letter_by, letter_to}
use Rattle.path_model.proofs.Edges.{LeadsTo, node-from_successor}
use Rattle.path_model.proofs.Turned.{reverse-more, reverse-split}

-- the later members taken off, it is still a path
pub IsPath-suffix : (step : ℕ → Result (List ℕ) (Unit {0})) (start c : ℕ) (later earlier : List ℕ)
    → IsPath step start (later ++ c ∷ earlier) → IsPath step start (c ∷ earlier)
IsPath-suffix step start c [] earlier path = path
IsPath-suffix step start c (d ∷ []) earlier path = path.1
IsPath-suffix step start c (e ∷ d ∷ later) earlier path = IsPath-suffix step start c (d ∷ later) earlier path.1

-- the letter of a move by two successors
letter_by-right : (first second : Option ℕ) (d : ℕ) → (first ≡ Some d) ⊎ (second ≡ Some d)
    → IsLetter {C = ℕ} {F = Unit {0}} (Ok (option_to_list first ++ option_to_list second)) d (letter_by first second d)
letter_by-right None None d leads = refl
letter_by-right None (Some second) d leads = refl
letter_by-right (Some first) None d leads = refl
letter_by-right (Some first) (Some second) d leads = grind (arith, nat_tests, common_steps)

-- the letter of a move from a node
letter_at : (o : Option Node) (d : ℕ) (node : Node) → o ≡ Some node → LeadsTo node d
    → IsLetter (successors o) d (letter_to o d)
letter_at None d node found leads = absurd (cc)
letter_at (Some other) d node found leads =
    letter_by-right other.first other.second d (let same : other ≡ node = cc in subst (λ (node : Node). LeadsTo node d)
    (sym same) leads)

-- the letter of a move to a successor
pub letter_to-right : (nodes : List Node) (n d : ℕ) → IsSuccessor (graph_step nodes) n d
    → IsLetter (graph_step nodes n) d (letter_to (slice_get nodes n) d)
letter_to-right nodes n d leads =
    let named = node-from_successor nodes n d leads in
    letter_at (slice_get nodes n) d named.0 named.1 named.2

-- one member further, with the letter of the move to it
choices_further : (nodes : List Node) (path letters more : List ℕ) (i x : ℕ) → i + 1 < length path
    → IsPath (graph_step nodes) 0 (reverse path)
    → HasChoices (graph_step nodes) (reverse (take (i + 1) path)) letters
    → more ≡ letters ++ letter_to (slice_get nodes (get_or path i x)) (get_or path (i + 1) x)
    → HasChoices (graph_step nodes) (reverse (take (i + 1 + 1) path)) more
choices_further nodes path letters more i x below path_is were more_is =
    let step : ℕ → Result (List ℕ) (Unit {0}) = graph_step nodes in
    let a : ℕ = get_or path i x in
    let b : ℕ = get_or path (i + 1) x in
    let earlier : List ℕ = reverse (take i path) in
    let one : reverse (take (i + 1) path) ≡ a ∷ earlier = reverse-more path i x (omega arith) in
    let two : reverse (take (i + 1 + 1) path) ≡ b ∷ a ∷ earlier =
    reverse-more path (i + 1) x below ∙ ap (λ xs. b ∷ xs) one in
    let whole : reverse path ≡ reverse (drop (i + 1 + 1) path) ++ b ∷ a ∷ earlier =
    reverse-split path (i + 1 + 1) ∙ ap (λ xs. reverse (drop (i + 1 + 1) path) ++ xs) two in
    let ends = IsPath-suffix step 0 b (reverse (drop (i + 1 + 1) path)) (a ∷ earlier)
    (subst (λ (xs : List ℕ). IsPath step 0 xs) whole path_is) in
    subst (λ (xs : List ℕ). HasChoices step xs more) (sym two) (
      letters,
      letter_to (slice_get nodes a) b,
      subst (λ (xs : List ℕ). HasChoices step xs letters) one were,
      letter_to-right nodes a b ends.0,
      more_is,
    )

-- the same, from the place of the further member
pub choices_more : (nodes : List Node) (path letters more : List ℕ) (i x : ℕ) → 1 ≤ i → i < length path
    → IsPath (graph_step nodes) 0 (reverse path)
    → HasChoices (graph_step nodes) (reverse (take i path)) letters
    → more ≡ letters ++ letter_to (slice_get nodes (get_or path (i - 1) x)) (get_or path i x)
    → HasChoices (graph_step nodes) (reverse (take (i + 1) path)) more
choices_more nodes path letters more i x some below path_is were more_is =
    let k : ℕ = i - 1 in
    let same : i ≡ k + 1 = omega arith in
    let P : ℕ → Type 0 = λ i. i < length path → HasChoices (graph_step nodes) (reverse (take i path)) letters
    → more ≡ letters ++ letter_to (slice_get nodes (get_or path k x)) (get_or path i x)
    → HasChoices (graph_step nodes) (reverse (take (i + 1) path)) more in
    subst P (sym same) (λ below were more_is. choices_further nodes path letters more k x below path_is were more_is)
    below were more_is

-- a path of at most one member has no choices
pub choices_none : (nodes : List Node) (path letters : List ℕ) → letters ≡ []
    → HasChoices (graph_step nodes) (reverse (take 1 path)) letters
choices_none nodes [] letters none = none
choices_none nodes (first ∷ path) letters none = none
