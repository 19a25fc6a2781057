-- A path that is followed, at one of its members.
use Rattle.std.proofs.Common.{◌≡◌, ℕ, zero, suc, ◌+◌, ◌<◌, ◌≤◌, List, [], ◌∷◌, ◌++◌, length, take, drop, Option, Some, None, refl, ap, sym, ◌∙◌, subst, arith, append_assoc, length-take-le, length-append}
use Rattle.std.specs.Prelude.{slice_get, Result}
use Rattle.std.proofs.Math.Seq.{take-add}
use Rattle.std.proofs.lemmas.List.{take_all, drop_at, length-drop, nil_from_length}
use Rattle.std.proofs.lemmas.Option.{some_pair_parts, none-some}
use Rattle.transition_spec.specs.Path.{IsPath, IsSuccessor, IsLetter, HasChoices}
use Rattle.path_model.specs.declared.graph.Node.{Node}
use Rattle.path_model.specs.Graph.{IsGraph, successors, graph_step}
use Rattle.path_model.specs.Follow.{IsFollowed, next_to}
use Rattle.path_model.proofs.Edges.{LeadsTo, node-from_successor, successor-from_node, fit_at}
use Rattle.path_model.proofs.Moves.{IsPath-suffix}
use Rattle.path_model.proofs.Choices.{choices-unique, choices-prefix, next_by-right, next_by-only}

-- the members so far, the last of them first; each path of these steps and choices goes on from them
pub record IsWalked (nodes : List Node) (steps : ℕ) (choices members : List ℕ) (last used : ℕ) : Type 0 where
  pub earlier : List ℕ
  pub ends : members ≡ last ∷ earlier
  pub path : IsPath (graph_step nodes) 0 (last ∷ earlier)
  pub takes : HasChoices (graph_step nodes) (last ∷ earlier) (take used choices)
  pub within : used ≤ length choices
  pub short : length members ≤ steps
  pub only : (other : List ℕ) → IsFollowed nodes steps choices other
      → (later : List ℕ) × (other ≡ later ++ last ∷ earlier)

-- a path begins at its start
path_begins : (nodes : List Node) (path : List ℕ) → IsPath (graph_step nodes) 0 path
    → (later : List ℕ) × (path ≡ later ++ 0 ∷ [])
path_begins nodes [] path = absurd path
path_begins nodes (c ∷ []) path = ([], ap (λ x. x ∷ []) path)
path_begins nodes (d ∷ c ∷ earlier) path =
    let rest = path_begins nodes (c ∷ earlier) path.1 in
    (d ∷ rest.0, ap (λ xs. d ∷ xs) rest.1)

-- the walk begins at node 0
pub walked_none : (nodes : List Node) (steps : ℕ) (choices members : List ℕ) → 1 ≤ steps → members ≡ 0 ∷ []
    → IsWalked nodes steps choices members 0 0
walked_none nodes steps choices members some begun = record {
  earlier = [];
  ends = begun;
  path = refl;
  takes = refl;
  within = omega arith;
  short = omega (arith, ap length begun);
  only = λ other followed. path_begins nodes other followed.path;
}

-- an element is the first of the rest from it on
slice_get-drop : (n : ℕ) (xs : List ℕ) → slice_get xs n ≡ slice_get (drop n xs) 0
slice_get-drop zero xs = refl
slice_get-drop (suc n) [] = refl
slice_get-drop (suc n) (x ∷ xs) = slice_get-drop n xs

-- the first of the later members, which are listed last first
last_of : (later : List ℕ) → 1 ≤ length later → (prefix : List ℕ) × (d : ℕ) × (later ≡ prefix ++ d ∷ [])
last_of [] some = absurd (omega arith)
last_of (d ∷ []) some = ([], d, refl)
last_of (e ∷ d ∷ later) some =
    let rest = last_of (d ∷ later) (omega arith) in
    (e ∷ rest.0, rest.1, ap (λ xs. e ∷ xs) rest.2)

-- a move with this letter is the one of the code
pub move-only : (nodes : List Node) (last d : ℕ) (letter rest : List ℕ) → IsGraph nodes
    → IsSuccessor (graph_step nodes) last d
    → IsLetter (graph_step nodes last) d letter
    → next_to (slice_get nodes last) (slice_get (letter ++ rest) 0) ≡ Some (d, length letter)
move-only nodes last d letter rest graph leads is =
    let named = node-from_successor nodes last d leads in
    let fit = fit_at nodes (length nodes) last named.0 graph.fit named.1 in
    let is_by = subst (λ (o : Option Node). IsLetter (successors o) d letter) named.1 is in
    ap (λ o. next_to o (slice_get (letter ++ rest) 0)) named.1
    ∙ next_by-only (length nodes) named.0.first named.0.second d letter rest fit named.2 is_by

-- the choice at the place up to which choices are taken
choice_at : (choices before letter rest : List ℕ) (used : ℕ) → used ≤ length choices → before ≡ take used choices
    → choices ≡ before ++ letter ++ rest
    → slice_get choices used ≡ slice_get (letter ++ rest) 0
choice_at choices before letter rest used within same all =
    let long : length before ≡ used = ap length same ∙ length-take-le used choices within in
    let left : drop used choices ≡ letter ++ rest =
    ap (drop used) (all ∙ append_assoc before letter rest) ∙ drop_at before (letter ++ rest) used long in
    slice_get-drop used choices ∙ ap (λ xs. slice_get xs 0) left

-- the move from a member of a path leads to the next one
move_on : (nodes : List Node) (choices prefix earlier : List ℕ) (last used d : ℕ) → IsGraph nodes
    → IsPath (graph_step nodes) 0 (prefix ++ d ∷ last ∷ earlier)
    → HasChoices (graph_step nodes) (prefix ++ d ∷ last ∷ earlier) choices
    → HasChoices (graph_step nodes) (last ∷ earlier) (take used choices) → used ≤ length choices
    → (letter : List ℕ) × (next_to (slice_get nodes last) (slice_get choices used) ≡ Some (d, length letter))
move_on nodes choices prefix earlier last used d graph path takes so_far within =
    let leads = (IsPath-suffix (graph_step nodes) 0 d prefix (last ∷ earlier) path).0 in
    let has = choices-prefix nodes d prefix (last ∷ earlier) choices takes in
    let same = choices-unique nodes (last ∷ earlier) has.2.0 (take used choices) graph has.2.2 so_far in
    let choice = choice_at choices has.2.0 has.2.1 has.1 used within same (has.3 ∙ ap (λ xs. xs ++ has.1) has.2.4) in (
      has.2.1,
      ap (λ o. next_to (slice_get nodes last) o) choice ∙ move-only nodes last d has.2.1 has.1 graph leads
          has.2.3,
    )

-- a path that goes on from the members has one more of them
one_more : (other later tail : List ℕ) → other ≡ later ++ tail → length tail < length other
    → (prefix : List ℕ) × (d : ℕ) × (other ≡ prefix ++ d ∷ tail)
one_more other later tail on more =
    let first = last_of later (omega (arith, ap length on, length-append later tail)) in
    (first.0, first.1, on ∙ ap (λ xs. xs ++ tail) first.2 ∙ append_assoc first.0 (first.1 ∷ []) tail)

-- the next member of a path of these steps and choices is the one of the move
pub next-only : (nodes : List Node) (steps : ℕ) (choices members : List ℕ) (last used : ℕ) (other : List ℕ)
    → IsGraph nodes
    → IsWalked nodes steps choices members last used → length members < steps → IsFollowed nodes steps choices other
    → (prefix : List ℕ) × (d : ℕ) × (letter : List ℕ) × (other ≡ prefix ++ d ∷ members)
    × (next_to (slice_get nodes last) (slice_get choices used) ≡ Some (d, length letter))
next-only nodes steps choices members last used other graph walked more followed =
    let tail : List ℕ = last ∷ walked.earlier in
    let on = walked.only other followed in
    let next = one_more other on.0 tail on.1 (omega (arith, followed.as_long, ap length walked.ends)) in
    let move = move_on nodes choices next.0 walked.earlier last used next.1 graph
    (subst (λ (xs : List ℕ). IsPath (graph_step nodes) 0 xs) next.2 followed.path)
    (subst (λ (xs : List ℕ). HasChoices (graph_step nodes) xs choices) next.2 followed.takes)
    walked.takes walked.within in
    (next.0, next.1, move.0, next.2 ∙ ap (λ xs. next.0 ++ next.1 ∷ xs) (sym walked.ends), move.1)

-- what a move of the code is
move-right : (o : Option Node) (rest : List ℕ) (to k : ℕ) → next_to o (slice_get rest 0) ≡ Some (to, k)
    → (node : Node) × (o ≡ Some node) × LeadsTo node to × IsLetter (successors o) to (take k rest) × (k ≤ length rest)
move-right None rest to k is = absurd (cc)
move-right (Some node) rest to k is =
    let by = next_by-right node.first node.second rest to k is in
    (node, refl, by.0, by.1, by.2)

-- one member further
pub walked_more : (nodes : List Node) (steps : ℕ) (choices members : List ℕ) (last used to k : ℕ) → IsGraph nodes
    → IsWalked nodes steps choices members last used → length members < steps
    → next_to (slice_get nodes last) (slice_get choices used) ≡ Some (to, k)
    → IsWalked nodes steps choices (to ∷ members) to (used + k)
walked_more nodes steps choices members last used to k graph walked more next =
    let rest : List ℕ = drop used choices in
    let move = move-right (slice_get nodes last) rest to k
    (ap (λ o. next_to (slice_get nodes last) o) (sym (slice_get-drop used choices)) ∙ next) in
    record {
      earlier = last ∷ walked.earlier;
      ends = ap (λ xs. to ∷ xs) walked.ends;
      path = (successor-from_node nodes last to move.0 move.1 move.2, walked.path);
      takes = (take used choices, take k rest, walked.takes, move.3, take-add used k choices);
      within = omega (arith, move.4, walked.within, length-drop used choices);
      short = omega (arith, more);
      only = λ other followed.
          let on = next-only nodes steps choices members last used other graph walked more followed in
          let same : on.1 ≡ to = (some_pair_parts on.1 to (length on.2) k (sym on.4 ∙ next)).0 in
          (on.0, on.3 ∙ ap (λ x. on.0 ++ x ∷ members) same ∙ ap (λ xs. on.0 ++ to ∷ xs) walked.ends);
    }

-- where there is no move, there is no path of these steps and choices
pub stuck : (nodes : List Node) (steps : ℕ) (choices members : List ℕ) (last used : ℕ) → IsGraph nodes
    → IsWalked nodes steps choices members last used → length members < steps
    → next_to (slice_get nodes last) (slice_get choices used) ≡ None
    → (other : List ℕ) → IsFollowed nodes steps choices other → ⊥
stuck nodes steps choices members last used graph walked more next other followed =
    let on = next-only nodes steps choices members last used other graph walked more followed in
    none-some (on.1, length on.2) (sym next ∙ on.4)

-- with all steps done and all choices taken, the members are the path
pub walked_all : (nodes : List Node) (steps : ℕ) (choices members : List ℕ) (last used : ℕ)
    → IsWalked nodes steps choices members last used → steps ≤ length members → length choices ≤ used
    → IsFollowed nodes steps choices members
walked_all nodes steps choices members last used walked done taken =
    let step : ℕ → Result (List ℕ) (Unit {0}) = graph_step nodes in
    record {
      path = subst (λ (xs : List ℕ). IsPath step 0 xs) (sym walked.ends) walked.path;
      as_long = omega (arith, walked.short, done);
      takes = subst (λ (xs : List ℕ). HasChoices step xs choices) (sym walked.ends)
          (subst (λ (cs : List ℕ). HasChoices step (last ∷ walked.earlier) cs) (take_all used choices taken)
          walked.takes);
    }

-- with all steps done and choices left over, there is no path of these steps and choices
pub left_over : (nodes : List Node) (steps : ℕ) (choices members : List ℕ) (last used : ℕ) → IsGraph nodes
    → IsWalked nodes steps choices members last used → steps ≤ length members → used < length choices
    → (other : List ℕ) → IsFollowed nodes steps choices other → ⊥
left_over nodes steps choices members last used graph walked done left other followed =
    let step : ℕ → Result (List ℕ) (Unit {0}) = graph_step nodes in
    let tail : List ℕ = last ∷ walked.earlier in
    let on = walked.only other followed in
    let none : on.0 ≡ [] = nil_from_length on.0 (omega (
      arith,
      followed.as_long,
      ap length on.1,
      length-append on.0 tail,
      ap length walked.ends,
    )) in
    let same : other ≡ tail = on.1 ∙ ap (λ xs. xs ++ tail) none in
    let takes = subst (λ (xs : List ℕ). HasChoices step xs choices) same followed.takes in
    let cut : choices ≡ take used choices =
    choices-unique nodes tail choices (take used choices) graph takes walked.takes in
    absurd (omega (arith, ap length cut, length-take-le used choices walked.within))
