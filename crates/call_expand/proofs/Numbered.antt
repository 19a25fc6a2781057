-- The numbers of points, as a map has them.
use Rattle.std.proofs.Common.{◌≡◌, ℕ, zero, suc, ◌+◌, ◌<◌, ◌≤◌, ◌⊎◌, inl, inr, ⊎_elim, Bool, true, false, List, [], ◌∷◌, ◌++◌, length, get_or, take, drop, Option, Some, None, refl, sym, ap, ◌∙◌, subst, arith, append_assoc, append-nil, length-append, ◌*◌}
use Rattle.std.specs.Prelude.{slice_get, Contains, MatchOption, flat_map}
use Rattle.std.specs.Option.{option_to_list}
use Rattle.std.proofs.lemmas.List.Concat.{flat_map-append}
use Rattle.std.specs.Ordering.{is_eq, nat_cmp, ordering_then}
use Rattle.std.specs.BTreeMap.{BTreeMap, get, Updates}
use Rattle.std.specs.declared.cmp.Ordering.{Ordering}
use Rattle.std.specs.declared.cmp.Ordering.TheVariants.{Less, Equal, Greater}
use Rattle.std.proofs.lemmas.Bool.{cases_lt}
use Rattle.std.proofs.lemmas.List.{get_or_append_left, get_or_push, length_push, drop_more, drop_all, take_more}
use Rattle.std.proofs.lemmas.Option.{slice_get_within, slice_get-get_or, get_or_from_slice_get, none-some}
use Rattle.path_model.specs.declared.graph.Node.{Node}
use Rattle.call_expand.specs.declared.point.Point.{Point}
use Rattle.call_expand.specs.declared.point.Edges.{Edges}
use Rattle.call_expand.specs.Point.{points_of}
use Rattle.call_expand.specs.Numbers.{Key, key_of, key_cmp, AreApart, AreNumbers, AreNew, IsAdded, IsNodeFor, AreNodesFor, AreAmong}
use Rattle.call_expand.proofs.Zipped.{all-prefix, all-back}
use Rattle.call_expand.proofs.Ordered.{point-fields, then_equal, nat_equal}

-- the numbers of keys
abbrev pub Numbers : Type 0
Numbers = BTreeMap Key ℕ

-- a listed point stands somewhere
pub stands : (points : List Point) (p : Point) → Contains points p → (n : ℕ) × (slice_get points n ≡ Some p)
stands points p has = (has.0, slice_get-get_or points has.0 p has.1 ∙ ap Some has.2)

-- a point that stands somewhere is listed
pub listed-at : (points : List Point) (n : ℕ) (p : Point) → slice_get points n ≡ Some p → Contains points p
listed-at points n p at = (n, slice_get_within points n p at, get_or_from_slice_get points n p p at)

-- what the map has of a point is its number, or it isn't listed
pub number-found : (points : List Point) (numbers : Numbers) → AreNumbers points numbers → (p : Point) (o : Option ℕ)
    → o ≡ get key_cmp numbers (key_of p)
    → MatchOption o (Contains points p → ⊥) (λ n. slice_get points n ≡ Some p)
number-found points numbers are p None is =
    λ has. let at = stands points p has in none-some at.0 (is ∙ are.found at.0 p at.1)
number-found points numbers are p (Some n) is = are.only n p (sym is)

-- keys that are compared as equal are those of one point
same-key : (p q : Point) → key_cmp (key_of p) (key_of q) ≡ Equal → p ≡ q
same-key p q equal =
    let at = nat_cmp p.at q.at in
    let part = nat_cmp p.part q.part in
    let stack = nat_cmp p.stack q.stack in
    let both = then_equal (ordering_then at part) stack equal in
    let first = then_equal at part both.0 in
    point-fields p.at q.at p.part q.part p.stack q.stack (nat_equal p.at q.at at refl first.0)
    (nat_equal p.part q.part part refl first.1)
    (nat_equal p.stack q.stack stack refl both.1)

-- a test of an order, and its cases
is-equal : (o : Ordering) → is_eq o ≡ true → o ≡ Equal
is-equal Less is = absurd (cc)
is-equal Equal is = refl
is-equal Greater is = absurd (cc)

bool-cases : (b : Bool) → (b ≡ true) ⊎ (b ≡ false)
bool-cases true = inl refl
bool-cases false = inr refl

-- an element of a list with one more is that one, or stands before it
at-push : (points : List Point) (p q : Point) (n : ℕ) → slice_get (points ++ p ∷ []) n ≡ Some q
    → ((n ≡ length points) × (p ≡ q)) ⊎ (slice_get points n ≡ Some q)
at-push points p q n at =
    let within = slice_get_within (points ++ p ∷ []) n q at in
    let value : get_or (points ++ p ∷ []) n q ≡ q = get_or_from_slice_get (points ++ p ∷ []) n q q at in
    ⊎_elim
    (λ (prefix : n < length points).
    inr (slice_get-get_or points n q prefix ∙ ap Some (sym (get_or_append_left points (p ∷ []) q n prefix) ∙ value)))
    (λ (past : length points ≤ n).
    let last : length points ≡ n = omega (arith, length_push points p) in
    inl (sym last, sym (get_or_push points p q n last) ∙ value))
    (cases_lt n (length points))

-- the elements of a list with one more
prefix-push : (points : List Point) (p q : Point) (n : ℕ) → slice_get points n ≡ Some q
    → slice_get (points ++ p ∷ []) n ≡ Some q
prefix-push points p q n at =
    let within = slice_get_within points n q at in
    slice_get-get_or (points ++ p ∷ []) n q (omega (arith, length_push points p))
    ∙ ap Some (get_or_append_left points (p ∷ []) q n within ∙ get_or_from_slice_get points n q q at)

last-push : (points : List Point) (p : Point) → slice_get (points ++ p ∷ []) (length points) ≡ Some p
last-push points p =
    slice_get-get_or (points ++ p ∷ []) (length points) p (omega (arith, length_push points p))
    ∙ ap Some (get_or_push points p p (length points) refl)

-- the map with one more point
pub numbers-push : (points : List Point) (before after : Numbers) (p : Point) (number : ℕ) → number ≡ length points
    → AreNumbers points before
    → (Contains points p → ⊥) → Updates key_cmp before after (key_of p) (Some number)
    → AreNumbers (points ++ p ∷ []) after
numbers-push points before after p number is_length are new updates = record {
  found = λ n q at.
      ⊎_elim
      (λ (last : (n ≡ length points) × (p ≡ q)).
      let P : Point → Type 0 = λ q. get key_cmp after (key_of q) ≡ Some n in
      subst P last.1 (updates.1 ∙ ap Some (is_length ∙ sym last.0)))
      (λ (prefix : slice_get points n ≡ Some q).
      ⊎_elim
      (λ (same : is_eq (key_cmp (key_of p) (key_of q)) ≡ true).
      let one : p ≡ q = same-key p q (is-equal (key_cmp (key_of p) (key_of q)) same) in
      let P : Point → Type 0 = λ q. slice_get points n ≡ Some q in
      absurd (new (listed-at points n p (subst P (sym one) prefix))))
      (λ (other : is_eq (key_cmp (key_of p) (key_of q)) ≡ false).
      updates.2 (key_of q) other ∙ are.found n q prefix)
      (bool-cases (is_eq (key_cmp (key_of p) (key_of q)))))
      (at-push points p q n at);
  only = λ n q has.
      ⊎_elim
      (λ (same : is_eq (key_cmp (key_of p) (key_of q)) ≡ true).
      let one : p ≡ q = same-key p q (is-equal (key_cmp (key_of p) (key_of q)) same) in
      let P : Point → Type 0 = λ q. get key_cmp after (key_of q) ≡ Some n in
      let here : Some number ≡ Some n = sym updates.1 ∙ subst P (sym one) has in
      let last : length points ≡ n = cc in
      let Q : Point → Type 0 = λ q. slice_get (points ++ p ∷ []) n ≡ Some q in
      let R : ℕ → Type 0 = λ n. slice_get (points ++ p ∷ []) n ≡ Some p in
      subst Q one (subst R last (last-push points p)))
      (λ (other : is_eq (key_cmp (key_of p) (key_of q)) ≡ false).
      prefix-push points p q n (are.only n q (sym (updates.2 (key_of q) other) ∙ has)))
      (bool-cases (is_eq (key_cmp (key_of p) (key_of q))));
}

-- no point has two numbers
pub apart-numbers : (points : List Point) (numbers : Numbers) → AreNumbers points numbers → AreApart points
apart-numbers points numbers are n m p first second =
    let same : Some n ≡ Some m = sym (are.found n p first) ∙ are.found m p second in cc

-- the first i of the found points are added: those so far new stand after the points of the beginning
pub record AreAdded (initial : List Point) (found : List Point) (i : ℕ) (now : List Point) : Type 0 where
  pub more : List Point
  pub is : now ≡ initial ++ more
  pub few : length now ≤ length initial + i
  pub rest : (rest : List Point) → AreNew now (drop i found) rest → AreNew initial found (more ++ rest)

-- one point more
pub added-more : (initial found : List Point) (i : ℕ) (now after : List Point) (p d : Point) → i < length found
    → p ≡ get_or found i d
    → AreAdded initial found i now → IsAdded now p after → AreAdded initial found (i + 1) after
added-more initial found i now after p d within here added (inl old) =
    let next : drop i found ≡ p ∷ drop (i + 1) found =
    drop_more found i d within ∙ ap (λ p. p ∷ drop (i + 1) found) (sym here) in
    record {
      more = added.more;
      is = old.1 ∙ added.is;
      few = omega (arith, ap length old.1, added.few);
      rest = λ rest new.
          let P : List Point → Type 0 = λ points. AreNew now points rest in
          let Q : List Point → Type 0 = λ seen. AreNew seen (drop (i + 1) found) rest in
          added.rest rest (subst P (sym next) (inl (old.0, subst Q old.1 new)));
    }
added-more initial found i now after p d within here added (inr fresh) =
    let next : drop i found ≡ p ∷ drop (i + 1) found =
    drop_more found i d within ∙ ap (λ p. p ∷ drop (i + 1) found) (sym here) in
    record {
      more = added.more ++ p ∷ [];
      is = fresh.1 ∙ ap (λ ps. ps ++ p ∷ []) added.is ∙ append_assoc initial added.more (p ∷ []);
      few = omega (arith, ap length fresh.1, length_push now p, added.few);
      rest = λ rest new.
          let P : List Point → Type 0 = λ points. AreNew now points (p ∷ rest) in
          let Q : List Point → Type 0 = λ seen. AreNew seen (drop (i + 1) found) rest in
          let R : List Point → Type 0 = λ more. AreNew initial found more in
          subst R (sym (append_assoc added.more (p ∷ []) rest))
          (added.rest (p ∷ rest) (subst P (sym next) (inr (fresh.0, rest, refl, subst Q fresh.1 new))));
    }

-- all points are added
pub added-all : (initial found now : List Point) (i : ℕ) → length found ≤ i → AreAdded initial found i now
    → (more : List Point) × (now ≡ initial ++ more) × AreNew initial found more
added-all initial found now i past added =
    let P : List Point → Type 0 = λ points. AreNew now points [] in
    let Q : List Point → Type 0 = λ more. AreNew initial found more in
    (added.more, added.is, subst Q (append-nil added.more) (added.rest [] (subst P (sym (drop_all i found past)) refl)))

-- the points of one edge more
pub found-more : (edges : List Edges) (i : ℕ) (d edge : Edges) (found first second : List Point) → i < length edges
    → edge ≡ get_or edges i d
    → found ≡ flat_map points_of (take i edges) → first ≡ found ++ option_to_list edge.first
    → second ≡ first ++ option_to_list edge.second
    → second ≡ flat_map points_of (take (i + 1) edges)
found-more edges i d edge found first second within here was one two =
    two
    ∙ ap (λ ps. ps ++ option_to_list edge.second) (one ∙ ap (λ ps. ps ++ option_to_list edge.first) was)
    ∙ append_assoc (flat_map points_of (take i edges)) (option_to_list edge.first) (option_to_list edge.second)
    ∙ ap (λ (e : Edges). flat_map points_of (take i edges) ++ points_of e) here
    ∙ ap (λ ps. flat_map points_of (take i edges) ++ ps) (sym (append-nil (points_of (get_or edges i d))))
    ∙ sym (flat_map-append points_of (take i edges) (get_or edges i d ∷ []))
    ∙ ap (flat_map points_of) (sym (take_more edges i d within))

-- an option lists at most one
length-option : {X : Type 0} (o : Option X) → length (option_to_list o) ≤ 1
length-option None = omega arith
length-option (Some x) = omega arith

-- edges lead to at most two points each
pub length-points : (edges : List Edges) → length (flat_map points_of edges) ≤ 2 * length edges
length-points [] = omega arith
length-points (edge ∷ edges) =
    omega (
      arith,
      length-append (points_of edge) (flat_map points_of edges),
      length-append (option_to_list edge.first) (option_to_list edge.second),
      length-option edge.first,
      length-option edge.second,
      length-points edges,
    )

-- the points of one of the edges
pub among-at : (all : List Point) (edges : List Edges) (i : ℕ) (d : Edges) → AreAmong all (flat_map points_of edges)
    → i < length edges
    → AreAmong all (points_of (get_or edges i d))
among-at all [] i d among below = absurd (omega arith)
among-at all (edge ∷ edges) zero d among below =
    all-prefix (Contains all) (points_of edge) (flat_map points_of edges) among
among-at all (edge ∷ edges) (suc i) d among below =
    among-at all edges i d (all-back (Contains all) (points_of edge) (flat_map points_of edges) among) (omega arith)

-- one node more
pub nodes-more : (all points : List Point) (edges : List Edges) (nodes : List Node) (i : ℕ) (p : Point) (e : Edges)
    (node : Node) → i < length points → i < length edges → AreNodesFor all (take i points) (take i edges) nodes
    → IsNodeFor all (get_or points i p) (get_or edges i e) node
    → AreNodesFor all (take (suc i) points) (take (suc i) edges) (nodes ++ node ∷ [])
nodes-more all [] edges nodes i p e node first second are is = absurd (omega arith)
nodes-more all (point ∷ points) [] nodes i p e node first second are is = absurd (omega arith)
nodes-more all (point ∷ points) (edge ∷ edges) [] zero p e node first second are is = (is, tt)
nodes-more all (point ∷ points) (edge ∷ edges) (n ∷ nodes) zero p e node first second are is = absurd are
nodes-more all (point ∷ points) (edge ∷ edges) [] (suc i) p e node first second are is = absurd are
nodes-more all (point ∷ points) (edge ∷ edges) (n ∷ nodes) (suc i) p e node first second are is =
    (are.0, nodes-more all points edges nodes i p e node (omega arith) (omega arith) are.1 is)
