-- The text of a program's graph is one.
use Rattle.std.proofs.Common.{◌≡◌, ℕ, zero, suc, ◌+◌, ◌≤◌, List, [], ◌∷◌, ◌++◌, map, refl, ap, sym, ◌∙◌, subst, arith, inl, inr, Option, Some, None}
use Rattle.std.specs.Prelude.{Contains, slice_get, flat_map}
use Rattle.std.specs.List.Sorted.{IsStrictlySortedBy}
use Rattle.std.specs.Option.{option_to_list}
use Rattle.std.specs.declared.cmp.Ordering.TheVariants.{Less}
use Rattle.std.proofs.lemmas.List.Elements.{Contains-append_cases}
use Rattle.list_lemmas.proofs.Members.{has-first, has-later, has-found, each-has}
use Rattle.transition_spec.specs.Layer.{IsInLayer, AreLayersFrom, all_of}
use Rattle.flow_spec.specs.Program.{Program}
use Rattle.flow_spec.specs.Acceptance.{Step}
use Rattle.flow_spec.specs.Configuration.{Configuration, start_of}
use Rattle.flow_spec.specs.Order.{configuration_cmp}
use Rattle.flow_spec.specs.Successors.{successors}
use Rattle.report_spec.specs.declared.graph_line.GraphLine.{GraphLine}
use Rattle.report_spec.specs.Graph.{graph_line_text, IsGraphLine, AreGraphLines, IsGraphText}
use Rattle.one_answer.proofs.Listed.{one_way}
use Rattle.flow_spec.proofs.Ordered.{configurations_total}
use Rattle.one_answer.proofs.Programs.{one_numbering}

-- no element stands twice
abbrev AreApart : {A : Type 0} → List A → Type 0
AreApart [] = Unit {0}
AreApart (x ∷ xs) = (Contains xs x → ⊥) × AreApart xs

-- one that is found at two places is found at one
one_place : {A : Type 0} (xs : List A) (n m : ℕ) (x : A) → AreApart xs → slice_get xs n ≡ Some x
    → slice_get xs m ≡ Some x → n ≡ m
one_place [] n m x apart is is' = absurd (cc is)
one_place (y ∷ xs) zero zero x apart is is' = refl
one_place (y ∷ xs) zero (suc m) x apart is is' =
    let same : x ≡ y = cc is in absurd (apart.0 (subst (λ z. Contains xs z) same (has-found xs m x is')))
one_place (y ∷ xs) (suc n) zero x apart is is' =
    let same : x ≡ y = cc is' in absurd (apart.0 (subst (λ z. Contains xs z) same (has-found xs n x is)))
one_place (y ∷ xs) (suc n) (suc m) x apart is is' = ap suc (one_place xs n m x apart.1 is is')

-- lists of which nothing is in both, one after the other
apart-append : {A : Type 0} (xs ys : List A) → AreApart xs → AreApart ys → ((x : A) → Contains xs x → Contains ys x → ⊥)
    → AreApart (xs ++ ys)
apart-append [] ys first second none = second
apart-append (x ∷ xs) ys first second none = (
  λ has. elim (Contains-append_cases xs ys x has) [
    | inl within ↦ first.0 within
    | inr beyond ↦ none x (has-first x xs) beyond
  ],
  apart-append xs ys first.1 second (λ y has. none y (has-later x y xs has)),
)

-- in strict order no configuration stands twice
apart-sorted : (cs : List Configuration) → IsStrictlySortedBy configuration_cmp cs → AreApart cs
unfolding IsStrictlySortedBy
apart-sorted [] sorted = tt
apart-sorted (c ∷ cs) sorted = (
  λ has. let less = each-has (λ d. configuration_cmp c d ≡ Less) cs sorted.0 c has in one_way configuration_cmp
      configurations_total c c less less,
  apart-sorted cs sorted.1,
)

module _ (step : Step) (entry : ℕ) where
  abbrev Are : ℕ → List (List Configuration) → Type 0
  Are n layers = AreLayersFrom step (start_of entry) configuration_cmp n layers

  -- a configuration of some layers is in one of them
  in_some : (n : ℕ) (layers : List (List Configuration)) → Are n layers → (c : Configuration)
      → Contains (all_of layers) c
      → (m : ℕ) × (n ≤ m) × IsInLayer step (start_of entry) m c
  in_some n [] are c (k, lt, is) = absurd (omega (arith, lt))
  in_some n (layer ∷ layers) are c has = elim (Contains-append_cases layer (all_of layers) c has) [
    | inl here ↦ (n, omega arith, (are.0.members c).0 here)
    | inr later ↦ let (m, above, is) = in_some (n + 1) layers are.1 c later in (m, omega (arith, above), is)
  ]

  -- no configuration stands twice in the layers
  layers_apart : (n : ℕ) (layers : List (List Configuration)) → Are n layers → AreApart (all_of layers)
  layers_apart n [] are = tt
  layers_apart n (layer ∷ layers) are =
      apart-append layer (all_of layers) (apart-sorted layer are.0.sorted) (layers_apart (n + 1) layers are.1)
      (λ c here later.
      let (m, above, is) = in_some (n + 1) layers are.1 c later in
      is.no_sooner n (omega (arith, above)) ((are.0.members c).0 here).reached)

  -- the first of some layers
  prefix : (n : ℕ) (layers rest : List (List Configuration)) → Are n (layers ++ rest) → Are n layers
  prefix n [] rest are = tt
  prefix n (layer ∷ layers) rest are = (are.0, prefix (n + 1) layers rest are.1)

  module _ (configurations : List Configuration) (apart : AreApart configurations) where
    -- numbers of the same configurations are the same
    one_list : (ns ms : List ℕ) (cs : List Configuration) → map (slice_get configurations) ns ≡ map Some cs
        → map (slice_get configurations) ms ≡ map Some cs → ns ≡ ms
    one_list [] [] cs is is' = refl
    one_list [] (m ∷ ms) [] is is' = absurd (cc is')
    one_list [] (m ∷ ms) (c ∷ cs) is is' = absurd (cc is)
    one_list (n ∷ ns) ms [] is is' = absurd (cc is)
    one_list (n ∷ ns) [] (c ∷ cs) is is' = absurd (cc is')
    one_list (n ∷ ns) (m ∷ ms) (c ∷ cs) is is' =
        let first : slice_get configurations n ≡ Some c = cc is in
        let first' : slice_get configurations m ≡ Some c = cc is' in
        let rest : map (slice_get configurations) ns ≡ map Some cs = cc is in
        let rest' : map (slice_get configurations) ms ≡ map Some cs = cc is' in
        cc (one_place configurations n m c apart first first', one_list ns ms cs rest rest')

    -- the list of both determines two edges
    one_pair : (next taken next' taken' : Option ℕ) → (next ≡ None → taken ≡ None) → (next' ≡ None → taken' ≡ None)
        → option_to_list next ++ option_to_list taken ≡ option_to_list next' ++ option_to_list taken'
        → (next ≡ next') × (taken ≡ taken')
    one_pair None None None None first first' same = (refl, refl)
    one_pair None None None (Some t) first first' same = absurd (cc same)
    one_pair None None (Some n) taken' first first' same = absurd (cc same)
    one_pair None (Some t) next' taken' first first' same = let none : Some t ≡ None = first refl in absurd (cc none)
    one_pair (Some n) taken None None first first' same = absurd (cc same)
    one_pair (Some n) taken None (Some t) first first' same = let none : Some t ≡ None = first' refl in absurd (cc none)
    one_pair (Some n) None (Some n') None first first' same = (cc same, refl)
    one_pair (Some n) None (Some n') (Some t) first first' same = absurd (cc same)
    one_pair (Some n) (Some t) (Some n') None first first' same = absurd (cc same)
    one_pair (Some n) (Some t) (Some n') (Some t') first first' same = (cc same, cc same)

    -- two lines of a configuration have one text
    one_line : (number : ℕ) (c : Configuration) (line other : GraphLine) → IsGraphLine step configurations number c line
        → IsGraphLine step configurations number c other → graph_line_text line ≡ graph_line_text other
    one_line number c line other is is' =
        let (next, goes, are) = is.goes in
        let (next', goes', are') = is'.goes in
        let same : next' ≡ next = cc (goes, goes') in
        let listed : option_to_list line.next ++ option_to_list line.taken ≡ option_to_list other.next
        ++ option_to_list other.taken =
        one_list (option_to_list line.next ++ option_to_list line.taken)
        (option_to_list other.next ++ option_to_list other.taken) next are
        (are' ∙ ap (map Some) same) in
        let (first, second) = one_pair line.next line.taken other.next other.taken is.first is'.first listed in
        let node : line.node ≡ other.node = is.node ∙ sym is'.node in
        let at : line.at ≡ other.at = is.at ∙ sym is'.at in
        let depth : line.depth ≡ other.depth = is.depth ∙ sym is'.depth in
        let back : line.back ≡ other.back = is.back ∙ sym is'.back in
        cc (node, at, depth, back, first, second)

    -- so have all lines of some configurations
    one_text : (number : ℕ) (cs : List Configuration) (lines others : List GraphLine)
        → AreGraphLines step configurations number cs lines
        → AreGraphLines step configurations number cs others
        → flat_map graph_line_text lines ≡ flat_map graph_line_text others
    one_text number [] [] [] are are' = refl
    one_text number [] (line ∷ lines) others are are' = absurd are
    one_text number [] [] (other ∷ others) are are' = absurd are'
    one_text number (c ∷ cs) [] others are are' = absurd are
    one_text number (c ∷ cs) (line ∷ lines) [] are are' = absurd are'
    one_text number (c ∷ cs) (line ∷ lines) (other ∷ others) are are' =
        cc (one_line number c line other are.0 are'.0, one_text (number + 1) cs lines others are.1 are'.1)

-- the text of a graph is one
pub one_graph_text : (program : Program) (text other : List ℕ) → IsGraphText program text
    → IsGraphText program other → text ≡ other
one_graph_text program text other (layers, accepted, (lines, are, is)) (layers', accepted', (lines', are', is')) =
    let step = successors program in
    let same : all_of layers' ≡ all_of layers = one_numbering step program layers' layers accepted' accepted in
    let apart : AreApart (all_of layers) =
    layers_apart step program.entry 0 layers (prefix step program.entry 0 layers ([] ∷ []) accepted.are_layers) in
    is ∙ one_text step program.entry (all_of layers) apart 0 (all_of layers) lines lines' are
    (subst (λ cs. AreGraphLines step cs 0 cs lines') same are') ∙ sym is'
