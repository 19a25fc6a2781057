-- It is decided whether an address has a line, and whether a node is at it.
use Rattle.std.proofs.Common.{◌≡◌, ℕ, zero, suc, ◌+◌, ◌-◌, ◌<◌, ◌≤◌, List, [], ◌∷◌, length, refl, ap, subst, sym, ◌∙◌, arith, inl, inr, Option, Some, None}
use Rattle.std.specs.Prelude.{Bool, true, false, ◌==◌, ◌⊎◌, Contains}
use Rattle.std.proofs.lemmas.Bool.{cases_lt}
use Rattle.std.proofs.lemmas.Bool.Decides.{nat_tests}
use Rattle.list_lemmas.proofs.Members.{has-none, has-first, has-later, has-cases}
use Rattle.flow_spec.specs.declared.instruction.Instruction.{Instruction}
use Rattle.flow_spec.specs.declared.instruction.Instruction.TheVariants.{Word, Parcel, Cut}
use Rattle.flow_spec.specs.Configuration.{Configuration, configuration}
use Rattle.flow_spec.specs.Instruction.{is_text, IsText, instruction_at}
use Rattle.path_model.specs.declared.graph.Node.{Node}
use Rattle.path_model.specs.Graph.{address_of}
use Rattle.node_spec.specs.Plan.{Layout, IsNodeAt, IsBegun, IsInnerIn, HasLineIn, IsBare}
use Rattle.report_lines.proofs.Inner.{is_first}

-- a statement holds, or not
abbrev pub IsDecided : Type 0 → Type 0
IsDecided P = P ⊎ (P → ⊥)

module _ (nodes : List Node) (address : ℕ) where
  -- one of the first nodes is at the address, or none is
  node_there : (count : ℕ) → count ≤ length nodes
      → ((n : ℕ) × IsNodeAt nodes address n) ⊎ ((n : ℕ) → n < count → address_of nodes n ≡ address → ⊥)
  node_there zero few = inr (λ n below at. omega (arith, below))
  node_there (suc count) few = elim (node_there count (omega (arith, few))) [
    | inl found ↦ inl found
    | inr none ↦ by_test none (address_of nodes count == address) refl
  ] where
    by_test : ((n : ℕ) → n < count → address_of nodes n ≡ address → ⊥) → (here : Bool)
        → (address_of nodes count == address) ≡ here
        → ((n : ℕ) × IsNodeAt nodes address n) ⊎ ((n : ℕ) → n < suc count → address_of nodes n ≡ address → ⊥)
    by_test none true is = inl (count, record { inside = omega (arith, few); at = grind (arith, nat_tests, is) })
    by_test none false is = inr (λ n below at. last n below at (n == count) refl) where
      last : (n : ℕ) → n < suc count → address_of nodes n ≡ address → (same : Bool) → (n == count) ≡ same → ⊥
      last n below at true same =
          let one : n ≡ count = grind (arith, nat_tests, same) in
          let here : address_of nodes count ≡ address = subst (λ (k : ℕ). address_of nodes k ≡ address) one at in
          grind (arith, nat_tests, is, here)
      last n below at false same =
          let other : n < count = grind (arith, nat_tests, same, below) in none n other at

  -- a node is at the address, or none is
  pub decide_node : ((n : ℕ) × IsNodeAt nodes address n) ⊎ ((n : ℕ) → IsNodeAt nodes address n → ⊥)
  decide_node = elim (node_there (length nodes) (omega arith)) [
    | inl found ↦ inl found
    | inr none ↦ inr (λ n at. none n at.inside at.at)
  ]

-- a configuration in the list is that of the address, or none is
decide_begun : (configurations : List Configuration) (address : ℕ) → IsDecided (IsBegun configurations address)
decide_begun [] address = inr (λ begun. has-none _ begun.1)
decide_begun (c ∷ later) address = elim (decide_begun later address) [
  | inl (frames, has) ↦ inl (frames, has-later c (configuration frames address) later has)
  | inr none ↦ by_tests none (c.at == address) (c.part == 0) refl refl
] where
  by_tests : (IsBegun later address → ⊥) → (at first : Bool) → (c.at == address) ≡ at → (c.part == 0) ≡ first
      → IsDecided (IsBegun (c ∷ later) address)
  by_tests none true true at first =
      let here : c.at ≡ address = grind (arith, nat_tests, at) in
      let whole : c.part ≡ 0 = grind (arith, nat_tests, first) in
      let same : c ≡ configuration c.frames address = sym (is_first c whole) ∙ ap (configuration c.frames) here in
      inl (c.frames, subst (λ (d : Configuration). Contains (c ∷ later) d) same (has-first c later))
  by_tests none false first at first_is = inr (λ begun. elim (has-cases c _ later begun.1) [
    | inl same ↦ let here = ap (λ (d : Configuration). d.at) same in grind (arith, nat_tests, at, here)
    | inr has ↦ none (begun.0, has)
  ])
  by_tests none true false at first_is = inr (λ begun. elim (has-cases c _ later begun.1) [
    | inl same ↦ let whole = ap (λ (d : Configuration). d.part) same in grind (arith, nat_tests, first_is, whole)
    | inr has ↦ none (begun.0, has)
  ])

-- the instruction has four bytes, or not
decide_word : (found : Option Instruction) → IsDecided ((code : ℕ) × (found ≡ Some (Word code)))
decide_word None = inr (λ (code, is). absurd (cc is))
decide_word (Some (Word code)) = inl (code, refl)
decide_word (Some (Parcel parcel)) = inr (λ (code, is). absurd (cc is))
decide_word (Some (Cut parcel)) = inr (λ (code, is). absurd (cc is))

module _ (layout : Layout) where
  -- an address of the text is in the middle of what begins two bytes before, or not
  inner_after : (begins address : ℕ) → begins + 2 ≡ address → IsText layout.isa layout.image address
      → IsDecided (IsInnerIn layout address)
  inner_after begins address middle text = elim (decide_node layout.nodes address) [
    | inl (n, at) ↦ inr (λ inner. inner.bare n at)
    | inr bare ↦ elim (decide_word (instruction_at layout.isa layout.image begins)) [
      | inr other ↦ inr (λ inner.
          let same : inner.begins ≡ begins = omega (arith, middle, inner.middle) in
          other (
            inner.four_bytes.0,
            subst (λ (b : ℕ). instruction_at layout.isa layout.image b
                ≡ Some (Word inner.four_bytes.0)) same inner.four_bytes.1,
          ))
      | inl four_bytes ↦ elim (decide_begun layout.configurations begins) [
        | inr never ↦ inr (λ inner.
            let same : inner.begins ≡ begins = omega (arith, middle, inner.middle) in
            never (subst (IsBegun layout.configurations) same inner.begun))
        | inl begun ↦ inl (record {
          text = text;
          bare = bare;
          begins = begins;
          middle = middle;
          four_bytes = four_bytes;
          begun = begun;
        })
      ]
    ]
  ]

  -- an address of the text is inner, or not
  decide_inner : (address : ℕ) → IsText layout.isa layout.image address → IsDecided (IsInnerIn layout address)
  decide_inner address text = elim (cases_lt address 2) [
    | inl low ↦ inr (λ inner. let middle = inner.middle in omega (arith, low, middle))
    | inr high ↦ inner_after (address - 2) address (omega (arith, high)) text
  ]

  -- an address has a line, or not
  pub decide_line : (address : ℕ) → IsDecided (HasLineIn layout address)
  decide_line address = by_test (is_text layout.isa layout.image address) refl where
    by_test : (text : Bool) → is_text layout.isa layout.image address ≡ text → IsDecided (HasLineIn layout address)
    by_test false is = inr (λ line. let text = line.0 in cc (text, is))
    by_test true is = elim (decide_inner address is) [
      | inl inner ↦ inr (λ line. line.1 inner)
      | inr none ↦ inl (is, none)
    ]

  -- an address is bare, or not
  pub decide_bare : (address : ℕ) → IsDecided (IsBare layout address)
  decide_bare address = elim (decide_line address) [
    | inr none ↦ inr (λ bare. none bare.line)
    | inl line ↦ elim (decide_node layout.nodes address) [
      | inl (n, at) ↦ inr (λ bare. bare.bare n at)
      | inr none ↦ inl (record { line = line; bare = none })
    ]
  ]
