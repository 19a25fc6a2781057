-- A way names at most one path of a program.
use Rattle.std.proofs.Common.{◌≡◌, ℕ, List, [], ◌∷◌, ◌++◌, length, refl, ap, sym, ◌∙◌, subst, arith, inl, inr, append_assoc}
use Rattle.std.specs.Prelude.{Bool, true, false, Contains, Result, Ok, Err, IsOkAnd, if◌then◌else◌}
use Rattle.list_lemmas.proofs.Members.{has-none, has-cases}
use Rattle.transition_spec.specs.declared.way.Way.{Way}
use Rattle.transition_spec.specs.Path.{IsSuccessor, IsPath, IsLetter, HasChoices}
use Rattle.transition_spec.specs.Named.{Names}
use Rattle.flow_spec.specs.Program.{Program}
use Rattle.flow_spec.specs.declared.next.Next.{Next}
use Rattle.flow_spec.specs.declared.next.Next.TheVariants.{Ends, Go, Fork, Enter, Back}
use Rattle.flow_spec.specs.declared.fault.FlowFault.{FlowFault}
use Rattle.flow_spec.specs.declared.fault.FlowFault.TheVariants.{Recursion}
use Rattle.flow_spec.specs.declared.frame.Frame.{Frame}
use Rattle.flow_spec.specs.Configuration.{Configuration, configuration, start_of, next_part}
use Rattle.flow_spec.specs.Next.{Going, next_at}
use Rattle.flow_spec.specs.Successors.{Successors, has_next_part, successors, successors_by, leads_to, is_open, older, newest}

-- no state has three successors
abbrev AreFew : {C F : Type 0} → (C → Result (List C) F) → Type 0
AreFew {C} step = (c first second third : C) (others : List C) → step c ≡ Ok (first ∷ second ∷ third ∷ others) → ⊥

-- lists that begin with different letters are different
apart : (a b : ℕ) (xs ys : List ℕ) → a ∷ xs ≡ b ∷ ys → (a ≡ b → ⊥) → ⊥
apart a b xs ys same differ = let heads : a ≡ b = cc same in differ heads

-- what comes after one prefix
later : (head xs ys : List ℕ) → head ++ xs ≡ head ++ ys → xs ≡ ys
later [] xs ys same = same
later (x ∷ head) xs ys same = let rest : head ++ xs ≡ head ++ ys = cc same in later head xs ys rest

module _ {C F : Type 0} (step : C → Result (List C) F) (start : C) (few : AreFew step) where
  -- from one state, letters that begin alike lead to one state
  one_move : (c d d' : C) (letter letter' rest rest' : List ℕ) (next : Result (List C) F) → step c ≡ next
      → IsOkAnd next (λ successors. Contains successors d) → IsOkAnd next (λ successors. Contains successors d')
      → IsLetter next d letter → IsLetter next d' letter' → letter ++ rest ≡ letter' ++ rest'
      → (d ≡ d') × (letter ≡ letter')
  one_move c d d' letter letter' rest rest' (Err fault) goes leads leads' is is' same = absurd leads
  one_move c d d' letter letter' rest rest' (Ok []) goes leads leads' is is' same = absurd (has-none d leads)
  one_move c d d' letter letter' rest rest' (Ok (first ∷ [])) goes leads leads' is is' same =
      elim (has-cases first d [] leads) [
        | inr none ↦ absurd (has-none d none)
        | inl at ↦ elim (has-cases first d' [] leads') [
          | inr none ↦ absurd (has-none d' none)
          | inl at' ↦ (cc (at, at'), cc (is, is'))
        ]
      ]
  one_move c d d' letter letter' rest rest' (Ok (first ∷ second ∷ [])) goes leads leads' (inl (at, is)) (inl (at', is'))
      same =
      (at ∙ sym at', is ∙ sym is')
  one_move c d d' letter letter' rest rest' (Ok (first ∷ second ∷ [])) goes leads leads' (inl (at, is)) (inr (at', is'))
      same =
      absurd (apart 110 116 rest rest' (cc (is, is', same)) (λ heads. omega (arith, heads)))
  one_move c d d' letter letter' rest rest' (Ok (first ∷ second ∷ [])) goes leads leads' (inr (at, is)) (inl (at', is'))
      same =
      absurd (apart 116 110 rest rest' (cc (is, is', same)) (λ heads. omega (arith, heads)))
  one_move c d d' letter letter' rest rest' (Ok (first ∷ second ∷ [])) goes leads leads' (inr (at, is)) (inr (at', is'))
      same =
      (at ∙ sym at', is ∙ sym is')
  one_move c d d' letter letter' rest rest' (Ok (first ∷ second ∷ third ∷ others)) goes leads leads' is is' same =
      absurd (few c first second third others goes)

  -- paths as long as each other, whose choices begin alike, are one
  one_course : (path other : List C) (choices choices' rest rest' : List ℕ) → IsPath step start path
      → IsPath step start other
      → length path ≡ length other → HasChoices step path choices → HasChoices step other choices'
      → choices ++ rest ≡ choices' ++ rest'
      → (path ≡ other) × (choices ≡ choices')
  one_course [] other choices choices' rest rest' path_is other_is long has has' same = absurd path_is
  one_course (c ∷ []) [] choices choices' rest rest' path_is other_is long has has' same = absurd other_is
  one_course (c ∷ []) (c' ∷ []) choices choices' rest rest' path_is other_is long has has' same =
      let one : c ≡ c' = path_is ∙ sym other_is in (ap (λ x. x ∷ []) one, has ∙ sym has')
  one_course (c ∷ []) (d' ∷ c' ∷ earlier') choices choices' rest rest' path_is other_is long has has' same =
      absurd (omega (arith, long))
  one_course (d ∷ c ∷ earlier) [] choices choices' rest rest' path_is other_is long has has' same = absurd other_is
  one_course (d ∷ c ∷ earlier) (d' ∷ []) choices choices' rest rest' path_is other_is long has has' same =
      absurd (omega (arith, long))
  one_course (d ∷ c ∷ earlier) (d' ∷ c' ∷ earlier') choices choices' rest rest' path_is other_is long
      (before, letter, has, is, whole) (before', letter', has', is', whole') same =
      let begun : before ++ (letter ++ rest) ≡ before' ++ (letter' ++ rest') =
      sym (append_assoc before letter rest) ∙ ap (λ l. l ++ rest) (sym whole) ∙ same ∙ ap (λ l. l ++ rest') whole'
      ∙ append_assoc before' letter' rest' in
      let shorter : length (c ∷ earlier) ≡ length (c' ∷ earlier') = omega (arith, long) in
      let (head, alike) = one_course (c ∷ earlier) (c' ∷ earlier') before before' (letter ++ rest) (letter' ++ rest')
      path_is.1 other_is.1
      shorter has has' begun in
      let from : c' ≡ c = cc head in
      let ends : letter ++ rest ≡ letter' ++ rest' = later before (letter ++ rest) (letter' ++ rest')
      (begun ∙ ap (λ l. l ++ (letter' ++ rest')) (sym alike)) in
      let Leads : C → Type 0 = λ c. IsSuccessor step c d' in
      let Letter : C → Type 0 = λ c. IsLetter (step c) d' letter' in
      let (to, letters) = one_move c d d' letter letter' rest rest' (step c) refl path_is.0
      (subst Leads from other_is.0) is
      (subst Letter from is') ends in
      let both : before ++ letter ≡ before' ++ letter' = cc (alike, letters) in
      (cc (to, head), whole ∙ both ∙ sym whole')

  -- a way names one path
  pub one_path : (way : Way) (path other : List C) → IsPath step start path → IsPath step start other
      → Names step way path
      → Names step way other → path ≡ other
  one_path way path other path_is other_is names names' =
      (one_course path other way.choices way.choices [] [] path_is other_is (sym names.steps ∙ names'.steps)
      names.choices names'.choices refl).0

-- these aren't three successors
abbrev AreNotThree : Successors → Type 0
AreNotThree goes = (first second third : Configuration) (others : List Configuration)
    → goes ≡ Ok (first ∷ second ∷ third ∷ others) → ⊥

-- neither of two ways to go has three
few_either : (test : Bool) (goes other : Successors) → AreNotThree goes → AreNotThree other
    → AreNotThree (if test then goes else other)
few_either true goes other few few' = few
few_either false goes other few few' = few'

-- a fault has none, and one successor isn't three
few_faulty : (fault : FlowFault) → AreNotThree (Err fault)
few_faulty fault first second third others is = absurd (cc is)

few_one : (next : Configuration) → AreNotThree (Ok (next ∷ []))
few_one next first second third others is = absurd (cc is)

-- where control goes there are at most two successors
few_ways : (entry : ℕ) (frames : List Frame) (at : ℕ) (next : Next) → AreNotThree (leads_to entry frames at next)
few_ways entry frames at Ends = λ first second third others is. absurd (cc is)
few_ways entry frames at (Go target) = few_one (configuration frames target)
few_ways entry frames at (Fork next target) = λ first second third others is. absurd (cc is)
few_ways entry frames at (Enter target frame) =
    let entered = configuration (frames ++ frame ∷ []) target in
    few_either (is_open entry frames target) (Err (Recursion at)) (Ok (entered ∷ [])) (few_faulty (Recursion at))
    (few_one entered)
few_ways entry frames at (Back target) = few_one (configuration (older frames) target)

few_by : (entry : ℕ) (c : Configuration) (going : Going) → AreNotThree (successors_by entry c going)
few_by entry c (Ok next) = few_ways entry c.frames c.at next
few_by entry c (Err fault) = few_faulty fault

-- the next part of an instruction is the one successor, or control goes on
few_successors : (program : Program) → AreFew (successors program)
unfolding successors
few_successors program c =
    let going = next_at program.isa program.image c.at (newest c.frames) in
    few_either (has_next_part program c) (Ok (next_part c ∷ [])) (successors_by program.entry c going)
    (few_one (next_part c)) (few_by program.entry c going)

-- a way names one path of a program
pub one_program_path : (program : Program) (way : Way) (path other : List Configuration)
    → IsPath (successors program) (start_of program.entry) path
    → IsPath (successors program) (start_of program.entry) other
    → Names (successors program) way path → Names (successors program) way other → path ≡ other
one_program_path program = one_path (successors program) (start_of program.entry) (few_successors program)
