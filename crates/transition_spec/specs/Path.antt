-- Paths of a system of steps, which gives each state the list of its successors in order, or a fault.
-- This project's own words, in the usual sense of a path in a graph.
use Rattle.std.specs.Prelude.{◌≡◌, ◌⊎◌, ℕ, List, [], ◌∷◌, ◌++◌, Result, Ok, Err, IsOkAnd, Contains, codes}

-- d is a successor of c
abbrev pub IsSuccessor : {C F : Type 0} → (C → Result (List C) F) → C → C → Type 0
IsSuccessor step c d = IsOkAnd (step c) (λ successors. Contains successors d)

-- a path, its last member first: it begins at the start, and each next member is a successor of the one before
abbrev pub IsPath : {C F : Type 0} → (C → Result (List C) F) → C → List C → Type 0
IsPath step start [] = ⊥
IsPath step start (c ∷ []) = c ≡ start
IsPath step start (d ∷ c ∷ earlier) = IsSuccessor step c d × IsPath step start (c ∷ earlier)

-- the letter of the move to d from a state with these successors: n to the first of two, t to the second, else none
abbrev pub IsLetter : {C F : Type 0} → Result (List C) F → C → List ℕ → Type 0
IsLetter (Ok (first ∷ second ∷ [])) d letter =
    ((d ≡ first) × (letter ≡ codes "n")) ⊎ ((d ≡ second) × (letter ≡ codes "t"))
IsLetter (Ok []) d letter = letter ≡ []
IsLetter (Ok (first ∷ [])) d letter = letter ≡ []
IsLetter (Ok (first ∷ second ∷ third ∷ others)) d letter = letter ≡ []
IsLetter (Err fault) d letter = letter ≡ []

-- the choices of a path, the first choice first
abbrev pub HasChoices : {C F : Type 0} → (C → Result (List C) F) → List C → List ℕ → Type 0
HasChoices step [] choices = choices ≡ []
HasChoices step (c ∷ []) choices = choices ≡ []
HasChoices step (d ∷ c ∷ earlier) choices =
    (before : List ℕ) × (letter : List ℕ) × HasChoices step (c ∷ earlier) before × IsLetter (step c) d letter
    × (choices ≡ before ++ letter)
