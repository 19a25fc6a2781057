-- Data that are moved along a path, and what solutions have to do with them (Kam and Ullman 1977).
use Rattle.std.specs.Prelude.{◌≡◌, ℕ, List, [], ◌∷◌}
use Rattle.lattice_fix.specs.Framework.{Framework}

-- what comes before the last member of a path, which stands first: the start, moved by each earlier member
abbrev pub along : {D : Type 0} → Framework D → List ℕ → D
along F [] = F.start
along F (n ∷ []) = F.start
along F (m ∷ n ∷ earlier) = F.transfer n (along F (n ∷ earlier))

-- the transfer of a join is the join of the transfers
abbrev pub IsDistributive : {D : Type 0} → Framework D → Type 0
IsDistributive {D} F = (n : ℕ) (x y : D) → F.carrier x → F.carrier y → F.transfer n (F.join x y)
    ≡ F.join (F.transfer n x) (F.transfer n y)
