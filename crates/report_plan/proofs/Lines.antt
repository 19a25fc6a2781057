-- The least address with a line at or above one.
use Rattle.std.proofs.Common.{◌≡◌, ℕ, ◌-◌, ◌^◌, ◌≤◌, List, [], ◌∷◌, length, Bool, false, eqb, IsTrue, Option, Some, None, refl, arith}
use Rattle.std.specs.Prelude.{◌==◌, ◌↔◌}
use Rattle.std.specs.Option.{option_eq}
use Rattle.std.specs.List.{Contains}
use Rattle.std.proofs.lemmas.Bool.{both_ways, eq-eqb}
use Rattle.elf_spec.specs.Word.{IsNext}
use Rattle.flow_spec.specs.Instruction.{IsText}
use Rattle.path_model.specs.declared.graph.Node.{Node}
use Rattle.node_spec.specs.Plan.{Layout, HasLineIn, IsBareOf, IsNextLine, IsNodeAt}

-- the address is in the text, and no address with a line lies between; or none is left
abbrev pub IsPassed : Layout → ℕ → Option ℕ → Type 0
IsPassed layout from None = IsNextLine layout from None
IsPassed layout from (Some next) = IsText layout.isa layout.image next × (from ≤ next)
    × ((address : ℕ) → from ≤ address → HasLineIn layout address → next ≤ address)

-- how many addresses are left
abbrev pub left : Option ℕ → ℕ
left None = 0
left (Some next) = 2 ^ 32 - next

-- an address of the text is the next one from it on
pub text-here : (test : ℕ → Bool) (address : ℕ) (next : Option ℕ) → IsNext test address next
    → IsTrue (test address) → IsTrue (option_eq eqb next (Some address))
text-here test address None is text = absurd (both_ways _ (is address (omega arith)) text)
text-here test address (Some next) is text = eq-eqb next address (omega (arith, is.1, is.2 address (omega arith) text))

-- where some node is listed of those at an address, the address isn't bare
pub node-there : (nodes : List Node) (address : ℕ) (here : List ℕ) (empty : Bool)
    → ((n : ℕ) → Contains here n ↔ IsNodeAt nodes address n) → empty ≡ (length here == 0) → empty ≡ false
    → IsBareOf nodes address → ⊥
node-there nodes address [] empty members is some bare = both_ways empty some is
node-there nodes address (n ∷ here) empty members is some bare = bare n ((members n).0 (0, omega arith, refl))
