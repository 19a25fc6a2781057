-- The stacks that cells make: how many, which stay when a cell is added, and which a cell makes.
use Rattle.std.proofs.Common.{◌≡◌, ℕ, suc, zero, ◌+◌, ◌-◌, ◌<◌, ◌≤◌, List, [], ◌∷◌, ◌++◌, length, refl, sym, ap, ◌∙◌, arith}
use Rattle.std.proofs.lemmas.List.{length_push, get_or_append_left, get_or_at, get_or_past}
use Rattle.std.proofs.lemmas.Option.{slice_get-get_or}
use Rattle.std.specs.Prelude.{Some, slice_get, slice_index_or}
use Rattle.flow_spec.specs.declared.frame.Frame.{Frame}
use Rattle.frame_stacks.specs.declared.stacks.StackCell.{StackCell}
use Rattle.frame_stacks.specs.Stacks.{made_by, stacks_after, stacks_of, frames_of, AreCells}

-- each cell makes one stack
length-stacks_after : (stacks : List (List Frame)) (cells : List StackCell)
    → length (stacks_after stacks cells) ≡ length stacks + length cells
length-stacks_after stacks [] = omega arith
length-stacks_after stacks (cell ∷ cells) =
    omega (
      arith,
      length-stacks_after (stacks ++ made_by stacks cell ∷ []) cells,
      length_push stacks (made_by stacks cell),
    )

-- the stacks so far keep their numbers
get_or-stacks_after : (stacks : List (List Frame)) (cells : List StackCell) (s : ℕ) → s < length stacks
    → slice_index_or (stacks_after stacks cells) s [] ≡ slice_index_or stacks s []
get_or-stacks_after stacks [] s inside = refl
get_or-stacks_after stacks (cell ∷ cells) s inside =
    get_or-stacks_after (stacks ++ made_by stacks cell ∷ []) cells s
    (omega (arith, length_push stacks (made_by stacks cell)))
    ∙ get_or_append_left stacks (made_by stacks cell ∷ []) [] s inside

-- a further cell makes a further stack
stacks_after-push : (stacks : List (List Frame)) (cells : List StackCell) (cell : StackCell)
    → stacks_after stacks (cells ++ cell ∷ []) ≡ stacks_after stacks cells ++ made_by (stacks_after stacks cells) cell
    ∷ []
stacks_after-push stacks [] cell = refl
stacks_after-push stacks (first ∷ cells) cell = stacks_after-push (stacks ++ made_by stacks first ∷ []) cells cell

-- the stack that a cell makes has its frame on the frames of the stack below
stacks_after-cell : (stacks : List (List Frame)) (cells : List StackCell) (k : ℕ) (cell : StackCell)
    → slice_get cells k ≡ Some cell → cell.below < length stacks + k
    → slice_index_or (stacks_after stacks cells) (length stacks + k) []
    ≡ slice_index_or (stacks_after stacks cells) cell.below [] ++ cell.frame ∷ []
stacks_after-cell stacks [] k cell here below = absurd cc
stacks_after-cell stacks (first ∷ cells) zero cell here below =
    let more = stacks ++ made_by stacks first ∷ [] in
    let long = length_push stacks (made_by stacks first) in
    let one : first ≡ cell = cc in
    let inside : cell.below < length stacks = omega arith in
    get_or-stacks_after more cells (length stacks + 0) (omega arith)
    ∙ get_or_at stacks (made_by stacks first) [] [] (length stacks + 0) (omega arith)
    ∙ ap (made_by stacks) one
    ∙ ap (λ frames. frames ++ cell.frame ∷ []) (sym (get_or-stacks_after more cells cell.below (omega arith)
    ∙ get_or_append_left stacks (made_by stacks first ∷ []) [] cell.below inside))
stacks_after-cell stacks (first ∷ cells) (suc k) cell here below =
    let more = stacks ++ made_by stacks first ∷ [] in
    let long = length_push stacks (made_by stacks first) in
    let place : length stacks + suc k ≡ length more + k = omega arith in
    rw place (stacks_after-cell more cells k cell here (omega arith))

-- there is one stack more than there are cells
pub length-stacks_of : (cells : List StackCell) → length (stacks_of cells) ≡ length cells + 1
length-stacks_of cells = omega (arith, length-stacks_after ([] ∷ []) cells)

-- number 0 has no frames
pub frames_of_zero : (cells : List StackCell) → frames_of cells 0 ≡ []
frames_of_zero cells = get_or-stacks_after ([] ∷ []) cells 0 (omega arith)

-- nor has a number past all stacks
pub frames_of_past : (cells : List StackCell) (s : ℕ) → length cells < s → frames_of cells s ≡ []
frames_of_past cells s past = get_or_past (stacks_of cells) s [] (omega (arith, length-stacks_of cells))

-- the cell at place k makes stack k + 1
pub frames_of-cell : (cells : List StackCell) (k : ℕ) (cell : StackCell) → slice_get cells k ≡ Some cell
    → cell.below ≤ k
    → frames_of cells (k + 1) ≡ frames_of cells cell.below ++ cell.frame ∷ []
frames_of-cell cells k cell here below =
    let place : k + 1 ≡ 1 + k = omega arith in
    rw place (stacks_after-cell ([] ∷ []) cells k cell here (omega arith))

-- the cell that makes a stack with frames
pub frames_of_stack : (cells : List StackCell) (stack : ℕ) (d : StackCell) → AreCells cells → 0 < stack
    → stack ≤ length cells
    → frames_of cells stack
    ≡ frames_of cells (slice_index_or cells (stack - 1) d).below ++ (slice_index_or cells (stack - 1) d).frame ∷ []
frames_of_stack cells stack d lawful some inside =
    let cell = slice_index_or cells (stack - 1) d in
    let here : slice_get cells (stack - 1) ≡ Some cell = slice_get-get_or cells (stack - 1) d (omega arith) in
    let place : stack ≡ stack - 1 + 1 = omega arith in
    ap (frames_of cells) place ∙ frames_of-cell cells (stack - 1) cell here (lawful.below (stack - 1) cell here)

-- a further cell changes no stack
pub frames_of-push : (cells : List StackCell) (cell : StackCell) (s : ℕ) → s ≤ length cells
    → frames_of (cells ++ cell ∷ []) s ≡ frames_of cells s
frames_of-push cells cell s inside =
    ap (λ stacks. slice_index_or stacks s []) (stacks_after-push ([] ∷ []) cells cell)
    ∙ get_or_append_left (stacks_of cells) (made_by (stacks_of cells) cell ∷ []) [] s
    (omega (arith, length-stacks_of cells))
