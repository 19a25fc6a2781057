-- An index of the cells, when one more cell gets its number.
use Rattle.std.proofs.Common.{◌≡◌, ◌⊎◌, ℕ, suc, zero, ◌+◌, ◌-◌, ◌<◌, ◌≤◌, List, [], ◌∷◌, ◌++◌, length, cond, refl, sym, ap, ◌∙◌, inl, inr, arith}
use Rattle.std.proofs.lemmas.List.{length_push, same_from_push}
use Rattle.std.proofs.lemmas.Option.{slice_get-get_or, slice_get_within}
use Rattle.std.proofs.lemmas.Map.Lookups.{exact_bytes}
use Rattle.std.specs.Prelude.{Some, None, slice_get, slice_index_or}
use Rattle.std.specs.Ordering.{nat_cmp, is_eq}
use Rattle.std.specs.declared.cmp.Ordering.{Ordering}
use Rattle.std.specs.declared.cmp.Ordering.TheVariants.{Less, Equal, Greater}
use Rattle.std.specs.Cmp.Lexicographic.{slice_cmp}
use Rattle.flow_spec.specs.declared.frame.Frame.{Frame}
use Rattle.flow_spec.specs.Order.{frame_numbers}
use Rattle.frame_stacks.specs.declared.stacks.StackCell.{StackCell}
use Rattle.frame_stacks.specs.declared.numbers.Numbers.{Numbers}
use Rattle.frame_stacks.specs.Stacks.{AreCells, frames_of}
use Rattle.frame_stacks.specs.Numbers.{number_of, Gives, IsSame, AreNumbers, AreNumbered}
use Rattle.frame_stacks.proofs.Compared.{frame_from_numbers}
use Rattle.frame_stacks.proofs.Made.{frames_of_zero, frames_of-cell, frames_of-push}

abbrev cell_of : ℕ → Frame → StackCell
cell_of below frame = record { below = below; frame = frame }

-- a cell's numbers are its own
cell_from_numbers : (cell other : StackCell)
    → cell.below ∷ frame_numbers cell.frame ≡ other.below ∷ frame_numbers other.frame → cell ≡ other
cell_from_numbers cell other same =
    let below : cell.below ≡ other.below = cc in
    let frame : cell.frame ≡ other.frame = frame_from_numbers cell.frame other.frame cc in
    ap (λ n. cell_of n cell.frame) below ∙ ap (cell_of other.below) frame

-- another cell, by the order of the two
other_by : {X : Type 0} (cell other : StackCell) (old new given : X) (order : Ordering)
    → slice_cmp nat_cmp (cell.below ∷ frame_numbers cell.frame) (other.below ∷ frame_numbers other.frame) ≡ order
    → new ≡ cond (is_eq order) given old → (other ≡ cell) ⊎ (new ≡ old)
other_by cell other old new given Less is same = inr same
other_by cell other old new given Greater is same = inr same
other_by cell other old new given Equal is same = inl (sym (cell_from_numbers cell other (exact_bytes _ _ is)))

-- a map's entry at another cell's numbers is as it was
pub other_cell : {X : Type 0} (cell other : StackCell) (old new given : X)
    → new ≡ cond (is_eq (slice_cmp nat_cmp (cell.below ∷ frame_numbers cell.frame)
    (other.below ∷ frame_numbers other.frame))) given old
    → (other ≡ cell) ⊎ (new ≡ old)
other_cell cell other old new given same = other_by cell other old new given _ refl same

-- a cell among more is one of the former, or the new one
slice_get-push : (cells : List StackCell) (cell : StackCell) (k : ℕ) (c : StackCell)
    → slice_get (cells ++ cell ∷ []) k ≡ Some c
    → (slice_get cells k ≡ Some c) ⊎ ((k ≡ length cells) × (cell ≡ c))
slice_get-push [] cell zero c here = inr (refl, cc)
slice_get-push [] cell (suc k) c here = absurd cc
slice_get-push (first ∷ cells) cell zero c here = inl here
slice_get-push (first ∷ cells) cell (suc k) c here =
    elim (slice_get-push cells cell k c here) as (λ _. (slice_get cells k ≡ Some c)
    ⊎ ((suc k ≡ suc (length cells)) × (cell ≡ c))) [
      | inl at ↦ inl at
      | inr last ↦ inr (ap suc last.0, last.1)
    ]

-- the new cell is the last
slice_get-push_last : (cells : List StackCell) (cell : StackCell)
    → slice_get (cells ++ cell ∷ []) (length cells) ≡ Some cell
slice_get-push_last [] cell = refl
slice_get-push_last (first ∷ cells) cell = slice_get-push_last cells cell

-- a cell that has no number makes a stack that no number has
is_new : (cells : List StackCell) (numbers : Numbers) (cell : StackCell) (t : ℕ) → AreNumbered cells numbers
    → number_of numbers cell ≡ None → cell.below ≤ length cells → t ≤ length cells
    → frames_of cells cell.below ++ cell.frame ∷ [] ≡ frames_of cells t → ⊥
is_new cells numbers cell zero kept none below inside same =
    let long = ap length (same ∙ frames_of_zero cells) in
    omega (arith, long, length_push (frames_of cells cell.below) cell.frame)
is_new cells numbers cell (suc k) kept none below inside same =
    let c = slice_index_or cells k cell in
    let here : slice_get cells k ≡ Some c = slice_get-get_or cells k cell (omega arith) in
    let low : c.below ≤ k = kept.lawful.below k c here in
    let place : suc k ≡ k + 1 = omega arith in
    let ends = same_from_push _ _ _ _ (same ∙ ap (frames_of cells) place ∙ frames_of-cell cells k c here low) in
    let bottom : cell.below ≡ c.below = kept.lawful.alone cell.below c.below below (omega arith) ends.0 in
    let one : cell ≡ c =
    ap (λ n. cell_of n cell.frame) bottom ∙ ap (cell_of c.below) ends.1 in
    let number : number_of numbers cell ≡ Some (k + 1) = ap (number_of numbers) one ∙ kept.indexed.made k c here in
    cc

-- the new cell too stands on a stack before its own
below_kept : (cells : List StackCell) (cell : StackCell) → AreCells cells → cell.below ≤ length cells
    → (k : ℕ) (c : StackCell) → slice_get (cells ++ cell ∷ []) k ≡ Some c → c.below ≤ k
below_kept cells cell lawful below k c here =
    elim (slice_get-push cells cell k c here) as (λ _. c.below ≤ k) [
      | inl at ↦ lawful.below k c at
      | inr last ↦ let bottom : cell.below ≡ c.below = ap (λ x. x.below) last.1 in omega (arith, last.0)
    ]

-- the stack that a further cell makes
pub frames_of-push_last : (cells : List StackCell) (cell : StackCell) → cell.below ≤ length cells
    → frames_of (cells ++ cell ∷ []) (length cells + 1) ≡ frames_of cells cell.below ++ cell.frame ∷ []
frames_of-push_last cells cell below =
    frames_of-cell (cells ++ cell ∷ []) (length cells) cell (slice_get-push_last cells cell) below
    ∙ ap (λ frames. frames ++ cell.frame ∷ []) (frames_of-push cells cell cell.below below)

-- the last number or one before
last_or_before : (n s : ℕ) → s ≤ n + 1 → (s ≤ n) ⊎ (s ≡ n + 1)
last_or_before n s h = grind arith

-- the new stack has other frames than each former one
alone_kept : (cells : List StackCell) (numbers : Numbers) (cell : StackCell) → AreNumbered cells numbers
    → number_of numbers cell ≡ None → cell.below ≤ length cells
    → (s t : ℕ) → (s ≤ length cells) ⊎ (s ≡ length cells + 1) → (t ≤ length cells) ⊎ (t ≡ length cells + 1)
    → frames_of (cells ++ cell ∷ []) s ≡ frames_of (cells ++ cell ∷ []) t → s ≡ t
alone_kept cells numbers cell kept none below s t (inl low) (inl high) same =
    kept.lawful.alone s t low high (sym (frames_of-push cells cell s low) ∙ same ∙ frames_of-push cells cell t high)
alone_kept cells numbers cell kept none below s t (inr last) (inr end) same = last ∙ sym end
alone_kept cells numbers cell kept none below s t (inr last) (inl high) same =
    absurd (is_new cells numbers cell t kept none below high
    (sym (ap (frames_of (cells ++ cell ∷ [])) last ∙ frames_of-push_last cells cell below) ∙ same ∙ frames_of-push
    cells cell t high))
alone_kept cells numbers cell kept none below s t (inl low) (inr end) same =
    absurd (is_new cells numbers cell s kept none below low
    (sym (ap (frames_of (cells ++ cell ∷ [])) end ∙ frames_of-push_last cells cell below) ∙ sym same
    ∙ frames_of-push cells cell s low))

-- cells stay lawful when a new one is put after them
cells_kept : (cells : List StackCell) (numbers : Numbers) (cell : StackCell) → AreNumbered cells numbers
    → number_of numbers cell ≡ None → cell.below ≤ length cells → AreCells (cells ++ cell ∷ [])
cells_kept cells numbers cell kept none below = record {
  below = below_kept cells cell kept.lawful below;
  alone = λ s t low high same.
      let long = length_push cells cell in
      alone_kept cells numbers cell kept none below s t (last_or_before (length cells) s (omega arith))
      (last_or_before (length cells) t (omega arith)) same;
}

-- each cell's number is still that of its stack
made_kept : (cells : List StackCell) (old new : Numbers) (cell : StackCell) → AreNumbers cells old
    → number_of old cell ≡ None → Gives old new cell (length cells + 1)
    → (k : ℕ) (c : StackCell) → slice_get (cells ++ cell ∷ []) k ≡ Some c → number_of new c ≡ Some (k + 1)
made_kept cells old new cell kept none gives k c here =
    elim (slice_get-push cells cell k c here) as (λ _. number_of new c ≡ Some (k + 1)) [
      | inl at ↦ elim (gives.others c) as (λ _. number_of new c ≡ Some (k + 1)) [
        | inl one ↦ let known = kept.made k c at in
            let other : number_of old c ≡ None = ap (number_of old) one ∙ none in
            absurd cc
        | inr same ↦ same ∙ kept.made k c at
      ]
      | inr last ↦ ap (number_of new) (sym last.1) ∙ gives.given ∙ ap (λ n. Some (n + 1)) (sym last.0)
    ]

-- the former cells keep their places
slice_get-before : (cells : List StackCell) (cell c : StackCell) (k : ℕ) → slice_get cells k ≡ Some c
    → slice_get (cells ++ cell ∷ []) k ≡ Some c
slice_get-before [] cell c k here = absurd cc
slice_get-before (first ∷ cells) cell c zero here = here
slice_get-before (first ∷ cells) cell c (suc k) here = slice_get-before cells cell c k here

-- each number is still that of its cell
found_kept : (cells : List StackCell) (old new : Numbers) (cell : StackCell) → AreNumbers cells old
    → Gives old new cell (length cells + 1)
    → (c : StackCell) (number : ℕ) → number_of new c ≡ Some number
    → (0 < number) × (slice_get (cells ++ cell ∷ []) (number - 1) ≡ Some c)
found_kept cells old new cell kept gives c number known =
    elim (gives.others c) as (λ _. (0 < number) × (slice_get (cells ++ cell ∷ []) (number - 1) ≡ Some c)) [
      | inl one ↦ let here : Some number ≡ Some (length cells + 1) = sym known ∙ ap (number_of new) one ∙ gives.given in
          let last : number ≡ length cells + 1 = cc in
          let place : number - 1 ≡ length cells = omega arith in
          (omega arith, rw place (slice_get-push_last cells cell ∙ ap Some (sym one)))
      | inr same ↦ let found = kept.found c number (sym same ∙ known) in
          (found.0, slice_get-before cells cell c (number - 1) found.1)
    ]

-- a cell that had no number gets the next one
pub numbered_push : (cells : List StackCell) (old new : Numbers) (cell : StackCell) → AreNumbered cells old
    → number_of old cell ≡ None → cell.below ≤ length cells → Gives old new cell (length cells + 1)
    → AreNumbered (cells ++ cell ∷ []) new
numbered_push cells old new cell kept none below gives = record {
  lawful = cells_kept cells old cell kept none below;
  indexed = record {
    made = made_kept cells old new cell kept.indexed none gives;
    found = found_kept cells old new cell kept.indexed gives;
  };
}

-- another index in which each cell has the same number
pub numbered_same : (cells : List StackCell) (old new : Numbers) → AreNumbered cells old → IsSame old new
    → AreNumbered cells new
numbered_same cells old new kept same = record {
  lawful = kept.lawful;
  indexed = record {
    made = λ k c here. same c ∙ kept.indexed.made k c here;
    found = λ c number known. kept.indexed.found c number (sym (same c) ∙ known);
  };
}

-- no cells, and no numbers
pub numbered_empty : (numbers : Numbers) → ((cell : StackCell) → number_of numbers cell ≡ None) → AreNumbered [] numbers
numbered_empty numbers none = record {
  lawful = record {
    below = λ k c here. absurd cc;
    alone = λ s t low high same. omega arith;
  };
  indexed = record {
    made = λ k c here. absurd cc;
    found = λ c number known. absurd (let no = none c in cc);
  };
}

-- what a known number stands for
pub known_number : (cells : List StackCell) (numbers : Numbers) (cell : StackCell) (number : ℕ)
    → AreNumbered cells numbers
    → number_of numbers cell ≡ Some number
    → (number ≤ length cells) × (frames_of cells number ≡ frames_of cells cell.below ++ cell.frame ∷ [])
known_number cells numbers cell number kept known =
    let found = kept.indexed.found cell number known in
    let inside = slice_get_within cells (number - 1) cell found.1 in
    let place : number ≡ number - 1 + 1 = omega (arith, found.0) in (
      omega arith,
      ap (frames_of cells) place ∙ frames_of-cell cells (number - 1) cell found.1
          (kept.lawful.below _ _ found.1),
    )
