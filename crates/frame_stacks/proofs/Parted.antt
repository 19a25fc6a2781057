-- Where two stacks part: one step further down, and what decides their order there.
use Rattle.std.proofs.Common.{◌≡◌, ◌⊎◌, ℕ, ◌<◌, List, [], ◌∷◌, ◌++◌, refl, sym, ap, ◌∙◌, inl, inr, append_assoc, append-nil, arith}
use Rattle.std.proofs.lemmas.Map.Lookups.{exact_bytes}
use Rattle.std.specs.Prelude.{Option, Some, None}
use Rattle.std.specs.Option.{option_cmp}
use Rattle.std.specs.Ordering.{ordering_then}
use Rattle.std.specs.declared.cmp.Ordering.{Ordering}
use Rattle.std.specs.declared.cmp.Ordering.TheVariants.{Less, Equal, Greater}
use Rattle.flow_spec.specs.declared.frame.Frame.{Frame}
use Rattle.flow_spec.specs.Successors.{newest}
use Rattle.frame_stacks.specs.declared.stacks.StackCell.{StackCell}
use Rattle.frame_stacks.specs.Stacks.{frames_of, frames_cmp}
use Rattle.frame_stacks.specs.Parting.{HasNext, GoesDown, Part, frame_cmp}
use Rattle.frame_stacks.proofs.Made.{frames_of_zero}
use Rattle.frame_stacks.proofs.Ends.{newest_push}
use Rattle.frame_stacks.proofs.Compared.{frames_cmp-append, frames_cmp_itself, frame_from_numbers}

-- what is above the stack below the lowest one so far
next_down : (cells : List StackCell) (high low next : ℕ) (cell : StackCell) → GoesDown cells high low next
    → frames_of cells low ≡ frames_of cells cell.below ++ cell.frame ∷ []
    → (next ≡ 0) ⊎ (0 < next) → HasNext cells high cell.below low
next_down cells high low next cell down made (inl none) = record {
  top = cell.frame;
  above = [];
  known = down.known;
  one_more = made;
  whole = ap (frames_of cells) (down.arrived none) ∙ made;
}
next_down cells high low next cell down made (inr some) =
    let step = down.stepped some in
    record {
      top = cell.frame;
      above = step.top ∷ step.above;
      known = down.known;
      one_more = made;
      whole = step.whole
          ∙ ap (λ frames. frames ++ step.top ∷ step.above) made
          ∙ append_assoc (frames_of cells cell.below) (cell.frame ∷ []) (step.top ∷ step.above);
    }

-- the number of a stack is 0, or of one with frames
zero_or_more : (n : ℕ) → (n ≡ 0) ⊎ (0 < n)
zero_or_more n = grind arith

-- one step further down
pub goes_further : (cells : List StackCell) (high low next : ℕ) (cell : StackCell) → GoesDown cells high low next
    → 0 < low
    → cell.below < low → frames_of cells low ≡ frames_of cells cell.below ++ cell.frame ∷ []
    → GoesDown cells high cell.below low
goes_further cells high low next cell down some below made = record {
  known = omega (arith, down.known);
  arrived = λ none. absurd (omega arith);
  stepped = λ _. next_down cells high low next cell down made (zero_or_more next);
}

-- what two lists have in common doesn't decide
above_cmp : (common xs ys above others : List Frame) → xs ≡ common ++ above → ys ≡ common ++ others
    → frames_cmp xs ys ≡ frames_cmp above others
above_cmp common xs ys above others first second =
    ap (λ frames. frames_cmp frames ys) first
    ∙ ap (frames_cmp (common ++ above)) second
    ∙ frames_cmp-append common common above others refl
    ∙ ap (λ order. ordering_then order (frames_cmp above others)) (frames_cmp_itself common)

-- an order that isn't Equal is decided
decided : (order rest : Ordering) → (order ≡ Equal → ⊥) → ordering_then order rest ≡ order
decided Less rest other = refl
decided Greater rest other = refl
decided Equal rest other = absurd (other refl)

-- number 0 has no newest frame
top_none : (cells : List StackCell) (next : ℕ) → next ≡ 0 → newest (frames_of cells next) ≡ None
top_none cells next none = ap (λ s. newest (frames_of cells s)) none ∙ ap newest (frames_of_zero cells)

-- the newest frame right above
top_some : (cells : List StackCell) (high low next : ℕ) (step : HasNext cells high low next)
    → newest (frames_of cells next) ≡ Some step.top
top_some cells high low next step = ap newest step.one_more ∙ newest_push (frames_of cells low) step.top

-- a stack has nothing above itself
nothing_above : (cells : List StackCell) (high low : ℕ) → high ≡ low → frames_of cells high ≡ frames_of cells low ++ []
nothing_above cells high low same = ap (frames_of cells) same ∙ sym (append-nil (frames_of cells low))

-- an order by two frames that may be there, once they are known
by_tops : (x y u v : Option Frame) (order : Ordering) → x ≡ u → y ≡ v → order ≡ option_cmp frame_cmp u v
    → option_cmp frame_cmp x y ≡ order
by_tops x y u v order first second decides =
    ap (λ top. option_cmp frame_cmp top y) first ∙ ap (option_cmp frame_cmp u) second ∙ sym decides

-- different frames right above decide, whatever is above them
tops_decide : (cells : List StackCell) (a b common one other : ℕ) (step : HasNext cells a common one)
    (turn : HasNext cells b common other)
    → (frames_of cells one ≡ frames_of cells other → ⊥)
    → frames_cmp (step.top ∷ step.above) (turn.top ∷ turn.above) ≡ frame_cmp step.top turn.top
tops_decide cells a b common one other step turn apart =
    frames_cmp-append (step.top ∷ []) (turn.top ∷ []) step.above turn.above refl
    ∙ decided (frame_cmp step.top turn.top) (frames_cmp step.above turn.above) (λ equal.
    let same = frame_from_numbers step.top turn.top (exact_bytes _ _ equal) in
    apart (step.one_more ∙ ap (λ frame. frames_of cells common ++ frame ∷ []) same ∙ sym turn.one_more))

-- the order, by whether either stack is below the other
order_by : (cells : List StackCell) (a b one other : ℕ) → Part cells a b one other
    → (one ≡ 0) ⊎ (0 < one) → (other ≡ 0) ⊎ (0 < other)
    → option_cmp frame_cmp (newest (frames_of cells one)) (newest (frames_of cells other))
    ≡ frames_cmp (frames_of cells a) (frames_of cells b)
order_by cells a b one other parted (inl none) (inl neither) =
    let frames = frames_of cells parted.common in
    let first = nothing_above cells a parted.common (parted.first.arrived none) in
    let second = nothing_above cells b parted.common (parted.second.arrived neither) in
    by_tops _ _ None None _ (top_none cells one none) (top_none cells other neither)
    (above_cmp frames _ _ [] [] first second)
order_by cells a b one other parted (inl none) (inr some) =
    let frames = frames_of cells parted.common in
    let first = nothing_above cells a parted.common (parted.first.arrived none) in
    let turn = parted.second.stepped some in
    by_tops _ _ None (Some turn.top) _ (top_none cells one none) (top_some cells b parted.common other turn)
    (above_cmp frames _ _ [] (turn.top ∷ turn.above) first turn.whole)
order_by cells a b one other parted (inr some) (inl none) =
    let frames = frames_of cells parted.common in
    let step = parted.first.stepped some in
    let second = nothing_above cells b parted.common (parted.second.arrived none) in
    by_tops _ _ (Some step.top) None _ (top_some cells a parted.common one step) (top_none cells other none)
    (above_cmp frames _ _ (step.top ∷ step.above) [] step.whole second)
order_by cells a b one other parted (inr some) (inr more) =
    let frames = frames_of cells parted.common in
    let step = parted.first.stepped some in
    let turn = parted.second.stepped more in
    by_tops _ _ (Some step.top) (Some turn.top) _ (top_some cells a parted.common one step)
    (top_some cells b parted.common other turn) (above_cmp frames _ _ (step.top ∷ step.above)
    (turn.top ∷ turn.above) step.whole turn.whole
    ∙ tops_decide cells a b parted.common one other step turn (parted.apart some))

-- the newest frames there decide the order of the two stacks
pub parted_order : (cells : List StackCell) (a b one other : ℕ) → Part cells a b one other
    → option_cmp frame_cmp (newest (frames_of cells one)) (newest (frames_of cells other))
    ≡ frames_cmp (frames_of cells a) (frames_of cells b)
parted_order cells a b one other parted = order_by cells a b one other parted (zero_or_more one) (zero_or_more other)
