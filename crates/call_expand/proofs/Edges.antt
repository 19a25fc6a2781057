-- The edges of a point, as its successors.
use Rattle.std.proofs.Common.{◌≡◌, ℕ, ◌+◌, ◌%◌, ◌^◌, ◌==◌, ◌≤◌, ◌<◌, List, [], ◌∷◌, ◌++◌, length, take, drop, get_or, Option, Some, None, refl, sym, ap, ◌∙◌, subst, arith, append_assoc, add-one, take-append-drop}
use Rattle.std.specs.Prelude.{Result, Ok, Err, IsOk, IfOk, OnOk}
use Rattle.std.specs.List.{AllByRecursion, AllZip}
use Rattle.std.proofs.lemmas.Bool.{lt-ltb, le-ltb, cond-true, cond-false, cond_both}
use Rattle.std.proofs.lemmas.List.{drop_more, map-append, take_all}
use Rattle.elf_spec.specs.Image.{Image}
use Rattle.flow_spec.specs.Program.{Program}
use Rattle.flow_spec.specs.Acceptance.{Step, IsFaultless}
use Rattle.riscv_spec.specs.declared.parcel.Isa.{Isa}
use Rattle.riscv_spec.specs.declared.parcel.Isa.TheVariants.{Rv32i, Rv32ic}
use Rattle.flow_spec.specs.declared.instruction.Instruction.{Instruction}
use Rattle.flow_spec.specs.declared.instruction.Instruction.TheVariants.{Word, Parcel, Cut}
use Rattle.flow_spec.specs.Instruction.{IsText, instruction_at, parts_of, parts_at}
use Rattle.flow_spec.specs.Configuration.{Configuration, configuration, next_part}
use Rattle.flow_spec.specs.Next.{Going, next_at}
use Rattle.flow_spec.specs.Successors.{Successors, successors, successors_by, newest, older}
use Rattle.flow_spec.specs.declared.frame.Frame.{Frame}
use Rattle.flow_spec.specs.declared.fault.FlowFault.{FlowFault}
use Rattle.flow_spec.specs.declared.next.Next.{Next}
use Rattle.flow_spec.specs.declared.next.Next.TheVariants.{Ends, Go, Fork, Enter, Back}
use Rattle.frame_stacks.specs.declared.stacks.StackCell.{StackCell}
use Rattle.frame_stacks.specs.Stacks.{frames_of}
use Rattle.call_expand.specs.declared.point.Point.{Point}
use Rattle.call_expand.specs.declared.point.Edges.{Edges}
use Rattle.call_expand.specs.Point.{configuration_at, configurations_at, IsPoint, ArePoints, GoesOn, points_of, IsEdge, Opens, FailsAt, AreAllFollowed}
use Rattle.call_expand.proofs.Ordered.{point}
use Rattle.call_expand.proofs.Texts.{AreTexts, next-texts}
use Rattle.call_expand.proofs.Zipped.{map-same, all-weaker, all-prefix, all-at, zip-weaker, zip-more}

-- the edges of a point: nowhere, to the next part of its instruction, to one point, and to two of one stack
abbrev pub none : Edges
none = record { first = None; second = None }

abbrev pub part_after : Point → Edges
part_after p = record { first = Some (record { at = p.at; part = p.part + 1; stack = p.stack }); second = None }

abbrev pub one : ℕ → ℕ → Edges
one at stack = record { first = Some (point at stack); second = None }

abbrev pub two : ℕ → ℕ → ℕ → Edges
two next target stack = record { first = Some (point next stack); second = Some (point target stack) }

-- another part of the instruction comes after the one that a point fetches
abbrev pub HasNextPart : Program → Point → Type 0
HasNextPart program p = p.part + 1 < parts_at program.isa program.image program.line p.at

-- where control goes from the last part of an instruction, by its address and the newest call
pub record GoesTo (program : Program) (cells : List StackCell) (p : Point) (going : Going) : Type 0 where
  pub last : parts_at program.isa program.image program.line p.at ≤ p.part + 1
  pub next : next_at program.isa program.image p.at (newest (frames_of cells p.stack)) ≡ going

-- the successor of a point that has a next part
pub successors-part : (program : Program) (cells : List StackCell) (p : Point) → HasNextPart program p
    → successors program (configuration_at cells p) ≡ Ok (next_part (configuration_at cells p) ∷ [])
unfolding successors
successors-part program cells p on = cond-true _ _ _ (lt-ltb _ _ on)

-- the successors of another point, by where control goes
pub successors-by : (program : Program) (cells : List StackCell) (p : Point) (going : Going)
    → GoesTo program cells p going
    → successors program (configuration_at cells p) ≡ successors_by program.entry (configuration_at cells p) going
unfolding successors
successors-by program cells p going is =
    cond-false _ _ _ (le-ltb _ _ is.last) ∙ ap (successors_by program.entry (configuration_at cells p)) is.next

-- there may be more cells
pub same-configuration : (before after : List StackCell) (p : Point) → GoesOn before after → p.stack ≤ length before
    → configuration_at after p ≡ configuration_at before p
same-configuration before after p goes_on known =
    let at : List Frame → Configuration = λ frames. record { frames = frames; at = p.at; part = p.part } in
    ap at (goes_on.kept p.stack known)

-- with more cells a point is still one
pub same-point : (program : Program) (before after : List StackCell) → GoesOn before after → (p : Point)
    → IsPoint program before p → IsPoint program after p
same-point program before after goes_on p is = record {
  known = omega (arith, is.known, goes_on.longer);
  text = is.text;
  fits = is.fits;
}

-- with more cells some points have the same configurations
pub same-configurations : (program : Program) (before after : List StackCell) (points : List Point)
    → GoesOn before after
    → ArePoints program before points
    → configurations_at after points ≡ configurations_at before points
same-configurations program before after points goes_on are =
    map-same (configuration_at after) (configuration_at before) points
    (all-weaker (IsPoint program before) (λ p. configuration_at after p ≡ configuration_at before p)
    (λ p is. same-configuration before after p goes_on is.known) points are)

-- with more cells edges are still those of their point
pub same-edge : (step : Step) (program : Program) (before after : List StackCell) → GoesOn before after
    → (p : Point) (edges : Edges)
    → IsPoint program before p → IsEdge step program before p edges → IsEdge step program after p edges
same-edge step program before after goes_on p edges is edge = record {
  goes =
      ap step (same-configuration before after p goes_on is.known)
      ∙ (edge.goes ∙ ap (λ cs. Ok cs)
      (sym (same-configurations program before after (points_of edges) goes_on edge.points)));
  points =
      all-weaker (IsPoint program before) (IsPoint program after) (same-point program before after goes_on)
      (points_of edges) edge.points;
  first = edge.first;
  apart = edge.apart;
}

-- going on is reflexive and transitive
pub goes_on-refl : (cells : List StackCell) → GoesOn cells cells
goes_on-refl cells = record { longer = omega arith; kept = λ s known. refl }

pub goes_on-trans : (a b c : List StackCell) → GoesOn a b → GoesOn b c → GoesOn a c
goes_on-trans a b c first second = record {
  longer = omega (arith, first.longer, second.longer);
  kept = λ s known. second.kept s (omega (arith, first.longer)) ∙ first.kept s known;
}

-- the first part of an instruction is a point
pub point-at : {program : Program} {cells : List StackCell} (at stack : ℕ) → stack ≤ length cells
    → IsText program.isa program.image at → at < 2 ^ 32 → IsPoint program cells (point at stack)
point-at at stack known text fits = record { known = known; text = text; fits = omega (arith, fits) }

-- no instruction has more than two parts
parts-few : (line at : ℕ) (o : Option Instruction) → parts_of line at o ≤ 2
parts-few line at None = omega arith
parts-few line at (Some (Parcel code)) = omega arith
parts-few line at (Some (Cut code)) = omega arith
parts-few line at (Some (Word code)) =
    cond_both ((at + 2) % line == 0) 2 1 (λ n. n ≤ 2) (λ _. omega arith) (λ _. omega arith)

-- nor has the one at an address
parts-at_most : (isa : Isa) (image : Image) (line at : ℕ) → parts_at isa image line at ≤ 2
parts-at_most Rv32i image line at = omega arith
parts-at_most Rv32ic image line at = parts-few line at (instruction_at Rv32ic image at)

module _ {program : Program} {cells : List StackCell} {p : Point} (is : IsPoint program cells p) where
  -- control goes to the text
  texts : {next : Next} → GoesTo program cells p (Ok next) → AreTexts program.isa program.image next
  texts {next} goes = next-texts program.isa program.image p.at _ next goes.next

  -- a path ends at a point: it has no edges
  pub edge-ends : GoesTo program cells p (Ok Ends) → IsEdge (successors program) program cells p none
  edge-ends next = record {
    goes = successors-by program cells p (Ok Ends) next;
    points = tt;
    first = λ _. refl;
    apart = λ a b first. absurd (cc);
  }

  -- the next part of the instruction is fetched
  pub edge-part : HasNextPart program p
      → (parts_at program.isa program.image program.line p.at ≡ 2 → p.at + 4 ≤ 2 ^ 32)
      → IsEdge (successors program) program cells p (part_after p)
  edge-part on end = record {
    goes = successors-part program cells p on;
    points =
        let few = parts-at_most program.isa program.image program.line p.at in
        (record { known = is.known; text = is.text; fits = omega (arith, few, end) }, tt);
    first = λ _. refl;
    apart = λ a b first second. absurd (cc);
  }

  -- control goes to one point, with the same calls open
  pub edge-go : (target : ℕ) → target < 2 ^ 32 → GoesTo program cells p (Ok (Go target))
      → IsEdge (successors program) program cells p (one target p.stack)
  edge-go target fits next = record {
    goes = successors-by program cells p (Ok (Go target)) next;
    points = (point-at target p.stack is.known (texts next) fits, tt);
    first = λ _. refl;
    apart = λ a b first second. absurd (cc);
  }

  -- control goes to the next word or the target of a branch
  pub edge-fork : (next target : ℕ) → next < 2 ^ 32 → target < 2 ^ 32 → GoesTo program cells p (Ok (Fork next target))
      → IsEdge (successors program) program cells p (two next target p.stack)
  edge-fork next target fits others_fit fork =
      let both = texts fork in
      record {
        goes = successors-by program cells p (Ok (Fork next target)) fork;
        points = (
          point-at next p.stack is.known both.0 fits,
          (point-at target p.stack is.known both.1 others_fit, tt),
        );
        first = λ none. absurd (cc);
        apart = λ a b first second same.
            let one : next ≡ a.at = cc in
            let other : target ≡ b.at = cc in
            both.2 (one ∙ (same ∙ sym other));
      }

  -- control goes back to the caller, and the newest call is closed
  pub edge-back : (target below : ℕ) → target < 2 ^ 32 → below ≤ length cells
      → frames_of cells below ≡ older (frames_of cells p.stack)
      → GoesTo program cells p (Ok (Back target))
      → IsEdge (successors program) program cells p (one target below)
  edge-back target below fits known frames next = record {
    goes =
        successors-by program cells p (Ok (Back target)) next
        ∙ ap (λ (frames : List Frame). Ok (configuration frames target ∷ [])) (sym frames);
    points = (point-at target below known (texts next) fits, tt);
    first = λ _. refl;
    apart = λ a b first second. absurd (cc);
  }

  -- control goes to the function that a call opens
  pub edge-enter : (after : List StackCell) (target : ℕ) (frame : Frame) (edges : Edges) → target < 2 ^ 32
      → GoesOn cells after
      → GoesTo program cells p (Ok (Enter target frame)) → Opens program.entry cells after p target frame edges
      → IsEdge (successors program) program after p edges
  edge-enter after target frame edges fits goes_on next opens =
      let P : Edges → Type 0 = λ edges. IsEdge (successors program) program after p edges in
      subst P (sym opens.is) (record {
        goes =
            ap (successors program) (same-configuration cells after p goes_on is.known)
            ∙ (successors-by program cells p (Ok (Enter target frame)) next ∙ opens.goes);
        points = (point-at {cells = after} target opens.stack opens.known (texts next) fits, tt);
        first = λ _. refl;
        apart = λ a b first second. absurd (cc);
      })

-- the first i points are followed
pub record AreFollowed (step : Step) (program : Program) (before : List StackCell) (points : List Point) (i : ℕ)
    (now : List StackCell) (old new : List Edges) : Type 0 where
  pub goes_on : GoesOn before now
  pub few : length now ≤ length before + i
  pub more : List Edges
  pub is : new ≡ old ++ more
  pub each : AllZip (IsEdge step program now) (take i points) more

-- points that have edges have no fault
pub edges-faultless : (step : Step) (program : Program) (before now : List StackCell) → GoesOn before now
    → (points : List Point) (edges : List Edges)
    → ArePoints program before points → AllZip (IsEdge step program now) points edges
    → AllByRecursion (IsFaultless step) (configurations_at before points)
edges-faultless step program before now goes_on [] edges are each = tt
edges-faultless step program before now goes_on (p ∷ points) [] are each = absurd each
edges-faultless step program before now goes_on (p ∷ points) (edge ∷ edges) are each =
    let goes : step (configuration_at before p) ≡ Ok (configurations_at now (points_of edge)) =
    ap step (sym (same-configuration before now p goes_on are.0.known)) ∙ each.0.goes in
    let P : Successors → Type 0 = λ r. IsOk r in
    (subst P (sym goes) refl, edges-faultless step program before now goes_on points edges are.1 each.1)

module _ {step : Step} {program : Program} {before : List StackCell} {points : List Point} {i : ℕ}
    {now : List StackCell} {old new : List Edges} (are : ArePoints program before points) (within : i < length points)
    (followed : AreFollowed step program before points i now old new) where
  -- the first of some points are such points
  are-prefix : ArePoints program before (take i points)
  are-prefix = let P : List Point → Type 0 = ArePoints program before in
      all-prefix (IsPoint program before) (take i points) (drop i points)
      (subst P (sym (take-append-drop i points)) are)

  -- one point more is followed
  pub followed-more : (after : List StackCell) (p d : Point) (edge : Edges) (edges : List Edges) → p ≡ get_or points i d
      → GoesOn now after
      → length after ≤ length now + 1 → IsEdge step program after p edge → edges ≡ new ++ edge ∷ []
      → AreFollowed step program before points (i + 1) after old edges
  followed-more after p d edge edges here goes_on one is pushed =
      let Q : Point → Type 0 = λ p. IsEdge step program after p edge in
      let still =
      zip-weaker (IsPoint program now) (IsEdge step program now) (IsEdge step program after)
      (same-edge step program now after goes_on) (take i points)
      followed.more
      (all-weaker (IsPoint program before) (IsPoint program now) (same-point program before now followed.goes_on)
      (take i points) are-prefix)
      followed.each in
      let R : ℕ → Type 0 = λ j. AllZip (IsEdge step program after) (take j points) (followed.more ++ edge ∷ []) in
      record {
        goes_on = goes_on-trans before now after followed.goes_on goes_on;
        few = omega (arith, followed.few, one);
        more = followed.more ++ edge ∷ [];
        is = pushed ∙ ap (λ es. es ++ edge ∷ []) followed.is ∙ append_assoc old followed.more (edge ∷ []);
        each =
            subst R (sym (add-one i))
            (zip-more (IsEdge step program after) points followed.more i d edge within still (subst Q here is));
      }

  -- the next point has a fault, and is the first faulty one
  pub followed-fault : (p d : Point) (fault : FlowFault) → p ≡ get_or points i d
      → step (configuration_at now p) ≡ Err fault
      → FailsAt step (configurations_at before points) fault
  followed-fault p d fault here faulty =
      let Q : Point → Type 0 = λ p. IsPoint program before p in
      let is : IsPoint program before p = subst Q (sym here) (all-at (IsPoint program before) points i d are within) in
      let cut : points ≡ take i points ++ p ∷ drop (i + 1) points =
      sym (take-append-drop i points)
      ∙ ap (λ ps. take i points ++ ps) (drop_more points i d within ∙ ap (λ p. p ∷ drop (i + 1) points) (sym here)) in
      record {
        before = configurations_at before (take i points);
        c = configuration_at before p;
        after = configurations_at before (drop (i + 1) points);
        split =
            ap (configurations_at before) cut
            ∙ map-append (configuration_at before) (take i points) (p ∷ drop (i + 1) points);
        faultless =
            edges-faultless step program before now followed.goes_on (take i points) followed.more are-prefix
            followed.each;
        faulty = ap step (sym (same-configuration before now p followed.goes_on is.known)) ∙ faulty;
      }

-- what holds of a value, with what holds where there is one
pub ok-with : {T E : Type 0} (r : Result T E) (P Q : T → Type 0) (G : Type 0) → ((x : T) → P x → G → Q x) → IfOk r P
    → OnOk r G → IfOk r Q
ok-with (Ok x) P Q G to first second = to x first second
ok-with (Err e) P Q G to first second = tt

-- all points are followed
pub followed-all : {step : Step} {program : Program} {before now : List StackCell} {points : List Point} {i : ℕ}
    {old new : List Edges} → i ≤ length points → length points ≤ i
    → AreFollowed step program before points i now old new
    → AreAllFollowed step program before now points old new
followed-all {step} {program} {before} {now} {points} {i} within past followed =
    let P : List Point → Type 0 = λ ps. AllZip (IsEdge step program now) ps followed.more in
    record {
      goes_on = followed.goes_on;
      few = omega (arith, followed.few);
      more = followed.more;
      is = followed.is;
      each = subst P (take_all i points past) followed.each;
    }
