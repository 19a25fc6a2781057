-- The lines of a report by address: each address that has a line stands in one, and each line is right.
use Rattle.std.proofs.Common.{ℕ, ◌+◌, List, [], ◌∷◌, ◌++◌, subst, sym, arith, Option, Some, None}
use Rattle.std.specs.Prelude.{false, flat_map}
use Rattle.std.specs.List.{AllByRecursion}
use Rattle.cache_spec.specs.Geometry.{Geometry}
use Rattle.cache_spec.specs.declared.start.Start.{Start}
use Rattle.flow_spec.specs.Program.{Program}
use Rattle.flow_spec.specs.Configuration.{Configuration}
use Rattle.path_model.specs.declared.graph.Node.{Node}
use Rattle.report_spec.specs.declared.line.Line.{Line}
use Rattle.report_spec.specs.declared.line.Line.TheVariants.{At, Context, Unreachable}
use Rattle.node_spec.specs.declared.verdict.NodeVerdict.{NodeVerdict}
use Rattle.report_spec.specs.Inner.{IsUnreached, step_of}
use Rattle.report_spec.specs.Report.{range_addresses, addresses_from, addresses_of, IsRightLine, AreGreatest, AreByAddress}
use Rattle.call_expand.proofs.Zipped.{all-weaker}
use Rattle.node_spec.specs.Plan.{Layout, layout, IsBare, HasLineIn, IsNextLine, IsMerged, IsLineAt, IsByAddress, last_of}
use Rattle.report_lines.specs.Findings.{AreFindings}
use Rattle.report_lines.specs.Lines.{AreAllFrom}
use Rattle.report_lines.proofs.Transport.{merged_right, bare_unreached}
use Rattle.report_lines.proofs.Steps.{after, steps_in, range_first, range_end}
use Rattle.report_lines.proofs.Listed.{IsListed, listed_none, listed_from_next, listed_one, listed_range}
use Rattle.report_lines.proofs.Inner.{has_line}

-- the addresses that lines of a program speak of
abbrev addresses_in : Program → List Line → List ℕ
addresses_in program lines = flat_map (addresses_of (step_of program.isa)) lines

-- the lines begin with no range, or with one of a bare address
abbrev BeginsBare : Layout → List Line → Type 0
BeginsBare layout [] = Unit {0}
BeginsBare layout (At at verdict ∷ lines) = Unit {0}
BeginsBare layout (Context node at depth back verdict ∷ lines) = Unit {0}
BeginsBare layout (Unreachable first last ∷ lines) = IsBare layout first

-- what holds of all lines from an address on
record AreListed (program : Program) (g : Geometry) (start : Start) (layout : Layout) (from : ℕ)
    (lines : List Line) : Type 0 where
  addresses : IsListed layout from (addresses_in program lines)
  right : AllByRecursion (IsRightLine program g start) lines
  greatest : AreGreatest (step_of program.isa) lines
  begins : BeginsBare layout lines

-- no range could be joined with the next, where that begins at a bare address and the first doesn't go on
still_greatest : (layout : Layout) (first last : ℕ) (lines : List Line)
    → (IsBare layout (last + step_of layout.isa) → ⊥)
    → BeginsBare layout lines → AreGreatest (step_of layout.isa) lines
    → AreGreatest (step_of layout.isa) (Unreachable first last ∷ lines)
still_greatest layout first last [] ends bare greatest = tt
still_greatest layout first last (At at verdict ∷ lines) ends bare greatest = greatest
still_greatest layout first last (Context node at depth back verdict ∷ lines) ends bare greatest = greatest
still_greatest layout first last (Unreachable next end ∷ lines) ends bare greatest =
    (λ same. ends (subst (IsBare layout) same bare), greatest)

module _ (program : Program) (g : Geometry) (start : Start) (configurations : List Configuration)
    (nodes : List Node) (verdicts : List NodeVerdict)
    (found : AreFindings program g start false configurations nodes verdicts) where
  -- its layout
  abbrev laid : Layout
  laid = layout program.image program.isa configurations nodes

  -- the same of this program
  abbrev Listed : ℕ → List Line → Type 0
  Listed = AreListed program g start laid

  -- bytes in a step
  abbrev step : ℕ
  step = step_of program.isa

  -- where no line is left
  nothing : (from : ℕ) → IsNextLine laid from None → Listed from []
  nothing from none = record { addresses = listed_none laid from none; right = tt; greatest = tt; begins = tt }

  -- a range of addresses that are all bare, before those after its last
  range_listed : (first last : ℕ) (lines : List Line)
      → AllByRecursion (IsBare laid) (first ∷ addresses_from step (first + step) (steps_in program.isa first last))
      → IsListed laid (after step first (steps_in program.isa first last) + 1) (addresses_in program lines)
      → IsListed laid first (addresses_in program (Unreachable first last ∷ lines))
  range_listed first last lines bare beyond =
      subst (λ (xs : List ℕ). IsListed laid first (xs ++ addresses_in program lines))
      (sym (range_first program.isa first last))
      (listed_range laid first (steps_in program.isa first last) (addresses_in program lines)
      (all-weaker (IsBare laid) (HasLineIn laid) (λ x b. b.line)
      (first ∷ addresses_from step (first + step) (steps_in program.isa first last)) bare) beyond)

  -- a line before those after its last address
  with_line : (p : ℕ) (line : Line) (lines : List Line) → HasLineIn laid p → IsLineAt laid verdicts p line
      → Listed (last_of line + 1) lines → Listed p (line ∷ lines)
  with_line p (Context node at depth back verdict) lines here is beyond = absurd is
  with_line p (At at verdict) lines here (same, merged) beyond =
      subst (λ (q : ℕ). Listed q (At at verdict ∷ lines)) same (record {
        addresses = listed_one laid at (addresses_in program lines) (subst (HasLineIn laid) (sym same) here)
            beyond.addresses;
        right = (
          merged_right program g start configurations nodes verdicts found.graph found.right at verdict
              (subst (λ (q : ℕ). IsMerged nodes verdicts q verdict) (sym same) merged),
          beyond.right,
        );
        greatest = beyond.greatest;
        begins = tt;
      })
  with_line p (Unreachable first last) lines here (same, range) beyond =
      let bare : AllByRecursion (IsBare laid)
      (first ∷ addresses_from step (first + step) (steps_in program.isa first last)) =
      subst (λ (xs : List ℕ). AllByRecursion (IsBare laid) xs) (range_first program.isa first last) range.bare in
      let unreached = bare_unreached program g start configurations nodes verdicts found.graph found.right in
      subst (λ (q : ℕ). Listed q (Unreachable first last ∷ lines)) same (record {
        addresses = range_listed first last lines bare
            (subst (λ (q : ℕ). IsListed laid (q + 1) (addresses_in program lines))
            (range_end program.isa first last range.ends) beyond.addresses);
        right = (
          (
            range.ends,
            all-weaker (IsBare laid) (IsUnreached program) (λ x b. unreached x b.bare) (range_addresses step first last)
                range.bare,
          ),
          beyond.right,
        );
        greatest = still_greatest laid first last lines range.greatest beyond.begins beyond.greatest;
        begins = bare.0;
      })

  -- what begins at the next address with a line begins before it
  from_next : (from p : ℕ) (lines : List Line) → IsNextLine laid from (Some p) → Listed p lines → Listed from lines
  from_next from p lines next at_p = record {
    addresses = listed_from_next laid from p (addresses_in program lines) next at_p.addresses;
    right = at_p.right;
    greatest = at_p.greatest;
    begins = at_p.begins;
  }

  -- what begins after an address, where those from the next one with a line on are listed
  after_line : (from : ℕ) (lines : List Line)
      → ((q : ℕ) → AreAllFrom (IsByAddress laid verdicts) (Some q) lines → Listed q lines)
      → (next : Option ℕ) → IsNextLine laid from next → AreAllFrom (IsByAddress laid verdicts) next lines
      → Listed from lines
  after_line from lines later None none empty =
      subst (λ (ls : List Line). Listed from ls) (sym empty) (nothing from none)
  after_line from lines later (Some q) to all = from_next from q lines to (later q all)

  -- all lines from a cursor on
  listed : (lines : List Line) (from : ℕ) → AreAllFrom (IsByAddress laid verdicts) (Some from) lines
      → Listed from lines
  listed [] from none = nothing from none
  listed (line ∷ lines) from (next, (p, first, line_is, beyond), later) =
      from_next from p (line ∷ lines) first
      (with_line p line lines first.0 line_is
      (after_line (last_of line + 1) lines (listed lines) next beyond later))

  -- all lines are those of the report by address
  pub by_address : (lines : List Line) → AreAllFrom (IsByAddress laid verdicts) (Some 0) lines
      → AreByAddress program g start lines
  by_address lines all =
      let it = listed lines 0 all in
      let line = has_line program g start false configurations nodes verdicts found in
      record {
        rising = it.addresses.rising;
        all = λ address. (
          λ has. (line address).0 (it.addresses.sound address has).0,
          λ has. it.addresses.complete address ((line address).1 has) (omega arith),
        );
        right = it.right;
        greatest = it.greatest;
      }
