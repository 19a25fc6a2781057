-- The texts compute, and what the paths fetch; an address has no line where it is the middle of a word that is reached.
use Rattle.std.proofs.Common.{◌≡◌, ℕ, zero, suc, [], ◌∷◌, refl, subst, inl, inr, arith, lit<, Some}
use Rattle.std.specs.Fmt.{digits}
use Rattle.std.specs.List.Sorted.{IsStrictlyIncreasing}
use Rattle.hex.specs.Hex.{encode_with}
use Rattle.elf_spec.specs.Parcel.{parcel_at, long_at}
use Rattle.riscv_spec.specs.declared.parcel.Isa.TheVariants.{Rv32ic}
use Rattle.flow_spec.specs.declared.instruction.Instruction.TheVariants.{Word, Parcel}
use Rattle.flow_spec.specs.Instruction.{instruction_at}
use Rattle.report_spec.specs.Inner.{IsUnreached, IsInner, HasLine}
use Rattle.report_spec.specs.Text.{address_text, text_of}
use Rattle.worked_examples.specs.Caches.{geometry}
use Rattle.worked_examples.specs.Compressed.{long_between, call_over_stop}
use Rattle.worked_examples.specs.Programs.{program_of, as_parcels}
use Rattle.worked_examples.specs.Reports.{whole_lines, whole_report, parted_lines, parted_report, called_lines, called_report}
use Rattle.worked_examples.proofs.Compressed.{whole_rest, whole_goes, parted_rest, parted_goes, called_rest, called_goes}
use Rattle.worked_examples.proofs.OnePath.{always_hit, always_miss, unreached, some_reached, fetched_line, all_known}
use Rattle.worked_examples.proofs.laws.worked_compressed_reports.Goals as goal

whole_text : whole_report ≡ text_of whole_lines
unfolding address_text encode_with digits
whole_text = refl

parted_text : parted_report ≡ text_of parted_lines
unfolding address_text encode_with digits
parted_text = refl

called_text : called_report ≡ text_of called_lines
unfolding address_text encode_with digits
called_text = refl

-- the middle of the long instruction
middle_inner : IsInner (as_parcels 16 long_between) 0x10004
unfolding parcel_at long_at
middle_inner = record {
  text = refl;
  unfetched = unreached 16 long_between whole_rest whole_goes 0x10004 (refl, (refl, (refl, tt)));
  begins = 0x10002;
  middle = refl;
  four_bytes = (0x00000013, refl);
  reached = some_reached 16 long_between whole_rest whole_goes 1 _ _ refl;
}

whole_rising : IsStrictlyIncreasing (0x10000 ∷ 0x10002 ∷ 0x10006 ∷ [])
whole_rising zero below = lit< tt
whole_rising (suc zero) below = lit< tt
whole_rising (suc (suc k)) below = absurd (omega arith)

pub returns-clause-whole : goal.returns-clause-whole
unfolding parcel_at
returns-clause-whole c =
    let g = geometry 16 1 1 in
    let fetched = fetched_line 16 long_between whole_rest whole_goes in
    let misses = always_miss 16 long_between whole_rest whole_goes g in
    let hits = always_hit 16 long_between whole_rest whole_goes g in (
      whole_lines,
      whole_text,
      record {
        rising = whole_rising;
        all = all_known 16 long_between (0x10000 ∷ 0x10002 ∷ 0x10006 ∷ [])
            (fetched 0 _ _ refl refl, (fetched 1 _ _ refl refl, (fetched 2 _ _ refl refl, tt)))
            (inl (0, lit< tt, refl), (inl (1, lit< tt, refl), (inr middle_inner, (inl (2, lit< tt, refl), tt))));
        right = (
          misses 0 _ _ refl (refl, (refl, (refl, tt))),
          (
            hits 1 _ _ refl (refl, (refl, (refl, tt))),
            (hits 2 _ _ refl (refl, (refl, (refl, tt))), tt),
          ),
        );
        greatest = tt;
      },
    )

-- four addresses of two bytes each
four_rising : IsStrictlyIncreasing (0x10000 ∷ 0x10002 ∷ 0x10004 ∷ 0x10006 ∷ [])
four_rising zero below = lit< tt
four_rising (suc zero) below = lit< tt
four_rising (suc (suc zero)) below = lit< tt
four_rising (suc (suc (suc k))) below = absurd (omega arith)

pub returns-clause-parted : goal.returns-clause-parted
unfolding parcel_at
returns-clause-parted c =
    let g = geometry 4 1 4 in
    let fetched = fetched_line 4 long_between parted_rest parted_goes in
    let misses = always_miss 4 long_between parted_rest parted_goes g in
    let hits = always_hit 4 long_between parted_rest parted_goes g in (
      parted_lines,
      parted_text,
      record {
        rising = four_rising;
        all = all_known 4 long_between (0x10000 ∷ 0x10002 ∷ 0x10004 ∷ 0x10006 ∷ []) (
          fetched 0 _ _ refl refl,
          (fetched 1 _ _ refl refl, (fetched 2 _ _ refl refl, (fetched 3 _ _ refl refl, tt))),
        ) (
          inl (0, lit< tt, refl),
          (inl (1, lit< tt, refl), (inl (2, lit< tt, refl), (inl (3, lit< tt, refl), tt))),
        );
        right = (
          misses 0 _ _ refl (refl, (refl, (refl, (refl, tt)))),
          (
            hits 1 _ _ refl (refl, (refl, (refl, (refl, tt)))),
            (
              misses 2 _ _ refl (refl, (refl, (refl, (refl, tt)))),
              (hits 3 _ _ refl (refl, (refl, (refl, (refl, tt)))), tt),
            ),
          ),
        );
        greatest = tt;
      },
    )

-- nothing fetches what comes after the return
last_unreached : IsUnreached (as_parcels 16 call_over_stop) 0x10006
last_unreached = unreached 16 call_over_stop called_rest called_goes 0x10006 (refl, (refl, (refl, tt)))

return_is : instruction_at Rv32ic (program_of call_over_stop) 0x10004 ≡ Some (Parcel 0x8082)
unfolding parcel_at long_at
return_is = refl

-- it isn't inner, since the return has two bytes
last_line : HasLine (as_parcels 16 call_over_stop) 0x10006
unfolding parcel_at
last_line = (
  refl,
  λ inner.
      let middle = inner.middle in
      let begins : inner.begins ≡ 0x10004 = omega (arith, middle) in
      let (code, word) = inner.four_bytes in
      let here : instruction_at Rv32ic (program_of call_over_stop) 0x10004 ≡ Some (Word code) =
      subst (λ (p : ℕ). instruction_at Rv32ic (program_of call_over_stop) p ≡ Some (Word code)) begins word in
      cc (here, return_is),
)

pub returns-clause-called : goal.returns-clause-called
unfolding parcel_at
returns-clause-called c =
    let g = geometry 16 1 1 in
    let fetched = fetched_line 16 call_over_stop called_rest called_goes in
    let misses = always_miss 16 call_over_stop called_rest called_goes g in
    let hits = always_hit 16 call_over_stop called_rest called_goes g in (
      called_lines,
      called_text,
      record {
        rising = four_rising;
        all = all_known 16 call_over_stop (0x10000 ∷ 0x10002 ∷ 0x10004 ∷ 0x10006 ∷ []) (
          fetched 0 _ _ refl refl,
          (fetched 2 _ _ refl refl, (fetched 1 _ _ refl refl, (last_line, tt))),
        ) (
          inl (0, lit< tt, refl),
          (inl (1, lit< tt, refl), (inl (2, lit< tt, refl), (inl (3, lit< tt, refl), tt))),
        );
        right = (
          misses 0 _ _ refl (refl, (refl, (refl, tt))),
          (
            hits 2 _ _ refl (refl, (refl, (refl, tt))),
            (hits 1 _ _ refl (refl, (refl, (refl, tt))), (((0, lit< tt, refl), (last_unreached, tt)), tt)),
          ),
        );
        greatest = tt;
      },
    )
