-- The answer of the first group of tests that fails is that of the file.
use Rattle.std.proofs.Common.{◌≡◌, ◌⊎◌, inl, ℕ, Option, Some, None, Result, Ok, Err, IfOk, IfErr, IsErrAnd, List, ◌++◌, sym, ap, ◌∙◌, subst}
use Rattle.elf_spec.specs.declared.fault.ElfFault.{ElfFault}
use Rattle.elf_spec.specs.declared.fault.ElfFault.TheVariants.{OutOfMemory}
use Rattle.elf_spec.specs.Image.{Image, image_of, answer_of, kept_of, first_fault}
use Rattle.elf_image.specs.Tests.{identity_tests, machine_tests, table_tests, segment_tests}
use Rattle.elf_image.proofs.Faults.{passed, failed}

-- the groups after the first, and those after the second
abbrev after_identity : List ℕ → List (Option ElfFault)
after_identity file = machine_tests file ++ (table_tests file ++ segment_tests file)

abbrev after_machine : List ℕ → List (Option ElfFault)
after_machine file = table_tests file ++ segment_tests file

pub fault_of_identity : (file : List ℕ) (fault : ElfFault) → first_fault (identity_tests file) ≡ Some fault
    → image_of file ≡ Err fault
unfolding image_of
fault_of_identity file fault here = ap (answer_of file) (failed (identity_tests file) (after_identity file) fault here)

pub fault_of_machine : (file : List ℕ) (fault : ElfFault) → first_fault (identity_tests file) ≡ None
    → first_fault (machine_tests file) ≡ Some fault → image_of file ≡ Err fault
unfolding image_of
fault_of_machine file fault identity here =
    ap (answer_of file)
    (passed (identity_tests file) (after_identity file) identity
    ∙ failed (machine_tests file) (after_machine file) fault here)

pub fault_of_table : (file : List ℕ) (fault : ElfFault) → first_fault (identity_tests file) ≡ None
    → first_fault (machine_tests file) ≡ None
    → first_fault (table_tests file) ≡ Some fault → image_of file ≡ Err fault
unfolding image_of
fault_of_table file fault identity machine here =
    ap (answer_of file)
    (passed (identity_tests file) (after_identity file) identity
    ∙ (passed (machine_tests file) (after_machine file) machine
    ∙ failed (table_tests file) (segment_tests file) fault here))

last_group : (file : List ℕ) → first_fault (identity_tests file) ≡ None → first_fault (machine_tests file) ≡ None
    → first_fault (table_tests file) ≡ None → image_of file ≡ answer_of file (first_fault (segment_tests file))
unfolding image_of
last_group file identity machine table =
    ap (answer_of file)
    (passed (identity_tests file) (after_identity file) identity
    ∙ (passed (machine_tests file) (after_machine file) machine
    ∙ passed (table_tests file) (segment_tests file) table))

pub fault_of_segments : (file : List ℕ) (fault : ElfFault) → first_fault (identity_tests file) ≡ None
    → first_fault (machine_tests file) ≡ None
    → first_fault (table_tests file) ≡ None → first_fault (segment_tests file) ≡ Some fault → image_of file ≡ Err fault
fault_of_segments file fault identity machine table here =
    last_group file identity machine table ∙ ap (answer_of file) here

-- a file that passes them all is kept
pub kept : (file : List ℕ) → first_fault (identity_tests file) ≡ None → first_fault (machine_tests file) ≡ None
    → first_fault (table_tests file) ≡ None → first_fault (segment_tests file) ≡ None
    → image_of file ≡ Ok (kept_of file)
kept file identity machine table segments = last_group file identity machine table ∙ ap (answer_of file) segments

-- where the answer is a fault of the file, a result with that fault meets each clause of `read`
pub only_fault : {T : Type 0} (P Q : T → Type 0) {file bytes : List ℕ} {fault : ElfFault} (result : Result T ElfFault)
    → file ≡ bytes → IsErrAnd result (λ other. other ≡ fault) → image_of file ≡ Err fault
    → record {
      image : IfOk result P;
      fault : IfErr result (λ other. (image_of bytes ≡ Err other) ⊎ (other ≡ OutOfMemory));
      refused : IfErr (image_of bytes) (λ other. result ≡ Err other);
      segments : IfOk result Q;
    }
only_fault P Q {bytes = bytes} (Ok value) same is here = absurd is
only_fault P Q {bytes = bytes} (Err other) same is here =
    let answer : image_of bytes ≡ Err other = sym (ap image_of same) ∙ here ∙ ap Err (sym is) in
    record { image = tt; fault = inl answer; refused = rw answer; segments = tt }

-- where the answer is an image, there is no fault
pub no_fault : (file : List ℕ) (P : ElfFault → Type 0) (image : Image) → image_of file ≡ Ok image
    → IfErr (image_of file) P
no_fault file P image is = let Q : Result Image ElfFault → Type 0 = λ answer. IfErr answer P in subst Q (sym is) tt
