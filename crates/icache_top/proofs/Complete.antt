-- What an answer says of a source that tells its bytes.
use Rattle.std.proofs.Common.{◌≡◌, ℕ, ◌+◌, ◌<◌, List, length, refl, ap, subst, arith, length-append, Some, None}
use Rattle.std.specs.Prelude.{Option, IfSome}
use Rattle.std.proofs.KnownBytes.{Consumes-whole}
use Rattle.byte_port.specs.Count.{Rose}
use Rattle.byte_port.specs.Stream.{Takes}
use Rattle.top_words.specs.declared.status.Status.{Status}
use Rattle.top_words.specs.declared.status.Status.TheVariants.{Done, Usage, OutOfMemory, ReadFault, WriteFault, FileTooBig, Elf, Flow, TooManyBlocks}
use Rattle.icache_top.specs.Answer.{Answers, Read, SaysOf, Decides, Judges, CountsSource, CountsOut, file_limit}

all_reported : (left : Option (List ℕ)) → IfSome left (λ file. Unit {0})
all_reported None = tt
all_reported (Some file) = tt

too_many : (left now : Option (List ℕ)) → Takes left now (file_limit + 1)
    → IfSome left (λ file. file_limit < length file)
too_many None now taken = tt
too_many (Some file) None taken = absurd taken.2
too_many (Some file) (Some rest) taken =
    omega (arith, ap (λ xs. length xs) taken.2, length-append taken.0 rest, taken.1)

-- the file that was read is the bytes that were known
whole : (words : List (List ℕ)) (status : Status) (left now old new : Option (List ℕ))
    → Read words status left now old new
    → IfSome left (λ file. Judges words file status old new)
whole words status left now old new read =
    let (settings, given, (file, reads, tells)) = read in
    Consumes-whole left now file (λ file. Judges words file status old new) reads.0 reads.1
    (settings, given, reads.2, tells)

pub says : (words : List (List ℕ)) (status : Status) (left now old new : Option (List ℕ))
    → Answers words status left now old new
    → IfSome left (λ file. SaysOf words file status old new)
says words Done left now old new a = whole words Done left now old new a
says words WriteFault left now old new a = whole words WriteFault left now old new a
says words (Elf fault) left now old new a = whole words (Elf fault) left now old new a
says words (Flow fault) left now old new a = whole words (Flow fault) left now old new a
says words FileTooBig left now old new a = too_many left now a.0
says words ReadFault left now old new a = all_reported left
says words OutOfMemory left now old new a = all_reported left
says words Usage left now old new a = all_reported left
says words (TooManyBlocks set count) left now old new a = whole words (TooManyBlocks set count) left now old new a

at_file : (words : List (List ℕ)) (status : Status) (left : Option (List ℕ)) (file : List ℕ) (old new : Option (List ℕ))
    → left ≡ Some file
    → IfSome left (λ file. SaysOf words file status old new) → SaysOf words file status old new
at_file words status left file old new is reported =
    let P : Option (List ℕ) → Type 0 = λ left. IfSome left (λ file. SaysOf words file status old new) in
    subst P is reported

pub decides : (words : List (List ℕ)) (status : Status) (left : Option (List ℕ)) (file : List ℕ)
    (old new : Option (List ℕ)) (f f' o o' : ℕ)
    → left ≡ Some file → IfSome left (λ file. SaysOf words file status old new) → (status ≡ Usage → ⊥)
    → CountsSource status f f' → CountsOut status o o' → (Rose f f' → ⊥) → (Rose o o' → ⊥)
    → Decides words file status old new
decides words Usage left file old new f f' o o' is reported used reads writes no_read no_write = used refl
decides words ReadFault left file old new f f' o o' is reported used reads writes no_read no_write = no_read reads
decides words WriteFault left file old new f f' o o' is reported used reads writes no_read no_write = no_write writes
decides words Done left file old new f f' o o' is reported used reads writes no_read no_write =
    at_file words Done left file old new is reported
decides words OutOfMemory left file old new f f' o o' is reported used reads writes no_read no_write = tt
decides words FileTooBig left file old new f f' o o' is reported used reads writes no_read no_write =
    at_file words FileTooBig left file old new is reported
decides words (Elf fault) left file old new f f' o o' is reported used reads writes no_read no_write =
    at_file words (Elf fault) left file old new is reported
decides words (Flow fault) left file old new f f' o o' is reported used reads writes no_read no_write =
    at_file words (Flow fault) left file old new is reported
decides words (TooManyBlocks set count) left file old new f f' o o' is reported used reads writes no_read no_write =
    at_file words (TooManyBlocks set count) left file old new is reported
