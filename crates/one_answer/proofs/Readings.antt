-- A text is read as lines in one way, so that texts are alike exactly where these lines are.
use Rattle.std.proofs.Common.{◌≡◌, ℕ, ◌^◌, ◌<◌, true, List, [], ◌∷◌, ◌++◌, map, Option, decimal, refl, ap, sym, ◌∙◌, arith}
use Rattle.std.specs.Prelude.{codes, nat_lt}
use Rattle.std.specs.List.{AllByRecursion, list_all}
use Rattle.std.proofs.lemmas.Bool.{and_parts, and_from}
use Rattle.std.proofs.lemmas.List.{append-nil}
use Rattle.std.proofs.lemmas.Fmt.{decimal_injective}
use Rattle.transition_spec.specs.declared.way.Way.{Way}
use Rattle.report_spec.specs.declared.line.Line.{Line}
use Rattle.report_spec.specs.declared.line.Line.TheVariants.{At, Context, Unreachable}
use Rattle.report_spec.specs.declared.line.Verdict.{Verdict}
use Rattle.report_spec.specs.declared.line.Verdict.TheVariants.{AlwaysHit, AlwaysMiss, Unknown}
use Rattle.report_spec.specs.HasText.{FitsVerdict, FitsLine, HasText}
use Rattle.report_spec.specs.Text.{address_text, back_text, text_of}
use Rattle.report_spec.specs.Valid.{is_letter, is_valid_way, is_valid_verdict, has_back_as_deep, is_valid}
use Rattle.one_answer.specs.Alike.{verdict_alone, line_alone, AreAlike, AreAlikeTexts}
use Rattle.one_answer.proofs.Fields.{address_injective, first_address, back_injective, choices_injective}
use Rattle.one_answer.proofs.Tokens.{ended}
use Rattle.one_answer.proofs.LineTokens.{verdict_tokens, tokens_of, no_range, no_context_at, no_context_from, same_words}

-- the choices of a verdict's ways are letters
abbrev HasLetters : Verdict → Type 0
HasLetters AlwaysHit = Unit {0}
HasLetters AlwaysMiss = Unit {0}
HasLetters (Unknown hit miss) = (list_all is_letter hit.choices ≡ true) × (list_all is_letter miss.choices ≡ true)

-- the numbers of a line fit, and its choices are letters
abbrev IsReadable : Line → Type 0
IsReadable (At at verdict) = FitsLine (At at verdict) × HasLetters verdict
IsReadable (Context node at depth back verdict) = FitsLine (Context node at depth back verdict) × HasLetters verdict
IsReadable (Unreachable first last) = FitsLine (Unreachable first last) × Unit {0}

-- a way is its steps and its choices
one_way : (way other : Way) → way.steps ≡ other.steps → way.choices ≡ other.choices → way ≡ other
one_way way other steps choices =
    let made : ℕ → List ℕ → Way = λ n letters. record { steps = n; choices = letters } in
    ap (λ n. made n way.choices) steps ∙ ap (made other.steps) choices

-- a verdict is determined by its words
one_verdict : (verdict other : Verdict) → FitsVerdict verdict → FitsVerdict other → HasLetters verdict
    → HasLetters other
    → verdict_tokens verdict ≡ verdict_tokens other → verdict ≡ other
one_verdict AlwaysHit AlwaysHit fits fits' has has' same = refl
one_verdict AlwaysMiss AlwaysMiss fits fits' has has' same = refl
one_verdict (Unknown hit miss) (Unknown hit' miss') fits fits' has has' same =
    let hits : hit ≡ hit' = one_way hit hit' (decimal_injective hit.steps hit'.steps fits.0 fits'.0 (cc same))
    (choices_injective hit.choices hit'.choices has.0 has'.0 (cc same)) in
    let misses : miss ≡ miss' = one_way miss miss' (decimal_injective miss.steps miss'.steps fits.1 fits'.1 (cc same))
    (choices_injective miss.choices miss'.choices has.1 has'.1 (cc same)) in
    cc (hits, misses)
one_verdict verdict other fits fits' has has' same = absurd (cc same)

-- ---- the words of a line

-- a number of 32 bits, by its text
one_number : (n m : ℕ) → n < 2 ^ 32 → m < 2 ^ 32 → decimal n ≡ decimal m → n ≡ m
one_number n m fits fits' same = decimal_injective n m (omega arith) (omega arith) same

-- a range is determined by its words
one_range : (first last first' last' : ℕ) → IsReadable (Unreachable first last) → IsReadable (Unreachable first' last')
    → address_text first ++ (45 ∷ address_text last) ≡ address_text first' ++ (45 ∷ address_text last')
    → Unreachable first last ≡ Unreachable first' last'
one_range first last first' last' readable readable' same =
    let (firsts, after) = first_address first first' (45 ∷ address_text last) (45 ∷ address_text last') same in
    let begins = address_injective first first' readable.0.0 readable'.0.0 firsts in
    let ends = address_injective last last' readable.0.1 readable'.0.1 (cc after) in
    cc (begins, ends)

-- a line of a configuration is determined by its words
one_configuration : (node at depth node' at' depth' : ℕ) (back back' : Option ℕ) (verdict verdict' : Verdict)
    → IsReadable (Context node at depth back verdict) → IsReadable (Context node' at' depth' back' verdict')
    → tokens_of (Context node at depth back verdict) ≡ tokens_of (Context node' at' depth' back' verdict')
    → Context node at depth back verdict ≡ Context node' at' depth' back' verdict'
one_configuration node at depth node' at' depth' back back' verdict verdict' readable readable' same =
    let nodes = one_number node node' readable.0.0 readable'.0.0 (cc same) in
    let ats = address_injective at at' readable.0.1 readable'.0.1 (cc same) in
    let depths = one_number depth depth' readable.0.2 readable'.0.2 (cc same) in
    let backs = back_injective back back' readable.0.3 readable'.0.3 (cc same) in
    let said = one_verdict verdict verdict' readable.0.4 readable'.0.4 readable.1 readable'.1 (cc same) in
    cc (nodes, ats, depths, backs, said)

-- no verdict is the word of a range
no_range_alone : (verdict : Verdict) → verdict_tokens verdict ≡ ended (codes "unreachable") ∷ [] → ⊥
no_range_alone verdict same = no_range verdict [] [] (append-nil (verdict_tokens verdict) ∙ same)

-- each line is determined by its words
one_line : (line other : Line) → IsReadable line → IsReadable other → tokens_of line ≡ tokens_of other → line ≡ other
one_line (At at verdict) (At at' verdict') readable readable' same =
    let ats = address_injective at at' readable.0.0 readable'.0.0 (cc same) in
    let said = one_verdict verdict verdict' readable.0.1 readable'.0.1 readable.1 readable'.1 (cc same) in
    cc (ats, said)
one_line (At at verdict) (Context node at' depth back verdict') readable readable' same =
    absurd (no_context_at at node _ _ same)
one_line (At at verdict) (Unreachable first last) readable readable' same = absurd (no_range_alone verdict (cc same))
one_line (Context node at depth back verdict) (At at' verdict') readable readable' same =
    absurd (no_context_at at' node _ _ (sym same))
one_line (Context node at depth back verdict) (Context node' at' depth' back' verdict') readable readable' same =
    one_configuration node at depth node' at' depth' back back' verdict verdict' readable readable' same
one_line (Context node at depth back verdict) (Unreachable first last) readable readable' same =
    absurd (no_context_from first node (45 ∷ address_text last) _ _ (sym same))
one_line (Unreachable first last) (At at verdict) readable readable' same = absurd (no_range_alone verdict (cc same))
one_line (Unreachable first last) (Context node at depth back verdict) readable readable' same =
    absurd (no_context_from first node (45 ∷ address_text last) _ _ same)
one_line (Unreachable first last) (Unreachable first' last') readable readable' same =
    one_range first last first' last' readable readable' (cc same)

-- so are lists of lines
one_by_one : (lines others : List Line) → AllByRecursion IsReadable lines → AllByRecursion IsReadable others
    → map tokens_of lines ≡ map tokens_of others → lines ≡ others
one_by_one [] [] readable readable' same = refl
one_by_one [] (other ∷ others) readable readable' same = absurd (cc same)
one_by_one (line ∷ lines) [] readable readable' same = absurd (cc same)
one_by_one (line ∷ lines) (other ∷ others) readable readable' same =
    let here = one_line line other readable.0 readable'.0 (cc same) in
    let rest = one_by_one lines others readable.1 readable'.1 (cc same) in
    cc (here, rest)

-- ---- without ways

-- verdicts with the same words have the same words without their ways
verdict_words_alone : (verdict other : Verdict) → verdict_tokens verdict ≡ verdict_tokens other
    → verdict_tokens (verdict_alone verdict) ≡ verdict_tokens (verdict_alone other)
verdict_words_alone AlwaysHit AlwaysHit same = refl
verdict_words_alone AlwaysMiss AlwaysMiss same = refl
verdict_words_alone (Unknown hit miss) (Unknown hit' miss') same = refl
verdict_words_alone verdict other same = absurd (cc same)

-- so have lines
line_words_alone : (line other : Line) → tokens_of line ≡ tokens_of other
    → tokens_of (line_alone line) ≡ tokens_of (line_alone other)
line_words_alone (At at verdict) (At at' verdict') same =
    let said = verdict_words_alone verdict verdict' (cc same) in
    let heads : address_text at ≡ address_text at' = cc same in
    cc (heads, said)
line_words_alone (At at verdict) (Context node at' depth back verdict') same = absurd (no_context_at at node _ _ same)
line_words_alone (At at verdict) (Unreachable first last) same = absurd (no_range_alone verdict (cc same))
line_words_alone (Context node at depth back verdict) (At at' verdict') same =
    absurd (no_context_at at' node _ _ (sym same))
line_words_alone (Context node at depth back verdict) (Context node' at' depth' back' verdict') same =
    let said = verdict_words_alone verdict verdict' (cc same) in
    let numbers : decimal node ≡ decimal node' = cc same in
    let heads : address_text at ≡ address_text at' = cc same in
    let deep : decimal depth ≡ decimal depth' = cc same in
    let backs : back_text back ≡ back_text back' = cc same in
    cc (numbers, heads, deep, backs, said)
line_words_alone (Context node at depth back verdict) (Unreachable first last) same =
    absurd (no_context_from first node (45 ∷ address_text last) _ _ (sym same))
line_words_alone (Unreachable first last) (At at verdict) same = absurd (no_range_alone verdict (cc same))
line_words_alone (Unreachable first last) (Context node at depth back verdict) same =
    absurd (no_context_from first node (45 ∷ address_text last) _ _ same)
line_words_alone (Unreachable first last) (Unreachable first' last') same = same

-- and lists of lines
words_alone : (lines others : List Line) → map tokens_of lines ≡ map tokens_of others
    → map tokens_of (map line_alone lines) ≡ map tokens_of (map line_alone others)
words_alone [] [] same = refl
words_alone [] (other ∷ others) same = absurd (cc same)
words_alone (line ∷ lines) [] same = absurd (cc same)
words_alone (line ∷ lines) (other ∷ others) same =
    let here = line_words_alone line other (cc same) in
    let rest = words_alone lines others (cc same) in
    cc (here, rest)

-- ---- lines that have a text

-- a valid verdict's choices are letters
letters_of : (verdict : Verdict) → is_valid_verdict verdict ≡ true → HasLetters verdict
letters_of AlwaysHit valid = tt
letters_of AlwaysMiss valid = tt
letters_of (Unknown hit miss) valid =
    let ways = and_parts (is_valid_way hit) (is_valid_way miss) valid in (
      (and_parts (nat_lt 0 hit.steps) (list_all is_letter hit.choices) ways.0).1,
      (and_parts (nat_lt 0 miss.steps) (list_all is_letter miss.choices) ways.1).1,
    )

-- a line that has a text is determined by its words
readable_of : (line : Line) → HasText line → IsReadable line
readable_of (At at verdict) has = (has.fits, letters_of verdict has.valid)
readable_of (Context node at depth back verdict) has =
    (has.fits, letters_of verdict (and_parts (has_back_as_deep depth back) (is_valid_verdict verdict) has.valid).1)
readable_of (Unreachable first last) has = (has.fits, tt)

-- without its ways a verdict fits, and has no choices but letters
fits_alone : (verdict : Verdict) → FitsVerdict (verdict_alone verdict) × HasLetters (verdict_alone verdict)
fits_alone AlwaysHit = (tt, tt)
fits_alone AlwaysMiss = (tt, tt)
fits_alone (Unknown hit miss) = ((omega arith, omega arith), (refl, refl))

-- without its ways a line that has a text is determined by its words
readable_alone : (line : Line) → HasText line → IsReadable (line_alone line)
readable_alone (At at verdict) has = let (fits, letters) = fits_alone verdict in ((has.fits.0, fits), letters)
readable_alone (Context node at depth back verdict) has =
    let (fits, letters) = fits_alone verdict in ((has.fits.0, has.fits.1, has.fits.2, has.fits.3, fits), letters)
readable_alone (Unreachable first last) has = (has.fits, tt)

-- lines that have a text are valid
valid_of : (lines : List Line) → AllByRecursion HasText lines → list_all is_valid lines ≡ true
valid_of [] have = refl
valid_of (line ∷ lines) have = and_from (is_valid line) (list_all is_valid lines) have.0.valid (valid_of lines have.1)

-- and determined by their words
readable_lines : (lines : List Line) → AllByRecursion HasText lines → AllByRecursion IsReadable lines
readable_lines [] have = tt
readable_lines (line ∷ lines) have = (readable_of line have.0, readable_lines lines have.1)

-- also without their ways
readable_lines_alone : (lines : List Line) → AllByRecursion HasText lines
    → AllByRecursion IsReadable (map line_alone lines)
readable_lines_alone [] have = tt
readable_lines_alone (line ∷ lines) have = (readable_alone line have.0, readable_lines_alone lines have.1)

-- lines that have one text are the same lines
pub one_reading : (lines others : List Line) → AllByRecursion HasText lines → AllByRecursion HasText others
    → text_of lines ≡ text_of others → lines ≡ others
one_reading lines others have have' same =
    one_by_one lines others (readable_lines lines have) (readable_lines others have')
    (same_words lines others (valid_of lines have) (valid_of others have') same)

-- lines that are alike have texts that are alike
pub texts_alike : (lines others : List Line) → AllByRecursion HasText lines → AllByRecursion HasText others
    → AreAlike lines others
    → AreAlikeTexts (text_of lines) (text_of others)
texts_alike lines others have have' alike =
    (lines, others, (valid_of lines have, refl), (valid_of others have', refl), alike)

-- and no other lines have
pub lines_alike : (lines others : List Line) → AllByRecursion HasText lines → AllByRecursion HasText others
    → AreAlikeTexts (text_of lines) (text_of others) → AreAlike lines others
lines_alike lines others have have' (read, read', (valid, is), (valid', is'), alike) =
    let words = words_alone lines read (same_words lines read (valid_of lines have) valid is) in
    let words' = words_alone others read' (same_words others read' (valid_of others have') valid' is') in
    one_by_one (map line_alone lines) (map line_alone others)
    (readable_lines_alone lines have) (readable_lines_alone others have')
    (words ∙ ap (map tokens_of) alike ∙ sym words')
