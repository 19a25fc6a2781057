-- The words of lines: valid lines with one text have the same words.
use Rattle.std.proofs.Common.{◌≡◌, ℕ, ◌<◌, true, List, [], ◌∷◌, ◌++◌, map, get_or, decimal, refl, ap, sym, ◌∙◌, append_assoc, arith}
use Rattle.std.specs.Prelude.{codes, flat_map, nat_lt}
use Rattle.std.specs.List.{list_all}
use Rattle.std.proofs.lemmas.Bool.{and_parts, and_from}
use Rattle.std.proofs.lemmas.List.Folds.{list_all-append}
use Rattle.std.proofs.lemmas.List.{append-nil}
use Rattle.report_spec.specs.declared.line.Line.{Line}
use Rattle.report_spec.specs.declared.line.Line.TheVariants.{At, Context, Unreachable}
use Rattle.report_spec.specs.declared.line.Verdict.{Verdict}
use Rattle.report_spec.specs.declared.line.Verdict.TheVariants.{AlwaysHit, AlwaysMiss, Unknown}
use Rattle.report_spec.specs.Text.{address_text, choices_text, back_text, said_text, context_text, line_text, text_of}
use Rattle.report_spec.specs.Valid.{is_letter, is_valid_way, is_valid_verdict, has_back_as_deep, is_valid}
use Rattle.one_answer.proofs.Tokens.{Token, spaced, ended, word_of, is_token, written, written-append, one_cut}
use Rattle.one_answer.proofs.Fields.{decimal_word, address_word, range_word, back_word, choices_word}

-- the words of a verdict
abbrev pub verdict_tokens : Verdict → List Token
verdict_tokens AlwaysHit = ended (codes "always-hit") ∷ []
verdict_tokens AlwaysMiss = ended (codes "always-miss") ∷ []
verdict_tokens (Unknown hit miss) =
    spaced (codes "unknown") ∷ spaced (codes "hit") ∷ spaced (decimal hit.steps) ∷ spaced (choices_text hit.choices)
    ∷ spaced (codes "miss") ∷ spaced (decimal miss.steps) ∷ ended (choices_text miss.choices) ∷ []

-- the words of a line
abbrev pub tokens_of : Line → List Token
tokens_of (At at verdict) = spaced (address_text at) ∷ verdict_tokens verdict
tokens_of (Context node at depth back verdict) =
    spaced (35 ∷ decimal node) ∷ spaced (address_text at) ∷ spaced (codes "depth") ∷ spaced (decimal depth)
    ∷ spaced (codes "back") ∷ spaced (back_text back) ∷ verdict_tokens verdict
tokens_of (Unreachable first last) =
    spaced (address_text first ++ (45 ∷ address_text last)) ∷ ended (codes "unreachable") ∷ []

-- ---- a line's text is its words

-- the end of a line with a verdict is a space and the words of the verdict
verdict_written : (verdict : Verdict) (after : List ℕ)
    → said_text verdict ++ after ≡ 32 ∷ written (verdict_tokens verdict) after
verdict_written AlwaysHit after = refl
verdict_written AlwaysMiss after = refl
verdict_written (Unknown hit miss) after = simp append_assoc

-- the text of a line is its words
line_written : (line : Line) (after : List ℕ) → line_text line ++ after ≡ written (tokens_of line) after
line_written (At at verdict) after = rw (append_assoc, verdict_written verdict after) refl
line_written (Context node at depth back verdict) after =
    append_assoc (context_text node at depth back) (said_text verdict) after
    ∙ ap (λ said. context_text node at depth back ++ said) (verdict_written verdict after) ∙ simp append_assoc
line_written (Unreachable first last) after = simp append_assoc

-- the text of lines is their words
text_written : (lines : List Line) → text_of lines ≡ written (flat_map tokens_of lines) []
text_written [] = refl
text_written (line ∷ lines) =
    line_written line (text_of lines) ∙ ap (written (tokens_of line)) (text_written lines)
    ∙ sym (written-append (tokens_of line) (flat_map tokens_of lines) [])

-- ---- the words of valid lines are words

-- those of a verdict
verdict_words : (verdict : Verdict) → is_valid_verdict verdict ≡ true
    → list_all is_token (verdict_tokens verdict) ≡ true
verdict_words AlwaysHit valid = refl
verdict_words AlwaysMiss valid = refl
verdict_words (Unknown hit miss) valid =
    let ways = and_parts (is_valid_way hit) (is_valid_way miss) valid in
    let hits = and_parts (nat_lt 0 hit.steps) (list_all is_letter hit.choices) ways.0 in
    let misses = and_parts (nat_lt 0 miss.steps) (list_all is_letter miss.choices) ways.1 in
    let hit_word = choices_word hit.choices hits.1 in
    let miss_word = choices_word miss.choices misses.1 in
    rw (decimal_word hit.steps, hit_word, decimal_word miss.steps, miss_word) refl

-- those of a line
line_words : (line : Line) → is_valid line ≡ true → list_all is_token (tokens_of line) ≡ true
line_words (At at verdict) valid = rw (address_word at, verdict_words verdict valid) refl
line_words (Context node at depth back verdict) valid =
    let said = (and_parts (has_back_as_deep depth back) (is_valid_verdict verdict) valid).1 in
    rw (decimal_word node, address_word at, decimal_word depth, back_word back, verdict_words verdict said) refl
line_words (Unreachable first last) valid = rw (range_word first last) refl

-- those of lines
lines_words : (lines : List Line) → list_all is_valid lines ≡ true → list_all is_token (flat_map tokens_of lines) ≡ true
lines_words [] valid = refl
lines_words (line ∷ lines) valid =
    let parts = and_parts (is_valid line) (list_all is_valid lines) valid in
    list_all-append is_token (tokens_of line) (flat_map tokens_of lines)
    ∙ and_from (list_all is_token (tokens_of line)) (list_all is_token (flat_map tokens_of lines))
    (line_words line parts.0) (lines_words lines parts.1)

-- ---- a list of words is cut into lines in one way

-- words that begin with two verdicts begin with the words of one
first_verdict : (verdict other : Verdict) (xs ys : List Token)
    → verdict_tokens verdict ++ xs ≡ verdict_tokens other ++ ys
    → (verdict_tokens verdict ≡ verdict_tokens other) × (xs ≡ ys)
first_verdict AlwaysHit AlwaysHit xs ys same = (refl, cc same)
first_verdict AlwaysMiss AlwaysMiss xs ys same = (refl, cc same)
first_verdict (Unknown hit miss) (Unknown hit' miss') xs ys same = (cc same, cc same)
first_verdict verdict other xs ys same = absurd (cc same)

-- the third byte of the first word
abbrev third : List Token → ℕ
third [] = 0
third (token ∷ tokens) = get_or (word_of token) 2 0

-- different numbers
apart : (m n : ℕ) → m < n → m ≡ n → ⊥
apart m n less same = omega arith

-- no verdict begins with the word of a range
pub no_range : (verdict : Verdict) (xs ys : List Token)
    → verdict_tokens verdict ++ xs ≡ ended (codes "unreachable") ∷ ys → ⊥
no_range AlwaysHit xs ys same = apart 114 119 (omega arith) (sym (ap third same))
no_range AlwaysMiss xs ys same = apart 114 119 (omega arith) (sym (ap third same))
no_range (Unknown hit miss) xs ys same = apart 107 114 (omega arith) (ap third same)

-- no address begins as the number of a configuration does
no_number : (p : ℕ) (xs ys : List ℕ) → address_text p ++ xs ≡ 35 ∷ ys → ⊥
unfolding address_text
no_number p xs ys same = cc same

-- so no line by address begins as one with contexts does
pub no_context_at : (p node : ℕ) (xs ys : List Token) → spaced (address_text p) ∷ xs ≡ spaced (35 ∷ decimal node) ∷ ys
    → ⊥
no_context_at p node xs ys same =
    let heads : address_text p ≡ 35 ∷ decimal node = cc same in
    no_number p [] (decimal node) (append-nil (address_text p) ∙ heads)

-- nor does a range
pub no_context_from : (first node : ℕ) (more : List ℕ) (xs ys : List Token)
    → spaced (address_text first ++ more) ∷ xs ≡ spaced (35 ∷ decimal node) ∷ ys → ⊥
no_context_from first node more xs ys same =
    let heads : address_text first ++ more ≡ 35 ∷ decimal node = cc same in no_number first more (decimal node) heads

-- words that begin with two lines begin with the words of one
first_line : (line other : Line) (xs ys : List Token) → tokens_of line ++ xs ≡ tokens_of other ++ ys
    → (tokens_of line ≡ tokens_of other) × (xs ≡ ys)
first_line (At at verdict) (At at' verdict') xs ys same =
    let heads : address_text at ≡ address_text at' = cc same in
    let rest : verdict_tokens verdict ++ xs ≡ verdict_tokens verdict' ++ ys = cc same in
    let (said, after) = first_verdict verdict verdict' xs ys rest in
    (cc (heads, said), after)
first_line (At at verdict) (Context node at' depth back verdict') xs ys same = absurd (no_context_at at node _ _ same)
first_line (At at verdict) (Unreachable first last) xs ys same = absurd (no_range verdict xs ys (cc same))
first_line (Context node at depth back verdict) (At at' verdict') xs ys same =
    absurd (no_context_at at' node _ _ (sym same))
first_line (Context node at depth back verdict) (Context node' at' depth' back' verdict') xs ys same =
    let numbers : decimal node ≡ decimal node' = cc same in
    let heads : address_text at ≡ address_text at' = cc same in
    let deep : decimal depth ≡ decimal depth' = cc same in
    let backs : back_text back ≡ back_text back' = cc same in
    let rest : verdict_tokens verdict ++ xs ≡ verdict_tokens verdict' ++ ys = cc same in
    let (said, after) = first_verdict verdict verdict' xs ys rest in
    (cc (numbers, heads, deep, backs, said), after)
first_line (Context node at depth back verdict) (Unreachable first last) xs ys same =
    absurd (no_context_from first node (45 ∷ address_text last) _ _ (sym same))
first_line (Unreachable first last) (At at verdict) xs ys same = absurd (no_range verdict ys xs (cc same))
first_line (Unreachable first last) (Context node at depth back verdict) xs ys same =
    absurd (no_context_from first node (45 ∷ address_text last) _ _ same)
first_line (Unreachable first last) (Unreachable first' last') xs ys same = (cc same, cc same)

-- a line has some words
no_words : (line : Line) (xs : List Token) → tokens_of line ++ xs ≡ [] → ⊥
no_words (At at verdict) xs none = cc none
no_words (Context node at depth back verdict) xs none = cc none
no_words (Unreachable first last) xs none = cc none

-- the words of lines determine those of each line
line_by_line : (lines others : List Line) → flat_map tokens_of lines ≡ flat_map tokens_of others
    → map tokens_of lines ≡ map tokens_of others
line_by_line [] [] same = refl
line_by_line [] (other ∷ others) same = absurd (no_words other (flat_map tokens_of others) (sym same))
line_by_line (line ∷ lines) [] same = absurd (no_words line (flat_map tokens_of lines) same)
line_by_line (line ∷ lines) (other ∷ others) same =
    let (here, after) = first_line line other (flat_map tokens_of lines) (flat_map tokens_of others) same in
    let rest = line_by_line lines others after in
    cc (here, rest)

-- valid lines with one text have the same words
pub same_words : (lines others : List Line) → list_all is_valid lines ≡ true → list_all is_valid others ≡ true
    → text_of lines ≡ text_of others
    → map tokens_of lines ≡ map tokens_of others
same_words lines others valid valid' same =
    line_by_line lines others
    (one_cut (flat_map tokens_of lines) (flat_map tokens_of others)
    (lines_words lines valid) (lines_words others valid')
    (sym (text_written lines) ∙ same ∙ text_written others))
