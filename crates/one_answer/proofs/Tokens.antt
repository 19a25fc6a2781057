-- A text of words, each with a space or a line end after it, is cut into these words in one way.
use Rattle.std.proofs.Common.{◌≡◌, ℕ, ◌<◌, ◌≤◌, Bool, true, ltb, List, [], ◌∷◌, ◌++◌, refl, ap, sym, ◌∙◌, arith}
use Rattle.std.specs.List.{list_all}
use Rattle.std.proofs.lemmas.Bool.{and_parts, and_from, ltb-true}
use Rattle.std.proofs.lemmas.List.Folds.{list_all-append}

-- a word, and a space or a line end after it
pub data Token : Type 0 where
  spaced : List ℕ → Token
  ended : List ℕ → Token

-- no byte of the text is a space or a line end
abbrev pub is_word : List ℕ → Bool
is_word word = list_all (λ byte. ltb 32 byte) word

abbrev pub word_of : Token → List ℕ
word_of (spaced word) = word
word_of (ended word) = word

-- the byte after the word
abbrev end_of : Token → ℕ
end_of (spaced word) = 32
end_of (ended word) = 10

-- the word is one
abbrev pub is_token : Token → Bool
is_token token = is_word (word_of token)

-- the text of some tokens, and what stands after them
abbrev pub written : List Token → List ℕ → List ℕ
written [] after = after
written (token ∷ tokens) after = word_of token ++ (end_of token ∷ written tokens after)

-- the text of tokens and more tokens
pub written-append : (tokens others : List Token) (after : List ℕ)
    → written (tokens ++ others) after ≡ written tokens (written others after)
written-append [] others after = refl
written-append (token ∷ tokens) others after =
    ap (λ text. word_of token ++ (end_of token ∷ text)) (written-append tokens others after)

-- two words without a byte between are a word
pub word-append : (word more : List ℕ) → is_word word ≡ true → is_word more ≡ true → is_word (word ++ more) ≡ true
word-append word more is is' =
    list_all-append (λ byte. ltb 32 byte) word more ∙ and_from (is_word word) (is_word more) is is'

-- the byte after a word is no byte of a word
no_end : (byte end : ℕ) (word xs ys : List ℕ) → is_word (byte ∷ word) ≡ true → end ≤ 32 → end ∷ xs ≡ byte ∷ ys → ⊥
no_end byte end word xs ys is below same =
    let parts = and_parts (ltb 32 byte) (is_word word) is in
    let heads : end ≡ byte = cc same in
    let above : 32 < byte = ltb-true 32 byte parts.0 in
    omega arith

-- texts that begin with a word, and a byte that ends it, begin with one word and one byte
one_word : (word other : List ℕ) (end stop : ℕ) (xs ys : List ℕ) → is_word word ≡ true → is_word other ≡ true
    → end ≤ 32 → stop ≤ 32
    → word ++ (end ∷ xs) ≡ other ++ (stop ∷ ys) → (word ≡ other) × (end ≡ stop) × (xs ≡ ys)
one_word [] [] end stop xs ys is is' below below' same = (refl, cc same, cc same)
one_word [] (byte ∷ other) end stop xs ys is is' below below' same =
    absurd (no_end byte end other xs (other ++ (stop ∷ ys)) is' below same)
one_word (byte ∷ word) [] end stop xs ys is is' below below' same =
    absurd (no_end byte stop word ys (word ++ (end ∷ xs)) is below' (sym same))
one_word (byte ∷ word) (byte' ∷ other) end stop xs ys is is' below below' same =
    let rest : word ++ (end ∷ xs) ≡ other ++ (stop ∷ ys) = cc same in
    let heads : byte ≡ byte' = cc same in
    let parts = and_parts (ltb 32 byte) (is_word word) is in
    let parts' = and_parts (ltb 32 byte') (is_word other) is' in
    let (words, ends, after) = one_word word other end stop xs ys parts.1 parts'.1 below below' rest in
    (cc (heads, words), ends, after)

-- a word and the byte after it are no empty text
no_text : (word : List ℕ) (end : ℕ) (xs : List ℕ) → word ++ (end ∷ xs) ≡ [] → ⊥
no_text [] end xs none = cc none
no_text (byte ∷ word) end xs none = cc none

-- the byte after a word is no greater than a space
low_end : (token : Token) → end_of token ≤ 32
low_end (spaced word) = omega arith
low_end (ended word) = omega arith

-- a token is its word and the byte after it
one_token : (token other : Token) → word_of token ≡ word_of other → end_of token ≡ end_of other → token ≡ other
one_token (spaced word) (spaced other) words ends = ap spaced words
one_token (spaced word) (ended other) words ends = absurd (omega (arith, ends))
one_token (ended word) (spaced other) words ends = absurd (omega (arith, ends))
one_token (ended word) (ended other) words ends = ap ended words

-- a text is cut into tokens in one way
pub one_cut : (tokens others : List Token) → list_all is_token tokens ≡ true → list_all is_token others ≡ true
    → written tokens [] ≡ written others [] → tokens ≡ others
one_cut [] [] are are' same = refl
one_cut [] (other ∷ others) are are' same =
    absurd (no_text (word_of other) (end_of other) (written others []) (sym same))
one_cut (token ∷ tokens) [] are are' same = absurd (no_text (word_of token) (end_of token) (written tokens []) same)
one_cut (token ∷ tokens) (other ∷ others) are are' same =
    let is = and_parts (is_token token) (list_all is_token tokens) are in
    let is' = and_parts (is_token other) (list_all is_token others) are' in
    let (words, ends, after) = one_word (word_of token) (word_of other) (end_of token) (end_of other)
    (written tokens []) (written others []) is.0 is'.0 (low_end token) (low_end other) same in
    let here = one_token token other words ends in
    let rest = one_cut tokens others is.1 is'.1 after in
    cc (here, rest)
