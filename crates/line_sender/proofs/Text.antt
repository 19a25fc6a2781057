-- A report's text, line after line.
use Rattle.std.proofs.Common.{◌≡◌, ℕ, ◌+◌, ◌<◌, List, [], ◌∷◌, ◌++◌, length, take, drop, get_or, sym, ap, subst, ◌∙◌, append-nil, take-append-drop}
use Rattle.std.proofs.lemmas.List.{take_more}
use Rattle.std.proofs.lemmas.Grind.{flat_map-append}
use Rattle.std.specs.declared.option.Option.{Option}
use Rattle.byte_port.specs.Stream.{SendsPrefix}
use Rattle.report_spec.specs.declared.line.Line.{Line}
use Rattle.report_spec.specs.Text.{line_text, text_of}
use Rattle.line_sender.proofs.Pending.{SendsPrefix-more}

pub text_of-append : (head rest : List Line) → text_of (head ++ rest) ≡ text_of head ++ text_of rest
text_of-append head rest = flat_map-append line_text head rest

-- one line more
pub text_of-take_more : (lines : List Line) (i : ℕ) (line : Line) → i < length lines → line ≡ get_or lines i line
    → text_of (take i lines) ++ line_text line ≡ text_of (take (i + 1) lines)
text_of-take_more lines i line within same =
    let before = text_of (take i lines) in
    ap (λ last. before ++ line_text last) same
    ∙ ap (λ last. before ++ last) (sym (append-nil (line_text (get_or lines i line))))
    ∙ sym (text_of-append (take i lines) (get_or lines i line ∷ []))
    ∙ ap text_of (sym (take_more lines i line within))

-- a prefix of the first lines' text is a prefix of the whole text
pub SendsPrefix-take : (a b : Option (List ℕ)) (lines : List Line) (n : ℕ)
    → SendsPrefix a b (text_of (take n lines)) → SendsPrefix a b (text_of lines)
SendsPrefix-take a b lines n part =
    let joined : text_of (take n lines) ++ text_of (drop n lines) ≡ text_of lines =
    sym (text_of-append (take n lines) (drop n lines)) ∙ ap text_of (take-append-drop n lines) in
    subst (SendsPrefix a b) joined (SendsPrefix-more a b (text_of (take n lines)) (text_of (drop n lines)) part)
