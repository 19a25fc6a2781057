-- The text of a graph, line after line.
use Rattle.std.proofs.Common.{◌≡◌, ℕ, zero, suc, ◌+◌, ◌<◌, ◌≤◌, List, [], ◌∷◌, ◌++◌, length, take, drop, get_or, sym, ap, subst, ◌∙◌, arith, refl, Some, append-nil, take-append-drop}
use Rattle.std.specs.Prelude.{Option, flat_map, slice_get, slice_index_or, option_map}
use Rattle.std.proofs.lemmas.List.{take_more}
use Rattle.std.proofs.lemmas.Option.{slice_get_within, get_or_from_slice_get}
use Rattle.std.proofs.lemmas.Grind.{flat_map-append}
use Rattle.byte_port.specs.Stream.{SendsPrefix}
use Rattle.line_sender.proofs.Pending.{SendsPrefix-more}
use Rattle.path_model.specs.declared.graph.Node.{Node}
use Rattle.flow_spec.specs.Configuration.{Configuration}
use Rattle.report_spec.specs.declared.graph_line.GraphLine.{GraphLine}
use Rattle.report_spec.specs.Graph.{graph_line_text}
use Rattle.flow_spec.specs.Successors.{newest}
use Rattle.call_expand.specs.Expansion.{Expansion, numbered}
use Rattle.icache_top.specs.GraphLines.{graph_line, graph_lines_from, graph_lines_of}
use Rattle.icache_top.proofs.GraphLines.{numbered_is}

-- the line with a number is that of the configuration and the node with it
pub line_at : (from n : ℕ) (configurations : List Configuration) (nodes : List Node) (c : Configuration) (node : Node)
    → slice_get configurations n ≡ Some c → slice_get nodes n ≡ Some node
    → slice_get (graph_lines_from from configurations nodes) n ≡ Some (graph_line (from + n) c node)
line_at from n [] nodes c node has is = absurd (cc has)
line_at from n (d ∷ configurations) [] c node has is = absurd (cc is)
line_at from zero (d ∷ configurations) (e ∷ nodes) c node has is =
    let here : from ≡ from + 0 = omega arith in
    let same : d ≡ c = cc has in
    let same' : e ≡ node = cc is in
    ap (λ n. Some (graph_line n d e)) here ∙ ap (λ d. Some (graph_line (from + 0) d e)) same
    ∙ ap (λ e. Some (graph_line (from + 0) c e)) same'
line_at from (suc n) (d ∷ configurations) (e ∷ nodes) c node has is =
    let next : from + 1 + n ≡ from + suc n = omega arith in
    line_at (from + 1) n configurations nodes c node has is ∙ ap (λ n. Some (graph_line n c node)) next

pub length-graph_lines : (from : ℕ) (configurations : List Configuration) (nodes : List Node)
    → length configurations ≡ length nodes
    → length (graph_lines_from from configurations nodes) ≡ length nodes
length-graph_lines from [] [] same = refl
length-graph_lines from [] (e ∷ nodes) same = absurd (omega (arith, same))
length-graph_lines from (d ∷ configurations) [] same = absurd (omega (arith, same))
length-graph_lines from (d ∷ configurations) (e ∷ nodes) same =
    ap suc (length-graph_lines (from + 1) configurations nodes (omega (arith, same)))

take_past : {A : Type 0} (xs : List A) (n : ℕ) → length xs ≤ n → take n xs ≡ xs
take_past [] zero past = refl
take_past [] (suc n) past = refl
take_past (x ∷ xs) zero past = absurd (omega arith)
take_past (x ∷ xs) (suc n) past = ap (λ xs. x ∷ xs) (take_past xs n (omega arith))

abbrev text_of : List GraphLine → List ℕ
text_of lines = flat_map graph_line_text lines

-- one line more
pub text-take_more : (lines : List GraphLine) (i : ℕ) (line : GraphLine) → slice_get lines i ≡ Some line
    → text_of (take i lines) ++ graph_line_text line ≡ text_of (take (i + 1) lines)
text-take_more lines i line is =
    let within : i < length lines = slice_get_within lines i line is in
    let same : get_or lines i line ≡ line = get_or_from_slice_get lines i line line is in
    let before = text_of (take i lines) in
    ap (λ last. before ++ last) (sym (append-nil (graph_line_text line)))
    ∙ sym (flat_map-append graph_line_text (take i lines) (line ∷ []))
    ∙ ap (λ last. text_of (take i lines ++ last ∷ [])) (sym same)
    ∙ ap text_of (sym (take_more lines i line within))

-- a prefix of the first lines' text is a prefix of the whole text
pub SendsPrefix-take : (a b : Option (List ℕ)) (lines : List GraphLine) (n : ℕ)
    → SendsPrefix a b (text_of (take n lines)) → SendsPrefix a b (text_of lines)
SendsPrefix-take a b lines n part =
    let joined : text_of (take n lines) ++ text_of (drop n lines) ≡ text_of lines =
    sym (flat_map-append graph_line_text (take n lines) (drop n lines)) ∙ ap text_of (take-append-drop n lines) in
    subst (SendsPrefix a b) joined (SendsPrefix-more a b (text_of (take n lines)) (text_of (drop n lines)) part)

-- a line from its fields
pub line_is : (expanded : Expansion) (n depth : ℕ) (back : Option ℕ) (node : Node) → n < length expanded.nodes
    → length expanded.configurations ≡ length expanded.nodes → slice_get expanded.nodes n ≡ Some node
    → depth ≡ length (numbered expanded.configurations n).frames
    → back ≡ option_map (λ frame. frame.back) (newest (numbered expanded.configurations n).frames)
    → slice_get (graph_lines_of expanded) n
    ≡ Some (record { node = n; at = node.at; depth = depth; back = back; next = node.first; taken = node.second })
line_is expanded n depth back node inside long is depth_is back_is =
    let c = numbered expanded.configurations n in
    let here : 0 + n ≡ n = omega arith in
    line_at 0 n expanded.configurations expanded.nodes c node
    (numbered_is expanded.configurations n (omega (arith, inside, long))) is
    ∙ ap (λ n. Some (graph_line n c node)) here
    ∙ rw (depth_is, back_is) refl

-- as many lines as there are nodes are all
pub take_all : (expanded : Expansion) (n : ℕ) → length expanded.configurations ≡ length expanded.nodes
    → length expanded.nodes ≤ n
    → take n (graph_lines_of expanded) ≡ graph_lines_of expanded
take_all expanded n long past =
    take_past (graph_lines_of expanded) n (omega (
      arith,
      length-graph_lines 0 expanded.configurations expanded.nodes long,
      past,
    ))

-- the node with a number
pub node_is : (nodes : List Node) (n : ℕ) (default : Node) → n < length nodes
    → slice_get nodes n ≡ Some (slice_index_or nodes n default)
node_is [] n default below = absurd (omega arith)
node_is (e ∷ nodes) zero default below = refl
node_is (e ∷ nodes) (suc n) default below = node_is nodes n default (omega arith)
