-- The lines of an expanded graph are those of its configurations.
use Rattle.std.proofs.Common.{◌≡◌, ℕ, zero, suc, ◌+◌, ◌<◌, List, [], ◌∷◌, ◌++◌, length, map, refl, ap, ◌∙◌, subst, arith, Some, None}
use Rattle.std.specs.Prelude.{true, nat_lt, Option, Contains, slice_get, slice_index_or}
use Rattle.std.specs.List.{AllZip}
use Rattle.std.specs.Option.{option_to_list}
use Rattle.std.proofs.lemmas.Slice.Zip.{AllZip-long}
use Rattle.std.proofs.lemmas.Bool.Decides.{nat_tests}
use Rattle.std.proofs.lemmas.Bool.{and_parts}
use Rattle.path_model.specs.declared.graph.Node.{Node}
use Rattle.path_model.specs.Graph.{is_fit, are_fit}
use Rattle.path_model.proofs.Edges.{fit_at}
use Rattle.flow_spec.specs.Configuration.{Configuration}
use Rattle.flow_spec.specs.Acceptance.{Step, IsAccepted}
use Rattle.report_spec.specs.Graph.{AreGraphLines, IsGraphLine}
use Rattle.flow_spec.specs.Program.{Program}
use Rattle.command_spec.specs.declared.settings.GraphAsk.{GraphAsk}
use Rattle.transition_spec.specs.Layer.{all_of}
use Rattle.flow_spec.specs.Successors.{successors}
use Rattle.call_expand.specs.Expansion.{Expansion, IsNodeOf, IsGraphOf, numbered}
use Rattle.icache_top.specs.Answer.{IsAcceptedWith, IsTextFrom}
use Rattle.command_spec.specs.declared.settings.Ask.TheVariants.{Graph}
use Rattle.icache_top.specs.GraphLines.{graph_line, graph_lines_from, graph_lines_of, graph_text_of}

-- what a list has at a place is there
pub slice_get_is : (nodes : List Node) (k : ℕ) (node : Node) → k < length nodes → slice_index_or nodes k node ≡ node
    → slice_get nodes k ≡ Some node
slice_get_is [] k node below is = absurd (omega arith)
slice_get_is (e ∷ nodes) zero node below is = ap Some is
slice_get_is (e ∷ nodes) (suc k) node below is = slice_get_is nodes k node (omega arith) is

-- what two successors that are fit are
pub record AreEdges (count : ℕ) (first second : Option ℕ) : Type 0 where
  pub ordered : first ≡ None → second ≡ None
  pub inside : (configurations : List Configuration) → length configurations ≡ count
      → map (slice_get configurations) (option_to_list first ++ option_to_list second)
      ≡ map Some (map (numbered configurations) (option_to_list first ++ option_to_list second))

-- the configuration with a number
pub numbered_is : (configurations : List Configuration) (n : ℕ) → n < length configurations
    → slice_get configurations n ≡ Some (numbered configurations n)
numbered_is [] n below = absurd (omega arith)
numbered_is (c ∷ configurations) zero below = refl
numbered_is (c ∷ configurations) (suc n) below = numbered_is configurations n (omega arith)

pub below_test : (n count : ℕ) → nat_lt n count ≡ true → n < count
below_test n count is = grind (arith, nat_tests)

edges_are : (count : ℕ) (first second : Option ℕ) → are_fit count first second ≡ true → AreEdges count first second
edges_are count None None fit = record { ordered = λ none. refl; inside = λ configurations long. refl }
edges_are count None (Some second) fit = absurd (cc fit)
edges_are count (Some first) None fit = record {
  ordered = λ none. absurd (cc none);
  inside = λ configurations long.
      let one = numbered_is configurations first (omega (arith, long, below_test first count fit)) in
      ap (λ x. x ∷ []) one;
}
edges_are count (Some first) (Some second) fit = record {
  ordered = λ none. absurd (cc none);
  inside = λ configurations long.
      let below = below_test first count (and_parts _ _ fit).0 in
      let later = below_test second count (and_parts _ _ (and_parts (nat_lt first count) _ fit).1).0 in
      let one = numbered_is configurations first (omega (arith, long, below)) in
      let two = numbered_is configurations second (omega (arith, long, later)) in
      ap (λ x. x ∷ slice_get configurations second ∷ []) one
      ∙ ap (λ y. Some (numbered configurations first) ∷ y ∷ []) two;
}

module _ (step : Step) (all : List Configuration) (nodes : List Node) where
  line_is : (number : ℕ) (c : Configuration) (node : Node) → IsNodeOf step all c node
      → AreEdges (length all) node.first node.second
      → IsGraphLine step all number c (graph_line number c node)
  line_is number c node of edges = record {
    node = refl;
    at = of.at;
    depth = refl;
    back = refl;
    first = edges.ordered;
    goes = (_, of.goes, edges.inside all refl);
  }

  lines_from : (number : ℕ) (configurations : List Configuration) (ns : List Node)
      → AllZip (IsNodeOf step all) configurations ns
      → ((node : Node) → Contains ns node → is_fit (length all) node ≡ true)
      → AreGraphLines step all number configurations (graph_lines_from number configurations ns)
  lines_from number [] [] zipped fit = tt
  lines_from number [] (node ∷ ns) zipped fit = absurd zipped
  lines_from number (c ∷ configurations) [] zipped fit = absurd zipped
  lines_from number (c ∷ configurations) (node ∷ ns) zipped fit = (
    line_is number c node zipped.0 (edges_are (length all) node.first node.second (fit node (zero, omega arith, refl))),
    lines_from (number + 1) configurations ns zipped.1 (λ other (k, below, is). fit other
        (suc k, omega (arith, below), is)),
  )

-- the lines of a graph of configurations
pub graph_lines : (step : Step) (entry : ℕ) (configurations : List Configuration) (nodes : List Node)
    → IsGraphOf step entry configurations nodes
    → AreGraphLines step configurations 0 configurations (graph_lines_from 0 configurations nodes)
graph_lines step entry configurations nodes of =
    let long : length nodes ≡ length configurations = AllZip-long _ _ _ of.each in
    let P : ℕ → Type 0 = λ count. (node : Node) → Contains nodes node → is_fit count node ≡ true in
    lines_from step configurations nodes 0 configurations nodes of.each
    (subst P long (λ node (k, below, is). fit_at nodes (length nodes) k node of.graph.fit
    (slice_get_is nodes k node below is)))

-- the text of an accepted program's graph
pub graph_text : (program : Program) (ask : GraphAsk) (expanded : Expansion)
    → ((layers : List (List Configuration)) × IsAccepted (successors program) program layers
    × (expanded.configurations ≡ all_of layers))
    → IsGraphOf (successors program) program.entry expanded.configurations expanded.nodes
    → IsAcceptedWith program (λ layers. IsTextFrom (Graph ask) program layers (graph_text_of expanded))
graph_text program ask expanded (layers, accepted, all) of =
    let step = successors program in
    let lines = graph_lines_of expanded in
    let P : List Configuration → Type 0 =
    λ configurations. AreGraphLines step configurations 0 configurations lines in (
      layers,
      accepted,
      (layers, accepted, (lines, subst P all (graph_lines step program.entry expanded.configurations expanded.nodes of), refl)),
    )
