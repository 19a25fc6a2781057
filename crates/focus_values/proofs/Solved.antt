-- The least solution has exactly the least warm sets and the most younger sets before each node.
use Rattle.std.proofs.Common.{◌≡◌, ℕ, ◌<◌, Bool, true, List, ◌∷◌, length, map, get_or, Some, sym, subst, ap, ◌∙◌, arith}
use Rattle.std.specs.Prelude.{slice_get}
use Rattle.std.specs.List.{All}
use Rattle.std.specs.Option.{option_map}
use Rattle.std.proofs.lemmas.Option.{slice_get-map, slice_get_within, get_or_from_slice_get, slice_get-get_or}
use Rattle.std.proofs.lemmas.List.Elements.{AllZip-get_or, length_all_zip, All-get_or}
use Rattle.transition_spec.specs.Path.{IsPath}
use Rattle.path_model.specs.declared.graph.Node.{Node}
use Rattle.path_model.specs.Graph.{IsGraph, graph_step}
use Rattle.lattice_fix.specs.declared.change.Change.{Change}
use Rattle.lattice_fix.specs.Solution.{IsSolution, IsLeast}
use Rattle.lattice_fix.specs.Replay.{Replays, nothing}
use Rattle.lattice_fix.specs.Along.{along}
use Rattle.cache_spec.specs.declared.start.Start.{Start}
use Rattle.set_view.specs.View.{View, IsView}
use Rattle.focus_values.specs.declared.values.YoungerSets.{YoungerSets}
use Rattle.focus_values.specs.Marks.{Setting, Mark, marking, framework_of}
use Rattle.focus_values.specs.MarkLaws.{all_listed}
use Rattle.focus_values.specs.Exact.{setting_of, IsFit, marks_in, IsExact, AreExact, IsCopy, AreCopies}
use Rattle.focus_values.proofs.Reached.{marks_come}
use Rattle.focus_values.proofs.NodeValues.{copy_fits}
use Rattle.focus_values.proofs.Outcome.{outcome}
use Rattle.focus_values.proofs.Exact.{AreAbove, AreReached, exact_least}
use Rattle.focus_values.proofs.ExactMost.{exact_most}
use Rattle.focus_values.proofs.Kept.{marks-copy}

-- values that stand for a least solution, to which changes lead, and below which lies what is moved along each path
pub record IsSolved (nodes : List Node) (values : List YoungerSets) (changes : List Change) (g : Setting) : Type 0 where
  pub least : IsLeast (framework_of g) nodes (map (marks_in g) values)
  pub fits : All (IsFit g) values
  pub replay : Replays (framework_of g) nodes (nothing nodes) changes (map Some (map (marks_in g) values))
  pub below : (before : List (Mark → Bool)) (n : ℕ) (earlier : List ℕ) (x : Mark → Bool) → IsGraph nodes
      → IsSolution (framework_of g) nodes before
      → IsPath (graph_step nodes) 0 (n ∷ earlier) → slice_get before n ≡ Some x
      → (framework_of g).below (along (framework_of g) (n ∷ earlier)) x

module _ (view : View) (is : IsView view) (start : Start) (block : ℕ) where
  -- the setting of the view
  abbrev G : Setting
  G = setting_of view start block

  -- marks that are those of all paths to a node make families exact
  exact_marks : (n : ℕ) (younger : YoungerSets) → IsFit G younger
      → ((earlier : List ℕ) → IsPath (graph_step view.nodes) 0 (n ∷ earlier) → (mark : Mark)
      → along (framework_of G) (n ∷ earlier) mark ≡ true → marks_in G younger mark ≡ true)
      → ((mark : Mark) → marks_in G younger mark ≡ true → (earlier : List ℕ) × IsPath (graph_step view.nodes) 0
      (n ∷ earlier) × (along (framework_of G) (n ∷ earlier) mark ≡ true))
      → IsExact view start block n younger
  exact_marks n younger fit above reached =
      let some : 0 < G.ways = omega (arith, is.some_ways) in
      let same = λ (earlier : List ℕ). outcome G some is.within n earlier in
      let over_all : AreAbove G view.nodes n younger.least younger.most =
      λ earlier path mark has. above earlier path mark (ap (λ (x : Mark → Bool). x mark) (same earlier) ∙ has) in
      let from_one : AreReached G view.nodes n younger.least younger.most =
      λ mark has. let path = reached mark has in (
        path.0,
        path.1,
        sym (ap (λ (x : Mark → Bool). x mark) (same path.0))
            ∙ path.2,
      ) in
      record {
        least = exact_least G view.nodes is.within n younger.least younger.most fit over_all from_one;
        most = exact_most G view.nodes is.within n younger.least younger.most fit over_all from_one;
      }

  module _ (values : List YoungerSets) (changes : List Change) (solved : IsSolved view.nodes values changes G) where
    -- the value in a place stands for the marks of the paths that end there, and so does a copy of it
    exact_copy : (n : ℕ) (value copy : YoungerSets) → slice_get values n ≡ Some value → IsCopy value copy
        → IsExact view start block n copy
    exact_copy n value copy there same =
        let before : List (Mark → Bool) = map (marks_in G) values in
        let x_there : slice_get before n ≡ Some (marks_in G value) = slice_get-map (marks_in G) values n
        ∙ ap (option_map (marks_in G)) there in
        let fit : IsFit G value = subst (IsFit G) (get_or_from_slice_get values n value value there)
        (All-get_or (IsFit G) values n value (slice_get_within values n value there) solved.fits) in
        let equal : marks_in G copy ≡ marks_in G value = marks-copy G value.least copy.least value.most copy.most
        same.0 same.1 in
        exact_marks n copy (copy_fits G value copy fit same)
        (λ earlier path mark has. ap (λ (x : Mark → Bool). x mark) equal
        ∙ solved.below before n earlier (marks_in G value) is.graph solved.least.solution path x_there mark has)
        (λ mark has. marks_come (marking G) (all_listed G) view.nodes changes before solved.replay n
        (marks_in G value) x_there mark (sym (ap (λ (x : Mark → Bool). x mark) equal) ∙ has))

    -- so copies of the values are exact
    pub exact_copies : (copies : List YoungerSets) → AreCopies values copies → AreExact view start block copies
    exact_copies copies same n copy there =
        let inside : n < length values = omega (
          arith,
          slice_get_within copies n copy there,
          length_all_zip IsCopy
              values copies same,
        ) in
        let value : YoungerSets = get_or values n copy in
        let pair : IsCopy value copy = subst (IsCopy value) (get_or_from_slice_get copies n copy copy there)
        (AllZip-get_or IsCopy values copies n copy copy same inside) in
        exact_copy n value copy (slice_get-get_or values n copy inside) pair
