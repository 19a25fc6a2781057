-- What a path of the whole graph can do where it is the one that a path of the runs stands for.
use Rattle.std.proofs.Common.{◌≡◌, ◌↔◌, ◌∙◌, ℕ, Bool, List, ◌∷◌, map, ap, sym, subst}
use Rattle.cache_spec.specs.declared.start.Start.{Start}
use Rattle.path_model.specs.Graph.{address_of}
use Rattle.focus_spec.specs.Fate.{PathCanEnd}
use Rattle.line_blocks.specs.Runs.{Runs, AreRuns, head_of}
use Rattle.line_blocks.specs.Expand.{IsExpanded, EndsIn}
use Rattle.line_blocks.proofs.Edges.{run_address}
use Rattle.line_blocks.proofs.Walks.{base, fate_by}

module _ (r : Runs) (are : AreRuns r) where
  -- it ends in the first node of the run
  pub expanded_ends : (run : ℕ) (others whole : List ℕ) → IsExpanded r (run ∷ others) whole
      → EndsIn (head_of r.runs run) whole
  expanded_ends run others whole expanded =
      let last : expanded.last ≡ run = cc (expanded.path_is) in
      (expanded.earlier, expanded.whole_is ∙ ap (λ (k : ℕ). head_of r.runs k ∷ expanded.earlier) last)

  -- it can do what the path of the runs can
  fate_up : (start : Start) (path whole : List ℕ) (hits : Bool) → IsExpanded r path whole
      → PathCanEnd r.small r.shape start path hits → PathCanEnd r.nodes r.shape start whole hits
  fate_up start path whole hits expanded end =
      let last : ℕ = expanded.last in
      let head : ℕ = head_of r.runs last in
      subst (λ (xs : List ℕ). PathCanEnd r.nodes r.shape start xs hits) (sym expanded.whole_is)
      (fate_by r.shape start hits (address_of r.small last) (address_of r.nodes head)
      (map (address_of r.small) expanded.others) (map (address_of r.nodes) expanded.earlier)
      (run_address r (base r are) last expanded.inside) (λ set held. sym (expanded.alike set held))
      (subst (λ (xs : List ℕ). PathCanEnd r.small r.shape start xs hits) expanded.path_is end))

  -- and no more
  fate_down : (start : Start) (path whole : List ℕ) (hits : Bool) → IsExpanded r path whole
      → PathCanEnd r.nodes r.shape start whole hits → PathCanEnd r.small r.shape start path hits
  fate_down start path whole hits expanded end =
      let last : ℕ = expanded.last in
      let head : ℕ = head_of r.runs last in
      subst (λ (xs : List ℕ). PathCanEnd r.small r.shape start xs hits) (sym expanded.path_is)
      (fate_by r.shape start hits (address_of r.nodes head) (address_of r.small last)
      (map (address_of r.nodes) expanded.earlier) (map (address_of r.small) expanded.others)
      (sym (run_address r (base r are) last expanded.inside)) expanded.alike
      (subst (λ (xs : List ℕ). PathCanEnd r.nodes r.shape start xs hits) expanded.whole_is end))

  pub expanded_alike : (start : Start) (path whole : List ℕ) (hits : Bool) → IsExpanded r path whole
      → PathCanEnd r.small r.shape start path hits ↔ PathCanEnd r.nodes r.shape start whole hits
  expanded_alike start path whole hits expanded = (
    λ end. fate_up start path whole hits expanded end,
    λ end. fate_down start path whole hits expanded end,
  )
