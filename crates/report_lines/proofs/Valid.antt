-- A right verdict is valid: its ways have a member and letters.
use Rattle.std.proofs.Common.{◌≡◌, ℕ, suc, ◌<◌, List, [], ◌∷◌, length, refl, subst, Some, None}
use Rattle.std.specs.Prelude.{true, slice_get}
use Rattle.std.specs.List.{list_all}
use Rattle.std.proofs.lemmas.Bool.{and_from}
use Rattle.std.proofs.lemmas.Option.{slice_get_within}
use Rattle.cache_spec.specs.Geometry.{Geometry}
use Rattle.cache_spec.specs.declared.start.Start.{Start}
use Rattle.path_model.specs.declared.graph.Node.{Node}
use Rattle.path_model.specs.Graph.{graph_step}
use Rattle.node_spec.specs.declared.verdict.NodeVerdict.{NodeVerdict}
use Rattle.node_spec.specs.declared.verdict.NodeVerdict.TheVariants.{Hits, Misses, Both}
use Rattle.report_spec.specs.Valid.{is_valid_way}
use Rattle.node_spec.proofs.Valid.{way_valid}
use Rattle.node_spec.specs.Valid.{is_valid_node_verdict, AreValid}
use Rattle.node_spec.specs.Verdict.{IsNodeVerdict, IsRightAt}

-- a verdict that is right of a node is valid
verdict_valid : (nodes : List Node) (g : Geometry) (start : Start) (n : ℕ) (verdict : NodeVerdict)
    → IsNodeVerdict nodes g start n verdict → is_valid_node_verdict verdict ≡ true
verdict_valid nodes g start n Hits is = refl
verdict_valid nodes g start n Misses is = refl
verdict_valid nodes g start n (Both None) is = refl
verdict_valid nodes g start n (Both (Some ways)) is =
    and_from (is_valid_way ways.hit) (is_valid_way ways.miss)
    (way_valid (graph_step nodes) n is.0.earlier ways.hit is.0.names)
    (way_valid (graph_step nodes) n is.1.earlier ways.miss is.1.names)

-- what holds of the verdict at each cursor holds of all
all_valid : (verdicts : List NodeVerdict) → ((k : ℕ) (v : NodeVerdict) → slice_get verdicts k ≡ Some v
    → is_valid_node_verdict v ≡ true)
    → AreValid verdicts
all_valid [] each = refl
all_valid (v ∷ verdicts) each =
    and_from (is_valid_node_verdict v) (list_all is_valid_node_verdict verdicts) (each 0 v refl)
    (all_valid verdicts (λ k w is. each (suc k) w is))

-- right verdicts are valid
pub right_valid : (nodes : List Node) (g : Geometry) (start : Start) (verdicts : List NodeVerdict)
    → ((n : ℕ) → n < length verdicts → IsRightAt nodes g start verdicts n)
    → AreValid verdicts
right_valid nodes g start verdicts right = all_valid verdicts (λ k v is.
    let (w, is_w, ok) = right k (slice_get_within verdicts k v is) in
    let same : w ≡ v = cc (is, is_w) in
    subst (λ (v : NodeVerdict). is_valid_node_verdict v ≡ true) same (verdict_valid nodes g start k w ok))
