-- What was found of a program, and its report.
use Rattle.std.proofs.Common.{◌≡◌, ℕ, List, [], ◌∷◌, length, map, refl, ap, ◌∙◌, sym, subst}
use Rattle.std.specs.Prelude.{Result, Ok, Err, IfOk, IfErr}
use Rattle.std.specs.List.{AllZip}
use Rattle.transition_spec.specs.Layer.{all_of}
use Rattle.flow_spec.specs.Acceptance.{Step, IsAccepted}
use Rattle.flow_spec.specs.Program.{Program}
use Rattle.flow_spec.specs.Configuration.{Configuration, fetched}
use Rattle.flow_spec.specs.Successors.{successors}
use Rattle.path_model.specs.declared.graph.Node.{Node}
use Rattle.node_spec.specs.declared.verdict.NodeVerdict.{NodeVerdict}
use Rattle.report_spec.specs.Text.{text_of}
use Rattle.call_expand.specs.Expansion.{Expansion, IsNodeOf, IsGraphOf}
use Rattle.command_spec.specs.declared.settings.Ask.TheVariants.{Report}
use Rattle.command_spec.specs.declared.settings.ReportAsk.{ReportAsk}
use Rattle.cache_spec.specs.Blocks.{HaveFewInAll, HaveMany}
use Rattle.node_verdicts.specs.Verdicts.{AreRight, IsFault}
use Rattle.path_model.specs.Graph.{addresses_of as node_addresses}
use Rattle.node_verdicts.specs.ViewFault.{ViewFault}
use Rattle.node_verdicts.specs.ViewFault.TheVariants as faults
use Rattle.node_spec.specs.declared.verdict.Kept.{Kept}
use Rattle.node_spec.specs.Verdict.{HaveWays, kept_for}
use Rattle.node_spec.specs.Plan.{Layout, layout}
use Rattle.report_lines.specs.Findings.{IsWithin, AreFindings}
use Rattle.report_lines.proofs.Made.{report}
use Rattle.icache_top.specs.Lines.{SendsAll}
use Rattle.icache_top.specs.Answer.{IsAcceptedWith, IsTextFrom, IsTooMuchFor, addresses_of, settled_as}
use Rattle.icache_top.proofs.SendsFor.{IsManyFault}

-- the nodes fetch the addresses of their configurations
zipped_addresses : (step : Step) (all configurations : List Configuration) (nodes : List Node)
    → AllZip (IsNodeOf step all) configurations nodes
    → node_addresses nodes ≡ map fetched configurations
zipped_addresses step all [] [] zipped = refl
zipped_addresses step all [] (node ∷ nodes) zipped = absurd zipped
zipped_addresses step all (c ∷ configurations) [] zipped = absurd zipped
zipped_addresses step all (c ∷ configurations) (node ∷ nodes) zipped =
    ap (λ (at : ℕ). at ∷ node_addresses nodes) zipped.0.at
    ∙ ap (λ (rest : List ℕ). fetched c ∷ rest) (zipped_addresses step all configurations nodes zipped.1)

-- verdicts that were found stay so as a status would be handed on
pub settled_ok : {V : Type 0} (found : Result V ViewFault) (verdicts : V) → settled_as found ≡ Ok verdicts
    → found ≡ Ok verdicts
settled_ok (Ok other) verdicts is = let same : other ≡ verdicts = cc is in ap Ok same
settled_ok (Err (faults.TooManyBlocks set count)) verdicts is = absurd (cc is)
settled_ok (Err faults.OutOfMemory) verdicts is = absurd (cc is)

-- what holds of a value that is there
pub ok_at : {V E : Type 0} (P : V → Type 0) (r : Result V E) (value : V) → r ≡ Ok value → IfOk r P → P value
ok_at P (Ok other) value is holds = let same : other ≡ value = cc is in subst P same holds
ok_at P (Err error) value is holds = absurd (cc is)

module _ (program : Program) (ask : ReportAsk) (expanded : Expansion)
    (accepted : (layers : List (List Configuration)) × IsAccepted (successors program) program layers
    × (expanded.configurations ≡ all_of layers))
    (graph : IsGraphOf (successors program) program.entry expanded.configurations expanded.nodes) where
  -- the program as it is expanded
  abbrev on : Layout
  on = layout program.image program.isa expanded.configurations expanded.nodes

  -- the nodes fetch the addresses of the layers
  addresses_same : node_addresses expanded.nodes ≡ addresses_of accepted.0
  addresses_same =
      zipped_addresses (successors program) expanded.configurations expanded.configurations expanded.nodes
      graph.each
      ∙ ap (λ (cs : List Configuration). map fetched cs) accepted.2

  -- a set has too many blocks
  pub many : (fault : ViewFault) → IsFault expanded.nodes ask.geometry fault
      → IsManyFault (λ set count. IsAcceptedWith program (λ layers. IsTooMuchFor (Report ask) layers set count))
      fault
  many (faults.TooManyBlocks set count) is = (
    accepted.0,
    accepted.1,
    subst (λ (addresses : List ℕ). HaveMany addresses ask.geometry set count) addresses_same is,
  )
  many faults.OutOfMemory is = tt

  -- right verdicts of all nodes are findings
  pub findings : (nodes : List Node) (verdicts : List NodeVerdict) → nodes ≡ expanded.nodes → IsWithin program.isa program.image
      → length verdicts ≡ length nodes
      → AreRight nodes ask.geometry ask.start verdicts → HaveWays nodes verdicts (kept_for ask.contexts)
      → AreFindings program ask.geometry ask.start ask.contexts expanded.configurations expanded.nodes verdicts
  findings nodes verdicts same within one_each right ways = record {
    within = within;
    accepted = accepted;
    graph = graph;
    one_each = one_each ∙ ap (λ (ns : List Node). length ns) same;
    right = subst (λ (ns : List Node). AreRight ns ask.geometry ask.start verdicts) same right;
    ways = subst (λ (ns : List Node). HaveWays ns verdicts (kept_for ask.contexts)) same ways;
  }

  -- all lines are the text that is wanted
  wanted : (verdicts : List NodeVerdict)
      → AreFindings program ask.geometry ask.start ask.contexts expanded.configurations expanded.nodes verdicts
      → HaveFewInAll (node_addresses expanded.nodes) ask.geometry → (Sent : List ℕ → Type 0)
      → SendsAll ask.contexts on verdicts Sent
      → (text : List ℕ) × IsAcceptedWith program (λ layers. IsTextFrom (Report ask) program layers text)
      × Sent text
  wanted verdicts found few Sent (lines, all, sent) = (
    text_of lines,
    (
      accepted.0,
      accepted.1,
      (
        subst (λ (addresses : List ℕ). HaveFewInAll addresses ask.geometry) addresses_same few,
        report program ask.geometry ask.start ask.contexts expanded.configurations expanded.nodes verdicts found
            lines all,
      ),
    ),
    sent,
  )

  -- what the search for verdicts found of the graph's nodes, where it found some
  module _ {V : Type 0} (items : V → List NodeVerdict) (nodes : List Node) (result : Result V ViewFault) (kept : V)
      (now : List NodeVerdict)
      (was : settled_as result ≡ Ok kept) (is_now : now ≡ items kept) (same : nodes ≡ expanded.nodes)
      (within : IsWithin program.isa program.image)
      (one_each : IfOk result (λ v. length (items v) ≡ length nodes))
      (right : IfOk result (λ v. AreRight nodes ask.geometry ask.start (items v)))
      (kinds : Kept) (kinds_are : kinds ≡ kept_for ask.contexts)
      (ways : IfOk result (λ v. HaveWays nodes (items v) kinds)) where
    -- its findings are right
    pub found_now : AreFindings program ask.geometry ask.start ask.contexts expanded.configurations expanded.nodes now
    found_now =
        let found = settled_ok result kept was in
        subst (λ (vs : List NodeVerdict). AreFindings program ask.geometry ask.start ask.contexts expanded.configurations
        expanded.nodes vs)
        (sym is_now)
        (findings nodes (items kept) same within (ok_at (λ v. length (items v) ≡ length nodes) result kept found
        one_each)
        (ok_at (λ v. AreRight nodes ask.geometry ask.start (items v)) result kept found right)
        (subst (λ (k : Kept). HaveWays nodes (items kept) k) kinds_are
        (ok_at (λ v. HaveWays nodes (items v) kinds) result kept found ways)))

    -- and their lines are the text that is wanted
    pub wanted_now : IfOk result (λ v. HaveFewInAll (node_addresses nodes) ask.geometry) → (Sent : List ℕ → Type 0)
        → SendsAll ask.contexts on now Sent
        → (text : List ℕ) × IsAcceptedWith program (λ layers. IsTextFrom (Report ask) program layers text)
        × Sent text
    wanted_now few =
        let few_now = ok_at (λ v. HaveFewInAll (node_addresses nodes) ask.geometry) result kept
        (settled_ok result kept was) few in
        wanted now found_now (subst (λ (ns : List Node). HaveFewInAll (node_addresses ns) ask.geometry) same few_now)

-- what holds of a fault, where something weaker is asked
pub err_weaker : {V E : Type 0} (P Q : E → Type 0) → ((e : E) → P e → Q e) → (r : Result V E) → IfErr r P → IfErr r Q
err_weaker P Q to (Ok value) holds = tt
err_weaker P Q to (Err error) holds = to error holds
