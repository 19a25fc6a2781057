use Rattle.std.proofs.Common.{◌≡◌, ℕ, ◌+◌, Vec, Global, List, [], ◌∷◌, ◌++◌, length, map, sym, ap, ◌∙◌, subst, arith}
use Rattle.std.proofs.lemmas.List.{map-append}
use Rattle.std.proofs.lemmas.List.Elements.{All-push}
use Rattle.std.specs.List.{All}
use Rattle.focus_plain.specs.declared.settling.Fate.{Fate}
use Rattle.focus_plain.specs.Settled.{IsFate}
use Rattle.focus_plain.proofs.Equals.{same_number, other_number}
use Rattle.focus_plain.proofs.Fetchers.{AreFetchersBelow, fetchers_more, fetchers_passed, fetchers_all}
use Rattle.focus_plain.proofs.settling.fates.Goals as goal
use Rattle.focus_plain.proofs.settling.fates.Goals.{then-eq+in_ok-fate_at+in_ok-push, else-eq}

-- the node of each
nodes_of : List Fate → List ℕ
nodes_of fates = map (λ j. j.node) fates

pub loop-node-preserved : goal.loop-node-preserved
unfolding nodes_of
loop-node-preserved c =
    let view = c.args.view.now in
    let fates = c.loop-node.fates.items in
    let Right : Fate → Type 0 = IsFate view c.args.found.now.start in
    elim c.if-eq.branch [
      | then-eq+in_ok-fate_at+in_ok-push w ↦
          let fetched = sym c.fetch.ensures ∙ same_number c.fetch.result c.args.found.now.block
          (sym c.eq.ensures ∙ w.if-eq.true) in
          let last : Fate = w.in_ok-fate_at.field-0 in
          let new_is : c.if-eq.fates.items ≡ fates ++ last ∷ [] =
          ap (λ (v : Vec Fate Global). v.items) w.fates-is ∙ w.in_ok-push.ensures.items in
          record {
            nodes = fetchers_more view.fetches c.args.found.now.block c.loop-node.node (nodes_of fates)
                (nodes_of c.if-eq.fates.items) c.loop-node.invariant.nodes fetched
                (ap nodes_of new_is ∙ map-append (λ (j : Fate). j.node) fates (last ∷ []) ∙ ap
                (λ (n : ℕ). nodes_of fates ++ n ∷ []) w.in_ok-fate_at.ensures.node);
            ends = subst (λ (js : List Fate). All Right js) (sym new_is)
                (All-push Right fates last c.loop-node.invariant.ends w.in_ok-fate_at.ensures.fate);
          }
      | else-eq w ↦
          let other = other_number c.fetch.result c.args.found.now.block (sym c.eq.ensures ∙ w.if-eq.false) in
          let kept : fates ≡ c.if-eq.fates.items = ap (λ (v : Vec Fate Global). v.items) (sym w.fates-is) in
          record {
            nodes = subst (λ (js : List Fate). AreFetchersBelow view.fetches c.args.found.now.block
                (c.loop-node.node + 1) (nodes_of js)) kept
                (fetchers_passed view.fetches c.args.found.now.block c.loop-node.node (nodes_of fates)
                c.loop-node.invariant.nodes (λ same. other (c.fetch.ensures ∙ same)));
            ends = subst (λ (js : List Fate). All Right js) kept c.loop-node.invariant.ends;
          }
    ]

pub returns-clause-nodes : goal.returns-clause-nodes
unfolding nodes_of
returns-clause-nodes c =
    let view = c.args.view.now in
    let count : length c.nodes.result.now ≡ length view.nodes =
    ap length (c.nodes.ensures.same ∙ c.graph.ensures.same) in
    let all : length view.fetches ≡ c.loop-node.node = omega (
      arith,
      count,
      c.requires.view.one_each,
      c.requires.view.graph.few,
      c.loop-node-test.false,
      c.loop-node.auto.node-end,
    ) in
    fetchers_all view.fetches c.args.found.now.block c.loop-node.node (nodes_of c.loop-node.fates.items) all
    c.loop-node.invariant.nodes
