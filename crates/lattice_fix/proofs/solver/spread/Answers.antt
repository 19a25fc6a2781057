use Rattle.std.proofs.Common.{◌≡◌, ℕ, ◌<◌, inl, inr, List, length, slice_index_or, Some, None, sym, ◌∙◌, subst, ⊎_elim}
use Rattle.std.specs.Prelude.{slice_get}
use Rattle.std.proofs.lemmas.Option.{same_Some, none-some, slice_get-get_or}
use Rattle.path_model.specs.declared.graph.Node.{Node}
use Rattle.path_model.proofs.Edges.{LeadsTo, successor-from_node}
use Rattle.lattice_fix.specs.declared.solver.Work.{Work}
use Rattle.lattice_fix.specs.UnderWay.{IsClearAt, AllAreClear, Advances, framework_of, held_in}
use Rattle.lattice_fix.proofs.Progress.{OnOk-two, OnOk-three, advances_refl}
use Rattle.lattice_fix.proofs.Edges.{leads_nowhere, settled_at}
use Rattle.lattice_fix.proofs.solver.spread.Given.{Over}
use Rattle.lattice_fix.proofs.solver.spread.Goals as goal
use Rattle.lattice_fix.proofs.solver.spread.Goals.{Start}

-- the node with this number
abbrev node_at : List Node → ℕ → Node
node_at nodes n = slice_index_or nodes n (record { at = 0; first = None; second = None })

-- it is there
found : (nodes : List Node) (n : ℕ) → n < length nodes → slice_get nodes n ≡ Some (node_at nodes n)
found nodes n inside = slice_get-get_or nodes n (record { at = 0; first = None; second = None }) inside

module _ (g : Over) (c : Start g) where
  -- the node that is visited
  abbrev here : Node
  here = node_at c.args.nodes.now c.args.node

  -- it is there
  is_here : slice_get c.args.nodes.now c.args.node ≡ Some here
  is_here = found c.args.nodes.now c.args.node c.requires.inside

  -- nothing is done where nothing is to be done
  stays : Advances g.D.Domain c.args.nodes.now c.args.domain.now c.args.work.now c.args.domain.now c.args.work.now
  stays = advances_refl g.D.Domain c.args.nodes.now c.args.domain.now c.args.work.now c.requires.under_way

  -- where the node's own edges are clear after an advance, all are
  settles : (domain : g.row.D.Denot) (work : Work g.row.D-Value.Denot) →
      Advances g.D.Domain c.args.nodes.now c.args.domain.now c.args.work.now domain work →
      ((m : ℕ) → LeadsTo here m → IsClearAt g.D.Domain domain work c.args.node m) →
      AllAreClear g.D.Domain c.args.nodes.now domain work
  settles domain work advances mine = settled_at (framework_of g.D.Domain domain) c.args.nodes.now
      (held_in g.D.Domain domain work) work.waiting c.args.node here is_here
      (λ n m other leads. advances.progress.keeps n m (c.requires.others n m other leads)) mine

pub returns-in_default-clause-advances : goal.returns-in_default-clause-advances
returns-in_default-clause-advances g c = stays g (goal.at.returns-in_default-clause-advances g c).Start

pub returns-in_default-clause-settled : goal.returns-in_default-clause-settled
returns-in_default-clause-settled g d =
    let c : Start g = (goal.at.returns-in_default-clause-settled g d).Start in
    settles g c c.args.domain.now c.args.work.now (stays g c)
    (λ m leads. absurd (leads_nowhere c.args.nodes.now c.requires.under_way.graph c.args.node m (here g c) (is_here g c)
    d.in_default.is leads))

pub fork-requires-clause-first : goal.fork-requires-clause-first
fork-requires-clause-first g d =
    let c : Start g = (goal.at.fork-requires-clause-first g d).Start in
    successor-from_node c.args.nodes.now c.args.node d.in-Some.first (here g c) (is_here g c) (inl d.in-Some.is)

pub fork-requires-clause-second : goal.fork-requires-clause-second
fork-requires-clause-second g d =
    let c : Start g = (goal.at.fork-requires-clause-second g d).Start in
    let second = d.in-Some-second in
    successor-from_node c.args.nodes.now c.args.node second.second (here g c) (is_here g c) (inr second.is)

pub follow-requires-clause-edge : goal.follow-requires-clause-edge
follow-requires-clause-edge g d =
    let c : Start g = (goal.at.follow-requires-clause-edge g d).Start in
    successor-from_node c.args.nodes.now c.args.node d.in-Some.first (here g c) (is_here g c) (inl d.in-Some.is)

pub returns-in-Some-second-clause-settled : goal.returns-in-Some-second-clause-settled
returns-in-Some-second-clause-settled g d =
    let c : Start g = (goal.at.returns-in-Some-second-clause-settled g d).Start in
    let IsClearTo = IsClearAt g.D.Domain d.fork.new.domain d.fork.new.work c.args.node in
    let second = d.in-Some-second in
    OnOk-three d.fork.result (λ advances clear both. settles g c d.fork.new.domain d.fork.new.work advances
    (λ m leads. ⊎_elim
    (λ is. subst IsClearTo (same_Some d.in-Some.first m (sym d.in-Some.is ∙ is)) clear)
    (λ is. subst IsClearTo (same_Some second.second m (sym second.is ∙ is)) both)
    leads))
    d.fork.ensures.advances d.fork.ensures.first d.fork.ensures.second

pub returns-in-None-clause-settled : goal.returns-in-None-clause-settled
returns-in-None-clause-settled g d =
    let c : Start g = (goal.at.returns-in-None-clause-settled g d).Start in
    let IsClearTo = IsClearAt g.D.Domain d.follow.new.domain d.follow.new.work c.args.node in
    OnOk-two d.follow.result (λ advances clear. settles g c d.follow.new.domain d.follow.new.work advances
    (λ m leads. ⊎_elim
    (λ is. subst IsClearTo (same_Some d.in-Some.first m (sym d.in-Some.is ∙ is)) clear)
    (λ is. absurd (none-some m (sym d.in-None.is ∙ is)))
    leads))
    d.follow.ensures.advances d.follow.ensures.clear
