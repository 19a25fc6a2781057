-- Which instructions are begun, by the nodes at their addresses.
use Rattle.std.proofs.Common.{◌≡◌, ℕ, ◌<◌, List, length, sym, ◌∙◌, ap, subst, arith}
use Rattle.std.specs.List.{Contains}
use Rattle.std.proofs.lemmas.List.{get_or_default}
use Rattle.std.proofs.lemmas.List.Elements.{Contains-get_or}
use Rattle.flow_spec.specs.Configuration.{Configuration, configuration, start_of, fetched}
use Rattle.path_model.specs.declared.graph.Node.{Node}
use Rattle.call_expand.specs.Expansion.{numbered}
use Rattle.node_spec.specs.Plan.{IsNodeAt, IsBegun}
use Rattle.report_plan.specs.Kept.{AreFetched}

-- a configuration at its first part is one of what is open and the address that it fetches
first-part : (c : Configuration) (address : ℕ) → c.part ≡ 0 → fetched c ≡ address → c ≡ configuration c.frames address
first-part c address first is =
    let at : c.at ≡ address = omega arith in
    let P : ℕ → Configuration = λ at. record { frames = c.frames; at = at; part = c.part } in
    let Q : ℕ → Configuration = λ part. record { frames = c.frames; at = address; part = part } in
    ap P at ∙ ap Q first

-- a node at the address whose configuration is at its first part begins the instruction there
pub begun-by : (configurations : List Configuration) (nodes : List Node) (address n : ℕ)
    → AreFetched configurations nodes → IsNodeAt nodes address n → (numbered configurations n).part ≡ 0
    → IsBegun configurations address
begun-by configurations nodes address n are at first =
    let c = numbered configurations n in
    let is = first-part c address first (sym (are.fetches n at.inside) ∙ at.at) in (
      c.frames,
      subst (λ (c : Configuration). Contains configurations c) is
          (Contains-get_or configurations n (start_of 0) (omega (arith, at.inside, are.one_each))),
    )

-- where no node there is of such a configuration, no instruction is begun there
pub none-begun : (configurations : List Configuration) (nodes : List Node) (address : ℕ)
    → AreFetched configurations nodes
    → ((n : ℕ) → IsNodeAt nodes address n → (numbered configurations n).part ≡ 0 → ⊥)
    → IsBegun configurations address → ⊥
none-begun configurations nodes address are none (frames, (n, inside, is)) =
    let c = configuration frames address in
    let same : numbered configurations n ≡ c = get_or_default configurations n (start_of 0) c inside ∙ is in
    let there : n < length nodes = omega (arith, inside, are.one_each) in
    let at = are.fetches n there ∙ ap fetched same in
    none n (record { inside = there; at = omega arith })
    (ap (λ (c : Configuration). c.part) same)
