use Rattle.std.proofs.Common.{ℕ, ◌+◌, Vec, Global, subst, sym}
use Rattle.age_exists.specs.Fetchers.{HaveFetchers}
use Rattle.age_exists.specs.Rows.{columns_seen}
use Rattle.age_exists.proofs.Fetching.{fetchers_kept, fetchers_pushed}
use Rattle.age_exists.proofs.fetchers.fetchers_of.Goals as goal
use Rattle.age_exists.proofs.fetchers.fetchers_of.Goals.{in-Some+else-prove+in_ok-push, in_default}

pub loop-node-preserved : goal.loop-node-preserved
loop-node-preserved c =
    let view = c.args.view.now in
    let n : ℕ = c.loop-node.node in
    let lists = c.loop-node.fetchers.items in
    elim c.match-fetch.branch [
      | in-Some+else-prove+in_ok-push w ↦
          let fetches = sym w.in-Some.ensures in
          subst (λ (after : Vec (Vec ℕ Global) Global). HaveFetchers view (n + 1) (columns_seen after.items))
          (sym w.fetchers-is)
          (fetchers_pushed view n lists c.loop-node.invariant w.in-Some.block
          (c.blocks-blocks.ensures.view.within n w.in-Some.block fetches) fetches w.index_mut.result.now
          w.push.new.self w.index_mut.ensures.value w.in_ok-push.ensures.items)
      | in_default w ↦
          subst (λ (after : Vec (Vec ℕ Global) Global). HaveFetchers view (n + 1) (columns_seen after.items))
          (sym w.fetchers-is)
          (fetchers_kept view n (columns_seen lists) c.loop-node.invariant (sym w.in_default.ensures))
    ]
