use Rattle.std.proofs.Common.{ℕ, map, subst}
use Rattle.std.proofs.lemmas.List.Elements.{All-contains}
use Rattle.std.specs.List.{All}
use Rattle.list_lemmas.proofs.Members.{has-found}
use Rattle.cache_spec.specs.declared.start.Start.{Start}
use Rattle.focus_plain.specs.Settled.{IsPlainPlace, IsFate}
use Rattle.focus_plain.specs.Judged.{AreFetchers}
use Rattle.focus_plain.proofs.Alike.{all_alike}
use Rattle.focus_plain.proofs.settling.settle.Goals as goal

pub returns-clause-ends : goal.returns-clause-ends
returns-clause-ends c =
    subst (λ (start : Start). All (IsFate c.args.view.now start) c.in_ok-fates.fates.items) c.in_ok-found.ensures.start
    c.in_ok-fates.ensures.ends

pub returns-clause-alike : goal.returns-clause-alike
returns-clause-alike c = λ k place fate place_at fate_at.
    let view = c.args.view.now in
    all_alike view c.args.start c.args.block (λ n earlier path fetches. (
      c.view_laws.ensures.hits view c.args.start n c.args.block earlier c.blocks-blocks.ensures.view path fetches,
      c.view_laws.ensures.misses view c.args.start n c.args.block earlier c.blocks-blocks.ensures.view path fetches,
    ))
    c.in_ok-places.places.items c.in_ok-fates.fates.items c.in_ok-places.ensures.nodes
    (subst (λ (b : ℕ). AreFetchers view.fetches b (map (λ fate. fate.node) c.in_ok-fates.fates.items))
    c.in_ok-found.ensures.block c.in_ok-fates.ensures.nodes)
    k place fate place_at fate_at
    (All-contains (IsPlainPlace view c.args.start c.args.block) c.in_ok-places.places.items place
    c.in_ok-places.ensures.sets
    (has-found c.in_ok-places.places.items k place place_at))
    (All-contains (IsFate view c.args.start) c.in_ok-fates.fates.items fate
    (subst (λ (start : Start). All (IsFate view start) c.in_ok-fates.fates.items) c.in_ok-found.ensures.start
    c.in_ok-fates.ensures.ends)
    (has-found c.in_ok-fates.fates.items k fate fate_at))
