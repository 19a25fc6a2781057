use Rattle.std.proofs.Common.{ℕ, true, List, length, sym, subst}
use Rattle.std.proofs.lemmas.List.{length-map}
use Rattle.lattice_fix.specs.Framework.{Framework}
use Rattle.age_exists.specs.Led.{AreLed}
use Rattle.age_exists.specs.Seen.{entry_seen, seen_as}
use Rattle.age_exists.specs.Spread.{Hits, Spread, spread_seen, IsUnderWay}
use Rattle.age_exists.proofs.Own.{over_own}
use Rattle.age_exists.proofs.Working.{worked_off}
use Rattle.age_exists.proofs.near.near_bounds.Goals as goal

pub returns : goal.returns
returns c =
    let view = c.args.view.now in
    let must : List (List ℕ) = c.args.must.now in
    let h : Hits = record { view = view; start = c.args.start; must = must; block = c.args.block } in
    let found = c.work_off.new.found in
    let s : Spread = spread_seen found in
    let done : IsUnderWay h (length s.trail.entries) s =
    subst (λ (n : ℕ). IsUnderWay h n s) (sym (length-map found.steps.entries.items entry_seen))
    c.in_ok-work_off.ensures in
    subst (λ (F : Framework ℕ). AreLed F view.nodes found.bounds.items (seen_as found.steps))
    (sym (over_own view done.spread.is_view true c.args.start must c.args.block)) (worked_off h s done)
