use Rattle.std.proofs.Common.{◌≡◌, ◌↔◌, ◌<◌, ℕ, Bool, List, length, sym, ap, ◌∙◌, subst}
use Rattle.std.specs.Prelude.{IsSome}
use Rattle.std.proofs.lemmas.Option.{same_Some}
use Rattle.lattice_fix.specs.Solution.{IsLeast}
use Rattle.set_view.specs.View.{View}
use Rattle.age_spec.specs.Ages.{age_at}
use Rattle.age_spec.specs.Settled.{IsShown}
use Rattle.age_exists.specs.Columns.{column_at}
use Rattle.age_exists.specs.Equations.{framework_of, setting_with}
use Rattle.age_exists.specs.Rows.{columns_seen}
use Rattle.age_exists.proofs.Columned.{column_same}
use Rattle.age_exists.proofs.all_blocks.way_to.Goals as goal

pub returns-clause-variant : goal.returns-clause-variant
returns-clause-variant c = λ local fetches.
    let view : View = c.args.view.now in
    let rows = c.args.rows.now in
    let found = c.in_ok-found.found in
    let n : ℕ = c.args.node in
    let block : ℕ = c.in-Some.block in
    let columns : List (List ℕ) = columns_seen rows.columns.items in
    let here : block ≡ local = same_Some block local (c.in-Some.ensures ∙ fetches) in
    let known : block < length view.blocks = c.blocks-blocks.ensures.view.within n block (sym c.in-Some.ensures) in
    let least : IsLeast (framework_of (setting_with c.args.hits view rows.start rows.own.items block)) view.nodes
    found.bounds =
    subst (λ (own : List ℕ). IsLeast (framework_of (setting_with c.args.hits view rows.start own block)) view.nodes
    found.bounds) c.deref.ensures.value c.in_ok-found.ensures.least in
    let bounds_are : found.bounds ≡ column_at columns local =
    column_same view rows.start c.args.hits rows.own.items columns block found.bounds c.requires.columns known least
    ∙ ap (column_at columns) here in
    let Shows : Bool → ℕ → List ℕ → Type 0 =
    λ hits ways bounds. IsSome c.in_ok-way.way ↔ IsShown hits ways (age_at bounds n) in
    let ways_are : found.view.geometry.ways ≡ view.geometry.ways =
    ap (λ (v : View). v.geometry.ways) c.in_ok-found.ensures.view in
    subst (Shows c.args.hits view.geometry.ways) bounds_are
    (subst (λ (ways : ℕ). Shows c.args.hits ways found.bounds) ways_are
    (subst (λ (hits : Bool). Shows hits found.view.geometry.ways found.bounds) c.in_ok-found.ensures.hits
    c.in_ok-way.ensures.variant))
