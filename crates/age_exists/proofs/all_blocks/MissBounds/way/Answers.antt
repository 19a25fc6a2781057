use Rattle.std.proofs.Common.{sym, subst}
use Rattle.age_exists.specs.Columns.{Columns, AreMissesOf}
use Rattle.age_exists.specs.Rows.{rows_seen}
use Rattle.age_exists.proofs.Columned.{misses_own, misses_columns}
use Rattle.age_exists.proofs.all_blocks.MissBounds.way.Goals as goal

pub way_to-requires-clause-own : goal.way_to-requires-clause-own
way_to-requires-clause-own c =
    let view = c.args.view.now in
    misses_own view c.blocks-blocks.ensures.view (rows_seen c.self.inside.rows)
    (subst (λ (bounds : Columns). AreMissesOf view bounds) (sym c.self.view_is) c.requires.of_view)

pub way_to-requires-clause-columns : goal.way_to-requires-clause-columns
way_to-requires-clause-columns c =
    let view = c.args.view.now in
    misses_columns view c.blocks-blocks.ensures.view (rows_seen c.self.inside.rows)
    (subst (λ (bounds : Columns). AreMissesOf view bounds) (sym c.self.view_is) c.requires.of_view)
