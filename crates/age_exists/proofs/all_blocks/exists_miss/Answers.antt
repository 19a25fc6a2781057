use Rattle.age_exists.specs.Rows.{columns_seen, rows_seen}
use Rattle.age_exists.proofs.Columned.{miss_columns, misses_of}
use Rattle.age_exists.proofs.all_blocks.exists_miss.Goals as goal

pub returns-clause-columns : goal.returns-clause-columns
returns-clause-columns c =
    let rows = c.in_ok-rows.rows in
    miss_columns c.args.view.now c.blocks-blocks.ensures.view c.args.start rows.own.items c.args.may.now
    (columns_seen rows.columns.items) c.in_ok-rows.ensures.own c.in_ok-rows.ensures.columns

pub returns-clause-of_view : goal.returns-clause-of_view
returns-clause-of_view c =
    misses_of c.args.view.now c.blocks-blocks.ensures.view c.args.start c.args.may.now (rows_seen c.in_ok-rows.rows)
    c.in_ok-rows.ensures.start c.requires.may c.in_ok-rows.ensures.own c.in_ok-rows.ensures.columns
