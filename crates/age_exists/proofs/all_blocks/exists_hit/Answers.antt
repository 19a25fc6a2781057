use Rattle.age_exists.specs.Rows.{columns_seen, rows_seen}
use Rattle.age_exists.proofs.Columned.{hit_columns, hits_of}
use Rattle.age_exists.proofs.all_blocks.exists_hit.Goals as goal

pub returns-clause-columns : goal.returns-clause-columns
returns-clause-columns c =
    let rows = c.in_ok-rows.rows in
    hit_columns c.args.view.now c.blocks-blocks.ensures.view c.args.start rows.own.items c.args.must.now
    (columns_seen rows.columns.items) c.in_ok-rows.ensures.own c.in_ok-rows.ensures.columns

pub returns-clause-of_view : goal.returns-clause-of_view
returns-clause-of_view c =
    hits_of c.args.view.now c.blocks-blocks.ensures.view c.args.start c.args.must.now (rows_seen c.in_ok-rows.rows)
    c.in_ok-rows.ensures.start c.requires.must c.in_ok-rows.ensures.own c.in_ok-rows.ensures.columns
