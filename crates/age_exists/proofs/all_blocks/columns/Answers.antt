use Rattle.std.proofs.Common.{List, ℕ, Vec, Global, [], ◌∷◌, ap, ◌∙◌}
use Rattle.std.proofs.lemmas.List.{map-append}
use Rattle.age_exists.specs.Rows.{columns_seen}
use Rattle.age_exists.proofs.Columned.{columns_more}
use Rattle.age_exists.proofs.all_blocks.columns.Goals as goal

abbrev items_of : Vec ℕ Global → List ℕ
items_of column = column.items

pub loop-block-preserved : goal.loop-block-preserved
loop-block-preserved c =
    let made : List (Vec ℕ Global) = c.loop-block.columns.items in
    columns_more c.args.view.now c.args.start c.args.hits c.args.own.now c.loop-block.block (columns_seen made)
    (columns_seen c.push.new.self.items) c.in_ok-column.field-0.items c.loop-block.invariant c.in_ok-column.ensures
    (ap columns_seen c.in_ok-push.ensures.items ∙ map-append items_of made (c.in_ok-column.field-0 ∷ []))
