use Rattle.std.proofs.Common.{List, ℕ, ◌∷◌, subst}
use Rattle.std.specs.Prelude.{Some}
use Rattle.std.specs.BTreeMap.{Updates}
use Rattle.std.specs.Cmp.Lexicographic.{slice_cmp}
use Rattle.std.specs.Ordering.{nat_cmp}
use Rattle.flow_spec.specs.Order.{frame_numbers}
use Rattle.frame_stacks.proofs.Indexed.{other_cell}
use Rattle.frame_stacks.proofs.numbers.Numbers.insert.Goals as goal

pub returns-clause-ok : goal.returns-clause-ok
returns-clause-ok c =
    let UpdatesAt : List ℕ → Type 0 =
    λ key. Updates (slice_cmp nat_cmp) c.args.self.now.by_cell c.insert.new.self key (Some c.args.number) in
    let updates = subst UpdatesAt c.cell_numbers.ensures c.in_ok-insert.ensures.updates in
    record {
      given = updates.1;
      others = λ other. other_cell c.args.cell other _ _ (Some c.args.number)
          (updates.0 (other.below ∷ frame_numbers other.frame));
    }
