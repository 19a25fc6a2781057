-- Advances of the solver, one after another.
use Rattle.std.proofs.Common.{◌≡◌, List, length, Result, Ok, Err, refl, ◌∙◌, arith}
use Rattle.std.specs.Result.{OnOk}
use Rattle.path_model.specs.declared.graph.Node.{Node}
use Rattle.lattice_fix.specs.declared.domain.Domain.{Ghosts}
use Rattle.lattice_fix.specs.declared.solver.Work.{Work}
use Rattle.lattice_fix.specs.UnderWay.{IsUnderWay, Advances}
use Rattle.lattice_fix.proofs.Later.{IsLater, under_way_later, clear_later}

module _ {Self V S : Type 0} (g : Ghosts Self V S) (nodes : List Node) (first second : Self) (old mid : Work V) where
  -- two advances are one
  pub advances_trans : (third : Self) (new : Work V) → Advances g nodes first old second mid →
      Advances g nodes second mid third new → Advances g nodes first old third new
  advances_trans third new one two = record {
    under_way = two.under_way;
    progress = record {
      keeps = λ n m clear. two.progress.keeps n m (one.progress.keeps n m clear);
      longer = omega (arith, one.progress.longer, two.progress.longer);
      calm = λ same.
          let half : length new.changes.items ≡ length mid.changes.items =
          omega (arith, one.progress.longer, two.progress.longer, same) in
          let rest : length mid.changes.items ≡ length old.changes.items = omega (arith, half, same) in
          two.progress.calm half ∙ one.progress.calm rest;
    };
  }

-- where only the domain went on the solver advances
pub advances_later : {Self V S : Type 0} (g : Ghosts Self V S) (nodes : List Node) (old new : Self) (work : Work V) →
    IsLater g old new → IsUnderWay g nodes old work → Advances g nodes old work new work
advances_later g nodes old new work later course = record {
  under_way = under_way_later g old new later nodes work course;
  progress =
      record { keeps = clear_later g old new later nodes work course; longer = omega arith; calm = λ same. refl };
}

-- where nothing was done the solver advances
pub advances_refl : {Self V S : Type 0} (g : Ghosts Self V S) (nodes : List Node) (domain : Self) (work : Work V) →
    IsUnderWay g nodes domain work → Advances g nodes domain work domain work
advances_refl g nodes domain work course = record {
  under_way = course;
  progress = record { keeps = λ n m clear. clear; longer = omega arith; calm = λ same. refl };
}

-- what follows from two clauses on one outcome
pub OnOk-two : {T E P Q S : Type 0} (r : Result T E) → (P → Q → S) → OnOk r P → OnOk r Q → OnOk r S
OnOk-two (Ok value) then p q = then p q
OnOk-two (Err fault) then p q = tt

-- what follows from three clauses on one outcome
pub OnOk-three : {T E P Q R S : Type 0} (r : Result T E) → (P → Q → R → S) →
    OnOk r P → OnOk r Q → OnOk r R → OnOk r S
OnOk-three (Ok value) then p q s = then p q s
OnOk-three (Err fault) then p q s = tt
