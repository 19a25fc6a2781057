-- What holds as a domain sees it still holds once the domain went on.
use Rattle.std.proofs.Common.{◌≡◌, ℕ, suc, ◌<◌, ◌≤◌, List, [], ◌∷◌, length, Option, Some, None, refl, sym, ◌∙◌, ap, subst, ⊎_elim}
use Rattle.std.specs.Option.{option_map}
use Rattle.std.proofs.lemmas.Bool.{cases_lt}
use Rattle.std.proofs.lemmas.List.{length-map, get_or-map, get_or_past}
use seplogic.Ra.Ura.{Ura}
use mir.Syntax.{Dict}
use prog.Model.{Model}
use types.Logic.{Logic}
use contract.Running.{Running}
use denote.RattleType.{RattleType}
use Rattle.path_model.specs.declared.graph.Node.{Node}
use Rattle.lattice_fix.specs.declared.domain.Domain.{Ghosts}
use Rattle.lattice_fix.specs.declared.solver.Work.{Work}
use Rattle.lattice_fix.specs.contracts.domain.Domain.TheBound.{Met}
use Rattle.lattice_fix.specs.Replay.{value_at, Replays, nothing}
use Rattle.lattice_fix.specs.Course.{IsCourse, IsClear, data_of}
use Rattle.lattice_fix.specs.UnderWay.{IsUnderWay, IsClearAt, IsMovedFrom, framework_of, fits_in, data_in, held_in}

-- what a node's value stands for
pub data_at : {V D : Type 0} (stands : V → D) (values : List (Option V)) (n : ℕ) →
    value_at (data_of stands values) n ≡ option_map stands (value_at values n)
data_at stands values n = ⊎_elim
    (λ (inside : n < length values). get_or-map (option_map stands) values n None None inside)
    (λ (past : length values ≤ n).
    let beyond : length (data_of stands values) ≤ n =
    subst (λ (k : ℕ). k ≤ n) (sym (length-map values (option_map stands))) past in
    get_or_past (data_of stands values) n None beyond ∙ ap (option_map stands) (sym (get_or_past values n None past)))
    (cases_lt n (length values))

-- values that stand for the same stand for the same data
same_data : {V D : Type 0} (f g : V → D) (values : List (Option V)) →
    ((n : ℕ) (v : V) → value_at values n ≡ Some v → g v ≡ f v) → data_of g values ≡ data_of f values
same_data f g [] same = refl
same_data {V} {D} f g (None ∷ values) same =
    ap (λ (w : List (Option D)). None ∷ w) (same_data f g values (λ n. same (suc n)))
same_data {V} {D} f g (Some v ∷ values) same =
    ap (λ (y : D). Some y ∷ data_of g values) (same 0 v refl)
    ∙ ap (λ (w : List (Option D)). Some (f v) ∷ w) (same_data f g values (λ n. same (suc n)))

-- what a domain keeps when it goes on: its setting, and what is fit and what that stands for
pub record IsLater {Self V S : Type 0} (g : Ghosts Self V S) (old new : Self) : Type 0 where
  pub setting : g.setting (g.state new) ≡ g.setting (g.state old)
  pub fits : (v : V) → fits_in g old v → fits_in g new v
  pub stands : (v : V) → fits_in g old v → data_in g new v ≡ data_in g old v

-- by its laws a domain that goes on keeps them
pub is_later : {M : Type 1} {𝓤 : Ura M} {𝓛 : Logic 𝓤} {𝓜 : Model 𝓤 𝓛.H} {𝓡 : Running 𝓤 𝓛.H 𝓜} {Self V S : RattleType}
    {g : Ghosts Self.Denot V.Denot S.Denot} {d : Dict} → Met 𝓛 𝓜 𝓡 𝓡.env Self V S g d → (old new : Self.Denot) →
    g.goes_on (g.state old) (g.state new) → IsLater g old new
is_later {g = g} met old new goes = record {
  setting = met.same_setting (g.state old) (g.state new) goes;
  fits = λ v. met.still_fits (g.state old) (g.state new) v goes;
  stands = λ v. met.still_stands (g.state old) (g.state new) v goes;
}

module _ {Self V S : Type 0} (g : Ghosts Self V S) (old new : Self) (later : IsLater g old new) where
  -- fit values stand for the same later
  later_data : (values : List (Option V)) → ((n : ℕ) (v : V) → value_at values n ≡ Some v → fits_in g old v) →
      data_of (data_in g new) values ≡ data_of (data_in g old) values
  later_data values fit = same_data (data_in g old) (data_in g new) values (λ n v is. later.stands v (fit n v is))

  module _ (nodes : List Node) (work : Work V) (course : IsUnderWay g nodes old work) where
    -- the values of the work stand for the same later
    stay : held_in g new work ≡ held_in g old work
    stay = later_data work.values.items course.fit

    -- the solver is still under way
    pub under_way_later : IsUnderWay g nodes new work
    under_way_later =
        let F = framework_of g old in
        subst (λ (b : g.Setting). IsCourse (g.framework b) (fits_in g new) (data_in g new) nodes
        work.values.items work.changes.items work.waiting) (sym later.setting)
        (record {
          graph = course.graph;
          one_each = course.one_each;
          one_flag_each = course.one_flag_each;
          fit = λ n v is. later.fits v (course.fit n v is);
          begun = subst (λ (w : List (Option g.Data)). (x : g.Data) × (value_at w 0 ≡ Some x) × F.below F.start x)
              (sym stay) course.begun;
          replay = subst (λ (w : List (Option g.Data)). Replays F nodes (nothing nodes) work.changes.items w) (sym stay)
              course.replay;
        })

    -- a clear edge is still clear
    pub clear_later : (n m : ℕ) → IsClearAt g old work n m → IsClearAt g new work n m
    clear_later n m clear =
        subst (λ (b : g.Setting). IsClear (g.framework b) (held_in g new work) work.waiting n m) (sym later.setting)
        (subst (λ (w : List (Option g.Data)). IsClear (framework_of g old) w work.waiting n m) (sym stay) clear)

    -- what was moved still stands for the transfer
    pub moved_later : (from : ℕ) (moved : V) → IsMovedFrom g old work from moved → IsMovedFrom g new work from moved
    moved_later from moved is = record {
      fit = later.fits moved is.fit;
      value = is.value;
      held = is.held;
      same = later.stands moved is.fit
          ∙ (is.same
          ∙ (ap (λ (y : g.Data). (framework_of g old).transfer from y)
          (sym (later.stands is.value (course.fit from is.value is.held)))
          ∙ ap (λ (b : g.Setting). (g.framework b).transfer from (data_in g new is.value)) (sym later.setting)));
    }

-- what was moved stands for the transfer also where the node before keeps its value
pub moved_kept : {Self V S : Type 0} (g : Ghosts Self V S) (domain : Self) (old new : Work V) (from : ℕ) (moved : V) →
    value_at new.values.items from ≡ value_at old.values.items from →
    IsMovedFrom g domain old from moved → IsMovedFrom g domain new from moved
moved_kept g domain old new from moved kept is =
    record { fit = is.fit; value = is.value; held = kept ∙ is.held; same = is.same }
