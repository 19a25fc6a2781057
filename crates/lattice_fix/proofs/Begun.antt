-- What holds once the start is before node 0.
use Rattle.std.proofs.Common.{◌≡◌, ◌≢◌, ℕ, suc, zero, ◌<◌, Bool, true, false, List, [], ◌∷◌, length, replicate, slice_index_or, slice_set, Option, Some, None, refl, sym, ◌∙◌, ap, subst, arith, get_or-set_same, get_or-set_other, ⊎_elim}
use Rattle.std.specs.Option.{option_map}
use Rattle.std.proofs.lemmas.Option.{same_Some, none-some}
use Rattle.std.proofs.lemmas.Bool.{cases_eq, true≢false}
use Rattle.std.proofs.lemmas.List.{length-set, length-replicate, map-set}
use Rattle.path_model.specs.declared.graph.Node.{Node}
use Rattle.path_model.specs.Graph.{IsGraph}
use Rattle.lattice_fix.specs.declared.change.Change.{Change}
use Rattle.lattice_fix.specs.Framework.{Framework, IsMonotone}
use Rattle.lattice_fix.specs.Replay.{value_at, joined, Raises, Replays, nothing}
use Rattle.lattice_fix.specs.Course.{IsCourse, IsSettled, data_of}
use Rattle.lattice_fix.proofs.Steps.{at_replicate}

-- empty slots stand for nothing
data_of-nothing : {V D : Type 0} (stands : V → D) (count : ℕ) →
    data_of stands (replicate count None) ≡ replicate count None
data_of-nothing stands zero = refl
data_of-nothing {V} {D} stands (suc count) = ap (λ (w : List (Option D)). None ∷ w) (data_of-nothing stands count)

module _ {V D : Type 0} (F : Framework D) (M : IsMonotone F) (fits : V → Type 0) (stands : V → D)
    (nodes : List Node) (G : IsGraph nodes)
    (v : V) (fit : fits v) (start : stands v ≡ F.start)
    (values : List (Option V)) (slots : values ≡ slice_set (replicate (length nodes) None) 0 (Some v))
    (changes : List Change) (first : changes ≡ record { node = 0; from = None } ∷ [])
    (waiting : List Bool) (flags : waiting ≡ slice_set (replicate (length nodes) false) 0 true) where
  -- slots without a value
  abbrev empty : List (Option V)
  empty = replicate (length nodes) None

  -- flags of which none is set
  abbrev idle : List Bool
  idle = replicate (length nodes) false

  -- there is a node 0
  some : 0 < length nodes
  some = omega (arith, G.some)

  -- node 0 has the start
  put : data_of stands values ≡ slice_set (nothing nodes) 0 (Some F.start)
  put = ap (data_of stands) slots
      ∙ (map-set (option_map stands) (replicate (length nodes) None) 0 (Some v)
      ∙ (ap (λ (w : List (Option D)). slice_set w 0 (Some (stands v))) (data_of-nothing stands (length nodes))
      ∙ ap (λ (y : D). slice_set (nothing nodes) 0 (Some y)) start))

  -- which has a place
  inside : 0 < length (nothing {D = D} nodes)
  inside = subst (λ (k : ℕ). 0 < k) (sym (length-replicate (length nodes) None)) some

  -- node 0 has the start
  has_start : value_at (data_of stands values) 0 ≡ Some F.start
  has_start =
      ap (λ (w : List (Option D)). value_at w 0) put ∙ get_or-set_same (nothing nodes) 0 (Some F.start) None inside

  -- no other node has anything
  other_none : (n : ℕ) (x : D) → n ≢ 0 → value_at (data_of stands values) n ≡ Some x → ⊥
  other_none n x other is = none-some x
      (sym (ap (λ (w : List (Option D)). value_at w n) put
      ∙ (get_or-set_other (nothing nodes) 0 n (Some F.start) None other ∙ at_replicate (length nodes) n None)) ∙ is)

  -- the one value is fit
  fit_each : (n : ℕ) (w : V) → value_at values n ≡ Some w → fits w
  fit_each n w is =
      let here : value_at (slice_set empty 0 (Some v)) n ≡ Some w =
      sym (ap (λ (s : List (Option V)). value_at s n) slots) ∙ is in
      let room : 0 < length empty = subst (λ (k : ℕ). 0 < k) (sym (length-replicate (length nodes) None)) some in
      ⊎_elim
      (λ (same : n ≡ 0).
      let first : value_at (slice_set empty 0 (Some v)) 0 ≡ Some w =
      subst (λ (k : ℕ). value_at (slice_set empty 0 (Some v)) k ≡ Some w) same here in
      subst fits (same_Some v w (sym (get_or-set_same empty 0 (Some v) None room) ∙ first)) fit)
      (λ (other : n ≢ 0).
      let none = get_or-set_other empty 0 n (Some v) None other ∙ at_replicate (length nodes) n None in
      absurd (none-some w (sym none ∙ here)))
      (cases_eq n 0)

  -- the course has begun
  pub course_begun : IsCourse F fits stands nodes values changes waiting
  course_begun =
      let none : value_at (nothing {D = D} nodes) 0 ≡ None = at_replicate (length nodes) 0 None in
      record {
        graph = G;
        one_each = ap length slots ∙ (length-set empty 0 (Some v) ∙ length-replicate (length nodes) None);
        one_flag_each = ap length flags ∙ (length-set idle 0 true ∙ length-replicate (length nodes) false);
        fit = fit_each;
        begun = (F.start, has_start, M.reflexive F.start M.start_within);
        replay = subst (λ (c : List Change). Replays F nodes (nothing nodes) c (data_of stands values)) (sym first) (
          data_of stands values,
          record {
            brought = F.start;
            inside = inside;
            brings = (refl, refl);
            raises = subst (λ (o : Option D). Raises F o F.start) (sym none) tt;
            leaves = put ∙ ap (λ (o : Option D). slice_set (nothing nodes) 0 (Some (joined F o F.start))) (sym none);
          },
          refl,
        );
      }

  -- each edge is clear, since only node 0 has a value, and waits
  pub settled_begun : IsSettled F nodes (data_of stands values) waiting
  settled_begun n m leads done x is = ⊎_elim
      (λ (same : n ≡ 0).
      let room : 0 < length idle = subst (λ (k : ℕ). 0 < k) (sym (length-replicate (length nodes) false)) some in
      let waits : slice_index_or waiting 0 false ≡ true =
      ap (λ (w : List Bool). slice_index_or w 0 false) flags ∙ get_or-set_same idle 0 true false room in
      absurd (true≢false (sym waits ∙ subst (λ (k : ℕ). slice_index_or waiting k false ≡ false) same done)))
      (λ (other : n ≢ 0). absurd (other_none n x other is))
      (cases_eq n 0)
