-- A walk along recorded changes, which reads them as a trail.
use Rattle.std.proofs.Common.{◌≡◌, ℕ, ◌+◌, ◌<◌, List, ◌∷◌, length, drop, drop-cons, get_or, add-one, Option, None, sym, ap, ◌∙◌, Some}
use Rattle.std.proofs.Math.ListN.{length-set}
use Rattle.std.proofs.lemmas.List.{length-replicate}
use Rattle.lattice_fix.specs.declared.change.Change.{Change}
use Rattle.age_exists.specs.Retraced.{Retraced, with_change, with_changes, no_entries}

-- at this index: with the changes that are left the trail is that of all changes
pub record IsRetracing (count : ℕ) (changes : List Change) (index : ℕ) (now : Retraced) : Type 0 where
  pub same : with_changes now (drop index changes) ≡ with_changes (no_entries count) changes
  pub one_each : length now.last ≡ count

-- one change more
pub retracing_more : (count : ℕ) (changes : List Change) (index : ℕ) (now next : Retraced) (default : Change)
    → IsRetracing count changes index now → index < length changes
    → next ≡ with_change now (get_or changes index default) → IsRetracing count changes (index + 1) next
retracing_more count changes index now next default is inside made =
    let change : Change = get_or changes index default in
    let left : drop index changes ≡ change ∷ drop (index + 1) changes =
    drop-cons changes index default inside ∙ ap (λ (n : ℕ). change ∷ drop n changes) (sym (add-one index)) in
    record {
      same = ap (λ (t : Retraced). with_changes t (drop (index + 1) changes)) made
          ∙ (ap (with_changes now) (sym left) ∙ is.same);
      one_each = ap (λ (t : Retraced). length t.last) made
          ∙ (length-set now.last change.node (Some (length now.entries)) ∙ is.one_each);
    }

-- no node's number
abbrev pub nowhere : Option ℕ
nowhere = None

-- at first
pub retracing_begins : (count : ℕ) (changes : List Change) (now : Retraced) → now ≡ no_entries count
    → IsRetracing count changes 0 now
retracing_begins count changes now is = record {
  same = ap (λ (t : Retraced). with_changes t changes) is;
  one_each = ap (λ (t : Retraced). length t.last) is ∙ length-replicate count nowhere;
}
