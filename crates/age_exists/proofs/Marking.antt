-- Marks of the blocks with an unclear fetch, and the places of the marks.
use Rattle.std.proofs.Common.{◌≡◌, ℕ, ◌+◌, ◌<◌, Bool, true, false, inl, inr, List, length, get_or-set_same, get_or-set_other, Some, None, sym, ap, ◌∙◌, arith}
use Rattle.std.proofs.Math.ListN.{set, length-set}
use Rattle.std.proofs.lemmas.Bool.{cases_eq}
use Rattle.std.proofs.lemmas.Option.{same_Some, none-some}
use Rattle.set_view.specs.View.{View}
use Rattle.age_exists.specs.Unclear.{Numbers, unclear_fetch, mark_at, AreMarks}

-- a node without an unclear fetch leaves them
pub marks_kept : (view : View) (f : Numbers) (count : ℕ) (marks : List Bool) → AreMarks view f count marks
    → unclear_fetch view f count ≡ None → AreMarks view f (count + 1) marks
marks_kept view f count marks are none = record {
  one_each = are.one_each;
  sound = λ local has. let found = are.sound local has in (found.0, omega (arith, found.1), found.2);
  complete = λ n local below is. elim (cases_eq n count) [
    | inl here ↦ absurd (none-some local (sym none ∙ (ap (unclear_fetch view f) (sym here) ∙ is)))
    | inr other ↦ are.complete n local (omega (arith, below, other)) is
  ];
}

-- and one with such a fetch marks its block
pub marks_more : (view : View) (f : Numbers) (count block : ℕ) (marks : List Bool) → AreMarks view f count marks
    → unclear_fetch view f count ≡ Some block → block < length view.blocks
    → AreMarks view f (count + 1) (set marks block true)
marks_more view f count block marks are fetches inside =
    let here : mark_at (set marks block true) block ≡ true =
    get_or-set_same marks block true false (omega (arith, inside, are.one_each)) in
    record {
      one_each = length-set marks block true ∙ are.one_each;
      sound = λ local has. elim (cases_eq local block) [
        | inl same ↦ (count, omega arith, fetches ∙ ap Some (sym same))
        | inr other ↦
            let found = are.sound local (sym (get_or-set_other marks block local true false other) ∙ has) in
            (found.0, omega (arith, found.1), found.2)
      ];
      complete = λ n local below is. elim (cases_eq local block) [
        | inl same ↦ ap (mark_at (set marks block true)) same ∙ here
        | inr other ↦ elim (cases_eq n count) [
          | inl last ↦
              absurd (other (same_Some local block (sym is ∙ (ap (unclear_fetch view f) last ∙ fetches))))
          | inr before ↦
              get_or-set_other marks block local true false other
              ∙ are.complete n local (omega (arith, below, before)) is
        ]
      ];
    }
