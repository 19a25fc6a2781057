use Rattle.std.proofs.Common.{ℕ, List, Option, sym, subst}
use Rattle.focus_plain.specs.Cut.{IsBelow}
use Rattle.focus_plain.specs.Entries.{IsIndex, set_at, reached_set}
use Rattle.focus_plain.proofs.Links.{entry_read, seen-read, index-read}
use Rattle.focus_plain.proofs.search.lies_above.Goals as goal

pub is_above-requires-clause-index : goal.is_above-requires-clause-index
is_above-requires-clause-index c =
    let entry = entry_read c.args.search.now.entries.items c.args.number c.index.result.now c.requires.inside
    c.index.ensures in
    subst (λ (s : List (List ℕ)). IsIndex s c.index.result.now.younger) (sym c.deref.ensures.value)
    (index-read c.args.search.now c.args.number c.index.result.now c.requires.linked c.requires.inside entry)

pub returns : goal.returns
returns c = λ passes.
    let entry = entry_read c.args.search.now.entries.items c.args.number c.index.result.now c.requires.inside
    c.index.ensures in
    subst (λ (o : Option (List ℕ)). IsBelow (reached_set c.args.search.now.sets.items c.args.reached) o)
    (sym (seen-read c.args.search.now.sets.items c.args.search.now.entries.items c.args.number c.index.result.now
    entry))
    (subst (λ (s : List (List ℕ)). IsBelow (reached_set s c.args.reached) (set_at s c.index.result.now.younger))
    c.deref.ensures.value (c.is_above.ensures passes))
