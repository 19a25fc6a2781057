use Rattle.set_list.proofs.Found.{subset_from_count}
use Rattle.set_list.proofs.SetList.is_subset.Goals as goal

pub returns : goal.returns
returns c =
    let decided = subset_from_count _ _ _ c.count_found.ensures.within c.count_found.ensures.found
    c.count_found.ensures.missing in
    rw (← c.items-wanted.ensures.value, ← c.items.ensures.value) decided
