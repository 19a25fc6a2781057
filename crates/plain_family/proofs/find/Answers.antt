use Rattle.std.proofs.lemmas.Fn.{always_returns_same}
use Rattle.plain_family.proofs.Order.{place_from_search}
use Rattle.std.specs.Cmp.Lexicographic.{slice_cmp}
use Rattle.std.specs.Ordering.{nat_cmp}
use Rattle.std.proofs.Common.{rules}
use Rattle.plain_family.proofs.find.Goals as goal

pub returns : goal.returns
returns c =
    place_from_search _ _ _ c.requires c.binary_search_by.ensures.bound
    (c.binary_search_by.ensures.position (λ t. slice_cmp nat_cmp t c.args.set.now)
    (always_returns_same _ _ _ (λ a r f k. search rules)))
