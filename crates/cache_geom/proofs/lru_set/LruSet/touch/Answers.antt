-- The code's step is one of `IsStep`, of which the lemmas on a fetch speak.
use Rattle.std.proofs.Common.{◌≡◌, ◌==◌, min, ◌-◌, take, position, ap, ◌∙◌, sym}
use Rattle.cache_geom.specs.LruSet.{LruSet}
use Rattle.cache_geom.proofs.Fetch.{IsStep, step-blocks, step-sound, is_in-found}
use Rattle.cache_geom.proofs.lru_set.LruSet.touch.Goals as goal

the_step : (c : goal.After-is_some)
    → IsStep c.self.inside.slots c.put_first.new.slots c.self.inside.len c.self.inside.ways c.args.block
    c.min-place.result c.place_of-found.result
the_step c =
    let shown : c.blocks-2.result.now ≡ take c.self.inside.len c.self.inside.slots =
    c.blocks-2.ensures.value ∙ ap (λ (s : LruSet). s.blocks) (sym c.self.view_is) in
    record {
      sound = c.self.invariant;
      found_is = c.place_of-found.ensures ∙ ap (λ blocks. position (λ other. other == c.args.block) blocks) shown;
      place_is = c.min-place.ensures ∙ ap (λ n. min n (c.self.inside.ways - 1)) c.unwrap_or.ensures;
      after_is = c.put_first.ensures;
    }

pub invariant_of-self : goal.invariant_of-self
invariant_of-self c =
    let sound = step-sound _ _ _ _ _ _ _ (the_step c) in
    rw c.max-self-inside.ensures sound

pub returns-clause-hit : goal.returns-clause-hit
returns-clause-hit c = let found = is_in-found c.args.block c.args.self.now.blocks in cc

pub returns-clause-blocks : goal.returns-clause-blocks
returns-clause-blocks c =
    let blocks = step-blocks _ _ _ _ _ _ _ (the_step c) in
    rw (c.max-self-inside.ensures, ← c.self.view_is) blocks
