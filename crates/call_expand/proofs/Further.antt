-- The search, one layer further.
use Rattle.std.proofs.Common.{◌≡◌, ℕ, ◌+◌, ◌<◌, ◌≤◌, inl, inr, List, ◌++◌, length, take, drop, refl, sym, ap, ◌∙◌, subst, arith, take-append-drop, length-append, length-drop}
use Rattle.std.specs.Prelude.{flat_map}
use Rattle.std.specs.List.{AllByRecursion, AllZip}
use Rattle.std.specs.List.Sorted.{IsPermutation, IsSorted}
use Rattle.std.proofs.lemmas.List.{map-append, length-map, length-take-le, take_at, drop_at}
use Rattle.flow_spec.specs.Program.{Program}
use Rattle.flow_spec.specs.Acceptance.{Step, IsFaultless, IsRefused, fetch_limit}
use Rattle.flow_spec.specs.Configuration.{Configuration}
use Rattle.flow_spec.specs.Order.{configuration_cmp}
use Rattle.flow_spec.specs.Successors.{successors}
use Rattle.flow_spec.specs.declared.fault.FlowFault.{FlowFault}
use Rattle.flow_spec.specs.declared.fault.FlowFault.TheVariants.{TooManyFetches}
use Rattle.frame_stacks.specs.declared.stacks.StackCell.{StackCell}
use Rattle.frame_stacks.specs.Stacks.{AreCells}
use Rattle.call_expand.specs.declared.point.Point.{Point}
use Rattle.call_expand.specs.declared.point.Edges.{Edges}
use Rattle.call_expand.specs.Point.{configuration_at, configurations_at, point_cmp, IsPoint, ArePoints, GoesOn, points_of, IsEdge, FailsAt, AreAllFollowed}
use Rattle.call_expand.specs.Numbers.{AreNew, AreNumbered}
use Rattle.call_expand.specs.Search.{IsWalked, IsAt, AreNext}
use Rattle.call_expand.proofs.Zipped.{all-weaker, all-append, all-prefix, all-back, zip-length, zip-append, zip-weaker}
use Rattle.call_expand.proofs.Walked.{faulty, too_many, walked_more}
use Rattle.call_expand.proofs.Edges.{same-point, same-configurations, same-edge, goes_on-refl, edges-faultless}
use Rattle.call_expand.proofs.Layer.{are_next, are_new}

-- what holds of the layers stays, where there are more cells
walked-same : (step : Step) (program : Program) (before after : List StackCell) (first last : List Point)
    → GoesOn before after
    → ArePoints program before first → ArePoints program before last
    → IsWalked step program (configurations_at before first) (configurations_at before last)
    → IsWalked step program (configurations_at after first) (configurations_at after last)
walked-same step program before after first last goes_on are_first are_last walked =
    let P : List Configuration → Type 0 = λ cs. IsWalked step program cs (configurations_at before last) in
    let Q : List Configuration → Type 0 = λ cs. IsWalked step program (configurations_at after first) cs in
    subst Q (sym (same-configurations program before after last goes_on are_last))
    (subst P (sym (same-configurations program before after first goes_on are_first)) walked)

module _ {program : Program} {cells : List StackCell} {points : List Point} {edges : List Edges} {start : ℕ}
    (at : IsAt program cells points edges start) where
  -- the points before the layer, and those of the layer
  cut : take start points ++ drop start points ≡ points
  cut = take-append-drop start points

  -- the points before the layer, and those of the layer, are points
  are_first : ArePoints program cells (take start points)
  are_first =
      let P : List Point → Type 0 = ArePoints program cells in
      all-prefix (IsPoint program cells) (take start points) (drop start points) (subst P (sym cut) at.are_points)

  pub are_last : ArePoints program cells (drop start points)
  are_last =
      let P : List Point → Type 0 = ArePoints program cells in
      all-back (IsPoint program cells) (take start points) (drop start points) (subst P (sym cut) at.are_points)

  -- there are no more points than the limit
  pub few-points : length points ≤ fetch_limit
  few-points =
      omega (
        arith,
        at.walked.few,
        length-append (configurations_at cells (take start points)) (configurations_at cells (drop start points)),
        length-map (take start points) (configuration_at cells),
        length-map (drop start points) (configuration_at cells),
        length-append (take start points) (drop start points),
        ap length cut,
      )

  -- a fault of the layer refuses the program
  pub refused_here : {seen : List Point} → seen ≡ points → (fault : FlowFault)
      → FailsAt (successors program) (configurations_at cells (drop start seen)) fault
      → IsRefused (successors program) program fault
  refused_here same fault fails =
      let P : List Point → Type 0 =
      λ ps. FailsAt (successors program) (configurations_at cells (drop start ps)) fault in
      inr (inl (faulty (successors program) program (configurations_at cells (take start points))
      (configurations_at cells (drop start points)) at.walked fault (subst P same fails)))

  module _ (after : List StackCell) (more : List Edges) (found new : List Point) (goes_on : GoesOn cells after)
      (are_cells : AreCells after)
      (each : AllZip (IsEdge (successors program) program after) (drop start points) more)
      (same : IsPermutation (flat_map points_of more) found) (sorted : IsSorted (point_cmp after) found)
      (are : AreNew points found new) where
    -- with more cells they are so still
    still_first : ArePoints program after (take start points)
    still_first =
        all-weaker (IsPoint program cells) (IsPoint program after) (same-point program cells after goes_on)
        (take start points) are_first

    still_last : ArePoints program after (drop start points)
    still_last =
        all-weaker (IsPoint program cells) (IsPoint program after) (same-point program cells after goes_on)
        (drop start points) are_last

    -- the new ones are new beside both
    are_cut : AreNew (take start points ++ drop start points) found new
    are_cut = let P : List Point → Type 0 = λ seen. AreNew seen found new in subst P (sym cut) are

    -- the layers are those of the points with more cells
    walked : IsWalked (successors program) program (configurations_at after (take start points))
        (configurations_at after (drop start points))
    walked =
        walked-same (successors program) program cells after (take start points) (drop start points) goes_on
        are_first are_last at.walked

    -- no point of the layer has a fault
    faultless : AllByRecursion (IsFaultless (successors program)) (configurations_at after (drop start points))
    faultless =
        edges-faultless (successors program) program after after (goes_on-refl after) (drop start points) more
        still_last each

    -- the new ones are the next layer
    next : AreNext (successors program) configuration_cmp (configurations_at after (take start points))
        (configurations_at after (drop start points)) (configurations_at after new)
    next =
        are_next (successors program) program after (take start points) (drop start points) more found new are_cells
        still_first still_last each same
        sorted are_cut

    -- the configurations of all points so far
    whole : configurations_at after (take start points) ++ configurations_at after (drop start points)
        ≡ configurations_at after points
    whole =
        sym (map-append (configuration_at after) (take start points) (drop start points))
        ∙ ap (configurations_at after) cut

    -- there is a configuration for each point
    as_many : length ((configurations_at after (take start points) ++ configurations_at after (drop start points))
        ++ configurations_at after new) ≡ length (points ++ new)
    as_many =
        ap (λ cs. length (cs ++ configurations_at after new)) whole
        ∙ ap length (sym (map-append (configuration_at after) points new))
        ∙ length-map (points ++ new) (configuration_at after)

    -- the next layer passes the limit
    pub passes_limit : fetch_limit < length (points ++ new)
        → IsRefused (successors program) program (TooManyFetches fetch_limit)
    passes_limit many =
        inr (inr (too_many (successors program) program (configurations_at after (take start points))
        (configurations_at after (drop start points)) walked (configurations_at after new) faultless next
        (omega (arith, many, as_many))))

    -- else the search is at it
    pub at_next : length after ≤ length cells + length (drop start points) → length (points ++ new) ≤ fetch_limit
        → IsAt program after (points ++ new) (edges ++ more) (length points)
    at_next room few =
        let Each : List Point → Type 0 =
        λ ps. AllZip (IsEdge (successors program) program after) ps (edges ++ more) in
        let prefix : take (length points) (points ++ new) ≡ points = take_at points new (length points) refl in
        let back : drop (length points) (points ++ new) ≡ new = drop_at points new (length points) refl in
        let Points : List Point → Type 0 = ArePoints program after in
        let Before : List Configuration → Type 0 =
        λ cs. IsWalked (successors program) program cs (configurations_at after new) in
        let Last : List Point → Type 0 =
        λ ps. IsWalked (successors program) program
        (configurations_at after (take (length points) (points ++ new))) (configurations_at after ps) in
        record {
          are_cells = are_cells;
          are_points =
              all-append (IsPoint program after) points new
              (all-weaker (IsPoint program cells) (IsPoint program after) (same-point program cells after goes_on)
              points at.are_points)
              (are_new (successors program) program after (take start points) (drop start points) more found new
              are_cells still_first still_last
              each same sorted are_cut);
          within = omega (arith, length-append points new);
          each =
              subst Each (cut ∙ sym prefix)
              (zip-append (IsEdge (successors program) program after) (take start points) (drop start points) edges
              more
              (zip-weaker (IsPoint program cells) (IsEdge (successors program) program cells)
              (IsEdge (successors program) program after)
              (same-edge (successors program) program cells after goes_on) (take start points) edges are_first
              at.each)
              each);
          room = omega (arith, room, at.room, at.within, length-drop start points);
          walked =
              subst Last (sym back)
              (subst Before (whole ∙ ap (configurations_at after) (sym prefix))
              (walked_more (successors program) program (configurations_at after (take start points))
              (configurations_at after (drop start points)) walked (configurations_at after new) faultless next
              (omega (arith, few, as_many))));
        }

  -- the layer is followed, from points that are those so far
  module _ {seen : List Point} (seen_is : seen ≡ points) {after : List StackCell} {after_edges : List Edges}
      (seen_followed : AreAllFollowed (successors program) program cells after (drop start seen) edges after_edges)
    where
      -- the layer of the points so far is followed
      followed : AreAllFollowed (successors program) program cells after (drop start points) edges after_edges
      followed =
          let P : List Point → Type 0 =
          λ ps. AreAllFollowed (successors program) program cells after (drop start ps) edges after_edges in
          subst P seen_is seen_followed

      -- there were edges for the points before the layer
      edges-long : length edges ≡ start
      edges-long =
          sym (zip-length (IsEdge (successors program) program cells) (take start points) edges at.each)
          ∙ length-take-le start points at.within

      -- there are edges for each point so far
      pub all-edges : length after_edges ≡ length points
      all-edges =
          omega (
            arith,
            ap length followed.is,
            length-append edges followed.more,
            edges-long,
            sym (zip-length (IsEdge (successors program) program after) (drop start points) followed.more
                followed.each),
            length-drop start points,
            at.within,
          )

      -- the next layer is numbered, from edges that are those
      module _ {seen_edges : List Edges} (seen_edges_are : seen_edges ≡ after_edges) {after_points : List Point}
          (are_cells : AreCells after) (numbered : AreNumbered after (drop start seen_edges) points after_points) where
        -- the edges of the layer
        new_edges : drop start seen_edges ≡ followed.more
        new_edges = ap (drop start) (seen_edges_are ∙ followed.is) ∙ drop_at edges followed.more start edges-long

        -- what is found is where they lead to
        same_more : IsPermutation (flat_map points_of followed.more) numbered.found
        same_more =
            let P : List Edges → Type 0 =
            λ es. IsPermutation (flat_map points_of es) numbered.found in subst P new_edges numbered.same

        -- with the next layer the limit is passed
        pub layer_passes_limit : fetch_limit < length after_points
            → IsRefused (successors program) program (TooManyFetches fetch_limit)
        layer_passes_limit many =
            passes_limit after followed.more numbered.found numbered.new followed.goes_on are_cells followed.each
            same_more numbered.sorted numbered.are
            (omega (arith, many, ap length numbered.is))

        -- within the limit the search is at the next layer
        pub layer_next : length after_points ≤ fetch_limit
            → IsAt program after after_points after_edges (length points)
        layer_next few =
            let Q : List Point → Type 0 = λ ps. IsAt program after ps after_edges (length points) in
            let R : List Edges → Type 0 = λ es. IsAt program after (points ++ numbered.new) es (length points) in
            subst Q (sym numbered.is)
            (subst R (sym followed.is)
            (at_next after followed.more numbered.found numbered.new followed.goes_on are_cells followed.each same_more
            numbered.sorted
            numbered.are followed.few (omega (arith, few, ap length numbered.is))))
