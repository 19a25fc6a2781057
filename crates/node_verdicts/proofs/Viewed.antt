-- The nodes that fetch a set, by its view.
use Rattle.std.proofs.Common.{◌≡◌, ◌↔◌, ℕ, ◌+◌, ◌<◌, List, [], length, None, Some, refl, sym, ap, ◌∙◌, subst, arith}
use Rattle.std.specs.Prelude.{option_map, slice_get}
use Rattle.std.proofs.lemmas.List.{ext_get_or}
use Rattle.std.proofs.lemmas.Option.{same_Some, slice_get_within, slice_get-get_or, get_or_from_slice_get}
use Rattle.std.specs.List.{Contains}
use Rattle.cache_spec.specs.Geometry.{Geometry, set_of}
use Rattle.cache_spec.specs.declared.start.Start.{Start}
use Rattle.focus_spec.specs.Younger.{named, fetch_at}
use Rattle.path_model.specs.declared.graph.Node.{Node}
use Rattle.path_model.specs.Graph.{address_of}
use Rattle.node_spec.specs.declared.verdict.Kept.{Kept}
use Rattle.set_view.specs.View.{View, IsView}
use Rattle.node_verdicts.specs.declared.judged.Judged.{Judged}
use Rattle.node_verdicts.specs.Judged.{block_at, set_at, IsFetcherOf, AreJudged}
use Rattle.node_verdicts.specs.Open.{IsClearFetch}
use Rattle.age_spec.specs.Jobs.{IsJob}
use Rattle.age_spec.specs.Settled.{HasUnclear}
use Rattle.age_spec.proofs.Kept.{named-apart, block_in-some}
use Rattle.age_graphs.proofs.Views.{view_by, moved, same_fetch, same_over}
use Rattle.node_verdicts.specs.Found.{AreJobsOf, AreJobsWithin, IsClearWithin}
use Rattle.node_verdicts.proofs.Block.{fetch_inside}
use Rattle.node_verdicts.proofs.Counted.{local_there}
use Rattle.node_verdicts.proofs.Joined.{judged_none, judged_as}

-- two views of one set over one graph are the same
one_view : (one other : View) → IsView one → IsView other → other.nodes ≡ one.nodes → other.geometry ≡ one.geometry
    → other.set ≡ one.set → other ≡ one
one_view one other is are nodes_are geometry_is set_is =
    let blocks : other.blocks ≡ one.blocks =
    same_over other one one.nodes are nodes_are geometry_is set_is is.blocks in
    let there : IsView (view_by one.nodes one.geometry one.set one.blocks other.fetches) =
    moved IsView other one.nodes one.geometry one.set one.blocks nodes_are geometry_is set_is blocks are in
    let fetches : other.fetches ≡ one.fetches =
    ext_get_or None other.fetches one.fetches (there.one_each ∙ sym is.one_each)
    (λ n below.
    let inside : n < length one.nodes = omega (arith, below, there.one_each) in
    same_fetch one.nodes one.nodes one.geometry one.set one.blocks one.fetches other.fetches is there n n inside inside
    refl) in
    ap (λ (x : List Node). view_by x other.geometry other.set other.blocks other.fetches) nodes_are
    ∙ (ap (λ (x : Geometry). view_by one.nodes x other.set other.blocks other.fetches) geometry_is
    ∙ (ap (λ (x : ℕ). view_by one.nodes one.geometry x other.blocks other.fetches) set_is
    ∙ (ap (λ (x : List ℕ). view_by one.nodes one.geometry one.set x other.fetches) blocks
    ∙ ap (view_by one.nodes one.geometry one.set one.blocks) fetches)))

-- a viewed block is one of the set
block_set : (view : View) → IsView view → (local block : ℕ) → slice_get view.blocks local ≡ Some block
    → set_of view.geometry block ≡ view.set
block_set view is local block at =
    let there : Contains view.blocks block =
    (local, slice_get_within view.blocks local block at, get_or_from_slice_get view.blocks local block block at) in
    let (address, among, of) = (is.blocks.members block).0 there in
    let both = block_in-some view.geometry view.set address block of in
    ap (set_of view.geometry) (sym both.1) ∙ both.0

-- a block has one place
one_place : (view : View) → IsView view → (one two block : ℕ) → slice_get view.blocks one ≡ Some block
    → slice_get view.blocks two ≡ Some block → one ≡ two
one_place view is one two block first second =
    named-apart view is one two (slice_get_within view.blocks one block first)
    (slice_get_within view.blocks two block second)
    (get_or_from_slice_get view.blocks one block 0 first ∙ sym (get_or_from_slice_get view.blocks two block 0 second))

-- a viewed block is a job exactly where it has an unclear fetch
job_viewed : (start : Start) (view : View) → IsView view → (local block : ℕ) → slice_get view.blocks local ≡ Some block
    → IsJob view.nodes view.geometry start block ↔ HasUnclear view start local
job_viewed start view is local block at = (
  λ job.
      let same : job.view ≡ view =
      one_view view job.view is job.is_view job.nodes_are job.geometry_is
      (job.set_is ∙ block_set view is local block at) in
      let there : slice_get view.blocks job.local ≡ Some block =
      subst (λ (v : View). slice_get v.blocks job.local ≡ Some block) same job.block_is in
      subst (HasUnclear view start) (one_place view is job.local local block there at)
      (subst (λ (v : View). HasUnclear v start job.local) same job.unclear),
  λ unclear. record {
    view = view;
    is_view = is;
    nodes_are = refl;
    geometry_is = refl;
    set_is = sym (block_set view is local block at);
    local = local;
    block_is = at;
    unclear = unclear;
  },
)

-- the place of the block that a node fetches
block_viewed : (view : View) → IsView view → (n local : ℕ) → fetch_at view.fetches n ≡ Some local
    → slice_get view.blocks local ≡ Some (block_at view.nodes view.geometry n)
block_viewed view is n local fetches =
    let inside : n < length view.nodes = omega (arith, fetch_inside view.fetches n local fetches, is.one_each) in
    let both = block_in-some view.geometry view.set (address_of view.nodes n) (named view.blocks local)
    (sym (is.fetches n inside) ∙ ap (option_map (named view.blocks)) fetches) in
    slice_get-get_or view.blocks local 0 (is.within n local fetches) ∙ ap Some (sym both.1)

-- a node that fetches a viewed block is one of those, and its block lies in the set
inside_viewed : (view : View) → IsView view → (n local : ℕ) → fetch_at view.fetches n ≡ Some local
    → (n < length view.nodes) × (set_at view.nodes view.geometry n ≡ view.set)
inside_viewed view is n local fetches = (
  omega (arith, fetch_inside view.fetches n local fetches, is.one_each),
  block_set view is local (block_at view.nodes view.geometry n) (block_viewed view is n local fetches),
)

-- the fetches of clear blocks of a view are those of clear blocks of its set
to_clear : (view : View) → IsView view → (start : Start) (n : ℕ) → IsClearFetch view start n
    → IsFetcherOf view.nodes view.geometry (IsClearWithin view.nodes view.geometry start view.set (view.set + 1)) n
to_clear view is start n (local, fetches, clear) =
    let (inside, at) = inside_viewed view is n local fetches in
    record {
      inside = inside;
      among = record {
        above = omega (arith, at);
        below = omega (arith, at);
        no_job = λ job.
            clear ((job_viewed start view is local (block_at view.nodes view.geometry n)
            (block_viewed view is n local fetches)).0 job);
      };
    }

from_clear : (view : View) → IsView view → (start : Start) (n : ℕ)
    → IsFetcherOf view.nodes view.geometry (IsClearWithin view.nodes view.geometry start view.set (view.set + 1)) n
    → IsClearFetch view start n
from_clear view is start n fetcher =
    let at : set_at view.nodes view.geometry n ≡ view.set =
    omega (arith, fetcher.among.above, fetcher.among.below) in
    let (local, fetches, below) = local_there view is n fetcher.inside at in (
      local,
      fetches,
      λ unclear.
          fetcher.among.no_job ((job_viewed start view is local (block_at view.nodes view.geometry n)
          (block_viewed view is n local fetches)).1 unclear),
    )

-- where the nodes of all clear blocks of a view are judged, so are those of its set
pub judged_viewed : (nodes : List Node) (g : Geometry) (set : ℕ) (start : Start) (kept : Kept) (view : View)
    (judged : List Judged) → IsView view → view.nodes ≡ nodes → view.geometry ≡ g → view.set ≡ set
    → AreJudged view.nodes view.geometry start kept (IsClearFetch view start) judged
    → AreJudged nodes g start kept (IsFetcherOf nodes g (IsClearWithin nodes g start set (set + 1))) judged
judged_viewed nodes g set start kept view judged is nodes_is geometry_is set_is are =
    subst (λ (ns : List Node). AreJudged ns g start kept (IsFetcherOf ns g (IsClearWithin ns g start set (set + 1)))
    judged) nodes_is
    (subst (λ (h : Geometry). AreJudged view.nodes h start kept
    (IsFetcherOf view.nodes h (IsClearWithin view.nodes h start set (set + 1))) judged) geometry_is
    (subst (λ (s : ℕ). AreJudged view.nodes view.geometry start kept
    (IsFetcherOf view.nodes view.geometry (IsClearWithin view.nodes view.geometry start s (s + 1))) judged) set_is
    (judged_as view.nodes view.geometry start kept (IsClearFetch view start)
    (IsFetcherOf view.nodes view.geometry (IsClearWithin view.nodes view.geometry start view.set (view.set + 1))) judged
    are (to_clear view is start) (from_clear view is start))))

-- where the nodes that fetch a viewed block are judged, so are those that fetch this block
pub judged_one : (nodes : List Node) (g : Geometry) (start : Start) (kept : Kept) (view : View) (local block : ℕ)
    (judged : List Judged) → IsView view → view.nodes ≡ nodes → view.geometry ≡ g
    → slice_get view.blocks local ≡ Some block
    → AreJudged view.nodes view.geometry start kept (λ n. fetch_at view.fetches n ≡ Some local) judged
    → AreJudged nodes g start kept (IsFetcherOf nodes g (λ other. other ≡ block)) judged
judged_one nodes g start kept view local block judged is nodes_is geometry_is at are =
    subst (λ (ns : List Node). AreJudged ns g start kept (IsFetcherOf ns g (λ other. other ≡ block)) judged) nodes_is
    (subst (λ (h : Geometry). AreJudged view.nodes h start kept (IsFetcherOf view.nodes h (λ other. other ≡ block))
    judged) geometry_is
    (judged_as view.nodes view.geometry start kept (λ n. fetch_at view.fetches n ≡ Some local)
    (IsFetcherOf view.nodes view.geometry (λ other. other ≡ block)) judged are
    (λ n fetches. record {
      inside = (inside_viewed view is n local fetches).0;
      among = same_Some (block_at view.nodes view.geometry n) block (sym (block_viewed view is n local fetches) ∙ at);
    })
    (λ n fetcher.
    let of : set_at view.nodes view.geometry n ≡ view.set =
    ap (set_of view.geometry) fetcher.among ∙ block_set view is local block at in
    let (other, fetches, below) = local_there view is n fetcher.inside of in
    let there : slice_get view.blocks other ≡ Some block =
    block_viewed view is n other fetches ∙ ap Some fetcher.among in
    fetches ∙ ap Some (one_place view is other local block there at))))

-- no node fetches a block of the set that isn't viewed
pub judged_unviewed : (nodes : List Node) (g : Geometry) (start : Start) (kept : Kept) (view : View) (block : ℕ)
    (judged : List Judged) → IsView view → view.nodes ≡ nodes → view.geometry ≡ g → view.set ≡ set_of g block
    → (Contains view.blocks block → ⊥) → judged ≡ []
    → AreJudged nodes g start kept (IsFetcherOf nodes g (λ other. other ≡ block)) judged
judged_unviewed nodes g start kept view block judged is nodes_is geometry_is set_is not none =
    subst (λ (ns : List Node). AreJudged ns g start kept (IsFetcherOf ns g (λ other. other ≡ block)) judged) nodes_is
    (subst (λ (h : Geometry). AreJudged view.nodes h start kept (IsFetcherOf view.nodes h (λ other. other ≡ block))
    judged) geometry_is
    (judged_none view.nodes view.geometry start kept (IsFetcherOf view.nodes view.geometry (λ other. other ≡ block))
    judged none
    (λ n fetcher.
    let of : set_at view.nodes view.geometry n ≡ view.set =
    ap (set_of view.geometry) fetcher.among ∙ ap (λ (h : Geometry). set_of h block) geometry_is ∙ sym set_is in
    let (local, fetches, below) = local_there view is n fetcher.inside of in
    let there : slice_get view.blocks local ≡ Some block =
    block_viewed view is n local fetches ∙ ap Some fetcher.among in
    not (local, below, get_or_from_slice_get view.blocks local block block there))))

-- the jobs of a view are those of its set
pub jobs_viewed : (nodes : List Node) (g : Geometry) (set : ℕ) (start : Start) (view : View) (jobs : List ℕ)
    → IsView view → view.nodes ≡ nodes → view.geometry ≡ g → view.set ≡ set
    → AreJobsOf view start (length view.blocks) jobs → AreJobsWithin nodes g start set (set + 1) jobs
jobs_viewed nodes g set start view jobs is nodes_is geometry_is set_is are = record {
  members = λ block. (
    λ there.
        let (local, below, (at, unclear)) = (are.members block).0 there in
        let of : set_of g block ≡ set =
        ap (λ (h : Geometry). set_of h block) (sym geometry_is) ∙ (block_set view is local block at ∙ set_is) in
        record {
          above = omega (arith, of);
          below = omega (arith, of);
          is_job = record {
            view = view;
            is_view = is;
            nodes_are = nodes_is;
            geometry_is = geometry_is;
            set_is = set_is ∙ sym of;
            local = local;
            block_is = at;
            unclear = unclear;
          };
        },
    λ within.
        let job = within.is_job in
        let of : set_of g block ≡ set = omega (arith, within.above, within.below) in
        let same : job.view ≡ view =
        one_view view job.view is job.is_view (job.nodes_are ∙ sym nodes_is) (job.geometry_is ∙ sym geometry_is)
        (job.set_is ∙ of ∙ sym set_is) in
        let at : slice_get view.blocks job.local ≡ Some block =
        subst (λ (v : View). slice_get v.blocks job.local ≡ Some block) same job.block_is in
        let unclear : HasUnclear view start job.local =
        subst (λ (v : View). HasUnclear v start job.local) same job.unclear in
        (are.members block).1 (job.local, slice_get_within view.blocks job.local block at, (at, unclear)),
  );
  most = omega (arith, are.most, is.few);
}
