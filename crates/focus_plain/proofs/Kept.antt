-- The places that are kept of the nodes so far.
use Rattle.std.proofs.Common.{◌≡◌, ℕ, ◌+◌, inl, inr, Bool, eqb, if◌then◌else◌, List, [], ◌∷◌, ◌++◌, map, Option, Some, sym, ap, subst, ◌∙◌}
use Rattle.std.proofs.lemmas.Bool.{cases_Bool}
use Rattle.std.proofs.lemmas.List.{map-append}
use Rattle.std.proofs.lemmas.List.Elements.{All-push}
use Rattle.std.specs.List.{All}
use Rattle.std.specs.Option.{option_eq}
use Rattle.focus_spec.specs.Younger.{fetch_at}
use Rattle.cache_spec.specs.declared.start.Start.{Start}
use Rattle.set_view.specs.View.{View}
use Rattle.focus_plain.specs.declared.settling.PlainPlace.{PlainPlace}
use Rattle.focus_plain.specs.Settled.{IsPlainPlace}
use Rattle.focus_plain.proofs.Equals.{same_number, other_number}
use Rattle.focus_plain.proofs.Fetchers.{AreFetchersBelow, fetchers_more, fetchers_passed}

-- the node of each
abbrev pub nodes_of : List PlainPlace → List ℕ
nodes_of places = map (λ place. place.node) places

-- the places are those of the nodes below the count that fetch the block, each with its sets
pub record AreKept (view : View) (start : Start) (block count : ℕ) (places : List PlainPlace) : Type 0 where
  pub nodes : AreFetchersBelow view.fetches block count (nodes_of places)
  pub sets : All (IsPlainPlace view start block) places

-- one node more
pub kept_more : (view : View) (start : Start) (block : ℕ) (places new : List PlainPlace) (last : PlainPlace)
    (fetches : Bool)
    (fetch : Option ℕ)
    → new ≡ (if fetches then places ++ last ∷ [] else places) → fetches ≡ option_eq eqb fetch (Some block)
    → fetch ≡ fetch_at view.fetches last.node
    → AreKept view start block last.node places → IsPlainPlace view start block last
    → AreKept view start block (last.node + 1) new
kept_more view start block places new last fetches fetch new_is test fetch_is kept right = elim (cases_Bool fetches) [
  | inl on ↦
      let all : new ≡ places ++ last ∷ [] = new_is ∙ ap (λ (b : Bool). if b then places ++ last ∷ [] else places) on in
      let found = same_number fetch block (sym test ∙ on) in
      record {
        nodes = fetchers_more view.fetches block last.node (nodes_of places) (nodes_of new) kept.nodes
            (sym fetch_is ∙ found)
            (ap nodes_of all ∙ map-append (λ (p : PlainPlace). p.node) places (last ∷ []));
        sets = subst (λ (ps : List PlainPlace). All (IsPlainPlace view start block) ps) (sym all)
            (All-push (IsPlainPlace view start block) places last kept.sets right);
      }
  | inr off ↦
      let all : places ≡ new = sym (new_is ∙ ap (λ (b : Bool). if b then places ++ last ∷ [] else places) off) in
      let other = other_number fetch block (sym test ∙ off) in
      record {
        nodes = subst (λ (ps : List PlainPlace). AreFetchersBelow view.fetches block (last.node + 1) (nodes_of ps)) all
            (fetchers_passed view.fetches block last.node (nodes_of places) kept.nodes
            (λ same. other (fetch_is ∙ same)));
        sets = subst (λ (ps : List PlainPlace). All (IsPlainPlace view start block) ps) all kept.sets;
      }
]
