-- The nodes that fetch each block of a set, found node by node.
use Rattle.std.proofs.Common.{◌≡◌, ℕ, ◌+◌, ◌<◌, inl, inr, List, [], ◌∷◌, ◌++◌, length, get_or, get_or-set_same, get_or-set_other, Some, None, Vec, Global, sym, ap, ◌∙◌, subst, arith}
use Rattle.std.proofs.Math.ListN.{set, length-set}
use Rattle.std.proofs.lemmas.Bool.{cases_eq}
use Rattle.std.proofs.lemmas.List.{get_or-map, length-map, map-set}
use Rattle.std.proofs.lemmas.Option.{same_Some, none-some}
use Rattle.focus_spec.specs.Younger.{fetch_at}
use Rattle.set_view.specs.View.{View, IsView}
use Rattle.age_exists.specs.Columns.{column_at}
use Rattle.age_exists.specs.Rows.{columns_seen}
use Rattle.age_exists.specs.Firsts.{AreFetchers}
use Rattle.age_exists.specs.Fetchers.{HaveFetchers}
use Rattle.age_exists.specs.Those.{AreThose}
use Rattle.age_exists.proofs.Those.{those_more, those_kept}
use Rattle.age_exists.proofs.Own.{fetch_inside}

module _ (view : View) (n : ℕ) (fetchers : List (List ℕ)) (have : HaveFetchers view n fetchers) where
  abbrev Fetches : ℕ → ℕ → Type 0
  Fetches block k = fetch_at view.fetches k ≡ Some block

  -- a node that fetches another set is in no list
  pub fetchers_kept : fetch_at view.fetches n ≡ None → HaveFetchers view (n + 1) fetchers
  fetchers_kept none = record {
    one_each = have.one_each;
    each = λ block inside. those_kept (Fetches block) n (column_at fetchers block) (have.each block inside)
        (λ is. none-some block (sym none ∙ is));
  }

  -- one that fetches a block is in the list of the block
  pub fetchers_more : (block : ℕ) → block < length view.blocks → fetch_at view.fetches n ≡ Some block
      → HaveFetchers view (n + 1) (set fetchers block (column_at fetchers block ++ n ∷ []))
  fetchers_more block known fetches =
      let longer : List ℕ = column_at fetchers block ++ n ∷ [] in
      let after : List (List ℕ) = set fetchers block longer in
      let here : column_at after block ≡ longer =
      get_or-set_same fetchers block longer [] (omega (arith, known, have.one_each)) in
      record {
        one_each = length-set fetchers block longer ∙ have.one_each;
        each = λ other inside. elim (cases_eq other block) [
          | inl same ↦
              subst (λ (k : ℕ). AreThose (Fetches k) (n + 1) (column_at after k)) (sym same)
              (subst (AreThose (Fetches block) (n + 1)) (sym here)
              (those_more (Fetches block) n (column_at fetchers block) (have.each block known) fetches))
          | inr apart ↦
              subst (AreThose (Fetches other) (n + 1)) (sym (get_or-set_other fetchers block other longer [] apart))
              (those_kept (Fetches other) n (column_at fetchers other) (have.each other inside)
              (λ is. apart (same_Some other block (sym is ∙ fetches))))
        ];
      }

-- a list that is read at the place of a block
pub list_read : (lists : List (Vec ℕ Global)) (block : ℕ) (read : Vec ℕ Global) → block < length lists
    → read ≡ get_or lists block read → read.items ≡ column_at (columns_seen lists) block
list_read lists block read inside is =
    let items : Vec ℕ Global → List ℕ = λ list. list.items in
    ap items is ∙ sym (get_or-map items lists block read [] inside)

-- a node that is pushed to the list of its block
pub fetchers_pushed : (view : View) (n : ℕ) (lists : List (Vec ℕ Global)) → HaveFetchers view n (columns_seen lists)
    → (block : ℕ) → block < length view.blocks → fetch_at view.fetches n ≡ Some block → (old new : Vec ℕ Global)
    → old ≡ get_or lists block old → new.items ≡ old.items ++ n ∷ []
    → HaveFetchers view (n + 1) (columns_seen (set lists block new))
fetchers_pushed view n lists have block known fetches old new is pushed =
    let items : Vec ℕ Global → List ℕ = λ list. list.items in
    let inside : block < length lists = omega (arith, known, have.one_each, length-map lists items) in
    let made : new.items ≡ column_at (columns_seen lists) block ++ n ∷ [] =
    pushed ∙ ap (λ (l : List ℕ). l ++ n ∷ []) (list_read lists block old inside is) in
    subst (HaveFetchers view (n + 1))
    (sym (map-set items lists block new ∙ ap (set (columns_seen lists) block) made))
    (fetchers_more view n (columns_seen lists) have block known fetches)

-- with all nodes the lists have the nodes that fetch the blocks
pub fetchers_at : (view : View) → IsView view → (fetchers : List (List ℕ))
    → HaveFetchers view (length view.nodes) fetchers → (block : ℕ) → block < length view.blocks
    → AreFetchers view block (column_at fetchers block)
fetchers_at view is fetchers have block known = λ n. (
  λ there. (((have.each block known).members n).0 there).1,
  λ fetches. ((have.each block known).members n).1
      (omega (arith, fetch_inside view n block fetches, is.one_each), fetches),
)
