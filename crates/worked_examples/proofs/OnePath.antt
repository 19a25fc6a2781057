-- Reports of programs of one path: the prefixes of that path are all paths, so that what paths fetch computes.
use Rattle.std.proofs.Common.{◌≡◌, ℕ, List, [], ◌∷◌, refl, ap, sym, ◌∙◌, subst, inl, inr, arith, Some}
use Rattle.std.specs.Prelude.{◌⊎◌, ◌↔◌, Bool, true, false, not, ◌||◌, ◌==◌, IsOkAnd, Contains, slice_get}
use Rattle.std.specs.List.{AllByRecursion}
use Rattle.std.proofs.lemmas.Bool.Decides.{nat_tests}
use Rattle.list_lemmas.proofs.Members.{has-first, has-later, has-found, each-has}
use Rattle.cache_spec.specs.declared.start.Start.TheVariants.{Empty}
use Rattle.cache_spec.specs.Geometry.{Geometry}
use Rattle.cache_spec.specs.Contents.{ends_in_hit}
use Rattle.cache_spec.proofs.Starts.{can_end-empty}
use Rattle.transition_spec.specs.Path.{IsPath, IsSuccessor}
use Rattle.riscv_spec.specs.declared.parcel.Isa.TheVariants.{Rv32ic}
use Rattle.flow_spec.specs.Acceptance.{Step}
use Rattle.flow_spec.specs.Configuration.{Configuration, fetched}
use Rattle.flow_spec.specs.Instruction.{IsText}
use Rattle.flow_spec.specs.Successors.{Successors, successors}
use Rattle.report_spec.specs.declared.line.Verdict.TheVariants.{AlwaysHit, AlwaysMiss}
use Rattle.report_spec.specs.Right.{Fetches, IsRight, fetches_of}
use Rattle.report_spec.specs.Inner.{IsAt, IsUnreached, IsInner, IsReached, HasLine}
use Rattle.worked_examples.specs.Programs.{program_of, as_parcels, at}
use Rattle.worked_examples.proofs.Listed.{parcel_places, parcel_place}
use Rattle.worked_examples.proofs.Moves.{follows_in, one_of_one, none_of_none}
use Rattle.worked_examples.proofs.Straight.{GoesBy}

-- a path, and those that it goes on to, each with one member more
abbrev pub paths_from : List Configuration → List Configuration → List (List Configuration)
paths_from path [] = path ∷ []
paths_from path (d ∷ rest) = path ∷ paths_from (d ∷ path) rest

-- the path is the first of them
path_first : (path rest : List Configuration) → Contains (paths_from path rest) path
path_first path [] = has-first path []
path_first path (d ∷ rest) = has-first path (paths_from (d ∷ path) rest)

-- the last member of a path fetches an address
abbrev pub ends_at : ℕ → List Configuration → Bool
ends_at address [] = false
ends_at address (c ∷ earlier) = fetched c == address

-- a test is passed, or not
abbrev pub is_so : Bool → Bool → Bool
is_so true test = test
is_so false test = not test

so_is : (hits test : Bool) → is_so hits test ≡ true → test ≡ hits
so_is true test so = so
so_is false true so = absurd (cc so)
so_is false false so = refl

-- where the path ends at the address, it hits, or misses
abbrev pub ends_so : Geometry → ℕ → Bool → List Configuration → Bool
ends_so g address hits path = not (ends_at address path) || is_so hits (ends_in_hit g (fetches_of path))

so_where : (ends so : Bool) → (not ends || so) ≡ true → ends ≡ true → so ≡ true
so_where true so either ends = either
so_where false so either ends = absurd (cc ends)

module _ (line : ℕ) (words : List ℕ) (rest : List Configuration)
    (goes : GoesBy (successors (as_parcels line words)) (at 0x10000) rest) where
  abbrev step : Step
  step = successors (as_parcels line words)

  abbrev IsPathOf : List Configuration → Type 0
  IsPathOf path = IsPath step (at 0x10000) path

  -- all paths
  abbrev pub paths : List (List Configuration)
  paths = paths_from (at 0x10000 ∷ []) rest

  -- what is left after a path that ends in a configuration leads to paths that are all among these
  abbrev GoesOn : List Configuration → Configuration → Type 0
  GoesOn path c = (left : List Configuration) × GoesBy step c left
      × ((other : List Configuration) → Contains (paths_from path left) other → Contains paths other)

  goes_next : (c d : Configuration) (earlier : List Configuration) → IsSuccessor step c d → GoesOn (c ∷ earlier) c
      → GoesOn (d ∷ c ∷ earlier) d
  goes_next c d earlier follows ([], leads, among) =
      absurd (none_of_none d (follows_in step c c d [] refl leads follows))
  goes_next c d earlier follows (e ∷ left, leads, among) =
      let same : d ≡ e = one_of_one e d (follows_in step c c d (e ∷ []) refl leads.0 follows) in
      subst (λ (f : Configuration). GoesOn (f ∷ c ∷ earlier) f) (sym same) (
        left,
        leads.1,
        λ other has. among other (has-later (c ∷ earlier) other (paths_from (e ∷ c ∷ earlier) left) has),
      )

  goes_on : (c : Configuration) (earlier : List Configuration) → IsPathOf (c ∷ earlier) → GoesOn (c ∷ earlier) c
  goes_on c [] path =
      subst (λ (d : Configuration). GoesOn (d ∷ []) d) (sym path) (rest, goes, λ other has. has)
  goes_on d (c ∷ earlier) (follows, path) = goes_next c d earlier follows (goes_on c earlier path)

  -- each path is one of these
  path_among : (c : Configuration) (earlier : List Configuration) → IsPathOf (c ∷ earlier) → Contains paths (c ∷ earlier)
  path_among c earlier path =
      let (left, leads, among) = goes_on c earlier path in among (c ∷ earlier) (path_first (c ∷ earlier) left)

  -- and each of these is a path
  are_paths : (c : Configuration) (earlier left : List Configuration) → GoesBy step c left → IsPathOf (c ∷ earlier)
      → AllByRecursion IsPathOf (paths_from (c ∷ earlier) left)
  are_paths c earlier [] leads path = (path, tt)
  are_paths c earlier (d ∷ left) (leads, later) path =
      let Leads : Successors → Type 0 = λ r. IsOkAnd r (λ found. Contains found d) in
      (path, are_paths d (c ∷ earlier) left later (subst Leads (sym leads) (has-first d []), path))

  -- what a path to an address fetches
  of_path : (address : ℕ) (addresses : List ℕ) → Fetches (as_parcels line words) (IsAt address) addresses
      → (path : List Configuration) × Contains paths path × (ends_at address path ≡ true)
      × (addresses ≡ fetches_of path)
  of_path address addresses (path, ends, is) =
      let there = ends.ends in (
        ends.last ∷ ends.earlier,
        path_among ends.last ends.earlier (subst IsPathOf ends.path_is ends.is_path),
        grind (arith, nat_tests, there),
        is ∙ ap fetches_of ends.path_is,
      )

  -- the path with a number is one
  numbered_path : (n : ℕ) (path : List Configuration) → slice_get paths n ≡ Some path → IsPathOf path
  numbered_path n path is =
      each-has IsPathOf paths (are_paths (at 0x10000) [] rest goes refl) path (has-found paths n path is)

  -- what it fetches, where its last member does so at an address
  some_fetches : (n : ℕ) (c : Configuration) (earlier : List Configuration) → slice_get paths n ≡ Some (c ∷ earlier)
      → (addresses : List ℕ) × Fetches (as_parcels line words) (IsAt (fetched c)) addresses
  some_fetches n c earlier is = (
    fetches_of (c ∷ earlier),
    (
      c ∷ earlier,
      record { last = c; earlier = earlier; path_is = refl; is_path = numbered_path n (c ∷ earlier) is; ends = refl },
      refl,
    ),
  )

  -- and the instruction that it reaches
  pub some_reached : (n : ℕ) (c : Configuration) (earlier : List Configuration)
      → slice_get paths n ≡ Some (c ∷ earlier) → IsReached (as_parcels line words) c.at
  some_reached n c earlier is = (
    c ∷ earlier,
    record { last = c; earlier = earlier; path_is = refl; is_path = numbered_path n (c ∷ earlier) is; ends = refl },
  )

  -- where all paths that end at an address end so, none can end otherwise
  none_otherwise : (g : Geometry) (address : ℕ) (hits : Bool) → AllByRecursion (λ path. ends_so g address hits path ≡ true) paths
      → (addresses : List ℕ) → Fetches (as_parcels line words) (IsAt address) addresses
      → ends_in_hit g addresses ≡ hits
  none_otherwise g address hits all addresses fetches =
      let (path, has, ends, is) = of_path address addresses fetches in
      let so : ends_so g address hits path ≡ true = each-has (λ path. ends_so g address hits path ≡ true) paths all path has in
      ap (ends_in_hit g) is
      ∙ so_is hits (ends_in_hit g (fetches_of path)) (so_where (ends_at address path) _ so ends)

  -- verdicts by the number of a path that ends there
  pub always_hit : (g : Geometry) (n : ℕ) (c : Configuration) (earlier : List Configuration)
      → slice_get paths n ≡ Some (c ∷ earlier) → AllByRecursion (λ path. ends_so g (fetched c) true path ≡ true) paths
      → IsRight (as_parcels line words) g Empty (IsAt (fetched c)) AlwaysHit
  always_hit g n c earlier is all = record {
    some = some_fetches n c earlier is;
    none = λ addresses fetches can.
        let hits = none_otherwise g (fetched c) true all addresses fetches in
        let misses = (can_end-empty g addresses false).0 can in cc (hits, misses);
  }

  pub always_miss : (g : Geometry) (n : ℕ) (c : Configuration) (earlier : List Configuration)
      → slice_get paths n ≡ Some (c ∷ earlier) → AllByRecursion (λ path. ends_so g (fetched c) false path ≡ true) paths
      → IsRight (as_parcels line words) g Empty (IsAt (fetched c)) AlwaysMiss
  always_miss g n c earlier is all = record {
    some = some_fetches n c earlier is;
    none = λ addresses fetches can.
        let misses = none_otherwise g (fetched c) false all addresses fetches in
        let hits = (can_end-empty g addresses true).0 can in cc (hits, misses);
  }

  -- no path ends at an address where none of these does
  pub unreached : (address : ℕ) → AllByRecursion (λ path. not (ends_at address path) ≡ true) paths
      → IsUnreached (as_parcels line words) address
  unreached address none addresses fetches =
      let (path, has, ends, is) = of_path address addresses fetches in
      let never : not (ends_at address path) ≡ true =
      each-has (λ path. not (ends_at address path) ≡ true) paths none path has in
      let other : not (ends_at address path) ≡ false = ap not ends in
      cc (never, other)

  -- an address that is fetched has a line
  pub fetched_line : (n : ℕ) (c : Configuration) (earlier : List Configuration)
      → slice_get paths n ≡ Some (c ∷ earlier) → IsText Rv32ic (program_of words) (fetched c)
      → HasLine (as_parcels line words) (fetched c)
  fetched_line n c earlier is text =
      let (addresses, fetches) = some_fetches n c earlier is in
      (text, λ inner. inner.unfetched addresses fetches)

-- where each listed address has a line, and each other one of the text is inner, these are the addresses with a line
pub all_known : (line : ℕ) (words listed : List ℕ) → AllByRecursion (HasLine (as_parcels line words)) listed
    → AllByRecursion (λ p. Contains listed p ⊎ IsInner (as_parcels line words) p) (parcel_places words)
    → (p : ℕ) → Contains listed p ↔ HasLine (as_parcels line words) p
all_known line words listed have known p = (
  λ has. each-has (HasLine (as_parcels line words)) listed have p has,
  λ here. elim (each-has (λ p. Contains listed p ⊎ IsInner (as_parcels line words) p) (parcel_places words) known p
      (parcel_place words p here.0)) [
        | inl has ↦ has
        | inr inner ↦ absurd (here.1 inner)
      ],
)
