-- The addresses that have a line by the nodes and configurations are those that have one by the paths of the program.
use Rattle.std.proofs.Common.{◌≡◌, ℕ, ◌<◌, ◌⊎◌, List, [], ◌∷◌, ◌++◌, length, map, refl, ap, sym, ◌∙◌, subst, inl, inr, arith}
use Rattle.std.specs.Prelude.{◌↔◌, Bool, true, false, if◌then◌else◌, Ok, Err, IsOkAnd, Contains}
use Rattle.std.proofs.lemmas.Option.{get_or_from_slice_get}
use Rattle.std.proofs.lemmas.Slice.Zip.{AllZip-long}
use Rattle.list_lemmas.proofs.Members.{has-none, has-only, has-cases, has-found, found-inside}
use Rattle.cache_spec.specs.Geometry.{Geometry}
use Rattle.cache_spec.specs.declared.start.Start.{Start}
use Rattle.transition_spec.specs.Path.{IsPath, IsSuccessor}
use Rattle.flow_spec.specs.declared.fault.FlowFault.{FlowFault}
use Rattle.flow_spec.specs.declared.fault.FlowFault.TheVariants.{Recursion}
use Rattle.flow_spec.specs.declared.frame.Frame.{Frame}
use Rattle.flow_spec.specs.declared.next.Next.{Next}
use Rattle.flow_spec.specs.declared.next.Next.TheVariants.{Ends, Go, Fork, Enter, Back}
use Rattle.flow_spec.specs.Program.{Program}
use Rattle.flow_spec.specs.Configuration.{Configuration, configuration, start_of, next_part}
use Rattle.flow_spec.specs.Next.{Going, next_at}
use Rattle.flow_spec.specs.Successors.{Successors, successors, successors_by, leads_to, is_open, older, has_next_part, newest}
use Rattle.path_model.specs.declared.graph.Node.{Node}
use Rattle.path_model.specs.Graph.{graph_step}
use Rattle.path_model.proofs.Reached.{node_reached}
use Rattle.report_spec.specs.Inner.{IsAt, IsUnreached, IsReached, IsInner, HasLine}
use Rattle.call_expand.specs.Expansion.{numbered}
use Rattle.call_expand.proofs.Paths.{path_from, member_inside}
use Rattle.node_spec.specs.declared.verdict.NodeVerdict.{NodeVerdict}
use Rattle.node_spec.specs.Plan.{layout, IsBareOf, IsBegun, IsInnerIn, HasLineIn}
use Rattle.report_lines.specs.Findings.{AreFindings}
use Rattle.report_lines.proofs.Transport.{ends_in, some_fetches, at_address, bare_unreached}

-- a configuration is one of the successors
abbrev IsAmong : Successors → Configuration → Type 0
IsAmong next d = IsOkAnd next (λ found. Contains found d)

-- of the one that is there
among_one : (c d : Configuration) → Contains (c ∷ []) d → c.part ≡ 0 → d.part ≡ 0
among_one c d has first = ap (λ (e : Configuration). e.part) (has-only c d has) ∙ first

-- or of the one that is there where a test isn't passed
if_one : (test : Bool) (fault : FlowFault) (c d : Configuration) → IsAmong (if test then Err fault else Ok (c ∷ [])) d
    → c.part ≡ 0 → d.part ≡ 0
if_one true fault c d has first = absurd has
if_one false fault c d has first = among_one c d has first

-- control comes to an instruction at its first part
leads_first : (entry : ℕ) (frames : List Frame) (at : ℕ) (next : Next) (d : Configuration)
    → IsAmong (leads_to entry frames at next) d → d.part ≡ 0
leads_first entry frames at Ends d has = absurd (has-none d has)
leads_first entry frames at (Go target) d has = among_one (configuration frames target) d has refl
leads_first entry frames at (Fork next target) d has =
    elim (has-cases (configuration frames next) d (configuration frames target ∷ []) has) [
      | inl same ↦ ap (λ (e : Configuration). e.part) same
      | inr later ↦ among_one (configuration frames target) d later refl
    ]
leads_first entry frames at (Enter target frame) d has =
    if_one (is_open entry frames target) (Recursion at) (configuration (frames ++ frame ∷ []) target) d has refl
leads_first entry frames at (Back target) d has = among_one (configuration (older frames) target) d has refl

-- where it goes
goes_first : (entry : ℕ) (c : Configuration) (going : Going) (d : Configuration)
    → IsAmong (successors_by entry c going) d → d.part ≡ 0
goes_first entry c (Ok next) d has = leads_first entry c.frames c.at next d has
goes_first entry c (Err fault) d has = absurd has

-- a successor is the next part of the same instruction, or the first of one: by the test
by_part : (entry : ℕ) (c : Configuration) (going : Going) (d : Configuration) (parted : Bool)
    → IsAmong (if parted then Ok (next_part c ∷ []) else successors_by entry c going) d
    → (d ≡ next_part c) ⊎ (d.part ≡ 0)
by_part entry c going d true has = inl (has-only (next_part c) d has)
by_part entry c going d false has = inr (goes_first entry c going d has)

-- the same without the test
next_or_first : (program : Program) (c d : Configuration) → IsSuccessor (successors program) c d
    → (d ≡ next_part c) ⊎ (d.part ≡ 0)
unfolding successors
next_or_first program c d follows =
    by_part program.entry c (next_at program.isa program.image c.at (newest c.frames)) d (has_next_part program c)
    follows

-- the first part of the instruction where a configuration stands
abbrev first_part : Configuration → Configuration
first_part c = configuration c.frames c.at

-- it is the configuration, where that has part 0
pub is_first : (c : Configuration) → c.part ≡ 0 → first_part c ≡ c
is_first c none =
    ap (λ (k : ℕ). let d : Configuration = record { frames = c.frames; at = c.at; part = k } in d) (sym none)

module _ (program : Program) where
  abbrev IsPathOf : List Configuration → Type 0
  IsPathOf path = IsPath (successors program) (start_of program.entry) path

  -- where a path ends in an instruction, one ends in its first part
  first_reached : (c : Configuration) (earlier : List Configuration) → IsPathOf (c ∷ earlier)
      → (others : List Configuration) × IsPathOf (first_part c ∷ others)
  first_reached c [] path = ([], is_first c (ap (λ (e : Configuration). e.part) path) ∙ path)
  first_reached d (c ∷ earlier) (follows, path) = elim (next_or_first program c d follows) [
    | inl next ↦
        let same : first_part c ≡ first_part d = ap first_part (sym next) in
        let (others, before) = first_reached c earlier path in
        (others, subst (λ (e : Configuration). IsPathOf (e ∷ others)) same before)
    | inr first ↦
        (c ∷ earlier, subst (λ (e : Configuration). IsPathOf (e ∷ c ∷ earlier)) (sym (is_first d first)) (follows, path))
  ]

module _ (program : Program) (g : Geometry) (start : Start) (contexts : Bool)
    (configurations : List Configuration) (nodes : List Node) (verdicts : List NodeVerdict)
    (found : AreFindings program g start contexts configurations nodes verdicts) where
  -- there is a node for each configuration
  long : length configurations ≡ length nodes
  long = sym (AllZip-long _ _ _ found.graph.each)

  -- a listed configuration has a number
  number_of : (c : Configuration) → Contains configurations c
      → (n : ℕ) × (n < length nodes) × (numbered configurations n ≡ c)
  number_of c (n, below, is) =
      let (d, is_d) = found-inside configurations n below in
      let here = get_or_from_slice_get configurations n d (start_of 0) is_d in
      let there = get_or_from_slice_get configurations n d c is_d in
      (n, omega (arith, below, long), cc (here, there, is))

  -- and one with a number is listed
  has_number : (n : ℕ) → n < length nodes → Contains configurations (numbered configurations n)
  has_number n below =
      let (d, is_d) = found-inside configurations n (omega (arith, below, long)) in
      let here = get_or_from_slice_get configurations n d (start_of 0) is_d in
      subst (Contains configurations) (sym here) (has-found configurations n d is_d)

  -- the last of a path is listed
  path_listed : (c : Configuration) (earlier : List Configuration) → IsPathOf program (c ∷ earlier)
      → Contains configurations c
  path_listed c earlier path =
      let (members, is_path, same) =
      path_from (successors program) program.entry configurations nodes found.graph (c ∷ earlier) path in
      of_members members is_path same where
        of_members : (members : List ℕ) → IsPath (graph_step nodes) 0 members
            → map (numbered configurations) members ≡ c ∷ earlier → Contains configurations c
        of_members [] is_path same = absurd is_path
        of_members (n ∷ before) is_path same =
            let here : numbered configurations n ≡ c = cc same in
            subst (Contains configurations) here (has_number n
            (member_inside (successors program) program.entry configurations nodes found.graph n before is_path))

  -- a path ends in what is begun
  begun_reached : (address : ℕ) → IsBegun configurations address → IsReached program address
  begun_reached address (frames, has) =
      let (n, inside, is) = number_of (configuration frames address) has in
      let (earlier, path) = node_reached nodes n found.graph.graph inside in (
        map (numbered configurations) (n ∷ earlier),
        ends_in program g start configurations nodes found.graph (λ c. c.at ≡ address) n earlier path
            (ap (λ (c : Configuration). c.at) is),
      )

  -- and what a path ends in is begun
  reached_begun : (address : ℕ) → IsReached program address → IsBegun configurations address
  reached_begun address (path, ends) =
      let is_path : IsPathOf program (ends.last ∷ ends.earlier) = subst (IsPathOf program) ends.path_is ends.is_path in
      let (others, first) = first_reached program ends.last ends.earlier is_path in
      let has = path_listed (first_part ends.last) others first in
      (ends.last.frames, subst (λ (p : ℕ). Contains configurations (configuration ends.last.frames p)) ends.ends has)

  -- no node is at an address where no path ends
  unreached_bare : (address : ℕ) → IsUnreached program address → IsBareOf nodes address
  unreached_bare address unreached n here =
      let at = at_address program g start configurations nodes verdicts found.graph found.right address n here in
      let (addresses, fetches) =
      some_fetches program g start configurations nodes found.graph (IsAt address) n here.inside at in
      unreached addresses fetches

  -- what is inner by the nodes and configurations is inner by the paths
  to_inner : (address : ℕ) → IsInnerIn (layout program.image program.isa configurations nodes) address
      → IsInner program address
  to_inner address inner = record {
    text = inner.text;
    unfetched =
        bare_unreached program g start configurations nodes verdicts found.graph found.right address inner.bare;
    begins = inner.begins;
    middle = inner.middle;
    four_bytes = inner.four_bytes;
    reached = begun_reached inner.begins inner.begun;
  }

  -- and back
  from_inner : (address : ℕ) → IsInner program address
      → IsInnerIn (layout program.image program.isa configurations nodes) address
  from_inner address inner = record {
    text = inner.text;
    bare = unreached_bare address inner.unfetched;
    begins = inner.begins;
    middle = inner.middle;
    four_bytes = inner.four_bytes;
    begun = reached_begun inner.begins inner.reached;
  }

  -- so both say the same of which addresses have a line
  pub has_line : (address : ℕ)
      → HasLineIn (layout program.image program.isa configurations nodes) address ↔ HasLine program address
  has_line address = (
    λ line. (line.0, λ inner. line.1 (from_inner address inner)),
    λ line. (line.0, λ inner. line.1 (to_inner address inner)),
  )
