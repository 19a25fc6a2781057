-- What is decided of some arguments and a file is one answer.
use Rattle.std.proofs.Common.{◌≡◌, ℕ, ◌<◌, ◌≤◌, List, length, map, refl, ap, subst, arith, inl, inr, Some}
use Rattle.std.specs.Prelude.{◌⊎◌, ◌≢◌, Option, Ok, Err}
use Rattle.elf_spec.specs.Image.{Image, image_of}
use Rattle.elf_spec.specs.declared.fault.ElfFault.{ElfFault}
use Rattle.flow_spec.specs.declared.fault.FlowFault.{FlowFault}
use Rattle.flow_spec.specs.Acceptance.{IsRefused}
use Rattle.flow_spec.specs.Program.{Program}
use Rattle.flow_spec.specs.Configuration.{fetched}
use Rattle.flow_spec.specs.Successors.{successors}
use Rattle.cache_spec.specs.Blocks.{HaveMany}
use Rattle.command_spec.specs.declared.settings.Settings.{Settings}
use Rattle.command_spec.specs.declared.settings.Ask.{Ask}
use Rattle.command_spec.specs.declared.settings.Ask.TheVariants.{Report, Graph}
use Rattle.command_spec.specs.Settings.{settings_of}
use Rattle.top_words.specs.declared.status.Status.{Status}
use Rattle.top_words.specs.declared.status.Status.TheVariants.{Done, Usage, OutOfMemory, ReadFault, WriteFault, FileTooBig, Elf, Flow, TooManyBlocks}
use Rattle.one_answer.proofs.Programs.{accepted_refused, one_numbering, one_fault}
use Rattle.one_answer.proofs.Blocks.{few_in_all_many, one_many}
use Rattle.one_answer.proofs.Graphs.{one_graph_text}
use Rattle.one_answer.proofs.Reports.{one_report}
use Rattle.icache_top.specs.Answer.{Decides, IsAnswerOf, HasManyBlocks, HasElfFault, HasFlowFault, IsAcceptedWith, IsTextFrom, IsTooMuchFor, AreSameFor, addresses_of, program_of, file_limit}

-- a file that is read has one image
one_image : (file : List ℕ) (image other : Image) → image_of file ≡ Ok image → image_of file ≡ Ok other → image ≡ other
one_image file image other is is' = cc (is, is')

-- one that isn't read has none
read_and_not : (file : List ℕ) (image : Image) (fault : ElfFault) → image_of file ≡ Ok image → image_of file ≡ Err fault
    → ⊥
read_and_not file image fault is fails = absurd (cc (is, fails))

-- two texts that are wanted of a program are the same but for their ways
text_from : (ask : Ask) (program : Program) (text other : List ℕ)
    → IsAcceptedWith program (λ layers. IsTextFrom ask program layers text)
    → IsAcceptedWith program (λ layers. IsTextFrom ask program layers other) → AreSameFor ask text other
text_from (Report ask) program text other (layers, accepted, are) (layers', accepted', are') =
    one_report program ask.geometry ask.start ask.contexts text other are.1 are'.1
text_from (Graph ask) program text other (layers, accepted, is) (layers', accepted', is') =
    one_graph_text program text other is is'

pub one_text : (settings : Settings) (file text other : List ℕ) → IsAnswerOf settings file text
    → IsAnswerOf settings file other
    → AreSameFor settings.ask text other
one_text settings file text other answer answer' =
    let same : answer'.image ≡ answer.image =
    one_image file answer'.image answer.image answer'.is_image answer.is_image in
    let Wanted : Image → Type 0 = λ image. IsAcceptedWith (program_of settings image)
    (λ layers. IsTextFrom settings.ask (program_of settings image) layers other) in
    text_from settings.ask (program_of settings answer.image) text other answer.text_is
    (subst Wanted same answer'.text_is)

-- the settings ask for a text of the program, or have too many blocks, and not both
text_or_many : (ask : Ask) (program : Program) (text : List ℕ) (set count : ℕ)
    → IsAcceptedWith program (λ layers. IsTextFrom ask program layers text)
    → IsAcceptedWith program (λ layers. IsTooMuchFor ask layers set count) → ⊥
text_or_many (Report ask) program text set count (layers, accepted, are) (layers', accepted', many) =
    let same : addresses_of layers' ≡ addresses_of layers =
    ap (λ cs. map fetched cs) (one_numbering (successors program) program layers' layers
    accepted' accepted) in
    few_in_all_many (addresses_of layers) ask.geometry set count are.0
    (subst (λ addresses. HaveMany addresses ask.geometry set count) same many)
text_or_many (Graph ask) program text set count (layers, accepted, is) (layers', accepted', many) = many

-- one set is the first with too many blocks
one_set : (ask : Ask) (program : Program) (set count other number : ℕ)
    → IsAcceptedWith program (λ layers. IsTooMuchFor ask layers set count)
    → IsAcceptedWith program (λ layers. IsTooMuchFor ask layers other number) → (set ≡ other) × (count ≡ number)
one_set (Report ask) program set count other number (layers, accepted, many) (layers', accepted', many') =
    let same : addresses_of layers' ≡ addresses_of layers =
    ap (λ cs. map fetched cs) (one_numbering (successors program) program layers' layers
    accepted' accepted) in
    one_many (addresses_of layers) ask.geometry set count other number many
    (subst (λ addresses. HaveMany addresses ask.geometry other number) same many')
one_set (Graph ask) program set count other number (layers, accepted, many) (layers', accepted', many') = absurd many

-- why a file that is within the limit is answered with a status
abbrev Cause : Settings → List ℕ → Status → Type 0
Cause settings file status =
    ((text : List ℕ) × IsAnswerOf settings file text × (status ≡ Done))
    ⊎ (((fault : ElfFault) × HasElfFault file fault × (status ≡ Elf fault))
    ⊎ (((fault : FlowFault) × HasFlowFault settings file fault × (status ≡ Flow fault))
    ⊎ ((set : ℕ) × (count : ℕ) × HasManyBlocks settings file set count × (status ≡ TooManyBlocks set count))))

-- the arguments give the settings, and there is such a cause
abbrev IsCaused : List (List ℕ) → List ℕ → Status → Type 0
IsCaused words file status = (settings : Settings) × (settings_of words ≡ Some settings) × (length file ≤ file_limit)
    × Cause settings file status

-- what is decided is so caused, or that the file is too big
caused : (words : List (List ℕ)) (file : List ℕ) (status : Status) (old new : Option (List ℕ))
    → Decides words file status old new
    → status ≢ OutOfMemory → ((status ≡ FileTooBig) × (file_limit < length file)) ⊎ IsCaused words file status
caused words file Usage old new decided memory = absurd decided
caused words file ReadFault old new decided memory = absurd decided
caused words file WriteFault old new decided memory = absurd decided
caused words file OutOfMemory old new decided memory = absurd (memory refl)
caused words file FileTooBig old new decided memory = inl (refl, decided)
caused words file Done old new (settings, given, few, (text, answer, sent)) memory =
    inr (settings, given, few, inl (text, answer, refl))
caused words file (Elf fault) old new (settings, given, few, (fails, kept)) memory =
    inr (settings, given, few, inr (inl (fault, fails, refl)))
caused words file (Flow fault) old new (settings, given, few, (fails, kept)) memory =
    inr (settings, given, few, inr (inr (inl (fault, fails, refl))))
caused words file (TooManyBlocks set count) old new (settings, given, few, (many, kept)) memory =
    inr (settings, given, few, inr (inr (inr (set, count, many, refl))))

module _ (settings : Settings) (file : List ℕ) where
  -- a file that is answered isn't refused for its program
  answer_flow : (text : List ℕ) (fault : FlowFault) → IsAnswerOf settings file text → HasFlowFault settings file fault
      → ⊥
  answer_flow text fault answer fails =
      let same : fails.image ≡ answer.image = one_image file fails.image answer.image fails.is_image answer.is_image in
      let Refused : Image → Type 0 = λ image. IsRefused (successors (program_of settings image)) (program_of settings image) fault in
      let (layers, accepted, are) = answer.text_is in
      accepted_refused (successors (program_of settings answer.image)) (program_of settings answer.image) layers fault accepted
      (subst Refused same fails.refused)

  -- nor for its blocks
  answer_many : (text : List ℕ) (set count : ℕ) → IsAnswerOf settings file text → HasManyBlocks settings file set count
      → ⊥
  answer_many text set count answer many =
      let same : many.image ≡ answer.image = one_image file many.image answer.image many.is_image answer.is_image in
      let TooMuch : Image → Type 0 = λ image. IsAcceptedWith (program_of settings image)
      (λ layers. IsTooMuchFor settings.ask layers set count) in
      text_or_many settings.ask (program_of settings answer.image) text set count answer.text_is
      (subst TooMuch same many.too_much)

  -- a program that is refused has no blocks
  flow_many : (fault : FlowFault) (set count : ℕ) → HasFlowFault settings file fault
      → HasManyBlocks settings file set count → ⊥
  flow_many fault set count fails many =
      let same : fails.image ≡ many.image = one_image file fails.image many.image fails.is_image many.is_image in
      let Refused : Image → Type 0 = λ image. IsRefused (successors (program_of settings image)) (program_of settings image) fault in
      let (layers, accepted, too_much) = many.too_much in
      accepted_refused (successors (program_of settings many.image)) (program_of settings many.image)
      layers fault accepted
      (subst Refused same fails.refused)

  -- it is refused with one fault
  flow_flow : (fault other : FlowFault) → HasFlowFault settings file fault → HasFlowFault settings file other
      → fault ≡ other
  flow_flow fault other fails fails' =
      let same : fails'.image ≡ fails.image = one_image file fails'.image fails.image fails'.is_image fails.is_image in
      let Refused : Image → Type 0 = λ image. IsRefused (successors (program_of settings image)) (program_of settings image) other in
      one_fault (successors (program_of settings fails.image)) (program_of settings fails.image)
      fault other fails.refused
      (subst Refused same fails'.refused)

  -- and has one first set with too many blocks
  many_many : (set count other number : ℕ) → HasManyBlocks settings file set count
      → HasManyBlocks settings file other number
      → (set ≡ other) × (count ≡ number)
  many_many set count other number many many' =
      let same : many'.image ≡ many.image = one_image file many'.image many.image many'.is_image many.is_image in
      let TooMuch : Image → Type 0 = λ image. IsAcceptedWith (program_of settings image)
      (λ layers. IsTooMuchFor settings.ask layers other number) in
      one_set settings.ask (program_of settings many.image) set count other number many.too_much
      (subst TooMuch same many'.too_much)

  -- two causes have one status
  one_cause : (status other : Status) → Cause settings file status → Cause settings file other → status ≡ other
  one_cause status other (inl (text, answer, is)) (inl (text', answer', is')) = cc (is, is')
  one_cause status other (inl (text, answer, is)) (inr (inl (fault, fails, is'))) =
      absurd (read_and_not file answer.image fault answer.is_image fails)
  one_cause status other (inl (text, answer, is)) (inr (inr (inl (fault, fails, is')))) =
      absurd (answer_flow text fault answer fails)
  one_cause status other (inl (text, answer, is)) (inr (inr (inr (set, count, many, is')))) =
      absurd (answer_many text set count answer many)
  one_cause status other (inr (inl (fault, fails, is))) (inl (text, answer, is')) =
      absurd (read_and_not file answer.image fault answer.is_image fails)
  one_cause status other (inr (inl (fault, fails, is))) (inr (inl (fault', fails', is'))) =
      let same : fault ≡ fault' = cc (fails, fails') in cc (same, is, is')
  one_cause status other (inr (inl (fault, fails, is))) (inr (inr (inl (fault', flow, is')))) =
      absurd (read_and_not file flow.image fault flow.is_image fails)
  one_cause status other (inr (inl (fault, fails, is))) (inr (inr (inr (set, count, many, is')))) =
      absurd (read_and_not file many.image fault many.is_image fails)
  one_cause status other (inr (inr (inl (fault, flow, is)))) (inl (text, answer, is')) =
      absurd (answer_flow text fault answer flow)
  one_cause status other (inr (inr (inl (fault, flow, is)))) (inr (inl (fault', fails, is'))) =
      absurd (read_and_not file flow.image fault' flow.is_image fails)
  one_cause status other (inr (inr (inl (fault, flow, is)))) (inr (inr (inl (fault', flow', is')))) =
      let same : fault ≡ fault' = flow_flow fault fault' flow flow' in cc (same, is, is')
  one_cause status other (inr (inr (inl (fault, flow, is)))) (inr (inr (inr (set, count, many, is')))) =
      absurd (flow_many fault set count flow many)
  one_cause status other (inr (inr (inr (set, count, many, is)))) (inl (text, answer, is')) =
      absurd (answer_many text set count answer many)
  one_cause status other (inr (inr (inr (set, count, many, is)))) (inr (inl (fault, fails, is'))) =
      absurd (read_and_not file many.image fault many.is_image fails)
  one_cause status other (inr (inr (inr (set, count, many, is)))) (inr (inr (inl (fault, flow, is')))) =
      absurd (flow_many fault set count flow many)
  one_cause status other (inr (inr (inr (set, count, many, is)))) (inr (inr (inr (set', count', many', is')))) =
      let (same, as_many) = many_many set count set' count' many many' in cc (same, as_many, is, is')

-- all that is decided of the same arguments and file is one status, unless memory runs out
pub one_status : (words : List (List ℕ)) (file : List ℕ) (status other : Status) (old new before now : Option (List ℕ))
    → Decides words file status old new → Decides words file other before now → status ≢ OutOfMemory
    → other ≢ OutOfMemory → status ≡ other
one_status words file status other old new before now decided decided' memory memory' =
    elim (caused words file status old new decided memory) [
      | inl (big, over) ↦ elim (caused words file other before now decided' memory') [
        | inl (big', over') ↦ cc (big, big')
        | inr (settings, given, few, cause) ↦ absurd (omega (arith, over, few))
      ]
      | inr (settings, given, few, cause) ↦ elim (caused words file other before now decided' memory') [
        | inl (big, over) ↦ absurd (omega (arith, over, few))
        | inr (settings', given', few', cause') ↦
            let same : settings' ≡ settings = cc (given, given') in
            one_cause settings file status other cause (subst (λ s. Cause s file other) same cause')
      ]
    ]
