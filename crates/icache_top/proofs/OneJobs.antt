-- A report has one list of jobs: its program has one graph, and lists that rise with the same members are one.
use Rattle.std.proofs.Common.{◌≡◌, ℕ, ◌<◌, List, [], ◌∷◌, ◌++◌, length, map, refl, ap, sym, ◌∙◌, subst, Some, None}
use Rattle.std.specs.Prelude.{◌&&◌, true, not, ◌==◌, nat_lt, Option}
use Rattle.std.specs.List.{AllZip, list_all}
use Rattle.std.specs.Option.{option_to_list}
use Rattle.std.proofs.lemmas.Bool.{and_parts}
use Rattle.std.proofs.lemmas.Slice.Zip.{AllZip-long}
use Rattle.elf_spec.specs.Image.{Image}
use Rattle.transition_spec.specs.Layer.{all_of}
use Rattle.flow_spec.specs.Acceptance.{Step}
use Rattle.flow_spec.specs.Configuration.{Configuration}
use Rattle.flow_spec.specs.Program.{Program}
use Rattle.flow_spec.specs.Successors.{successors}
use Rattle.path_model.specs.declared.graph.Node.{Node}
use Rattle.path_model.specs.Graph.{are_fit, is_fit}
use Rattle.call_expand.specs.Expansion.{IsGraphOf, IsNodeOf, numbered}
use Rattle.age_spec.specs.Jobs.{AreJobs}
use Rattle.one_answer.proofs.Listed.{same_rising}
use Rattle.one_answer.proofs.Programs.{one_numbering}
use Rattle.command_spec.specs.declared.settings.Ask.{Ask}
use Rattle.command_spec.specs.declared.settings.Ask.TheVariants.{Report, Graph}
use Rattle.command_spec.specs.declared.settings.Settings.{Settings}
use Rattle.icache_top.specs.declared.outcome.JobRecord.{JobRecord}
use Rattle.icache_top.specs.Answer.{IsAcceptedWith, program_of}
use Rattle.icache_top.specs.JobRecords.{AreRecordsFrom, AreRecordsOf, records_of}
use Rattle.icache_top.proofs.GraphLines.{below_test}

-- a node with these fields
abbrev made : ℕ → Option ℕ → Option ℕ → Node
made at first second = record { at = at; first = first; second = second }

-- equal fields make equal nodes
one_made : (at at' : ℕ) (first first' second second' : Option ℕ) → at ≡ at' → first ≡ first' → second ≡ second'
    → made at first second ≡ made at' first' second'
one_made at at' first first' second second' same same_first same_second =
    ap (λ (at : ℕ). made at first second) same ∙ ap (λ (first : Option ℕ). made at' first second) same_first
    ∙ ap (made at' first') same_second

module _ (step : Step) (all : List Configuration)
    (apart : (n m : ℕ) → n < length all → m < length all → numbered all n ≡ numbered all m → n ≡ m) where
  -- the number of a configuration is one
  one_number : (n m : ℕ) → nat_lt n (length all) ≡ true → nat_lt m (length all) ≡ true
      → numbered all n ≡ numbered all m → n ≡ m
  one_number n m below below' same =
      apart n m (below_test n (length all) below) (below_test m (length all) below') same

  -- so are the numbers of a configuration's successors
  one_pair : (first second first' second' : Option ℕ) → are_fit (length all) first second ≡ true
      → are_fit (length all) first' second' ≡ true
      → map (numbered all) (option_to_list first ++ option_to_list second)
      ≡ map (numbered all) (option_to_list first' ++ option_to_list second')
      → (first ≡ first') × (second ≡ second')
  one_pair None (Some m) first' second' fit fit' same = absurd (cc fit)
  one_pair None None None (Some m) fit fit' same = absurd (cc fit')
  one_pair None None None None fit fit' same = (refl, refl)
  one_pair None None (Some n) second' fit fit' same = absurd (cc same)
  one_pair (Some n) second None None fit fit' same = absurd (cc same)
  one_pair (Some n) second None (Some m) fit fit' same = absurd (cc fit')
  one_pair (Some n) None (Some n') (Some m') fit fit' same = absurd (cc same)
  one_pair (Some n) (Some m) (Some n') None fit fit' same = absurd (cc same)
  one_pair (Some n) None (Some n') None fit fit' same =
      let first : numbered all n ≡ numbered all n' = cc same in
      (ap Some (one_number n n' fit fit' first), refl)
  one_pair (Some n) (Some m) (Some n') (Some m') fit fit' same =
      let first : numbered all n ≡ numbered all n' = cc same in
      let second : numbered all m ≡ numbered all m' = cc same in
      let parts = and_parts (nat_lt n (length all)) (nat_lt m (length all) && not (n == m)) fit in
      let parts' = and_parts (nat_lt n' (length all)) (nat_lt m' (length all) && not (n' == m')) fit' in (
        ap Some (one_number n n' parts.0 parts'.0 first),
        ap Some (one_number m m' (and_parts (nat_lt m (length all)) (not (n == m)) parts.1).0
            (and_parts (nat_lt m' (length all)) (not (n' == m')) parts'.1).0 second),
      )

  -- a configuration has one node
  one_node : (c : Configuration) (node other : Node) → IsNodeOf step all c node → IsNodeOf step all c other
      → is_fit (length all) node ≡ true → is_fit (length all) other ≡ true → node ≡ other
  one_node c node other is is' fit fit' =
      let goes : map (numbered all) (option_to_list node.first ++ option_to_list node.second)
      ≡ map (numbered all) (option_to_list other.first ++ option_to_list other.second) = cc (is.goes, is'.goes) in
      let at : node.at ≡ other.at = is.at ∙ sym is'.at in
      let (first, second) = one_pair node.first node.second other.first other.second fit fit' goes in
      one_made node.at other.at node.first other.first node.second other.second at first second

  -- configurations have one list of nodes
  one_list : (cs : List Configuration) (nodes others : List Node) → AllZip (IsNodeOf step all) cs nodes
      → AllZip (IsNodeOf step all) cs others
      → list_all (is_fit (length all)) nodes ≡ true → list_all (is_fit (length all)) others ≡ true → nodes ≡ others
  one_list [] [] [] are are' fit fit' = refl
  one_list [] (node ∷ nodes) others are are' fit fit' = absurd are
  one_list [] [] (other ∷ others) are are' fit fit' = absurd are'
  one_list (c ∷ cs) [] others are are' fit fit' = absurd are
  one_list (c ∷ cs) (node ∷ nodes) [] are are' fit fit' = absurd are'
  one_list (c ∷ cs) (node ∷ nodes) (other ∷ others) are are' fit fit' =
      let parts = and_parts (is_fit (length all) node) (list_all (is_fit (length all)) nodes) fit in
      let parts' = and_parts (is_fit (length all) other) (list_all (is_fit (length all)) others) fit' in
      let first : node ≡ other = one_node c node other are.0 are'.0 parts.0 parts'.0 in
      let rest : nodes ≡ others = one_list cs nodes others are.1 are'.1 parts.1 parts'.1 in
      cc (first, rest)

-- the nodes of a graph are fit for the number of its configurations
graph_fit : (step : Step) (entry : ℕ) (all : List Configuration) (nodes : List Node) → IsGraphOf step entry all nodes
    → list_all (is_fit (length all)) nodes ≡ true
graph_fit step entry all nodes of =
    let long : length nodes ≡ length all = AllZip-long _ _ _ of.each in
    subst (λ count. list_all (is_fit count) nodes ≡ true) long of.graph.fit

-- configurations have one graph
one_graph : (step : Step) (entry : ℕ) (all : List Configuration) (nodes others : List Node)
    → IsGraphOf step entry all nodes → IsGraphOf step entry all others → nodes ≡ others
one_graph step entry all nodes others of of' =
    one_list step all of.apart all nodes others of.each of'.each (graph_fit step entry all nodes of)
    (graph_fit step entry all others of')

-- two lists of records that are wanted of a program are one
records_from : (ask : Ask) (program : Program) (records others : List JobRecord)
    → IsAcceptedWith program (λ layers. AreRecordsFrom ask program layers records)
    → IsAcceptedWith program (λ layers. AreRecordsFrom ask program layers others) → records ≡ others
records_from (Report ask) program records others (layers, accepted, (blocks, over, are)) (
  layers',
  accepted',
  (blocks', over', are'),
) =
    let step = successors program in
    let same : all_of layers' ≡ all_of layers = one_numbering step program layers' layers accepted' accepted in
    let graph' : IsGraphOf step program.entry (all_of layers) over'.nodes =
    subst (λ cs. IsGraphOf step program.entry cs over'.nodes) same over'.graph in
    let nodes : over'.nodes ≡ over.nodes =
    one_graph step program.entry (all_of layers) over'.nodes over.nodes graph' over.graph in
    let jobs' : AreJobs over.nodes ask.geometry ask.start blocks' =
    subst (λ nodes. AreJobs nodes ask.geometry ask.start blocks') nodes over'.jobs in
    let one : blocks ≡ blocks' = same_rising blocks blocks' over.jobs.rising jobs'.rising
    (λ block has. (jobs'.members block).1 ((over.jobs.members block).0 has))
    (λ block has. (over.jobs.members block).1 ((jobs'.members block).0 has)) in
    are ∙ ap records_of one ∙ sym are'
records_from (Graph ask) program records others (layers, accepted, none) (layers', accepted', none') = none ∙ sym none'

-- the records of a file are one list
pub one_records : (settings : Settings) (file : List ℕ) (records others : List JobRecord)
    → AreRecordsOf settings file records → AreRecordsOf settings file others → records ≡ others
one_records settings file records others are are' =
    let same : are'.image ≡ are.image = cc (are.is_image, are'.is_image) in
    let Wanted : Image → Type 0 = λ image. IsAcceptedWith (program_of settings image)
    (λ layers. AreRecordsFrom settings.ask (program_of settings image) layers others) in
    records_from settings.ask (program_of settings are.image) records others are.records_are
    (subst Wanted same are'.records_are)
