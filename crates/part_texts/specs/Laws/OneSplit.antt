-- A job has one split, and what a part reads is one set.
use Rattle.std.proofs.Common.{◌≡◌, Bool, ℕ, List, length, refl, sym, subst}
use Rattle.decomposition.specs.Laws.Lists.{same_ascending}
use Rattle.decomposition.specs.Laws.ReadOnce.{reads_once}
use Rattle.dependence.specs.declared.sets.ReadSet.{ReadSet}
use Rattle.dependence.specs.declared.sets.Reads.{Reads}
use Rattle.dependence.specs.Reads.{AreReads}
use Rattle.kiss_file.specs.declared.file.KissFile.{KissFile}
use Rattle.net_core.specs.declared.SignalNames.{SignalNames}
use Rattle.part_machines.specs.PartSet.{IsPartSet}
use Rattle.realise.specs.Names.{AreNames}
use Rattle.split_texts.specs.Laws.Kinds.{parts_once}
use Rattle.split_texts.specs.Laws.Names.{names_once}
use Rattle.state_codes.specs.Code.{IsCode}
use Rattle.state_codes.specs.declared.Codes.{Codes}
use Rattle.state_codes.specs.declared.split.Kind.{Kind}
use Rattle.state_codes.specs.declared.split.Part.{Part}
use Rattle.state_codes.specs.declared.which.Which.{Which}
use Rattle.state_codes.specs.Laws.Codes.{codes_are_one}
use Rattle.state_reduce.specs.Laws.Works.{one_work}
use Rattle.part_texts.specs.SplitMachine.{IsSameSplit, IsSplitMachine, SplitIsOne}

-- of one machine
of_one_machine : (kind : Kind) (text : List ℕ) (reduce : Bool) (F W : KissFile) (parts others : List Part) (codes more : Codes) (sets reads : Reads) (names signals : SignalNames)
    → IsSplitMachine kind text reduce F W parts codes sets names → IsSplitMachine kind text reduce F W others more reads signals
    → IsSameSplit W W parts others codes more sets reads names signals
of_one_machine kind text reduce F W parts others codes more sets reads names signals one two =
    let same_parts : others ≡ parts = parts_once kind text W others parts two.split.made one.split.made in
    let same_code : more ≡ codes =
    codes_are_one (length W.states) parts more codes (subst (λ (list : List Part). IsCode (length W.states) list more) same_parts two.coded.code) one.coded.code in
    let read : AreReads W parts codes reads =
    subst (λ (c : Codes). AreReads W parts c reads) same_code (subst (λ (list : List Part). AreReads W list more reads) same_parts two.reads) in
    let own : AreNames F codes.bits signals = subst (λ (c : Codes). AreNames F c.bits signals) same_code two.own in
    record {
      machine = refl;
      parts_are = sym same_parts;
      codes_are = sym same_code;
      reads_are = reads_once W parts codes sets reads one.reads read;
      names_are = names_once F codes.bits names signals one.own own;
    }

pub split_is_one : SplitIsOne
split_is_one kind text reduce F W V parts others codes more sets reads names signals one two =
    let same : V ≡ W = one_work reduce F V W two.work one.work in
    let moved : IsSplitMachine kind text reduce F W others more reads signals =
    subst (λ (M : KissFile). IsSplitMachine kind text reduce F M others more reads signals) same two in
    let is = of_one_machine kind text reduce F W parts others codes more sets reads names signals one moved in
    record { machine = sym same; parts_are = is.parts_are; codes_are = is.codes_are; reads_are = is.reads_are; names_are = is.names_are }

-- what a part reads is one set
same_set : (inputs more latches others : List ℕ) → inputs ≡ more → latches ≡ others → ◌≡◌ {A = ReadSet} (record { inputs = inputs; latches = latches }) (record { inputs = more; latches = others })
same_set inputs more latches others a b = cc

pub set_once : (codes : Codes) (sets : Reads) (which : Which) (set more : ReadSet) → IsPartSet codes sets which set → IsPartSet codes sets which more → set ≡ more
set_once codes sets which set more one two =
    same_set set.inputs more.inputs set.latches more.latches
    (same_ascending set.inputs more.inputs one.inputs_ascend two.inputs_ascend
    (λ a. ((λ is. (two.inputs a).1 ((one.inputs a).0 is)), (λ is. (one.inputs a).1 ((two.inputs a).0 is)))))
    (same_ascending set.latches more.latches one.latches_ascend two.latches_ascend
    (λ c. ((λ is. (two.latches c).1 ((one.latches c).0 is)), (λ is. (one.latches c).1 ((two.latches c).0 is)))))
