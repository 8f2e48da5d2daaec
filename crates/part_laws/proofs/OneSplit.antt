-- The machine of a part of one split of a job is that of the other.
use Rattle.std.proofs.Common.{List, sym, subst}
use Rattle.dependence.specs.declared.sets.Reads.{Reads}
use Rattle.kiss_file.specs.declared.file.KissFile.{KissFile}
use Rattle.net_core.specs.declared.SignalNames.{SignalNames}
use Rattle.part_machines.specs.PartMachine.{IsPartOf}
use Rattle.part_texts.specs.SplitMachine.{IsSameSplit}
use Rattle.state_codes.specs.declared.Codes.{Codes}
use Rattle.state_codes.specs.declared.split.Part.{Part}
use Rattle.state_codes.specs.declared.which.Which.{Which}

pub of_same_split : (W V : KissFile) (parts others : List Part) (code more : Codes) (sets reads : Reads) (names signals : SignalNames) (which : Which) (P : KissFile)
    → IsSameSplit W V parts others code more sets reads names signals → IsPartOf V others more reads signals which P → IsPartOf W parts code sets names which P
of_same_split W V parts others code more sets reads names signals which P same part =
    let a : IsPartOf W others more reads signals which P = subst (λ (M : KissFile). IsPartOf M others more reads signals which P) (sym same.machine) part in
    let b : IsPartOf W parts more reads signals which P = subst (λ (list : List Part). IsPartOf W list more reads signals which P) (sym same.parts_are) a in
    let c : IsPartOf W parts code reads signals which P = subst (λ (d : Codes). IsPartOf W parts d reads signals which P) (sym same.codes_are) b in
    let d : IsPartOf W parts code sets signals which P = subst (λ (r : Reads). IsPartOf W parts code r signals which P) (sym same.reads_are) c in
    subst (λ (list : SignalNames). IsPartOf W parts code sets list which P) (sym same.names_are) d
