-- Labels that are a partition are not refused.
use Rattle.std.proofs.Common.{◌≡◌, ◌≢◌, ◌↔◌, ℕ, List, Result, Err, length, ap, arith}
use Rattle.partition.specs.declared.PartFail.{PartFail}
use Rattle.partition.specs.declared.PartFail.TheVariants.{Empty, NotCanonical, BadText, WrongLength, NoMemory}
use Rattle.partition.specs.Partition.{IsPartition}
use Rattle.partition.specs.Laws.Labels.{label-le}
use Rattle.partition.specs.Refusal.{LabelFault}

no_fault : (n : ℕ) (labels : List ℕ) (fail : PartFail) → IsPartition n labels → LabelFault labels fail → ⊥
no_fault n labels Empty lawful fault = absurd (omega (arith, ap length fault, lawful.length, lawful.count.0))
no_fault n labels (NotCanonical place) lawful fault =
    fault.unlawful (lawful.numbered place fault.within, omega (arith, label-le labels lawful.numbered place fault.within, fault.within, lawful.length, lawful.count.1))
no_fault n labels (BadText place) lawful fault = fault
no_fault n labels (WrongLength found) lawful fault = absurd (omega (arith, fault.1, lawful.length, lawful.count.1))
no_fault n labels NoMemory lawful fault = fault

-- so an answer that refuses them wants memory
pub never_refused : (n : ℕ) (labels : List ℕ) (result : Result (List ℕ) PartFail) (fail : PartFail) → IsPartition n labels → fail ≢ NoMemory → result ≡ Err fail
    → ((other : PartFail) → other ≢ NoMemory → (result ≡ Err other) ↔ LabelFault labels other) → ⊥
never_refused n labels result fail lawful other is refused = no_fault n labels fail lawful ((refused fail other).0 is)
