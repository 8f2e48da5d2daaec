use Rattle.std.proofs.Common.{inl, inr}
use Rattle.kiss2.specs.Kiss.{lines_read}
use Rattle.kiss2.proofs.Exact.{machine_or_fault, one_file}
use Rattle.kiss2.proofs.OneFault.{fault_or_none, one_fault}
use Rattle.kiss2.specs.Laws.Made.{a_record}
use Rattle.kiss2.proofs.laws.read_once.Goals as goal

pub returns-clause-one_fault : goal.returns-clause-one_fault
returns-clause-one_fault c bytes number other kind another first second = one_fault (lines_read bytes) number other kind another first second

pub returns-clause-never_both : goal.returns-clause-never_both
returns-clause-never_both c = machine_or_fault

pub returns-clause-one_file : goal.returns-clause-one_file
returns-clause-one_file c = one_file

pub returns-clause-always_one : goal.returns-clause-always_one
returns-clause-always_one c bytes =
    elim (fault_or_none (lines_read bytes)) [
      | inl fault ↦ inr fault
      | inr fine ↦ let made = a_record (lines_read bytes) fine.0 fine.1 in inl (made.0, record { faultless = fine.0; closed = fine.1; whole = made.1 })
    ]
