-- The text of each fault of a BLIF text.
use Rattle.std.specs.Prelude.{ℕ, List, [], codes}
use Rattle.blif_in.specs.declared.fault.BlifFault.{BlifFault}
use Rattle.blif_in.specs.declared.fault.BlifKind.{BlifKind}
use Rattle.blif_in.specs.declared.fault.BlifKind.TheVariants.{BadByte, BadFields, BadRow, Clocks, LatchKind, MixedCover, NoModel, OverLimit, Structure, Unsupported}
use Rattle.blif_in.specs.declared.fault.NetLimit.{NetLimit}
use Rattle.blif_in.specs.declared.fault.NetLimit.TheVariants.{GateInputs, Gates, Inputs, Latches, NameBytes, Outputs}
use Rattle.hs_texts.specs.ErrLines.{cycle_line, net_line, two_drivers_line, undriven_line}
use Rattle.net_core.specs.declared.causes.NetFail.{NetFail}
use Rattle.net_core.specs.declared.causes.NetFail.TheVariants.{Cycle, NoMemory, TwoDrivers, Undriven}
use Rattle.answers.specs.LimitTexts.{over_limit_text}

-- what there is too much of
abbrev pub net_limit_text : NetLimit → List ℕ
net_limit_text Inputs = codes "inputs"
net_limit_text Outputs = codes "outputs"
net_limit_text Latches = codes "latches"
net_limit_text Gates = codes "gates"
net_limit_text GateInputs = codes "gate inputs"
net_limit_text NameBytes = codes "name"

-- the text of a kind; a network that is not sound has a line of its own
abbrev pub net_kind_text : BlifKind → List ℕ
net_kind_text BadByte = codes "bad byte"
net_kind_text Unsupported = codes "unsupported"
net_kind_text BadFields = codes "bad fields"
net_kind_text BadRow = codes "bad row"
net_kind_text MixedCover = codes "mixed cover"
net_kind_text LatchKind = codes "latch kind"
net_kind_text Clocks = codes "clocks"
net_kind_text NoModel = codes "no model"
net_kind_text (OverLimit what found) = over_limit_text (net_limit_text what) found
net_kind_text (Structure fail) = []

-- the line of a network that is not sound, by its cause
abbrev pub structure_line : NetFail → List ℕ
structure_line (TwoDrivers name) = two_drivers_line name
structure_line (Undriven name) = undriven_line name
structure_line (Cycle names) = cycle_line names
structure_line NoMemory = []

-- the line of a fault at the line of this number
abbrev pub fault_line_at : ℕ → BlifKind → List ℕ
fault_line_at number (Structure fail) = structure_line fail
fault_line_at number kind = net_line number (net_kind_text kind)

abbrev pub fault_line : BlifFault → List ℕ
fault_line fault = fault_line_at fault.line fault.kind
