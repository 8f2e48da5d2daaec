-- What is reported of a network that is made for a job.
use Rattle.std.specs.Prelude.{◌≡◌, Contains, ℕ, List, Option, Some}
use Rattle.answers.specs.declared.refusals.Refusal.TheVariants.{ClockIsSignal}
use Rattle.answers.specs.declared.reports.Report.{Report}
use Rattle.answers.specs.declared.reports.Report.TheVariants as reports
use Rattle.answers.specs.Cause.{Cause}
use Rattle.blif_out.specs.declared.design.Design.{Design}
use Rattle.blif_out.specs.declared.networks.CommentedNetwork.{CommentedNetwork}
use Rattle.blif_out.specs.declared.networks.HeadedNetwork.{HeadedNetwork}
use Rattle.blif_out.specs.Design.{signals_of}
use Rattle.blif_out.specs.Head.{header_text}
use Rattle.net_core.specs.declared.Network.{Network}

-- the clock that is asked for is the name of a signal of the network
abbrev pub NamesSignal : Option (List ℕ) → Network → Cause
NamesSignal asked N refusal = (clock : List ℕ) × (refusal ≡ ClockIsSignal clock) × (asked ≡ Some clock) × Contains (signals_of N) clock

-- the network in this design, with the comments of its header
abbrev pub IsReportOf : Design → HeadedNetwork → Report → Type 0
IsReportOf design headed report =
    (made : CommentedNetwork) × (report ≡ reports.Network design made) × (made.network ≡ headed.network) × (made.comments ≡ header_text headed.header)
