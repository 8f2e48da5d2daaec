-- What is put of a report.
use Rattle.std.specs.Prelude.{◌≡◌, ⊤, ℕ, List, Result, Ok, Err}
use Rattle.answers.specs.declared.refusals.Refusal.{Refusal}
use Rattle.answers.specs.declared.reports.Page.{Page}
use Rattle.answers.specs.declared.reports.Page.TheVariants as pages
use Rattle.answers.specs.declared.reports.Report.{Report}
use Rattle.answers.specs.declared.reports.Report.TheVariants.{Evidence, Network, Whole}
use Rattle.blif_out.specs.Design.{IsDesignOf}
use Rattle.blif_out.specs.NetworkText.{CanBeText, IsNetworkText}

-- a network that is reported can be written
abbrev pub CanBePage : Report → Type 0
CanBePage (Whole text) = ⊤
CanBePage (Evidence text limit) = ⊤
CanBePage (Network design made) = CanBeText made × IsDesignOf made.network design

-- the page has the text of the report, or the text of its network
abbrev pub IsPageOf : Report → Page → Type 0
IsPageOf (Whole text) page = page ≡ pages.Whole text
IsPageOf (Evidence text limit) page = page ≡ pages.Evidence text limit
IsPageOf (Network design made) page = (text : List ℕ) × (page ≡ pages.Whole text) × IsNetworkText design made.comments made.network text

-- a page, seen as the report of its text
abbrev pub report_of : Result Page Refusal → Result Report Refusal
report_of (Ok (pages.Whole text)) = Ok (Whole text)
report_of (Ok (pages.Evidence text limit)) = Ok (Evidence text limit)
report_of (Err refusal) = Err refusal
