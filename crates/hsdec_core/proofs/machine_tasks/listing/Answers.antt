use Rattle.std.proofs.Common.{refl}
use Rattle.hsdec_core.specs.declared.tasks.ListTask.TheVariants.{Closed, InputPairs, Output, OutputPairs}
use Rattle.hsdec_core.specs.Judgement.{list_cause}
use Rattle.hsdec_core.specs.Promise.{IsListEvidence, IsListing}
use Rattle.hsdec_core.proofs.Reports.{reported_as}
use Rattle.hsdec_core.proofs.machine_tasks.listing.Goals as goal

pub returns-in-InputPairs : goal.returns-in-InputPairs
returns-in-InputPairs c =
    reported_as (λ listed. list_cause listed c.args.limit) (λ listed. IsListing listed c.args.shown c.args.limit) (λ listed. IsListEvidence listed c.args.shown c.args.limit)
    _ InputPairs c.args.machine.now c.args.machine.now c.ispairs.result c.in-InputPairs.is refl c.ispairs.ensures

pub returns-in-OutputPairs : goal.returns-in-OutputPairs
returns-in-OutputPairs c =
    reported_as (λ listed. list_cause listed c.args.limit) (λ listed. IsListing listed c.args.shown c.args.limit) (λ listed. IsListEvidence listed c.args.shown c.args.limit)
    _ OutputPairs c.args.machine.now c.args.machine.now c.sopairs.result c.in-OutputPairs.is refl c.sopairs.ensures

pub returns-in-Closed : goal.returns-in-Closed
returns-in-Closed c =
    reported_as (λ listed. list_cause listed c.args.limit) (λ listed. IsListing listed c.args.shown c.args.limit) (λ listed. IsListEvidence listed c.args.shown c.args.limit)
    _ Closed c.args.machine.now c.args.machine.now c.closed.result c.in-Closed.is refl c.closed.ensures

pub returns-in-Output : goal.returns-in-Output
returns-in-Output c =
    reported_as (λ listed. list_cause listed c.args.limit) (λ listed. IsListing listed c.args.shown c.args.limit) (λ listed. IsListEvidence listed c.args.shown c.args.limit)
    _ Output c.args.machine.now c.args.machine.now c.output.result c.in-Output.is refl c.output.ensures
