-- What is made from a later state of the shelf on, which holds the same.
use Rattle.std.proofs.Common.{◌≡◌, ◌⊎◌, ℕ, ◌<◌, ◌≤◌, List, Option, Result, Ok, Err, inl, inr, subst, arith}
use Rattle.answers.specs.declared.refusals.Refusal.{Refusal}
use Rattle.answers.specs.declared.reports.Report.{Report}
use Rattle.answers.specs.declared.reports.Report.TheVariants.{Evidence, Network, Whole}
use Rattle.hs_io.specs.Counts.{Rose, last_count}
use Rattle.hsdec_core.specs.Inner.JobOutcome.{IsOutcomeOfJob}
use Rattle.job_words.specs.declared.jobs.Job.{Job}
use Rattle.std.proofs.Math.Path.{fun_ext}
use Rattle.std.proofs.lemmas.Bool.{cases_order}

-- a count that rose has risen when it is looked at later, and one that rose later has risen
rose_of : (old between new last : ℕ) → old ≤ between → between ≡ last → between ≤ new → (old < new) ⊎ (new ≡ last)
rose_of old between new last first e later =
    elim (cases_order new last) [
      | inl same ↦ inr same
      | inr (inl less) ↦ absurd (omega (arith, e, less, later))
      | inr (inr more) ↦ inl (omega (arith, first, e, more))
    ]

pub rose_before : (old between new : ℕ) → old ≤ between → Rose old between → between ≤ new → Rose old new
rose_before old between new first (inl more) later = inl (omega (arith, more, later))
rose_before old between new first (inr last) later = rose_of old between new last_count first last later

pub rose_after : (old between new : ℕ) → old ≤ between → Rose between new → Rose old new
rose_after old between new first (inl more) = inl (omega (arith, first, more))
rose_after old between new first (inr last) = inr last

-- a fault more is a fault
with_fault : (job : Job) (holds : List ℕ → Option (List ℕ)) (Faulted More : Type 0) (made : Result Report Refusal) → (Faulted → More) → IsOutcomeOfJob job holds Faulted made → IsOutcomeOfJob job holds More made
with_fault job holds Faulted More (Ok (Whole text)) more is = is
with_fault job holds Faulted More (Ok (Evidence text limit)) more is = is
with_fault job holds Faulted More (Ok (Network design made)) more is = is
with_fault job holds Faulted More (Err refusal) more (inl wanting) = inl wanting
with_fault job holds Faulted More (Err refusal) more (inr (inl failed)) = inr (inl (more failed.0, failed.1))
with_fault job holds Faulted More (Err refusal) more (inr (inr called)) = inr (inr called)

pub made_later : (job : Job) (holds later : List ℕ → Option (List ℕ)) (old between new : ℕ) (made : Result Report Refusal) → ((other : List ℕ) → later other ≡ holds other) → old ≤ between → IsOutcomeOfJob job later (Rose between new) made → IsOutcomeOfJob job holds (Rose old new) made
made_later job holds later old between new made same first is =
    with_fault job holds (Rose between new) (Rose old new) made (rose_after old between new first)
    (subst (λ (h : List ℕ → Option (List ℕ)). IsOutcomeOfJob job h (Rose between new) made) (fun_ext same) is)
