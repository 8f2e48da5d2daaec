-- What is made of the machine of numbers, its split and its codes.
use Rattle.std.proofs.Common.{◌≡◌, ℕ, ◌++◌, false, inl, inr, List, [], ◌∷◌, Result, Ok, Err, length, sym, subst, arith, refl, ap, ◌∙◌}
use Rattle.answers.specs.declared.refusals.Refusal.{Refusal}
use Rattle.answers.specs.Cause.{CallsForNone}
use Rattle.answers.specs.Outcome.{IsJudged, IsStop}
use Rattle.answers.specs.Laws.Causes.{none_first}
use Rattle.state_reduce.specs.declared.work.WorkMachine.{WorkMachine}
use Rattle.state_reduce.specs.Work.{IsWork}
use Rattle.state_reduce.specs.Laws.Works.{with_its_file}
use Rattle.hs_texts.proofs.Comments.{trial_lines_are_comments}
use Rattle.hs_texts.specs.declared.reports.TrialFigures.{TrialFigures}
use Rattle.hs_texts.specs.Reports.{trial_lines, trial_text}
use Rattle.kiss_file.specs.declared.file.KissFile.{KissFile}
use Rattle.machine_gen.specs.WordMachine.{AreSizes}
use Rattle.net_core.specs.Laws.Determined.{denotes_one}
use Rattle.split_texts.specs.Splits.{HasNoPlan, IsPlanned, IsSplitOf, LacksSplit, Refuses}
use Rattle.split_texts.specs.Causes.{HasLongCode, HasNoCode, OfParts}
use Rattle.split_texts.specs.SplitText.{AreCodes, IsOfParts}
use Rattle.split_texts.specs.Laws.Causes.{apart_leaves_none, of_parts_none, short_has_none}
use Rattle.state_codes.specs.declared.Codes.{Codes}
use Rattle.state_codes.specs.declared.split.Kind.{Kind}
use Rattle.state_codes.specs.declared.split.Kind.TheVariants.{Parallel}
use Rattle.state_codes.specs.declared.split.Part.{Part}
use Rattle.state_codes.specs.declared.split.Split.{Split}
use Rattle.state_codes.specs.Fault.{AreApart}
use Rattle.generated_texts.specs.Figures.{AreFigures}
use Rattle.generated_texts.specs.SeedMachine.{IsGenerated, OfGenerated}
use Rattle.generated_texts.specs.Trial.{LongCodeRow, IsTrialNetwork}
use Rattle.generated_texts.specs.Laws.Trials.{one_generated, some_in_parallel}
use Rattle.blif_out.specs.declared.networks.CommentedNetwork.{CommentedNetwork}
use Rattle.blif_out.specs.declared.networks.HeadedNetwork.{HeadedNetwork}
use Rattle.blif_out.specs.Comments.{AreComments}
use Rattle.blif_out.specs.Head.{header_text}
use Rattle.blif_out.specs.NetworkText.{CanBeHeaded, CanBeText, CanBeWritten}
use Rattle.blif_out.proofs.NetworkTexts.{comments_join, header_is_comments}
use Rattle.decomposition.specs.Decomposition.{IsDecomposed}

-- the parts of a parallel split tell all states apart
pub apart_in_parallel : (F : KissFile) (split : Split) → IsPlanned Parallel [] F split → AreApart (length F.states) split.parts
apart_in_parallel F split planned s t before in_t together =
    let same : s ≡ t = planned.made.asked.in_zero s t together in omega (arith, same, before)

module _ (seed a b k : ℕ) (F : KissFile) (sizes : AreSizes a b k) (made : IsGenerated seed a b k F) where
  -- nothing stands against a plan
  plan_none : CallsForNone (HasNoPlan Parallel [] F)
  plan_none = none_first (Refuses Parallel [] F ∷ LacksSplit Parallel F ∷ []) (λ refusal h. h, (λ refusal (is, none). some_in_parallel seed a b k F sizes made none, tt))

  pub plan_stops : (refusal : Refusal) → IsStop (HasNoPlan Parallel [] F) refusal → IsStop (LongCodeRow seed a b k) refusal
  plan_stops refusal (inl wanting) = inl wanting
  plan_stops refusal (inr h) = absurd (plan_none refusal h)

  -- but its codes
  pub codes_stop : (split : Split) (refusal : Refusal) → IsPlanned Parallel [] F split → IsStop (HasNoCode F split.parts) refusal → IsStop (LongCodeRow seed a b k) refusal
  codes_stop split refusal planned (inl wanting) = inl wanting
  codes_stop split refusal planned (inr (inl together)) = absurd (apart_leaves_none F split.parts (apart_in_parallel F split planned) refusal together)
  codes_stop split refusal planned (inr (inr (apart, inl long))) = inr (F, made, (split.parts, planned.made, long))
  codes_stop split refusal planned (inr (inr (apart, inr (short, more)))) = absurd more

  pub codes_none : (split : Split) (codes : Codes) → IsPlanned Parallel [] F split → AreCodes (length F.states) split.parts codes → CallsForNone (LongCodeRow seed a b k)
  codes_none split codes planned are refusal (G, made_too, calls) =
      of_parts_none Parallel [] F split.parts HasLongCode planned.made (short_has_none (length F.states) split.parts codes are) refusal
      (subst (λ (K : KissFile). OfParts Parallel [] K HasLongCode refusal) (one_generated seed a b k G F sizes made_too made) calls)

-- a split of the kind that it is of
pub planned_by_kind : (W : KissFile) (split : Split) → IsPlanned Parallel [] W split → (text : List ℕ) × IsPlanned split.kind text W split
planned_by_kind W split planned = ([], subst (λ (kind : Kind). IsPlanned kind [] W split) (sym planned.same_kind) planned)

-- the whole network
module _ (seed a b k : ℕ) (F : KissFile) (work : WorkMachine) (split : Split) (figures : TrialFigures) (summary : List ℕ) (headed : HeadedNetwork) (made : CommentedNetwork) (summary_is : summary ≡ trial_text figures) (comments : made.comments ≡ summary ++ header_text headed.header) (network : made.network ≡ headed.network) where
  told : made.comments ≡ trial_text figures ++ header_text headed.header
  told = comments ∙ ap (λ (front : List ℕ). front ++ header_text headed.header) summary_is

  pub trial_ready : CanBeHeaded headed → CanBeText made
  trial_ready ready = record {
    comments =
        subst AreComments (sym told)
        (comments_join (trial_text figures) (header_text headed.header) (trial_lines figures, trial_lines_are_comments figures, refl) (header_is_comments headed.header ready.header));
    network = subst CanBeWritten (sym network) ready.network;
  }

  pub trial_network : IsWork false F work → IsPlanned Parallel [] work.machine split → AreFigures seed a b k work.machine split.parts figures → IsOfParts work split.kind split.parts headed → IsTrialNetwork seed a b k F made
  trial_network is_work planned are of_parts =
      let same : work.machine ≡ F = is_work.machine.file in
      let of_file : IsDecomposed false F work.machine split.kind split.parts headed = subst (λ (G : KissFile). IsDecomposed false G work.machine split.kind split.parts headed) is_work.file (of_parts false (with_its_file false F work is_work)) in
      let of_kind : IsDecomposed false F work.machine Parallel split.parts headed = subst (λ (kind : Kind). IsDecomposed false F work.machine kind split.parts headed) planned.same_kind of_file in (
        split.parts,
        figures,
        headed,
        subst (λ (K : KissFile). AreFigures seed a b k K split.parts figures) same are,
        subst (λ (K : KissFile). IsSplitOf Parallel [] K split.parts) same (record { made = planned.made; apart = apart_in_parallel work.machine split planned }),
        subst (λ (K : KissFile). IsDecomposed false F K Parallel split.parts headed) same of_kind,
        network,
        told,
      )

-- what is judged of the machine of the numbers
pub judged_generated : (seed a b k : ℕ) (F : KissFile) → IsGenerated seed a b k F → (result : Result CommentedNetwork Refusal) → IsJudged (LongCodeRow seed a b k) (λ made. CanBeText made × IsTrialNetwork seed a b k F made) result
    → IsJudged (LongCodeRow seed a b k) (λ made. CanBeText made × OfGenerated seed a b k (λ G. IsTrialNetwork seed a b k G made)) result
judged_generated seed a b k F made (Ok v) (none, (ready, right)) = (none, (ready, (F, made, right)))
judged_generated seed a b k F made (Err refusal) stop = stop
