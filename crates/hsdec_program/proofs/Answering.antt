-- The answer to words, by whether they ask for a page and whether memory ran out.
use Rattle.std.proofs.Common.{◌≡◌, ◌≢◌, ◌⊎◌, ℕ, List, Option, Some, None, Result, Ok, Err, IfOk, IfSome, MatchOption, inl, inr, refl, sym, ap, subst, ◌∙◌}
use Rattle.job_words.specs.declared.jobs.Job.{Job}
use Rattle.job_words.specs.Job.{JobOf}
use Rattle.answers.specs.declared.numbers.Answer.{Answer}
use Rattle.answers.specs.declared.numbers.Answer.TheVariants as answers
use Rattle.answers.specs.declared.refusals.Refusal.{Refusal}
use Rattle.answers.specs.declared.refusals.Refusal.TheVariants as refusals
use Rattle.answers.specs.declared.reports.Page.TheVariants.{Whole}
use Rattle.answers.specs.Cause.{CallsForNone}
use Rattle.answers.specs.Delivery.{IsDone, IsRefusedWith}
use Rattle.answers.specs.Refusal.{answer_of, line_of}
use Rattle.hs_io.specs.Pieces.{AppendsFront}
use Rattle.hsdec_core.specs.Judgement.{all_causes}
use Rattle.hsdec_core.specs.Operands.{file_held, symbols_held}
use Rattle.hsdec_core.specs.Refusals.{IsRefusalOfWords}
use Rattle.hsdec_program.specs.Pages.{page_asked}
use Rattle.hsdec_program.specs.Status.{IsAnswerTo, IsJobAnswer, IsPageAnswer, Seen}

done_or : (given : Answer) (Else : Type 0) → (given ≢ answers.Done → Else) → (given ≡ answers.Done) ⊎ Else
done_or answers.Done Else undone = inl refl
done_or _ Else undone = inr (undone (λ e. cc))

-- ---- the page that the words ask for
pub answer_to_job : (words : List (List ℕ)) (seen : Seen) (given : Answer) → page_asked words ≡ None → IsJobAnswer words seen given → IsAnswerTo words seen given
answer_to_job words seen given none answer =
    subst (λ (asked : Option (List ℕ)). MatchOption asked (IsJobAnswer words seen given) (λ page. IsPageAnswer page seen given)) (sym none) answer

pub answer_to_page : (words : List (List ℕ)) (page : List ℕ) (seen : Seen) (given : Answer) → page_asked words ≡ Some page → IsPageAnswer page seen given → IsAnswerTo words seen given
answer_to_page words page seen given some answer =
    subst (λ (asked : Option (List ℕ)). MatchOption asked (IsJobAnswer words seen given) (λ text. IsPageAnswer text seen given)) (sym some) answer

-- ---- a page that is delivered
module _ (page : List ℕ) (seen : Seen) (given : Answer) (done : given ≡ answers.Done → IsDone (Ok (Whole page)) seen.out_before seen.out_after seen.out_stays) (refused : given ≢ answers.Done → (refusal : Refusal) × (answer_of refusal ≡ given) × IsRefusedWith (Ok (Whole page)) seen.out_before seen.out_after seen.out_faulted refusal × seen.err_takes (line_of refusal)) where
  pub page_comes : (given ≡ answers.Done) ⊎ (given ≡ answers.WriteFault)
  page_comes = done_or given (given ≡ answers.WriteFault) (λ undone. let told = refused undone in sym told.1 ∙ ap answer_of told.2.0)

  pub page_faulted : given ≡ answers.WriteFault → seen.out_faulted
  page_faulted e = (refused (λ done. let f : answers.WriteFault ≡ answers.Done = sym e ∙ done in cc)).2.1.4

  pub page_unread : given ≡ answers.ReadFault → ⊥
  page_unread e =
      elim page_comes [
        | inl done ↦ let f : answers.ReadFault ≡ answers.Done = sym e ∙ done in cc
        | inr cut ↦ let f : answers.ReadFault ≡ answers.WriteFault = sym e ∙ cut in cc
      ]

  page_front : given ≡ answers.WriteFault → AppendsFront seen.out_before page seen.out_after
  page_front e =
      let cut = (refused (λ done. let f : answers.WriteFault ≡ answers.Done = sym e ∙ done in cc)).2.1 in
      subst (λ (text : List ℕ). AppendsFront seen.out_before text seen.out_after) cut.1 cut.3

  pub page_answer : IsPageAnswer page seen given
  page_answer = record {
    comes = elim page_comes [ inl e ↦ inl e | inr e ↦ inr (inl e) ];
    complete = λ calm. elim page_comes [ inl e ↦ inl e | inr e ↦ absurd (calm (page_faulted e)) ];
    whole = λ e. (done e).0;
    front = page_front;
    refused = λ undone. let told = refused undone in (told.0, told.1, inl (told.2.0, told.2.1.4), told.3);
  }

-- ---- memory that ran out
pub wanting : (seen : Seen) (given : Answer) → (given ≡ answers.Done → IsDone (Err refusals.NoMemory) seen.out_before seen.out_after seen.out_stays)
    → (given ≢ answers.Done → (refusal : Refusal) × (answer_of refusal ≡ given) × IsRefusedWith (Err refusals.NoMemory) seen.out_before seen.out_after seen.out_faulted refusal × seen.err_takes (line_of refusal))
    → (given ≡ answers.NoMemory) × seen.err_takes (line_of refusals.NoMemory)
wanting seen given done refused =
    elim (done_or given ((given ≡ answers.NoMemory) × seen.err_takes (line_of refusals.NoMemory)) (λ undone.
    let told = refused undone in
    let same : told.0 ≡ refusals.NoMemory = elim told.2 [ inl e ↦ e | inr e ↦ e ] in
    (sym told.1 ∙ ap answer_of same, subst (λ (refusal : Refusal). seen.err_takes (line_of refusal)) same told.3))) [ inl e ↦ absurd (done e) | inr is ↦ is ]

-- what holds of all bytes holds of those that are known
known : (held : Option (List ℕ)) (P : List ℕ → Type 0) → ((bytes : List ℕ) → P bytes) → IfSome held P
known None P all = tt
known (Some bytes) P all = all bytes

known_of_job : (job : Result Job ℕ) (holds : List ℕ → Option (List ℕ)) (P : Job → List ℕ → Type 0) → ((j : Job) (bytes : List ℕ) → P j bytes) → IfOk job (λ j. IfSome (file_held j holds) (P j))
known_of_job (Err word) holds P all = tt
known_of_job (Ok j) holds P all = known (file_held j holds) (P j) (all j)

want_is_refusal : (job : Result Job ℕ) (holds : List ℕ → Option (List ℕ)) (Faulted PutFaulted : Type 0) → IsRefusalOfWords job holds Faulted PutFaulted refusals.NoMemory
want_is_refusal (Ok job) holds Faulted PutFaulted = inl (inl refl)
want_is_refusal (Err word) holds Faulted PutFaulted = inl refl

module _ (seen : Seen) (given : Answer) (want : given ≡ answers.NoMemory) (line : seen.err_takes (line_of refusals.NoMemory)) where
  pub never : (other : Answer) → answers.NoMemory ≢ other → given ≡ other → ⊥
  never other differ e = differ (sym want ∙ e)

  want_for_job : (words : List (List ℕ)) → IsJobAnswer words seen given
  want_for_job words = record {
    usage = λ refused. inr want;
    comes = known_of_job (JobOf words) seen.holds _ (λ job bytes refusal called. inr (inl want));
    all_come = known_of_job (JobOf words) seen.holds _ (λ job bytes. known (symbols_held job seen.holds) _ (λ symbols refusal called. inr (inl want)));
    complete = known_of_job (JobOf words) seen.holds _ (λ job bytes. known (symbols_held job seen.holds) _ (λ symbols none read written. inr want));
    headline = λ e. absurd (never answers.Done (λ f. cc) e);
    text = λ e. absurd (never answers.Done (λ f. cc) e);
    evidence = λ e. absurd (never answers.More (λ f. cc) e);
    front = λ e. absurd (never answers.WriteFault (λ f. cc) e);
    refused = λ undone. (refusals.NoMemory, sym want, want_is_refusal (JobOf words) seen.holds seen.shelf_faulted seen.out_faulted, line);
  }

  want_for_page : (page : List ℕ) → IsPageAnswer page seen given
  want_for_page page = record {
    comes = inr (inr want);
    complete = λ calm. inr want;
    whole = λ e. absurd (never answers.Done (λ f. cc) e);
    front = λ e. absurd (never answers.WriteFault (λ f. cc) e);
    refused = λ undone. (refusals.NoMemory, sym want, inr refl, line);
  }

  want_by : (page : Option (List ℕ)) (words : List (List ℕ)) → MatchOption page (IsJobAnswer words seen given) (λ text. IsPageAnswer text seen given)
  want_by None words = want_for_job words
  want_by (Some page) words = want_for_page page

  pub answer_of_want : (words : List (List ℕ)) → IsAnswerTo words seen given
  answer_of_want words = want_by (page_asked words) words
