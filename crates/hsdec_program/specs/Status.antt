-- What is answered to the arguments: by their words, and by the page that these ask for, if they ask for one.
use Rattle.std.specs.Prelude.{◌≡◌, ◌≢◌, ◌⊎◌, ℕ, List, [], Option, IfOk, IfSome, IsErr, MatchOption}
use Rattle.answers.specs.declared.numbers.Answer.{Answer}
use Rattle.answers.specs.declared.numbers.Answer.TheVariants.{Done, Usage, More, ReadFault, WriteFault, NoMemory}
use Rattle.answers.specs.declared.refusals.Refusal.{Refusal}
use Rattle.answers.specs.declared.refusals.Refusal.TheVariants as refusals
use Rattle.answers.specs.Cause.{CallsForNone}
use Rattle.answers.specs.Refusal.{answer_of, line_of}
use Rattle.hs_io.specs.Pieces.{Appends, AppendsFront}
use Rattle.hsdec_core.specs.Judgement.{all_causes, first_cause}
use Rattle.hsdec_core.specs.Operands.{IfAllTold, IfTold}
use Rattle.hsdec_core.specs.Promise.{IsAsked, IsAskedOrShown, IsDecompositionOf, IsEvidence}
use Rattle.hsdec_core.specs.Refusals.{Comes, IsRefusalOfWords}
use Rattle.hsdec_core.specs.Task.{kind_of, task_of}
use Rattle.hsdec_program.specs.Pages.{page_asked}
use Rattle.hsdec_program.specs.Words.{AreTold}
use Rattle.job_words.specs.Job.{JobOf}

-- What is seen of the shelf, of out and of err in a call:
-- - `holds`: what the shelf holds;
-- - `shelf_faulted`, `out_faulted`: the count of faults of the shelf rose, and that of out;
-- - `out_before`, `out_after`: what out was given until then, and with the call;
-- - `out_stays`, `err_stays`: out is as it was, and err is;
-- - `err_takes`: this line was handed to err.
pub record Seen : Type 1 where
  pub holds : List ℕ → Option (List ℕ)
  pub shelf_faulted : Type 0
  pub out_faulted : Type 0
  pub out_before : Option (List ℕ)
  pub out_after : Option (List ℕ)
  pub out_stays : Type 0
  pub err_stays : Type 0
  pub err_takes : List ℕ → Type 0

-- ---- words that ask for no page
-- The words are judged, and what they and the texts of the shelf call for is answered (`usage`, `comes`, `all_come`,
-- `complete`). Out is given:
-- - at Done, the whole text that the job asks for, which is a whole decomposition if the job decomposes (`headline`,
--   `text`); if the text is empty, out is as it was;
-- - at More, the evidence that there are more than the limit (`evidence`);
-- - at WriteFault, a front of either, as it could not be given whole (`front`).
--
-- Every answer but Done is that of a refusal with its cause, and its line is handed to err (`refused`).
pub record IsJobAnswer (words : List (List ℕ)) (seen : Seen) (given : Answer) : Type 0 where
  pub usage : IsErr (JobOf words) → (given ≡ Usage) ⊎ (given ≡ NoMemory)
  pub comes : IfTold words seen.holds (λ job bytes. Comes given (first_cause job bytes))
  pub all_come : IfAllTold words seen.holds (λ job bytes symbols. Comes given (all_causes job bytes symbols))
  pub complete :
      IfAllTold words seen.holds (λ job bytes symbols. CallsForNone (all_causes job bytes symbols)
      → (seen.shelf_faulted → ⊥) → (seen.out_faulted → ⊥) → (given ≡ Done) ⊎ (given ≡ NoMemory))
  pub headline :
      given ≡ Done → IfOk (JobOf words) (λ job. IfSome (kind_of (task_of job.command)) (λ kind.
      (text : List ℕ) × IsDecompositionOf kind job seen.holds text × Appends seen.out_before text seen.out_after))
  pub text :
      given ≡ Done → IfOk (JobOf words) (λ job. (text : List ℕ) × IsAsked job seen.holds text
      × Appends seen.out_before text seen.out_after × (text ≡ [] → seen.out_stays))
  pub evidence :
      given ≡ More → IfOk (JobOf words) (λ job. (text : List ℕ) × IsEvidence job seen.holds text × Appends seen.out_before text seen.out_after)
  pub front :
      given ≡ WriteFault → IfOk (JobOf words) (λ job. (text : List ℕ) × (text ≢ []) × IsAskedOrShown job seen.holds text
      × AppendsFront seen.out_before text seen.out_after)
  pub refused :
      given ≢ Done → (refusal : Refusal) × (answer_of refusal ≡ given)
      × IsRefusalOfWords (JobOf words) seen.holds seen.shelf_faulted seen.out_faulted refusal × seen.err_takes (line_of refusal)

-- ---- words that ask for a page
-- the page is given out, or a front of it where out had a fault, or memory ran out; at any answer but Done the line of
-- the refusal is handed to err
pub record IsPageAnswer (page : List ℕ) (seen : Seen) (given : Answer) : Type 0 where
  pub comes : (given ≡ Done) ⊎ (given ≡ WriteFault) ⊎ (given ≡ NoMemory)
  pub complete : (seen.out_faulted → ⊥) → (given ≡ Done) ⊎ (given ≡ NoMemory)
  pub whole : given ≡ Done → Appends seen.out_before page seen.out_after
  pub front : given ≡ WriteFault → AppendsFront seen.out_before page seen.out_after
  pub refused :
      given ≢ Done → (refusal : Refusal) × (answer_of refusal ≡ given)
      × (((refusal ≡ refusals.Unwritable) × seen.out_faulted) ⊎ (refusal ≡ refusals.NoMemory)) × seen.err_takes (line_of refusal)

-- ---- whole
-- the answer to words, by the page that they ask for
abbrev pub IsAnswerTo : List (List ℕ) → Seen → Answer → Type 0
IsAnswerTo words seen given = MatchOption (page_asked words) (IsJobAnswer words seen given) (λ page. IsPageAnswer page seen given)

-- the answer to the arguments, by their words; `told` are the arguments, where they are known
pub record IsAnswered (told : Option (List (List ℕ))) (words : List (List ℕ)) (seen : Seen) (given : Answer) : Type 0 where
  pub words_told : given ≢ NoMemory → AreTold told words
  pub answer : IsAnswerTo words seen given
  pub read_fault : given ≡ ReadFault → seen.shelf_faulted
  pub write_fault : given ≡ WriteFault → seen.out_faulted
  pub untouched : given ≢ Done → given ≢ More → given ≢ WriteFault → seen.out_stays
  pub silent : given ≡ Done → seen.err_stays
