-- What is known while the words are read.
use Rattle.std.proofs.Common.{◌≡◌, ℕ, ◌+◌, ◌<◌, ◌≤◌, Bool, true, false, ltb, if◌then◌else◌, List, [], ◌∷◌, length, Option, None, Result, Ok, Err, drop, sym, ap, ◌∙◌, arith}
use Rattle.std.proofs.lemmas.Bool.{le-ltb, lt-ltb}
use Rattle.std.proofs.lemmas.List.{drop_all}
use Rattle.job_words.specs.declared.draft.Draft.{Draft}
use Rattle.job_words.specs.declared.jobs.JobFail.{JobFail}
use Rattle.job_words.specs.declared.jobs.JobFail.TheVariants as fails
use Rattle.job_words.specs.Inner.Draft.{IsDraft}
use Rattle.job_words.specs.Item.{Item, items_of, width_of}
use Rattle.job_words.specs.Job.{job_of, judged, refusal, refused_or}
use Rattle.job_words.specs.Table.{Row}

-- some items stand in the draft, and what is left of the words decides
pub record IsReading (row : Row) (words : List (List ℕ)) (i : ℕ) (draft : Draft) : Type 0 where
  pub before : List Item
  pub draft_is : IsDraft row before draft
  pub left : judged row [] 2 (items_of (drop 1 words)) ≡ judged row before (i + 1) (items_of (drop i words))

-- one item more
pub reads_on : (row : Row) (words : List (List ℕ)) (i width : ℕ) (draft new : Draft) (item : Item) → IsReading row words i draft → items_of (drop i words) ≡ item ∷ items_of (drop (i + width_of item) words) → width ≡ width_of item → ((before : List Item) → IsDraft row before draft → IsDraft row (item ∷ before) new × (refusal row before item ≡ None)) → IsReading row words (i + width) new
reads_on row words i width draft new item reading items is accepts =
    let before = reading.before in
    let ok = accepts before reading.draft_is in
    let rest = items_of (drop (i + width_of item) words) in
    let number : i + 1 + width_of item ≡ i + width_of item + 1 = omega arith in
    rw is (record {
      before = item ∷ before;
      draft_is = ok.0;
      left = reading.left ∙ ap (judged row before (i + 1)) items
          ∙ ap (λ (place : Option ℕ). refused_or (i + 1) place (judged row (item ∷ before) (i + 1 + width_of item) rest)) ok.1
          ∙ ap (λ (n : ℕ). judged row (item ∷ before) n rest) number;
    })

abbrev failed : (T : Type 0) → JobFail → Result T JobFail
failed T fail = Err fail

told : (T : Type 0) (fail : JobFail) (number word : ℕ) → fail ≡ fails.Usage number → failed T fail ≡ Err (fails.Usage word) → number ≡ word
told T fail number word is e = cc

-- after the last word the number of operands decides
ends_at : (row : Row) (words : List (List ℕ)) (i : ℕ) (draft : Draft) (missing : Bool) (reading : IsReading row words i draft) → length words ≤ i → ltb draft.operands (length row.operands) ≡ missing → judged row [] 2 (items_of (drop 1 words)) ≡ (if missing then Err (i + 1) else Ok (job_of row reading.before))
ends_at row words i draft missing reading done test =
    reading.left
    ∙ ap (λ (rest : List (List ℕ)). judged row reading.before (i + 1) (items_of rest)) (drop_all i words done)
    ∙ ap (λ (b : Bool). if b then Err (i + 1) else Ok (job_of row reading.before)) (ap (λ (n : ℕ). ltb n (length row.operands)) (sym reading.draft_is.operands) ∙ test)

pub job_at : (row : Row) (words : List (List ℕ)) (i : ℕ) (draft : Draft) → IsReading row words i draft → length words ≤ i → length row.operands ≤ draft.operands → judged row [] 2 (items_of (drop 1 words)) ≡ Ok draft.job
job_at row words i draft reading done enough =
    ends_at row words i draft false reading done (le-ltb draft.operands (length row.operands) enough) ∙ ap Ok (sym reading.draft_is.job)

pub lacks_at : (T : Type 0) (row : Row) (words : List (List ℕ)) (i : ℕ) (draft : Draft) (fail : JobFail) → IsReading row words i draft → length words ≤ i → draft.operands < length row.operands → fail ≡ fails.Usage (i + 1) → (word : ℕ) → failed T fail ≡ Err (fails.Usage word) → judged row [] 2 (items_of (drop 1 words)) ≡ Err word
lacks_at T row words i draft fail reading done lacks is word e =
    ends_at row words i draft true reading done (lt-ltb draft.operands (length row.operands) lacks) ∙ ap Err (told T fail (i + 1) word is e)
