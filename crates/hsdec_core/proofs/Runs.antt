-- What `run` answers, from what was made in memory and what became of it.
use Rattle.std.proofs.Common.{◌≡◌, ◌≢◌, ◌⊎◌, ℕ, List, [], Option, Some, None, Result, Ok, Err, IfOk, IfSome, IsErr, inl, inr, refl, sym, ap, ◌∙◌, subst}
use Rattle.answers.specs.declared.numbers.Answer.{Answer}
use Rattle.answers.specs.declared.numbers.Answer.TheVariants as answers
use Rattle.answers.specs.declared.refusals.Refusal.{Refusal}
use Rattle.answers.specs.declared.refusals.Refusal.TheVariants.{More, NoMemory, Usage}
use Rattle.answers.specs.declared.reports.Page.{Page}
use Rattle.answers.specs.declared.reports.Page.TheVariants.{Evidence, Whole}
use Rattle.answers.specs.Cause.{CallsForNone}
use Rattle.answers.specs.Delivery.{IsDone, IsRefusedWith}
use Rattle.answers.specs.Refusal.{answer_of}
use Rattle.hs_io.specs.Pieces.{Appends, AppendsFront}
use Rattle.hsdec_core.specs.Inner.JobOutcome.{IsOutcomeOfJob, IsOutcomeOfWords, IsPlain, IsUndone}
use Rattle.hsdec_core.specs.Inner.Pages.{report_of}
use Rattle.hsdec_core.specs.Judgement.{all_causes, first_cause}
use Rattle.operands.specs.OperandText.{MayBe}
use Rattle.hsdec_core.specs.Operands.{file_held, symbols_held}
use Rattle.hsdec_core.specs.Promise.{IsAsked, IsAskedOrShown, IsEvidence}
use Rattle.hsdec_core.specs.Refusals.{Comes, IsCalledFor, IsExcused, IsFailedLoad, IsRefusalOfJob, IsRefusalOfWords}
use Rattle.hsdec_core.proofs.OneAnswer.{all_have_one, first_have_one}
use Rattle.job_words.specs.declared.jobs.Job.{Job}

-- ---- what was made, and what is answered
abbrev IsAnsweredBy : Result Page Refusal → Answer → Type 0
IsAnsweredBy (Ok (Whole text)) result = (result ≡ answers.Done) ⊎ (result ≡ answers.WriteFault)
IsAnsweredBy (Ok (Evidence text limit)) result = (result ≡ answers.More) ⊎ (result ≡ answers.WriteFault) ⊎ (result ≡ answers.NoMemory)
IsAnsweredBy (Err refusal) result = (result ≡ answer_of refusal) ⊎ (result ≡ answers.NoMemory)

-- what the delivery of what was made gives
pub record IsDelivered (made : Result Page Refusal) (given given' : Option (List ℕ)) (PutFaulted Stays : Type 0) (result : Answer) : Type 0 where
  pub done : result ≡ answers.Done → IsDone made given given' Stays
  pub refused : result ≢ answers.Done → (refusal : Refusal) × (answer_of refusal ≡ result) × IsRefusedWith made given given' PutFaulted refusal

done_or : (answer : Answer) → (answer ≡ answers.Done) ⊎ (answer ≢ answers.Done)
done_or answers.Done = inl refl
done_or _ = inr (λ e. cc)

by_done : (made : Result Page Refusal) (given given' : Option (List ℕ)) (Stays : Type 0) (result : Answer) → result ≡ answers.Done → IsDone made given given' Stays → IsAnsweredBy made result
by_done (Ok (Whole text)) given given' Stays result e put = inl e
by_done (Ok (Evidence text limit)) given given' Stays result e put = absurd put
by_done (Err refusal) given given' Stays result e put = absurd put

by_refused : (made : Result Page Refusal) (given given' : Option (List ℕ)) (PutFaulted : Type 0) (refusal : Refusal) (result : Answer) → answer_of refusal ≡ result → IsRefusedWith made given given' PutFaulted refusal → IsAnsweredBy made result
by_refused (Ok (Whole text)) given given' PutFaulted refusal result e with_it = inr (sym e ∙ ap answer_of with_it.0)
by_refused (Ok (Evidence text limit)) given given' PutFaulted refusal result e (inl shown) = inl (sym e ∙ ap answer_of shown.0)
by_refused (Ok (Evidence text limit)) given given' PutFaulted refusal result e (inr (inl cut)) = inr (inl (sym e ∙ ap answer_of cut.0))
by_refused (Ok (Evidence text limit)) given given' PutFaulted refusal result e (inr (inr wanting)) = inr (inr (sym e ∙ ap answer_of wanting))
by_refused (Err made) given given' PutFaulted refusal result e (inl same) = inl (sym e ∙ ap answer_of same)
by_refused (Err made) given given' PutFaulted refusal result e (inr wanting) = inr (sym e ∙ ap answer_of wanting)

answered : (made : Result Page Refusal) (given given' : Option (List ℕ)) (PutFaulted Stays : Type 0) (result : Answer) → IsDelivered made given given' PutFaulted Stays result → IsAnsweredBy made result
answered made given given' PutFaulted Stays result delivered =
    elim (done_or result) [
      | inl e ↦ by_done made given given' Stays result e (delivered.done e)
      | inr e ↦ let (refusal, is, with_it) = delivered.refused e in by_refused made given given' PutFaulted refusal result is with_it
    ]

-- ---- bytes that are told
the_same : (held : Option (List ℕ)) (told bytes : List ℕ) → held ≡ Some told → MayBe held bytes → bytes ≡ told
the_same held told bytes is may = let here : MayBe (Some told) bytes = subst (λ (h : Option (List ℕ)). MayBe h bytes) is may in here

some_bytes : (held : Option (List ℕ)) → (bytes : List ℕ) × MayBe held bytes
some_bytes None = ([], tt)
some_bytes (Some told) = (told, refl)

all_told : (held : Option (List ℕ)) (P : List ℕ → Type 0) → ((told : List ℕ) → held ≡ Some told → P told) → IfSome held P
all_told None P f = tt
all_told (Some told) P f = f told refl

-- ---- of a job
module _ (job : Job) (holds : List ℕ → Option (List ℕ)) (Faulted : Type 0) where
  no_memory : (made : Refusal) (result wanted : Answer) → made ≡ NoMemory → IsAnsweredBy (Err made) result → IsExcused result wanted
  no_memory made result wanted e (inl f) = inl (f ∙ ap answer_of e)
  no_memory made result wanted e (inr f) = inl f

  failed_load : (made : Refusal) (result wanted : Answer) → IsFailedLoad job holds made → IsAnsweredBy (Err made) result → IsExcused result wanted
  failed_load made result wanted (inl file) (inl f) = inr (inl (f ∙ ap answer_of file.1))
  failed_load made result wanted (inr symbols) (inl f) = inr (inl (f ∙ ap answer_of symbols.1))
  failed_load made result wanted failed (inr f) = inl f

  same_answer : (made : Refusal) (result wanted : Answer) → answer_of made ≡ wanted → IsAnsweredBy (Err made) result → (result ≡ wanted) ⊎ IsExcused result wanted
  same_answer made result wanted e (inl f) = inl (f ∙ e)
  same_answer made result wanted e (inr f) = inr (inl f)

  shown_answer : (text : List ℕ) (limit : ℕ) (result wanted : Answer) → wanted ≡ answers.More → IsAnsweredBy (Ok (Evidence text limit)) result → (result ≡ wanted) ⊎ IsExcused result wanted
  shown_answer text limit result wanted e (inl f) = inl (f ∙ sym e)
  shown_answer text limit result wanted e (inr (inl f)) = inr (inr (inr (e, f)))
  shown_answer text limit result wanted e (inr (inr f)) = inr (inl f)

  -- what FILE or NET calls for is answered
  module _ (told : List ℕ) (is : file_held job holds ≡ Some told) where
    first_called : (made wanted : Refusal) (result : Answer) → IsCalledFor job holds made → first_cause job told wanted → IsAnsweredBy (Err made) result → (result ≡ answer_of wanted) ⊎ IsExcused result (answer_of wanted)
    first_called made wanted result (bytes, symbols, may, may_symbols, inl h) k a =
        same_answer made result (answer_of wanted)
        (first_have_one job told made wanted (subst (λ (b : List ℕ). first_cause job b made) (the_same (file_held job holds) told bytes is may) h) k) a
    first_called made wanted result (bytes, symbols, may, may_symbols, inr later) k a =
        absurd (later.0 wanted (subst (λ (b : List ℕ). first_cause job b wanted) (sym (the_same (file_held job holds) told bytes is may)) k))

    pub first_comes : (made : Result Page Refusal) (result : Answer) → IsOutcomeOfJob job holds Faulted (report_of made) → IsAnsweredBy made result → Comes result (first_cause job told)
    first_comes (Ok (Whole text)) result (asked, (bytes, symbols, may, may_symbols, none)) a wanted k =
        absurd (none wanted (inl (subst (λ (b : List ℕ). first_cause job b wanted) (sym (the_same (file_held job holds) told bytes is may)) k)))
    first_comes (Ok (Evidence text limit)) result (shown, (bytes, may, h)) a wanted k =
        shown_answer text limit result (answer_of wanted)
        (first_have_one job told wanted (More limit) k (subst (λ (b : List ℕ). first_cause job b (More limit)) (the_same (file_held job holds) told bytes is may) h)) a
    first_comes (Err made) result (inl wanting) a wanted k = inr (no_memory made result (answer_of wanted) wanting a)
    first_comes (Err made) result (inr (inl failed)) a wanted k = inr (failed_load made result (answer_of wanted) failed.1 a)
    first_comes (Err made) result (inr (inr called)) a wanted k = first_called made wanted result called.0 k a

    -- and so is what all that is loaded calls for
    module _ (told_symbols : List ℕ) (symbols_is : symbols_held job holds ≡ Some told_symbols) where
      told_causes : (bytes symbols : List ℕ) (refusal : Refusal) → MayBe (file_held job holds) bytes → MayBe (symbols_held job holds) symbols → all_causes job bytes symbols refusal → all_causes job told told_symbols refusal
      told_causes bytes symbols refusal may may_symbols h =
          subst (λ (s : List ℕ). all_causes job told s refusal) (the_same (symbols_held job holds) told_symbols symbols symbols_is may_symbols)
          (subst (λ (b : List ℕ). all_causes job b symbols refusal) (the_same (file_held job holds) told bytes is may) h)

      told_back : (bytes symbols : List ℕ) (refusal : Refusal) → MayBe (file_held job holds) bytes → MayBe (symbols_held job holds) symbols → all_causes job told told_symbols refusal → all_causes job bytes symbols refusal
      told_back bytes symbols refusal may may_symbols h =
          subst (λ (s : List ℕ). all_causes job bytes s refusal) (sym (the_same (symbols_held job holds) told_symbols symbols symbols_is may_symbols))
          (subst (λ (b : List ℕ). all_causes job b told_symbols refusal) (sym (the_same (file_held job holds) told bytes is may)) h)

      shown_cause : (bytes : List ℕ) (limit : ℕ) → MayBe (file_held job holds) bytes → first_cause job bytes (More limit) → all_causes job told told_symbols (More limit)
      shown_cause bytes limit may h = inl (subst (λ (b : List ℕ). first_cause job b (More limit)) (the_same (file_held job holds) told bytes is may) h)

      pub all_come : (made : Result Page Refusal) (result : Answer) → IsOutcomeOfJob job holds Faulted (report_of made) → IsAnsweredBy made result → Comes result (all_causes job told told_symbols)
      all_come (Ok (Whole text)) result (asked, (bytes, symbols, may, may_symbols, none)) a wanted k = absurd (none wanted (told_back bytes symbols wanted may may_symbols k))
      all_come (Ok (Evidence text limit)) result (shown, (bytes, may, h)) a wanted k =
          shown_answer text limit result (answer_of wanted) (all_have_one job told told_symbols wanted (More limit) k (shown_cause bytes limit may h)) a
      all_come (Err made) result (inl wanting) a wanted k = inr (no_memory made result (answer_of wanted) wanting a)
      all_come (Err made) result (inr (inl failed)) a wanted k = inr (failed_load made result (answer_of wanted) failed.1 a)
      all_come (Err made) result (inr (inr ((bytes, symbols, may, may_symbols, h), plain))) a wanted k =
          same_answer made result (answer_of wanted) (all_have_one job told told_symbols made wanted (told_causes bytes symbols made may may_symbols h) k) a

      -- where nothing calls for a refusal and there is no fault, the answer is Done or want of memory
      pub completes : (made : Result Page Refusal) (result : Answer) (PutFaulted : Type 0) → IsOutcomeOfJob job holds Faulted (report_of made) → IsAnsweredBy made result → (result ≡ answers.WriteFault → PutFaulted)
          → CallsForNone (all_causes job told told_symbols) → (Faulted → ⊥) → (PutFaulted → ⊥) → (result ≡ answers.Done) ⊎ (result ≡ answers.NoMemory)
      completes (Ok (Whole text)) result PutFaulted is_made (inl e) fault none unfaulted unput = inl e
      completes (Ok (Whole text)) result PutFaulted is_made (inr e) fault none unfaulted unput = absurd (unput (fault e))
      completes (Ok (Evidence text limit)) result PutFaulted (shown, (bytes, may, h)) a fault none unfaulted unput = absurd (none (More limit) (shown_cause bytes limit may h))
      completes (Err made) result PutFaulted (inl wanting) (inl e) fault none unfaulted unput = inr (e ∙ ap answer_of wanting)
      completes (Err made) result PutFaulted (inl wanting) (inr e) fault none unfaulted unput = inr e
      completes (Err made) result PutFaulted (inr (inl failed)) a fault none unfaulted unput = absurd (unfaulted failed.0)
      completes (Err made) result PutFaulted (inr (inr ((bytes, symbols, may, may_symbols, h), plain))) a fault none unfaulted unput = absurd (none made (told_causes bytes symbols made may may_symbols h))

-- ---- of the words
module _ (holds : List ℕ → Option (List ℕ)) (Faulted PutFaulted Stays : Type 0) (given given' : Option (List ℕ)) where
  pub first_of : (job : Result Job ℕ) (made : Result Page Refusal) (result : Answer) → IsOutcomeOfWords job holds Faulted made → IsDelivered made given given' PutFaulted Stays result
      → IfOk job (λ j. IfSome (file_held j holds) (λ bytes. Comes result (first_cause j bytes)))
  first_of (Err word) made result is_made delivered = tt
  first_of (Ok j) made result is_made delivered =
      all_told (file_held j holds) (λ bytes. Comes result (first_cause j bytes))
      (λ told is. first_comes j holds Faulted told is made result is_made (answered made given given' PutFaulted Stays result delivered))

  pub all_of : (job : Result Job ℕ) (made : Result Page Refusal) (result : Answer) → IsOutcomeOfWords job holds Faulted made → IsDelivered made given given' PutFaulted Stays result
      → IfOk job (λ j. IfSome (file_held j holds) (λ bytes. IfSome (symbols_held j holds) (λ symbols. Comes result (all_causes j bytes symbols))))
  all_of (Err word) made result is_made delivered = tt
  all_of (Ok j) made result is_made delivered =
      all_told (file_held j holds) (λ bytes. IfSome (symbols_held j holds) (λ symbols. Comes result (all_causes j bytes symbols)))
      (λ told is. all_told (symbols_held j holds) (λ symbols. Comes result (all_causes j told symbols))
      (λ symbols symbols_is. all_come j holds Faulted told is symbols symbols_is made result is_made (answered made given given' PutFaulted Stays result delivered)))

  -- a failed put had a fault
  put_fault : (made : Result Page Refusal) (refusal : Refusal) → answer_of refusal ≡ answers.WriteFault → IsRefusedWith made given given' PutFaulted refusal → ((wrong : Refusal) → made ≡ Err wrong → answer_of wrong ≢ answers.WriteFault) → PutFaulted
  put_fault (Ok (Whole text)) refusal e (unwritable, (front, same, some, put, fault)) none = fault
  put_fault (Ok (Evidence text limit)) refusal e (inl shown) none = absurd (let f : answers.More ≡ answers.WriteFault = sym (ap answer_of shown.0) ∙ e in cc)
  put_fault (Ok (Evidence text limit)) refusal e (inr (inl (unwritable, (front, same, some, put, fault)))) none = fault
  put_fault (Ok (Evidence text limit)) refusal e (inr (inr wanting)) none = absurd (let f : answers.NoMemory ≡ answers.WriteFault = sym (ap answer_of wanting) ∙ e in cc)
  put_fault (Err made) refusal e (inl same) none = absurd (none made refl (ap answer_of (sym same) ∙ e))
  put_fault (Err made) refusal e (inr wanting) none = absurd (let f : answers.NoMemory ≡ answers.WriteFault = sym (ap answer_of wanting) ∙ e in cc)

  -- a job that is refused is refused with none of the other answers
  undone_otherwise : (j : Job) (refusal : Refusal) (other : Answer) → answers.NoMemory ≢ other → answers.ReadFault ≢ other → (IsPlain other → ⊥) → IsUndone j holds Faulted refusal → answer_of refusal ≢ other
  undone_otherwise j refusal other memory reading plain (inl wanting) e = memory (sym (ap answer_of wanting) ∙ e)
  undone_otherwise j refusal other memory reading plain (inr (inl (fault, inl file))) e = reading (sym (ap answer_of file.1) ∙ e)
  undone_otherwise j refusal other memory reading plain (inr (inl (fault, inr symbols))) e = reading (sym (ap answer_of symbols.1) ∙ e)
  undone_otherwise j refusal other memory reading plain (inr (inr called)) e = plain (subst IsPlain e called.1)

  -- and where a load failed, a count rose
  undone_read : (j : Job) (refusal : Refusal) → IsUndone j holds Faulted refusal → answer_of refusal ≡ answers.ReadFault → Faulted
  undone_read j refusal (inl wanting) e = absurd (let f : answers.NoMemory ≡ answers.ReadFault = sym (ap answer_of wanting) ∙ e in cc)
  undone_read j refusal (inr (inl failed)) e = failed.0
  undone_read j refusal (inr (inr called)) e = absurd (subst IsPlain e called.1)

  never_unwritable : (job : Result Job ℕ) (made : Result Page Refusal) → IsOutcomeOfWords job holds Faulted made → (wrong : Refusal) → made ≡ Err wrong → answer_of wrong ≢ answers.WriteFault
  never_unwritable (Ok j) (Ok report) is_made wrong is = absurd (cc)
  never_unwritable (Ok j) (Err refusal) is_made wrong is =
      let same : refusal ≡ wrong = cc in
      λ e. undone_otherwise j refusal answers.WriteFault (λ f. cc) (λ f. cc) (λ plain. plain) is_made (ap answer_of same ∙ e)
  never_unwritable (Err word) (Ok report) is_made wrong is = absurd is_made
  never_unwritable (Err word) (Err refusal) (inl wanting) wrong is =
      let same : wrong ≡ NoMemory = let back : refusal ≡ wrong = cc in sym back ∙ wanting in
      λ e. absurd (let f : answers.NoMemory ≡ answers.WriteFault = sym (ap answer_of same) ∙ e in cc)
  never_unwritable (Err word) (Err refusal) (inr usage) wrong is =
      let same : wrong ≡ Usage word = let back : refusal ≡ wrong = cc in sym back ∙ usage in
      λ e. absurd (let f : answers.Usage ≡ answers.WriteFault = sym (ap answer_of same) ∙ e in cc)

  pub write_faults : (job : Result Job ℕ) (made : Result Page Refusal) (result : Answer) → IsOutcomeOfWords job holds Faulted made → IsDelivered made given given' PutFaulted Stays result → result ≡ answers.WriteFault → PutFaulted
  write_faults job made result is_made delivered e =
      let (refusal, is, with_it) = delivered.refused (λ done. let f : answers.WriteFault ≡ answers.Done = sym e ∙ done in cc) in
      put_fault made refusal (is ∙ e) with_it (never_unwritable job made is_made)

  read_with : (job : Result Job ℕ) (made : Result Page Refusal) (refusal : Refusal) → answer_of refusal ≡ answers.ReadFault → IsOutcomeOfWords job holds Faulted made → IsRefusedWith made given given' PutFaulted refusal → Faulted
  read_with (Ok j) (Ok (Whole text)) refusal e is_made with_it = absurd (let f : answers.WriteFault ≡ answers.ReadFault = sym (ap answer_of with_it.0) ∙ e in cc)
  read_with (Ok j) (Ok (Evidence text limit)) refusal e is_made (inl shown) = absurd (let f : answers.More ≡ answers.ReadFault = sym (ap answer_of shown.0) ∙ e in cc)
  read_with (Ok j) (Ok (Evidence text limit)) refusal e is_made (inr (inl cut)) = absurd (let f : answers.WriteFault ≡ answers.ReadFault = sym (ap answer_of cut.0) ∙ e in cc)
  read_with (Ok j) (Ok (Evidence text limit)) refusal e is_made (inr (inr wanting)) = absurd (let f : answers.NoMemory ≡ answers.ReadFault = sym (ap answer_of wanting) ∙ e in cc)
  read_with (Ok j) (Err made) refusal e is_made (inl same) = undone_read j made is_made (ap answer_of (sym same) ∙ e)
  read_with (Ok j) (Err made) refusal e is_made (inr wanting) = absurd (let f : answers.NoMemory ≡ answers.ReadFault = sym (ap answer_of wanting) ∙ e in cc)
  read_with (Err word) (Ok report) refusal e is_made with_it = absurd is_made
  read_with (Err word) (Err made) refusal e (inl wanting) (inl same) = absurd (let f : answers.NoMemory ≡ answers.ReadFault = sym (ap answer_of (same ∙ wanting)) ∙ e in cc)
  read_with (Err word) (Err made) refusal e (inr usage) (inl same) = absurd (let f : answers.Usage ≡ answers.ReadFault = sym (ap answer_of (same ∙ usage)) ∙ e in cc)
  read_with (Err word) (Err made) refusal e is_made (inr wanting) = absurd (let f : answers.NoMemory ≡ answers.ReadFault = sym (ap answer_of wanting) ∙ e in cc)

  pub read_faults : (job : Result Job ℕ) (made : Result Page Refusal) (result : Answer) → IsOutcomeOfWords job holds Faulted made → IsDelivered made given given' PutFaulted Stays result → result ≡ answers.ReadFault → Faulted
  read_faults job made result is_made delivered e =
      let (refusal, is, with_it) = delivered.refused (λ done. let f : answers.ReadFault ≡ answers.Done = sym e ∙ done in cc) in
      read_with job made refusal (is ∙ e) is_made with_it

  pub complete_of : (job : Result Job ℕ) (made : Result Page Refusal) (result : Answer) → IsOutcomeOfWords job holds Faulted made → IsDelivered made given given' PutFaulted Stays result
      → IfOk job (λ j. IfSome (file_held j holds) (λ bytes. IfSome (symbols_held j holds) (λ symbols. CallsForNone (all_causes j bytes symbols) → (Faulted → ⊥) → (PutFaulted → ⊥) → (result ≡ answers.Done) ⊎ (result ≡ answers.NoMemory))))
  complete_of (Err word) made result is_made delivered = tt
  complete_of (Ok j) made result is_made delivered =
      all_told (file_held j holds)
      (λ bytes. IfSome (symbols_held j holds) (λ symbols. CallsForNone (all_causes j bytes symbols) → (Faulted → ⊥) → (PutFaulted → ⊥) → (result ≡ answers.Done) ⊎ (result ≡ answers.NoMemory)))
      (λ told is. all_told (symbols_held j holds)
      (λ symbols. CallsForNone (all_causes j told symbols) → (Faulted → ⊥) → (PutFaulted → ⊥) → (result ≡ answers.Done) ⊎ (result ≡ answers.NoMemory))
      (λ symbols symbols_is. completes j holds Faulted told is symbols symbols_is made result PutFaulted is_made (answered made given given' PutFaulted Stays result delivered) (write_faults (Ok j) made result is_made delivered)))

  -- ---- the refusal that is answered
  shown_refusal : (j : Job) (bytes : List ℕ) (limit : ℕ) → MayBe (file_held j holds) bytes → first_cause j bytes (More limit) → IsRefusalOfJob j holds Faulted (More limit)
  shown_refusal j bytes limit may h = let (symbols, may_symbols) = some_bytes (symbols_held j holds) in inr (inr (bytes, symbols, may, may_symbols, inl h))

  refusal_of_undone : (j : Job) (refusal : Refusal) → IsUndone j holds Faulted refusal → IsRefusalOfJob j holds Faulted refusal
  refusal_of_undone j refusal (inl wanting) = inl wanting
  refusal_of_undone j refusal (inr (inl failed)) = inr (inl failed)
  refusal_of_undone j refusal (inr (inr called)) = inr (inr called.0)

  pub refused_of : (job : Result Job ℕ) (made : Result Page Refusal) (refusal : Refusal) → IsOutcomeOfWords job holds Faulted made → IsRefusedWith made given given' PutFaulted refusal → IsRefusalOfWords job holds Faulted PutFaulted refusal
  refused_of (Ok j) (Ok (Whole text)) refusal is_made (unwritable, (front, same, some, put, fault)) = inr (unwritable, fault)
  refused_of (Ok j) (Ok (Evidence text limit)) refusal (shown, (bytes, may, h)) (inl more) =
      inl (subst (IsRefusalOfJob j holds Faulted) (sym more.0) (shown_refusal j bytes limit may h))
  refused_of (Ok j) (Ok (Evidence text limit)) refusal is_made (inr (inl (unwritable, (front, same, some, put, fault)))) = inr (unwritable, fault)
  refused_of (Ok j) (Ok (Evidence text limit)) refusal is_made (inr (inr wanting)) = inl (inl wanting)
  refused_of (Ok j) (Err made) refusal is_made (inl same) = inl (subst (IsRefusalOfJob j holds Faulted) (sym same) (refusal_of_undone j made is_made))
  refused_of (Ok j) (Err made) refusal is_made (inr wanting) = inl (inl wanting)
  refused_of (Err word) (Ok report) refusal is_made with_it = absurd is_made
  refused_of (Err word) (Err made) refusal (inl wanting) (inl same) = inl (same ∙ wanting)
  refused_of (Err word) (Err made) refusal (inr usage) (inl same) = inr (same ∙ usage)
  refused_of (Err word) (Err made) refusal is_made (inr wanting) = inl wanting

  -- refused words are answered as such
  usage_of : (job : Result Job ℕ) (made : Result Page Refusal) (result : Answer) → IsOutcomeOfWords job holds Faulted made → IsDelivered made given given' PutFaulted Stays result → (word : ℕ) → job ≡ Err word → (result ≡ answers.Usage) ⊎ (result ≡ answers.NoMemory)
  usage_of (Ok j) made result is_made delivered word is = absurd (cc)
  usage_of (Err first) (Ok report) result is_made delivered word is = absurd is_made
  usage_of (Err first) (Err refusal) result (inl wanting) delivered word is =
      elim (answered (Err refusal) given given' PutFaulted Stays result delivered) [ inl e ↦ inr (e ∙ ap answer_of wanting) | inr e ↦ inr e ]
  usage_of (Err first) (Err refusal) result (inr usage) delivered word is =
      elim (answered (Err refusal) given given' PutFaulted Stays result delivered) [ inl e ↦ inl (e ∙ ap answer_of usage) | inr e ↦ inr e ]

  pub usage_if_err : (job : Result Job ℕ) (made : Result Page Refusal) (result : Answer) → IsOutcomeOfWords job holds Faulted made → IsDelivered made given given' PutFaulted Stays result → IsErr job → (result ≡ answers.Usage) ⊎ (result ≡ answers.NoMemory)
  usage_if_err (Ok j) made result is_made delivered err = absurd (cc)
  usage_if_err (Err word) made result is_made delivered err = usage_of (Err word) made result is_made delivered word refl

  -- ---- texts
  asked_of : (job : Result Job ℕ) (made : Result Page Refusal) → IsOutcomeOfWords job holds Faulted made → IsDone made given given' Stays → IfOk job (λ j. (text : List ℕ) × IsAsked j holds text × Appends given text given' × (text ≡ [] → Stays))
  asked_of (Ok j) (Ok (Whole text)) is_made put = (text, is_made.0, put.0, put.1)
  asked_of (Ok j) (Ok (Evidence text limit)) is_made put = absurd put
  asked_of (Ok j) (Err refusal) is_made put = absurd put
  asked_of (Err word) made is_made put = tt

  pub text_of : (job : Result Job ℕ) (made : Result Page Refusal) (result : Answer) → IsOutcomeOfWords job holds Faulted made → IsDelivered made given given' PutFaulted Stays result → result ≡ answers.Done → IfOk job (λ j. (text : List ℕ) × IsAsked j holds text × Appends given text given' × (text ≡ [] → Stays))
  text_of job made result is_made delivered e = asked_of job made is_made (delivered.done e)

  shown_of : (job : Result Job ℕ) (made : Result Page Refusal) (refusal : Refusal) → answer_of refusal ≡ answers.More → IsOutcomeOfWords job holds Faulted made → IsRefusedWith made given given' PutFaulted refusal → IfOk job (λ j. (text : List ℕ) × IsEvidence j holds text × Appends given text given')
  shown_of (Ok j) (Ok (Whole text)) refusal e is_made with_it = absurd (let f : answers.WriteFault ≡ answers.More = sym (ap answer_of with_it.0) ∙ e in cc)
  shown_of (Ok j) (Ok (Evidence text limit)) refusal e is_made (inl shown) = (text, is_made.0, shown.1)
  shown_of (Ok j) (Ok (Evidence text limit)) refusal e is_made (inr (inl cut)) = absurd (let f : answers.WriteFault ≡ answers.More = sym (ap answer_of cut.0) ∙ e in cc)
  shown_of (Ok j) (Ok (Evidence text limit)) refusal e is_made (inr (inr wanting)) = absurd (let f : answers.NoMemory ≡ answers.More = sym (ap answer_of wanting) ∙ e in cc)
  shown_of (Ok j) (Err made) refusal e is_made (inl same) = absurd (undone_otherwise j made answers.More (λ f. cc) (λ f. cc) (λ plain. plain) is_made (ap answer_of (sym same) ∙ e))
  shown_of (Ok j) (Err made) refusal e is_made (inr wanting) = absurd (let f : answers.NoMemory ≡ answers.More = sym (ap answer_of wanting) ∙ e in cc)
  shown_of (Err word) made refusal e is_made with_it = tt

  pub evidence_of : (job : Result Job ℕ) (made : Result Page Refusal) (result : Answer) → IsOutcomeOfWords job holds Faulted made → IsDelivered made given given' PutFaulted Stays result → result ≡ answers.More → IfOk job (λ j. (text : List ℕ) × IsEvidence j holds text × Appends given text given')
  evidence_of job made result is_made delivered e =
      let (refusal, is, with_it) = delivered.refused (λ done. let f : answers.More ≡ answers.Done = sym e ∙ done in cc) in
      shown_of job made refusal (is ∙ e) is_made with_it

  cut_of : (job : Result Job ℕ) (made : Result Page Refusal) (refusal : Refusal) → answer_of refusal ≡ answers.WriteFault → IsOutcomeOfWords job holds Faulted made → IsRefusedWith made given given' PutFaulted refusal
      → IfOk job (λ j. (text : List ℕ) × (text ≢ []) × IsAskedOrShown j holds text × AppendsFront given text given')
  cut_of (Ok j) (Ok (Whole text)) refusal e is_made (unwritable, (front, same, some, put, fault)) =
      (front, some, inl (subst (IsAsked j holds) (sym same) is_made.0), put)
  cut_of (Ok j) (Ok (Evidence text limit)) refusal e is_made (inl shown) = absurd (let f : answers.More ≡ answers.WriteFault = sym (ap answer_of shown.0) ∙ e in cc)
  cut_of (Ok j) (Ok (Evidence text limit)) refusal e is_made (inr (inl (unwritable, (front, same, some, put, fault)))) =
      (front, some, inr (subst (IsEvidence j holds) (sym same) is_made.0), put)
  cut_of (Ok j) (Ok (Evidence text limit)) refusal e is_made (inr (inr wanting)) = absurd (let f : answers.NoMemory ≡ answers.WriteFault = sym (ap answer_of wanting) ∙ e in cc)
  cut_of (Ok j) (Err made) refusal e is_made with_it = absurd (elim with_it [ inl same ↦ undone_otherwise j made answers.WriteFault (λ f. cc) (λ f. cc) (λ plain. plain) is_made (ap answer_of (sym same) ∙ e) | inr wanting ↦ let f : answers.NoMemory ≡ answers.WriteFault = sym (ap answer_of wanting) ∙ e in cc ])
  cut_of (Err word) made refusal e is_made with_it = tt

  pub front_of : (job : Result Job ℕ) (made : Result Page Refusal) (result : Answer) → IsOutcomeOfWords job holds Faulted made → IsDelivered made given given' PutFaulted Stays result → result ≡ answers.WriteFault
      → IfOk job (λ j. (text : List ℕ) × (text ≢ []) × IsAskedOrShown j holds text × AppendsFront given text given')
  front_of job made result is_made delivered e =
      let (refusal, is, with_it) = delivered.refused (λ done. let f : answers.WriteFault ≡ answers.Done = sym e ∙ done in cc) in
      cut_of job made refusal (is ∙ e) is_made with_it
