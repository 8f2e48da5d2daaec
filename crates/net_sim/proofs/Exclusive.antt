-- A run has one text, a refusal one cause, and there is never both.
use Rattle.std.proofs.Common.{◌≡◌, ℕ, zero, suc, ◌⊎◌, inl, inr, Bool, true, false, not, cond, List, [], ◌∷◌, Option, Some, None, Result, Ok, Err, IfErr, IfOk, IsSome, MatchResult, is_some, option_map, length, filter, map, slice_get, refl, sym, ◌∙◌, ap, subst, arith}
use Rattle.std.specs.List.{AllZip}
use Rattle.std.proofs.lemmas.Bool.{cases_lt, cases_eq, false≢true}
use Rattle.std.proofs.lemmas.Option.{none-some, same_Some, slice_get-map}
use Rattle.hs_io.specs.declared.lines.Line.{Line}
use Rattle.hs_io.specs.Lines.{is_skipped, lines_of}
use Rattle.net_core.specs.declared.Latch.{Latch}
use Rattle.net_core.specs.declared.Network.{Network}
use Rattle.net_core.specs.Step.{AreStarts, NetAnswers, bit_of_start}
use Rattle.net_core.specs.Laws.Determined.{same_answers}
use Rattle.net_sim.specs.declared.causes.SimFail.{SimFail}
use Rattle.net_sim.specs.declared.causes.SimFail.TheVariants.{BadStart, UnknownStart, BadSymbol, NoMemory}
use Rattle.net_sim.specs.BitTexts.{IsBitText, text_of_bits, character_of}
use Rattle.net_sim.specs.Symbols.{IsFirstRefused, SaysSymbol, SayWord}
use Rattle.net_sim.specs.Starts.{IsFirstUnknown, IsStart}
use Rattle.net_sim.specs.Run.{IsRunCause, IsOfInput, IsRun, answers_text}

character_once : (bit other : Bool) → character_of bit ≡ character_of other → bit ≡ other
character_once true true e = refl
character_once true false e = absurd (omega (arith, e))
character_once false true e = absurd (omega (arith, e))
character_once false false e = refl

characters_once : (bits others : List Bool) → map character_of bits ≡ map character_of others → bits ≡ others
characters_once [] [] e = refl
characters_once [] (o ∷ os) e = cc
characters_once (b ∷ bs) [] e = cc
characters_once (b ∷ bs) (o ∷ os) e =
    let first : character_of b ≡ character_of o = cc in
    let more : map character_of bs ≡ map character_of os = cc in
    ap (λ x. x ∷ bs) (character_once b o first) ∙ ap (λ xs. o ∷ xs) (characters_once bs os more)

-- a text is of one list of so many bits
pub bit_text_once : (bits others : List Bool) → length bits ≡ length others → text_of_bits bits ≡ text_of_bits others → bits ≡ others
bit_text_once [] [] long e = refl
bit_text_once [] (o ∷ os) long e = absurd (omega arith)
bit_text_once (b ∷ bs) [] long e = absurd (omega arith)
bit_text_once (b ∷ bs) (o ∷ os) long e = characters_once (b ∷ bs) (o ∷ os) e

some_once : (bits others : List Bool) → map Some bits ≡ map Some others → bits ≡ others
some_once [] [] e = refl
some_once [] (o ∷ os) e = cc
some_once (b ∷ bs) [] e = cc
some_once (b ∷ bs) (o ∷ os) e =
    let first : b ≡ o = cc in
    let more : map Some bs ≡ map Some os = cc in
    ap (λ x. x ∷ bs) first ∙ ap (λ xs. o ∷ xs) (some_once bs os more)

-- a network has one start
start_once : (N : Network) (start : Option (List ℕ)) (state other : List Bool) → IsStart N start state → IsStart N start other → state ≡ other
start_once N None state other is is' = some_once state other (sym is ∙ is')
start_once N (Some text) state other is is' = bit_text_once state other (is.as_many ∙ sym is'.as_many) (sym is.is ∙ is'.is)

-- lines say one word
pub word_once : (width : ℕ) (lines : List Line) (word other : List (List Bool)) → AllZip (SaysSymbol width) lines word → AllZip (SaysSymbol width) lines other → word ≡ other
word_once width [] [] [] zip zip' = refl
word_once width [] [] (y ∷ ys) zip zip' = absurd zip'
word_once width [] (x ∷ xs) other zip zip' = absurd zip
word_once width (l ∷ ls) [] other zip zip' = absurd zip
word_once width (l ∷ ls) (x ∷ xs) [] zip zip' = absurd zip'
word_once width (l ∷ ls) (x ∷ xs) (y ∷ ys) (says, zip) (says', zip') =
    let fields : text_of_bits x ∷ [] ≡ text_of_bits y ∷ [] = sym says.field ∙ says'.field in
    let texts : text_of_bits x ≡ text_of_bits y = cc in
    let one : x ≡ y = bit_text_once x y (says.as_wide ∙ sym says'.as_wide) texts in
    ap (λ s. s ∷ xs) one ∙ ap (λ w. y ∷ w) (word_once width ls xs ys zip zip')

-- there is one text
pub run_once : (N : Network) (start : Option (List ℕ)) (symbols text other : List ℕ) → IsRun N start symbols text → IsRun N start symbols other → text ≡ other
run_once N start symbols text other r r' =
    let state : r'.state ≡ r.state = start_once N start r'.state r.state r'.begins r.begins in
    let word : r'.word ≡ r.word = word_once (length N.inputs) (filter (λ l. not (is_skipped l)) (lines_of symbols)) r'.word r.word r'.reads r.reads in
    let answered : NetAnswers N r.state r.word r'.answers =
    subst (λ w. NetAnswers N r.state w r'.answers) word (subst (λ s. NetAnswers N s r'.word r'.answers) state r'.answered) in
    r.is ∙ (ap answers_text (same_answers N r.state r.word r.answers r'.answers r.answered answered) ∙ sym r'.is)

head_says : {A B : Type 0} (R : A → B → Type 0) (x : A) (xs : List A) (ys : List B) → AllZip R (x ∷ xs) ys → (y : B) × R x y
head_says R x xs [] zip = absurd zip
head_says R x xs (y ∷ ys) (here, zip) = (y, here)

tail_says : {A B : Type 0} (R : A → B → Type 0) (x : A) (xs : List A) (ys : List B) → AllZip R (x ∷ xs) ys → (more : List B) × AllZip R xs more
tail_says R x xs [] zip = absurd zip
tail_says R x xs (y ∷ ys) (here, zip) = (ys, zip)

-- a line among these that is not skipped says a symbol
says_some : (width : ℕ) (lines : List Line) (word : List (List Bool)) (place : ℕ) (line : Line) → SayWord width lines word → slice_get lines place ≡ Some line → is_skipped line ≡ false → (symbol : List Bool) × SaysSymbol width line symbol
says_some width [] word place line says at said = absurd (none-some line at)
says_some width (l ∷ ls) word zero line says at said =
    let rest : List Line = filter (λ m. not (is_skipped m)) ls in
    let same : l ≡ line = same_Some l line at in
    let is : is_skipped l ≡ false = ap is_skipped same ∙ said in
    let zip : AllZip (SaysSymbol width) (l ∷ rest) word = subst (λ b. AllZip (SaysSymbol width) (cond (not b) (l ∷ rest) rest) word) is says in
    let (symbol, here) = head_says (SaysSymbol width) l rest word zip in
    (symbol, subst (λ m. SaysSymbol width m symbol) same here)
says_some width (l ∷ ls) word (suc place) line says at said =
    let rest : List Line = filter (λ m. not (is_skipped m)) ls in
    elim (is_skipped l) as (λ b. AllZip (SaysSymbol width) (cond (not b) (l ∷ rest) rest) word → (symbol : List Bool) × SaysSymbol width line symbol) [
      | true ↦ λ zip. says_some width ls word place line zip at said
      | false ↦ λ zip. let (more, zip') = tail_says (SaysSymbol width) l rest word zip in says_some width ls more place line zip' at said
    ] says

-- lines that say a word have none that is refused
pub none_refused : (width : ℕ) (lines : List Line) (word : List (List Bool)) (number : ℕ) → SayWord width lines word → IsFirstRefused width lines number → ⊥
none_refused width lines word number says first =
    let (symbol, here) = says_some width lines word first.place first.line says first.stands first.refused.said in
    first.refused.no_symbol symbol here

-- the first refused line is one
pub refused_once : (width : ℕ) (lines : List Line) (number other : ℕ) → IsFirstRefused width lines number → IsFirstRefused width lines other → number ≡ other
refused_once width lines number other a b =
    elim (cases_lt a.place b.place) [
      | inl lt ↦ absurd (b.none_before a.place a.line lt a.stands a.refused)
      | inr ge ↦ elim (cases_eq a.place b.place) [
        | inl same ↦
            let one : a.line ≡ b.line = same_Some a.line b.line (sym a.stands ∙ (ap (λ (n : ℕ). slice_get lines n) same ∙ b.stands)) in
            sym a.is ∙ (ap (λ line. line.number) one ∙ b.is)
        | inr differ ↦ absurd (a.none_before b.place b.line (omega arith) b.stands b.refused)
      ]
    ]

-- a latch whose start is known and is not
known_never : (latch : Latch) → IsSome (bit_of_start latch.start) → bit_of_start latch.start ≡ None → ⊥
known_never latch known unknown = false≢true (sym (ap is_some unknown) ∙ known)

-- the first latch whose start is not known is one
unknown_once : (latches : List Latch) (name other : List ℕ) → IsFirstUnknown latches name → IsFirstUnknown latches other → name ≡ other
unknown_once latches name other a b =
    elim (cases_lt a.place b.place) [
      | inl lt ↦ absurd (known_never a.latch (b.known_before a.place a.latch lt a.stands) a.unknown)
      | inr ge ↦ elim (cases_eq a.place b.place) [
        | inl same ↦
            let one : a.latch ≡ b.latch = same_Some a.latch b.latch (sym a.stands ∙ (ap (λ (n : ℕ). slice_get latches n) same ∙ b.stands)) in
            sym a.is ∙ (ap (λ latch. latch.output) one ∙ b.is)
        | inr differ ↦ absurd (known_never b.latch (a.known_before b.place b.latch (omega arith) b.stands) b.unknown)
      ]
    ]

-- where the starts are known, none is not
starts_known : (latches : List Latch) (bits : List Bool) (name : List ℕ) → AreStarts latches bits → IsFirstUnknown latches name → ⊥
starts_known latches bits name are first =
    let start : Latch → Option Bool = λ latch. bit_of_start latch.start in
    let unknown : slice_get (map start latches) first.place ≡ Some None =
    slice_get-map start latches first.place ∙ (ap (option_map start) first.stands ∙ ap Some first.unknown) in
    let known : option_map Some (slice_get bits first.place) ≡ Some None =
    sym (slice_get-map Some bits first.place) ∙ (ap (λ list. slice_get list first.place) (sym are) ∙ unknown) in
    elim (slice_get bits first.place) as (λ (o : Option Bool). option_map Some o ≡ Some None → ⊥) [
      | None ↦ λ e. none-some None e
      | Some bit ↦ λ e. cc
    ] known

-- where there is a start, nothing tells of it
pub start_none : (N : Network) (start : Option (List ℕ)) (state : List Bool) (symbols : List ℕ) → IsStart N start state → (IsRunCause N start symbols BadStart → ⊥) × ((latch : List ℕ) → IsRunCause N start symbols (UnknownStart latch) → ⊥)
start_none N None state symbols is = (λ (text, same, none). none-some text same, λ latch (same, first). starts_known N.latches state latch is first)
start_none N (Some text) state symbols is =
    (λ (given, same, none). none state (subst (λ t. IsBitText (length N.latches) t state) (same_Some text given same) is), λ latch (same, first). none-some text (sym same))

-- a run has no cause of a refusal
pub never_both : (N : Network) (start : Option (List ℕ)) (symbols text : List ℕ) (fail : SimFail) → IsOfInput fail → IsRun N start symbols text → IsRunCause N start symbols fail → ⊥
never_both N start symbols text BadStart of_input ran cause = (start_none N start ran.state symbols ran.begins).0 cause
never_both N start symbols text (UnknownStart latch) of_input ran cause = (start_none N start ran.state symbols ran.begins).1 latch cause
never_both N start symbols text (BadSymbol line) of_input ran (state, begins, fault) =
    none_refused (length N.inputs) (lines_of symbols) ran.word line ran.reads fault
never_both N start symbols text NoMemory of_input ran cause = absurd of_input

-- a refusal has one cause
pub cause_once : (N : Network) (start : Option (List ℕ)) (symbols : List ℕ) (fail other : SimFail) → IsOfInput fail → IsOfInput other → IsRunCause N start symbols fail → IsRunCause N start symbols other → fail ≡ other
cause_once N start symbols NoMemory other of_input of_input' cause cause' = absurd of_input
cause_once N start symbols BadStart NoMemory of_input of_input' cause cause' = absurd of_input'
cause_once N start symbols BadStart BadStart of_input of_input' cause cause' = refl
cause_once N start symbols BadStart (UnknownStart latch) of_input of_input' (text, given, none) (missing, first) = absurd (none-some text (sym missing ∙ given))
cause_once N start symbols BadStart (BadSymbol line) of_input of_input' cause (state, begins, fault) = absurd ((start_none N start state symbols begins).0 cause)
cause_once N start symbols (UnknownStart latch) NoMemory of_input of_input' cause cause' = absurd of_input'
cause_once N start symbols (UnknownStart latch) BadStart of_input of_input' (missing, first) (text, given, none) = absurd (none-some text (sym missing ∙ given))
cause_once N start symbols (UnknownStart latch) (UnknownStart latch') of_input of_input' (missing, first) (missing', first') = ap UnknownStart (unknown_once N.latches latch latch' first first')
cause_once N start symbols (UnknownStart latch) (BadSymbol line) of_input of_input' cause (state, begins, fault) = absurd ((start_none N start state symbols begins).1 latch cause)
cause_once N start symbols (BadSymbol line) NoMemory of_input of_input' cause cause' = absurd of_input'
cause_once N start symbols (BadSymbol line) BadStart of_input of_input' (state, begins, fault) cause' = absurd ((start_none N start state symbols begins).0 cause')
cause_once N start symbols (BadSymbol line) (UnknownStart latch) of_input of_input' (state, begins, fault) cause' = absurd ((start_none N start state symbols begins).1 latch cause')
cause_once N start symbols (BadSymbol line) (BadSymbol line') of_input of_input' (state, begins, fault) (state', begins', fault') = ap BadSymbol (refused_once (length N.inputs) (lines_of symbols) line line' fault fault')

module _ {T : Type 0} (items : T → List ℕ) (N : Network) (start : Option (List ℕ)) (symbols : List ℕ) where
  -- where there is a run, nothing else is answered but want of memory
  pub run_answered : (r : Result T SimFail) → IfOk r (λ v. IsRun N start symbols (items v)) → IfErr r (IsRunCause N start symbols) → (text : List ℕ) → IsRun N start symbols text → MatchResult r (λ v. items v ≡ text) (λ fail. fail ≡ NoMemory)
  run_answered (Ok v) ran cause text is = run_once N start symbols (items v) text ran is
  run_answered (Err BadStart) ran cause text is = absurd (never_both N start symbols text BadStart tt is cause)
  run_answered (Err (UnknownStart latch)) ran cause text is = absurd (never_both N start symbols text (UnknownStart latch) tt is cause)
  run_answered (Err (BadSymbol line)) ran cause text is = absurd (never_both N start symbols text (BadSymbol line) tt is cause)
  run_answered (Err NoMemory) ran cause text is = refl

  -- where there is a cause, it is answered, or want of memory
  pub cause_answered : (r : Result T SimFail) → IfOk r (λ v. IsRun N start symbols (items v)) → IfErr r (IsRunCause N start symbols) → (fail : SimFail) → IsOfInput fail → IsRunCause N start symbols fail → MatchResult r (λ v. ⊥) (λ told. (told ≡ fail) ⊎ (told ≡ NoMemory))
  cause_answered (Ok v) ran cause fail of_input is = never_both N start symbols (items v) fail of_input ran is
  cause_answered (Err BadStart) ran cause fail of_input is = inl (cause_once N start symbols BadStart fail tt of_input cause is)
  cause_answered (Err (UnknownStart latch)) ran cause fail of_input is = inl (cause_once N start symbols (UnknownStart latch) fail tt of_input cause is)
  cause_answered (Err (BadSymbol line)) ran cause fail of_input is = inl (cause_once N start symbols (BadSymbol line) fail tt of_input cause is)
  cause_answered (Err NoMemory) ran cause fail of_input is = inr refl
