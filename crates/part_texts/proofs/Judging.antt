-- What a part of the job's split calls for is what the job calls for.
use Rattle.std.proofs.Common.{ℕ, Bool, List, [], ◌∷◌, Result, inl, inr, sym, subst}
use Rattle.answers.specs.declared.refusals.Refusal.{Refusal}
use Rattle.answers.specs.Cause.{CallsForNone, Cause}
use Rattle.answers.specs.Outcome.{IsJudged}
use Rattle.answers.specs.Laws.Causes.{Within, judged_within, none_first}
use Rattle.dependence.specs.declared.sets.ReadSet.{ReadSet}
use Rattle.dependence.specs.declared.sets.Reads.{Reads}
use Rattle.kiss_file.specs.declared.file.KissFile.{KissFile}
use Rattle.net_core.specs.declared.SignalNames.{SignalNames}
use Rattle.part_machines.specs.PartSet.{IsPartSet}
use Rattle.split_texts.specs.Causes.{IsNotWritten}
use Rattle.state_codes.specs.declared.Codes.{Codes}
use Rattle.state_codes.specs.declared.split.Kind.{Kind}
use Rattle.state_codes.specs.declared.split.Part.{Part}
use Rattle.state_codes.specs.declared.which.Which.{Which}
use Rattle.part_texts.specs.declared.split_machine.SplitMachine.{SplitMachine}
use Rattle.part_texts.specs.PartCauses.{HasLongName, HasManyInputs, HasNoPart, IsFirstLong, LacksBits, LacksPart, OfSplit}
use Rattle.part_texts.specs.PartText.{IsPartText}
use Rattle.part_texts.specs.SplitMachine.{IsSameSplit, IsSplitMachine}
use Rattle.part_texts.specs.Inner.PartHere.{HasNoMachine, HasNoSet, IsTextOf, all_names}
use Rattle.part_texts.specs.Laws.OneSplit.{set_once, split_is_one}

-- a cause for a refusal, of the parts, codes, read sets and names of a split
abbrev SplitCause : Type 1
SplitCause = List Part → Codes → Reads → SignalNames → Cause

module _ (kind : Kind) (text : List ℕ) (reduce : Bool) (F W : KissFile) (parts : List Part) (codes : Codes) (sets : Reads) (names : SignalNames) (of_job : IsSplitMachine kind text reduce F W parts codes sets names) where
  -- what the split calls for, the job calls for
  of_split : (cause : SplitCause) → Within (cause parts codes sets names) (OfSplit kind text reduce F cause)
  of_split cause refusal calls = record { W = W; parts = parts; codes = codes; sets = sets; names = names; of_job = of_job; calls = calls }

  moved : (cause : SplitCause) (V : KissFile) (others : List Part) (more : Codes) (reads : Reads) (signals : SignalNames) → IsSameSplit W V parts others codes more sets reads names signals
      → Within (cause others more reads signals) (cause parts codes sets names)
  moved cause V others more reads signals same refusal calls =
      subst (λ (list : SignalNames). cause parts codes sets list refusal) (sym same.names_are)
      (subst (λ (list : Reads). cause parts codes list signals refusal) (sym same.reads_are)
      (subst (λ (c : Codes). cause parts c reads signals refusal) (sym same.codes_are)
      (subst (λ (list : List Part). cause list more reads signals refusal) (sym same.parts_are) calls)))

  -- and what it does not call for, no split of the job does
  none_of_split : (cause : SplitCause) → CallsForNone (cause parts codes sets names) → CallsForNone (OfSplit kind text reduce F cause)
  none_of_split cause none refusal is =
      none refusal (moved cause is.W is.parts is.codes is.sets is.names
      (split_is_one kind text reduce F W is.W parts is.parts codes is.codes sets is.sets names is.names of_job is.of_job) refusal is.calls)

  module _ (which : Which) (written : CallsForNone (IsNotWritten kind text reduce F)) where
    abbrev lacks_part : SplitCause
    lacks_part = λ parts codes sets names. LacksPart which parts

    abbrev lacks_bits : SplitCause
    lacks_bits = λ parts codes sets names. LacksBits which codes

    abbrev many_inputs : SplitCause
    many_inputs = λ parts codes sets names. HasManyInputs which codes sets

    abbrev long_name : SplitCause
    long_name = λ parts codes sets names. HasLongName which codes sets names

    calls_for : Within (HasNoMachine which parts codes sets names) (HasNoPart kind text which reduce F)
    calls_for refusal (inl part) = inr (written, inl (of_split lacks_part refusal part))
    calls_for refusal (inr (a, inl bits)) = inr (written, inr (none_of_split lacks_part a, inl (of_split lacks_bits refusal bits)))
    calls_for refusal (inr (a, inr (b, inl inputs))) =
        inr (written, inr (none_of_split lacks_part a, inr (none_of_split lacks_bits b, inl (of_split many_inputs refusal inputs))))
    calls_for refusal (inr (a, inr (b, inr (c, inl name)))) =
        inr (written, inr (none_of_split lacks_part a, inr (none_of_split lacks_bits b, inr (none_of_split many_inputs c, inl (of_split long_name refusal name)))))
    calls_for refusal (inr (a, inr (b, inr (c, inr later)))) = absurd later.1

    none_called : CallsForNone (HasNoMachine which parts codes sets names) → CallsForNone (HasNoPart kind text which reduce F)
    none_called none =
        let a : CallsForNone (LacksPart which parts) = λ refusal h. none refusal (inl h) in
        let b : CallsForNone (LacksBits which codes) = λ refusal h. none refusal (inr (a, inl h)) in
        let c : CallsForNone (HasManyInputs which codes sets) = λ refusal h. none refusal (inr (a, inr (b, inl h))) in
        let d : CallsForNone (HasLongName which codes sets names) = λ refusal h. none refusal (inr (a, inr (b, inr (c, inl h)))) in
        none_first
        (IsNotWritten kind text reduce F
        ∷ OfSplit kind text reduce F lacks_part
        ∷ OfSplit kind text reduce F lacks_bits
        ∷ OfSplit kind text reduce F many_inputs
        ∷ OfSplit kind text reduce F long_name
        ∷ [])
        (written, (none_of_split lacks_part a, (none_of_split lacks_bits b, (none_of_split many_inputs c, (none_of_split long_name d, tt)))))

-- what comes of a part of the job's split is what comes of the job
pub judged : (kind : Kind) (text : List ℕ) (which : Which) (reduce : Bool) (F W : KissFile) (made : SplitMachine) → CallsForNone (IsNotWritten kind text reduce F)
    → IsSplitMachine kind text reduce F W made.split.parts made.codes made.reads made.names
    → {V : Type 0} (items : V → List ℕ) (result : Result V Refusal) → IsJudged (HasNoMachine which made.split.parts made.codes made.reads made.names) (λ (value : V). IsTextOf W made which (items value)) result
    → IsJudged (HasNoPart kind text which reduce F) (λ (value : V). IsPartText kind text which reduce F (items value)) result
judged kind text which reduce F W made written of_job {V = V} items result =
    judged_within (HasNoMachine which made.split.parts made.codes made.reads made.names) (HasNoPart kind text which reduce F)
    (λ (value : V). IsTextOf W made which (items value))
    (λ (value : V). IsPartText kind text which reduce F (items value))
    result
    (calls_for kind text reduce F W made.split.parts made.codes made.reads made.names of_job which written)
    (none_called kind text reduce F W made.split.parts made.codes made.reads made.names of_job which written)
    (λ value (P, is, written_is). record {
      W = W;
      parts = made.split.parts;
      codes = made.codes;
      sets = made.reads;
      names = made.names;
      P = P;
      of_job = of_job;
      part = is.part;
      lawful = is.lawful;
      is_text = written_is;
    })

-- ---- from the steps of a part to the part
module _ (which : Which) (made : SplitMachine) where
  abbrev parts : List Part
  parts = made.split.parts

  pub set_within : Within (HasNoSet which parts made.codes made.reads) (HasNoMachine which parts made.codes made.reads made.names)
  set_within refusal (inl part) = inl part
  set_within refusal (inr (a, inl bits)) = inr (a, inl bits)
  set_within refusal (inr (a, inr (b, inl inputs))) = inr (a, inr (b, inl inputs))
  set_within refusal (inr (a, inr (b, inr later))) = absurd later.1

  module _ (none : CallsForNone (HasNoSet which parts made.codes made.reads)) (set : ReadSet) (reads : IsPartSet made.codes made.reads which set) where
    no_part : CallsForNone (LacksPart which parts)
    no_part refusal h = none refusal (inl h)

    no_bits : CallsForNone (LacksBits which made.codes)
    no_bits refusal h = none refusal (inr (no_part, inl h))

    no_inputs : CallsForNone (HasManyInputs which made.codes made.reads)
    no_inputs refusal h = none refusal (inr (no_part, inr (no_bits, inl h)))

    pub long_within : Within (IsFirstLong which (all_names made set which)) (HasNoMachine which parts made.codes made.reads made.names)
    long_within refusal first = inr (no_part, inr (no_bits, inr (no_inputs, inl (set, reads, first))))

    no_name : CallsForNone (IsFirstLong which (all_names made set which)) → CallsForNone (HasLongName which made.codes made.reads made.names)
    no_name short refusal (other, others, first) =
        short refusal (subst (λ (s : ReadSet). IsFirstLong which (all_names made s which) refusal) (set_once made.codes made.reads which other set others reads) first)

    pub none_of_part : CallsForNone (IsFirstLong which (all_names made set which)) → CallsForNone (HasNoMachine which parts made.codes made.reads made.names)
    none_of_part short =
        none_first (LacksPart which parts ∷ LacksBits which made.codes ∷ HasManyInputs which made.codes made.reads ∷ HasLongName which made.codes made.reads made.names ∷ [])
        (no_part, (no_bits, (no_inputs, (no_name short, tt))))
