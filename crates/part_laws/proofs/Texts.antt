-- The texts of the machines of a split.
use Rattle.std.proofs.Common.{◌≡◌, ◌∙◌, ℕ, Bool, List, [], ◌∷◌, sym, ap, subst}
use Rattle.std.specs.List.{AllZip}
use Rattle.dependence.specs.declared.sets.Reads.{Reads}
use Rattle.kiss2.specs.Kiss.{Kiss}
use Rattle.kiss2.specs.KissText.{kiss_text}
use Rattle.kiss2_laws.proofs.RoundTrip.{says_again}
use Rattle.kiss_file.specs.declared.file.KissFile.{KissFile}
use Rattle.net_core.specs.declared.SignalNames.{SignalNames}
use Rattle.part_machines.specs.PartMachine.{IsPartOf}
use Rattle.part_texts.specs.PartText.{IsPartText}
use Rattle.part_texts.specs.SplitMachine.{IsSplitMachine}
use Rattle.state_codes.specs.declared.Codes.{Codes}
use Rattle.state_codes.specs.declared.split.Kind.{Kind}
use Rattle.state_codes.specs.declared.split.Part.{Part}
use Rattle.state_codes.specs.declared.which.Which.{Which}
use Rattle.state_codes.specs.declared.which.Which.TheVariants.{Part as Numbered, Outputs}
use Rattle.part_laws.specs.Parts.{AreMachinesOf}
use Rattle.part_laws.specs.Texts.{IsShortText, PartIsOne, PartIsRead, PartsAnswer}
use Rattle.part_laws.proofs.OneMachine.{machine_is_one}
use Rattle.part_laws.proofs.OneSplit.{of_same_split}
use Rattle.part_texts.specs.Laws.OneSplit.{split_is_one}
use Rattle.part_laws.proofs.Whole.{machines_answer}

-- ---- one text
pub part_is_read : PartIsRead
part_is_read kind text which reduce F written is few = record {
  said = subst (λ (bytes : List ℕ). Kiss bytes is.P) (sym is.is_text) (says_again is.P (is.lawful few));
  lawful = is.lawful few;
  specified = is.part.specified;
  no_conflict = is.part.no_conflict;
}

-- the machine of the text is one of the split
module _ (kind : Kind) (text : List ℕ) (reduce : Bool) (F W : KissFile) (parts : List Part) (code : Codes) (sets : Reads) (names : SignalNames) (of_job : IsSplitMachine kind text reduce F W parts code sets names) where
  of_split : (which : Which) (written : List ℕ) (is : IsPartText kind text which reduce F written) → IsPartOf W parts code sets names which is.P
  of_split which written is =
      of_same_split W is.W parts is.parts code is.codes sets is.sets names is.names which is.P
      (split_is_one kind text reduce F W is.W parts is.parts code is.codes sets is.sets names is.names of_job is.of_job) is.part

  -- ---- all texts
  -- the machine that a text says
  IsSaid : ℕ → List ℕ → KissFile → Type 0
  IsSaid j written M = Kiss written M × IsPartOf W parts code sets names (Numbered j) M

  -- the machines that texts say
  Said : List ℕ → List (List ℕ) → Type 0
  Said numbers texts = (machines : List KissFile) × AllZip Kiss texts machines × AllZip (λ j M. IsPartOf W parts code sets names (Numbered j) M) numbers machines

  said : (numbers : List ℕ) (texts : List (List ℕ)) → AllZip (λ j written. IsShortText kind text (Numbered j) reduce F written) numbers texts → Said numbers texts
  unfolding Said
  said [] [] all = ([], tt, tt)
  said [] (written ∷ texts) all = absurd all
  said (j ∷ numbers) [] all = absurd all
  said (j ∷ numbers) (written ∷ texts) (short, all) =
      let rest = said numbers texts all in
      let is : IsPartText kind text (Numbered j) reduce F written = short.0 in
      (is.P ∷ rest.0, ((part_is_read kind text (Numbered j) reduce F written is short.1).said, rest.1), (of_split (Numbered j) written is, rest.2))

-- where nothing is open, the machine of a part is one, so its text is
pub part_is_one : PartIsOne
part_is_one kind text which reduce F written other specified one two =
    let same : one.P ≡ two.P =
    machine_is_one reduce F one.W one.parts one.codes one.sets one.names which one.P two.P one.of_job.work one.of_job.lawful specified one.part
    (of_split kind text reduce F one.W one.parts one.codes one.sets one.names one.of_job which other two) in
    one.is_text ∙ ap kiss_text same ∙ sym two.is_text

pub parts_answer : PartsAnswer
unfolding Said
parts_answer kind text reduce F numbers texts outputs lawful no_conflict are =
    let last : IsPartText kind text Outputs reduce F outputs = are.last.0 in
    let some = said kind text reduce F last.W last.parts last.codes last.sets last.names last.of_job numbers texts are.each in
    let machines_are : AreMachinesOf last.W last.parts last.codes last.sets last.names numbers some.0 last.P = record {
      each = some.2;
      all = λ j c own. are.all j (record { W = last.W; parts = last.parts; code = last.codes; sets = last.sets; names = last.names; of_job = last.of_job; bit = c; own = own });
      outputs = last.part;
    } in
    record {
      W = last.W;
      parts = last.parts;
      code = last.codes;
      sets = last.sets;
      names = last.names;
      of_job = last.of_job;
      machines = some.0;
      each = some.1;
      Z = last.P;
      last = (part_is_read kind text Outputs reduce F outputs last are.last.1).said;
      answer =
          machines_answer kind text reduce F last.W last.parts last.codes last.sets last.names numbers some.0 last.P
          (record { lawful = lawful; no_conflict = no_conflict; split = last.of_job }) machines_are;
    }
