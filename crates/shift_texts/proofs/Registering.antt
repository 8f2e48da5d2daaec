-- The register of the work machine, its names, and what it answers.
use Rattle.std.proofs.Common.{◌≡◌, ◌*◌, ℕ, All, Bool, List, length, refl, sym, ap, ◌∙◌, subst, arith}
use Rattle.answers.specs.Cause.{CallsForNone}
use Rattle.blif_out.specs.declared.networks.CommentedNetwork.{CommentedNetwork}
use Rattle.blif_out.specs.NetworkText.{CanBeWritten, CanBeText}
use Rattle.state_reduce.specs.declared.work.WorkMachine.{WorkMachine}
use Rattle.state_reduce.specs.Work.{IsWork}
use Rattle.decomposition.specs.Laws.Carrying.{IsImage, image_of}
use Rattle.decomposition.specs.Laws.Writable.{AreSignalNames, file_names}
use Rattle.kiss_file.specs.declared.file.KissFile.{KissFile}
use Rattle.kiss_file.specs.LawfulFile.{IsLawful}
use Rattle.kiss_file.specs.Machine.{Conflicting, answers}
use Rattle.net_core.specs.declared.Network.{Network}
use Rattle.net_core.specs.declared.SignalNames.{SignalNames}
use Rattle.net_core.specs.SoundNetwork.{Sound}
use Rattle.net_core.specs.Step.{NetAnswers}
use Rattle.realise.specs.CarriedMachine.{AnswersAs}
use Rattle.realise.specs.Names.{AreNames}
use Rattle.realise.specs.Laws.Apart.{names_apart}
use Rattle.shift_real.specs.DefiniteMachine.{IsOrder}
use Rattle.shift_real.specs.Register.{HasShortOrder, IsNotReached}
use Rattle.shift_real.specs.ShiftNetwork.{AreNamesFor, IsRegister, StepsAlong}
use Rattle.shift_real.specs.Laws.StartContent.{order_once}
use Rattle.state_reduce.proofs.Working.{classes_answer_alike}
use Rattle.shift_texts.specs.Causes.{HasNoShortOrder, NeverInReset, RefusesShift}
use Rattle.shift_texts.specs.Inner.Registers.{IsRegisterOf}
use Rattle.shift_texts.specs.declared.registers.OrderedRegister.{OrderedRegister}
use Rattle.shift_texts.specs.ShiftText.{IsOrderedRegister, IsShiftNetwork, with_comments}
use Rattle.shift_texts.proofs.Commenting.{are_comments}
use Rattle.shift_texts.proofs.Judging.{none_called, work_of}
use Rattle.shift_texts.proofs.Writing as writing

module _ (reduce : Bool) (F : KissFile) (work : WorkMachine) (is_work : IsWork reduce F work) (lawful : IsLawful F) (no_conflict : Conflicting F → ⊥) (k : ℕ) (short : HasShortOrder work.machine k) where
  abbrev W : KissFile
  W = work.machine

  image : IsImage F W is_work.class
  image = image_of reduce F W is_work.class lawful no_conflict is_work.machine

  -- the names of the file are those for the register
  pub names_for : (names : SignalNames) → AreNames F (k * W.inputs) names → AreNamesFor W k names
  names_for names own =
      let apart = names_apart F (k * W.inputs) names lawful (omega (arith, short.short)) own in
      record {
        inputs = apart.0.inputs ∙ sym image.inputs;
        outputs = apart.0.outputs ∙ sym image.outputs;
        latch_inputs = apart.0.latch_inputs;
        latch_outputs = apart.0.latch_outputs;
        distinct = apart.1;
      }

  -- a register is one whose start content ends in the reset state
  module _ (names : SignalNames) (own : AreNames F (k * W.inputs) names) (N : Network) (register : (j : ℕ) → IsOrder W j → IsRegister W j names N) where
    is_register : IsRegister W k names N
    is_register = register k short.order

    reached : CallsForNone (NeverInReset W)
    reached refusal (j, reset, is, other, none, named) =
        let start = is_register.starts in
        subst (IsNotReached W) (order_once W j k other short.order) none start.0 start.1.content start.1.reset

    pub made_is : Sound N → ((j : ℕ) → IsOrder W j → StepsAlong W j N) → AnswersAs W N → CallsForNone (NeverInReset W) × IsRegisterOf F W k N
    made_is sound steps follows = (
      reached,
      record { names = names; own = own; register = is_register; sound = sound; steps = steps k short.order; answers = follows },
    )

  -- what answers as the work machine answers as the machine of the file
  pub answers_file : (N : Network) → AnswersAs W N → AnswersAs F N
  answers_file N (starts, are, follow) = (
    starts,
    are,
    λ word symbols.
        let same : answers W W.reset word ≡ answers F F.reset word =
        ap (λ (s : ℕ). answers W s word) image.reset ∙ classes_answer_alike reduce F W is_work.class lawful no_conflict is_work.machine F.reset word lawful.reset symbols in
        subst (λ (list : List (List Bool)). NetAnswers N starts word list) same
        (follow word (subst (λ (n : ℕ). All (λ x. length x ≡ n) word) (sym image.inputs) symbols)),
  )

  module _ (N : Network) (is : IsRegisterOf F W k N) where
    signal_names : AreSignalNames is.names
    signal_names = file_names F (k * W.inputs) is.names lawful is.own

    ready : CanBeWritten N
    ready = record {
      writable = writing.writable W k is.names N signal_names (names_for is.names is.own) is.register;
      starts = writing.starts_known W k is.names N signal_names (names_for is.names is.own) is.register;
      rows = writing.rows_in_order W k is.names N signal_names (names_for is.names is.own) is.register;
      sound = is.sound;
    }

    abbrev made : OrderedRegister
    made = record { order = k; network = N }

    pub register_is : CallsForNone (HasNoShortOrder W) → CallsForNone (NeverInReset W) → CallsForNone (RefusesShift reduce F) × (CanBeText (with_comments made) × IsOrderedRegister reduce F made)
    register_is none reached = (
      none_called reduce F work is_work none reached,
      (
        record { comments = are_comments k; network = ready },
        (
          W,
          is.names,
          record {
            work = work_of reduce F work is_work;
            order = short.order;
            told = refl;
            answers = answers_file N is.answers;
            own = is.own;
            register = is.register;
            steps = is.steps;
          },
        ),
      ),
    )

-- a register with its comments is the network of a register
pub commented_is : (reduce : Bool) (F : KissFile) (register : OrderedRegister) (made : CommentedNetwork) → made ≡ with_comments register → CanBeText (with_comments register) × IsOrderedRegister reduce F register
    → CanBeText made × IsShiftNetwork reduce F made
commented_is reduce F register made same (ready, (W, names, is)) =
    subst (λ (other : CommentedNetwork). CanBeText other × IsShiftNetwork reduce F other) (sym same) (ready, (W, register.order, names, is))
