-- The network with its header: what is shown of a split, its codes, their network and its header, put together.
use Rattle.std.proofs.Common.{◌≡◌, ℕ, ◌<◌, ◌≤◌, Bool, All, IfSome, List, length, get_or, sym, ap, ◌∙◌, subst, arith}
use Rattle.std.proofs.lemmas.Option.{slice_get_within}
use Rattle.list_facts.specs.Laws.Places.{item_at}
use Rattle.blif_out.specs.declared.header.Header.{Header}
use Rattle.blif_out.specs.declared.header.LatchNote.{LatchNote}
use Rattle.blif_out.specs.declared.networks.HeadedNetwork.{HeadedNetwork}
use Rattle.blif_out.specs.Comments.{IsPrintable}
use Rattle.blif_out.specs.NetworkText.{CanBeWritten, CanBeHeaded}
use Rattle.blif_out.specs.Writable.{IsWritable}
use Rattle.hs_io.specs.Spelling.{ArePlainFields}
use Rattle.kiss_file.specs.declared.file.KissFile.{KissFile}
use Rattle.kiss_file.specs.LawfulFile.{IsLawful}
use Rattle.kiss_file.specs.Machine.{Conflicting}
use Rattle.kiss_file.specs.Laws.Machine.{next_is_a_state}
use Rattle.machine_table.specs.NextStates.{NeverLeaves}
use Rattle.net_core.specs.declared.Network.{Network}
use Rattle.net_core.specs.declared.SignalNames.{SignalNames}
use Rattle.realise.specs.CarriedMachine.{Carries}
use Rattle.realise.specs.Laws.{ArePairwiseDistinct}
use Rattle.realise.specs.Names.{AreNames}
use Rattle.realise.specs.CodeNetwork.{AreCounted}
use Rattle.realise.specs.Laws.Apart.{names_apart}
use Rattle.realise.specs.Laws.Carrying.{carried_answers}
use Rattle.state_codes.specs.declared.Codes.{Codes}
use Rattle.state_codes.specs.declared.split.Part.{Part}
use Rattle.state_codes.specs.declared.split.Split.{Split}
use Rattle.state_codes.specs.Code.{IsCode}
use Rattle.state_codes.specs.Split.{IsPart}
use Rattle.state_reduce.specs.declared.work.WorkMachine.{WorkMachine}
use Rattle.decomposition.specs.Decomposition.{HasGates, IsDecomposed, IsDecomposition, PrintsCodes}
use Rattle.decomposition.specs.Inner.Header.{IsHeaderOf, words_by}
use Rattle.decomposition.specs.Names.{Named}
use Rattle.decomposition.specs.Network.{IsNetworkOf}
use Rattle.decomposition.specs.Notes.{AreNotes}
use Rattle.decomposition.specs.OwnPairs.{OwnPairs}
use Rattle.decomposition.specs.PartReads.{IsWithinParts}
use Rattle.state_reduce.specs.Work.{AreClasses, IsWork}
use Rattle.decomposition.specs.Laws.Carrying.{ArePrinted, IsImage, carries_file, image_of, labels_inside, printed_of}
use Rattle.decomposition.proofs.LawfulHeader.{header_lawful}
use Rattle.decomposition.specs.Laws.Writable.{AreSignalNames, file_names, plain_fields, writable}

module _ (F : KissFile) (work : WorkMachine) (codes : Codes) (lawful : IsLawful F) (no_conflict : Conflicting F → ⊥) (words_counted : length codes.words ≡ length (work.machine).states) (short : codes.bits ≤ 64) where
  abbrev W : KissFile
  W = work.machine

  pub image : (reduce : Bool) (is : IsWork reduce F work) → IsImage F W is.class
  image reduce is = image_of reduce F W is.class lawful no_conflict is.machine

  -- the classes, where there are classes, are states of the work machine
  pub classes_inside : (reduce : Bool) → IsWork reduce F work → IfSome work.classes (All (λ class. class < length codes.words))
  classes_inside reduce is =
      subst (λ (n : ℕ). IfSome work.classes (All (λ class. class < n))) (sym words_counted)
      (labels_inside reduce F W is.class work.classes lawful no_conflict is.machine is.classes)

  module _ (names : SignalNames) (own : AreNames F codes.bits names) where
    -- the names number the signals of the work machine
    pub counted : (reduce : Bool) → IsWork reduce F work → AreCounted W codes.bits names
    counted reduce is =
        let of_file = (names_apart F codes.bits names lawful short own).0 in
        let same = image reduce is in
        record {
          inputs = of_file.inputs ∙ sym same.inputs;
          outputs = of_file.outputs ∙ sym same.outputs;
          latch_inputs = of_file.latch_inputs;
          latch_outputs = of_file.latch_outputs;
        }

    pub apart : ArePairwiseDistinct names
    apart = (names_apart F codes.bits names lawful short own).1

    signal_names : AreSignalNames names
    signal_names = file_names F codes.bits names lawful own

    module _ (split : Split) (N : Network) (notes : List LatchNote) (net : IsNetworkOf W split.parts codes names N notes) (reduce : Bool) (is : IsWork reduce F work) where
      net_writable : IsWritable N
      net_writable = writable W codes.bits codes.words net.sets names N (counted reduce is) net.enough net.realised signal_names

      printed : ArePrinted F is.class codes.words (words_by work.classes codes.words)
      printed = printed_of reduce F W is.class work.classes codes.words lawful no_conflict is.machine is.classes words_counted

      stays_of_file : NeverLeaves F
      stays_of_file s x inside symbol = next_is_a_state F s x lawful inside

      carries : Carries F N (words_by work.classes codes.words)
      carries = carries_file F W is.class N codes.words (words_by work.classes codes.words) lawful.reset stays_of_file (image reduce is) printed net.carries

      words_printed : length (words_by work.classes codes.words) ≡ length F.states
      words_printed = printed.count

      module _ (H : Header) (header : IsHeaderOf F.states work.classes split codes notes H) where
        noted : AreNotes codes (net.sets).latches H.latches
        noted = subst (AreNotes codes (net.sets).latches) (sym header.latches) net.noted

        latches_noted : length H.latches ≡ codes.bits
        latches_noted = noted.count ∙ net.by_rule.latch_count

        latches_counted : length H.latches ≡ length N.latches
        latches_counted = latches_noted ∙ sym net.latches

        states_written : ArePlainFields H.states
        states_written = subst ArePlainFields (sym header.states) (plain_fields F lawful)

        named : Named F N H
        named = record {
          states = header.states;
          names = names;
          own = subst (λ (k : ℕ). AreNames F k names) (sym latches_noted) own;
          signals = record { inputs = net.realised.inputs; outputs = net.realised.outputs; latch_inputs = net.realised.latch_inputs; latch_outputs = net.realised.latch_outputs };
        }

        prints : PrintsCodes F is.class codes H
        prints = record {
          count = ap (λ (list : List ℕ). length list) header.words ∙ printed.count;
          words = λ s inside. ap (λ (list : List ℕ). get_or list s 0) header.words ∙ printed.each s inside;
          bits = latches_noted;
          owners = λ i note stands.
              let set = item_at (net.sets).latches i (omega (arith, slice_get_within H.latches i note stands, noted.count)) in
              (noted.each i set.0 note set.1 stands).part;
        }

        -- so the network and its header are those of the split
        decomposition : IsCode (length W.states) split.parts codes → All (IsPart (length W.states)) split.parts → length split.parts ≤ 256 → IsDecomposition reduce F W is.class codes N H
        decomposition code parts few = record {
          lawful = header_lawful F W is.class split codes (net.sets).latches notes work.classes H lawful (image reduce is) code parts few header.reads net.by_rule.latch_count header noted printed reduce is.classes;
          answers = carried_answers F N (words_by work.classes codes.words) lawful.reset stays_of_file carries;
          named = named;
          classes = subst (AreClasses reduce F) (sym header.classes) is.classes;
          latches = sym latches_counted;
          carries = subst (Carries F N) (sym header.words) carries;
          codes_of_parts = subst (λ (list : List Part). IsCode (length W.states) list codes) (sym header.parts) code;
          printed = prints;
          pairs = subst (OwnPairs W N codes.words) (sym header.latches) net.pairs;
          within = subst (λ (list : List Part). IsWithinParts W N codes.words H.latches list) (sym header.parts) (subst (λ (list : List LatchNote). IsWithinParts W N codes.words list split.parts) (sym header.latches) net.within);
          gates = subst (λ (list : List Part). HasGates F W list codes N) (sym header.parts) (record { sets = net.sets; by_rule = net.by_rule; enough = net.enough; irredundant = net.irredundant; names = names; own = own; realised = net.realised });
        }

        pub decomposed : IsCode (length W.states) split.parts codes → All (IsPart (length W.states)) split.parts → length split.parts ≤ 256 → (made : HeadedNetwork) → made.header ≡ H → made.network ≡ N → IsDecomposed reduce F W split.kind split.parts made
        unfolding IsDecomposed
        decomposed code parts few made same_header same_network = (
          is.class,
          codes,
          is.machine,
          ap (λ (K : Header). K.kind) same_header ∙ header.kind,
          ap (λ (K : Header). K.parts) same_header ∙ header.parts,
          subst (λ (M : Network). IsDecomposition reduce F W is.class codes M made.header) (sym same_network)
              (subst (λ (K : Header). IsDecomposition reduce F W is.class codes N K) (sym same_header) (decomposition code parts few)),
        )

        -- and both can be written
        printable : IsPrintable H
        printable = record {
          states = states_written;
          words = ap (λ (list : List ℕ). length list) header.words ∙ words_printed ∙ ap (λ (list : List (List ℕ)). length list) (sym header.states);
          latches = omega (arith, latches_noted, short);
        }

        ready_network : CanBeWritten N
        ready_network = record { writable = net_writable; starts = net.starts; rows = net.rows; sound = net.sound }

        pub ready : (made : HeadedNetwork) → made.header ≡ H → made.network ≡ N → CanBeHeaded made
        ready made same_header same_network = record {
          header = subst IsPrintable (sym same_header) printable;
          network = subst CanBeWritten (sym same_network) ready_network;
        }
