-- The network with its comments: the machine of the pairs, its codes, its network and the comments before it, put together.
use Rattle.std.proofs.Common.{◌≡◌, ℕ, ◌<◌, inl, inr, All, Bool, Contains, List, [], Some, length, sym, ap, ◌∙◌, subst, arith}
use Rattle.std.specs.List.{slice_get}
use Rattle.std.proofs.lemmas.Option.{slice_get_within}
use Rattle.list_facts.specs.Laws.Places.{item_at}
use Rattle.blif_out.specs.declared.header.LatchNote.{LatchNote}
use Rattle.blif_out.specs.declared.networks.CommentedNetwork.{CommentedNetwork}
use Rattle.blif_out.specs.Comments.{AreComments}
use Rattle.blif_out.specs.NetworkText.{CanBeWritten, CanBeText}
use Rattle.blif_out.specs.Writable.{IsWritable}
use Rattle.cover_split.specs.StateCover.{IsStateCover}
use Rattle.cover_split.specs.Expansion.{pairs_of}
use Rattle.cover_split.specs.Refusal.{SpellsBlocks}
use Rattle.cover_texts.specs.Inner.Steps.{AreCodesOfPairs, AreParts, IsExpanded}
use Rattle.cover_texts.specs.Inner.PairsNetwork.{IsWhole}
use Rattle.cover_texts.specs.Lines.{cover_comments}
use Rattle.cover_texts.specs.CoverText.{FrontReadsFront, HasLatches, IsNetworkOfPairs, StartsAtFirstCopy, StepsAsPairs}
use Rattle.cover_texts.proofs.Comments.{are_comments, states_below}
use Rattle.cover_texts.proofs.Flowing.{states_counted}
use Rattle.cover_texts.proofs.Sizes.{length_of_code}
use Rattle.decomposition.specs.Network.{IsNetworkOf}
use Rattle.decomposition.specs.PartReads.{IsBitOf}
use Rattle.decomposition.specs.Laws.Writable.{file_names, plain_fields, writable}
use Rattle.kiss_file.specs.declared.file.KissFile.{KissFile}
use Rattle.kiss_file.specs.LawfulFile.{IsLawful}
use Rattle.kiss_file.specs.Machine.{next, out}
use Rattle.machine_table.specs.NextStates.{NeverLeaves}
use Rattle.machine_table.specs.Table.{IsTable}
use Rattle.net_core.specs.declared.Network.{Network}
use Rattle.net_core.specs.declared.SignalNames.{SignalNames}
use Rattle.net_core.specs.Step.{NetAnswers, Step}
use Rattle.realise.specs.CarriedMachine.{AnswersAs}
use Rattle.realise.specs.Codes.{code_of}
use Rattle.realise.specs.Laws.{ArePairwiseDistinct}
use Rattle.realise.specs.Names.{AreNames}
use Rattle.realise.specs.CodeNetwork.{AreCounted}
use Rattle.realise.specs.Laws.Apart.{names_apart}
use Rattle.realise.specs.Laws.Carrying.{carried_answers}
use Rattle.state_codes.specs.declared.Codes.{Codes}
use Rattle.state_codes.specs.declared.split.Part.{Part}
use Rattle.state_codes.specs.Agreement.{AreDistinct}
use Rattle.state_codes.specs.Code.{IsCode}

module _ (F E : KissFile) (blocks : List (List ℕ)) (parts : List Part) (codes : Codes) (lawful : IsLawful F) (cover : IsStateCover (length F.states) blocks) (is : IsExpanded F blocks E) (are : AreParts blocks parts) (coded : AreCodesOfPairs blocks parts codes) where
  pub counts : length E.states ≡ length (pairs_of blocks)
  counts = states_counted F E blocks is.expansion

  pub code_here : IsCode (length E.states) parts codes
  code_here = subst (λ (n : ℕ). IsCode n parts codes) (sym counts) coded.code

  pub distinct_here : AreDistinct (length E.states) codes.words
  distinct_here = subst (λ (n : ℕ). AreDistinct n codes.words) (sym counts) coded.distinct

  pub words_counted : length codes.words ≡ length (pairs_of blocks)
  words_counted = ((coded.code).written).states

  module _ (names : SignalNames) (own : AreNames F codes.bits names) where
    pub counted : AreCounted E codes.bits names
    counted =
        let of_file = (names_apart F codes.bits names lawful coded.short own).0 in
        record {
          inputs = of_file.inputs ∙ sym (is.expansion).inputs;
          outputs = of_file.outputs ∙ sym (is.expansion).outputs;
          latch_inputs = of_file.latch_inputs;
          latch_outputs = of_file.latch_outputs;
        }

    pub apart : ArePairwiseDistinct names
    apart = (names_apart F codes.bits names lawful coded.short own).1

    module _ (N : Network) (notes : List LatchNote) (net : IsNetworkOf E parts codes names N notes) (stays : NeverLeaves E) (table : IsTable E) where
      net_writable : IsWritable N
      net_writable = writable E codes.bits codes.words net.sets names N counted net.enough net.realised (file_names F codes.bits names lawful own)

      -- ---- what the network does
      net_answers : AnswersAs F N
      net_answers =
          let of_pairs : AnswersAs E N = carried_answers E N codes.words table.reset stays net.carries in (
            of_pairs.0,
            of_pairs.1,
            λ word long.
                subst (λ (given : List (List Bool)). NetAnswers N of_pairs.0 word given) (is.answers word long)
                (of_pairs.2 word (subst (λ (k : ℕ). All (λ x. length x ≡ k) word) (sym (is.expansion).inputs) long)),
          )

      net_starts : StartsAtFirstCopy F blocks codes N
      net_starts = (E.reset, (is.expansion).reset, (net.realised).starts)

      net_steps : StepsAsPairs F blocks codes N
      net_steps i j s x pair long =
          let inside : i < length E.states = omega (arith, slice_get_within (pairs_of blocks) i (j, s) pair, counts) in
          let goes = (is.expansion).next_pairs i x long j s pair in
          let here : Step N (code_of (length N.latches) codes.words i) x (out E i x) (code_of (length N.latches) codes.words (next E i x)) =
          (net.carries).steps i x inside (long ∙ sym (is.expansion).inputs) in
          record {
            block = goes.0;
            pair = next E i x;
            target = goes.1;
            copy = goes.2;
            step =
                subst (λ (given : List Bool). Step N (code_of codes.bits codes.words i) x given (code_of codes.bits codes.words (next E i x))) ((is.expansion).outs i j s x pair long)
                (subst (λ (k : ℕ). Step N (code_of k codes.words i) x (out E i x) (code_of k codes.words (next E i x))) net.latches here);
          }

      -- ---- the front part, and the latches
      net_front : FrontReadsFront N notes
      net_front i c note gate at_note front at_gate read =
          let first : Part = (are.split).first in
          let there : slice_get parts note.part ≡ Some first = ap (slice_get parts) front ∙ ap (λ (list : List Part). slice_get list 0) (are.split).two in
          elim ((net.within).reads i c note gate first at_note at_gate there read) [
            | inl own_bit ↦ subst (λ (j : ℕ). IsBitOf notes j c) front own_bit
            | inr (l, other, among, stands, bit, carried) ↦
                let none : Contains [] l = subst (λ (list : List ℕ). Contains list l) (are.split).first_reads among in
                absurd (omega (arith, none.1))
          ]

      net_latches : HasLatches blocks N
      net_latches = record {
        longest = _;
        is_longest = (are.split).second_blocks;
        count = net.latches ∙ length_of_code (length (pairs_of blocks)) blocks parts are.split are.lawful codes coded.code;
      }

      -- ---- the network with its comments
      module _ (made : CommentedNetwork) (comments : made.comments ≡ cover_comments F.states blocks codes.bits codes.words notes) (network : made.network ≡ N) where
        of_pairs : (text : List ℕ) → SpellsBlocks (length F.states) text blocks → IsNetworkOfPairs F text blocks E parts codes notes made.comments N
        of_pairs text told = record {
          spelled = told;
          cover = cover;
          closed = is.closed;
          expansion = is.expansion;
          split = are.split;
          code = coded.code;
          told = comments;
          answers = net_answers;
          starts = net_starts;
          steps = net_steps;
          names = (
            names,
            own,
            record { inputs = (net.realised).inputs; outputs = (net.realised).outputs; latch_inputs = (net.realised).latch_inputs; latch_outputs = (net.realised).latch_outputs },
          );
          pairs = net.pairs;
          noted = (net.noted).count ∙ (net.enough).latch_count ∙ sym net.latches;
          owners = λ i note stands.
              let set = item_at (net.sets).latches i (omega (arith, slice_get_within notes i note stands, (net.noted).count)) in
              ((net.noted).each i set.0 note set.1 stands).part;
          distinct = coded.distinct;
          front = net_front;
          within = net.within;
          latches = net_latches;
          gates = record { sets = net.sets; by_rule = net.by_rule; enough = net.enough; irredundant = net.irredundant; names = names; own = own; realised = net.realised };
        }

        pub whole : IsWhole F blocks E made
        whole = (
          parts,
          codes,
          notes,
          λ text told. subst (IsNetworkOfPairs F text blocks E parts codes notes made.comments) (sym network) (of_pairs text told),
        )

        ready_network : CanBeWritten N
        ready_network = record { writable = net_writable; starts = net.starts; rows = net.rows; sound = net.sound }

        pub ready : CanBeText made
        ready = record {
          comments = subst AreComments (sym comments) (are_comments F.states blocks codes.bits codes.words notes (plain_fields F lawful) (states_below (length F.states) blocks cover.lawful));
          network = subst CanBeWritten (sym network) ready_network;
        }
