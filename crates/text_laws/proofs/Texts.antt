-- Two networks of one job have one header and are equal but for the rows of their gates. So two texts of one job
-- differ only there.
use Rattle.std.proofs.Common.{◌≡◌, ◌∙◌, ℕ, Bool, List, length, refl, sym, subst, arith}
use Rattle.blif_out.specs.declared.header.Header.{Header}
use Rattle.blif_out.specs.declared.networks.HeadedNetwork.{HeadedNetwork}
use Rattle.blif_out.specs.Head.{header_text}
use Rattle.blif_out.specs.HeadLaw.{IsLawfulHeader}
use Rattle.blif_out.specs.NetworkText.{IsNetworkText}
use Rattle.decomposition.specs.Decomposition.{HasGates, IsDecomposed, IsDecomposition, PrintsCodes}
use Rattle.decomposition.specs.OwnPairs.{OwnPairs}
use Rattle.state_reduce.specs.Work.{IsWorkOf}
use Rattle.state_reduce.specs.Laws.Works.{one_work}
use Rattle.dependence.specs.declared.sets.Reads.{Reads}
use Rattle.kiss_file.specs.declared.file.KissFile.{KissFile}
use Rattle.net_core.specs.declared.Network.{Network}
use Rattle.net_core.specs.declared.SignalNames.{SignalNames}
use Rattle.realise.specs.CodeNetwork.{IsRealised}
use Rattle.split_texts.specs.Laws.Names.{names_once}
use Rattle.split_texts.specs.Splits.{AreParts}
use Rattle.split_texts.specs.SplitText.{IsOfKind}
use Rattle.split_texts.specs.Laws.Kinds.{parts_once}
use Rattle.state_codes.specs.declared.Codes.{Codes}
use Rattle.state_codes.specs.declared.split.Kind.{Kind}
use Rattle.state_codes.specs.declared.split.Part.{Part}
use Rattle.state_codes.specs.Code.{IsCode}
use Rattle.state_codes.specs.Laws.Codes.{codes_are_one}
use Rattle.state_reduce.specs.WorkMachine.{IsWorkMachine}
use Rattle.text_laws.specs.Rows.{EqualButForRows, HasSameSignals, NetworksDifferInRows, RowsAloneDiffer}
use Rattle.text_laws.proofs.Headers.{class_once, classes_once, same_header, words_once}
use Rattle.decomposition.specs.Laws.Lists.{zip_each}
use Rattle.text_laws.specs.Laws.Nets.{equal_nets}
use Rattle.text_laws.specs.Laws.Notes.{notes_once}
use Rattle.decomposition.specs.Laws.ReadOnce.{reads_once}

-- the gates of one code
nets_of : (F W : KissFile) (parts : List Part) (codes : Codes) (N M : Network) → HasGates F W parts codes N → HasGates F W parts codes M → EqualButForRows N M
nets_of F W parts codes N M one other =
    let sets : one.sets ≡ other.sets = reads_once W parts codes one.sets other.sets one.by_rule other.by_rule in
    let names : one.names ≡ other.names = names_once F codes.bits one.names other.names one.own other.own in
    let moved : IsRealised W codes.bits codes.words one.sets other.names M =
    subst (λ (sets : Reads). IsRealised W codes.bits codes.words sets other.names M) (sym sets) other.realised in
    equal_nets W W refl refl codes.bits codes.words one.sets one.names N M one.by_rule.latch_count one.by_rule.output_count one.realised
    (subst (λ (names : SignalNames). IsRealised W codes.bits codes.words one.sets names M) (sym names) moved)

-- what is said of the second text, of the codes and the parts of the first
record IsSecond (F W : KissFile) (class : ℕ → ℕ) (codes : Codes) (parts : List Part) (M : Network) (K : Header) : Type 0 where
  gates : HasGates F W parts codes M
  pairs : OwnPairs W M codes.words K.latches
  printed : PrintsCodes F class codes K

second_of : (reduce : Bool) (F W : KissFile) (class : ℕ → ℕ) (codes more : Codes) (parts : List Part) (M : Network) (K : Header) → codes ≡ more → parts ≡ K.parts → IsDecomposition reduce F W class more M K → IsSecond F W class codes parts M K
second_of reduce F W class codes more parts M K same same_parts is = record {
  gates = subst (λ (list : List Part). HasGates F W list codes M) (sym same_parts) (subst (λ (c : Codes). HasGates F W K.parts c M) (sym same) is.gates);
  pairs = subst (λ (c : Codes). OwnPairs W M c.words K.latches) (sym same) is.pairs;
  printed = subst (λ (c : Codes). PrintsCodes F class c K) (sym same) is.printed;
}

module _ (reduce : Bool) (F W : KissFile) (class more_class : ℕ → ℕ) (codes more : Codes) (N M : Network) (H K : Header)
    (work : IsWorkMachine reduce F W class) (more_work : IsWorkMachine reduce F W more_class) (kind : H.kind ≡ K.kind) (parts : H.parts ≡ K.parts)
    (one : IsDecomposition reduce F W class codes N H) (two : IsDecomposition reduce F W more_class more M K) where
  same_codes : codes ≡ more
  same_codes = codes_are_one (length W.states) H.parts codes more one.codes_of_parts
      (subst (λ (list : List Part). IsCode (length W.states) list more) (sym parts) two.codes_of_parts)

  second : IsSecond F W more_class codes H.parts M K
  second = second_of reduce F W more_class codes more H.parts M K same_codes parts two

  nets : EqualButForRows N M
  nets = nets_of F W H.parts codes N M one.gates second.gates

  headers : H ≡ K
  headers =
      same_header H.kind K.kind H.classes K.classes H.parts K.parts H.states K.states H.words K.words H.latches K.latches kind
      (classes_once reduce F H.classes K.classes one.classes two.classes)
      parts
      (one.named.states ∙ sym two.named.states)
      (words_once F class more_class codes H K (class_once reduce F W class more_class work more_work) one.printed second.printed)
      (notes_once W W refl codes.words N M nets.latches
      (λ i gate twin there there_too. (zip_each HasSameSignals N.gates M.gates nets.gates i gate twin there there_too).inputs)
      H.latches K.latches (one.printed.bits ∙ sym second.printed.bits)
      (one.gates.realised.gate_count ∙ sym second.gates.realised.gate_count)
      (omega (arith, one.printed.bits, one.gates.realised.gate_count))
      (λ i note another there there_too. one.printed.owners i note there ∙ sym (second.printed.owners i another there_too))
      one.pairs second.pairs)

  pub differ : (H ≡ K) × EqualButForRows N M
  differ = (headers, nets)

-- networks of one machine
of_one_machine : (reduce : Bool) (F W : KissFile) (kind : Kind) (parts : List Part) (made more : HeadedNetwork) → IsDecomposed reduce F W kind parts made → IsDecomposed reduce F W kind parts more
    → (made.header ≡ more.header) × EqualButForRows made.network more.network
unfolding IsDecomposed
of_one_machine reduce F W kind parts made more (class, codes, work, is_kind, are_parts, one) (more_class, more_codes, more_work, more_kind, more_parts, two) =
    differ reduce F W class more_class codes more_codes made.network more.network made.header more.header work more_work (is_kind ∙ sym more_kind) (are_parts ∙ sym more_parts) one two

-- the work machine of the file, and a lawful header
work_and_header : (reduce : Bool) (F W : KissFile) (kind : Kind) (parts : List Part) (made : HeadedNetwork) → IsDecomposed reduce F W kind parts made → IsWorkOf reduce F W × IsLawfulHeader made.header
unfolding IsDecomposed
work_and_header reduce F W kind parts made (class, codes, work, is_kind, are_parts, is) = ((class, work), is.lawful)

-- there is one work machine, and one choice of parts
pub networks_differ_in_rows : NetworksDifferInRows
networks_differ_in_rows kind operand reduce F made more (W, parts, split, one, kept) (V, others, twin, two, kept_too) =
    let same : V ≡ W = one_work reduce F V W (work_and_header reduce F V kind others more two).0 (work_and_header reduce F W kind parts made one).0 in
    let here : AreParts kind operand W others = subst (λ (machine : KissFile). AreParts kind operand machine others) same twin.made in
    let same_parts : others ≡ parts = parts_once kind operand W others parts here split.made in
    of_one_machine reduce F W kind parts made more one
    (subst (λ (list : List Part). IsDecomposed reduce F W kind list more) same_parts (subst (λ (machine : KissFile). IsDecomposed reduce F machine kind others more) same two))

-- ---- the texts
lawful_header : (kind : Kind) (operand : List ℕ) (reduce : Bool) (F : KissFile) (made : HeadedNetwork) → IsOfKind kind operand reduce F made → IsLawfulHeader made.header
lawful_header kind operand reduce F made (W, parts, split, is, kept) = (work_and_header reduce F W kind parts made is).1

pub rows_alone_differ : RowsAloneDiffer
rows_alone_differ design kind operand reduce F text other (made, of_kind, told) (more, also_of_kind, told_too) =
    let both : (made.header ≡ more.header) × EqualButForRows made.network more.network = networks_differ_in_rows kind operand reduce F made more of_kind also_of_kind in (
      made.header,
      lawful_header kind operand reduce F made of_kind,
      record {
        network = made.network;
        other_network = more.network;
        one = told.of_network;
        two = subst (λ (header : Header). IsNetworkText design (header_text header) more.network other) (sym both.0) told_too.of_network;
        equal = both.1;
      },
    )
