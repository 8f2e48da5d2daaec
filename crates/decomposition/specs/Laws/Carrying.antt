-- From the work machine to the machine of the file.
use Rattle.std.proofs.Common.{◌≡◌, ℕ, ◌<◌, Bool, true, false, All, List, None, Option, Some, IfSome, get_or, length, map, sym, ap, ◌∙◌, subst, arith}
use Rattle.std.specs.List.{slice_index}
use Rattle.std.proofs.lemmas.Bool.{false≢true}
use Rattle.std.proofs.lemmas.List.{get_or-map, get_or_default, length-map}
use Rattle.kiss_file.specs.declared.file.KissFile.{KissFile}
use Rattle.kiss_file.specs.LawfulFile.{IsLawful}
use Rattle.kiss_file.specs.Machine.{Conflicting, next, out}
use Rattle.kiss_file.specs.Laws.Machine.{next_is_a_state}
use Rattle.machine_table.specs.NextStates.{NeverLeaves}
use Rattle.machine_table.specs.Table.{IsTable}
use Rattle.state_pairs.specs.Laws.Lawful.{table_of_lawful}
use Rattle.net_core.specs.declared.Network.{Network}
use Rattle.net_core.specs.Step.{AreStarts, Step}
use Rattle.pair_operators.specs.Pair.{Closed}
use Rattle.partition.specs.Laws.Labels.{same_labels}
use Rattle.realise.specs.CarriedMachine.{Carries}
use Rattle.cubes.specs.Symbol.{lowest_bits}
use Rattle.realise.specs.Codes.{code_of}
use Rattle.state_reduce.specs.AlikeStates.{IsEquivalence}
use Rattle.state_reduce.specs.Quotient.{AreBlocksInOrder}
use Rattle.state_reduce.specs.WorkMachine.{IsFileItself, IsMachineOfClasses, IsWorkMachine}
use Rattle.state_reduce.specs.Inner.BlockNames.{AreAllNamed}
use Rattle.state_reduce.proofs.AllNamed.{all_named}
use Rattle.state_reduce.proofs.Answered.{next_of_block, out_of_block}
use Rattle.state_reduce.proofs.Lawfully.{blocks_lawful}
use Rattle.state_reduce.proofs.Numbers.{number_within}
use Rattle.state_reduce.proofs.Ordered.{blocks_in_order}
use Rattle.state_reduce.specs.Laws.Unrefused.{alike_closed, alike_consistent}
use Rattle.decomposition.specs.Inner.Header.{words_by}
use Rattle.state_reduce.specs.Work.{AreClasses}

-- a machine answers and moves from the class of a state as the file's machine does from the state
pub record IsImage (F W : KissFile) (class : ℕ → ℕ) : Type 0 where
  pub inputs : W.inputs ≡ F.inputs
  pub outputs : W.outputs ≡ F.outputs
  pub reset : W.reset ≡ class F.reset
  pub states : (s : ℕ) → s < length F.states → class s < length W.states
  pub next : (s : ℕ) (x : List Bool) → s < length F.states → length x ≡ F.inputs → next W (class s) x ≡ class (next F s x)
  pub out : (s : ℕ) (x : List Bool) → s < length F.states → length x ≡ F.inputs → out W (class s) x ≡ out F s x

stays_of : (F : KissFile) → IsLawful F → NeverLeaves F
stays_of F lawful s x inside symbol = next_is_a_state F s x lawful inside

module _ (F W : KissFile) (class : ℕ → ℕ) (lawful : IsLawful F) (no_conflict : Conflicting F → ⊥) (work : IsMachineOfClasses F W class) where
  abbrev classes : List ℕ
  classes = work.classes

  table : IsTable F
  table = table_of_lawful F lawful

  closed : Closed F classes
  closed = alike_closed F classes work.alike (stays_of F lawful)

  named : AreAllNamed F classes
  named = all_named F classes table work.alike.lawful.length lawful.numbered no_conflict closed

  in_order : AreBlocksInOrder F classes W
  in_order = blocks_in_order F classes table lawful.distinct lawful.numbered work.alike.lawful W work.quotient named work.alike

  image_of_classes : IsImage F W class
  image_of_classes = record {
    inputs = work.quotient.inputs;
    outputs = work.quotient.outputs;
    reset = work.quotient.reset ∙ sym (work.class_of F.reset);
    states = λ s inside.
        omega (arith, work.class_of s, ap (λ (names : List (List ℕ)). length names) work.quotient.states, number_within F classes lawful.distinct named s inside);
    next = λ s x inside symbol.
        ap (λ (c : ℕ). next W c x) (work.class_of s)
        ∙ next_of_block F classes lawful.distinct work.alike.lawful.length named table W work.quotient closed s x inside symbol
        ∙ sym (work.class_of (next F s x));
    out = λ s x inside symbol.
        ap (λ (c : ℕ). out W c x) (work.class_of s)
        ∙ out_of_block F classes lawful.distinct work.alike.lawful.length named table W work.quotient (alike_consistent F classes work.alike) s x inside symbol;
  }

  lawful_classes : IsLawful W
  lawful_classes = blocks_lawful F classes W work.quotient lawful.distinct work.alike.lawful.length table named lawful

  -- two partitions into alike states are one
  one_equivalence : (p : List ℕ) → IsEquivalence F p → p ≡ classes
  one_equivalence p is =
      same_labels p classes is.lawful.numbered work.alike.lawful.numbered (is.lawful.length ∙ sym work.alike.lawful.length)
      (λ s t. (
        (λ held. let in_s : s < length F.states = omega (arith, held.0, is.lawful.length) in let in_t : t < length F.states = omega (arith, held.1, is.lawful.length) in
            (work.alike.together s t in_s in_t).1 ((is.together s t in_s in_t).0 held)),
        (λ held. let in_s : s < length F.states = omega (arith, held.0, work.alike.lawful.length) in let in_t : t < length F.states = omega (arith, held.1, work.alike.lawful.length) in
            (is.together s t in_s in_t).1 ((work.alike.together s t in_s in_t).0 held)),
      ))

  -- the class of a state is its label
  class_is_label : (p : List ℕ) → IsEquivalence F p → (s : ℕ) → s < length F.states → class s ≡ get_or p s 0
  class_is_label p is s inside = work.class_of s ∙ in_order.numbers s inside ∙ ap (λ (labels : List ℕ). get_or labels s 0) (sym (one_equivalence p is))

module _ (F W : KissFile) (class : ℕ → ℕ) (file : IsFileItself F W class) where
  image_of_file : IsLawful F → IsImage F W class
  image_of_file lawful = record {
    inputs = ap (λ (M : KissFile). M.inputs) file.file;
    outputs = ap (λ (M : KissFile). M.outputs) file.file;
    reset = ap (λ (M : KissFile). M.reset) file.file ∙ sym (file.class_of F.reset);
    states = λ s inside. omega (arith, file.class_of s, ap (λ (M : KissFile). length M.states) file.file);
    next = λ s x inside symbol. ap (λ (c : ℕ). next W c x) (file.class_of s) ∙ ap (λ (M : KissFile). next M s x) file.file ∙ sym (file.class_of (next F s x));
    out = λ s x inside symbol. ap (λ (c : ℕ). out W c x) (file.class_of s) ∙ ap (λ (M : KissFile). out M s x) file.file;
  }

pub image_of : (reduce : Bool) (F W : KissFile) (class : ℕ → ℕ) → IsLawful F → (Conflicting F → ⊥) → IsWorkMachine reduce F W class → IsImage F W class
image_of true F W class lawful no_conflict work = image_of_classes F W class lawful no_conflict work
image_of false F W class lawful no_conflict work = image_of_file F W class work lawful

-- the machine that a job works on is lawful
pub work_lawful : (reduce : Bool) (F W : KissFile) (class : ℕ → ℕ) → IsLawful F → (Conflicting F → ⊥) → IsWorkMachine reduce F W class → IsLawful W
work_lawful true F W class lawful no_conflict work = lawful_classes F W class lawful no_conflict work
work_lawful false F W class lawful no_conflict work = subst IsLawful (sym work.file) lawful

-- ---- the printed words
-- there is a word for each state of the file: that of its class
pub record ArePrinted (F : KissFile) (class : ℕ → ℕ) (words printed : List ℕ) : Type 0 where
  pub count : length printed ≡ length F.states
  pub each : (s : ℕ) → s < length F.states → get_or printed s 0 ≡ get_or words (class s) 0

pub printed_of : (reduce : Bool) (F W : KissFile) (class : ℕ → ℕ) (classes : Option (List ℕ)) (words : List ℕ) → IsLawful F → (Conflicting F → ⊥) → IsWorkMachine reduce F W class → AreClasses reduce F classes → length words ≡ length W.states
    → ArePrinted F class words (words_by classes words)
printed_of true F W class (Some p) words lawful no_conflict work is size =
    let count : length (map (slice_index words) p) ≡ length p = length-map p (slice_index words) in
    record {
      count = count ∙ is.lawful.length;
      each = λ s inside.
          get_or-map (slice_index words) p s 0 0 (omega (arith, is.lawful.length))
          ∙ ap (λ (c : ℕ). get_or words c 0) (sym (class_is_label F W class lawful no_conflict work p is s inside));
    }
printed_of true F W class None words lawful no_conflict work is size = absurd is
printed_of false F W class (Some p) words lawful no_conflict work is size = absurd (false≢true (sym is))
printed_of false F W class None words lawful no_conflict work is size =
    record {
      count = size ∙ ap (λ (M : KissFile). length M.states) work.file;
      each = λ s inside. ap (λ (c : ℕ). get_or words c 0) (sym (work.class_of s));
    }

-- the labels of the classes are states of the work machine
pub labels_inside : (reduce : Bool) (F W : KissFile) (class : ℕ → ℕ) (classes : Option (List ℕ)) → IsLawful F → (Conflicting F → ⊥) → IsWorkMachine reduce F W class → AreClasses reduce F classes
    → IfSome classes (All (λ label. label < length W.states))
labels_inside true F W class (Some p) lawful no_conflict work is = λ k d lt.
    let inside : k < length F.states = omega (arith, lt, is.lawful.length) in
    omega (
      arith,
      class_is_label F W class lawful no_conflict work p is k inside,
      (image_of_classes F W class lawful no_conflict work).states k inside,
      get_or_default p k 0 d lt,
    )
labels_inside true F W class None lawful no_conflict work is = tt
labels_inside false F W class (Some p) lawful no_conflict work is = absurd (false≢true (sym is))
labels_inside false F W class None lawful no_conflict work is = tt

-- ---- carrying
-- a network that carries the work machine between codes carries the file's machine between the printed ones
pub carries_file : (F W : KissFile) (class : ℕ → ℕ) (N : Network) (words printed : List ℕ) → F.reset < length F.states → NeverLeaves F → IsImage F W class → ArePrinted F class words printed → Carries W N words → Carries F N printed
carries_file F W class N words printed inside stays image are carries =
    let same : (s : ℕ) → s < length F.states → code_of (length N.latches) words (class s) ≡ code_of (length N.latches) printed s = λ s in_s. ap (lowest_bits (length N.latches)) (sym (are.each s in_s)) in
    record {
      inputs = carries.inputs ∙ image.inputs;
      outputs = carries.outputs ∙ image.outputs;
      starts = subst (AreStarts N.latches) (ap (code_of (length N.latches) words) image.reset ∙ same F.reset inside) carries.starts;
      steps = λ s x in_s symbol.
          let after : code_of (length N.latches) words (next W (class s) x) ≡ code_of (length N.latches) printed (next F s x) =
          ap (code_of (length N.latches) words) (image.next s x in_s symbol) ∙ same (next F s x) (stays s x in_s symbol) in
          subst (λ (later : List Bool). Step N (code_of (length N.latches) printed s) x (out F s x) later) after
          (subst (λ (answer : List Bool). Step N (code_of (length N.latches) printed s) x answer (code_of (length N.latches) words (next W (class s) x))) (image.out s x in_s symbol)
          (subst (λ (now : List Bool). Step N now x (out W (class s) x) (code_of (length N.latches) words (next W (class s) x))) (same s in_s)
          (carries.steps (class s) x (image.states s in_s) (symbol ∙ sym image.inputs))));
    }
