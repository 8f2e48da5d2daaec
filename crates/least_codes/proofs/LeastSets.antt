-- The least choice of candidates is the least set of bits that permits a value.
use Rattle.std.proofs.Common.{◌↔◌, ℕ, ◌+◌, ◌<◌, Bool, Contains, List, length, get_or, inl, inr, refl, arith}
use Rattle.std.proofs.lemmas.Bool.{cases_lt}
use Rattle.std.proofs.lemmas.List.Elements.{All-contains, All-from_get_or, Contains-get_or}
use Rattle.std.proofs.lemmas.Nat.Bits.{bit_at-zero}
use Rattle.kiss_file.specs.declared.file.KissFile.{KissFile}
use Rattle.dependence.specs.SufficientBits.{InWord}
use Rattle.least_codes.specs.declared.choice.Choice.{Choice}
use Rattle.least_codes.specs.declared.choice.Question.{Question}
use Rattle.least_codes.specs.Inner.StatePairs.{AreToldApart, TellsApart}
use Rattle.least_codes.specs.Inner.Choice.{And, AreChosen, HasNone, IsFirstChoice, IsLeastChoice, Tell}
use Rattle.least_codes.specs.LeastReads.{AreEnoughBits, AreFewest, AreLeastReads, IsLeastReadSet}
use Rattle.least_codes.proofs.Ascending.{Listing, ascend_increasing, increasing_ascend, listing}
use Rattle.least_codes.proofs.Telling.{permits_from_tells, tells_from_permits, tells_more}

module _ (q : Question) where
  -- with nothing chosen before
  alone : (others : List ℕ) → TellsApart q.words.now q.apart.now (Contains others) → Tell q 0 others
  alone others tells = tells_more q.words.now q.apart.now (Contains others) (And 0 others) (λ c is. inr is) tells

  listed : (others : List ℕ) (c : ℕ) → And 0 others c → Contains others c
  listed others c is = elim is [ inl in_none ↦ absurd (no_bit c in_none) | inr is_in ↦ is_in ] where
    no_bit : (c : ℕ) → InWord 0 c → ⊥
    no_bit c is = omega (arith, is, bit_at-zero c)

  pub least_from_first : (size set : ℕ) → ((fewer : ℕ) → fewer < size → HasNone q 0 0 fewer) → IsFirstChoice q 0 0 size set → IsLeastChoice q (record { set = set; size = size })
  least_from_first size set none found = record {
    reads = found.rest;
    of = found.of;
    bits = λ c. ((λ is. listed found.rest c ((found.joined c).0 is)), (λ is. (found.joined c).1 (inr is)));
    tell = tells_more q.words.now q.apart.now (And 0 found.rest) (Contains found.rest) (listed found.rest) found.tell;
    fewest = λ fewer others of tells. elim (cases_lt fewer size) [
      | inl below ↦ absurd (none fewer below others of (alone others tells))
      | inr above ↦ above
    ];
    first = λ others of tells. found.first others of (alone others tells);
  }

  -- some size is enough
  pub some_size : ((c : ℕ) → InWord q.candidates c → c < q.bits) → TellsApart q.words.now q.apart.now (InWord q.candidates) → ((size : ℕ) → size < q.bits + 1 → HasNone q 0 0 size) → ⊥
  some_size below tells none =
      let all : Listing q.candidates 0 q.bits = listing q.candidates q.bits below q.bits 0 (omega arith) in
      none (length all.list) (omega (arith, all.few)) all.list (record { size = refl; ascend = all.ascend; each = all.each })
      (tells_more q.words.now q.apart.now (InWord q.candidates) (And 0 all.list) (λ c is. inr (all.all c is (omega arith))) tells)

module _ (F : KissFile) (value : ℕ → List Bool → Bool) (q : Question) (are : AreToldApart F value q.apart.now) where
  -- a choice that tells the states apart is enough
  pub enough_from_chosen : (Candidate : ℕ → Type 0) → ((c : ℕ) → InWord q.candidates c → Candidate c) → (size : ℕ) (reads : List ℕ) → AreChosen q.candidates 0 size reads → TellsApart q.words.now q.apart.now (Contains reads)
      → AreEnoughBits F q.words.now Candidate value reads
  enough_from_chosen Candidate of size reads chosen tells = record {
    ascending = ascend_increasing 0 reads chosen.ascend;
    candidates = All-from_get_or Candidate reads 0 (λ k within. of (get_or reads k 0) (chosen.each (get_or reads k 0) (Contains-get_or reads k 0 within)));
    permit = permits_from_tells F q.words.now value q.apart.now are (Contains reads) tells;
  }

  pub chosen_from_enough : (Candidate : ℕ → Type 0) → ((c : ℕ) → Candidate c → InWord q.candidates c) → (reads : List ℕ) → AreEnoughBits F q.words.now Candidate value reads → AreChosen q.candidates 0 (length reads) reads
  chosen_from_enough Candidate of reads enough = record {
    size = refl;
    ascend = increasing_ascend 0 reads enough.ascending (λ some. omega arith);
    each = λ c is. of c (All-contains Candidate reads c enough.candidates is);
  }

  pub tells_from_enough : (Candidate : ℕ → Type 0) (reads : List ℕ) → AreEnoughBits F q.words.now Candidate value reads → TellsApart q.words.now q.apart.now (Contains reads)
  tells_from_enough Candidate reads enough = tells_from_permits F q.words.now value q.apart.now are (Contains reads) enough.permit

  module _ (Candidate : ℕ → Type 0) (same : (c : ℕ) → InWord q.candidates c ↔ Candidate c) where
    pub fewest_from_choice : (choice : Choice) → (least : IsLeastChoice q choice) → AreFewest F q.words.now Candidate value least.reads
    fewest_from_choice choice least = record {
      enough = enough_from_chosen Candidate (λ c. (same c).0) choice.size least.reads least.of least.tell;
      fewest = λ others enough. omega (arith, least.of.size, least.fewest (length others) others (chosen_from_enough Candidate (λ c. (same c).1) others enough) (tells_from_enough Candidate others enough));
    }

    pub reads_from_choice : (choice : Choice) → (least : IsLeastChoice q choice) → AreLeastReads F q.words.now Candidate value least.reads
    reads_from_choice choice least = record {
      fewest = fewest_from_choice choice least;
      first = λ others enough size.
          let chosen : AreChosen q.candidates 0 (length others) others = chosen_from_enough Candidate (λ c. (same c).1) others enough in
          least.first others (record { size = omega (arith, size, least.of.size); ascend = chosen.ascend; each = chosen.each }) (tells_from_enough Candidate others enough);
    }

pub set_from_choice : (F : KissFile) (value : ℕ → List Bool → Bool) (q : Question) (choice : Choice) → AreToldApart F value q.apart.now → IsLeastChoice q choice → IsLeastReadSet F q.words.now (InWord q.candidates) value choice.set
set_from_choice F value q choice are least = record {
  reads = least.reads;
  bits = least.bits;
  least = reads_from_choice F value q are (InWord q.candidates) (λ c. ((λ is. is), (λ is. is))) choice least;
}
