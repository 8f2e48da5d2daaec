-- A gate that reads enough gives one value wherever it reads the same.
use Rattle.std.proofs.Common.{◌≡◌, ◌≢◌, ℕ, zero, suc, ◌+◌, ◌<◌, Bool, true, false, Some, List, [], ◌∷◌, ◌++◌, length, map, get_or, slice_get, slice_index, Contains, refl, ap, sym, ◌∙◌, subst, arith, append_assoc, length-append}
use Rattle.std.proofs.lemmas.Bool.{false≢true}
use Rattle.std.proofs.lemmas.List.{length-map}
use Rattle.list_facts.specs.Laws.Members.{agree_from_map}
use Rattle.list_facts.specs.Laws.Places.{get_behind}
use Rattle.cubes.specs.Symbol.{bit}
use Rattle.cubes.specs.Laws.Bits.{same_digits}
use Rattle.dependence.specs.declared.sets.ReadSet.{ReadSet}
use Rattle.gate_rows.specs.Columns.{input_of}
use Rattle.kiss_file.specs.declared.file.KissFile.{KissFile}
use Rattle.net_core.specs.Laws.Valuations.{parts_of_append}
use Rattle.realise.specs.Laws.{EqualReads}
use Rattle.realise.specs.CodeNetwork.{IsEnough}

-- bits that do not differ are one
same_unless : (a b : Bool) → ((a ≡ b → ⊥) → ⊥) → a ≡ b
same_unless true true h = refl
same_unless true false h = absurd (h (λ e. false≢true (sym e)))
same_unless false true h = absurd (h false≢true)
same_unless false false h = refl

-- symbols that have one bit apart
seam : (p u : List Bool) (b : Bool) → slice_get (p ++ b ∷ u) (length p) ≡ Some b
seam p u b = let e : length p ≡ length p + 0 = omega arith in ap (slice_get (p ++ b ∷ u)) e ∙ get_behind p (b ∷ u) 0

elsewhere : (p u : List Bool) (b c : Bool) (k : ℕ) → k ≢ length p → slice_get (p ++ b ∷ u) k ≡ slice_get (p ++ c ∷ u) k
elsewhere [] u b c zero other = absurd (other refl)
elsewhere [] u b c (suc k) other = refl
elsewhere (q ∷ p) u b c zero other = refl
elsewhere (q ∷ p) u b c (suc k) other = elsewhere p u b c k (λ e. other (ap suc e))

module _ (F : KissFile) (words : List ℕ) (set : ReadSet) (value : ℕ → List Bool → Bool) (enough : IsEnough F words value set) (s : ℕ) (state : s < length F.states) where
  -- the bit of an input that is not read may be changed, and that of one that is read is not
  one_changed : (p u : List Bool) (b c : Bool) → length (p ++ b ∷ u) ≡ F.inputs → (Contains set.inputs (length p) → b ≡ c) → value s (p ++ b ∷ u) ≡ value s (p ++ c ∷ u)
  one_changed p u b c long same =
      same_unless (value s (p ++ b ∷ u)) (value s (p ++ c ∷ u)) (λ differ.
      let changed : b ≡ c → ⊥ = λ e. differ (ap (λ (d : Bool). value s (p ++ d ∷ u)) e) in
      changed (same (enough.matter (length p) (omega (arith, long, length-append p (b ∷ u))) (record {
        s = s;
        x = p ++ b ∷ u;
        y = p ++ c ∷ u;
        state = state;
        symbol = long;
        differ = record {
          lengths = length-append p (b ∷ u) ∙ sym (length-append p (c ∷ u));
          there = λ e. changed (let whole : Some b ≡ Some c = sym (seam p u b) ∙ (e ∙ seam p u c) in cc);
          elsewhere = elsewhere p u b c;
        };
        values = differ;
      }))))

  -- so input by input
  all_changed : (p u w : List Bool) → length (p ++ u) ≡ F.inputs → length u ≡ length w → ((j : ℕ) → Contains set.inputs (length p + j) → get_or u j false ≡ get_or w j false)
      → value s (p ++ u) ≡ value s (p ++ w)
  all_changed p [] [] long counts same = refl
  all_changed p [] (c ∷ w) long counts same = absurd (omega arith)
  all_changed p (b ∷ u) [] long counts same = absurd (omega arith)
  all_changed p (b ∷ u) (c ∷ w) long counts same =
      let here : length p + 0 ≡ length p = omega arith in
      let behind : length (p ++ c ∷ []) ≡ length p + 1 = omega (arith, length-append p (c ∷ [])) in
      one_changed p u b c long (λ among. same 0 (subst (Contains set.inputs) (sym here) among))
      ∙ (ap (value s) (sym (append_assoc p (c ∷ []) u))
      ∙ (all_changed (p ++ c ∷ []) u w
      (omega (arith, long, behind, length-append (p ++ c ∷ []) u, length-append p (b ∷ u))) (omega (arith, counts))
      (λ j among.
      let e : length (p ++ c ∷ []) + j ≡ length p + suc j = omega (arith, behind) in
      same (suc j) (subst (Contains set.inputs) e among))
      ∙ ap (value s) (append_assoc p (c ∷ []) w)))

pub equal_reads : EqualReads
equal_reads F words set value enough s t x y state_s state_t long_x long_y read =
    let parts =
    parts_of_append (map (input_of x) set.inputs) (map (bit (slice_index words s)) set.latches) (map (input_of y) set.inputs) (map (bit (slice_index words t)) set.latches)
    read (length-map set.inputs (input_of x) ∙ sym (length-map set.inputs (input_of y))) in
    all_changed F words set value enough s state_s [] x y long_x (long_x ∙ sym long_y)
    (λ j among.
    let e : 0 + j ≡ j = omega arith in
    agree_from_map (input_of x) (input_of y) set.inputs parts.0 j (subst (Contains set.inputs) e among))
    ∙ enough.permits s t y state_s state_t
    (λ c among. same_digits (slice_index words s) (slice_index words t) c c (agree_from_map (bit (slice_index words s)) (bit (slice_index words t)) set.latches parts.1 c among)) long_y
