-- The contents of the register, from those of one symbol less.
use Rattle.std.proofs.Common.{◌≡◌, ℕ, zero, suc, ◌+◌, ◌-◌, ◌*◌, ◌^◌, ◌<◌, ◌≤◌, inl, inr, Bool, true, false, if◌then◌else◌, Some, All, List, [], ◌∷◌, ◌++◌, length, get_or, slice_get, take, refl, ap, sym, ◌∙◌, subst, arith, length-append}
use Rattle.std.specs.Int.{bit_at}
use Rattle.std.specs.List.{flat_map}
use Rattle.std.proofs.Math.Nat.{add-mul, mod-eq_of_lt, mul-le-mul_right, pow-le-pow_right, suc-mul}
use Rattle.std.proofs.lemmas.Bool.{cases_Bool, cases_lt}
use Rattle.std.proofs.lemmas.List.{ext_get_or, flat_map_more, get_or_append_left, get_or-append_right, take_more}
use Rattle.std.proofs.lemmas.List.FromFn.{get_or-map-range_with_len, length-map-range_with_len}
use Rattle.std.proofs.lemmas.Nat.{mul-add-lt, pow-add}
use Rattle.std.proofs.lemmas.Nat.Bits.{bit_at_cat_high, bit_at_cat_low}
use Rattle.std.proofs.lemmas.Option.{slice_get-get_or}
use Rattle.cubes.specs.Symbol.{bit, number_of, symbol_of, lowest_bits}
use Rattle.cubes.specs.Laws.Bits.{one_from_bit, same_bits, zero_from_bit}
use Rattle.cubes.specs.Laws.Numbers.{length-symbol_of, number_below, number_of-symbol_of, symbol_of-number_of}
use Rattle.kiss_file.specs.declared.file.KissFile.{KissFile}
use Rattle.kiss_file.specs.Machine.{next}
use Rattle.machine_table.specs.NextStates.{NeverLeaves}
use Rattle.shift_real.specs.declared.contents.Content.{Content}
use Rattle.shift_real.specs.Inner.Contents.{AreContents, IsAtItsNumber, IsContentOf, IsOfSomeWord, content_after, contents_after, turned_bits}
use Rattle.shift_real.specs.Register.{state_after, word_number}
use Rattle.shift_real.specs.Words.{IsWord}
use Rattle.shift_real.proofs.Blocks.{from_block, image_at, image_from, in_block}
use Rattle.shift_real.proofs.LongerWords.{longer_latches, longer_next, longer_number, longer_word, no_symbols, shorter_word}

two_pos : 0 < 2
two_pos = omega arith

-- ---- bits of a number of two parts
pub code_bits_parts : (a b high low : ℕ) → low < 2 ^ a → lowest_bits (a + b) (high * 2 ^ a + low) ≡ lowest_bits a low ++ lowest_bits b high
code_bits_parts a b high low small =
    let whole : ℕ = high * 2 ^ a + low in
    let first : length (lowest_bits a low) ≡ a = length-map-range_with_len (bit low) 0 a in
    let second : length (lowest_bits b high) ≡ b = length-map-range_with_len (bit high) 0 b in
    let all : length (lowest_bits (a + b) whole) ≡ a + b = length-map-range_with_len (bit whole) 0 (a + b) in
    ext_get_or false (lowest_bits (a + b) whole) (lowest_bits a low ++ lowest_bits b high)
    (omega (arith, all, first, second, length-append (lowest_bits a low) (lowest_bits b high)))
    (λ i within.
    let below : i < a + b = omega (arith, within, all) in
    get_or-map-range_with_len (bit whole) 0 (a + b) i i false below (omega arith)
    ∙ elim (cases_lt i a) [
      | inl left ↦
          same_bits whole low i i (bit_at_cat_low high a low i left)
          ∙ (sym (get_or-map-range_with_len (bit low) 0 a i i false left (omega arith))
          ∙ sym (get_or_append_left (lowest_bits a low) (lowest_bits b high) false i (omega (arith, left, first))))
      | inr right ↦
          same_bits whole high i (i - a) (bit_at_cat_high high a low i small right)
          ∙ (sym (get_or-map-range_with_len (bit high) 0 b (i - a) (i - a) false (omega (arith, below, right)) (omega arith))
          ∙ sym (get_or-append_right (lowest_bits a low) (lowest_bits b high) a i false first right))
    ])

-- ---- the bits of a symbol, turned over
digit_below : (b : Bool) → (if b then 1 else 0) < 2 ^ 1
digit_below true = omega arith
digit_below false = omega arith

digit_bits : (b : Bool) → lowest_bits 1 (if b then 1 else 0) ≡ b ∷ []
digit_bits true = refl
digit_bits false = refl

one_digit : (p n : ℕ) (b : Bool) → n < 2 ^ p → 2 * n + (if b then 1 else 0) < 2 ^ suc p
one_digit p n true small = omega (arith, small)
one_digit p n false small = omega (arith, small)

pub turned_small : (places x : ℕ) → turned_bits places x < 2 ^ places
turned_small zero x = omega arith
turned_small (suc p) x = one_digit p (turned_bits p x) (bit x p) (turned_small p x)

pub turned_symbol : (places x : ℕ) → lowest_bits places (turned_bits places x) ≡ symbol_of places x
unfolding symbol_of
turned_symbol zero x = refl
turned_symbol (suc p) x =
    let b : ℕ = if bit x p then 1 else 0 in
    let t : ℕ = turned_bits p x in
    let double : 2 * t + b ≡ t * 2 ^ 1 + b = omega arith in
    let one_more : suc p ≡ 1 + p = omega arith in
    ap (λ (n : ℕ). lowest_bits (suc p) n) double
    ∙ (ap (λ (n : ℕ). lowest_bits n (t * 2 ^ 1 + b)) one_more
    ∙ (code_bits_parts 1 p t b (digit_below (bit x p))
    ∙ (ap (λ (bits : List Bool). bits ++ lowest_bits p t) (digit_bits (bit x p))
    ∙ ap (λ (bits : List Bool). bit x p ∷ bits) (turned_symbol p x))))

-- ---- no symbols
pub contents_none : (F : KissFile) (content : Content) → F.reset < length F.states → content.latches ≡ 0 → content.state ≡ F.reset → AreContents F 0 (content ∷ [])
unfolding number_of
contents_none F content within latches state = record { each = each; right = right }
  where
    none : 0 * F.inputs ≡ 0
    none = omega arith

    of_nothing : IsContentOf F 0 [] content
    of_nothing = record {
      latches = ap (λ (n : ℕ). lowest_bits n content.latches) none;
      small = (let power : 2 ^ (0 * F.inputs) ≡ 1 = ap (λ (n : ℕ). 2 ^ n) none in omega (arith, power, latches));
      state = state;
      within = subst (λ (s : ℕ). s < length F.states) (sym state) within;
    }

    each : (word : List (List Bool)) → IsWord F 0 word → IsAtItsNumber F 0 (content ∷ []) word
    each [] is = (content, refl, of_nothing)
    each (x ∷ word) is = absurd (let some = is.count in omega arith)

    right : (at : ℕ) (other : Content) → slice_get (content ∷ []) at ≡ Some other → IsOfSomeWord F 0 at other
    right zero other is = let same : content ≡ other = cc in ([], no_symbols F, refl, subst (IsContentOf F 0 []) same of_nothing)
    right (suc at) other is = absurd (cc)

pub alone : (new old : List Content) (content : Content) → old ≡ [] → new ≡ old ++ content ∷ [] → new ≡ content ∷ []
alone new old content none pushed = pushed ∙ ap (λ (list : List Content). list ++ content ∷ []) none

-- ---- one symbol more
module _ (F : KissFile) (k : ℕ) (stays : NeverLeaves F) where
  more_bits : F.inputs + k * F.inputs ≡ (k + 1) * F.inputs
  more_bits = omega (arith, add-mul k 1 F.inputs)

  one_longer : (word : List (List Bool)) (x : List Bool) (v : ℕ) (content : Content) → IsContentOf F k word content → length x ≡ F.inputs → symbol_of F.inputs v ≡ x
      → IsContentOf F (k + 1) (word ++ x ∷ []) (content_after F content v)
  one_longer word x v content is long written =
      let low : ℕ = turned_bits F.inputs v in
      let value : ℕ = content.latches * 2 ^ F.inputs + low in
      record {
        latches = ap (λ (n : ℕ). lowest_bits n value) (sym more_bits)
            ∙ (code_bits_parts F.inputs (k * F.inputs) content.latches low (turned_small F.inputs v)
            ∙ (ap (λ (bits : List Bool). bits ++ lowest_bits (k * F.inputs) content.latches) (turned_symbol F.inputs v ∙ written)
            ∙ (ap (λ (bits : List Bool). x ++ bits) is.latches ∙ sym (longer_latches word x))));
        small =
            let power : 2 ^ ((k + 1) * F.inputs) ≡ 2 ^ F.inputs * 2 ^ (k * F.inputs) = ap (λ (n : ℕ). 2 ^ n) (sym more_bits) ∙ pow-add 2 F.inputs (k * F.inputs) in
            omega (arith, power, mul-add-lt content.latches (2 ^ F.inputs) low (2 ^ (k * F.inputs)) is.small (turned_small F.inputs v));
        state = ap (λ (s : ℕ). next F s (symbol_of F.inputs v)) is.state ∙ (ap (next F (state_after F word)) written ∙ sym (longer_next F F.reset word x));
        within = stays content.state (symbol_of F.inputs v) is.within (length-symbol_of F.inputs v);
      }

  block_size : (content : Content) → length (contents_after F content) ≡ 2 ^ F.inputs
  block_size content = length-map-range_with_len (content_after F content) 0 (2 ^ F.inputs)

  module _ (contents : List Content) (before : AreContents F k contents) where
    each_longer : (word : List (List Bool)) → IsWord F (k + 1) word → IsAtItsNumber F (k + 1) (flat_map (contents_after F) contents) word
    each_longer word is =
        let parts = shorter_word F k word is in
        let found = before.each parts.word parts.is_word in
        let v : ℕ = number_of parts.x in
        let below : v < 2 ^ F.inputs = subst (λ (n : ℕ). v < 2 ^ n) parts.symbol (number_below parts.x) in
        let written : symbol_of F.inputs v ≡ parts.x = ap (λ (n : ℕ). symbol_of n v) (sym parts.symbol) ∙ symbol_of-number_of parts.x in
        let number : word_number (parts.word ++ parts.x ∷ []) ≡ word_number parts.word * 2 ^ F.inputs + v =
        longer_number parts.word parts.x ∙ ap (λ (n : ℕ). word_number parts.word * 2 ^ n + v) parts.symbol in
        let there : slice_get (flat_map (contents_after F) contents) (word_number parts.word * 2 ^ F.inputs + v) ≡ Some (content_after F found.0 v) =
        in_block (contents_after F) (2 ^ F.inputs) block_size contents (word_number parts.word) v found.0 (content_after F found.0 v) found.1
        (image_at (content_after F found.0) (2 ^ F.inputs) v below) in
        subst (IsAtItsNumber F (k + 1) (flat_map (contents_after F) contents)) (sym parts.is)
        (content_after F found.0 v, ap (slice_get (flat_map (contents_after F) contents)) number ∙ there, one_longer parts.word parts.x v found.0 found.2 parts.symbol written)

    right_longer : (at : ℕ) (content : Content) → slice_get (flat_map (contents_after F) contents) at ≡ Some content → IsOfSomeWord F (k + 1) at content
    right_longer at content is =
        let found = from_block (contents_after F) (2 ^ F.inputs) block_size contents at content is in
        let image = image_from (content_after F found.x) (2 ^ F.inputs) found.j content found.item in
        let old = before.right found.i found.x found.block in
        let x : List Bool = symbol_of F.inputs found.j in
        let long : length x ≡ F.inputs = length-symbol_of F.inputs found.j in
        let value : number_of x ≡ found.j = number_of-symbol_of F.inputs found.j ∙ mod-eq_of_lt image.0 in
        let number : word_number (old.0 ++ x ∷ []) ≡ at =
        longer_number old.0 x
        ∙ (ap (λ (n : ℕ). word_number old.0 * 2 ^ n + number_of x) long
        ∙ (ap (λ (n : ℕ). n * 2 ^ F.inputs + number_of x) old.2 ∙ (ap (λ (n : ℕ). found.i * 2 ^ F.inputs + n) value ∙ sym found.place))) in (
          old.0 ++ x ∷ [],
          longer_word F k old.0 x old.1 long,
          number,
          subst (IsContentOf F (k + 1) (old.0 ++ x ∷ [])) image.1 (one_longer old.0 x found.j found.x old.3 long refl),
        )

    pub contents_more : AreContents F (k + 1) (flat_map (contents_after F) contents)
    contents_more = record { each = each_longer; right = right_longer }

-- ---- what holds of each content
pub contents_within : (F : KissFile) (k : ℕ) (contents : List Content) → AreContents F k contents → All (λ content. content.state < length F.states) contents
contents_within F k contents are i d lt =
    let at : slice_get contents i ≡ Some (get_or contents i d) = slice_get-get_or contents i d lt in
    (are.right i (get_or contents i d) at).3.within

pub contents_small : (F : KissFile) (k : ℕ) (contents : List Content) → k * F.inputs ≤ 12 → AreContents F k contents → All (λ content. content.latches < 4096) contents
contents_small F k contents short are i d lt =
    let at : slice_get contents i ≡ Some (get_or contents i d) = slice_get-get_or contents i d lt in
    let small = (are.right i (get_or contents i d) at).3.small in
    let bound : 2 ^ (k * F.inputs) ≤ 2 ^ 12 = pow-le-pow_right two_pos short in
    omega (arith, small, bound)

-- ---- the loop over the places of a symbol
pub turned_more : (places x : ℕ) → turned_bits (places + 1) x ≡ 2 * turned_bits places x + bit_at x places
turned_more p x =
    let one_more : p + 1 ≡ suc p = omega arith in
    ap (λ (n : ℕ). turned_bits n x) one_more
    ∙ elim (cases_Bool (bit x p)) [
      | inl t ↦ ap (λ (b : Bool). 2 * turned_bits p x + (if b then 1 else 0)) t ∙ ap (λ (n : ℕ). 2 * turned_bits p x + n) (sym (one_from_bit x p t))
      | inr f ↦ ap (λ (b : Bool). 2 * turned_bits p x + (if b then 1 else 0)) f ∙ ap (λ (n : ℕ). 2 * turned_bits p x + n) (sym (zero_from_bit x p f))
    ]

pub turned_fits : (places x : ℕ) → places < 32 → turned_bits places x < 2 ^ 32
turned_fits p x few =
    let below : p ≤ 32 = omega (arith, few) in
    let bound : 2 ^ p ≤ 2 ^ 32 = pow-le-pow_right two_pos below in
    omega (arith, turned_small p x, bound)

-- ---- the loops
pub next_content_is : (F : KissFile) (content : Content) (x latches state : ℕ) → latches ≡ content.latches * 2 ^ F.inputs + turned_bits F.inputs x → state ≡ next F content.state (symbol_of F.inputs x)
    → record { latches = latches; state = state } ≡ content_after F content x
next_content_is F content x latches state is_latches is_state =
    let by_latches : ℕ → Content = λ n. record { latches = n; state = state } in
    let by_state : ℕ → Content = λ s. record { latches = content.latches * 2 ^ F.inputs + turned_bits F.inputs x; state = s } in
    ap by_latches is_latches ∙ ap by_state is_state

pub next_contents_more : (F : KissFile) (shorter : List Content) (i : ℕ) (d : Content) (old new : List Content) → i < length shorter → old ≡ flat_map (contents_after F) (take i shorter)
    → new ≡ old ++ contents_after F (get_or shorter i d) → new ≡ flat_map (contents_after F) (take (i + 1) shorter)
next_contents_more F shorter i d old new within before added =
    let content : Content = get_or shorter i d in
    added
    ∙ (ap (λ (list : List Content). list ++ contents_after F content) before
    ∙ (flat_map_more (contents_after F) [] (take i shorter) content ∙ ap (flat_map (contents_after F)) (sym (take_more shorter i d within))))

pub contents_step : (F : KissFile) (k : ℕ) (contents shorter longer : List Content) → NeverLeaves F → AreContents F k contents → shorter ≡ contents → longer ≡ flat_map (contents_after F) shorter → AreContents F (k + 1) longer
contents_step F k contents shorter longer stays before same is =
    subst (AreContents F (k + 1)) (sym (is ∙ ap (flat_map (contents_after F)) same)) (contents_more F k stays contents before)

pub few_inputs : (k n count : ℕ) → k * n ≤ 12 → count < k → n ≤ 12
few_inputs zero n count short below = absurd (omega arith)
few_inputs (suc k) n count short below = omega (arith, short, suc-mul k n)

pub few_bits : (k n count : ℕ) → k * n ≤ 12 → count < k → count * n ≤ 12
few_bits k n count short below =
    let up : count ≤ k = omega (arith, below) in
    omega (arith, short, mul-le-mul_right n up)
