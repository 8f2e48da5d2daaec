-- The machine of a part goes from block to block as the work machine does, and gives the part's bits or the outputs.
use Rattle.std.proofs.Common.{◌≡◌, ℕ, ◌+◌, ◌<◌, Bool, false, true, All, List, None, Option, Some, get_or, length, map, refl, sym, ◌∙◌, subst, arith}
use Rattle.std.specs.Option.{is_some}
use Rattle.std.proofs.lemmas.List.{ext_get_or, get_or-map, get_or-replicate, length-map}
use Rattle.std.proofs.lemmas.List.Elements.{Contains-get_or}
use Rattle.std.proofs.lemmas.List.FromFn.{get_or-map-range_with_len, length-map-range_with_len}
use Rattle.cubes.specs.Symbol.{bit}
use Rattle.dependence.specs.declared.sets.ReadSet.{ReadSet}
use Rattle.dependence.specs.declared.sets.Reads.{Reads}
use Rattle.kiss_file.specs.declared.file.KissFile.{KissFile}
use Rattle.kiss_file.specs.Machine.{Conflicting, given_bit, next, out, output_bit}
use Rattle.kiss_file.specs.Laws.Machine.{next_said, output_bit_said}
use Rattle.partition.specs.Partition.{Together, one_of}
use Rattle.realise.specs.Laws.{EqualReads}
use Rattle.realise.specs.Rows.{read_values}
use Rattle.state_codes.specs.declared.split.Part.{Part}
use Rattle.state_codes.specs.declared.Codes.{Codes}
use Rattle.state_codes.specs.declared.which.Which.{Which}
use Rattle.state_codes.specs.declared.which.Which.TheVariants.{Part as Numbered, Outputs}
use Rattle.part_machines.specs.MachineLaws.{IsSplitOf}
use Rattle.part_machines.specs.PartMachine.{FollowsSteps, IsOfMoore, outputs_at}
use Rattle.part_machines.specs.PartRows.{ArePartRows, output_count}
use Rattle.part_machines.specs.PartSet.{IsPartSet}
use Rattle.part_machines.specs.Which.{own_bits, partition_of}
use Rattle.part_machines.specs.Laws.Blocks.{next_together, output_same, own_agree}
use Rattle.part_machines.proofs.Conflicts.{given_same, right_next, right_output, target, target_of}
use Rattle.part_machines.proofs.Reached.{IsReached, IsStep, step}
use Rattle.part_machines.proofs.Specified.{decided, own_given, reached_at}

-- what there is
there_is : {X : Type 0} (o : Option X) → is_some o ≡ true → (x : X) × (o ≡ Some x)
there_is None is = absurd (cc)
there_is (Some x) is = (x, refl)

module _ (W : KissFile) (parts : List Part) (code : Codes) (sets : Reads) (known : IsSplitOf W parts code sets) (equal : EqualReads)
    (p : List ℕ) (set : ReadSet) (inputs : All (λ a. a < W.inputs) set.inputs) (states : length p ≡ length W.states) (P : KissFile) (apart : Conflicting P → ⊥) where
  -- what is known of the machine that is meant
  pub record IsMeant (which : Which) : Type 0 where
    pub blocks_are : partition_of W parts which ≡ Some p
    pub reads : IsPartSet code sets which set
    pub are : ArePartRows W code p set which P.rows
    pub outputs : P.outputs ≡ output_count W code which
    pub some : 0 < P.outputs

  module _ (s : ℕ) (x : List Bool) (in_s : s < length W.states) (long : length x ≡ W.inputs) where
    abbrev y : List Bool
    y = read_values code.words set s x

    abbrev t : ℕ
    t = get_or p s 0

    steps : IsStep W code p set s x
    steps = step W code p set s (omega (arith, in_s, states)) x long

    in_least : steps.at.s < length W.states
    in_least = omega (arith, steps.at.least.state, states)

    -- the block of the next state
    target_is : (which : Which) → IsMeant which → target_of p which (next W steps.at.s steps.at.x) ≡ get_or p (next W s x) 0
    target_is (Numbered j) meant =
        next_together W parts code sets known equal (Numbered j) p meant.blocks_are set meant.reads steps.at.s s steps.at.x x in_least in_s steps.together steps.at.long long steps.same_read
    target_is Outputs meant =
        let one : one_of (length W.states) ≡ p = cc in
        subst (λ (q : List ℕ). 0 ≡ get_or q (next W s x) 0) one (sym (get_or-replicate (length W.states) (next W s x) 0 0 (known.stays s x in_s long)))

    pub next_is : (which : Which) → IsMeant which → next P t y ≡ get_or p (next W s x) 0
    next_is which meant =
        let row = decided W code p set which P meant.are inputs t y steps.at 0 (omega (arith, meant.some, meant.outputs)) in
        let named = there_is row.row.to row.names in
        next_said P t y apart row.row named.0 row.there named.1
        ∙ (target W p which row.found.source row.row steps.at.s steps.at.x named.0 row.found.made.to
        (λ n names.
        right_next W code p set which inputs meant.reads.inputs_ascend row.found.source steps.at.s n steps.at.x row.found.right steps.at.long row.found.source_held names)
        named.1
        ∙ target_is which meant)

  -- ---- outputs of a part
  module _ (j : ℕ) (meant : IsMeant (Numbered j)) (s : ℕ) (in_s : s < length W.states) (y : List Bool) (at : IsReached W code p set (get_or p s 0) y) where
    t_of : ℕ
    t_of = get_or p s 0

    own_bit_is : (b : ℕ) → b < output_count W code (Numbered j) → output_bit P (get_or p s 0) y b ≡ bit (get_or code.words s 0) (get_or (own_bits code (Numbered j)) b 0)
    own_bit_is b below =
        let row = decided W code p set (Numbered j) P meant.are inputs (get_or p s 0) y at b below in
        let c : ℕ = get_or (own_bits code (Numbered j)) b 0 in
        let in_at : at.s < length W.states = omega (arith, at.least.state, states) in
        let together : Together p at.s s = (at.least.state, omega (arith, in_s, states), at.block) in
        output_bit_said P (get_or p s 0) y apart row.row b (bit (get_or code.words at.s 0) c) row.there (own_given W code j at.s b row.found.source row.row below row.found.made.output)
        ∙ own_agree W parts code sets known (Numbered j) p meant.blocks_are at.s s in_at in_s together c (Contains-get_or (own_bits code (Numbered j)) b 0 below)

    pub part_gives : out P (get_or p s 0) y ≡ outputs_at W code (Numbered j) s y
    part_gives =
        let own : List ℕ = own_bits code (Numbered j) in
        let one : length (out P (get_or p s 0) y) ≡ P.outputs = length-map-range_with_len (output_bit P (get_or p s 0) y) 0 P.outputs in
        let other : length (map (bit (get_or code.words s 0)) own) ≡ length own = length-map own (bit (get_or code.words s 0)) in
        ext_get_or false (out P (get_or p s 0) y) (map (bit (get_or code.words s 0)) own) (one ∙ (meant.outputs ∙ sym other))
        (λ b low.
        let below : b < P.outputs = omega (arith, low, one) in
        let within : b < length own = omega (arith, below, meant.outputs) in
        get_or-map-range_with_len (output_bit P (get_or p s 0) y) 0 P.outputs b b false below (omega arith)
        ∙ (own_bit_is b within ∙ sym (get_or-map (bit (get_or code.words s 0)) own b 0 false within)))

  -- ---- outputs of the machine of the outputs
  module _ (meant : IsMeant Outputs) (s : ℕ) (x : List Bool) (in_s : s < length W.states) (long : length x ≡ W.inputs) where
    output_is : (b : ℕ) → b < W.outputs → output_bit P (get_or p s 0) (read_values code.words set s x) b ≡ output_bit W s x b
    output_is b below =
        let way : IsStep W code p set s x = steps s x in_s long in
        let row = decided W code p set Outputs P meant.are inputs (get_or p s 0) (read_values code.words set s x) way.at b below in
        let given = there_is (given_bit b row.row) row.gives in
        let same : given_bit b row.row ≡ given_bit b row.found.source = given_same row.row row.found.source W.outputs row.found.made.output b below in
        output_bit_said P (get_or p s 0) (read_values code.words set s x) apart row.row b given.0 row.there given.1
        ∙ (sym (right_output W code p set Outputs inputs meant.reads.inputs_ascend row.found.source way.at.s b given.0 way.at.x row.found.right way.at.long row.found.source_held (sym same ∙ given.1))
        ∙ output_same W parts code sets known equal p meant.blocks_are set meant.reads way.at.s s way.at.x x (omega (arith, way.at.least.state, states)) in_s way.together way.at.long long way.same_read b below)

    pub outputs_given : out P (get_or p s 0) (read_values code.words set s x) ≡ out W s x
    outputs_given =
        let y : List Bool = read_values code.words set s x in
        let one : length (out P (get_or p s 0) y) ≡ P.outputs = length-map-range_with_len (output_bit P (get_or p s 0) y) 0 P.outputs in
        let other : length (out W s x) ≡ W.outputs = length-map-range_with_len (output_bit W s x) 0 W.outputs in
        ext_get_or false (out P (get_or p s 0) y) (out W s x) (one ∙ (meant.outputs ∙ sym other))
        (λ b low.
        let below : b < P.outputs = omega (arith, low, one) in
        let within : b < W.outputs = omega (arith, below, meant.outputs) in
        get_or-map-range_with_len (output_bit P (get_or p s 0) y) 0 P.outputs b b false below (omega arith)
        ∙ (output_is b within ∙ sym (get_or-map-range_with_len (output_bit W s x) 0 W.outputs b b false within (omega arith))))

  -- ---- both machines
  gives_by : (which : Which) → IsMeant which → (s : ℕ) (x : List Bool) → s < length W.states → length x ≡ W.inputs
      → out P (get_or p s 0) (read_values code.words set s x) ≡ outputs_at W code which s x
  gives_by (Numbered j) meant s x in_s long = part_gives j meant s in_s (read_values code.words set s x) (steps s x in_s long).at
  gives_by Outputs meant s x in_s long = outputs_given meant s x in_s long

  pub follows_steps : (which : Which) → IsMeant which → FollowsSteps W code p set which P
  follows_steps which meant =
      record {
        next_block = λ s x in_s long. next_is s x in_s long which meant;
        gives = λ s x in_s long. gives_by which meant s x in_s long;
      }

  pub is_of_moore : (which : Which) → IsMeant which → P.inputs ≡ length set.inputs + length set.latches
      → ((t : ℕ) → t < length P.states → (s : ℕ) × (s < length p) × (get_or p s 0 ≡ t)) → IsOfMoore which P
  is_of_moore (Numbered j) meant wide stands =
      λ t x y low long_x long_y.
      let state = stands t low in
      let in_s : state.0 < length W.states = omega (arith, state.1, states) in
      let at : (z : List Bool) → length z ≡ P.inputs → out P t z ≡ outputs_at W code (Numbered j) state.0 z =
      λ z long_z.
      subst (λ (block : ℕ). out P block z ≡ outputs_at W code (Numbered j) state.0 z) state.2
      (part_gives j meant state.0 in_s z
      (subst (λ (block : ℕ). IsReached W code p set block z) (sym state.2)
      (reached_at W code p set (Numbered j) P meant.are inputs meant.reads.inputs_ascend wide meant.outputs meant.some stands t z low long_z))) in
      at x long_x ∙ sym (at y long_y)
  is_of_moore Outputs meant wide stands = tt
