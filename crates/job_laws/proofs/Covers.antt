-- Two networks of one cover have the same comments and are equal but for the rows of their gates.
use Rattle.std.proofs.Common.{◌≡◌, ◌∙◌, ℕ, ◌<◌, ◌≤◌, ◌++◌, All, List, [], ◌∷◌, Some, length, slice_get, map, sym, ap, subst, arith}
use Rattle.std.proofs.lemmas.List.{ext_get_or, length-append, length-map}
use Rattle.std.proofs.lemmas.List.Elements.{All-head, All-tail}
use Rattle.blif_out.specs.declared.header.LatchNote.{LatchNote}
use Rattle.blif_out.specs.declared.networks.CommentedNetwork.{CommentedNetwork}
use Rattle.cover_split.proofs.Outcomes.{same_blocks}
use Rattle.cover_split.specs.Expansion.{IsExpansion, IsPair, pairs_of}
use Rattle.cover_split.specs.Laws.Pairs.{some_pair}
use Rattle.cover_split.specs.Parts.{IsByBlock, IsSplitByBlock}
use Rattle.cover_texts.specs.CoverText.{IsCoverNetwork, IsNetworkOfPairs}
use Rattle.cover_texts.specs.Lines.{cover_comments}
use Rattle.decomposition.specs.Decomposition.{HasGates}
use Rattle.decomposition.specs.Laws.Lists.{zip_each}
use Rattle.decomposition.specs.Laws.ReadOnce.{reads_once}
use Rattle.dependence.specs.declared.sets.Reads.{Reads}
use Rattle.dependence.specs.Reads.{AreReads}
use Rattle.job_laws.proofs.Expansions.{next_alike, output_alike, same_inputs, same_outputs, same_reset, same_states, states_counted}
use Rattle.job_laws.proofs.ReadAlike.{reads_as}
use Rattle.job_laws.specs.Networks.{CoversDifferInRows}
use Rattle.kiss_file.specs.declared.file.KissFile.{KissFile}
use Rattle.net_core.specs.declared.Gate.{Gate}
use Rattle.net_core.specs.declared.Latch.{Latch}
use Rattle.net_core.specs.declared.Network.{Network}
use Rattle.net_core.specs.declared.SignalNames.{SignalNames}
use Rattle.partition.specs.Laws.Labels.{same_labels}
use Rattle.partition.specs.NestedBlocks.{IsComplement}
use Rattle.partition.specs.Partition.{Together}
use Rattle.realise.specs.CodeNetwork.{IsRealised}
use Rattle.split_texts.specs.Laws.Names.{names_once}
use Rattle.state_codes.specs.Code.{IsCode}
use Rattle.state_codes.specs.declared.Codes.{Codes}
use Rattle.state_codes.specs.declared.split.Part.{Part}
use Rattle.state_codes.specs.Kinds.{IsOwnCarrier}
use Rattle.state_codes.specs.Laws.Codes.{codes_are_one}
use Rattle.text_laws.specs.Laws.Nets.{as_many_gates, equal_nets}
use Rattle.text_laws.specs.Laws.Notes.{notes_once}
use Rattle.text_laws.specs.Rows.{EqualButForRows, HasSameSignals}

-- ---- the parts
same_part : (a b c d e f : List ℕ) → a ≡ b → c ≡ d → e ≡ f
    → ◌≡◌ {A = Part} (record { partition = a; carrier = c; reads = e }) (record { partition = b; carrier = d; reads = f })
same_part a b c d e f p q r = cc

-- states that are together by one partition by blocks are together by another
held_by : (blocks : List (List ℕ)) (p q : List ℕ) → IsByBlock blocks p → IsByBlock blocks q → (i k : ℕ) → Together p i k → Together q i k
held_by blocks p q one two i k held =
    let (j, s, pair) = some_pair blocks i (omega (arith, held.0, one.lawful.length)) in
    let (l, t, pair_too) = some_pair blocks k (omega (arith, held.1, one.lawful.length)) in
    (two.together i j s k l t pair pair_too).1 ((one.together i j s k l t pair pair_too).0 held)

by_block_once : (blocks : List (List ℕ)) (p q : List ℕ) → IsByBlock blocks p → IsByBlock blocks q → p ≡ q
by_block_once blocks p q one two =
    same_labels p q one.lawful.numbered two.lawful.numbered (one.lawful.length ∙ sym two.lawful.length)
    (λ i k. (held_by blocks p q one two i k, held_by blocks q p two one i k))

complement_once : (p r o : List ℕ) → IsComplement p r → IsComplement p o → r ≡ o
complement_once p r o one two =
    ext_get_or 0 r o (one.lawful.length ∙ sym two.lawful.length) (λ s within.
    let low : s < length p = omega (arith, within, one.lawful.length) in one.numbers s low ∙ sym (two.numbers s low))

-- a part that is its own carrier
own_part_once : (one other : Part) → IsOwnCarrier one → IsOwnCarrier other → one.partition ≡ other.partition → one.reads ≡ other.reads → one ≡ other
own_part_once one other own own_too partition reads =
    same_part one.partition other.partition one.carrier other.carrier one.reads other.reads partition (own ∙ (partition ∙ sym own_too)) reads

same_two : (a b c d : Part) → a ≡ b → c ≡ d → ◌≡◌ {A = List Part} (a ∷ c ∷ []) (b ∷ d ∷ [])
same_two a b c d p q = cc

-- the parts are their own carriers
firsts_own : (parts : List Part) (first second : Part) → parts ≡ first ∷ second ∷ [] → All IsOwnCarrier parts → IsOwnCarrier first × IsOwnCarrier second
firsts_own parts first second is own =
    let both : All IsOwnCarrier (first ∷ second ∷ []) = subst (λ (list : List Part). All IsOwnCarrier list) is own in
    (All-head IsOwnCarrier first (second ∷ []) both, All-head IsOwnCarrier second [] (All-tail IsOwnCarrier first (second ∷ []) both))

split_once : (blocks : List (List ℕ)) (parts others : List Part) → IsSplitByBlock blocks parts → IsSplitByBlock blocks others → parts ≡ others
split_once blocks parts others one two =
    let own = firsts_own parts one.first one.second one.two one.own in
    let own_too = firsts_own others two.first two.second two.two two.own in
    let front : one.first.partition ≡ two.first.partition = by_block_once blocks one.first.partition two.first.partition one.by_block two.by_block in
    let back : one.second.partition ≡ two.second.partition =
    complement_once one.first.partition one.second.partition two.second.partition one.complement
    (subst (λ (p : List ℕ). IsComplement p two.second.partition) (sym front) two.complement) in
    one.two
    ∙ (same_two one.first two.first one.second two.second
    (own_part_once one.first two.first own.0 own_too.0 front (one.first_reads ∙ sym two.first_reads))
    (own_part_once one.second two.second own.1 own_too.1 back (one.second_reads ∙ sym two.second_reads)) ∙ sym two.two)

-- ---- the networks of one cover, with its parts and codes
module _ (F : KissFile) (text : List ℕ) (blocks : List (List ℕ)) (E D : KissFile) (parts : List Part) (codes : Codes) (notes more : List LatchNote) (comments others : List ℕ) (N M : Network)
    (one : IsNetworkOfPairs F text blocks E parts codes notes comments N) (two : IsNetworkOfPairs F text blocks D parts codes more others M) where
  same_reads : one.gates.sets ≡ two.gates.sets
  same_reads =
      let turned : AreReads D parts codes one.gates.sets =
      reads_as E D parts codes one.gates.sets (same_outputs F blocks one.cover.lawful E D one.expansion two.expansion)
      (next_alike F blocks one.cover.lawful E D one.expansion two.expansion codes.words)
      (output_alike F blocks one.cover.lawful E D one.expansion two.expansion) one.gates.by_rule in
      reads_once D parts codes one.gates.sets two.gates.sets turned two.gates.by_rule

  same_names : one.gates.names ≡ two.gates.names
  same_names = names_once F codes.bits one.gates.names two.gates.names one.gates.own two.gates.own

  realised : IsRealised D codes.bits codes.words one.gates.sets one.gates.names M
  realised =
      subst (λ (sets : Reads). IsRealised D codes.bits codes.words sets one.gates.names M) (sym same_reads)
      (subst (λ (names : SignalNames). IsRealised D codes.bits codes.words two.gates.sets names M) (sym same_names) two.gates.realised)

  nets : EqualButForRows N M
  nets =
      equal_nets E D (same_outputs F blocks one.cover.lawful E D one.expansion two.expansion) (same_reset F blocks one.cover.lawful E D one.expansion two.expansion)
      codes.bits codes.words one.gates.sets one.gates.names N M one.gates.by_rule.latch_count one.gates.by_rule.output_count one.gates.realised realised

  gate_count : length N.gates ≡ length M.gates
  gate_count =
      as_many_gates E D (same_outputs F blocks one.cover.lawful E D one.expansion two.expansion) (same_reset F blocks one.cover.lawful E D one.expansion two.expansion)
      codes.bits codes.words one.gates.sets one.gates.names N M one.gates.by_rule.latch_count one.gates.by_rule.output_count one.gates.realised realised

  -- each latch has a gate
  few_latches : length N.latches ≤ length N.gates
  few_latches =
      let driven : length (map (λ (gate : Gate). gate.output) N.gates) ≡ length (map (λ (latch : Latch). latch.input) N.latches ++ N.outputs) = ap (λ (names : List (List ℕ)). length names) one.pairs.gates in
      omega (arith, driven, length-map N.gates (λ (gate : Gate). gate.output), length-append (map (λ (latch : Latch). latch.input) N.latches) N.outputs, length-map N.latches (λ (latch : Latch). latch.input))

  same_notes : notes ≡ more
  same_notes =
      notes_once E D (same_states F blocks one.cover.lawful E D one.expansion two.expansion) codes.words N M nets.latches
      (λ i gate twin there there_too. (zip_each HasSameSignals N.gates M.gates nets.gates i gate twin there there_too).inputs)
      notes more (one.noted ∙ (ap (λ (latches : List Latch). length latches) nets.latches ∙ sym two.noted)) gate_count
      (omega (arith, one.noted, few_latches))
      (λ i note another there there_too. one.owners i note there ∙ sym (two.owners i another there_too))
      one.pairs two.pairs

  pub differ : (comments ≡ others) × EqualButForRows N M
  differ = (one.told ∙ (ap (cover_comments F.states blocks codes.bits codes.words) same_notes ∙ sym two.told), nets)

-- the text determines the blocks, these the parts, and these the codes
pub covers_differ_in_rows : CoversDifferInRows
unfolding IsCoverNetwork
covers_differ_in_rows F text made more (blocks, E, parts, codes, notes, one) (others, D, pieces, words, marks, two) =
    let same : others ≡ blocks = same_blocks (length F.states) text others blocks one.cover.count.1 two.spelled one.spelled in
    let of_blocks : IsNetworkOfPairs F text blocks D pieces words marks more.comments more.network =
    subst (λ (list : List (List ℕ)). IsNetworkOfPairs F text list D pieces words marks more.comments more.network) same two in
    let same_parts : pieces ≡ parts = split_once blocks pieces parts of_blocks.split one.split in
    let of_parts : IsNetworkOfPairs F text blocks D parts words marks more.comments more.network =
    subst (λ (list : List Part). IsNetworkOfPairs F text blocks D list words marks more.comments more.network) same_parts of_blocks in
    let same_codes : words ≡ codes = codes_are_one (length (pairs_of blocks)) parts words codes of_parts.code one.code in
    differ F text blocks E D parts codes notes marks made.comments more.comments made.network more.network one
    (subst (λ (c : Codes). IsNetworkOfPairs F text blocks D parts c marks more.comments more.network) same_codes of_parts)
