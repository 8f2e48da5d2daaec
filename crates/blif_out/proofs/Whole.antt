-- The whole text, as it is appended, and what it denotes.
use Rattle.std.proofs.Common.{◌≡◌, ℕ, List, [], ◌∷◌, ◌++◌, map, length, subst, sym, ap, ◌∙◌, refl, append_assoc, codes}
use Rattle.std.specs.List.{flat_map, enumerate_from, zip, AllByRecursion}
use Rattle.std.proofs.lemmas.Grind.{flat_map-append}
use Rattle.std.proofs.lemmas.List.Folds.{flat_map-map}
use Rattle.list_facts.specs.Laws.Everywhere.{each_append}
use Rattle.hs_io.specs.Spelling.{ended, line_text, ArePlainFields, IsComment}
use Rattle.net_core.specs.declared.Gate.{Gate}
use Rattle.net_core.specs.declared.Network.{Network}
use Rattle.net_core.specs.Denotation.{Denotes}
use Rattle.net_core.specs.Words.{inputs_word, outputs_word, names_word, end_word}
use Rattle.blif_out.specs.declared.design.Design.{Design}
use Rattle.blif_out.specs.declared.header.Header.{Header}
use Rattle.blif_out.specs.Design.{IsDesignOf}
use Rattle.blif_out.specs.Head.{Head, net_text_of, head_lines, head_fields, comment_text, kind_fields, classes_fields, part_fields, state_fields, note_fields}
use Rattle.blif_out.specs.NetText.{net_text, gate_fields, latch_fields, model_fields, row_fields}
use Rattle.blif_out.specs.Writable.{IsWritable}
use Rattle.blif_out.specs.Inner.Pieces.{row_line, latch_line, gate_lines, part_line, state_line, note_line}
use Rattle.blif_out.proofs.Denoting.{net_denotes}
use Rattle.blif_out.specs.Laws.Visible.{head_comments}

-- a statement as a line
abbrev line : List (List ℕ) → List ℕ
line fields = ended (line_text fields)

-- a comment as a line
abbrev comment : List (List ℕ) → List ℕ
comment fields = ended (comment_text fields)

-- the lines of a gate are that of its names and those of its rows
pub gate_lines-are : (gate : Gate) → line (names_word ∷ (gate.inputs ++ gate.output ∷ [])) ++ flat_map row_line gate.rows ≡ gate_lines gate
gate_lines-are gate =
    ap (λ (t : List ℕ). line (names_word ∷ (gate.inputs ++ gate.output ∷ [])) ++ t) (sym (flat_map-map line row_fields gate.rows))

gates-are : (gates : List Gate) → flat_map line (flat_map gate_fields gates) ≡ flat_map gate_lines gates
gates-are [] = refl
gates-are (gate ∷ gates) =
    flat_map-append line (gate_fields gate) (flat_map gate_fields gates) ∙ ap (λ (t : List ℕ). gate_lines gate ++ t) (gates-are gates)

in_a_row : (m i o l g e : List ℕ) → (((m ++ (i ++ o)) ++ l) ++ g) ++ e ≡ m ++ (i ++ (o ++ (l ++ (g ++ e))))
in_a_row m i o l g e = simp append_assoc

-- the parts of the text of a network
pub net_text-is : (design : Design) (N : Network) → (((line (model_fields design) ++ (line (inputs_word ∷ N.inputs) ++ line (outputs_word ∷ N.outputs))) ++ flat_map (latch_line design) N.latches) ++ flat_map gate_lines N.gates) ++ codes ".end\n" ≡ net_text design N
net_text-is design N =
    let model : List ℕ = line (model_fields design) in
    let latches : List (List (List ℕ)) = map (latch_fields design) N.latches in
    let gates : List (List (List ℕ)) = flat_map gate_fields N.gates in
    let last : List (List (List ℕ)) = (end_word ∷ []) ∷ [] in
    let parts : flat_map line ((latches ++ gates) ++ last) ≡ flat_map (latch_line design) N.latches ++ (flat_map gate_lines N.gates ++ codes ".end\n") =
    flat_map-append line (latches ++ gates) last
    ∙ ap (λ (t : List ℕ). t ++ codes ".end\n") (flat_map-append line latches gates)
    ∙ append_assoc (flat_map line latches) (flat_map line gates) (codes ".end\n")
    ∙ ap (λ (t : List ℕ). t ++ (flat_map line gates ++ codes ".end\n")) (flat_map-map line (latch_fields design) N.latches)
    ∙ ap (λ (t : List ℕ). flat_map (latch_line design) N.latches ++ (t ++ codes ".end\n")) (gates-are N.gates) in
    in_a_row model (line (inputs_word ∷ N.inputs)) (line (outputs_word ∷ N.outputs)) (flat_map (latch_line design) N.latches) (flat_map gate_lines N.gates) (codes ".end\n")
    ∙ ap (λ (t : List ℕ). model ++ (line (inputs_word ∷ N.inputs) ++ (line (outputs_word ∷ N.outputs) ++ t))) (sym parts)

in_order : (k c p s l : List ℕ) → (((k ++ c) ++ p) ++ s) ++ l ≡ k ++ (((c ++ p) ++ s) ++ l)
in_order k c p s l = simp append_assoc

-- the parts of a header
pub head_text-is : (H : Header) → (((comment (kind_fields H.kind) ++ flat_map comment (classes_fields H.classes)) ++ flat_map part_line (enumerate_from 0 H.parts)) ++ flat_map (state_line (length H.latches)) (zip H.states H.words)) ++ flat_map note_line (enumerate_from 0 H.latches) ≡ flat_map ended (head_lines H)
head_text-is H =
    let bits : ℕ = length H.latches in
    let k : List ℕ = comment (kind_fields H.kind) in
    let c : List (List (List ℕ)) = classes_fields H.classes in
    let p : List (List (List ℕ)) = map part_fields (enumerate_from 0 H.parts) in
    let s : List (List (List ℕ)) = map (state_fields bits) (zip H.states H.words) in
    let l : List (List (List ℕ)) = map note_fields (enumerate_from 0 H.latches) in
    let parts : flat_map comment p ≡ flat_map part_line (enumerate_from 0 H.parts) = flat_map-map comment part_fields (enumerate_from 0 H.parts) in
    let states : flat_map comment s ≡ flat_map (state_line bits) (zip H.states H.words) = flat_map-map comment (state_fields bits) (zip H.states H.words) in
    let notes : flat_map comment l ≡ flat_map note_line (enumerate_from 0 H.latches) = flat_map-map comment note_fields (enumerate_from 0 H.latches) in
    let split : flat_map comment (c ++ p ++ s ++ l) ≡ ((flat_map comment c ++ flat_map comment p) ++ flat_map comment s) ++ flat_map comment l =
    flat_map-append comment (c ++ p ++ s) l
    ∙ ap (λ (t : List ℕ). t ++ flat_map comment l) (flat_map-append comment (c ++ p) s ∙ ap (λ (t : List ℕ). t ++ flat_map comment s) (flat_map-append comment c p)) in
    in_order k (flat_map comment c) (flat_map part_line (enumerate_from 0 H.parts)) (flat_map (state_line bits) (zip H.states H.words)) (flat_map note_line (enumerate_from 0 H.latches))
    ∙ ap (λ (t : List ℕ). k ++ (((flat_map comment c ++ t) ++ flat_map (state_line bits) (zip H.states H.words)) ++ flat_map note_line (enumerate_from 0 H.latches))) (sym parts)
    ∙ ap (λ (t : List ℕ). k ++ (((flat_map comment c ++ flat_map comment p) ++ t) ++ flat_map note_line (enumerate_from 0 H.latches))) (sym states)
    ∙ ap (λ (t : List ℕ). k ++ (((flat_map comment c ++ flat_map comment p) ++ flat_map comment s) ++ t)) (sym notes)
    ∙ ap (λ (t : List ℕ). k ++ t) (sym split)
    ∙ sym (flat_map-map ended comment_text (head_fields H))

-- the text begins with its header
pub head_begins : (design : Design) (H : Header) (N : Network) → Head design (net_text_of design H N) H
head_begins design H N =
    let statements : List (List (List ℕ)) = (inputs_word ∷ N.inputs) ∷ (outputs_word ∷ N.outputs) ∷ (map (latch_fields design) N.latches ++ flat_map gate_fields N.gates) in
    (flat_map line (statements ++ (end_word ∷ []) ∷ []), refl)

-- the whole text denotes the network, also behind comments
pub whole_denotes : (design : Design) (N : Network) (H : Header) (comments : List (List ℕ)) → IsWritable N → IsDesignOf N design → ArePlainFields H.states → AllByRecursion IsComment comments
    → Denotes (flat_map ended comments ++ net_text_of design H N) N
whole_denotes design N H comments writable is plain are =
    let lines : List (List ℕ) = head_lines H in
    let same : flat_map ended comments ++ net_text_of design H N ≡ flat_map ended (comments ++ lines) ++ net_text design N =
    sym (append_assoc (flat_map ended comments) (flat_map ended lines) (net_text design N)) ∙ ap (λ (t : List ℕ). t ++ net_text design N) (sym (flat_map-append ended comments lines)) in
    subst (λ (bytes : List ℕ). Denotes bytes N) (sym same) (net_denotes design N (comments ++ lines) writable is (each_append IsComment comments lines are (head_comments H plain)))
