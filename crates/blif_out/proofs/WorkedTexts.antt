-- Worked texts are what they are.
use Rattle.std.proofs.Common.{◌≡◌, ℕ, ◌<◌, true, false, List, [], ◌∷◌, ◌++◌, length, codes, refl, sym, ◌∙◌}
use Rattle.std.specs.Fmt.{digits}
use Rattle.std.specs.List.{flat_map, list_all, list_any}
use Rattle.std.specs.Str.{bytes_eq}
use Rattle.std.proofs.lemmas.Bool.{true≢false}
use Rattle.std.proofs.lemmas.Slice.Eq.{bytes_eq-Decides}
use Rattle.hs_io.specs.Spelling.{ended, spelled}
use Rattle.net_core.specs.Words.{no_control}
use Rattle.blif_out.specs.Comments.{AreComments}
use Rattle.blif_out.specs.Head.{comment_text, net_text_of, note_fields, part_fields}
use Rattle.blif_out.specs.Design.{IsClockOf, driven_signals, plain_design}
use Rattle.blif_out.specs.NetText.{gate_fields, net_text}
use Rattle.blif_out.specs.Worked.{carried_part, clocked_design, clocked_lines, gate, named_design, named_lines, reduced_header, reduced_lines, reduced_network, serial_header, serial_lines, serial_network, started_network, text, unlike_note}
use Rattle.blif_out.specs.Laws.Designs.{among, outside}
use Rattle.blif_out.specs.Laws.Words.{is_name_byte, name_word}

pub serial : net_text_of plain_design serial_header serial_network ≡ text serial_lines
unfolding digits
serial = refl

pub reduced : net_text_of plain_design reduced_header reduced_network ≡ text reduced_lines
unfolding digits
reduced = refl

pub clocked : net_text clocked_design started_network ≡ text clocked_lines
clocked = refl

pub named : net_text named_design started_network ≡ text named_lines
named = refl

pub part : comment_text (part_fields (1, carried_part)) ≡ codes "# part 1 0,1,2,3,0 carrier 0,0,0,1,0 reads 0,12"
unfolding digits
part = refl

pub note : comment_text (note_fields (2, unlike_note)) ≡ codes "# latch 2 part 1 from 0,1,0 to 0,0,1"
unfolding digits
note = refl

-- a name that nothing drives can be a clock, and one that something drives cannot
pub can_be_clock : (name : List ℕ) → 0 < length name → list_all is_name_byte name ≡ true → bytes_eq name no_control ≡ false → list_any (bytes_eq name) (driven_signals started_network) ≡ false
    → IsClockOf started_network name
can_be_clock name some visible other free = record {
  signal = name_word name some visible;
  controls = λ same. true≢false (sym ((bytes_eq-Decides name no_control).1 same) ∙ other);
  undriven = outside name (driven_signals started_network) free;
}

pub is_driven : (name : List ℕ) → list_any (bytes_eq name) (driven_signals started_network) ≡ true → IsClockOf started_network name → ⊥
is_driven name driven is = is.undriven (among name (driven_signals started_network) driven)

-- what are comments begins with their mark
same_head : (b c : ℕ) (bs cs : List ℕ) → ◌≡◌ {A = List ℕ} (b ∷ bs) (c ∷ cs) → b ≡ c
same_head b c bs cs same = cc

pub begins : (b : ℕ) (bs : List ℕ) → AreComments (b ∷ bs) → b ≡ 35
begins b bs ([], are, is) = cc
begins b bs ([] ∷ lines, are, is) = absurd are.0
begins b bs ((c ∷ cs) ∷ lines, are, is) = same_head b c bs ((cs ++ 10 ∷ []) ++ flat_map ended lines) is ∙ are.0.0
