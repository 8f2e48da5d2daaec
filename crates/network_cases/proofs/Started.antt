-- The network of the cases can be written, in each of the designs of the cases.
use Rattle.std.proofs.Common.{◌≡◌, ◌<◌, ℕ, zero, suc, inl, inr, true, false, None, Some, List, [], ◌∷◌, length, codes, refl, sym, subst, arith}
use Rattle.std.specs.Cmp.Lexicographic.{slice_cmp}
use Rattle.std.specs.List.{list_all}
use Rattle.std.specs.List.Sorted.{IsSorted}
use Rattle.std.specs.Ordering.{is_lt, nat_cmp}
use Rattle.blif_out.specs.declared.design.Design.{Design}
use Rattle.blif_out.specs.declared.networks.CommentedNetwork.{CommentedNetwork}
use Rattle.blif_out.specs.Design.{IsDesignOf}
use Rattle.blif_out.specs.NetText.{net_text}
use Rattle.blif_out.specs.NetworkText.{CanBeText}
use Rattle.blif_out.specs.Order.{HasKnownStarts, HasRowsInOrder}
use Rattle.blif_out.specs.Worked.{clocked_design, named_design, started_network}
use Rattle.blif_out.specs.Writable.{IsSignalName, IsWritable}
use Rattle.blif_out.proofs.Denoting.{net_denotes}
use Rattle.blif_out.proofs.WorkedTexts.{can_be_clock}
use Rattle.blif_out.specs.Laws.Words.{is_name_byte, name_word}
use Rattle.net_core.specs.declared.Network.{Network}
use Rattle.net_core.specs.Blif.{Blif}
use Rattle.net_core.specs.Laws.Determined.{denotes_one}

-- ---- the network
is_name : (word : List ℕ) → 0 < length word → list_all is_name_byte word ≡ true → IsSignalName word
is_name = name_word

writable : IsWritable started_network
writable = record {
  inputs = (is_name (codes "up") (omega arith) refl, (is_name (codes "hold") (omega arith) refl, tt));
  outputs = (is_name (codes "last") (omega arith) refl, tt);
  latches = (
    record { input = is_name (codes "d0") (omega arith) refl; output = is_name (codes "q0") (omega arith) refl },
    (record { input = is_name (codes "d1") (omega arith) refl; output = is_name (codes "q1") (omega arith) refl }, tt),
  );
  gates = (
    record {
      inputs = (is_name (codes "hold") (omega arith) refl, (is_name (codes "q1") (omega arith) refl, tt));
      output = is_name (codes "d0") (omega arith) refl;
      rows = (record { characters = (refl, (refl, tt)); width = refl }, (record { characters = (refl, (refl, tt)); width = refl }, tt));
      on = refl;
    },
    (
      record {
        inputs = (is_name (codes "up") (omega arith) refl, (is_name (codes "q0") (omega arith) refl, tt));
        output = is_name (codes "d1") (omega arith) refl;
        rows = (record { characters = (refl, (refl, tt)); width = refl }, tt);
        on = refl;
      },
      (
        record {
          inputs = (is_name (codes "q1") (omega arith) refl, tt);
          output = is_name (codes "last") (omega arith) refl;
          rows = (record { characters = (refl, tt); width = refl }, tt);
          on = refl;
        },
        tt,
      ),
    ),
  );
}

one_in_order : (row : List ℕ) → IsSorted (slice_cmp nat_cmp) (row ∷ [])
one_in_order row k d low high = absurd (omega (arith, high))

two_in_order : (row other : List ℕ) → is_lt (slice_cmp nat_cmp other row) ≡ false → IsSorted (slice_cmp nat_cmp) (row ∷ other ∷ [])
two_in_order row other is zero d low high = is
two_in_order row other is (suc k) d low high = absurd (omega (arith, high))

starts_known : HasKnownStarts started_network
starts_known = (inr refl, (inl refl, tt))

rows_in_order : HasRowsInOrder started_network
rows_in_order = (two_in_order (codes "0-") (codes "11") refl, (one_in_order (codes "10"), (one_in_order (codes "0"), tt)))

-- ---- the designs
named_is : IsDesignOf started_network named_design
named_is = record { model = is_name (codes ".m-2") (omega arith) refl; clock = tt }

pub clocked_is : IsDesignOf started_network clocked_design
clocked_is = record { model = is_name (codes "counter") (omega arith) refl; clock = can_be_clock (codes "clk") (omega arith) refl refl refl }

pub other_is : IsDesignOf started_network (record { model = codes "up.down"; clock = None })
other_is = record { model = is_name (codes "up.down") (omega arith) refl; clock = tt }

-- ---- what is read
-- the text of the network says no other
pub is_started : (net : Network) → Blif (net_text named_design started_network) net → net ≡ started_network
is_started net blif =
    denotes_one (net_text named_design started_network) net started_network blif.denotes (net_denotes named_design started_network [] writable named_is tt)

pub can_be_text : (net : Network) (comments : List ℕ) → comments ≡ [] → Blif (net_text named_design started_network) net → CanBeText (record { comments = comments; network = net })
can_be_text net comments none blif =
    let same : net ≡ started_network = is_started net blif in
    record {
      comments = ([], tt, none);
      network = record {
        writable = subst IsWritable (sym same) writable;
        starts = subst HasKnownStarts (sym same) starts_known;
        rows = subst HasRowsInOrder (sym same) rows_in_order;
        sound = blif.sound;
      };
    }
