use Rattle.std.proofs.Common.{[], ◌∷◌, refl, append_assoc}
use Rattle.partition.specs.Text.{labels_text}
use Rattle.machine_reports.specs.ListTexts.{partition_line}
use Rattle.machine_reports.proofs.laws.texts_show_states.Goals as goal

pub returns : goal.returns
returns c = record {
  some = refl;
  alone = refl;
  together = refl;
  pair = refl;
  labels = λ names p. refl;
  label_pair = λ names pair. append_assoc (labels_text pair.0) (32 ∷ []) (partition_line pair.1);
}
