use Rattle.std.proofs.Common.{List, sym, ◌∙◌, subst}
use Rattle.hs_io.specs.declared.lines.Line.{Line}
use Rattle.kiss2.specs.Inner.ReaderState.{Keeps}
use Rattle.kiss2.specs.Laws.Closing.{some_rows}
use Rattle.kiss2.specs.Laws.GoodLines.{counts_there}
use Rattle.kiss2.proofs.record.record_of.Goals as goal

pub counts_of-counts-requires : goal.counts_of-counts-requires
counts_of-counts-requires c =
    let keeps = c.requires.1 in
    let counts = counts_there c.requires.0 keeps.faultless (some_rows c.requires.0 c.requires.2) in
    record { inputs = (counts.0, keeps.stands.inputs ∙ counts.2); outputs = (counts.1, keeps.stands.outputs ∙ counts.3) }

pub fill_table-requires : goal.fill_table-requires
fill_table-requires c =
    let all = c.requires.0 in
    record {
      no_states = c.new.ensures;
      no_rows = c.new-2.ensures;
      kept = (all, subst (λ (rows : List Line). Keeps c.args.kept.now.said rows all) (sym c.as_slice.ensures.value) c.requires.1, c.requires.2);
      inputs = c.counts_of-counts.ensures.inputs;
    }

pub file_of-requires : goal.file_of-requires
file_of-requires c = record { inputs = c.counts_of-counts.ensures.inputs; outputs = c.counts_of-counts.ensures.outputs }

pub returns : goal.returns
returns c all keeps closed =
    c.file_of.ensures all keeps.stands (c.in_ok-fill_table.ensures all (subst (λ (rows : List Line). Keeps c.args.kept.now.said rows all) (sym c.as_slice.ensures.value) keeps) closed)
