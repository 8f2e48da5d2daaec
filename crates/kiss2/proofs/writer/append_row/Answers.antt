use Rattle.std.proofs.Common.{◌++◌, ap, ◌∙◌}
use Rattle.std.proofs.lemmas.Result.{on_ok_weaker}
use Rattle.cubes.specs.Cube.{text_of}
use Rattle.hs_io.specs.Spelling.{spaced}
use Rattle.kiss_file.specs.Names.{name_of}
use Rattle.kiss2.specs.KissText.{next_name, output_characters}
use Rattle.kiss2.proofs.Written.{row_appended, when_ok}
use Rattle.kiss2.proofs.writer.append_row.Goals as goal

pub returns : goal.returns
returns c =
    let names = c.args.names.now in
    let row = c.args.row.now in
    let first = c.append_cube.new.text.items in
    let second = c.append_field.new.text.items in
    on_ok_weaker c.extend_from_slice-2.result
    (row_appended c.args.text.now.items first second c.append_field-2.new.text.items c.extend_from_slice.new.self.items c.append_outputs.new.text.items c.extend_from_slice-2.new.self.items (text_of row.cube) (name_of names row.from) (next_name names row.to)
    (output_characters c.args.outputs row) c.in_ok-append_cube.ensures (c.in_ok-append_field.ensures ∙ ap (λ name. first ++ spaced name) c.name_at.ensures)
    (c.in_ok-append_field-2.ensures ∙ ap (λ name. second ++ spaced name) c.next_at.ensures) c.in_ok-extend_from_slice.ensures.items c.in_ok-append_outputs.ensures)
    (when_ok c.extend_from_slice-2.result _ _ _ c.extend_from_slice-2.ensures.items)
