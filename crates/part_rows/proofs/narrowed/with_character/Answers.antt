use Rattle.std.proofs.Common.{◌∷◌, Bool, Option, Some, ap, refl, sym, ◌∙◌, true, false}
use Rattle.cubes.specs.Field.{characters}
use Rattle.part_rows.proofs.Fields.{bit_first, dash_first, with_bit}
use Rattle.part_rows.proofs.narrowed.with_character.Goals as goal

pub returns-in-None-clause-characters : goal.returns-in-None-clause-characters
returns-in-None-clause-characters c =
    dash_first c.args.places c.args.field c.requires.field ∙ ap (λ (one : Option Bool). one ∷ characters c.args.places c.args.field.care c.args.field.value) (sym c.in-None.is)

pub returns-then-one-clause-field : goal.returns-then-one-clause-field
returns-then-one-clause-field c = with_bit c.args.places c.args.field c.requires.field c.requires.few true _ refl refl

pub returns-then-one-clause-characters : goal.returns-then-one-clause-characters
returns-then-one-clause-characters c =
    bit_first c.args.places c.args.field c.requires.field c.requires.few true _ refl refl
    ∙ ap (λ (one : Option Bool). one ∷ characters c.args.places c.args.field.care c.args.field.value) (sym (c.in-Some.is ∙ ap (λ (b : Bool). Some b) c.if-one.true))

pub returns-else-one-clause-field : goal.returns-else-one-clause-field
returns-else-one-clause-field c = with_bit c.args.places c.args.field c.requires.field c.requires.few false _ refl refl

pub returns-else-one-clause-characters : goal.returns-else-one-clause-characters
returns-else-one-clause-characters c =
    bit_first c.args.places c.args.field c.requires.field c.requires.few false _ refl refl
    ∙ ap (λ (one : Option Bool). one ∷ characters c.args.places c.args.field.care c.args.field.value) (sym (c.in-Some.is ∙ ap (λ (b : Bool). Some b) c.if-one.false))
