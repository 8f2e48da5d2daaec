use Rattle.std.proofs.Common.{◌≡◌, ◌<◌, ◌∙◌, Bool, ◌==◌, if◌then◌else◌, List, Some, length, slice_get, ap, subst, sym, rules, arith}
use Rattle.std.specs.Int.{bit_at}
use Rattle.std.proofs.lemmas.Nat.Bits.{shr_and_one}
use Rattle.std.proofs.lemmas.Option.{slice_get-get_or}
use Rattle.pattern_bundles.specs.declared.pattern.Pattern.{Pattern}
use Rattle.pattern_bundles.specs.declared.bundle.Plane.{Plane}
use Rattle.pattern_bundles.specs.Pattern.{Agree, Marks}
use Rattle.pattern_bundles.specs.Inner.Plane.{AgreeExcept, AreFirst}
use Rattle.pattern_bundles.proofs.Marking.{agree_all, agree_first, agree_more, agree_none, agree_rest, is_its_bit, left_one, which}
use Rattle.pattern_bundles.proofs.bundle.Bundle.agreeing.Goals as goal

pub loop-place-init : goal.loop-place-init
loop-place-init c = let size : c.len.result ≡ length c.self.inside.patterns.items = search rules in record {
  marked = agree_first c.self.inside.patterns.items c.args.pattern c.all_of-marks.result (subst (λ n. AreFirst n c.all_of-marks.result) size c.all_of-marks.ensures);
  left = λ place one. one;
}

pub returns-then-marks-eq0 : goal.returns-then-marks-eq0
returns-then-marks-eq0 c =
    subst (λ (ps : List Pattern). Marks ps (Agree c.args.pattern) 0) c.self.view_is
    (agree_none c.self.inside.patterns.items c.args.pattern c.loop-place.places
    (subst (Marks c.self.inside.patterns.items (AgreeExcept c.loop-place.places c.args.pattern)) c.if-marks-eq0.true c.loop-place.invariant.marked))

pub returns-then-place-len : goal.returns-then-place-len
returns-then-place-len c =
    subst (λ (ps : List Pattern). Marks ps (Agree c.args.pattern) c.loop-place.marks) c.self.view_is
    (agree_rest c.self.inside.patterns.items c.args.pattern c.loop-place.places c.in-Some.place (length c.self.inside.planes.items) c.loop-place.marks
    c.in-Some.ensures.first (let size : c.len-in-Some.result ≡ length c.self.inside.planes.items = search rules in let high = c.if-place-len.true in omega (arith, size, high)) c.self.inside.told.beyond c.loop-place.invariant.marked)

pub loop-place-preserved : goal.loop-place-preserved
loop-place-preserved c =
    let planes = c.self.inside.planes.items in
    let place = c.in-Some.place in
    let plane = c.index.result.now in
    let one : Bool = bit_at c.args.pattern.value place == 1 in
    let within : place < length planes = let size : c.len-in-Some.result ≡ length planes = search rules in let low = c.if-place-len.false in omega (arith, size, low) in
    let at : slice_get planes place ≡ Some plane = slice_get-get_or planes place plane within ∙ ap (λ (p : Plane). Some p) (sym c.index.ensures) in
    let told = c.self.inside.told in
    let marked = c.in-Some.ensures.first.marked in
    record {
      marked =
          agree_more c.self.inside.patterns.items c.args.pattern c.loop-place.places c.take_first.new.marks place c.loop-place.marks c.allowing-marks.result
          one (c.loop-place.invariant.left place marked) (is_its_bit c.args.pattern.value place) marked c.in-Some.ensures.taken c.loop-place.invariant.marked
          (which c.self.inside.patterns.items place one plane c.allowing-marks.result (told.zeros place plane at) (told.ones place plane at) (c.allowing-marks.ensures ∙ ap (λ d. if d == 1 then plane.ones else plane.zeros) (shr_and_one c.args.pattern.value place)));
      left = λ i one. c.loop-place.invariant.left i (left_one c.loop-place.places place c.take_first.new.marks i c.in-Some.ensures.taken one);
    }

pub returns : goal.returns
returns c =
    subst (λ (ps : List Pattern). Marks ps (Agree c.args.pattern) c.loop-place.marks) c.self.view_is
    (agree_all c.self.inside.patterns.items c.args.pattern c.loop-place.marks
    (subst (λ n. Marks c.self.inside.patterns.items (AgreeExcept n c.args.pattern) c.loop-place.marks) c.in_default.ensures.none c.loop-place.invariant.marked))
