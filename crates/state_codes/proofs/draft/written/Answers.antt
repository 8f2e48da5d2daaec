use Rattle.std.proofs.Common.{◌≡◌, ℕ, ◌+◌, true, false, List, [], ◌++◌, Some, length, get_or, take, refl, ap, sym, ◌∙◌, subst, arith, append_assoc, length-append}
use Rattle.std.proofs.lemmas.List.{get_or_read, take_all}
use Rattle.std.proofs.lemmas.Option.{slice_get_read}
use Rattle.std.specs.List.{slice_get}
use Rattle.partition.specs.Partition.{blocks_of}
use Rattle.partition.specs.NestedBlocks.{IsInside}
use Rattle.state_codes.specs.declared.split.Part.{Part}
use Rattle.state_codes.specs.Split.{IsPart}
use Rattle.state_codes.specs.Code.{need, Place, label_places, places_of, IsLaidOut}
use Rattle.state_codes.specs.Laws.Places.{AreInside-length, AreInside-at, places_of-take-more, places_of-take-room, length-label_places}
use Rattle.state_codes.proofs.draft.written.Goals as goal

pub put_label-requires-clause-room : goal.put_label-requires-clause-room
put_label-requires-clause-room c =
    omega (arith, c.loop-j.invariant.size, places_of-take-room c.args.parts.now c.args.inners.now c.loop-j.j c.index-parts-j.result (omega arith) (AreInside-length c.args.parts.now c.args.inners.now c.requires.inside) c.index-parts-j.is)

pub bounds-inners-j : goal.bounds-inners-j
bounds-inners-j c = omega (arith, AreInside-length c.args.parts.now c.args.inners.now c.requires.inside)

pub put_label-requires-in-loop-j-clause-length : goal.put_label-requires-in-loop-j-clause-length
put_label-requires-in-loop-j-clause-length c =
    let parts : List Part = c.args.parts.now in
    let inners : List (List ℕ) = c.args.inners.now in
    let part : Part = c.index-parts-j.result in
    let sizes : length inners ≡ length parts = AreInside-length parts inners c.requires.inside in
    let stands : slice_get parts c.loop-j.j ≡ Some part = slice_get_read parts (length parts) c.loop-j.j part refl (omega arith) c.index-parts-j.is in
    let inside : IsInside part.carrier part.partition (get_or inners c.loop-j.j []) = AreInside-at parts inners c.loop-j.j part c.requires.inside stands in
    let lawful : IsPart c.args.n part = subst (IsPart c.args.n) (sym c.index-parts-j.is) (c.requires.parts c.loop-j.j part (omega arith)) in
    let read : c.index-inners-j.result ≡ get_or inners c.loop-j.j [] = get_or_read inners c.loop-j.j c.index-inners-j.result (omega arith) c.index-inners-j.is [] in
    let so_far = c.in_ok-put_label.ensures c.args.n (places_of 0 (take c.loop-j.j parts) (take c.loop-j.j inners)) c.loop-j.invariant in
    omega (arith, so_far.states, ap (λ (list : List ℕ). length list) read, inside.lawful.length, lawful.carrier.length)

pub put_label-requires-in-loop-j-clause-room : goal.put_label-requires-in-loop-j-clause-room
put_label-requires-in-loop-j-clause-room c =
    let parts : List Part = c.args.parts.now in
    let inners : List (List ℕ) = c.args.inners.now in
    let part : Part = c.index-parts-j.result in
    let sizes : length inners ≡ length parts = AreInside-length parts inners c.requires.inside in
    let front : List Place = places_of 0 (take c.loop-j.j parts) (take c.loop-j.j inners) in
    let outer : List Place = label_places c.loop-j.j true part.carrier (need (blocks_of part.carrier)) in
    let read : c.index-inners-j.result ≡ get_or inners c.loop-j.j [] = get_or_read inners c.loop-j.j c.index-inners-j.result (omega arith) c.index-inners-j.is [] in
    let so_far = c.in_ok-put_label.ensures c.args.n front c.loop-j.invariant in
    omega (
      arith,
      so_far.size,
      length-append front outer,
      length-label_places c.loop-j.j true part.carrier (need (blocks_of part.carrier)),
      ap (λ (list : List ℕ). need (blocks_of list)) read,
      places_of-take-room parts inners c.loop-j.j part (omega arith) sizes c.index-parts-j.is,
    )

pub loop-j-preserved : goal.loop-j-preserved
loop-j-preserved c =
    let parts : List Part = c.args.parts.now in
    let inners : List (List ℕ) = c.args.inners.now in
    let part : Part = c.index-parts-j.result in
    let sizes : length inners ≡ length parts = AreInside-length parts inners c.requires.inside in
    let front : List Place = places_of 0 (take c.loop-j.j parts) (take c.loop-j.j inners) in
    let outer : List Place = label_places c.loop-j.j true part.carrier (need (blocks_of part.carrier)) in
    let inner_of : List ℕ → List Place = λ labels. label_places c.loop-j.j false labels (need (blocks_of labels)) in
    let read : c.index-inners-j.result ≡ get_or inners c.loop-j.j [] = get_or_read inners c.loop-j.j c.index-inners-j.result (omega arith) c.index-inners-j.is [] in
    let more = c.in_ok-put_label-2.ensures c.args.n (front ++ outer) (c.in_ok-put_label.ensures c.args.n front c.loop-j.invariant) in
    let whole : (front ++ outer) ++ inner_of c.index-inners-j.result ≡ places_of 0 (take (c.loop-j.j + 1) parts) (take (c.loop-j.j + 1) inners) =
    ap (λ (labels : List ℕ). (front ++ outer) ++ inner_of labels) read
    ∙ append_assoc front outer (inner_of (get_or inners c.loop-j.j []))
    ∙ sym (places_of-take-more parts inners c.loop-j.j part (omega arith) sizes c.index-parts-j.is) in
    subst (λ (list : List Place). IsLaidOut c.args.n list c.put_label-in-loop-j.new.draft.bits c.put_label-in-loop-j.new.draft.words.items c.put_label-in-loop-j.new.draft.owner c.put_label-in-loop-j.new.draft.carried) whole more

pub returns : goal.returns
returns c =
    let sizes : length c.args.inners.now ≡ length c.args.parts.now = AreInside-length c.args.parts.now c.args.inners.now c.requires.inside in
    let parts = take_all c.loop-j.j c.args.parts.now (omega arith) in
    let inners = take_all c.loop-j.j c.args.inners.now (omega (arith, sizes)) in
    let all : places_of 0 (take c.loop-j.j c.args.parts.now) (take c.loop-j.j c.args.inners.now) ≡ places_of 0 c.args.parts.now c.args.inners.now =
    ap (λ (list : List Part). places_of 0 list (take c.loop-j.j c.args.inners.now)) parts ∙ ap (λ (list : List (List ℕ)). places_of 0 c.args.parts.now list) inners in
    rw c.from.ensures (subst (λ (list : List Place). IsLaidOut c.args.n list c.loop-j.draft.bits c.loop-j.draft.words.items c.loop-j.draft.owner c.loop-j.draft.carried) all c.loop-j.invariant)

pub put_label-requires-clause-length : goal.put_label-requires-clause-length
put_label-requires-clause-length c =
    let lawful : IsPart c.args.n c.index-parts-j.result = subst (IsPart c.args.n) (sym c.index-parts-j.is) (c.requires.parts c.loop-j.j c.index-parts-j.result c.loop-j-test.true) in
    c.loop-j.invariant.states ∙ sym lawful.carrier.length
