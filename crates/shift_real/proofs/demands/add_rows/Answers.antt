use Rattle.std.proofs.Common.{◌≡◌, ◌+◌, Bool, [], ◌∷◌, ◌++◌, take, ap, sym, ◌∙◌, append-nil}
use Rattle.std.proofs.lemmas.List.{take_more}
use Rattle.cubes.specs.Symbol.{bit}
use Rattle.gate_rows.specs.Demands.{demand_at}
use Rattle.kiss_file.specs.declared.file.KissRow.{KissRow}
use Rattle.shift_real.proofs.ClassDemands.{asked_more, asked_none, asked_one}
use Rattle.shift_real.proofs.demands.add_rows.Goals as goal
use Rattle.shift_real.proofs.demands.add_rows.Goals.{then-bit+in_ok-push, else-bit}

pub loop-row-preserved : goal.loop-row-preserved
loop-row-preserved c =
    let i = c.loop-row.row-index in
    let row = c.row-item.result in
    let more : take (i + 1) c.args.rows.now ≡ take i c.args.rows.now ++ row ∷ [] =
    take_more c.args.rows.now i row c.loop-row-test.true ∙ ap (λ (r : KissRow). take i c.args.rows.now ++ r ∷ []) (sym c.row-item.is) in
    let care : c.bit.result ≡ bit row.care c.args.b = c.bit.ensures ∙ ap (bit row.care) c.from.ensures in
    elim c.if-bit.branch [
      | then-bit+in_ok-push w ↦
          let value : w.bit-then-bit.result ≡ bit row.value c.args.b = w.bit-then-bit.ensures ∙ ap (bit row.value) w.from-then-bit.ensures in
          asked_more c.args.b c.args.number (take i c.args.rows.now) (take (i + 1) c.args.rows.now) row c.args.demands.now.items c.loop-row.demands.items c.if-bit.demands.items
          (demand_at row.cube c.args.number w.bit-then-bit.result ∷ []) more c.loop-row.invariant (ap (λ v. v.items) w.demands-is ∙ w.in_ok-push.ensures.items)
          (asked_one c.args.b c.args.number row (sym care ∙ w.if-bit.true) ∙ ap (λ (v : Bool). demand_at row.cube c.args.number v ∷ []) (sym value))
      | else-bit w ↦
          asked_more c.args.b c.args.number (take i c.args.rows.now) (take (i + 1) c.args.rows.now) row c.args.demands.now.items c.loop-row.demands.items c.if-bit.demands.items
          [] more c.loop-row.invariant (ap (λ v. v.items) w.demands-is ∙ sym (append-nil c.loop-row.demands.items))
          (asked_none c.args.b c.args.number row (sym care ∙ w.if-bit.false))
    ]
