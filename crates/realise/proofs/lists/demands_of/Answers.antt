use Rattle.std.proofs.Common.{◌≡◌, ℕ, ◌+◌, Bool, List, [], ◌∷◌, ◌++◌, Option, slice_index, take, ap, sym, ◌∙◌, append-nil}
use Rattle.std.specs.List.{cons_option}
use Rattle.std.specs.Option.{option_map}
use Rattle.std.proofs.lemmas.List.{take_more}
use Rattle.gate_rows.specs.Demands.{demand_at}
use Rattle.kiss_file.specs.declared.file.KissRow.{KissRow}
use Rattle.realise.proofs.AskedRows.{asked_more}
use Rattle.realise.proofs.lists.demands_of.Goals as goal
use Rattle.realise.proofs.lists.demands_of.Goals.{in-Some+in_ok-push, in_default}

pub loop-row-preserved : goal.loop-row-preserved
loop-row-preserved c =
    let i = c.loop-row.row-index in
    let row = c.row-item.result in
    let words = c.args.words.now in
    let asked : Option Bool → List _ = λ o. cons_option (option_map (demand_at row.cube (slice_index words row.from)) o) [] in
    let more : take (i + 1) c.args.filled.now ≡ take i c.args.filled.now ++ row ∷ [] =
    take_more c.args.filled.now i row c.loop-row-test.true ∙ ap (λ (r : KissRow). take i c.args.filled.now ++ r ∷ []) (sym c.row-item.is) in
    elim c.match-said_bit.branch [
      | in-Some+in_ok-push w ↦
          asked_more words c.args.bit (take i c.args.filled.now) (take (i + 1) c.args.filled.now) row c.loop-row.demands.items c.match-said_bit.demands.items
          (demand_at row.cube (slice_index words w.from.result) w.in-Some.given ∷ []) more c.loop-row.invariant (ap (λ v. v.items) w.demands-is ∙ w.in_ok-push.ensures.items)
          (ap asked (sym c.said_bit.ensures ∙ w.in-Some.is) ∙ ap (λ (n : ℕ). demand_at row.cube (slice_index words n) w.in-Some.given ∷ []) (sym w.from.ensures))
      | in_default w ↦
          asked_more words c.args.bit (take i c.args.filled.now) (take (i + 1) c.args.filled.now) row c.loop-row.demands.items c.match-said_bit.demands.items
          [] more c.loop-row.invariant (ap (λ v. v.items) w.demands-is ∙ sym (append-nil c.loop-row.demands.items))
          (ap asked (sym c.said_bit.ensures ∙ w.in_default.is))
    ]
