-- `finish` meets its contract. Assumes nothing.
use mathlib.Core.Path.{sym}
use native.Mathlib.Omega.{arith}
use Rattle.std.proofs.lemmas.Result.{err_from_is_err_and}
use Rattle.area.proofs.Answers.{refusal_some}
use Rattle.area_list.specs.Layout.{capacity_of}
use Rattle.area_list.proofs.Goodness.{tables_are}
use Rattle.questions.proofs.Answering.{tables_passed}
use Rattle.records.proofs.Finishing.{finish_stops, finish_no_room, finish_done, cut_short}
use Rattle.lines.proofs.Lines.{put_then}
use Rattle.records.proofs.finish.Goals as goal

pub returns-in_err-list : goal.returns-in_err-list
returns-in_err-list c =
    let p = err_from_is_err_and c.from_residual.result c.from_residual.ensures.1 in
    let done = finish_stops c.args.areas.now c.args.pages.now c.args.count c.args.filled c.args.out.now _ c.in_err-list.ensures.answer (refusal_some _) in
    rw (p.1, p.2) (record { answer_value = done.0; put = done.1 })

pub overflow_add-count : goal.overflow_add-count
unfolding capacity_of
overflow_add-count c = omega (arith, (tables_are _ _ _ (tables_passed _ _ _ (sym c.in_ok-list.ensures.answer))).count_few)

pub overflow_mul-count : goal.overflow_mul-count
unfolding capacity_of
overflow_mul-count c = omega (arith, (tables_are _ _ _ (tables_passed _ _ _ (sym c.in_ok-list.ensures.answer))).count_few)

pub returns-then-out-count : goal.returns-then-out-count
returns-then-out-count c =
    let good = tables_passed _ _ _ (sym c.in_ok-list.ensures.answer) in
    let done = finish_no_room c.args.areas.now c.args.pages.now c.args.count c.args.filled c.args.out.now good c.if-out-count.true in
    record { answer_value = done.0; put = done.1 }

pub put_areas-requires : goal.put_areas-requires
put_areas-requires c =
    rw (c.in_ok-list.ensures.list.1) (omega (arith, c.if-out-count.false, c.put_cut-at.ensures.past, c.put_cut-at.ensures.long, cut_short c.args.filled))

pub returns : goal.returns
returns c =
    let good = tables_passed _ _ _ (sym c.in_ok-list.ensures.answer) in
    let l = c.in_ok-list.ensures.list in
    let done = finish_done c.args.areas.now c.args.pages.now c.args.count c.args.filled c.args.out.now good c.if-out-count.false
    (put_then c.put_cut-at.ensures (rw (l.0, l.1) at c.put_areas.ensures)) in
    record { answer_value = done.0; put = done.1 }
