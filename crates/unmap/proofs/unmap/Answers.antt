-- `unmap` meets its contract: an exit for each answer, room known before the first word is written. Assumes nothing.
use native.Mathlib.Omega.{arith}
use Rattle.questions.proofs.Answering.{range_small}
use Rattle.rules.proofs.Changing.{range_accepted, gap_listed, gap_fits, unmap_refused, unmap_nothing, unmap_no_room, unmap_done}
use Rattle.unmap.proofs.unmap.Goals as goal

pub returns-in_err-list : goal.returns-in_err-list
returns-in_err-list c = unmap_refused _ _ _ _ _ _ _ c.from_residual.ensures.1 c.in_err-list.ensures.answer

pub returns-then-size-eq0 : goal.returns-then-size-eq0
returns-then-size-eq0 c = unmap_nothing _ _ _ _ _ c.in_ok-list.ensures.answer c.if-size-eq0.true

pub overflow_add-end : goal.overflow_add-end
overflow_add-end c = omega (arith, range_small (range_accepted _ _ _ _ _ c.in_ok-list.ensures.answer))

pub overflow_add-left : goal.overflow_add-left
overflow_add-left c =
    let f = gap_fits (range_accepted _ _ _ _ _ c.in_ok-list.ensures.answer) c.in_ok-list.ensures.list c.find_gap-gap.ensures in
    omega (arith, f, c.number.ensures)

pub overflow_sub-left : goal.overflow_sub-left
overflow_sub-left c =
    let f = gap_fits (range_accepted _ _ _ _ _ c.in_ok-list.ensures.answer) c.in_ok-list.ensures.list c.find_gap-gap.ensures in
    omega (arith, f, c.number.ensures)

pub overflow_add-left-2 : goal.overflow_add-left-2
overflow_add-left-2 c =
    let f = gap_fits (range_accepted _ _ _ _ _ c.in_ok-list.ensures.answer) c.in_ok-list.ensures.list c.find_gap-gap.ensures in
    omega (arith, f, c.number.ensures)

pub returns-then-capacity-left : goal.returns-then-capacity-left
returns-then-capacity-left c =
    unmap_no_room _ _ _ _ _ c.in_ok-list.ensures.answer (omega arith)
    _ (gap_listed c.in_ok-list.ensures.list c.find_gap-gap.ensures) _ c.number.ensures.0 (omega (arith, c.capacity.ensures))

pub wipe_areas-requires : goal.wipe_areas-requires
wipe_areas-requires c =
    rw (c.in_ok-list.ensures.list.0, c.in_ok-list.ensures.list.1) (range_accepted _ _ _ _ _ c.in_ok-list.ensures.answer).tables

pub splice-requires-clause-gap : goal.splice-requires-clause-gap
splice-requires-clause-gap c =
    let f = gap_fits (range_accepted _ _ _ _ _ c.in_ok-list.ensures.answer) c.in_ok-list.ensures.list c.find_gap-gap.ensures in
    record { ordered = f.ordered; inside = f.inside; fits = omega (arith, c.capacity.ensures, c.number.ensures) }

pub returns : goal.returns
returns c =
    unmap_done _ _ _ _ _ c.in_ok-list.ensures.answer (omega arith)
    _ (gap_listed c.in_ok-list.ensures.list c.find_gap-gap.ensures) _ c.number.ensures.0
    _ _ _ (omega (arith, c.capacity.ensures, c.if-capacity-left.false))
    c.splice.ensures.1 (rw (c.in_ok-list.ensures.list.0, c.in_ok-list.ensures.list.1) at c.wipe_areas.ensures) c.splice.ensures.0
