-- `map` meets its contract: an exit for each answer, room known before the first word is written. Assumes nothing.
use native.Mathlib.Omega.{arith}
use Rattle.questions.proofs.Answering.{range_small}
use Rattle.rules.proofs.Changing.{gap_listed, gap_fits, map_passed, map_refused, map_no_room, map_done}
use Rattle.map.proofs.map.Goals as goal

pub returns-in_err-list : goal.returns-in_err-list
returns-in_err-list c = map_refused _ _ _ _ _ _ _ _ _ _ c.from_residual.ensures.1 c.in_err-list.ensures.answer

pub overflow_add-end : goal.overflow_add-end
overflow_add-end c = omega (arith, range_small (map_passed _ _ _ _ _ _ _ _ c.in_ok-list.ensures.answer).range)

pub find_gap-gap-requires : goal.find_gap-gap-requires
find_gap-gap-requires c = omega (arith, (map_passed _ _ _ _ _ _ _ _ c.in_ok-list.ensures.answer).some)

pub overflow_add-grown : goal.overflow_add-grown
overflow_add-grown c =
    let f = gap_fits (map_passed _ _ _ _ _ _ _ _ c.in_ok-list.ensures.answer).range c.in_ok-list.ensures.list c.find_gap-gap.ensures in
    omega (arith, f, c.number.ensures)

pub overflow_sub-grown : goal.overflow_sub-grown
overflow_sub-grown c =
    let f = gap_fits (map_passed _ _ _ _ _ _ _ _ c.in_ok-list.ensures.answer).range c.in_ok-list.ensures.list c.find_gap-gap.ensures in
    omega (arith, f, c.number.ensures)

pub overflow_add-grown-2 : goal.overflow_add-grown-2
overflow_add-grown-2 c =
    let f = gap_fits (map_passed _ _ _ _ _ _ _ _ c.in_ok-list.ensures.answer).range c.in_ok-list.ensures.list c.find_gap-gap.ensures in
    omega (arith, f, c.number.ensures)

pub returns-then-capacity-grown : goal.returns-then-capacity-grown
returns-then-capacity-grown c =
    map_no_room _ _ _ _ _ _ _ _ c.in_ok-list.ensures.answer
    _ (gap_listed c.in_ok-list.ensures.list c.find_gap-gap.ensures) _ c.number.ensures.0 (omega (arith, c.capacity.ensures))

pub splice-requires-clause-gap : goal.splice-requires-clause-gap
splice-requires-clause-gap c =
    let f = gap_fits (map_passed _ _ _ _ _ _ _ _ c.in_ok-list.ensures.answer).range c.in_ok-list.ensures.list c.find_gap-gap.ensures in
    record {
      ordered = f.ordered;
      inside = f.inside;
      fits = omega (arith, c.capacity.ensures, c.if-capacity-grown.false, c.number.ensures);
    }

pub returns : goal.returns
returns c =
    map_done _ _ _ _ _ _ _ _ c.in_ok-list.ensures.answer
    _ (gap_listed c.in_ok-list.ensures.list c.find_gap-gap.ensures) _ c.number.ensures.0
    _ _ _ (omega (arith, c.capacity.ensures, c.if-capacity-grown.false)) c.splice.ensures.1 c.write.ensures c.splice.ensures.0
