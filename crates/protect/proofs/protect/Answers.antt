-- `protect` meets its contract: an exit for each answer, room known before the first word is written. Assumes nothing.
use native.Mathlib.Omega.{arith}
use Rattle.protection.proofs.Words.{good_with_most}
use Rattle.questions.proofs.Answering.{range_small}
use Rattle.rules.proofs.Changing.{protect_passed, protect_refused, protect_nothing, protect_no_room, protect_done}
use Rattle.protect.proofs.protect.Goals as goal

pub returns-in_err-list : goal.returns-in_err-list
returns-in_err-list c = protect_refused _ _ _ _ _ _ _ _ _ c.from_residual.ensures.1 c.in_err-list.ensures.answer

pub returns-then-size-eq0 : goal.returns-then-size-eq0
returns-then-size-eq0 c = protect_nothing _ _ _ _ _ _ _ c.in_ok-list.ensures.answer c.if-size-eq0.true

pub overflow_add-end : goal.overflow_add-end
overflow_add-end c = omega (arith, range_small (protect_passed _ _ _ _ _ _ _ c.in_ok-list.ensures.answer).range)

pub invariant_of-change : goal.invariant_of-change
invariant_of-change c = record { clear_legal = (protect_passed _ _ _ _ _ _ _ c.in_ok-list.ensures.answer).clear_legal }

pub invariant_of-extra_areas : goal.invariant_of-extra_areas
invariant_of-extra_areas c =
    let l = c.in_ok-list.ensures.list in
    record { good = rw (l.0, l.1) (good_with_most _ _ _ (protect_passed _ _ _ _ _ _ _ c.in_ok-list.ensures.answer).range.tables) }

pub overflow_add-more : goal.overflow_add-more
overflow_add-more c = omega (arith, range_small (protect_passed _ _ _ _ _ _ _ c.in_ok-list.ensures.answer).range, c.extra_areas.ensures.1)

pub returns-then-capacity-more : goal.returns-then-capacity-more
returns-then-capacity-more c =
    let l = c.in_ok-list.ensures.list in
    protect_no_room _ _ _ _ _ _ _ c.in_ok-list.ensures.answer
    (omega (arith, c.capacity.ensures, rw (l.0, l.1) at c.extra_areas.ensures.0))

pub reflag_areas-requires : goal.reflag_areas-requires
reflag_areas-requires c =
    let l = c.in_ok-list.ensures.list in
    rw (l.0, l.1) (protect_passed _ _ _ _ _ _ _ c.in_ok-list.ensures.answer).range.tables

pub protect_list-requires : goal.protect_list-requires
protect_list-requires c =
    let l = c.in_ok-list.ensures.list in
    let p = protect_passed _ _ _ _ _ _ _ c.in_ok-list.ensures.answer in
    record {
      tables_good = good_with_most _ _ _ p.range.tables;
      protect_range = record {
        nonempty = omega arith;
        low_aligned = p.range.start_aligned;
        high_aligned = omega (arith, p.range);
        set_legal = p.set_legal;
        clear_legal = p.clear_legal;
      };
      count_len_bound = omega (arith, c.capacity.ensures, rw (l.0, l.1) at c.extra_areas.ensures.0);
    }

pub returns : goal.returns
returns c =
    let l = c.in_ok-list.ensures.list in
    protect_done _ _ _ _ _ _ _ c.in_ok-list.ensures.answer
    _ _ _ (omega (arith, c.capacity.ensures, rw (l.0, l.1) at c.extra_areas.ensures.0, c.if-capacity-more.false))
    c.protect_list.ensures.1 (rw (l.0, l.1) at c.reflag_areas.ensures) c.protect_list.ensures.0
