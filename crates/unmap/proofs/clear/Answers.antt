-- `clear` meets its contract. Assumes nothing.
use native.Mathlib.Omega.{arith}
use mathlib.Core.Path.{sym}
use Rattle.area_list.proofs.Goodness.{tables_are}
use Rattle.questions.proofs.Answering.{tables_passed}
use Rattle.rules.proofs.Changing.{clear_refused, clear_done}
use Rattle.unmap.proofs.clear.Goals as goal

pub returns-in_err-list : goal.returns-in_err-list
returns-in_err-list c = clear_refused _ _ _ _ _ c.from_residual.ensures.1 c.in_err-list.ensures.answer

pub overflow_mul-space : goal.overflow_mul-space
overflow_mul-space c = omega (arith, (tables_are _ _ _ (tables_passed _ _ _ (sym c.in_ok-list.ensures.answer))).pages_few)

pub wipe_areas-requires : goal.wipe_areas-requires
wipe_areas-requires c =
    rw (c.in_ok-list.ensures.list.0, c.in_ok-list.ensures.list.1) (tables_passed _ _ _ (sym c.in_ok-list.ensures.answer))

pub returns : goal.returns
returns c =
    clear_done _ _ _ (sym c.in_ok-list.ensures.answer) _ _ _ c.splice.ensures.1
    (rw (c.in_ok-list.ensures.list.0, c.in_ok-list.ensures.list.1) at c.wipe_areas.ensures) c.splice.ensures.0
