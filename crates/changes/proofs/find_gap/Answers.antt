-- `find_gap` meets its contract. Assumes nothing.
use mathlib.Core.Path.{◌∙◌, sym}
use native.Mathlib.Nat.{add-zero}
use native.Mathlib.Omega.{arith}
use borrow.Author.Rules.{rules}
use Rattle.area_list.specs.Layout.{rows}
use Rattle.area_list.proofs.Rows.{length_rows}
use Rattle.changes.proofs.Gaps.{one_taken, none_taken, past_inside, gap_is}
use Rattle.changes.proofs.find_gap.Goals as goal

pub overflow_add-past : goal.overflow_add-past
overflow_add-past c =
    omega (
      arith,
      length_rows c.args.areas.words.now c.args.areas.count,
      one_taken c.map-right.result (sym c.is_some.ensures ∙ c.if-is_some.true),
      past_inside (rows c.args.areas.words.now c.args.areas.count) c.args.high
          _ c.first_ending_past-upto.ensures c.map-right.result (search rules),
    )

pub returns-then-is_some : goal.returns-then-is_some
returns-then-is_some c =
    gap_is (rows c.args.areas.words.now c.args.areas.count) c.args.low c.args.high _ _ c.requires
    c.first_ending_past-from.ensures c.first_ending_past-upto.ensures c.map-left.result c.map-right.result (search rules) (search rules) _
    (sym (rw (one_taken c.map-right.result (sym c.is_some.ensures ∙ c.if-is_some.true))))

pub returns-else-is_some : goal.returns-else-is_some
returns-else-is_some c =
    gap_is (rows c.args.areas.words.now c.args.areas.count) c.args.low c.args.high _ _ c.requires
    c.first_ending_past-from.ensures c.first_ending_past-upto.ensures c.map-left.result c.map-right.result (search rules) (search rules) _
    (sym (rw (none_taken c.map-right.result (sym c.is_some.ensures ∙ c.if-is_some.false), add-zero)))
