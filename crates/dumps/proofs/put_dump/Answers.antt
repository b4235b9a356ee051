-- `put_dump` meets its contract: the four parts lie one after the other. Assumes nothing.
use Prim.Native.Nat.{◌*◌}
use native.Mathlib.Omega.{arith}
use mathlib.Core.Path.{sym, ◌∙◌}
use lib.Seq.{length-take-le}
use Rattle.rules.specs.Change.{tables}
use Rattle.area_list.specs.Layout.{words_per_area}
use Rattle.dumps.specs.Dump.{word_size, entry_size}
use lib.ListN.{take}
use Rattle.dumps.proofs.Dumps.{length_all}
use Rattle.dumps.proofs.Writing.{put_plain, first_past, header_past, words_past, all_written}
use Rattle.dumps.proofs.put_dump.Goals as goal

pub put-requires-2 : goal.put-requires-2
put-requires-2 c = omega (arith, first_past (tables c.args.areas.now c.args.pages.now c.args.count) c.put.ensures, c.requires.pages_in_bounds)

pub slice_bounds-put_all-end : goal.slice_bounds-put_all-end
slice_bounds-put_all-end c = sym (length-take-le _ c.args.areas.now c.requires.count_in_bounds)

pub put_all-requires : goal.put_all-requires
put_all-requires c = omega (
  arith,
  header_past (tables c.args.areas.now c.args.pages.now c.args.count) c.put.ensures c.put-2.ensures,
  length-take-le (4 * c.args.count) c.args.areas.now c.requires.count_in_bounds,
  c.requires.pages_in_bounds,
)

pub put_all-requires-2 : goal.put_all-requires-2
put_all-requires-2 c =
    let words = put_plain word_size (take (words_per_area * c.args.count) c.args.areas.now) c.put_all.ensures in
    omega (arith, words_past (tables c.args.areas.now c.args.pages.now c.args.count) c.put.ensures c.put-2.ensures c.requires.count_in_bounds words, c.requires.pages_in_bounds)

pub returns-clause-written : goal.returns-clause-written
returns-clause-written c =
    let words = put_plain word_size (take (words_per_area * c.args.count) c.args.areas.now) c.put_all.ensures in
    all_written (tables c.args.areas.now c.args.pages.now c.args.count) c.put.ensures c.put-2.ensures c.requires.count_in_bounds words
    (put_plain entry_size c.args.pages.now c.put_all-2.ensures)

pub returns-clause-past : goal.returns-clause-past
returns-clause-past c =
    let words = put_plain word_size (take (words_per_area * c.args.count) c.args.areas.now) c.put_all.ensures in
    let entries = put_plain entry_size c.args.pages.now c.put_all-2.ensures in
    entries.put.past
    ∙ omega (
      arith,
      words_past (tables c.args.areas.now c.args.pages.now c.args.count) c.put.ensures c.put-2.ensures c.requires.count_in_bounds words,
      length_all entry_size c.args.pages.now,
    )
