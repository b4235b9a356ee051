-- `move_words` meets its contract: words that stay where they are lie over themselves. Assumes nothing.
use mathlib.Core.Path.{◌∙◌}
use native.Mathlib.Omega.{arith}
use lib.ListN.{drop, length-drop}
use Rattle.lists.proofs.Over.{over_same}
use Rattle.slots.proofs.Writes.{over_copy}
use Rattle.slots.proofs.move_words.Goals as goal

pub returns-then-to-from : goal.returns-then-to-from
returns-then-to-from c =
    let run = drop c.args.from c.args.areas.now in
    c.copy_within.ensures.after
    ∙ over_copy c.args.areas.now c.args.to run _ c.args.words (omega arith) (omega (arith, length-drop c.args.from c.args.areas.now))

pub returns-else-to-from : goal.returns-else-to-from
returns-else-to-from c = over_same c.args.areas.now c.args.from c.args.to _ (omega arith) (omega arith)
