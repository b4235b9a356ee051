-- `reflag_areas` meets its contract. The invariant: what the areas that meet the range do to the pages at entry is what those that are
-- left do to the pages now. Assumes nothing.
use lib.ListN.{length}
use Rattle.area_list.specs.Layout.{rows}
use Rattle.effects.specs.Pages.{protects_area}
use Rattle.effects.proofs.Sweeping.{Swept}
use Rattle.wipes.specs.Meeting.{meeting}
use Rattle.flags.proofs.reflag_areas.Given as goal

abbrev pub invariant-loop-area : goal.invariant-loop-area
invariant-loop-area l =
    Swept (protects_area l.change.set l.change.clear) (meeting l.low l.high (rows l.areas.words.now l.areas.count)) l.low l.high (length l.yielded)
    l.initial.pages l.pages
