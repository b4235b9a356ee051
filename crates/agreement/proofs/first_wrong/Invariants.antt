-- `first_wrong` meets its contract. The loop's invariant: the pages below page agree, and the areas from slot on decide.
-- Assumes nothing.
use Rattle.area_list.specs.Layout.{rows}
use Rattle.agreement.proofs.Agreeing.{Looked}
use Rattle.agreement.proofs.first_wrong.Given as goal

abbrev pub invariant-loop-slot : goal.invariant-loop-slot
invariant-loop-slot l = Looked (rows l.areas.words.now l.areas.count) l.pages l.slot l.from
