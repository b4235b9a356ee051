-- `next` meets its contract: it gives the first of the areas that are left, or there is none. Assumes nothing.
use mathlib.Core.Path.{◌≡◌, sym, ap, ◌∙◌}
use mathlib.Core.List.{List, [], ◌∷◌}
use native.Mathlib.Omega.{arith}
use lib.ListN.{length}
use Rattle.std.specs.Prelude.{Some}
use Rattle.std.specs.Iterator.{MakesProgress, item_count}
use Rattle.area.specs.declared.Area.{Area}
use Rattle.area_list.specs.Layout.{rows}
use Rattle.area_list.proofs.Rows.{length_rows}
use Rattle.wipes.proofs.Walking.{until_ends, until_stops, until_more}
use Rattle.wipes.proofs.MeetingIterator.next.Goals as goal

none : {xs ys : List Area} → xs ≡ ys → xs ≡ [] → (ys ≡ []) × (ys ≡ [])
none p e = (sym p ∙ e, sym p ∙ e)

shorter : {a : Area} {xs ys : List Area} → xs ≡ a ∷ ys
    → MakesProgress (λ (s : List Area). Unit {0}) (item_count (λ (rest : List Area). rest)) xs (Some a) ys
shorter e = record { on = λ h. (tt, tt, omega (arith, ap length e)); keeps = tt; rests = λ h. tt }

pub returns-then-self-clause-steps : goal.returns-then-self-clause-steps
returns-then-self-clause-steps c =
    none c.self.view_is
    (until_ends c.self.inside.high (rows c.self.inside.areas.words.now c.self.inside.areas.count) c.self.inside.slot
    (rw length_rows c.if-self.true))

pub returns-then-self-area-clause-steps : goal.returns-then-self-area-clause-steps
returns-then-self-area-clause-steps c =
    none c.self.view_is
    (until_stops c.self.inside.high (rows c.self.inside.areas.words.now c.self.inside.areas.count) c.self.inside.slot _ c.at-area.ensures
    (rw length_rows c.if-self.false) c.if-self-area.true)

pub returns-clause-steps : goal.returns-clause-steps
returns-clause-steps c =
    sym c.self.view_is
    ∙ until_more c.self.inside.high (rows c.self.inside.areas.words.now c.self.inside.areas.count) c.self.inside.slot _ c.at-area.ensures
    (rw length_rows c.if-self.false) c.if-self-area.false

pub returns-clause-goes : goal.returns-clause-goes
returns-clause-goes c = shorter (returns-clause-steps c)
