-- `wipe_areas` meets its contract: each area wipes what of it lies in the range. Assumes nothing.
use mathlib.Core.Path.{refl, ◌∙◌}
use native.Mathlib.Omega.{arith}
use Rattle.std.proofs.lemmas.List.{length_push}
use Rattle.area_list.proofs.Goodness.{tables_are}
use Rattle.effects.specs.Pages.{cut_pages, wipes_area}
use Rattle.effects.proofs.Sweeping.{sweep_goes_on, sweep_ends}
use Rattle.wipes.proofs.Walking.{meeting_ordered, in_meeting, turn, last_turn}
use Rattle.wipes.proofs.wipe_areas.Goals as goal

pub loop-area-init : goal.loop-area-init
loop-area-init c = record { long = refl; rest = refl }

pub loop-area-preserved : goal.loop-area-preserved
loop-area-preserved c =
    let t = turn _ _ c.loop-area.yielded _ (c.into_iter-area-iterator.ensures.into_iter_gives ∙ c.new-area-items.ensures)
    c.loop-area.yielded_by _ _ c.in-Some.area c.in-Some.is c.next.ensures.steps in
    rw (c.wipe.ensures, length_push)
    (sweep_goes_on (meeting_ordered _ _ _ (tables_are _ _ _ c.requires).ordered) c.loop-area.invariant
    _ _ _ t.1 t.0 (omega arith) (omega arith))

pub returns : goal.returns
unfolding cut_pages
returns c =
    let l = last_turn _ _ c.loop-area.yielded _ (c.into_iter-area-iterator.ensures.into_iter_gives ∙ c.new-area-items.ensures)
    c.loop-area.yielded_by _ _ c.in-None.is c.next.ensures.steps in
    let o = (tables_are _ _ _ c.requires).ordered in
    sweep_ends (meeting_ordered _ _ _ o) c.loop-area.invariant l ∙ in_meeting _ _ _ o wipes_area _
