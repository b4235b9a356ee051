-- `reflag_areas` meets its contract: each area gives its pages that lie in the range the new flags. Assumes nothing.
use mathlib.Core.Path.{refl, ◌∙◌}
use Rattle.std.proofs.lemmas.List.{length_push}
use Rattle.area_list.proofs.Goodness.{tables_are}
use Rattle.effects.specs.Pages.{protect_pages, protects_area}
use Rattle.effects.proofs.Sweeping.{sweep_goes_on, sweep_ends}
use Rattle.wipes.proofs.Walking.{meeting_ordered, in_meeting, turn, last_turn}
use Rattle.flags.proofs.reflag_areas.Goals as goal

pub loop-area-init : goal.loop-area-init
loop-area-init c = record { long = refl; rest = refl }

pub loop-area-preserved : goal.loop-area-preserved
loop-area-preserved c =
    let t = turn _ _ c.loop-area.yielded _ (c.into_iter-area-iterator.ensures.into_iter_gives ∙ c.new-area-items.ensures)
    c.loop-area.yielded_by _ _ c.in-Some.area c.in-Some.is c.next.ensures.steps in
    rw (c.reflag_area.ensures, length_push)
    (sweep_goes_on (meeting_ordered _ _ _ (tables_are _ _ _ c.requires).ordered) c.loop-area.invariant
    _ _ _ t.1 t.0 refl refl)

pub returns : goal.returns
unfolding protect_pages
returns c =
    let l = last_turn _ _ c.loop-area.yielded _ (c.into_iter-area-iterator.ensures.into_iter_gives ∙ c.new-area-items.ensures)
    c.loop-area.yielded_by _ _ c.in-None.is c.next.ensures.steps in
    let o = (tables_are _ _ _ c.requires).ordered in
    sweep_ends (meeting_ordered _ _ _ o) c.loop-area.invariant l
    ∙ in_meeting _ _ _ o (protects_area c.args.change.set c.args.change.clear) _
