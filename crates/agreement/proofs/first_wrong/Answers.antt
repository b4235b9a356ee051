-- `first_wrong` meets its contract. The loop's invariant: the pages below from agree, and the areas from slot on decide.
-- Assumes nothing.
use Rattle.std.proofs.Common.{ℕ, ◌≤◌, ◌<◌, List, length, sym, ap, ◌∙◌, arith, rules}
use Rattle.lists.specs.Found.{found_below}
use Rattle.area.specs.Area.{area_entry}
use Rattle.area_list.specs.Layout.{rows}
use Rattle.area_list.proofs.Goodness.{tables_are}
use Rattle.area_list.proofs.Rows.{length_rows}
use Rattle.agreement.specs.Agree.{unmapped}
use Rattle.agreement.proofs.Agreeing.{look_begins, stops_before, stops_inside, look_on, look_ends}
use Rattle.agreement.proofs.first_wrong.Goals as goal

listed : (ws : List ℕ) (count slot : ℕ) → slot < count → slot < length (rows ws count)
listed ws count slot h = omega (arith, length_rows ws count)

unlisted : (ws : List ℕ) (count slot : ℕ) → count ≤ slot → length (rows ws count) ≤ slot
unlisted ws count slot h = omega (arith, length_rows ws count)

pub loop-slot-init : goal.loop-slot-init
loop-slot-init c = look_begins _ _ (tables_are _ _ _ c.requires).ordered

pub returns-in-Some : goal.returns-in-Some
returns-in-Some c =
    stops_before c.loop-slot.invariant (listed _ _ _ c.loop-slot-test.true) _ c.at-area.ensures _
    (sym c.in-Some.is ∙ c.first_differing.ensures unmapped (λ page entry e. search rules))

pub returns-in-Some-first_differing : goal.returns-in-Some-first_differing
unfolding area_entry
returns-in-Some-first_differing c =
    stops_inside c.loop-slot.invariant (listed _ _ _ c.loop-slot-test.true) _ c.at-area.ensures
    (sym c.in_default.is ∙ c.first_differing.ensures unmapped (λ page entry e. search rules)) _
    (sym c.in-Some-first_differing.is ∙ c.first_differing-in-loop-slot.ensures (area_entry c.at-area.result) (λ page entry e. search rules))

pub loop-slot-preserved : goal.loop-slot-preserved
unfolding area_entry
loop-slot-preserved c =
    look_on c.loop-slot.invariant (listed _ _ _ c.loop-slot-test.true) _ c.at-area.ensures
    (sym c.in_default.is ∙ c.first_differing.ensures unmapped (λ page entry e. search rules))
    (sym c.in_default-first_differing.is ∙ c.first_differing-in-loop-slot.ensures (area_entry c.at-area.result) (λ page entry e. search rules))

pub returns : goal.returns
returns c =
    c.first_differing-2.ensures unmapped (λ page entry e. search rules)
    ∙ ap (found_below (length c.args.pages.now)) (sym (look_ends c.loop-slot.invariant (unlisted _ _ _ c.loop-slot-test.false)))
