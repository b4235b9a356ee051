-- `audit_tables` meets its contract: each verdict by its test. Assumes nothing.
use mathlib.Core.Path.{refl}
use Rattle.lists.proofs.Found.{some_slot, none_slot}
use Rattle.area_list.proofs.Goodness.{tables_are}
use Rattle.area_list.proofs.Positions.{sorted}
use Rattle.audits.proofs.Audits.{area_verdict, good_then, page_verdict, good_verdict}
use Rattle.audits.proofs.audit_tables.Goals as goal

pub returns-in-Some : goal.returns-in-Some
returns-in-Some c =
    let slot = some_slot _ _ _ c.in-Some.ensures in
    area_verdict _ _ _ _ slot.0 slot.1

pub invariant_of-list : goal.invariant_of-list
invariant_of-list c =
    let good = good_then _ c.args.pages.now _ _ refl (none_slot _ _ c.in_default.ensures) c.requires.pages_len_bound c.requires.count_bound in
    record { sorted = sorted (tables_are _ _ _ good) }

pub first_wrong-requires : goal.first_wrong-requires
first_wrong-requires c = good_then _ c.args.pages.now _ _ refl (none_slot _ _ c.in_default.ensures) c.requires.pages_len_bound c.requires.count_bound

pub returns-in-Some-first_wrong : goal.returns-in-Some-first_wrong
returns-in-Some-first_wrong c =
    let page = some_slot _ _ _ c.in-Some-first_wrong.ensures in
    page_verdict _ _ _ _ refl (none_slot _ _ c.in_default.ensures) _ page.0 page.1

pub returns : goal.returns
returns c = good_verdict _ _ _ _ refl (none_slot _ _ c.in_default.ensures) _ refl (none_slot _ _ c.in_default-first_wrong.ensures)
