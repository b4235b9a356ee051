-- `first_differing` meets its contract. The loop's invariant: no page so far differs, so those that are left decide.
-- Assumes nothing.
use Rattle.std.proofs.Common.{◌∙◌, refl, sym, ap}
use Rattle.lists.specs.Found.{found_below}
use Rattle.lists.proofs.Found.{found_at, found_none}
use Rattle.agreement.proofs.Lowest.{lowest_ends}
use Rattle.agreement.proofs.Agreeing.{first_differs, first_same}
use Rattle.agreement.proofs.first_differing.Goals as goal

pub loop-page-init : goal.loop-page-init
loop-page-init g c rule h = refl

pub returns-then-pages-page : goal.returns-then-pages-page
returns-then-pages-page g c rule h =
    let here = first_differs rule _ _ _ _ c.loop-page-test.true (h _ _ c.says.ensures) c.if-pages-page.true in
    found_at c.args.end _ _ (c.loop-page.invariant rule h ∙ here) c.loop-page-test.true

pub loop-page-preserved : goal.loop-page-preserved
loop-page-preserved g c rule h =
    c.loop-page.invariant rule h ∙ first_same rule _ _ _ _ c.loop-page-test.true (h _ _ c.says.ensures) c.if-pages-page.false

pub returns : goal.returns
returns g c rule h =
    let ends = lowest_ends _ _ _ c.loop-page-test.false in
    sym (ap (found_below c.args.end) (c.loop-page.invariant rule h ∙ ends) ∙ found_none c.args.end _ c.loop-page-test.false)
