-- `dump` meets its contract: each refusal by its test, and past them the whole dump is written. The search is for what
-- the struct leaves in the buffer that it borrowed. Assumes nothing.
use Rattle.std.proofs.Common.{rules}
use native.Mathlib.Omega.{arith}
use mathlib.Core.Path.{◌∙◌, sym}
use Rattle.area_list.proofs.Goodness.{tables_are, count_fits}
use Rattle.rules.specs.Change.{tables}
use Rattle.dumps.proofs.Writing.{dump_bad, dump_areas, dump_pages, dump_short, dump_done}
use Rattle.dumps.proofs.dump.Goals as goal

pub returns-then-not-good-clause-bytes : goal.returns-then-not-good-clause-bytes
returns-then-not-good-clause-bytes c =
    dump_bad (tables c.args.areas.now c.args.pages.now c.args.count) _ (sym c.good.ensures ∙ c.if-not-good.true)

pub returns-then-count-gt-AREAS-clause-bytes : goal.returns-then-count-gt-AREAS-clause-bytes
returns-then-count-gt-AREAS-clause-bytes c =
    dump_areas (tables c.args.areas.now c.args.pages.now c.args.count) _ (sym c.good.ensures ∙ c.if-not-good.false)
    c.if-count-gt-AREAS.true

pub returns-then-pages-gt-PAGES-clause-bytes : goal.returns-then-pages-gt-PAGES-clause-bytes
returns-then-pages-gt-PAGES-clause-bytes c =
    dump_pages (tables c.args.areas.now c.args.pages.now c.args.count) _ (sym c.good.ensures ∙ c.if-not-good.false)
    c.if-count-gt-AREAS.false c.if-pages-gt-PAGES.true

pub returns-then-out-written-clause-bytes : goal.returns-then-out-written-clause-bytes
returns-then-out-written-clause-bytes c =
    dump_short (tables c.args.areas.now c.args.pages.now c.args.count) _ (sym c.good.ensures ∙ c.if-not-good.false)
    c.if-count-gt-AREAS.false c.if-pages-gt-PAGES.false c.if-out-written.true

pub put_dump-requires : goal.put_dump-requires
put_dump-requires c = let is-good = (sym c.good.ensures ∙ c.if-not-good.false) in
    record { count_in_bounds = count_fits c.args.areas.now _ (tables_are _ _ _ is-good).count_few; pages_in_bounds = omega (arith, c.if-out-written.false) }

pub returns-clause-bytes : goal.returns-clause-bytes
returns-clause-bytes c =
    dump_done (tables c.args.areas.now c.args.pages.now c.args.count) _ (sym c.good.ensures ∙ c.if-not-good.false)
    c.if-count-gt-AREAS.false c.if-pages-gt-PAGES.false c.if-out-written.false (search rules ∙ c.put_dump.ensures.written.put.written)
