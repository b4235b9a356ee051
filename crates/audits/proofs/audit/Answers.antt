-- `audit` meets its contract: a dump of the right size is read into scratch tables that are as long as it says. Assumes nothing.
use native.Mathlib.Omega.{arith}
use mathlib.Core.Path.{◌∙◌, sym}
use Rattle.dumps.specs.Dump.{count_in, pages_in}
use Rattle.audits.proofs.Audits.{table_verdict, header_there, words_few, entries_few, area_words_long, entries_long, lent}
use Rattle.audits.proofs.audit.Goals as goal

pub returns-then-not-sized : goal.returns-then-not-sized
returns-then-not-sized c = table_verdict _ (sym c.sized.ensures ∙ c.if-not-sized.true)

pub read-count-requires : goal.read-count-requires
read-count-requires c = omega (arith, header_there _ ((sym c.sized.ensures ∙ c.if-not-sized.false)))

pub read-pages-requires : goal.read-pages-requires
read-pages-requires c = header_there _ ((sym c.sized.ensures ∙ c.if-not-sized.false))

pub overflow_mul-words : goal.overflow_mul-words
unfolding count_in pages_in
overflow_mul-words c = omega (arith, words_few _ ((sym c.sized.ensures ∙ c.if-not-sized.false)) _ _ c.read-count.ensures c.read-pages.ensures)

pub slice_bounds-area_table-end : goal.slice_bounds-area_table-end
unfolding count_in pages_in
slice_bounds-area_table-end c = words_few _ ((sym c.sized.ensures ∙ c.if-not-sized.false)) _ _ c.read-count.ensures c.read-pages.ensures

pub slice_bounds-audit_in-end : goal.slice_bounds-audit_in-end
unfolding count_in pages_in
slice_bounds-audit_in-end c = sym (area_words_long _ ((sym c.sized.ensures ∙ c.if-not-sized.false)) _ _ c.read-count.ensures c.read-pages.ensures)

pub slice_bounds-page_table-end : goal.slice_bounds-page_table-end
unfolding count_in pages_in
slice_bounds-page_table-end c = entries_few _ ((sym c.sized.ensures ∙ c.if-not-sized.false)) _ _ c.read-count.ensures c.read-pages.ensures

pub slice_bounds-audit_in-end-2 : goal.slice_bounds-audit_in-end-2
unfolding count_in pages_in
slice_bounds-audit_in-end-2 c = sym (entries_long _ ((sym c.sized.ensures ∙ c.if-not-sized.false)) _ _ c.read-count.ensures c.read-pages.ensures)

pub audit_in-requires : goal.audit_in-requires
unfolding count_in pages_in
audit_in-requires c = lent _ ((sym c.sized.ensures ∙ c.if-not-sized.false)) _ _ c.read-count.ensures c.read-pages.ensures

pub returns : goal.returns
returns c = c.audit_in.ensures
