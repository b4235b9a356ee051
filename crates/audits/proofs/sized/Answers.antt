-- `sized` meets its contract: each early answer contradicts one of the facts, and then the length decides. Assumes nothing.
use native.Mathlib.Omega.{arith}
use mathlib.Core.Path.{sym}
use Rattle.dumps.specs.Dump.{count_in, pages_in}
use Rattle.audits.proofs.Audits.{not_sized, length_decides}
use Rattle.audits.proofs.sized.Goals as goal

pub returns-then-bytes-lt-HEADER : goal.returns-then-bytes-lt-HEADER
returns-then-bytes-lt-HEADER c = sym (not_sized _ (λ s. omega (arith, s.long)))

pub returns-then-count-gt-AREAS : goal.returns-then-count-gt-AREAS
unfolding count_in
returns-then-count-gt-AREAS c = sym (not_sized _ (λ s. omega (arith, s.few_areas, c.read-count.ensures)))

pub returns-then-pages-gt-PAGES : goal.returns-then-pages-gt-PAGES
unfolding pages_in
returns-then-pages-gt-PAGES c = sym (not_sized _ (λ s. omega (arith, s.few_pages, c.read-pages.ensures)))

pub returns : goal.returns
unfolding count_in pages_in
returns c = length_decides _ _ _ c.read-count.ensures c.read-pages.ensures c.if-count-gt-AREAS.false c.if-pages-gt-PAGES.false
