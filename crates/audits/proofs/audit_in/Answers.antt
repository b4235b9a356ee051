-- `audit_in` meets its contract: what was read are the words and the entries of the dump. Assumes nothing.
use native.Mathlib.Omega.{arith}
use mathlib.Core.Path.{◌∙◌, sym}
use mathlib.Core.List.{map-id}
use Rattle.audits.proofs.Audits.{words_room, entries_room, areas_few, pages_few, read_verdict}
use Rattle.audits.proofs.audit_in.Goals as goal

pub read_all-requires : goal.read_all-requires
read_all-requires c = words_room c.requires

pub read_all-requires-2 : goal.read_all-requires-2
read_all-requires-2 c = omega (arith, entries_room c.requires, c.read_all.auto.numbers)

pub audit_tables-requires-clause-count_bound : goal.audit_tables-requires-clause-count_bound
audit_tables-requires-clause-count_bound c = rw c.read_all.auto.numbers (areas_few c.requires)

pub audit_tables-requires-clause-pages_len_bound : goal.audit_tables-requires-clause-pages_len_bound
audit_tables-requires-clause-pages_len_bound c = rw c.read_all-2.auto.numbers (pages_few c.requires)

pub returns : goal.returns
returns c = c.audit_tables.ensures
    ∙ read_verdict c.requires _ (omega (arith, c.read_all.auto.numbers)) _ _ (sym (map-id _) ∙ c.read_all.ensures) (sym (map-id _) ∙ c.read_all-2.ensures)
