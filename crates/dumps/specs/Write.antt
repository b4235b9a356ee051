-- Writing a dump of the set's own tables, so that they can be sent: all of `dump_of` at the start of a buffer, or a refusal with 01's
-- number and the buffer as it was. Laws: `proofs/Writing.antt`. Assumes nothing.
use Rattle.std.specs.Prelude.{not, List, [], ◌∷◌, ℕ, ltb, length}
use Rattle.lists.specs.Over.{over}
use Rattle.area.specs.Answer.{Test, refuse, answer, Reply, reply_by}
use Rattle.area_list.specs.Good.{good_tables}
use Rattle.rules.specs.Change.{Tables}
use Rattle.dumps.specs.Dump.{most_areas, most_pages, dump_length, dump_of}

-- 1 for tables that are not good or above the dump's sizes, 6 for a buffer that is too short
abbrev pub write_tests : Tables → List ℕ → List Test
write_tests t out =
    refuse 1 (not (good_tables t.areas t.count (length t.pages)))
    ∷ refuse 1 (ltb most_areas t.count)
    ∷ refuse 1 (ltb most_pages (length t.pages))
    ∷ refuse 6 (ltb (length out) (dump_length t.count (length t.pages)))
    ∷ []

unfoldable pub write_answer : Tables → List ℕ → ℕ
write_answer t out = answer (write_tests t out)

-- bytes after the dump stay
unfoldable pub write_rule : Tables → List ℕ → Reply (List ℕ)
write_rule t out = reply_by out (write_answer t out) (over out 0 (dump_of t))
