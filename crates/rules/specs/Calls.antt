-- All calls of the set under one name: what each answers and what it makes of the tables. A question leaves them as they are.
-- Laws: `proofs/Demands.antt`. Assumes nothing.
use Rattle.std.specs.Prelude.{ℕ, Bool}
use Rattle.page_table.specs.declared.Backend.{Backend}
use Rattle.area.specs.Answer.{Reply, reply}
use Rattle.questions.specs.Question.{len_rule, empty_rule, overlaps_rule, find_rule, free_area_rule}
use Rattle.rules.specs.Change.{Tables, unmap_rule, clear_rule, map_rule, protect_rule}

pub data Call : Type 0 where
  len_call : Call
  empty_call : Call
  overlaps_call : (start size : ℕ) → Call
  find_call : (address : ℕ) → Call
  entries_call : (address : ℕ) → Call
  search_call : (hint size low high align : ℕ) → Call
  map_call : (start size flags : ℕ) (backend : Backend) (replace : Bool) → Call
  unmap_call : (start size : ℕ) → Call
  clear_call : Call
  protect_call : (start size set clear : ℕ) → Call

-- the answer's number and the tables after the call
unfoldable pub called : Call → Tables → Reply Tables
called len_call t = reply (len_rule t.areas t.pages t.count).answer t
called empty_call t = reply (empty_rule t.areas t.pages t.count).answer t
called (overlaps_call start size) t = reply (overlaps_rule t.areas t.pages t.count start size).answer t
called (find_call address) t = reply (find_rule t.areas t.pages t.count address).answer t
called (entries_call address) t = reply (find_rule t.areas t.pages t.count address).answer t
called (search_call hint size low high align) t = reply (free_area_rule t.areas t.pages t.count hint size low high align).answer t
called (map_call start size flags backend replace) t = map_rule t.areas t.pages t.count start size flags backend replace
called (unmap_call start size) t = unmap_rule t.areas t.pages t.count start size
called clear_call t = clear_rule t.areas t.pages t.count
called (protect_call start size set clear) t = protect_rule t.areas t.pages t.count start size set clear
