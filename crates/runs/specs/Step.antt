-- What one record does to the tables, and the line it is answered with (01, "The record program"), from the rules of the set.
-- Laws: `proofs/Steps.antt`. Assumes nothing.
use Rattle.std.specs.Prelude.{ℕ, zero, suc, Bool, cond, List, Result, Ok, Err}
use Rattle.area.specs.Answer.{number, Reply, reply}
use Rattle.area.specs.declared.Area.{Area}
use Rattle.area.specs.declared.Refusal.{Refusal}
use Rattle.rules.specs.Change.{Tables, tables, map_rule, unmap_rule, clear_rule, protect_rule}
use Rattle.questions.specs.Question.{find_rule, overlaps_rule, free_area_rule}
use Rattle.lines.specs.Line.{no_line, line_bytes}
use Rattle.requests.specs.Request.{request_of}
use Rattle.runs.specs.declared.Stepped.{Stepped}
use Rattle.lines.specs.declared.Line.{Line}
use Rattle.lines.specs.declared.Line.TheVariants as line
use Rattle.requests.specs.declared.Request.{Request}
use Rattle.requests.specs.declared.Request.TheVariants as request

-- the tables afterwards, and the bytes of the line
pub record Ran : Type 0 where
  pub tables : Tables
  pub line : List ℕ

abbrev pub ran : Tables → List ℕ → Ran
ran tables line = record { tables = tables; line = line }

abbrev pub step_outcome : Stepped → List ℕ → List ℕ → Ran
step_outcome r areas pages = ran (tables areas pages r.count) (line_bytes r.line)

-- "`no K`" for a refusal, else the line
unfoldable pub answer_line : ℕ → List ℕ → List ℕ
answer_line zero line = line
answer_line (suc k) line = no_line (suc k)

abbrev pub result_line : Result Line Refusal → List ℕ
result_line (Ok line) = line_bytes line
result_line (Err refusal) = no_line (number refusal)

-- "`ok`"
abbrev pub changed_ran : Reply Tables → Ran
changed_ran r = ran r.value (answer_line r.answer (line_bytes line.Ok))

-- "`in S E`"
abbrev pub found_line : Reply Area → List ℕ
found_line r = answer_line r.answer (line_bytes (line.In r.value.start r.value.end))

-- "`over`, `free`"
abbrev pub told_line : Reply Bool → List ℕ
told_line r = answer_line r.answer (line_bytes (cond r.value line.Over line.Free))

-- "`at A`"
abbrev pub placed_line : Reply ℕ → List ℕ
placed_line r = answer_line r.answer (line_bytes (line.At r.value))

-- a search's "limit start is 0"; "A bad record changes nothing"
unfoldable pub run_rule : Tables → Request → Ran
run_rule t (request.Map start size flags backend replace) = changed_ran (map_rule t.areas t.pages t.count start size flags backend replace)
run_rule t (request.Unmap start size) = changed_ran (unmap_rule t.areas t.pages t.count start size)
run_rule t (request.Protect start size set clear) = changed_ran (protect_rule t.areas t.pages t.count start size set clear)
run_rule t (request.Find address) = ran t (found_line (find_rule t.areas t.pages t.count address))
run_rule t (request.Overlaps start size) = ran t (told_line (overlaps_rule t.areas t.pages t.count start size))
run_rule t (request.Search hint size limit align) = ran t (placed_line (free_area_rule t.areas t.pages t.count hint size 0 limit align))
run_rule t request.Clear = changed_ran (clear_rule t.areas t.pages t.count)
run_rule t request.Bad = ran t (line_bytes line.Bad)

unfoldable pub step_rule : Tables → List ℕ → Ran
step_rule t bytes = run_rule t (request_of bytes)

-- ---- a request in two steps, as the code goes: first the change, then the line, on the tables that it left

-- a question and a bad request are accepted, and change nothing
unfoldable pub change_rule : Tables → Request → Reply Tables
change_rule t (request.Map start size flags backend replace) = map_rule t.areas t.pages t.count start size flags backend replace
change_rule t (request.Unmap start size) = unmap_rule t.areas t.pages t.count start size
change_rule t (request.Protect start size set clear) = protect_rule t.areas t.pages t.count start size set clear
change_rule t (request.Find address) = reply 0 t
change_rule t (request.Overlaps start size) = reply 0 t
change_rule t (request.Search hint size limit align) = reply 0 t
change_rule t request.Clear = clear_rule t.areas t.pages t.count
change_rule t request.Bad = reply 0 t

-- the line where the change is accepted
unfoldable pub asked_line : Tables → Request → List ℕ
asked_line t (request.Map start size flags backend replace) = line_bytes line.Ok
asked_line t (request.Unmap start size) = line_bytes line.Ok
asked_line t (request.Protect start size set clear) = line_bytes line.Ok
asked_line t (request.Find address) = found_line (find_rule t.areas t.pages t.count address)
asked_line t (request.Overlaps start size) = told_line (overlaps_rule t.areas t.pages t.count start size)
asked_line t (request.Search hint size limit align) = placed_line (free_area_rule t.areas t.pages t.count hint size 0 limit align)
asked_line t request.Clear = line_bytes line.Ok
asked_line t request.Bad = line_bytes line.Bad
