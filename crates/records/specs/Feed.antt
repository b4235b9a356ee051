-- The reader (01: "It reads requests from standard input in 32-byte records without header .., and `cut` for a partial last record.
-- At the end each area"), as a step over a state for each byte, so that input may come in pieces cut anywhere.
-- Laws: `proofs/Feeding.antt`. Assumes nothing.
use Rattle.std.specs.Prelude.{ℕ, zero, suc, ◌+◌, ◌*◌, ◌/◌, not, ◌&&◌, cond, List, [], ◌∷◌, ◌++◌, eqb, ltb, length, take, Result, Ok, Err}
use Rattle.area.specs.Answer.{number, outcome, Test, refuse, answer, Reply, reply, reply_by}
use Rattle.area.specs.declared.Area.{Area}
use Rattle.area.specs.declared.Refusal.{Refusal}
use Rattle.area_list.specs.Layout.{rows}
use Rattle.rules.specs.Change.{Tables}
use Rattle.questions.specs.Tests.{bad_tables}
use Rattle.lines.specs.Line.{longest_line, line_bytes}
use Rattle.requests.specs.Request.{record_size}
use Rattle.runs.specs.Step.{Ran, step_rule}
use Rattle.lines.specs.declared.Line.TheVariants as line
use Rattle.records.specs.declared.Fed.{Fed}

-- the tables, and the bytes of a record that is not whole yet
pub record Session : Type 0 where
  pub tables : Tables
  pub held : List ℕ

abbrev pub session : Tables → List ℕ → Session
session tables held = record { tables = tables; held = held }

-- a session, and what was said on the way to it
pub record Heard : Type 0 where
  pub session : Session
  pub said : List ℕ

abbrev pub heard : Session → List ℕ → Heard
heard session said = record { session = session; said = said }

-- a whole record is run, and its line said
abbrev pub whole_record : Ran → Heard
whole_record r = heard (session r.tables []) r.line

-- one byte more
unfoldable pub took : Session → ℕ → Heard
took s byte =
    cond (ltb (length s.held + 1) record_size)
    (heard (session s.tables (s.held ++ (byte ∷ []))) [])
    (whole_record (step_rule s.tables (s.held ++ (byte ∷ []))))

-- how many bytes are held after one more
abbrev pub next_filled : ℕ → ℕ
next_filled filled = cond (ltb (filled + 1) record_size) (filled + 1) 0

abbrev pub after : List ℕ → Heard → Heard
after said h = heard h.session (said ++ h.said)

-- many bytes, one after the other
unfoldable pub takes : Session → List ℕ → Heard
takes s [] = heard s []
takes s (byte ∷ bytes) = after (took s byte).said (takes (took s byte).session bytes)

-- the most bytes that are said of so many bytes of input
abbrev pub room_for : ℕ → ℕ
room_for bytes = longest_line * (bytes / record_size)

-- a piece of input: 3 where what is held is no part of a record, 6 where there may be no room for what is said
abbrev pub feed_tests : ℕ → ℕ → ℕ → ℕ → List Test
feed_tests size filled input room =
    refuse 3 (not (eqb size record_size && ltb filled record_size))
    ∷ refuse 6 (ltb room (room_for (filled + input)))
    ∷ []

unfoldable pub feed_answer : ℕ → ℕ → ℕ → ℕ → ℕ
feed_answer size filled input room = answer (feed_tests size filled input room)

-- what feeding answers; a refusal leaves the count and what is held, and writes nothing
abbrev pub fed_outcome : ℕ → ℕ → Result Fed Refusal → Reply Fed
fed_outcome count filled (Ok fed) = reply 0 fed
fed_outcome count filled (Err refusal) = reply (number refusal) (record { count = count; filled = filled; written = 0 })

-- the record's bytes so far are the first of those lent
unfoldable pub feed_rule : Tables → List ℕ → ℕ → List ℕ → ℕ → Reply Heard
feed_rule t bytes filled input room =
    reply_by (heard (session t (take filled bytes)) []) (feed_answer (length bytes) filled (length input) room)
    (takes (session t (take filled bytes)) input)

-- the answer and the session alone
abbrev pub settled : Reply Heard → Reply Session
settled r = reply r.answer r.value.session

-- how many bytes are held afterwards: the record's bytes so far, or as many as before in a refusal
unfoldable pub filled_after : ℕ → ℕ → Session → ℕ
filled_after filled zero s = length s.held
filled_after filled (suc n) s = filled

abbrev pub fed_filled : ℕ → Reply Heard → ℕ
fed_filled filled r = filled_after filled r.answer r.value.session

-- ---- the end of the input

-- "`cut` for a partial last record"
unfoldable pub cut_line : ℕ → List ℕ
cut_line zero = []
cut_line (suc held) = line_bytes line.Cut

-- "`area S E F`"
abbrev pub area_line : Area → List ℕ
area_line a = line_bytes (line.Area a.start a.end a.flags)

-- "At the end each area"
unfoldable pub listing : List Area → List ℕ
listing [] = []
listing (a ∷ list) = area_line a ++ listing list

abbrev pub room_to_finish : ℕ → ℕ
room_to_finish count = longest_line * (count + 1)

abbrev pub finish_tests : List ℕ → List ℕ → ℕ → ℕ → List Test
finish_tests areas pages count room = bad_tables areas pages count ∷ refuse 6 (ltb room (room_to_finish count)) ∷ []

unfoldable pub finish_answer : List ℕ → List ℕ → ℕ → ℕ → ℕ
finish_answer areas pages count room = answer (finish_tests areas pages count room)

-- how many bytes finishing wrote; none in a refusal
abbrev pub finished_outcome : Result ℕ Refusal → Reply ℕ
finished_outcome = outcome 0

-- what is said at the end, with so many bytes held
unfoldable pub finish_rule : List ℕ → List ℕ → ℕ → ℕ → ℕ → Reply (List ℕ)
finish_rule areas pages count filled room =
    reply_by [] (finish_answer areas pages count room) (cut_line filled ++ listing (rows areas count))
