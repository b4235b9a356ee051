-- What reading leaves, also where a read or a write fails. A reader that says which bytes it has left loses those that were taken;
-- of any other it is only known that there are such bytes. Laws: `proofs/Reading.antt`. Assumes nothing.
use Rattle.std.specs.Prelude.{ℕ, ◌≡◌, ◌<◌, ◌≤◌, List, Option, length, take}
use Rattle.std.specs.Io.KnownBytes.{Consumes, IsAtEnd}
use Rattle.rules.specs.Change.{Tables, tables}
use Rattle.records.specs.Feed.{Session, session, takes}
use Rattle.stream.specs.declared.progress.Progress.{Progress}

-- the tables, and the bytes of a record that are held
abbrev pub stands : List ℕ → List ℕ → Progress → List ℕ → Session
stands areas pages at bytes = session (tables areas pages at.count) (take at.filled bytes)

-- the reader lost some bytes, and they lead from one session to the other
abbrev pub Runs : Option (List ℕ) → Option (List ℕ) → Session → Session → Type 0
Runs old new s s' = (input : List ℕ) × Consumes old new input × (s' ≡ (takes s input).session)

-- and there was one at least
abbrev pub RunsSome : Option (List ℕ) → Option (List ℕ) → Session → Session → Type 0
RunsSome old new s s' = (r : Runs old new s s') × (0 < length r.0)

-- they lead from a session to these tables, with so many bytes held
abbrev pub Comes : Option (List ℕ) → Option (List ℕ) → Session → Tables → ℕ → Type 0
Comes old new s t filled = (held : List ℕ) × Runs old new s (session t held) × (length held ≡ filled)

-- and then the reader has no more, unless it gave as many bytes as blocks are read at most
abbrev pub ComesToEnd : Option (List ℕ) → Option (List ℕ) → Session → Tables → ℕ → Type 0
ComesToEnd old new s t filled = (came : Comes old new s t filled) × (length came.1.0 < 18446744073709551615 → IsAtEnd new)

-- the first n bytes of the buffer are those that the reader lost
abbrev pub Fills : Option (List ℕ) → Option (List ℕ) → List ℕ → ℕ → Type 0
Fills old new buf n = (n ≤ length buf) × Consumes old new (take n buf)
