-- The lines that the record program writes (01): "`ok`, `no K` (K decimal), `in S E`, `at A`, `over`, `free`, and `cut` for a
-- partial last record. At the end each area: `area S E F`. S, E, A are 16 hex digits, F one, lower case; every line starts with
-- its fixed word and ends with byte 10." Laws: `proofs/Lines.antt`. Assumes nothing.
use Rattle.std.specs.Prelude.{ℕ, zero, suc, ◌+◌, ◌/◌, ◌%◌, ◌≤◌, ◌≡◌, cond, List, [], ◌∷◌, ◌++◌, ltb, length}
use Prim.Native.Char.{code}
use Prim.Native.String.{String, [] as empty, ◌∷◌ as ◌then◌}
use Rattle.lists.specs.Over.{over}
use Rattle.area.specs.Answer.{number_of}
use Rattle.lines.specs.declared.Line.{Line}
use Rattle.lines.specs.declared.Out.{Out}
use Rattle.lines.specs.declared.Line.TheVariants.{Ok, No, In, At, Over, Free, Bad, Cut, Area}

-- the bytes of a text
abbrev pub bytes : String → List ℕ
bytes empty = []
bytes (c then s) = code c ∷ bytes s

-- the byte of a digit, 0 to 9, then a to f
unfoldable pub digit : ℕ → ℕ
digit d = cond (ltb d 10) (48 + d) (87 + d)

-- the last n hex digits of a number, the highest first
unfoldable pub hex : ℕ → ℕ → List ℕ
hex zero v = []
hex (suc n) v = hex n (v / 16) ++ (digit (v % 16) ∷ [])

-- "S, E, A are 16 hex digits, F one"
abbrev pub address : ℕ → List ℕ
address a = hex 16 a

-- `S E`, and how many bytes that is
unfoldable pub range_bytes : ℕ → ℕ → List ℕ
range_bytes start end = address start ++ (bytes " " ++ address end)

abbrev pub range_length : ℕ
range_length = 33

-- the most bytes a line has: `area S E F`
abbrev pub longest_line : ℕ
longest_line = 41

-- "`no K` (K decimal)": no answer has a number of two digits
abbrev pub no_line : ℕ → List ℕ
no_line k = bytes "no " ++ (digit k ∷ bytes "\n")

unfoldable pub line_bytes : Line → List ℕ
line_bytes Ok = bytes "ok\n"
line_bytes (No answer) = no_line (number_of answer)
line_bytes (In start end) = bytes "in " ++ (range_bytes start end ++ bytes "\n")
line_bytes (At a) = bytes "at " ++ (address a ++ bytes "\n")
line_bytes Over = bytes "over\n"
line_bytes Free = bytes "free\n"
line_bytes Bad = bytes "bad\n"
line_bytes Cut = bytes "cut\n"
line_bytes (Area start end flags) = bytes "area " ++ (range_bytes start end ++ (bytes " " ++ (hex 1 flags ++ bytes "\n")))

-- bytes went into a buffer at a place, and nothing else changed
pub record Put (before : List ℕ) (at : ℕ) (text after : List ℕ) (next : ℕ) : Type 0 where
  pub room : at + length text ≤ length before
  pub long : length after ≡ length before
  pub written : after ≡ over before at text
  pub past : next ≡ at + length text

-- bytes went into the buffer at the place, which moved past them, and the buffer is the same one
pub record Writes (before : Out) (text : List ℕ) (after : Out) : Type 0 where
  pub same : after.bytes.ghost_name ≡ before.bytes.ghost_name
  pub put : Put before.bytes.now before.at text after.bytes.now after.at
