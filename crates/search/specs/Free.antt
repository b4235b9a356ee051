-- Free-area search (01, "The calls"): "The lowest address that is a multiple of align, at least hint and limit start, with address +
-- size within limit end and the space, meeting no area." Sums are exact. Laws: `proofs/Search.antt`; of powers of two and
-- multiples: `proofs/Powers.antt`, `proofs/Multiples.antt`. Assumes nothing.
use Rattle.std.specs.Prelude.{ℕ, ◌+◌, ◌-◌, ◌*◌, ◌/◌, ◌%◌, ◌^◌, ◌<◌, ◌≡◌, Bool, true, not, cond, List, [], ◌∷◌, Option, Some, None, leb, eqb}
use Rattle.lists.specs.Every.{every, lowest_of, some_of}
use Rattle.area.specs.declared.Area.{Area}
use Rattle.area_list.specs.Meet.{shares_any}
use Rattle.search.specs.declared.Wanted.{Wanted}

-- one of 2^0 to 2^63
unfoldable pub is_power_of_two : ℕ → Bool
is_power_of_two n = some_of (λ k. eqb n (2 ^ k)) 0 64

-- the lowest multiple of align that is not below an address
unfoldable pub up_to : ℕ → ℕ → ℕ
up_to align address = align * ((address + (align - 1)) / align)

-- what is asked
pub record Ask : Type 0 where
  pub hint : ℕ
  pub size : ℕ
  pub low : ℕ
  pub high : ℕ
  pub align : ℕ
  pub space : ℕ

abbrev pub asked : ℕ → ℕ → ℕ → ℕ → ℕ → ℕ → Ask
asked hint size low high align space = record { hint = hint; size = size; low = low; high = high; align = align; space = space }

-- the room that is wanted, in a space of so many bytes
abbrev pub wanted_in : Wanted → ℕ → Ask
wanted_in w space = asked w.hint w.size w.low w.high w.align space

-- what the tests before the search have shown
pub record LegalSearch (size align : ℕ) : Type 0 where
  pub some : 0 < size
  pub power : is_power_of_two align ≡ true
  pub whole : size % align ≡ 0

-- an address that fits, part by part
abbrev pub free_tests : List Area → Ask → ℕ → List Bool
free_tests areas q at =
    eqb (at % q.align) 0
    ∷ leb q.hint at
    ∷ leb q.low at
    ∷ leb (at + q.size) q.high
    ∷ leb (at + q.size) q.space
    ∷ not (shares_any at (at + q.size) areas)
    ∷ []

unfoldable pub is_free : List Area → Ask → ℕ → Bool
is_free areas q at = every (free_tests areas q at)

-- the lowest multiple of align that fits; where none does, one past the space
unfoldable pub lowest_free : List Area → Ask → ℕ
lowest_free areas q = q.align * lowest_of (λ k. is_free areas q (q.align * k)) 0 (q.space / q.align + 1)

-- the answer's number and address: 7 and 0 where no address fits
pub record FreeOutcome : Type 0 where
  pub answer : ℕ
  pub at : ℕ

abbrev pub free_gives : ℕ → ℕ → FreeOutcome
free_gives n at = record { answer = n; at = at }

abbrev pub free_outcome : Option ℕ → FreeOutcome
free_outcome (Some at) = free_gives 0 at
free_outcome None = free_gives 7 0

unfoldable pub free_rule : List Area → Ask → FreeOutcome
free_rule areas q = cond (is_free areas q (lowest_free areas q)) (free_gives 0 (lowest_free areas q)) (free_gives 7 0)
