-- An area's own operations (01, the last paragraph of "The calls"): "They refuse with 1 an area that no good tables could hold,
-- with 2 an unaligned cut, with 3 one not strictly inside. A refusal returns the area unchanged, and an all-zero right part."
-- Each rule is total. Laws: `proofs/Cuts.antt`. Assumes nothing.
use Rattle.std.specs.Prelude.{ℕ, ◌+◌, ◌-◌, not, ◌&&◌, List, [], ◌∷◌, ltb, Result, Ok, Err}
use Rattle.area.specs.Answer.{number, Test, refuse, answer, Reply, reply, reply_by}
use Rattle.area.specs.Area.{aligned, good_area, largest_space, part, nothing}
use Rattle.area.specs.declared.Area.{Area}
use Rattle.cuts.specs.declared.Uncut.{Uncut}

-- the tests of a cut that has to lie strictly between low and high
unfoldable pub cut_tests : Area → ℕ → ℕ → ℕ → List Test
cut_tests a cut low high =
    refuse 1 (not (good_area largest_space a))
    ∷ refuse 2 (not (aligned cut))
    ∷ refuse 3 (not (ltb low cut && ltb cut high))
    ∷ []

unfoldable pub cut_answer : Area → ℕ → ℕ → ℕ → ℕ
cut_answer a cut low high = answer (cut_tests a cut low high)

-- ---- split, at an address

pub record Pair : Type 0 where
  pub left : Area
  pub right : Area

abbrev pub pair : Area → Area → Pair
pair left right = record { left = left; right = right }

abbrev pub split_outcome : Result (Area × Area) Uncut → Reply Pair
split_outcome (Ok parts) = reply 0 (pair parts.0 parts.1)
split_outcome (Err uncut) = reply (number uncut.refusal) (pair uncut.area nothing)

unfoldable pub split_rule : Area → ℕ → Reply Pair
split_rule a at = reply_by (pair a nothing) (cut_answer a at a.start a.end) (pair (part a a.start at) (part a at a.end))

-- ---- the shrinks, to a new size: "left moves the start, right the end"; "A shrink's new size counts as its cut"

abbrev pub shrunk_outcome : Result Area Uncut → Reply Area
shrunk_outcome (Ok a) = reply 0 a
shrunk_outcome (Err uncut) = reply (number uncut.refusal) uncut.area

abbrev pub size_answer : Area → ℕ → ℕ
size_answer a size = cut_answer a size 0 (a.end - a.start)

unfoldable pub shrink_left_rule : Area → ℕ → Reply Area
shrink_left_rule a size = reply_by a (size_answer a size) (part a (a.end - size) a.end)

unfoldable pub shrink_right_rule : Area → ℕ → Reply Area
shrink_right_rule a size = reply_by a (size_answer a size) (part a a.start (a.start + size))
