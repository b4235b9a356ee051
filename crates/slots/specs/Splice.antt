-- What a splice takes: the areas that go in, and the run of slots that gives way to them. What it leaves is `store` and `spliced` of
-- the crate area_list. Laws: `proofs/Writes.antt`. Assumes nothing.
use Rattle.std.specs.Prelude.{ℕ, ◌+◌, ◌-◌, ◌≤◌, List, Option}
use Rattle.std.specs.List.{filter_map}
use Rattle.area.specs.declared.Area.{Area}
use Rattle.area_list.specs.Layout.{capacity_of}

-- the areas that a splice puts in: those that are there, in order
abbrev pub parts_of : List (Option Area) → List Area
parts_of parts = filter_map (λ part. part) parts

-- a run of slots that may give way to so many areas: the new list fits the capacity
pub record Gap (words count low high number : ℕ) : Type 0 where
  pub ordered : low ≤ high
  pub inside : high ≤ count
  pub fits : low + number + (count - high) ≤ capacity_of words
