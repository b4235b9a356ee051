-- The areas of a sorted list that a range of addresses meets; where the range is empty, the area that it lies in.
-- Laws: `proofs/Walking.antt`. Assumes nothing.
use Rattle.std.specs.Prelude.{ℕ, cond, List, [], ◌∷◌, ltb, drop}
use Rattle.area.specs.declared.Area.{Area}
use Rattle.area_list.specs.Position.{first_where, ends_past}

-- the areas from the front that start before an address
unfoldable pub until : ℕ → List Area → List Area
until high [] = []
until high (a ∷ rest) = cond (ltb a.start high) (a ∷ until high rest) []

-- from the first that ends past low, up to the first that starts at high or later
abbrev pub meeting : ℕ → ℕ → List Area → List Area
meeting low high list = until high (drop (first_where (ends_past low) list) list)
