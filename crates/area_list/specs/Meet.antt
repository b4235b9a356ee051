-- What a range of addresses has in common with areas (01: "some address is in both the range and an area").
-- Laws: `proofs/Meets.antt`. Assumes nothing.
use Rattle.std.specs.Prelude.{ℕ, min, max, Bool, false, ◌||◌, List, [], ◌∷◌, ltb}
use Rattle.area.specs.declared.Area.{Area}

-- the addresses from low up to high and the area have one in common: the common ones start at the later start and stop at the
-- earlier end
unfoldable pub shares : ℕ → ℕ → Area → Bool
shares low high a = ltb (max low a.start) (min high a.end)

-- some area of the list has one in common with the range
unfoldable pub shares_any : ℕ → ℕ → List Area → Bool
shares_any low high [] = false
shares_any low high (a ∷ rest) = shares low high a || shares_any low high rest
