-- What the changes do to the list of areas, area by area (01, "The calls"). Addresses from low up to high are the call's range.
-- Laws: `proofs/Cutting.antt`, `proofs/Protecting.antt`. Assumes nothing.
use Rattle.std.specs.Prelude.{ℕ, ◌-◌, min, max, Bool, true, false, not, ◌&&◌, cond, leb, ltb, eqb}
use mathlib.Core.List.{List, [], ◌∷◌, ◌++◌, flat_map}
use Rattle.std.specs.Int.Bits.{bit_and, bit_or}
use Rattle.page_table.specs.Limits.{max_flags}
use Rattle.area.specs.Area.{part}
use Rattle.area.specs.declared.Area.{Area}
use Rattle.area_list.specs.Meet.{shares}

-- an area, or nothing
abbrev pub piece : Bool → Area → List Area
piece true a = a ∷ []
piece false a = []

-- what of an area lies before low, and what lies from high on
abbrev pub left_piece : ℕ → Area → List Area
left_piece low a = piece (ltb a.start low) (part a a.start low)

abbrev pub right_piece : ℕ → Area → List Area
right_piece high a = piece (ltb high a.end) (part a high a.end)

-- unmap: "Contained areas vanish; others lose the part inside; one that surrounds the range becomes two with equal flags and
-- backend." An area with no address in the range stays, also where the range is empty.
unfoldable pub outside : ℕ → ℕ → Area → List Area
outside low high a = cond (shares low high a) (left_piece low a ++ right_piece high a) (a ∷ [])

unfoldable pub cut : ℕ → ℕ → List Area → List Area
cut low high list = flat_map (outside low high) list

-- map: "one area is inserted", in order
unfoldable pub insert : Area → List Area → List Area
insert a [] = a ∷ []
insert a (b ∷ rest) = cond (leb a.start b.start) (a ∷ b ∷ rest) (b ∷ insert a rest)

-- protect: "New flags are the old ones without the clear bits, then with the set bits"
unfoldable pub new_flags : ℕ → ℕ → ℕ → ℕ
new_flags set clear old = bit_or (bit_and old (max_flags - clear)) set

unfoldable pub changes : ℕ → ℕ → Area → Bool
changes set clear a = not (eqb (new_flags set clear a.flags) a.flags)

abbrev pub with_flags : ℕ → Area → Area
with_flags flags a = record { start = a.start; end = a.end; flags = flags; backend = a.backend }

-- "an area whose flags don't change is skipped and not split. Each changed area is split where a range end lies strictly inside it;
-- the part inside gets the new flags"
unfoldable pub protected : ℕ → ℕ → ℕ → ℕ → Area → List Area
protected low high set clear a =
    cond (shares low high a && changes set clear a)
    (left_piece low a
    ++ (with_flags (new_flags set clear a.flags) (part a (max low a.start) (min high a.end)) ∷ right_piece high a))
    (a ∷ [])

unfoldable pub protect : ℕ → ℕ → ℕ → ℕ → List Area → List Area
protect low high set clear list = flat_map (protected low high set clear) list
