-- What a slot has, for any words, any count and any slot: a walk may be asked where no area is. Laws: `proofs/Items.antt`.
-- Assumes nothing.
use Rattle.std.specs.Prelude.{ℕ, Bool, cond, List, [], ◌∷◌, leb, ltb, length, get_or, Option, Some, None}
use Rattle.lists.specs.Every.{every}
use Rattle.page_table.specs.Limits.{max_flags}
use Rattle.area.specs.Area.{nothing}
use Rattle.area.specs.declared.Area.{Area}
use Rattle.area_list.specs.Layout.{capacity_of, legal_word, row_at, rows}

-- the slot has an area: it is below the count and the capacity, and its words are legal
abbrev pub slot_tests : List ℕ → ℕ → ℕ → List Bool
slot_tests ws count slot =
    ltb slot count
    ∷ ltb slot (capacity_of (length ws))
    ∷ leb (row_at ws slot).flags max_flags
    ∷ legal_word (row_at ws slot).backend
    ∷ []

unfoldable pub item_at : List ℕ → ℕ → ℕ → Option Area
item_at ws count slot = cond (every (slot_tests ws count slot)) (Some (get_or (rows ws count) slot nothing)) None
