-- When tables are good (01, "The two tables"): "Tables are good when P ≤ 65,536, count ≤ capacity, each area has start < end within
-- the space, both multiples of 4,096, flags at most 15, a legal backend word with every linear frame below 2^24, and starts no
-- earlier than the area before it ends." The parts on one area alone are `good_area` of the crate area.
-- Laws: `proofs/Goodness.antt`. Assumes nothing.
use Rattle.std.specs.Prelude.{ℕ, zero, suc, ◌*◌, Bool, true, ◌&&◌, cond, List, [], ◌∷◌, leb, length, drop}
use Rattle.lists.specs.Every.{every}
use Rattle.page_table.specs.Limits.{page_size, max_pages}
use Rattle.area.specs.Area.{good_area}
use Rattle.area_list.specs.Layout.{words_per_area, capacity_of, legal_word, row_of, area_of}
use Rattle.area_list.specs.declared.Row.{Row}

-- 01: "The space is the addresses below 4,096 × P"
abbrev pub space_of : ℕ → ℕ
space_of p = page_size * p

-- one area, after one that ended at before (the first area: after 0)
abbrev pub row_tests : ℕ → ℕ → Row → List Bool
row_tests space before r =
    good_area space (area_of r)
    ∷ legal_word r.backend
    ∷ leb before r.start
    ∷ []

unfoldable pub good_row : ℕ → ℕ → Row → Bool
good_row space before r = every (row_tests space before r)

-- the first n areas, one after the other
unfoldable pub good_rows : ℕ → ℕ → List ℕ → ℕ → Bool
good_rows space before ws zero = true
good_rows space before ws (suc n) = good_row space before (row_of ws) && good_rows space (row_of ws).end (drop words_per_area ws) n

-- the first of them that breaks the rule, from 0, or n
unfoldable pub first_bad : ℕ → ℕ → List ℕ → ℕ → ℕ
first_bad space before ws zero = 0
first_bad space before ws (suc n) = cond (good_row space before (row_of ws)) (suc (first_bad space (row_of ws).end (drop words_per_area ws) n)) 0

abbrev pub table_tests : List ℕ → ℕ → ℕ → List Bool
table_tests ws count p =
    leb p max_pages
    ∷ leb count (capacity_of (length ws))
    ∷ good_rows (space_of p) 0 ws count
    ∷ []

unfoldable pub good_tables : List ℕ → ℕ → ℕ → Bool
good_tables ws count p = every (table_tests ws count p)
