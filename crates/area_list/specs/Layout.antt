-- How areas lie in the lent words (01: "The lent area table holds four u64 words an area: start, end, flags, backend"). Nothing
-- above this crate, good_tables, positions and slots names a word. Laws: `proofs/Rows.antt`. Assumes nothing.
use Rattle.std.specs.Prelude.{ℕ, zero, suc, ◌+◌, ◌-◌, ◌*◌, ◌/◌, ◌^◌, ◌≤◌, min, ◌≡◌, Bool, true, ◌&&◌, ◌||◌, cond, List, [], ◌∷◌, leb, ltb, eqb, get_or, drop, Result, MatchResult}
use Rattle.page_table.specs.Limits.{max_flags}
use Rattle.page_table.specs.declared.Backend.{Backend}
use Rattle.page_table.specs.declared.Backend.TheVariants.{Lazy, Linear}
use Rattle.area.specs.declared.Area.{Area}
use Rattle.area_list.specs.declared.NoArea.{NoArea}
use Rattle.area_list.specs.declared.Row.{Row}

-- words an area, and the most areas
abbrev pub words_per_area : ℕ
words_per_area = 4

abbrev pub max_areas : ℕ
max_areas = 256

-- 01: "Capacity is the smaller of 256 and the whole areas that fit the slice"
unfoldable pub capacity_of : ℕ → ℕ
capacity_of words = min max_areas (words / words_per_area)

-- ---- one area's words

-- 01: "The backend word is 0 for lazy, 2^32 + delta for linear", with a delta of 32 bits
unfoldable pub legal_word : ℕ → Bool
legal_word w = eqb w 0 || (leb (2 ^ 32) w && ltb w (2 ^ 33))

unfoldable pub backend_of : ℕ → Backend
backend_of w = cond (eqb w 0) Lazy (Linear (w - 2 ^ 32))

unfoldable pub word_of : Backend → ℕ
word_of Lazy = 0
word_of (Linear delta) = 2 ^ 32 + delta

abbrev pub row_with : ℕ → ℕ → ℕ → ℕ → Row
row_with start end flags backend = record { start = start; end = end; flags = flags; backend = backend }

-- the first words of a list
unfoldable pub row_of : List ℕ → Row
row_of ws = row_with (get_or ws 0 0) (get_or ws 1 0) (get_or ws 2 0) (get_or ws 3 0)

unfoldable pub row_at : List ℕ → ℕ → Row
row_at ws i = row_of (drop (words_per_area * i) ws)

abbrev pub area_of : Row → Area
area_of r = record { start = r.start; end = r.end; flags = r.flags; backend = backend_of r.backend }

-- words that stand for an area: its flags fit, and its backend word is legal
pub record LegalRow (r : Row) : Type 0 where
  pub flags_fit : r.flags ≤ max_flags
  pub word_legal : legal_word r.backend ≡ true

-- what reading them gives: their area, or an error exactly where they stand for none
abbrev pub Reads : Row → Result Area NoArea → Type 0
Reads r outcome = MatchResult outcome (λ a. LegalRow r × (a ≡ area_of r)) (λ e. LegalRow r → ⊥)

unfoldable pub words_of : Area → List ℕ
words_of a = a.start ∷ a.end ∷ a.flags ∷ word_of a.backend ∷ []

-- ---- all areas

-- the first n areas that the words say
unfoldable pub rows : List ℕ → ℕ → List Area
rows ws zero = []
rows ws (suc n) = area_of (row_of ws) ∷ rows (drop words_per_area ws) n
