-- When a page's entry agrees with the areas (02, W1): "each page's entry is what its area says, or 0 where no area lies". What an
-- area says is `area_entry`, as in the set. Laws: `proofs/Agreeing.antt`. Assumes nothing.
use Rattle.std.specs.Prelude.{ℕ, ◌-◌, ◌<◌, ◌≡◌, Bool, true, false, not, cond, List, [], ◌∷◌, eqb, length, get_or}
use Rattle.lists.specs.Every.{lowest_of}
use Rattle.area.specs.Area.{holds, area_entry, nothing}
use Rattle.area.specs.declared.Area.{Area}

-- the page's entry is another than what is said of the page
unfoldable pub differs : (ℕ → ℕ) → List ℕ → ℕ → Bool
differs says entries page = not (eqb (get_or entries page 0) (says page))

-- what the entry should be where no area lies
abbrev pub unmapped : ℕ → ℕ
unmapped page = 0

-- the page's entry is not what its area says, or not 0 where no area lies
unfoldable pub disagrees : List Area → List ℕ → ℕ → Bool
disagrees [] entries page = differs unmapped entries page
disagrees (a ∷ rest) entries page = cond (holds a page) (differs (area_entry a) entries page) (disagrees rest entries page)

-- the lowest number from first up to, and without, end that passes the test, or end
abbrev pub lowest_in : (ℕ → Bool) → ℕ → ℕ → ℕ
lowest_in p first end = lowest_of p first (end - first)

-- "the lowest page that disagrees", or the number of pages
unfoldable pub first_wrong : List Area → List ℕ → ℕ
first_wrong areas entries = lowest_in (disagrees areas entries) 0 (length entries)

-- the same as facts: what every area that holds the page says, and what holds where none does
pub record Agrees (areas : List Area) (entries : List ℕ) (page : ℕ) : Type 0 where
  pub in_area : (slot : ℕ) → slot < length areas → holds (get_or areas slot nothing) page ≡ true
      → get_or entries page 0 ≡ area_entry (get_or areas slot nothing) page
  pub in_none : ((slot : ℕ) → slot < length areas → holds (get_or areas slot nothing) page ≡ false) → get_or entries page 0 ≡ 0
