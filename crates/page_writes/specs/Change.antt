-- What each of the three changes makes of one page's entry, from the page's number and its old entry. The operations do it to
-- every page of a range and leave all other entries: `within (..) first end pages`, whose laws stand in the crate lists.
-- Assumes nothing.
use Rattle.std.specs.Prelude.{◌≡◌, ℕ, ◌<◌}
use Rattle.page_table.specs.Entry.{entry_of}
use Rattle.page_table.specs.declared.Backend.{Backend}

-- 01, map: the area's "pages' entries written"
unfoldable pub writes : Backend → ℕ → ℕ → ℕ → ℕ
writes backend flags page old = entry_of backend flags page

-- 01, unmap: "Entries of pages that lay in areas and in the range become 0"
unfoldable pub wipes : ℕ → ℕ → ℕ
wipes page old = 0

-- 01, protect: the part inside has "its entries written anew from area and flags"
unfoldable pub reflags : Backend → ℕ → ℕ → ℕ → ℕ
reflags backend flags page old = entry_of backend flags page

-- what a call gives at a page below end is what the change makes of that page, whatever its old entry was
abbrev pub Makes : (ℕ → ℕ → Type 0) → ℕ → (ℕ → ℕ → ℕ) → Type 0
Makes gives end change = (page entry old : ℕ) → page < end → gives page entry → entry ≡ change page old
