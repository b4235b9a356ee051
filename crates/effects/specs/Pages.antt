-- What the changes do to the page entries, page by page (01, "The calls"). Laws: `proofs/Paging.antt`. Assumes nothing.
use Rattle.std.specs.Prelude.{ℕ, ◌/◌, cond, List, [], ◌∷◌}
use Rattle.lists.specs.Each.{within}
use Rattle.page_table.specs.Limits.{page_size}
use Rattle.page_writes.specs.Change.{writes, wipes, reflags}
use Rattle.area.specs.Area.{first_page, end_page, holds}
use Rattle.area.specs.declared.Area.{Area}
use Rattle.effects.specs.Lists.{new_flags, changes}

-- an effect on the pages that lie in areas, from the area, the page and its old entry; pages in gaps stay
unfoldable pub on_areas : (Area → ℕ → ℕ → ℕ) → List Area → ℕ → ℕ → ℕ
on_areas f [] page old = old
on_areas f (a ∷ rest) page old = cond (holds a page) (f a page old) (on_areas f rest page old)

-- such an effect on the pages of a range of addresses
abbrev pub in_areas : (Area → ℕ → ℕ → ℕ) → List Area → ℕ → ℕ → List ℕ → List ℕ
in_areas f list low high pages = within (on_areas f list) (low / page_size) (high / page_size) pages

-- unmap: "Entries of pages that lay in areas and in the range become 0; other entries stay, also in gaps."
abbrev pub wipes_area : Area → ℕ → ℕ → ℕ
wipes_area a page old = wipes page old

unfoldable pub cut_pages : ℕ → ℕ → List Area → List ℕ → List ℕ
cut_pages low high list pages = in_areas wipes_area list low high pages

-- map: the inserted area's "pages' entries written"
unfoldable pub map_pages : Area → List ℕ → List ℕ
map_pages a pages = within (writes a.backend a.flags) (first_page a) (end_page a) pages

-- protect: "the part inside gets the new flags, and its entries are written anew from area and flags"
unfoldable pub protects_area : ℕ → ℕ → Area → ℕ → ℕ → ℕ
protects_area set clear a page old = cond (changes set clear a) (reflags a.backend (new_flags set clear a.flags) page old) old

unfoldable pub protect_pages : ℕ → ℕ → ℕ → ℕ → List Area → List ℕ → List ℕ
protect_pages low high set clear list pages = in_areas (protects_area set clear) list low high pages
