-- One area: when good tables could hold it, which pages it has and what it says of each (01, "The two tables").
-- Laws: `proofs/Areas.antt`. Assumes nothing.
use Rattle.std.specs.Prelude.{ℕ, ◌*◌, ◌/◌, ◌%◌, Bool, List, [], ◌∷◌, leb, ltb, eqb}
use Rattle.lists.specs.Each.{in_range}
use Rattle.lists.specs.Every.{every}
use Rattle.page_table.specs.Limits.{page_size, max_pages, max_flags}
use Rattle.page_table.specs.Entry.{entry_of}
use Rattle.page_table.specs.Frames.{backend_fits}
use Rattle.page_table.specs.declared.Backend.TheVariants.{Lazy}
use Rattle.area.specs.declared.Area.{Area}

-- a multiple of 4,096
unfoldable pub aligned : ℕ → Bool
aligned n = eqb (n % page_size) 0

-- the pages of an area: from the first up to, and without, the last
abbrev pub first_page : Area → ℕ
first_page a = a.start / page_size

abbrev pub end_page : Area → ℕ
end_page a = a.end / page_size

-- 01: "each area has start < end within the space, both multiples of 4,096, flags at most 15, a legal backend word with every
-- linear frame below 2^24"
abbrev pub area_tests : ℕ → Area → List Bool
area_tests space a =
    ltb a.start a.end
    ∷ leb a.end space
    ∷ aligned a.start
    ∷ aligned a.end
    ∷ leb a.flags max_flags
    ∷ backend_fits a.backend (first_page a) (end_page a)
    ∷ []

unfoldable pub good_area : ℕ → Area → Bool
good_area space a = every (area_tests space a)

-- the space of the largest page table: an area that is not good in it is one "that no good tables could hold"
abbrev pub largest_space : ℕ
largest_space = page_size * max_pages

-- the page lies in the area
unfoldable pub holds : Area → ℕ → Bool
holds a page = in_range (first_page a) (end_page a) page

-- the entry that the area gives a page of its own
unfoldable pub area_entry : Area → ℕ → ℕ
area_entry a page = entry_of a.backend a.flags page

-- other addresses with the area's flags and backend
abbrev pub part : Area → ℕ → ℕ → Area
part a start end = record { start = start; end = end; flags = a.flags; backend = a.backend }

-- the all-zero area
abbrev pub nothing : Area
nothing = record { start = 0; end = 0; flags = 0; backend = Lazy }
