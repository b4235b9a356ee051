-- The calls that change the tables (01, "The calls"). Each rule is total: an answer number, which is the first test that applies,
-- and the tables afterwards. "A refusal writes nothing and returns the old count".
-- Laws: `proofs/Changing.antt`. Assumes nothing.
use Rattle.std.specs.Prelude.{ℕ, ◌+◌, ◌/◌, Bool, not, ◌&&◌, List, [], ◌∷◌, ◌++◌, ltb, eqb, length, Result}
use Rattle.page_table.specs.Limits.{page_size, max_flags}
use Rattle.page_table.specs.Frames.{backend_fits}
use Rattle.page_table.specs.declared.Backend.{Backend}
use Rattle.area.specs.Answer.{Test, refuse, answer, Reply, reply, reply_by, outcome}
use Rattle.area.specs.declared.Area.{Area}
use Rattle.area.specs.declared.Refusal.{Refusal}
use Rattle.area_list.specs.Layout.{capacity_of, rows}
use Rattle.area_list.specs.Good.{space_of}
use Rattle.area_list.specs.Meet.{shares_any}
use Rattle.area_list.specs.Store.{store}
use Rattle.effects.specs.Lists.{cut, insert, protect}
use Rattle.effects.specs.Pages.{cut_pages, map_pages, protect_pages}
use Rattle.questions.specs.Tests.{tables_answer, range_tests}

-- both tables and the count
pub record Tables : Type 0 where
  pub areas : List ℕ
  pub pages : List ℕ
  pub count : ℕ

abbrev pub tables : List ℕ → List ℕ → ℕ → Tables
tables areas pages count = record { areas = areas; pages = pages; count = count }

-- what a change answers, and the tables afterwards: in a refusal the count is the old one
abbrev pub changed_outcome : ℕ → Result ℕ Refusal → List ℕ → List ℕ → Reply Tables
changed_outcome old r areas pages = reply (outcome old r).answer (tables areas pages (outcome old r).value)

-- the tables after a new list of areas went in
abbrev pub listed : List Area → List ℕ → List ℕ → ℕ → Tables
listed list areas pages count = tables (store list areas count) pages (length list)

-- 6, NoRoom: "the resulting list would exceed capacity"
abbrev pub no_room : List ℕ → List Area → Test
no_room areas list = refuse 6 (ltb (capacity_of (length areas)) (length list))

-- ---- unmap

abbrev pub unmap_list : List ℕ → ℕ → ℕ → ℕ → List Area
unmap_list areas count start size = cut start (start + size) (rows areas count)

abbrev pub unmap_tests : List ℕ → List ℕ → ℕ → ℕ → ℕ → List Test
unmap_tests areas pages count start size =
    range_tests areas pages count start size ++ (no_room areas (unmap_list areas count start size) ∷ [])

unfoldable pub unmap_rule : List ℕ → List ℕ → ℕ → ℕ → ℕ → Reply Tables
unmap_rule areas pages count start size =
    reply_by (tables areas pages count) (answer (unmap_tests areas pages count start size))
    (listed (unmap_list areas count start size) areas (cut_pages start (start + size) (rows areas count) pages) count)

-- ---- clear: "All areas' entries become 0, count 0."

unfoldable pub clear_rule : List ℕ → List ℕ → ℕ → Reply Tables
clear_rule areas pages count =
    reply_by (tables areas pages count) (tables_answer areas pages count)
    (listed [] areas (cut_pages 0 (space_of (length pages)) (rows areas count) pages) count)

-- ---- map: "Replacing first unmaps the range. Then one area is inserted and its pages' entries written."

abbrev pub mapped : ℕ → ℕ → ℕ → Backend → Area
mapped start size flags backend = record { start = start; end = start + size; flags = flags; backend = backend }

abbrev pub map_list : List ℕ → ℕ → Area → List Area
map_list areas count a = insert a (cut a.start a.end (rows areas count))

-- after the range's tests: 3 "map of size 0; flags .. above 15", 4 "map without replacing meets an area", 5 "linear map with any
-- frame at or above 2^24"; then 6
abbrev pub map_first_tests : List ℕ → List ℕ → ℕ → ℕ → ℕ → ℕ → Backend → Bool → List Test
map_first_tests areas pages count start size flags backend replace =
    range_tests areas pages count start size
    ++ (refuse 3 (eqb size 0)
    ∷ refuse 3 (ltb max_flags flags)
    ∷ refuse 4 (not replace && shares_any start (start + size) (rows areas count))
    ∷ refuse 5 (not (backend_fits backend (start / page_size) ((start + size) / page_size)))
    ∷ [])

unfoldable pub map_first_answer : List ℕ → List ℕ → ℕ → ℕ → ℕ → ℕ → Backend → Bool → ℕ
map_first_answer areas pages count start size flags backend replace = answer (map_first_tests areas pages count start size flags backend replace)

abbrev pub map_tests : List ℕ → List ℕ → ℕ → ℕ → ℕ → ℕ → Backend → Bool → List Test
map_tests areas pages count start size flags backend replace =
    map_first_tests areas pages count start size flags backend replace ++ (no_room areas (map_list areas count (mapped start size flags backend)) ∷ [])

unfoldable pub map_rule : List ℕ → List ℕ → ℕ → ℕ → ℕ → ℕ → Backend → Bool → Reply Tables
map_rule areas pages count start size flags backend replace =
    reply_by (tables areas pages count) (answer (map_tests areas pages count start size flags backend replace))
    (listed (map_list areas count (mapped start size flags backend)) areas
    (map_pages (mapped start size flags backend) (cut_pages start (start + size) (rows areas count) pages)) count)

-- ---- protect: flags without the clear bits, then with the set bits, on the parts of areas in the range

abbrev pub protect_list : List ℕ → ℕ → ℕ → ℕ → ℕ → ℕ → List Area
protect_list areas count start size set clear = protect start (start + size) set clear (rows areas count)

-- after the range's tests: 3 "set or clear above 15"; then 6
abbrev pub protect_first_tests : List ℕ → List ℕ → ℕ → ℕ → ℕ → ℕ → ℕ → List Test
protect_first_tests areas pages count start size set clear =
    range_tests areas pages count start size ++ (refuse 3 (ltb max_flags set) ∷ refuse 3 (ltb max_flags clear) ∷ [])

unfoldable pub protect_first_answer : List ℕ → List ℕ → ℕ → ℕ → ℕ → ℕ → ℕ → ℕ
protect_first_answer areas pages count start size set clear = answer (protect_first_tests areas pages count start size set clear)

abbrev pub protect_tests : List ℕ → List ℕ → ℕ → ℕ → ℕ → ℕ → ℕ → List Test
protect_tests areas pages count start size set clear =
    protect_first_tests areas pages count start size set clear ++ (no_room areas (protect_list areas count start size set clear) ∷ [])

unfoldable pub protect_rule : List ℕ → List ℕ → ℕ → ℕ → ℕ → ℕ → ℕ → Reply Tables
protect_rule areas pages count start size set clear =
    reply_by (tables areas pages count) (answer (protect_tests areas pages count start size set clear))
    (listed (protect_list areas count start size set clear) areas (protect_pages start (start + size) set clear (rows areas count) pages) count)
