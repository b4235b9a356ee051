-- The calls that ask and change nothing (01, "The calls"). Each rule is total: an answer number, which is the first test that
-- applies, and the other values of the answer; "any other number in its answer is 0, and any yes or no is no" in a refusal.
-- Laws: `proofs/Questions.antt`. Assumes nothing.
use Rattle.std.specs.Prelude.{ℕ, zero, suc, ◌+◌, ◌-◌, ◌%◌, Bool, false, not, List, [], ◌∷◌, eqb, leb, ltb, length, get_or, take, drop, Result}
use Rattle.page_table.specs.Limits.{page_size}
use Rattle.area.specs.Answer.{Test, refuse, answer, Reply, reply, reply_by, outcome}
use Rattle.area.specs.declared.Refusal.{Refusal}
use Rattle.area.specs.Area.{first_page, end_page, nothing}
use Rattle.area.specs.declared.Area.{Area}
use Rattle.area_list.specs.Layout.{rows}
use Rattle.area_list.specs.Position.{first_where, contains}
use Rattle.area_list.specs.Meet.{shares_any}
use Rattle.area_list.specs.Good.{space_of}
use Rattle.search.specs.Free.{is_power_of_two, asked, FreeOutcome, free_rule}
use Rattle.questions.specs.Tests.{bad_tables, tables_answer, range_answer}

-- ---- len and empty: "The count; whether it is 0"

abbrev pub len_outcome : Result ℕ Refusal → Reply ℕ
len_outcome = outcome 0

unfoldable pub len_rule : List ℕ → List ℕ → ℕ → Reply ℕ
len_rule areas pages count = reply_by 0 (tables_answer areas pages count) count

abbrev pub told_outcome : Result Bool Refusal → Reply Bool
told_outcome = outcome false

unfoldable pub empty_rule : List ℕ → List ℕ → ℕ → Reply Bool
empty_rule areas pages count = reply_by false (tables_answer areas pages count) (eqb count 0)

-- ---- overlaps: "Yes exactly when some address is in both the range and an area. Size 0: no."

unfoldable pub overlaps_rule : List ℕ → List ℕ → ℕ → ℕ → ℕ → Reply Bool
overlaps_rule areas pages count start size =
    reply_by false (range_answer areas pages count start size) (shares_any start (start + size) (rows areas count))

-- ---- find: "The area holding it"; 7 for an "address in no area"

abbrev pub found_outcome : Result Area Refusal → Reply Area
found_outcome = outcome nothing

-- the place of the area that holds the address, or the number of areas
unfoldable pub holder : List Area → ℕ → ℕ
holder list address = first_where (contains address) list

unfoldable pub find_answer : List ℕ → List ℕ → ℕ → ℕ → ℕ
find_answer areas pages count address =
    answer (bad_tables areas pages count ∷ refuse 7 (leb count (holder (rows areas count) address)) ∷ [])

unfoldable pub find_rule : List ℕ → List ℕ → ℕ → ℕ → Reply Area
find_rule areas pages count address =
    reply_by nothing (find_answer areas pages count address) (get_or (rows areas count) (holder (rows areas count) address) nothing)

-- ---- entries: "The same search, but the page entries of the area found are handed back as a part of the caller's own page table"

-- the entries of an area's pages; the all-zero area of a refusal has none
unfoldable pub entries_of : Area → List ℕ → List ℕ
entries_of area pages = take (end_page area - first_page area) (drop (first_page area) pages)

unfoldable pub entries_rule : List ℕ → List ℕ → ℕ → ℕ → List ℕ
entries_rule areas pages count address = entries_of (find_rule areas pages count address).value pages

-- ---- free-area search: "The lowest address that is a multiple of align, at least hint and limit start, with address + size within
-- limit end and the space, meeting no area"; 7 for "no free address"

-- "Search alone tests 3 before 2: 3 for align no power of two or below 4,096, size 0, or limit start above limit end"; 2 for "size
-- no multiple of align"
unfoldable pub search_tests : List ℕ → List ℕ → ℕ → ℕ → ℕ → ℕ → ℕ → List Test
search_tests areas pages count size limitStart limitEnd align =
    bad_tables areas pages count
    ∷ refuse 3 (not (is_power_of_two align))
    ∷ refuse 3 (ltb align page_size)
    ∷ refuse 3 (eqb size 0)
    ∷ refuse 3 (ltb limitEnd limitStart)
    ∷ refuse 2 (not (eqb (size % align) 0))
    ∷ []

unfoldable pub search_answer : List ℕ → List ℕ → ℕ → ℕ → ℕ → ℕ → ℕ → ℕ
search_answer areas pages count size limitStart limitEnd align = answer (search_tests areas pages count size limitStart limitEnd align)

abbrev pub placed_outcome : Result ℕ Refusal → Reply ℕ
placed_outcome = outcome 0

-- what the search found, or address 0 where a test refused
unfoldable pub placed_by : ℕ → FreeOutcome → Reply ℕ
placed_by zero found = reply found.answer found.at
placed_by (suc n) found = reply (suc n) 0

unfoldable pub free_area_rule : List ℕ → List ℕ → ℕ → ℕ → ℕ → ℕ → ℕ → ℕ → Reply ℕ
free_area_rule areas pages count hint size limitStart limitEnd align =
    placed_by (search_answer areas pages count size limitStart limitEnd align)
    (free_rule (rows areas count) (asked hint size limitStart limitEnd align (space_of (length pages))))
