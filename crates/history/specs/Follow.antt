-- What the tables are after a run, said from the history of accepted calls alone: each page's entry, what a lookup at any address
-- says, that the areas are in order, apart and cover the mapped pages, and how many there can be. Laws: `proofs/History.antt`.
-- Assumes nothing.
use Rattle.std.specs.Prelude.{ℕ, ◌-◌, ◌*◌, ◌/◌, ◌≤◌, ◌<◌, ◌≡◌, true, List, ◌↔◌, length, get_or}
use Rattle.page_table.specs.Limits.{page_size}
use Rattle.page_table.specs.declared.Backend.{Backend}
use Rattle.area.specs.Answer.{Reply, reply}
use Rattle.area.specs.Area.{first_page, end_page, holds, nothing}
use Rattle.area.specs.declared.Area.{Area}
use Rattle.area_list.specs.Good.{good_tables}
use Rattle.area_list.specs.Layout.{capacity_of, rows}
use Rattle.area_list.specs.Position.{contains}
use Rattle.questions.specs.Question.{find_rule, entries_rule}
use Rattle.rules.specs.Change.{Tables}
use Rattle.rules.specs.Calls.{Call}
use Rattle.history.specs.Fate.{unmapped, mapped, fate, entry_for}

-- what the calls say of these tables
abbrev pub areas_of : Tables → List Area
areas_of t = rows t.areas t.count

abbrev pub find_in : Tables → ℕ → Reply Area
find_in t address = find_rule t.areas t.pages t.count address

abbrev pub entries_in : Tables → ℕ → List ℕ
entries_in t address = entries_rule t.areas t.pages t.count address

-- find at the address is accepted, with an area that holds it and has this backend and these flags
pub record Finds (t : Tables) (address : ℕ) (backend : Backend) (flags : ℕ) : Type 0 where
  pub accepted : (find_in t address).answer ≡ 0
  pub here : contains address (find_in t address).value ≡ true
  pub backend_is : (find_in t address).value.backend ≡ backend
  pub flags_are : (find_in t address).value.flags ≡ flags

-- some area of the list holds the page
pub record Held (list : List Area) (page : ℕ) : Type 0 where
  pub slot : ℕ
  pub within : slot < length list
  pub holds_it : holds (get_or list slot nothing) page ≡ true

pub record Follows (words p : ℕ) (t : Tables) (history : List Call) : Type 0 where
  -- tables as long as they were, and good
  pub areas_long : length t.areas ≡ words
  pub pages_long : length t.pages ≡ p
  pub good : good_tables t.areas t.count p ≡ true
  -- each page's entry
  pub entries : (page : ℕ) → page < p → get_or t.pages page 0 ≡ entry_for page (fate history page)
  -- find at every address, mapped and not
  pub finds : (address : ℕ) (backend : Backend) (flags : ℕ) → fate history (address / page_size) ≡ mapped backend flags → Finds t address backend flags
  pub finds_none : (address : ℕ) → fate history (address / page_size) ≡ unmapped → find_in t address ≡ reply 7 nothing
  -- entries at every address: one for each page of the area found, and that page's own
  pub shows_all : (address : ℕ) → length (entries_in t address) ≡ end_page (find_in t address).value - first_page (find_in t address).value
  pub shows : (address page : ℕ) → holds (find_in t address).value page ≡ true
      → get_or (entries_in t address) (page - first_page (find_in t address).value) 0 ≡ entry_for page (fate history page)
  -- each area starts at or past the end of each one before it, and together they hold the mapped pages and no others
  pub apart : (i j : ℕ) → i < j → j < t.count → (get_or (areas_of t) i nothing).end ≤ (get_or (areas_of t) j nothing).start
  pub cover : (page : ℕ) → Held (areas_of t) page ↔ (fate history page ≡ unmapped → ⊥)
  -- at most two areas for each accepted call, and no more than there is room for
  pub few : t.count ≤ 2 * length history
  pub fits : t.count ≤ capacity_of words
