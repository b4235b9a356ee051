-- What an audit says of a dump (02, W1): "`table` for a count or P over its limit or a dump of another length; else `area N` for
-- the first area, from 0, that breaks 01's rule; else `page N` for the lowest page that disagrees; else `good`."
-- 01's rule is that of the set, `good_row`. Laws: `proofs/Audits.antt`. Assumes nothing.
use Rattle.std.specs.Prelude.{ℕ, ◌*◌, ◌≤◌, ◌≡◌, Bool, true, cond, List, [], ◌∷◌, leb, ltb, eqb, length}
use Rattle.lists.specs.Every.{every}
use Rattle.area_list.specs.Layout.{words_per_area, rows}
use Rattle.area_list.specs.Good.{space_of, first_bad}
use Rattle.dumps.specs.Dump.{most_areas, most_pages, dump_length, count_in, pages_in, words_in, entries_in}
use Rattle.agreement.specs.Agree.{first_wrong}
use Rattle.audits.specs.declared.Verdict.{Verdict}
use Rattle.audits.specs.declared.Verdict.TheVariants.{Table, Area, Page, Good}

-- a place below the number of places is the verdict; else another is
unfoldable pub found : (ℕ → Verdict) → ℕ → ℕ → Verdict → Verdict
found verdict place places other = cond (ltb place places) (verdict place) other

-- the verdict on the words of so many areas and the entries of all pages
unfoldable pub tables_rule : List ℕ → List ℕ → ℕ → Verdict
tables_rule words entries count =
    found Area (first_bad (space_of (length entries)) 0 words count) count
    (found Page (first_wrong (rows words count) entries) (length entries)
    Good)

-- count and P are within their limits, and the dump has the length that they say
abbrev pub size_tests : List ℕ → List Bool
size_tests bytes =
    leb (count_in bytes) most_areas
    ∷ leb (pages_in bytes) most_pages
    ∷ eqb (length bytes) (dump_length (count_in bytes) (pages_in bytes))
    ∷ []

unfoldable pub sized_dump : List ℕ → Bool
sized_dump bytes = every (size_tests bytes)

-- the same as facts
pub record Sized (bytes : List ℕ) : Type 0 where
  pub few_areas : count_in bytes ≤ most_areas
  pub few_pages : pages_in bytes ≤ most_pages
  pub long : length bytes ≡ dump_length (count_in bytes) (pages_in bytes)

-- tables lent to read such a dump into, as long as it says
pub record Lent (bytes areas pages : List ℕ) (count : ℕ) : Type 0 where
  pub sized : sized_dump bytes ≡ true
  pub count_is : count ≡ count_in bytes
  pub areas_long : length areas ≡ words_per_area * count
  pub pages_long : length pages ≡ pages_in bytes

-- the verdict on a dump
unfoldable pub audit_rule : List ℕ → Verdict
audit_rule bytes = cond (sized_dump bytes) (tables_rule (words_in bytes) (entries_in bytes) (count_in bytes)) Table
