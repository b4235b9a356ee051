-- What the changes make of the page entries, where these were what the list of areas says: they are what the new list says.
-- Assumes nothing.
use Prim.Native.Nat.{ℕ, ◌/◌, ◌<◌}
use mathlib.Core.Path.{◌≡◌, refl, ◌∙◌}
use mathlib.Core.Bool.{cond}
use mathlib.Core.List.{List, [], ◌∷◌}
use lib.ListN.{length, get_or}
use Rattle.lists.specs.Each.{in_range, only}
use Rattle.lists.proofs.Each.{length_within, get_d_within}
use Rattle.lists.proofs.Every.{by_test}
use Rattle.page_table.specs.Limits.{page_size}
use Rattle.page_table.specs.Entry.{entry_of}
use Rattle.page_writes.specs.Change.{writes, wipes, reflags}
use Rattle.area.specs.Area.{first_page, end_page, holds}
use Rattle.area.specs.declared.Area.{Area}
use Rattle.effects.specs.Lists.{changes, new_flags}
use Rattle.effects.specs.Pages.{on_areas, wipes_area, cut_pages, map_pages, protects_area, protect_pages}
use Rattle.effects.proofs.Protecting.{same_flags}
use Rattle.history.specs.Fate.{Fate, unmapped, mapped, reflagged, entry_for}
use Rattle.history.proofs.Lookups.{seen, lookup}

-- an effect on one entry, in the range or not
only_by : (f : ℕ → ℕ → ℕ) (first end page old : ℕ) (inside outside : Fate) → f page old ≡ entry_for page inside → old ≡ entry_for page outside
    → only f first end page old ≡ entry_for page (cond (in_range first end page) inside outside)
unfolding only
only_by f first end page old inside outside a b = by_test (in_range first end page) (λ e. rw e a) (λ e. rw e b)

-- a page that no area holds has the entry 0 already
wiped : (xs : List Area) (page : ℕ) → on_areas wipes_area xs page (entry_for page (lookup xs page)) ≡ 0
unfolding on_areas seen entry_for wipes
wiped [] page = refl
wiped (a ∷ xs) page = by_test (holds a page) (λ e. rw e) (λ e. rw e (wiped xs page))

reflags_area : (set clear : ℕ) (a : Area) (page : ℕ)
    → protects_area set clear a page (entry_of a.backend a.flags page) ≡ entry_of a.backend (new_flags set clear a.flags) page
unfolding protects_area reflags
reflags_area set clear a page = by_test (changes set clear a) (λ c. rw c) (λ c. rw (c, same_flags set clear a c))

reflagged_entry : (set clear : ℕ) (xs : List Area) (page : ℕ)
    → on_areas (protects_area set clear) xs page (entry_for page (lookup xs page)) ≡ entry_for page (reflagged set clear (lookup xs page))
unfolding on_areas seen entry_for reflagged
reflagged_entry set clear [] page = refl
reflagged_entry set clear (a ∷ xs) page =
    by_test (holds a page) (λ e. rw e (reflags_area set clear a page)) (λ e. rw e (reflagged_entry set clear xs page))

module _ (xs : List Area) (pages : List ℕ) (page : ℕ) (l : page < length pages) (now : get_or pages page 0 ≡ entry_for page (lookup xs page)) where
  pub cut_entry : (low high : ℕ)
      → get_or (cut_pages low high xs pages) page 0 ≡ entry_for page (cond (in_range (low / page_size) (high / page_size) page) unmapped (lookup xs page))
  unfolding cut_pages entry_for
  cut_entry low high =
      get_d_within (on_areas wipes_area xs) (low / page_size) (high / page_size) pages page l
      ∙ only_by (on_areas wipes_area xs) (low / page_size) (high / page_size) page (get_or pages page 0) unmapped (lookup xs page)
      (rw now (wiped xs page)) now

  pub protect_entry : (low high set clear : ℕ)
      → get_or (protect_pages low high set clear xs pages) page 0
      ≡ entry_for page (cond (in_range (low / page_size) (high / page_size) page) (reflagged set clear (lookup xs page)) (lookup xs page))
  unfolding protect_pages
  protect_entry low high set clear =
      get_d_within (on_areas (protects_area set clear) xs) (low / page_size) (high / page_size) pages page l
      ∙ only_by (on_areas (protects_area set clear) xs) (low / page_size) (high / page_size) page (get_or pages page 0) (reflagged set clear (lookup xs page)) (lookup xs page)
      (rw now (reflagged_entry set clear xs page)) now

pub map_entry : (a : Area) (pages : List ℕ) (page : ℕ) (other : Fate) → page < length pages → get_or pages page 0 ≡ entry_for page other
    → get_or (map_pages a pages) page 0 ≡ entry_for page (cond (holds a page) (mapped a.backend a.flags) other)
unfolding map_pages entry_for writes holds
map_entry a pages page other l now =
    get_d_within (writes a.backend a.flags) (first_page a) (end_page a) pages page l
    ∙ only_by (writes a.backend a.flags) (first_page a) (end_page a) page (get_or pages page 0) (mapped a.backend a.flags) other refl now

-- as many entries as before
pub cut_pages_long : (low high : ℕ) (xs : List Area) (pages : List ℕ) → length (cut_pages low high xs pages) ≡ length pages
unfolding cut_pages
cut_pages_long low high xs pages = length_within (on_areas wipes_area xs) (low / page_size) (high / page_size) pages

pub map_pages_long : (a : Area) (pages : List ℕ) → length (map_pages a pages) ≡ length pages
unfolding map_pages
map_pages_long a pages = length_within (writes a.backend a.flags) (first_page a) (end_page a) pages

pub protect_pages_long : (low high set clear : ℕ) (xs : List Area) (pages : List ℕ) → length (protect_pages low high set clear xs pages) ≡ length pages
unfolding protect_pages
protect_pages_long low high set clear xs pages = length_within (on_areas (protects_area set clear) xs) (low / page_size) (high / page_size) pages
