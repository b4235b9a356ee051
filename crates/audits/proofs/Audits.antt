-- Laws of the audit: its verdicts one by one, and what each says of the dump. Assumes nothing.
use Prim.Native.Nat.{ℕ, ◌+◌, ◌*◌, ◌≤◌, ◌<◌}
use mathlib.Core.Path.{◌≡◌, sym, ◌∙◌}
use mathlib.Core.Bool.{true, false, and-true}
use mathlib.Core.List.{List}
use native.Mathlib.Omega.{arith}
use lib.Dec.{eqb}
use lib.ListN.{length, take, replicate, length-replicate}
use lib.Seq.{length-take-le}
use borrow.Author.Tests.{le-leb, leb-true, eqb-true, eq-eqb, lt-ltb, le-ltb}
use Rattle.lists.specs.Every.{every}
use Rattle.lists.proofs.Every.{every_at, refuted}
use Rattle.page_table.specs.Limits.{max_pages}
use Rattle.area_list.specs.Layout.{words_per_area, capacity_of, rows}
use Rattle.area_list.specs.Good.{space_of, first_bad, good_tables}
use Rattle.area_list.proofs.Goodness.{bad_within, first_decides}
use Rattle.dumps.specs.Dump.{most_areas, most_pages, word_size, entry_size, header_size, dump_length, count_in, pages_in, words_in, entries_in, numbers_at}
use Rattle.agreement.specs.Agree.{first_wrong}
use Rattle.audits.specs.Audit.{found, tables_rule, size_tests, sized_dump, Sized, Lent, audit_rule}
use Rattle.audits.specs.declared.Verdict.TheVariants.{Table, Area, Page, Good}

-- ---- tables

module _ (words entries : List ℕ) (count area : ℕ) (a : area ≡ first_bad (space_of (length entries)) 0 words count) where
  pub area_verdict : area < count → Area area ≡ tables_rule words entries count
  unfolding tables_rule found
  area_verdict h = sym (rw (← a, lt-ltb area count h))

  module _ (all : count ≤ area) where
    -- past the areas' test the tables are good
    pub good_then : length entries ≤ max_pages → count ≤ capacity_of (length words) → good_tables words count (length entries) ≡ true
    good_then p c =
        let e : area ≡ count = omega (arith, bad_within (space_of (length entries)) 0 words count) in
        sym (first_decides words count (length entries) area p c a) ∙ eq-eqb area count e

    module _ (page : ℕ) (w : page ≡ first_wrong (rows words count) entries) where
      pub page_verdict : page < length entries → Page page ≡ tables_rule words entries count
      unfolding tables_rule found
      page_verdict h = sym (rw (← a, le-ltb area count all, ← w, lt-ltb page (length entries) h))

      pub good_verdict : length entries ≤ page → Good ≡ tables_rule words entries count
      unfolding tables_rule found
      good_verdict h = sym (rw (← a, le-ltb area count all, ← w, le-ltb page (length entries) h))

-- ---- the dump's size, as facts

pub sized_is : (bytes : List ℕ) → sized_dump bytes ≡ true → Sized bytes
unfolding sized_dump
sized_is bytes e =
    record {
      few_areas = leb-true (count_in bytes) most_areas (every_at (size_tests bytes) 0 e);
      few_pages = leb-true (pages_in bytes) most_pages (every_at (size_tests bytes) 1 e);
      long = eqb-true (length bytes) (dump_length (count_in bytes) (pages_in bytes)) (every_at (size_tests bytes) 2 e);
    }

pub is_sized : (bytes : List ℕ) → Sized bytes → sized_dump bytes ≡ true
unfolding sized_dump every
is_sized bytes s =
    rw (le-leb (count_in bytes) most_areas s.few_areas, le-leb (pages_in bytes) most_pages s.few_pages)
    (rw (eq-eqb (length bytes) (dump_length (count_in bytes) (pages_in bytes)) s.long))

pub not_sized : (bytes : List ℕ) → (Sized bytes → ⊥) → sized_dump bytes ≡ false
not_sized bytes h = refuted (sized_dump bytes) (λ e. h (sized_is bytes e))

-- with count and P within their limits, the length decides
pub length_decides : (bytes : List ℕ) (count pages : ℕ) → count ≡ count_in bytes → pages ≡ pages_in bytes → count ≤ most_areas → pages ≤ most_pages
    → eqb (length bytes) (dump_length count pages) ≡ sized_dump bytes
unfolding sized_dump every
length_decides bytes count pages c p few-areas few-pages =
    sym (rw (← c, ← p, le-leb count most_areas few-areas, le-leb pages most_pages few-pages) (and-true (eqb (length bytes) (dump_length count pages))))

pub table_verdict : (bytes : List ℕ) → sized_dump bytes ≡ false → Table ≡ audit_rule bytes
unfolding audit_rule
table_verdict bytes e = sym (rw e)

-- ---- a dump that is read into tables

module _ {bytes areas₀ pages₀ : List ℕ} {count : ℕ} (l : Lent bytes areas₀ pages₀ count) where
  facts : Sized bytes
  facts = sized_is bytes l.sized

  pub words_room : header_size + word_size * length areas₀ ≤ length bytes
  words_room = omega (arith, facts.long, l.areas_long, l.count_is)

  pub entries_room : header_size + word_size * length areas₀ + entry_size * length pages₀ ≤ length bytes
  entries_room = omega (arith, facts.long, l.areas_long, l.count_is, l.pages_long)

  pub areas_few : count ≤ capacity_of (length areas₀)
  unfolding capacity_of
  areas_few = omega (arith, facts.few_areas, l.areas_long, l.count_is)

  pub pages_few : length pages₀ ≤ max_pages
  pages_few = omega (arith, facts.few_pages, l.pages_long)

  pub read_verdict : (at : ℕ) → at ≡ header_size + word_size * length areas₀ → (areas pages : List ℕ)
      → areas ≡ numbers_at bytes header_size word_size (length areas₀) → pages ≡ numbers_at bytes at entry_size (length pages₀)
      → tables_rule areas pages count ≡ audit_rule bytes
  unfolding audit_rule words_in entries_in
  read_verdict at here areas pages a p =
      let long : length areas₀ ≡ words_per_area * count_in bytes = omega (arith, l.areas_long, l.count_is) in
      rw (a, p, here, l.count_is, l.pages_long, long) (sym (rw l.sized))

-- the parts of the scratch tables that are lent to read a dump into
abbrev zeros : ℕ → List ℕ
zeros n = replicate n 0

length_zeros : (n : ℕ) → length (zeros n) ≡ n
length_zeros n = length-replicate n 0

module _ (bytes : List ℕ) (sized : sized_dump bytes ≡ true) (count pages : ℕ) (c : count ≡ count_in bytes) (p : pages ≡ pages_in bytes) where
  pub words_few : words_per_area * count ≤ words_per_area * most_areas
  words_few = omega (arith, (sized_is bytes sized).few_areas)

  pub entries_few : pages ≤ most_pages
  entries_few = omega (arith, (sized_is bytes sized).few_pages)

  pub area_words_long : length (take (words_per_area * count) (zeros (words_per_area * most_areas))) ≡ words_per_area * count
  area_words_long = length-take-le (words_per_area * count) (zeros (words_per_area * most_areas)) (omega (arith, words_few, length_zeros (words_per_area * most_areas)))

  pub entries_long : length (take pages (zeros most_pages)) ≡ pages
  entries_long = length-take-le pages (zeros most_pages) (omega (arith, entries_few, length_zeros most_pages))

  pub lent : Lent bytes (take (words_per_area * count) (zeros (words_per_area * most_areas))) (take pages (zeros most_pages)) count
  lent = record { sized = sized; count_is = c; areas_long = area_words_long; pages_long = entries_long ∙ p }

pub header_there : (bytes : List ℕ) → sized_dump bytes ≡ true → header_size ≤ length bytes
header_there bytes sized = omega (arith, (sized_is bytes sized).long)
