-- What was dumped is read back: the dump of good tables within its sizes holds their count, their words and their entries.
-- Assumes nothing.
use Prim.Native.Nat.{ℕ, zero, suc, ◌+◌, ◌*◌, ◌≤◌, ◌<◌}
use mathlib.Core.Path.{◌≡◌, sym, ◌∙◌}
use mathlib.Core.Bool.{true}
use mathlib.Core.List.{List, [], ◌∷◌, ◌++◌, append-nil}
use native.Mathlib.Omega.{arith}
use lib.ListN.{length, take, length-append}
use lib.Seq.{length-take-le, get_or-take}
use Rattle.area_list.specs.Layout.{words_per_area}
use Rattle.area_list.specs.Good.{space_of, good_tables}
use Rattle.area_list.proofs.Goodness.{GoodTables, tables_are, rows_decide, count_fits, words_fit}
use Rattle.rules.specs.Change.{Tables}
use Rattle.dumps.specs.Dump.{most_areas, most_pages, word_size, entry_size, header_size, entries_at, dump_length, numbers_at, count_in, pages_in, words_in, entries_in, all_bytes, dump_of}
use Rattle.dumps.proofs.Dumps.{length_all, numbers_past, Fitting, numbers_back}

module _ (t : Tables) (good : good_tables t.areas t.count (length t.pages) ≡ true) (few-areas : t.count ≤ most_areas) (few-pages : length t.pages ≤ most_pages)
    (entries_fit : Fitting entry_size t.pages) where
  is_good : GoodTables t.areas t.count (length t.pages)
  is_good = tables_are t.areas t.count (length t.pages) good

  abbrev words : List ℕ
  words = take (words_per_area * t.count) t.areas

  -- all that is eight bytes long
  abbrev wide : List ℕ
  wide = t.count ∷ length t.pages ∷ words

  room : words_per_area * t.count ≤ length t.areas
  room = count_fits t.areas t.count is_good.count_few

  words_long : length words ≡ words_per_area * t.count
  words_long = length-take-le (words_per_area * t.count) t.areas room

  wide_fits : Fitting word_size wide
  wide_fits zero h = omega arith
  wide_fits (suc zero) h = omega arith
  wide_fits (suc (suc k)) h =
      let l : k < words_per_area * t.count = omega (arith, words_long) in
      rw (get_or-take (words_per_area * t.count) t.areas k 0 l)
      (words_fit (space_of (length t.pages)) (omega arith) 0 t.areas t.count
      (sym (rows_decide t.areas t.count (length t.pages) is_good.pages_few is_good.count_few) ∙ good) k l)

  abbrev front : List ℕ
  front = all_bytes word_size wide

  abbrev back : List ℕ
  back = all_bytes entry_size t.pages

  front_long : length front ≡ entries_at t.count
  front_long = omega (arith, length_all word_size wide, words_long)

  -- what was written is read back
  front_back : numbers_at (front ++ back) 0 word_size (suc (suc (length words))) ≡ wide
  front_back = numbers_back word_size wide back wide_fits

  pub count_back : count_in (dump_of t) ≡ t.count
  unfolding count_in dump_of numbers_at
  count_back = cc front_back

  pub pages_back : pages_in (dump_of t) ≡ length t.pages
  unfolding pages_in dump_of numbers_at
  pages_back = cc front_back

  rest_back : numbers_at (front ++ back) header_size word_size (length words) ≡ words
  unfolding numbers_at
  rest_back = cc front_back

  pub words_back : words_in (dump_of t) ≡ words
  unfolding words_in dump_of
  words_back = rw count_back (rw words_long at rest_back)

  pub entries_back : entries_in (dump_of t) ≡ t.pages
  unfolding entries_in dump_of
  entries_back =
      let at : entries_at t.count ≡ length front + 0 = omega (arith, front_long) in
      rw (count_back, pages_back, at, numbers_past front back entry_size (length t.pages) 0)
      (rw (append-nil back) at (numbers_back entry_size t.pages [] entries_fit))

  pub dump_long : length (dump_of t) ≡ dump_length t.count (length t.pages)
  unfolding dump_of
  dump_long = length-append front back ∙ omega (arith, front_long, length_all entry_size t.pages)
