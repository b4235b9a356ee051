-- Whatever our own set leaves is accepted (02, W1): after any calls from fresh tables, the dump of the tables is good.
-- Assumes nothing.
use Prim.Native.Nat.{ℕ, ◌*◌, ◌^◌, ◌≤◌, ◌<◌}
use mathlib.Core.Path.{◌≡◌}
use mathlib.Core.Bool.{true, false}
use mathlib.Core.List.{List, [], ◌∷◌}
use native.Mathlib.Omega.{arith}
use lib.ListN.{length, get_or, take}
use Rattle.lists.proofs.Every.{by_test}
use Rattle.page_table.proofs.Packing.{entry_packed, packed_fits}
use Rattle.area.specs.Area.{holds, area_entry}
use Rattle.area.specs.declared.Area.{Area}
use Rattle.area_list.specs.Layout.{words_per_area, capacity_of, rows}
use Rattle.area_list.specs.Good.{good_tables}
use Rattle.area_list.proofs.Goodness.{GoodTables, tables_are, count_fits, tables_taken}
use Rattle.area_list.proofs.Rows.{rows_taken}
use Rattle.rules.specs.Change.{Tables}
use Rattle.rules.specs.Calls.{Call}
use Rattle.history.specs.Fate.{entry_for}
use Rattle.history.specs.Legal.{legal_calls}
use Rattle.history.specs.Runs.{fresh, after, accepted}
use Rattle.history.proofs.Following.{Kept, facts, kept}
use Rattle.history.proofs.Lookups.{seen, lookup}
use Rattle.dumps.specs.Dump.{most_areas, most_pages, entry_size, count_in, pages_in, words_in, entries_in, dump_of}
use Rattle.dumps.proofs.Dumps.{Fitting}
use Rattle.dumps.proofs.Back.{count_back, pages_back, words_back, entries_back, dump_long}
use Rattle.agreement.specs.Agree.{unmapped, disagrees}
use Rattle.audits.specs.Audit.{audit_rule}
use Rattle.audits.specs.declared.Verdict.TheVariants.{Good}
use Rattle.agreement.proofs.Agreeing.{same_entry, entry_same, agrees_is}
use Rattle.audits.proofs.Verdicts.{audit_good}

-- ---- entries

-- an entry that agrees fits 32 bits
entry_fits : (xs : List Area) (entries : List ℕ) (page : ℕ) → disagrees xs entries page ≡ false → get_or entries page 0 < 2 ^ 32
unfolding disagrees area_entry
entry_fits [] entries page e = let z : get_or entries page 0 ≡ 0 = same_entry entries page unmapped e in omega arith
entry_fits (a ∷ xs) entries page e =
    by_test (holds a page)
    (λ h. let is : get_or entries page 0 ≡ area_entry a page = same_entry entries page (area_entry a) (rw h at e) in
    let (lazy, (frame, packed)) = entry_packed a.backend a.flags page in
    rw (is, packed) (packed_fits a.flags lazy frame))
    (λ h. entry_fits xs entries page (rw h at e))

-- an entry that is what a lookup says agrees
lookup_agrees : (xs : List Area) (entries : List ℕ) (page : ℕ) → get_or entries page 0 ≡ entry_for page (lookup xs page) → disagrees xs entries page ≡ false
unfolding disagrees seen entry_for area_entry
lookup_agrees [] entries page e = entry_same entries page unmapped e
lookup_agrees (a ∷ xs) entries page e =
    by_test (holds a page)
    (λ h. rw h (entry_same entries page (area_entry a) (rw h at e)))
    (λ h. rw h (lookup_agrees xs entries page (rw h at e)))

-- ---- the dump of good tables within its sizes

module _ (t : Tables) (good : good_tables t.areas t.count (length t.pages) ≡ true) (few-areas : t.count ≤ most_areas) (few-pages : length t.pages ≤ most_pages)
    (entries_fit : Fitting entry_size t.pages) where
  count_is : count_in (dump_of t) ≡ t.count
  count_is = count_back t good few-areas few-pages entries_fit

  pages_are : pages_in (dump_of t) ≡ length t.pages
  pages_are = pages_back t good few-areas few-pages entries_fit

  words_are : words_in (dump_of t) ≡ take (words_per_area * t.count) t.areas
  words_are = words_back t good few-areas few-pages entries_fit

  entries_are : entries_in (dump_of t) ≡ t.pages
  entries_are = entries_back t good few-areas few-pages entries_fit

  is_good : GoodTables t.areas t.count (length t.pages)
  is_good = tables_are t.areas t.count (length t.pages) good

  -- tables whose entries all agree are accepted
  pub dump_accepted : ((page : ℕ) → page < length t.pages → disagrees (rows t.areas t.count) t.pages page ≡ false) → audit_rule (dump_of t) ≡ Good
  dump_accepted agree =
      (audit_good (dump_of t)).1 (record {
        sized = record {
          few_areas = rw count_is few-areas;
          few_pages = rw pages_are few-pages;
          long = rw (count_is, pages_are) (dump_long t good few-areas few-pages entries_fit);
        };
        good = rw (words_are, count_is, pages_are) (tables_taken t.areas t.count (length t.pages) good);
        agree = λ page h. rw (words_are, count_is, entries_are, rows_taken t.areas t.count (count_fits t.areas t.count is_good.count_few))
            (agrees_is t.pages page (rows t.areas t.count) is_good.ordered (agree page (rw pages_are at h)));
      })

-- ---- after any calls from fresh

module _ (areaWords p : ℕ) (few-pages : p ≤ most_pages) (cs : List Call) (legal : legal_calls cs ≡ true) where
  abbrev left : Tables
  left = after (fresh areaWords p) cs

  now : Kept areaWords p left (accepted (fresh areaWords p) cs)
  now = kept areaWords p (omega arith) cs legal

  agree : (page : ℕ) → page < length left.pages → disagrees (rows left.areas left.count) left.pages page ≡ false
  agree page h =
      lookup_agrees (rows left.areas left.count) left.pages page
      (rw (now.says page) (now.entries page (omega (arith, now.pages_long))))

  -- with at most 256 areas
  pub own_within : left.count ≤ most_areas → audit_rule (dump_of left) ≡ Good
  own_within few =
      dump_accepted left (rw now.pages_long now.good) few (omega (arith, now.pages_long))
      (λ page h. entry_fits (rows left.areas left.count) left.pages page (agree page h)) agree

  -- and there is never room for more
  pub own_accepted : audit_rule (dump_of left) ≡ Good
  unfolding capacity_of
  own_accepted = own_within (omega (arith, (facts now).count_few))
