-- Laws of the good test: each row's part as facts, how it goes row by row, and what good tables tell. Assumes nothing.
use Prim.Native.Nat.{ℕ, zero, suc, ◌+◌, ◌-◌, ◌*◌, ◌^◌, ◌≤◌, ◌<◌}
use mathlib.Core.Path.{◌≡◌, refl, sym, ap, ◌∙◌}
use mathlib.Core.Bool.{Bool, true, false, not, cond, and-true, true≢false}
use mathlib.Core.List.{List}
use native.Mathlib.Omega.{arith}
use native.Mathlib.Decide.{dec_lt}
use lib.Dec.{eqb, eqb-suc-suc, eqb-zero-suc}
use lib.ListN.{length, get_or, take, drop}
use lib.Seq.{length-take-le, get_or-drop}
use borrow.Author.Tests.{le-leb, leb-true}
use Rattle.std.specs.Prelude.{Option, is_some, is_none}
use Rattle.lists.specs.Every.{every}
use Rattle.lists.proofs.Every.{and_left, and_right, every_at, by_test, refuted}
use Rattle.page_table.specs.Limits.{max_pages}
use Rattle.area.specs.Area.{good_area}
use Rattle.area.proofs.Areas.{Good, good_is}
use Rattle.area_list.specs.Layout.{words_per_area, capacity_of, legal_word, LegalRow, row_of, row_at, area_of, rows}
use Rattle.lists.specs.Found.{found_below}
use Rattle.area_list.specs.Good.{space_of, row_tests, good_row, good_rows, first_bad, table_tests, good_tables}
use Rattle.area_list.specs.declared.Row.{Row}
use Rattle.lists.proofs.Found.{found_by}
use Rattle.area_list.proofs.Ordered.{Ordered, none_left, one_more}
use Rattle.area_list.proofs.Rows.{legal_short, next_slot, slot_under, first_taken, rest_taken, rest_room}

-- ---- one row

pub record GoodFacts (space before : ℕ) (r : Row) : Type 0 where
  pub good : Good space (area_of r)
  pub legal : legal_word r.backend ≡ true
  pub after : before ≤ r.start

pub row_is : (space before : ℕ) (r : Row) → good_row space before r ≡ true → GoodFacts space before r
unfolding good_row
row_is space before r e =
    record {
      good = good_is space (area_of r) (every_at (row_tests space before r) 0 e);
      legal = every_at (row_tests space before r) 1 e;
      after = leb-true before r.start (every_at (row_tests space before r) 2 e);
    }

pub not_row : (space before : ℕ) (r : Row) → (GoodFacts space before r → ⊥) → good_row space before r ≡ false
not_row space before r h = refuted (good_row space before r) (λ e. h (row_is space before r e))

pub early_row : (space before : ℕ) (r : Row) → r.start < before → good_row space before r ≡ false
early_row space before r h = not_row space before r (λ f. omega (arith, f.after))

pub illegal_row : (space before : ℕ) (r : Row) → (LegalRow r → ⊥) → good_row space before r ≡ false
illegal_row space before r h = not_row space before r (λ f. h (record { flags_fit = f.good.flags_legal; word_legal = f.legal }))

-- with the word and the order known, the area decides
pub area_decides : (space before : ℕ) (r : Row) → before ≤ r.start → legal_word r.backend ≡ true → good_row space before r ≡ good_area space (area_of r)
unfolding good_row every
area_decides space before r b w = rw (le-leb before r.start b, w) (and-true (good_area space (area_of r)))

pub legal_decides : (space before : ℕ) (r : Row) → before ≤ r.start → LegalRow r → good_row space before r ≡ good_area space (area_of r)
legal_decides space before r b l = area_decides space before r b l.word_legal

-- ---- row by row

-- at slot i the search ends, or looks at the next row
pub first_ends : (space before : ℕ) (ws : List ℕ) (i count : ℕ) → i ≤ count → count ≤ i
    → i + first_bad space before (drop (words_per_area * i) ws) (count - i) ≡ count
unfolding first_bad
first_ends space before ws i count l h = let z : count - i ≡ 0 = omega arith in rw z (omega arith)

more_rows : (space before : ℕ) (ws : List ℕ) (i count : ℕ) → i < count
    → first_bad space before (drop (words_per_area * i) ws) (count - i)
    ≡ cond (good_row space before (row_at ws i)) (suc (first_bad space (row_at ws i).end (drop (words_per_area * (i + 1)) ws) (count - (i + 1)))) 0
unfolding first_bad row_at
more_rows space before ws i count h =
    let n : count - i ≡ suc (count - (i + 1)) = omega arith in
    rw (n, next_slot ws i)

-- that row is the first that breaks the rule, or leaves it to the rows after it
module _ (space before : ℕ) (ws : List ℕ) (i count : ℕ) (r : Row) (h : i < count) (at : r ≡ row_at ws i) where
  pub bad_row : good_row space before r ≡ false → i + first_bad space before (drop (words_per_area * i) ws) (count - i) ≡ i
  bad_row e = rw (more_rows space before ws i count h, ← at, e) (omega arith)

  pub good_row_lem : good_row space before r ≡ true
      → i + first_bad space before (drop (words_per_area * i) ws) (count - i)
      ≡ i + 1 + first_bad space r.end (drop (words_per_area * (i + 1)) ws) (count - (i + 1))
  good_row_lem e = rw (more_rows space before ws i count h, ← at, e) (omega arith)

-- ---- the first that breaks the rule

module _ (space : ℕ) where
  -- the areas before it are good, one after the other
  pub good_before : (before : ℕ) (ws : List ℕ) (n : ℕ) → good_rows space before ws (first_bad space before ws n) ≡ true
  unfolding first_bad good_rows
  good_before before ws zero = refl
  good_before before ws (suc n) =
      by_test (good_row space before (row_of ws))
      (λ e. rw (e, first_bad, e) (good_before (row_of ws).end (drop words_per_area ws) n))
      (λ e. rw (e, first_bad))

  -- and with it they are not
  pub bad_there : (before : ℕ) (ws : List ℕ) (n : ℕ) → first_bad space before ws n < n → good_rows space before ws (suc (first_bad space before ws n)) ≡ false
  unfolding first_bad good_rows
  bad_there before ws zero h = absurd (omega arith)
  bad_there before ws (suc n) h =
      by_test (good_row space before (row_of ws))
      (λ e. let h' : suc (first_bad space (row_of ws).end (drop words_per_area ws) n) < suc n = rw (e, first_bad) at h in
      rw (e, first_bad) (bad_there (row_of ws).end (drop words_per_area ws) n (omega arith)))
      (λ e. rw (e, first_bad))

  -- no other has both
  pub bad_only : (before : ℕ) (ws : List ℕ) (n k : ℕ) → k < n → good_rows space before ws k ≡ true → good_rows space before ws (suc k) ≡ false
      → first_bad space before ws n ≡ k
  unfolding first_bad good_rows
  bad_only before ws zero k h g b = absurd (omega arith)
  bad_only before ws (suc n) zero h g b =
      by_test (good_row space before (row_of ws)) (λ e. absurd (true≢false (rw e at b))) (λ e. rw (e, first_bad))
  bad_only before ws (suc n) (suc k) h g b =
      let rest : Bool = good_rows space (row_of ws).end (drop words_per_area ws) k in
      let e : good_row space before (row_of ws) ≡ true = and_left (good_row space before (row_of ws)) rest g in
      rw (e, first_bad) (ap suc (bad_only (row_of ws).end (drop words_per_area ws) n k (omega arith) (and_right (good_row space before (row_of ws)) rest g) (rw e at b)))

  pub bad_within : (before : ℕ) (ws : List ℕ) (n : ℕ) → first_bad space before ws n ≤ n
  unfolding first_bad
  bad_within before ws zero = omega arith
  bad_within before ws (suc n) =
      by_test (good_row space before (row_of ws))
      (λ e. rw (e, first_bad) (omega (arith, bad_within (row_of ws).end (drop words_per_area ws) n)))
      (λ e. rw (e, first_bad) (omega arith))

  -- all are good exactly when none breaks the rule
  pub rows_by_first : (before : ℕ) (ws : List ℕ) (n : ℕ) → good_rows space before ws n ≡ eqb (first_bad space before ws n) n
  unfolding first_bad good_rows
  rows_by_first before ws zero = refl
  rows_by_first before ws (suc n) =
      by_test (good_row space before (row_of ws))
      (λ e. rw (e, first_bad)
      (rows_by_first (row_of ws).end (drop words_per_area ws) n ∙ sym (eqb-suc-suc (first_bad space (row_of ws).end (drop words_per_area ws) n) n)))
      (λ e. rw (e, first_bad) (sym (eqb-zero-suc n)))

-- ---- the tables

pub record GoodTables (ws : List ℕ) (count p : ℕ) : Type 0 where
  pub pages_few : p ≤ max_pages
  pub count_few : count ≤ capacity_of (length ws)
  pub ordered : Ordered (space_of p) 0 (rows ws count)
  pub legal : (i : ℕ) → i < count → LegalRow (row_at ws i)

module _ (space : ℕ) where
  rows_ordered : (before : ℕ) (ws : List ℕ) (n : ℕ) → good_rows space before ws n ≡ true → Ordered space before (rows ws n)
  unfolding good_rows rows
  rows_ordered before ws zero e = none_left
  rows_ordered before ws (suc n) e =
      let rest : Bool = good_rows space (row_of ws).end (drop words_per_area ws) n in
      let f = row_is space before (row_of ws) (and_left (good_row space before (row_of ws)) rest e) in
      one_more f.good f.after (rows_ordered (row_of ws).end (drop words_per_area ws) n (and_right (good_row space before (row_of ws)) rest e))

  rows_legal : (before : ℕ) (ws : List ℕ) (n : ℕ) → good_rows space before ws n ≡ true → (i : ℕ) → i < n → LegalRow (row_at ws i)
  unfolding good_rows row_at
  rows_legal before ws zero e i h = absurd (omega arith)
  rows_legal before ws (suc n) e zero h =
      let f = row_is space before (row_of ws) (and_left (good_row space before (row_of ws)) (good_rows space (row_of ws).end (drop words_per_area ws) n) e) in
      record { flags_fit = f.good.flags_legal; word_legal = f.legal }
  rows_legal before ws (suc n) e (suc i) h =
      rw (← slot_under ws i)
      (rows_legal (row_of ws).end (drop words_per_area ws) n
      (and_right (good_row space before (row_of ws)) (good_rows space (row_of ws).end (drop words_per_area ws) n) e) i (omega arith))

-- good tables, as facts
pub tables_are : (ws : List ℕ) (count p : ℕ) → good_tables ws count p ≡ true → GoodTables ws count p
unfolding good_tables
tables_are ws count p e =
    let rows-good : good_rows (space_of p) 0 ws count ≡ true = every_at (table_tests ws count p) 2 e in
    record {
      pages_few = leb-true p max_pages (every_at (table_tests ws count p) 0 e);
      count_few = leb-true count (capacity_of (length ws)) (every_at (table_tests ws count p) 1 e);
      ordered = rows_ordered (space_of p) 0 ws count rows-good;
      legal = rows_legal (space_of p) 0 ws count rows-good;
    }

pub not_tables : (ws : List ℕ) (count p : ℕ) → (GoodTables ws count p → ⊥) → good_tables ws count p ≡ false
not_tables ws count p h = refuted (good_tables ws count p) (λ e. h (tables_are ws count p e))

-- with pages and count known, the rows decide
pub rows_decide : (ws : List ℕ) (count p : ℕ) → p ≤ max_pages → count ≤ capacity_of (length ws) → good_tables ws count p ≡ good_rows (space_of p) 0 ws count
unfolding good_tables every
rows_decide ws count p a b =
    rw (le-leb p max_pages a, le-leb count (capacity_of (length ws)) b) (and-true (good_rows (space_of p) 0 ws count))

-- and so does the first that breaks the rule
pub first_decides : (ws : List ℕ) (count p k : ℕ) → p ≤ max_pages → count ≤ capacity_of (length ws) → k ≡ first_bad (space_of p) 0 ws count
    → eqb k count ≡ good_tables ws count p
first_decides ws count p k a b e = rw (e, rows_decide ws count p a b) (sym (rows_by_first (space_of p) 0 ws count))

not_back : (a b : Bool) → a ≡ not b → b ≡ not a
not_back a true e = rw e
not_back a false e = rw e

-- so does whether a search for it finds none
pub none_decides : (ws : List ℕ) (count p : ℕ) (o : Option ℕ) (b : Bool) → p ≤ max_pages → count ≤ capacity_of (length ws)
    → o ≡ found_below count (first_bad (space_of p) 0 ws count) → is_some o ≡ not b → b ≡ good_tables ws count p
none_decides ws count p o b few fits e none =
    not_back (is_some o) b none ∙ ap is_none e ∙ found_by count _ (bad_within (space_of p) 0 ws count) ∙ first_decides ws count p _ few fits refl

-- a count within the capacity lies within the words
pub count_fits : (ws : List ℕ) (count : ℕ) → count ≤ capacity_of (length ws) → words_per_area * count ≤ length ws
unfolding capacity_of
count_fits ws count h = omega arith

-- ---- the words of the areas alone

pub rows_good_taken : (space before : ℕ) (ws : List ℕ) (n : ℕ) → words_per_area * n ≤ length ws
    → good_rows space before (take (words_per_area * n) ws) n ≡ good_rows space before ws n
unfolding good_rows
rows_good_taken space before ws zero h = refl
rows_good_taken space before ws (suc n) h =
    rw (first_taken ws n h, rest_taken ws n h, rows_good_taken space (row_of ws).end (drop words_per_area ws) n (rest_room ws n h))

-- a table of these words and no more is as good
pub tables_taken : (ws : List ℕ) (count p : ℕ) → good_tables ws count p ≡ true → good_tables (take (words_per_area * count) ws) count p ≡ true
unfolding capacity_of
tables_taken ws count p e =
    let g = tables_are ws count p e in
    let room : words_per_area * count ≤ length ws = count_fits ws count g.count_few in
    let few : count ≤ capacity_of (length (take (words_per_area * count) ws)) = omega (arith, g.count_few, length-take-le (words_per_area * count) ws room) in
    rows_decide (take (words_per_area * count) ws) count p g.pages_few few
    ∙ rows_good_taken (space_of p) 0 ws count room
    ∙ sym (rows_decide ws count p g.pages_few g.count_few) ∙ e

-- each of these words fits 64 bits
module _ (space : ℕ) (small : space < 2 ^ 64) where
  row_fits : (before : ℕ) (ws : List ℕ) → GoodFacts space before (row_of ws) → (k : ℕ) → k < words_per_area → get_or ws k 0 < 2 ^ 64
  unfolding row_of
  row_fits before ws f zero h = omega (arith, f.good.nonempty, f.good.inside)
  row_fits before ws f (suc zero) h = omega (arith, f.good.inside)
  row_fits before ws f (suc (suc zero)) h = omega (arith, f.good.flags_legal)
  row_fits before ws f (suc (suc (suc zero))) h = omega (arith, legal_short (get_or ws 3 0) f.legal)
  row_fits before ws f (suc (suc (suc (suc k)))) h = absurd (omega arith)

  pub words_fit : (before : ℕ) (ws : List ℕ) (n : ℕ) → good_rows space before ws n ≡ true → (k : ℕ) → k < words_per_area * n → get_or ws k 0 < 2 ^ 64
  unfolding good_rows
  words_fit before ws zero e k h = absurd (omega arith)
  words_fit before ws (suc n) e k h =
      let rest : Bool = good_rows space (row_of ws).end (drop words_per_area ws) n in
      elim (dec_lt k words_per_area) [
        | yes l ↦ row_fits before ws (row_is space before (row_of ws) (and_left (good_row space before (row_of ws)) rest e)) k l
        | no l ↦ later l (words_fit (row_of ws).end (drop words_per_area ws) n (and_right (good_row space before (row_of ws)) rest e) (k - words_per_area) (omega arith))
      ]
    where
      later : (k < words_per_area → ⊥) → get_or (drop words_per_area ws) (k - words_per_area) 0 < 2 ^ 64 → get_or ws k 0 < 2 ^ 64
      later l f =
          let e : words_per_area + (k - words_per_area) ≡ k = omega arith in
          rw (get_or-drop words_per_area ws (k - words_per_area) 0, e) at f
