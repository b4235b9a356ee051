-- Laws of positions: what a position parts, the rows that a search parts, and that good tables are sorted. Assumes nothing.
use Prim.Native.Nat.{ℕ, zero, suc, ◌+◌, ◌*◌, ◌≤◌, ◌<◌}
use mathlib.Core.Path.{◌≡◌, refl, sym, ap, ◌∙◌}
use mathlib.Core.Bool.{Bool, true, false, and-false}
use mathlib.Core.List.{List, [], ◌∷◌}
use native.Mathlib.Omega.{arith}
use native.Mathlib.Decide.{dec_lt}
use native.Mathlib.Nat.{add-zero}
use lib.Dec.{leb, ltb}
use lib.ListN.{length, get_or, take, drop}
use lib.Seq.{get_or-take, get_or-drop}
use borrow.Author.Tests.{lt-ltb, le-ltb, le-leb, lt-leb, ltb-true, ltb-false, leb-true, leb-false}
use Rattle.std.specs.Simd.{first_chunks}
use Rattle.std.specs.List.Sorted.{IsNonDecreasingBy, IsPartitionPoint}
use Rattle.area.specs.Area.{nothing}
use Rattle.area.specs.declared.Area.{Area}
use Rattle.area_list.specs.Layout.{words_per_area, row_at, rows}
use Rattle.area_list.specs.Position.{first_where, ends_past, starts_from, contains, SortedRows}
use Rattle.area_list.proofs.Ordered.{good_at, starts_rise, ends_rise}
use Rattle.area_list.proofs.Rows.{row_words, length_rows, rows_at}
use Rattle.area_list.proofs.Goodness.{GoodTables, count_fits}

-- ---- the first area that passes a test

-- a position before which every area fails and at which one passes, or the end
pub first_is : (p : Area → Bool) (xs : List Area) (r : ℕ) → r ≤ length xs
    → ((k : ℕ) → k < r → p (get_or xs k nothing) ≡ false) → (r < length xs → p (get_or xs r nothing) ≡ true) → r ≡ first_where p xs
unfolding first_where
first_is p [] r h f t = omega arith
first_is p (a ∷ xs) zero h f t = sym (rw (t (omega arith)))
first_is p (a ∷ xs) (suc r) h f t =
    ap suc (first_is p xs r (omega arith) (λ k l. f (suc k) (omega arith)) (λ l. t (omega arith))) ∙ sym (rw (f 0 (omega arith)))

-- the other way round: it is in the list or at its end, every area before it fails, and the one at it passes
pub first_yes : (p : Area → Bool) (a : Area) (xs : List Area) → p a ≡ true → first_where p (a ∷ xs) ≡ 0
unfolding first_where
first_yes p a xs e = rw e

pub first_no : (p : Area → Bool) (a : Area) (xs : List Area) → p a ≡ false → first_where p (a ∷ xs) ≡ suc (first_where p xs)
unfolding first_where
first_no p a xs e = rw e

pub record First (p : Area → Bool) (xs : List Area) (r : ℕ) : Type 0 where
  pub in_list : r ≤ length xs
  pub fails : (k : ℕ) → k < r → p (get_or xs k nothing) ≡ false
  pub passes : r < length xs → p (get_or xs r nothing) ≡ true

module _ (p : Area → Bool) (a : Area) (xs : List Area) (r : ℕ) (e : p a ≡ false) (f : First p xs r) where
  later_fails : (k : ℕ) → k < suc r → p (get_or (a ∷ xs) k nothing) ≡ false
  later_fails zero h = e
  later_fails (suc k) h = f.fails k (omega arith)

  later : First p (a ∷ xs) (suc r)
  later = record { in_list = omega arith; fails = later_fails; passes = λ h. f.passes (omega arith) }

first_by : (p : Area → Bool) (a : Area) (xs : List Area) (b : Bool) → p a ≡ b → First p xs (first_where p xs) → First p (a ∷ xs) (first_where p (a ∷ xs))
first_by p a xs true e f =
    rw (first_yes p a xs e) (record { in_list = omega arith; fails = λ k h. absurd (omega arith); passes = λ h. e })
first_by p a xs false e f = rw (first_no p a xs e) (later p a xs (first_where p xs) e f)

pub first : (p : Area → Bool) (xs : List Area) → First p xs (first_where p xs)
unfolding first_where
first p [] = record { in_list = omega arith; fails = λ k h. absurd (omega arith); passes = λ h. absurd (omega arith) }
first p (a ∷ xs) = first_by p a xs (p a) refl (first p xs)

-- ---- the words, four a row

-- of m rows, the first n
pub first_rows : (ws : List ℕ) (m n : ℕ) → n ≤ m → take n (first_chunks words_per_area m ws) ≡ first_chunks words_per_area n ws
first_rows ws m zero h = refl
first_rows ws zero (suc n) h = absurd (omega arith)
first_rows ws (suc m) (suc n) h = ap (λ (rest : List (List ℕ)). take words_per_area ws ∷ rest) (first_rows (drop words_per_area ws) m n (omega arith))

pub length_words : (ws : List ℕ) (n : ℕ) → length (first_chunks words_per_area n ws) ≡ n
length_words ws zero = refl
length_words ws (suc n) = ap suc (length_words (drop words_per_area ws) n)

row_word : (ws : List ℕ) (n i column : ℕ) (d : List ℕ) → i < n → column < words_per_area
    → get_or (get_or (first_chunks words_per_area n ws) i d) column 0 ≡ get_or ws (words_per_area * i + column) 0
row_word ws zero i column d h l = absurd (omega arith)
row_word ws (suc n) zero column d h l =
    let e : column ≡ 4 * 0 + column = omega arith in
    get_or-take 4 ws column 0 l ∙ ap (λ (k : ℕ). get_or ws k 0) e
row_word ws (suc n) (suc i) column d h l =
    let e : 4 + (4 * i + column) ≡ 4 * suc i + column = omega arith in
    row_word (drop 4 ws) n i column d (omega arith) l ∙ get_or-drop 4 ws (4 * i + column) 0 ∙ ap (λ (k : ℕ). get_or ws k 0) e

-- the start and the end in a row
abbrev pub start_in : List ℕ → ℕ
start_in row = get_or row 0 0

abbrev pub end_in : List ℕ → ℕ
end_in row = get_or row 1 0

module _ (ws : List ℕ) (count : ℕ) where
  abbrev table : List (List ℕ)
  table = first_chunks words_per_area count ws

  start_is : (i : ℕ) (d : List ℕ) → i < count → start_in (get_or table i d) ≡ (row_at ws i).start
  start_is i d h = row_word ws count i 0 d h (omega arith) ∙ rw (row_words ws i, add-zero (words_per_area * i))

  end_is : (i : ℕ) (d : List ℕ) → i < count → end_in (get_or table i d) ≡ (row_at ws i).end
  end_is i d h = row_word ws count i 1 d h (omega arith) ∙ rw (row_words ws i)

  module _ (s : SortedRows ws count) where
    pub starts_column : IsNonDecreasingBy start_in table
    starts_column i j d h l =
        let m : j < count = omega (arith, length_words ws count, l) in
        rw (start_is i d (omega arith), start_is j d m) (s.starts i j h m)

    pub ends_column : IsNonDecreasingBy end_in table
    ends_column i j d h l =
        let m : j < count = omega (arith, length_words ws count, l) in
        rw (end_is i d (omega arith), end_is j d m) (s.ends i j h m)

  -- the point that parts the rows is the position
  module _ (address r : ℕ) (within : r ≤ length table) where
    inside : r ≤ count
    inside = omega (arith, length_words ws count, within)

    pub ending_is : IsPartitionPoint (λ row. leb (end_in row) address ≡ true) (λ row. leb (end_in row) address ≡ false) table r
        → r ≡ first_where (ends_past address) (rows ws count)
    unfolding ends_past
    ending_is p =
        first_is (ends_past address) (rows ws count) r (omega (arith, length_rows ws count, inside))
        (λ k h. let l : k < count = omega (arith, inside) in
        rw (rows_at ws count k l) (le-ltb address (row_at ws k).end (rw (end_is k [] l) at (leb-true _ _ (p.0 k [] (omega arith) h)))))
        (λ h. let l : r < count = omega (arith, length_rows ws count) in
        rw (rows_at ws count r l) (lt-ltb address (row_at ws r).end (rw (end_is r [] l) at (leb-false _ _ (p.1 r [] (omega arith) (omega (arith, length_words ws count)))))))

    pub starting_is : IsPartitionPoint (λ row. ltb (start_in row) address ≡ true) (λ row. ltb (start_in row) address ≡ false) table r
        → r ≡ first_where (starts_from address) (rows ws count)
    unfolding starts_from
    starting_is p =
        first_is (starts_from address) (rows ws count) r (omega (arith, length_rows ws count, inside))
        (λ k h. let l : k < count = omega (arith, inside) in
        rw (rows_at ws count k l) (lt-leb address (row_at ws k).start (rw (start_is k [] l) at (ltb-true _ _ (p.0 k [] (omega arith) h)))))
        (λ h. let l : r < count = omega (arith, length_rows ws count) in
        rw (rows_at ws count r l) (le-leb address (row_at ws r).start (rw (start_is r [] l) at (ltb-false _ _ (p.1 r [] (omega arith) (omega (arith, length_words ws count)))))))

pub starting_zero : (ws : List ℕ) (count address : ℕ) → address ≡ 0 → 0 ≡ first_where (starts_from address) (rows ws count)
unfolding starts_from
starting_zero ws count address z =
    first_is (starts_from address) (rows ws count) 0 (omega arith) (λ k h. absurd (omega arith))
    (λ h. le-leb address (get_or (rows ws count) 0 nothing).start (omega arith))

-- good tables are sorted
pub sorted : {ws : List ℕ} {count p : ℕ} → GoodTables ws count p → SortedRows ws count
sorted {ws} {count} {p} g =
    record {
      room = count_fits ws count g.count_few;
      legal = g.legal;
      nonempty = λ i l. rw (rows_at ws count i l) at (good_at g.ordered i (omega (arith, length_rows ws count))).nonempty;
      starts = λ i j h l. rw (rows_at ws count i (omega arith), rows_at ws count j l) at (starts_rise g.ordered i j h (omega (arith, length_rows ws count)));
      ends = λ i j h l. rw (rows_at ws count i (omega arith), rows_at ws count j l) at (ends_rise g.ordered i j h (omega (arith, length_rows ws count)));
    }

-- ---- the area that holds an address

pub contains_yes : (address : ℕ) (a : Area) → a.start ≤ address → address < a.end → contains address a ≡ true
unfolding contains
contains_yes address a s e = rw (le-leb a.start address s, lt-ltb address a.end e)

pub contains_before : (address : ℕ) (a : Area) → a.end ≤ address → contains address a ≡ false
unfolding contains
contains_before address a h = rw (le-ltb address a.end h) (and-false (leb a.start address))

pub contains_after : (address : ℕ) (a : Area) → address < a.start → contains address a ≡ false
unfolding contains
contains_after address a h = rw (lt-leb a.start address h)

-- a list without empty areas whose starts rise
pub record Rises (xs : List Area) : Type 0 where
  pub starts : (i j : ℕ) → i ≤ j → j < length xs → (get_or xs i nothing).start ≤ (get_or xs j nothing).start
  pub nonempty : (i : ℕ) → i < length xs → (get_or xs i nothing).start < (get_or xs i nothing).end

pub rows_rise : {ws : List ℕ} {count : ℕ} → SortedRows ws count → Rises (rows ws count)
rows_rise {ws} {count} s =
    record {
      starts = λ i j h l. let m : j < count = omega (arith, length_rows ws count) in
          rw (rows_at ws count i (omega arith), rows_at ws count j m) (s.starts i j h m);
      nonempty = λ i l. let m : i < count = omega (arith, length_rows ws count) in rw (rows_at ws count i m) (s.nonempty i m);
    }

-- what the first area that ends past an address tells: areas before it end at or before the address, and it does not
module _ (xs : List Area) (address r : ℕ) (e : r ≡ first_where (ends_past address) xs) where
  found : First (ends_past address) xs r
  found = rw e (first (ends_past address) xs)

  pub ended : (k : ℕ) → k < r → (get_or xs k nothing).end ≤ address
  unfolding ends_past
  ended k h = ltb-false address (get_or xs k nothing).end (found.fails k h)

  pub not_ended : r < length xs → address < (get_or xs r nothing).end
  unfolding ends_past
  not_ended h = ltb-true address (get_or xs r nothing).end (found.passes h)

  -- so it decides which area holds the address
  pub holds_none : length xs ≤ r → length xs ≡ first_where (contains address) xs
  holds_none h =
      first_is (contains address) xs (length xs) (omega arith)
      (λ k l. contains_before address (get_or xs k nothing) (ended k (omega arith)))
      (λ l. absurd (omega arith))

  pub holds_at : r < length xs → (get_or xs r nothing).start ≤ address → r ≡ first_where (contains address) xs
  holds_at h s =
      first_is (contains address) xs r (omega arith)
      (λ k l. contains_before address (get_or xs k nothing) (ended k l))
      (λ l. contains_yes address (get_or xs r nothing) s (not_ended h))

  pub holds_gap : Rises xs → r < length xs → address < (get_or xs r nothing).start → length xs ≡ first_where (contains address) xs
  holds_gap rises h s =
      first_is (contains address) xs (length xs) (omega arith)
      (λ k l. elim (dec_lt k r) [
        | yes m ↦ contains_before address (get_or xs k nothing) (ended k m)
        | no m ↦ contains_after address (get_or xs k nothing) (omega (arith, rises.starts r k (omega arith) l))
      ])
      (λ l. absurd (omega arith))
