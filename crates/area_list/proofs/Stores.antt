-- Laws of stored lists: an area's words and back, the words of a list, what a table is after a list went in, and the writes that
-- put it there. Assumes nothing.
use Prim.Native.Nat.{ℕ, zero, suc, ◌+◌, ◌-◌, ◌*◌, ◌^◌, ◌≤◌, ◌<◌, max}
use mathlib.Core.Path.{◌≡◌, refl, sym, ap, ◌∙◌}
use mathlib.Core.Bool.{true}
use mathlib.Core.List.{List, [], ◌∷◌, ◌++◌, append_assoc}
use native.Mathlib.Omega.{arith}
use native.Mathlib.Decide.{ℕ_discrete}
use native.Mathlib.Nat.{sub-zero}
use lib.ListN.{length, get_or, take, drop, replicate, length-append, length-take, length-drop, length-replicate, take-append-drop, replicate-append-replicate}
use lib.Seq.{take-nil, drop-nil, take-take, drop-drop, take-add, take-append-add, drop-append-add, length-take-le, drop_at}
use Rattle.lists.proofs.Every.{and_both}
use Rattle.page_table.specs.Limits.{max_pages}
use Rattle.page_table.specs.declared.Backend.{Backend}
use Rattle.page_table.specs.declared.Backend.TheVariants.{Lazy, Linear}
use Rattle.area.specs.Area.{good_area, part, nothing}
use Rattle.area.specs.declared.Area.{Area}
use Rattle.area.proofs.Areas.{is_good}
use Rattle.area_list.specs.Layout.{words_per_area, capacity_of, legal_word, backend_of, word_of, row_with, row_of, row_at, area_of, LegalRow, words_of, rows}
use Rattle.area_list.specs.Good.{space_of, good_row, good_rows, good_tables}
use Rattle.area_list.specs.Position.{SortedRows}
use Rattle.area_list.specs.Store.{Storable, flat, store, spliced}
use Rattle.area_list.specs.declared.Row.{Row}
use Rattle.area_list.proofs.Ordered.{Ordered, none_left, one_more}
use Rattle.area_list.proofs.Rows.{lazy_legal, linear_legal, linear_word, lazy_backend, linear_backend, slot_under, length_rows, rows_at}
use Rattle.area_list.proofs.Goodness.{area_decides, rows_decide}
use borrow.Author.Tests.{lt-ltb}

-- ---- one area's words

pub word_back : (b : Backend) → backend_of (word_of b) ≡ b
unfolding word_of
word_back Lazy = lazy_backend 0 refl
word_back (Linear delta) =
    let e : 2 ^ 32 + delta - 2 ^ 32 ≡ delta = omega arith in linear_backend (2 ^ 32 + delta) (λ z. omega arith) ∙ ap Linear e

word_kept : (w : ℕ) → legal_word w ≡ true → word_of (backend_of w) ≡ w
unfolding word_of
word_kept w e =
    elim (ℕ_discrete w 0) [
      | yes z ↦ ap word_of (lazy_backend w z) ∙ sym z
      | no z ↦ let h : 2 ^ 32 + (w - 2 ^ 32) ≡ w = omega (arith, linear_word w z e) in ap word_of (linear_backend w z) ∙ h
    ]

-- an area read from its own words, and a legal row's words from its area
area_back : (a : Area) → area_of (row_with a.start a.end a.flags (word_of a.backend)) ≡ a
area_back a = rw (word_back a.backend)

pub row_kept : {r : Row} → LegalRow r → words_of (area_of r) ≡ r.start ∷ r.end ∷ r.flags ∷ r.backend ∷ []
unfolding words_of
row_kept {r} l = rw (word_kept r.backend l.word_legal)

-- ---- which areas can be stored

pub lazy_storable : {a : Area} → a.backend ≡ Lazy → Storable a
unfolding word_of
lazy_storable e = record { word_legal = rw e (lazy_legal 0 refl) }

pub linear_storable : {a : Area} {delta : ℕ} → a.backend ≡ Linear delta → delta < 2 ^ 32 → Storable a
unfolding word_of
linear_storable {delta = delta} e h =
    record { word_legal = rw e (linear_legal (2 ^ 32 + delta) (λ z. omega arith) (omega arith) ∙ lt-ltb (2 ^ 32 + delta) (2 ^ 33) (omega arith)) }

pub part_storable : {a : Area} (start end : ℕ) → Storable a → Storable (part a start end)
part_storable start end s = record { word_legal = s.word_legal }

row_storable : {r : Row} → LegalRow r → Storable (area_of r)
row_storable {r} l = record { word_legal = rw (word_kept r.backend l.word_legal) l.word_legal }

pub rows_storable : {ws : List ℕ} {count : ℕ} → SortedRows ws count → (i : ℕ) → i < count → Storable (get_or (rows ws count) i nothing)
rows_storable {ws} {count} s i h = rw (rows_at ws count i h) (row_storable (s.legal i h))

-- ---- the words of a list

pub length_flat : (xs : List Area) → length (flat xs) ≡ words_per_area * length xs
unfolding flat words_of
length_flat [] = refl
length_flat (a ∷ xs) = let e = length_flat xs in omega arith

pub flat_append : (xs ys : List Area) → flat (xs ++ ys) ≡ flat xs ++ flat ys
unfolding flat
flat_append [] ys = refl
flat_append (a ∷ xs) ys = rw (flat_append xs ys, append_assoc (words_of a) (flat xs) (flat ys))

pub flat_take : (i : ℕ) (xs : List Area) → flat (take i xs) ≡ take (words_per_area * i) (flat xs)
unfolding flat words_of
flat_take zero xs = refl
flat_take (suc i) [] = sym (take-nil (4 * suc i))
flat_take (suc i) (a ∷ xs) =
    let e : 4 * suc i ≡ 4 + 4 * i = omega arith in
    rw (e, take-append-add (words_of a) (flat xs) (4 * i), flat_take i xs)

pub flat_drop : (i : ℕ) (xs : List Area) → flat (drop i xs) ≡ drop (words_per_area * i) (flat xs)
unfolding flat words_of
flat_drop zero xs = refl
flat_drop (suc i) [] = sym (drop-nil (4 * suc i))
flat_drop (suc i) (a ∷ xs) =
    let e : 4 * suc i ≡ 4 + 4 * i = omega arith in
    rw (e, drop-append-add (words_of a) (flat xs) (4 * i), flat_drop i xs)

-- the words of areas that were read are the words that they were read from
first_words : (ws : List ℕ) → 4 ≤ length ws → (row_of ws).start ∷ (row_of ws).end ∷ (row_of ws).flags ∷ (row_of ws).backend ∷ [] ≡ take words_per_area ws
unfolding row_of
first_words [] h = absurd (omega arith)
first_words (a ∷ []) h = absurd (omega arith)
first_words (a ∷ b ∷ []) h = absurd (omega arith)
first_words (a ∷ b ∷ c ∷ []) h = absurd (omega arith)
first_words (a ∷ b ∷ c ∷ d ∷ ws) h = refl

first_kept : (ws : List ℕ) → 4 ≤ length ws → LegalRow (row_at ws 0) → words_of (area_of (row_of ws)) ≡ take words_per_area ws
unfolding row_at
first_kept ws h l = row_kept l ∙ first_words ws h

flat_legal : (ws : List ℕ) (n : ℕ) → words_per_area * n ≤ length ws → ((i : ℕ) → i < n → LegalRow (row_at ws i)) → flat (rows ws n) ≡ take (words_per_area * n) ws
unfolding flat rows
flat_legal ws zero room legal = refl
flat_legal ws (suc n) room legal =
    let e : 4 * suc n ≡ 4 + 4 * n = omega arith in
    let rest : List ℕ = drop words_per_area ws in
    rw (
      first_kept ws (omega arith) (legal 0 (omega arith)),
      flat_legal rest n (omega (arith, length-drop words_per_area ws)) (λ i h. rw (slot_under ws i) (legal (suc i) (omega arith))),
      e,
      take-add 4 (4 * n) ws,
    )

module _ {ws : List ℕ} {count : ℕ} (s : SortedRows ws count) where
  pub flat_rows : flat (rows ws count) ≡ take (words_per_area * count) ws
  flat_rows = flat_legal ws count s.room s.legal

  pub flat_rows_before : (i : ℕ) → i ≤ count → flat (take i (rows ws count)) ≡ take (words_per_area * i) ws
  flat_rows_before i h = rw (flat_take i (rows ws count), flat_rows, take-take (4 * i) (4 * count) ws (omega arith))

  pub flat_rows_from : (i : ℕ) → i ≤ count → flat (drop i (rows ws count)) ≡ take (words_per_area * (count - i)) (drop (words_per_area * i) ws)
  flat_rows_from i h =
      let e : 4 * count ≡ 4 * i + 4 * (count - i) = omega arith in
      rw (flat_drop i (rows ws count), flat_rows, e, take-add (4 * i) (4 * (count - i)) ws)
      (drop_at (take (4 * i) ws) (take (4 * (count - i)) (drop (4 * i) ws)) (4 * i) (length-take-le (4 * i) ws (omega (arith, s.room))))

-- ---- a list that went in

pub length_store : (list : List Area) (ws : List ℕ) (count : ℕ) → words_per_area * max count (length list) ≤ length ws → length (store list ws count) ≡ length ws
unfolding store
length_store list ws count h = simp (length-append, length_flat, length-replicate, length-drop) (omega arith)

-- it is what the table then says
rows_flat : (list : List Area) (rest : List ℕ) → rows (flat list ++ rest) (length list) ≡ list
unfolding flat words_of rows row_of
rows_flat [] rest = refl
rows_flat (a ∷ list) rest = rw (area_back a, rows_flat list rest)

pub rows_store : (list : List Area) (ws : List ℕ) (count : ℕ) → rows (store list ws count) (length list) ≡ list
unfolding store
rows_store list ws count =
    rows_flat list (replicate (words_per_area * (count - length list)) 0 ++ drop (words_per_area * max count (length list)) ws)

-- a list of good areas in order makes good tables
module _ {space : ℕ} (rest : List ℕ) where
  good_flat : {before : ℕ} {list : List Area} → Ordered space before list → ((i : ℕ) → i < length list → Storable (get_or list i nothing))
      → good_rows space before (flat list ++ rest) (length list) ≡ true
  unfolding flat words_of good_rows row_of
  good_flat none_left all = refl
  good_flat {before} (one_more {a = a} {xs = xs} g b o) all =
      let row : Row = row_with a.start a.end a.flags (word_of a.backend) in
      and_both (good_row space before row) (good_rows space a.end (flat xs ++ rest) (length xs))
      (area_decides space before row b (all 0 (omega arith)).word_legal ∙ ap (good_area space) (area_back a) ∙ is_good space a g)
      (good_flat o (λ i h. all (suc i) (omega arith)))

pub store_good : (list : List Area) (ws : List ℕ) (count p : ℕ) → p ≤ max_pages → length list ≤ capacity_of (length ws)
    → words_per_area * max count (length list) ≤ length ws → Ordered (space_of p) 0 list
    → ((i : ℕ) → i < length list → Storable (get_or list i nothing)) → good_tables (store list ws count) (length list) p ≡ true
unfolding store
store_good list ws count p few fits room o all =
    rows_decide (store list ws count) (length list) p few (rw (length_store list ws count room) fits)
    ∙ good_flat (replicate (words_per_area * (count - length list)) 0 ++ drop (words_per_area * max count (length list)) ws) o all

-- the list that was there changes nothing
pub store_same : {ws : List ℕ} {count : ℕ} → SortedRows ws count → store (rows ws count) ws count ≡ ws
unfolding store
store_same {ws} {count} s =
    let none : words_per_area * (count - count) ≡ 0 = omega arith in
    let top : max count count ≡ count = omega arith in
    rw (length_rows ws count, flat_rows s, none, top) (take-append-drop (words_per_area * count) ws)

-- ---- a list that went in after another

drop_past : (n : ℕ) (xs ys : List ℕ) → drop n (xs ++ ys) ≡ drop n xs ++ drop (n - length xs) ys
drop_past zero xs ys = let e : 0 - length xs ≡ 0 = omega arith in rw e
drop_past (suc n) [] ys = rw (sub-zero (suc n))
drop_past (suc n) (x ∷ xs) ys = let e : suc n - suc (length xs) ≡ n - length xs = omega arith in rw e (drop_past n xs ys)

drop_replicate : (n m v : ℕ) → drop n (replicate m v) ≡ replicate (m - n) v
drop_replicate zero m v = rw (sub-zero m)
drop_replicate (suc n) zero v = let e : 0 - suc n ≡ 0 = omega arith in rw e
drop_replicate (suc n) (suc m) v = let e : suc m - suc n ≡ m - n = omega arith in rw e (drop_replicate n m v)

-- how many words become 0 in all, and from where on the table keeps its words
zeros_in_all : (count old new : ℕ) → 4 * (old - new) + (4 * (count - old) - 4 * (new - old)) ≡ 4 * (max count old - new)
zeros_in_all count old new = omega arith

kept_from : (count old new : ℕ) → 4 * max count old + (4 * (new - old) - 4 * (count - old)) ≡ 4 * max (max count old) new
kept_from count old new = omega arith

-- the words after both lists, where more is how far the second goes past the first, and freed what the first left
rest_again : (list : List Area) (ws : List ℕ) (count new : ℕ)
    → drop (words_per_area * max (length list) new) (store list ws count)
    ≡ replicate (words_per_area * (count - length list) - words_per_area * (new - length list)) 0 ++ drop (words_per_area * max (max count (length list)) new) ws
unfolding store
rest_again list ws count new =
    let more : ℕ = 4 * (new - length list) in
    let freed : ℕ = 4 * (count - length list) in
    let rest : List ℕ = drop (4 * max count (length list)) ws in
    let past : 4 * max (length list) new ≡ length (flat list) + more = omega (arith, length_flat list) in
    ap (λ (n : ℕ). drop n (flat list ++ (replicate freed 0 ++ rest))) past
    ∙ drop-append-add (flat list) (replicate freed 0 ++ rest) more
    ∙ drop_past more (replicate freed 0) rest
    ∙ rw (drop_replicate more freed 0, length-replicate {A = ℕ} freed 0, drop-drop (more - freed) (4 * max count (length list)) ws, kept_from count (length list) new)

-- the table is as if the first list had never been, except that its slots count as used
pub store_again : (list list' : List Area) (ws : List ℕ) (count : ℕ)
    → store list' (store list ws count) (length list) ≡ store list' ws (max count (length list))
unfolding store
store_again list list' ws count =
    let old : ℕ = length list in
    let new : ℕ = length list' in
    let left : ℕ = 4 * (count - old) - 4 * (new - old) in
    rw (
      rest_again list ws count new,
      ← append_assoc (replicate (4 * (old - new)) 0) (replicate left 0) (drop (4 * max (max count old) new) ws),
      replicate-append-replicate {A = ℕ} (4 * (old - new)) left 0,
      zeros_in_all count old new,
    )

pub length_spliced : (list : List Area) (low high : ℕ) (parts : List Area) → low ≤ high → high ≤ length list
    → length (spliced list low high parts) ≡ low + length parts + (length list - high)
length_spliced list low high parts ordered inside = simp (length-append, length-take, length-drop) (omega arith)
