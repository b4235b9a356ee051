-- Laws of the words: what a backend's word is, and where the areas lie. Assumes nothing.
use Prim.Native.Nat.{ℕ, zero, suc, ◌+◌, ◌-◌, ◌*◌, ◌^◌, ◌≤◌, ◌<◌}
use mathlib.Core.Path.{◌≡◌, refl, sym, ap, ◌∙◌}
use mathlib.Core.Bool.{true, false, true≢false}
use mathlib.Core.List.{List, ◌++◌}
use native.Mathlib.Omega.{arith}
use native.Mathlib.Decide.{dec_le, ℕ_discrete}
use native.Mathlib.Nat.{add-zero}
use lib.Dec.{ltb}
use lib.ListN.{length, get_or, take, drop, length-drop}
use lib.Seq.{length-take-le, get_or-take, get_or-drop, drop-drop, take-add, drop_at}
use borrow.Author.Tests.{le-leb, lt-leb, eq-eqb, ne_eqb, ltb-true}
use Rattle.page_table.specs.declared.Backend.TheVariants.{Lazy, Linear}
use Rattle.area.specs.Area.{nothing}
use Rattle.area_list.specs.Layout.{words_per_area, legal_word, backend_of, row_with, row_of, row_at, area_of, rows}

-- ---- a backend's word

pub lazy_legal : (w : ℕ) → w ≡ 0 → legal_word w ≡ true
unfolding legal_word
lazy_legal w z = rw (eq-eqb w 0 z)

module _ (w : ℕ) (z : w ≡ 0 → ⊥) where
  pub small_illegal : w < 2 ^ 32 → legal_word w ≡ false
  unfolding legal_word
  small_illegal h = rw (ne_eqb w 0 z, lt-leb (2 ^ 32) w h)

  pub linear_legal : 2 ^ 32 ≤ w → legal_word w ≡ ltb w (2 ^ 33)
  unfolding legal_word
  linear_legal h = rw (ne_eqb w 0 z, le-leb (2 ^ 32) w h)

  pub linear_word : legal_word w ≡ true → (2 ^ 32 ≤ w) × (w < 2 ^ 33)
  linear_word e =
      elim (dec_le (2 ^ 32) w) [
        | no h ↦ absurd (true≢false (sym e ∙ small_illegal (omega arith)))
        | yes h ↦ (h, ltb-true w (2 ^ 33) (sym (linear_legal h) ∙ e))
      ]

pub lazy_backend : (w : ℕ) → w ≡ 0 → backend_of w ≡ Lazy
unfolding backend_of
lazy_backend w z = rw (eq-eqb w 0 z)

pub linear_backend : (w : ℕ) → (w ≡ 0 → ⊥) → backend_of w ≡ Linear (w - 2 ^ 32)
unfolding backend_of
linear_backend w z = rw (ne_eqb w 0 z)

-- a legal word has 33 bits at most
pub legal_short : (w : ℕ) → legal_word w ≡ true → w < 2 ^ 33
legal_short w e =
    elim (ℕ_discrete w 0) [
      | yes z ↦ omega arith
      | no z ↦ (linear_word w z e).1
    ]

-- ---- where the areas lie

-- the words of the area at a slot
pub row_words : (ws : List ℕ) (i : ℕ) →
    row_at ws i ≡ row_with (get_or ws (4 * i) 0) (get_or ws (4 * i + 1) 0) (get_or ws (4 * i + 2) 0) (get_or ws (4 * i + 3) 0)
unfolding row_at row_of
row_words ws i = rw (get_or-drop (4 * i) ws 0 0, get_or-drop (4 * i) ws 1 0, get_or-drop (4 * i) ws 2 0, get_or-drop (4 * i) ws 3 0, add-zero (4 * i))

-- one slot further
pub next_slot : (ws : List ℕ) (i : ℕ) → drop words_per_area (drop (words_per_area * i) ws) ≡ drop (words_per_area * (i + 1)) ws
next_slot ws i = let e : 4 * i + 4 ≡ 4 * (i + 1) = omega arith in drop-drop 4 (4 * i) ws ∙ ap (λ (n : ℕ). drop n ws) e

pub slot_under : (ws : List ℕ) (i : ℕ) → row_at (drop words_per_area ws) i ≡ row_at ws (suc i)
unfolding row_at
slot_under ws i = let e : 4 + 4 * i ≡ 4 * suc i = omega arith in ap row_of (drop-drop (4 * i) 4 ws ∙ ap (λ (n : ℕ). drop n ws) e)

pub length_rows : (ws : List ℕ) (n : ℕ) → length (rows ws n) ≡ n
unfolding rows
length_rows ws zero = refl
length_rows ws (suc n) = ap suc (length_rows (drop words_per_area ws) n)

-- the area at a slot
pub rows_at : (ws : List ℕ) (n i : ℕ) → i < n → get_or (rows ws n) i nothing ≡ area_of (row_at ws i)
unfolding rows row_at
rows_at ws zero i h = absurd (omega arith)
rows_at ws (suc n) zero h = refl
rows_at ws (suc n) (suc i) h = rows_at (drop words_per_area ws) n i (omega arith) ∙ ap area_of (slot_under ws i)

-- ---- words past the areas say nothing

module _ (ws : List ℕ) (n : ℕ) (room : words_per_area * suc n ≤ length ws) where
  first_and_rest : take (words_per_area * suc n) ws ≡ take words_per_area ws ++ take (words_per_area * n) (drop words_per_area ws)
  first_and_rest = let e : 4 * suc n ≡ 4 + 4 * n = omega arith in rw e (take-add 4 (4 * n) ws)

  pub first_taken : row_of (take (words_per_area * suc n) ws) ≡ row_of ws
  unfolding row_of
  first_taken =
      rw (
        get_or-take (4 * suc n) ws 0 0 (omega arith),
        get_or-take (4 * suc n) ws 1 0 (omega arith),
        get_or-take (4 * suc n) ws 2 0 (omega arith),
        get_or-take (4 * suc n) ws 3 0 (omega arith),
      )

  pub rest_taken : drop words_per_area (take (words_per_area * suc n) ws) ≡ take (words_per_area * n) (drop words_per_area ws)
  rest_taken = rw first_and_rest (drop_at (take 4 ws) (take (4 * n) (drop 4 ws)) 4 (length-take-le 4 ws (omega arith)))

  pub rest_room : words_per_area * n ≤ length (drop words_per_area ws)
  rest_room = omega (arith, length-drop 4 ws)

pub rows_taken : (ws : List ℕ) (n : ℕ) → words_per_area * n ≤ length ws → rows (take (words_per_area * n) ws) n ≡ rows ws n
unfolding rows
rows_taken ws zero h = refl
rows_taken ws (suc n) h = rw (first_taken ws n h, rest_taken ws n h, rows_taken (drop words_per_area ws) n (rest_room ws n h))
