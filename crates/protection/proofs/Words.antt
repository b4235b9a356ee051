-- Laws of the steps on the words: each step stores a good list over good tables, and the last one's list is protect's.
-- Assumes nothing.
use Prim.Native.Nat.{ℕ, suc, ◌+◌, ◌-◌, ◌*◌, ◌%◌, ◌≤◌, ◌<◌, max}
use mathlib.Core.Path.{◌≡◌, sym, ap, ◌∙◌}
use mathlib.Core.Bool.{true}
use mathlib.Core.List.{List, [], ◌∷◌, map}
use native.Mathlib.Omega.{arith}
use native.Mathlib.Nat.{le_refl}
use native.Mathlib.Numerals.{add-one}
use lib.ListN.{length, get_or, length-map}
use Rattle.page_table.specs.Limits.{page_size, max_pages}
use Rattle.area.specs.Area.{part, nothing}
use Rattle.area.specs.declared.Area.{Area}
use Rattle.area_list.specs.Layout.{words_per_area, capacity_of, rows}
use Rattle.area_list.specs.Good.{space_of, good_tables}
use Rattle.area_list.specs.Position.{first_where}
use Rattle.area_list.specs.Store.{store, spliced}
use Rattle.slots.specs.Splice.{Gap}
use Rattle.area_list.proofs.Ordered.{Ordered, none_left, one_more}
use Rattle.area_list.proofs.Rows.{length_rows}
use Rattle.area_list.proofs.Goodness.{GoodTables, tables_are, count_fits}
use Rattle.area_list.proofs.Positions.{sorted}
use Rattle.area_list.proofs.Stores.{rows_storable, length_store, rows_store, store_good, store_same, store_again}
use Rattle.effects.specs.Lists.{protect}
use Rattle.effects.proofs.Protecting.{cuts_at, halves, split_at, flagged, protect_steps, split_ordered, split_storable, AllStorable, length_grows}
use Rattle.protection.specs.Range.{ProtectRange}
use Rattle.protection.proofs.Splits.{split_none, split_one, length_one}

-- ---- a good list that goes into good tables

module _ (ws : List ℕ) (count : ℕ) (good : good_tables ws count max_pages ≡ true) where
  abbrev pub tables : GoodTables ws count max_pages
  tables = tables_are ws count max_pages good

  pub all_storable : AllStorable (rows ws count)
  all_storable i h = rows_storable (sorted tables) i (rw (← length_rows ws count) h)

  module _ (list : List Area) (fits : length list ≤ capacity_of (length ws)) where
    room : words_per_area * max count (length list) ≤ length ws
    room =
        let old : words_per_area * count ≤ length ws = count_fits ws count tables.count_few in
        let new : words_per_area * length list ≤ length ws = count_fits ws (length list) fits in
        omega arith

    pub stored_long : length (store list ws count) ≡ length ws
    stored_long = length_store list ws count room

    pub stored_good : Ordered (space_of max_pages) 0 list → AllStorable list → good_tables (store list ws count) (length list) max_pages ≡ true
    stored_good o all = store_good list ws count max_pages (le_refl max_pages) fits room o all

-- tables that are good with fewer pages are good with the most: what an area has to be does not shrink
in_larger : {space space' before : ℕ} (xs : List Area) → space ≤ space' → Ordered space before xs → Ordered space' before xs
in_larger [] h o = none_left
in_larger (a ∷ xs) h (one_more g b o) =
    one_more
    (record {
      nonempty = g.nonempty;
      inside = omega (arith, g.inside);
      start_aligned = g.start_aligned;
      end_aligned = g.end_aligned;
      flags_legal = g.flags_legal;
      frames_legal = g.frames_legal;
    })
    b (in_larger xs h o)

pub good_with_most : (ws : List ℕ) (count p : ℕ) → good_tables ws count p ≡ true → good_tables ws count max_pages ≡ true
good_with_most ws count p good =
    let t = tables_are ws count p good in
    let n : length (rows ws count) ≡ count = length_rows ws count in
    rw (store_same (sorted t), n) at
    (store_good (rows ws count) ws count max_pages (le_refl max_pages) (rw n t.count_few) (omega (arith, count_fits ws count t.count_few))
    (in_larger (rows ws count) (omega (arith, t.pages_few)) t.ordered)
    (λ i h. rows_storable (sorted t) i (rw n at h)))

-- ---- the split at one end of the range

module _ (set clear at : ℕ) (ws : List ℕ) (count : ℕ) (good : good_tables ws count max_pages ≡ true)
    (slot : ℕ) (e : slot ≡ first_where (cuts_at set clear at) (rows ws count)) where
  abbrev split : List Area
  split = split_at set clear at (rows ws count)

  pub no_split : count ≤ slot → (count ≡ length split) × (ws ≡ store split ws count)
  no_split h =
      let same : split ≡ rows ws count = split_none set clear at (rows ws count) (rw (length_rows ws count, ← e) h) in
      (sym (rw (same, length_rows ws count)), sym (rw same (store_same (sorted (tables ws count good)))))

  module _ (l : slot < count) where
    one_longer : length split ≡ count + 1
    one_longer =
        length_one set clear at (rows ws count) (tables ws count good).ordered slot e (rw (length_rows ws count) l)
        ∙ ap (λ (n : ℕ). n + 1) (length_rows ws count)

    pub split_gap : length split ≤ capacity_of (length ws) → Gap (length ws) count slot (slot + 1) 2
    split_gap h = record { ordered = omega arith; inside = omega arith; fits = omega (arith, one_longer) }

    pub one_split : {r : ℕ} {ws' : List ℕ} (a left right : Area) → a ≡ get_or (rows ws count) slot nothing
        → left ≡ part a a.start at → right ≡ part a at a.end
        → r ≡ slot + 2 + (count - (slot + 1)) → ws' ≡ store (spliced (rows ws count) slot (slot + 1) (left ∷ right ∷ [])) ws count
        → (r ≡ length split) × (ws' ≡ store split ws count)
    one_split a left right here p q n w = (
      n ∙ omega (arith, one_longer),
      w ∙ ap (λ (list : List Area). store list ws count) (rw (p, q, here, add-one) (sym parts)),
    )
      where
        parts : split ≡ spliced (rows ws count) slot (suc slot) (halves at (get_or (rows ws count) slot nothing))
        parts = rw e (split_one set clear at (rows ws count) (tables ws count good).ordered (rw (← e, length_rows ws count) l))

-- the list that the words hold now, where the tables stayed good
pub record Stored (list : List Area) (ws : List ℕ) (count : ℕ) (ws₀ : List ℕ) : Type 0 where
  pub good : good_tables ws count max_pages ≡ true
  pub is : rows ws count ≡ list
  pub long : length ws ≡ length ws₀

split_stored : (set clear at : ℕ) → at % page_size ≡ 0 → (ws : List ℕ) (count : ℕ) → good_tables ws count max_pages ≡ true
    → length (split_at set clear at (rows ws count)) ≤ capacity_of (length ws)
    → {r : ℕ} {ws' : List ℕ} → r ≡ length (split_at set clear at (rows ws count)) → ws' ≡ store (split_at set clear at (rows ws count)) ws count
    → Stored (split_at set clear at (rows ws count)) ws' r ws
split_stored set clear at p ws count good fits n w =
    let list : List Area = split_at set clear at (rows ws count) in
    let o : Ordered (space_of max_pages) 0 list = split_ordered set clear at p (rows ws count) (tables ws count good).ordered in
    let all : AllStorable list = split_storable set clear at (rows ws count) (all_storable ws count good) in
    record {
      good = rw (w, n) (stored_good ws count good list fits o all);
      is = rw (w, n) (rows_store list ws count);
      long = rw w (stored_long ws count good list fits);
    }

-- ---- all steps

-- where the list is no shorter than before, it does not matter how many areas there were
same_store : (list : List Area) (ws : List ℕ) (count count' : ℕ) → count ≤ length list → count' ≤ length list → store list ws count ≡ store list ws count'
unfolding store
same_store list ws count count' h h' =
    let none : count - length list ≡ count' - length list = omega arith in
    let kept : max count (length list) ≡ max count' (length list) = omega arith in
    rw (none, kept)

-- three lists that went in one after the other, none shorter than the one before it
store_three : (xs ys zs : List Area) (ws : List ℕ) (count : ℕ) → count ≤ length xs → length xs ≤ length ys → length ys ≡ length zs
    → store zs (store ys (store xs ws count) (length xs)) (length ys) ≡ store zs ws count
store_three xs ys zs ws count a b c =
    ap (λ (words : List ℕ). store zs words (length ys)) (store_again xs ys ws count)
    ∙ store_again ys zs ws (max count (length xs))
    ∙ same_store zs ws (max (max count (length xs)) (length ys)) count (omega arith) (omega arith)

module _ (low high set clear : ℕ) (range : ProtectRange low high set clear) (ws : List ℕ) (count : ℕ) (good : good_tables ws count max_pages ≡ true)
    (fits : length (protect low high set clear (rows ws count)) ≤ capacity_of (length ws)) where
  abbrev first : List Area
  first = split_at set clear high (rows ws count)

  abbrev second : List Area
  second = split_at set clear low first

  in_steps : protect low high set clear (rows ws count) ≡ map (flagged low high set clear) second
  in_steps = protect_steps low high set clear range.nonempty (rows ws count) (tables ws count good).ordered

  second_long : length (protect low high set clear (rows ws count)) ≡ length second
  second_long = ap length in_steps ∙ length-map second (flagged low high set clear)

  pub first_fits : length first ≤ capacity_of (length ws)
  first_fits = omega (arith, second_long, length_grows set clear low first)

  module _ {r₁ : ℕ} {ws₁ : List ℕ} (n₁ : r₁ ≡ length first) (w₁ : ws₁ ≡ store first ws count) where
    pub first_stored : Stored first ws₁ r₁ ws
    first_stored = split_stored set clear high range.high_aligned ws count good first_fits n₁ w₁

    pub second_fits : length (split_at set clear low (rows ws₁ r₁)) ≤ capacity_of (length ws₁)
    second_fits = rw (first_stored.is, first_stored.long) (omega (arith, second_long))

    module _ {r₂ : ℕ} {ws₂ : List ℕ} (n₂ : r₂ ≡ length (split_at set clear low (rows ws₁ r₁))) (w₂ : ws₂ ≡ store (split_at set clear low (rows ws₁ r₁)) ws₁ r₁) where
      pub second_stored : Stored (split_at set clear low (rows ws₁ r₁)) ws₂ r₂ ws₁
      second_stored = split_stored set clear low range.low_aligned ws₁ r₁ first_stored.good second_fits n₂ w₂

      is_second : split_at set clear low (rows ws₁ r₁) ≡ second
      is_second = ap (split_at set clear low) first_stored.is

      pub all_stored : {ws₃ : List ℕ} → ws₃ ≡ store (map (flagged low high set clear) (rows ws₂ r₂)) ws₂ r₂
          → (r₂ ≡ length (protect low high set clear (rows ws count))) × (ws₃ ≡ store (protect low high set clear (rows ws count)) ws count)
      all_stored w₃ = (
        as_many ∙ sym second_long,
        w₃ ∙ rw (second_stored.is ∙ is_second, words, as_many, in_steps)
            (store_three first second (map (flagged low high set clear) second) ws count
            (omega (arith, length_rows ws count, length_grows set clear high (rows ws count)))
            (length_grows set clear low first)
            (sym (length-map second (flagged low high set clear)))),
      )
        where
          as_many : r₂ ≡ length second
          as_many = n₂ ∙ ap length is_second

          words : ws₂ ≡ store second (store first ws count) (length first)
          words = w₂ ∙ rw (is_second, w₁, n₁)
