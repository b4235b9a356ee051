-- What a loop over the slots of a range has flagged so far: the areas before the slot are as the whole list makes them, and the
-- areas from the slot on are still to be flagged. Assumes nothing.
use Prim.Native.Nat.{ℕ, zero, suc, ◌+◌, ◌≤◌, ◌<◌, max}
use mathlib.Core.Path.{◌≡◌, refl, sym, ap, ◌∙◌}
use mathlib.Core.Bool.{true}
use mathlib.Core.List.{List, [], ◌∷◌, ◌++◌, map}
use native.Mathlib.Omega.{arith}
use native.Mathlib.Decide.{dec_lt}
use native.Mathlib.Numerals.{add-one}
use lib.ListN.{length, get_or, take, drop, set, length-set, drop_of_length-le, take-append-drop}
use lib.Seq.{set_split}
use borrow.Author.Tests.{lt-ltb, le-ltb}
use Rattle.page_table.specs.Limits.{max_pages, max_flags}
use Rattle.area.specs.Area.{nothing}
use Rattle.area.specs.declared.Area.{Area}
use Rattle.area_list.specs.Layout.{capacity_of, rows}
use Rattle.area_list.specs.Good.{good_tables}
use Rattle.area_list.specs.Position.{first_where, ends_past}
use Rattle.area_list.specs.Store.{store, spliced}
use Rattle.slots.specs.Splice.{Gap}
use Rattle.area_list.proofs.Ordered.{Ordered, one_more, ordered_from}
use Rattle.area_list.proofs.Rows.{length_rows}
use Rattle.area_list.proofs.Positions.{sorted}
use Rattle.area_list.proofs.Stores.{rows_store, store_same, store_again}
use Rattle.effects.proofs.Protecting.{flagged, flagged_left, flagged_right, flagged_start, flagged_end, flagged_good, flagged_storable, AllStorable, storable_more, storable_rest}
use Rattle.protection.proofs.Words.{tables, all_storable, stored_long, stored_good}

module _ (low high set-bits clear : ℕ) where
  abbrev flag : Area → Area
  flag = flagged low high set-bits clear

  -- ---- lists

  -- areas before the range stay
  map_from : {space before : ℕ} (xs : List Area) → Ordered space before xs
      → map flag xs ≡ take (first_where (ends_past low) xs) xs ++ map flag (drop (first_where (ends_past low) xs) xs)
  unfolding first_where ends_past
  map_from [] o = refl
  map_from (a ∷ xs) (one_more g b o) =
      elim (dec_lt low a.end) [
        | yes h ↦ rw (lt-ltb low a.end h)
        | no h ↦ rw (le-ltb low a.end (omega arith), flagged_left low high set-bits clear a (omega (arith, g.nonempty)))
            (ap (λ (ys : List Area). a ∷ ys) (map_from xs o))
      ]

  -- and so do areas after it
  map_past : {space before : ℕ} (xs : List Area) → Ordered space before xs → high ≤ before → map flag xs ≡ xs
  map_past [] o h = refl
  map_past (a ∷ xs) (one_more g b o) h =
      rw (flagged_right low high set-bits clear a (omega (arith, g.nonempty)), map_past xs o (omega (arith, g.nonempty)))

  -- the list with the area at a slot flagged
  abbrev flag_at : List Area → ℕ → List Area
  flag_at xs slot = set xs slot (flag (get_or xs slot nothing))

  one_flagged : (xs : List Area) (slot : ℕ) → slot < length xs
      → take slot xs ++ map flag (drop slot xs) ≡ take (suc slot) (flag_at xs slot) ++ map flag (drop (suc slot) (flag_at xs slot))
  one_flagged [] slot h = absurd (omega arith)
  one_flagged (a ∷ xs) zero h = refl
  one_flagged (a ∷ xs) (suc slot) h = ap (λ (ys : List Area). a ∷ ys) (one_flagged xs slot (omega arith))

  flag_at_ordered : {space before : ℕ} (xs : List Area) (slot : ℕ) → set-bits ≤ max_flags → Ordered space before xs → slot < length xs
      → Ordered space before (flag_at xs slot)
  flag_at_ordered [] slot s o h = absurd (omega arith)
  flag_at_ordered {before = before} (a ∷ xs) zero s (one_more g b o) h =
      one_more {before = before} {xs = xs} (flagged_good low high set-bits clear s a g)
      (rw (flagged_start low high set-bits clear a) b) (rw (flagged_end low high set-bits clear a) o)
  flag_at_ordered (a ∷ xs) (suc slot) s (one_more g b o) h = one_more g b (flag_at_ordered xs slot s o (omega arith))

  flag_at_storable : (xs : List Area) (slot : ℕ) → AllStorable xs → slot < length xs → AllStorable (flag_at xs slot)
  flag_at_storable [] slot all h = absurd (omega arith)
  flag_at_storable (a ∷ xs) zero all h =
      storable_more (flag a) xs (flagged_storable low high set-bits clear a (all 0 (omega arith))) (storable_rest a xs all)
  flag_at_storable (a ∷ xs) (suc slot) all h =
      storable_more a (flag_at xs slot) (all 0 (omega arith)) (flag_at_storable xs slot (storable_rest a xs all) (omega arith))

-- ---- the loop

pub record Flagging (low high set clear count slot : ℕ) (ws₀ ws : List ℕ) : Type 0 where
  pub good : good_tables ws count max_pages ≡ true
  pub long : length ws ≡ length ws₀
  pub written : ws ≡ store (rows ws count) ws₀ count
  pub rest : map (flagged low high set clear) (rows ws₀ count)
      ≡ take slot (rows ws count) ++ map (flagged low high set clear) (drop slot (rows ws count))

pub flagging_begins : (low high set clear count slot : ℕ) (ws : List ℕ) → good_tables ws count max_pages ≡ true
    → slot ≡ first_where (ends_past low) (rows ws count) → Flagging low high set clear count slot ws ws
flagging_begins low high set clear count slot ws good e =
    record {
      good = good;
      long = refl;
      written = sym (store_same (sorted (tables ws count good)));
      rest = rw e (map_from low high set clear (rows ws count) (tables ws count good).ordered);
    }

-- one slot gives way to one area
pub flag_gap : (ws : List ℕ) (count slot : ℕ) → good_tables ws count max_pages ≡ true → slot < count → Gap (length ws) count slot (slot + 1) 1
flag_gap ws count slot good l =
    record { ordered = omega arith; inside = omega arith; fits = omega (arith, (tables ws count good).count_few) }

module _ {low high set-bits clear count slot : ℕ} {ws₀ ws : List ℕ} (f : Flagging low high set-bits clear count slot ws₀ ws) where
  module _ (s : set-bits ≤ max_flags) (l : slot < count) where
    list : List Area
    list = flag_at low high set-bits clear (rows ws count) slot

    in_list : slot < length (rows ws count)
    in_list = rw (length_rows ws count) l

    as_long : length list ≡ count
    unfolding list
    as_long = length-set (rows ws count) slot (flagged low high set-bits clear (get_or (rows ws count) slot nothing)) ∙ length_rows ws count

    fits : length list ≤ capacity_of (length ws)
    fits = rw as_long (tables ws count f.good).count_few

    list_good : good_tables (store list ws count) count max_pages ≡ true
    unfolding list
    list_good =
        let o = flag_at_ordered low high set-bits clear (rows ws count) slot s (tables ws count f.good).ordered in_list in
        let all = flag_at_storable low high set-bits clear (rows ws count) slot (all_storable ws count f.good) in_list in
        rw as_long at (stored_good ws count f.good list fits o all)

    is_list : rows (store list ws count) count ≡ list
    is_list = rw as_long at (rows_store list ws count)

    -- as if it had gone in at once
    from_entry : store list ws count ≡ store list ws₀ count
    from_entry =
        let same : max count count ≡ count = omega arith in
        ap (λ (words : List ℕ). store list words count) f.written ∙ rw (length_rows ws count, same) at (store_again (rows ws count) list ws₀ count)

    rest_left : map (flagged low high set-bits clear) (rows ws₀ count) ≡ take (slot + 1) list ++ map (flagged low high set-bits clear) (drop (slot + 1) list)
    unfolding list
    rest_left = f.rest ∙ rw add-one (one_flagged low high set-bits clear (rows ws count) slot in_list)

    spliced_list : (a b : Area) → a ≡ get_or (rows ws count) slot nothing → b ≡ flagged low high set-bits clear a
        → spliced (rows ws count) slot (slot + 1) (b ∷ []) ≡ list
    unfolding list
    spliced_list a b e p = rw (p, e, add-one) (sym (set_split (rows ws count) slot (flagged low high set-bits clear (get_or (rows ws count) slot nothing)) in_list))

    -- one slot more
    pub flagging_goes_on : {ws' : List ℕ} (a b : Area) → a ≡ get_or (rows ws count) slot nothing → b ≡ flagged low high set-bits clear a
        → ws' ≡ store (spliced (rows ws count) slot (slot + 1) (b ∷ [])) ws count
        → Flagging low high set-bits clear count (slot + 1) ws₀ ws'
    flagging_goes_on {ws'} a b e p w =
        record {
          good = rw stored list_good;
          long = ap length stored ∙ stored_long ws count f.good list fits ∙ f.long;
          written = rw (stored, is_list) from_entry;
          rest = rw (stored, is_list) rest_left;
        }
      where
        stored : ws' ≡ store list ws count
        stored = w ∙ ap (λ (xs : List Area). store xs ws count) (spliced_list a b e p)

  flagging_done : map (flagged low high set-bits clear) (drop slot (rows ws count)) ≡ drop slot (rows ws count)
      → ws ≡ store (map (flagged low high set-bits clear) (rows ws₀ count)) ws₀ count
  flagging_done e =
      f.written ∙ ap (λ (xs : List Area). store xs ws₀ count) (sym (f.rest ∙ rw e (take-append-drop slot (rows ws count))))

  -- no area is left, or those that are left start at or past the range's end
  pub flagging_ends : count ≤ slot → ws ≡ store (map (flagged low high set-bits clear) (rows ws₀ count)) ws₀ count
  flagging_ends h = flagging_done (rw (drop_of_length-le (rows ws count) {i = slot} (rw (length_rows ws count) h)))

  pub flagging_stops : (a : Area) → a ≡ get_or (rows ws count) slot nothing → slot < count → high ≤ a.start
      → ws ≡ store (map (flagged low high set-bits clear) (rows ws₀ count)) ws₀ count
  flagging_stops a e l h =
      flagging_done (map_past low high set-bits clear (drop slot (rows ws count))
      (ordered_from (tables ws count f.good).ordered slot (rw (length_rows ws count) l)) (rw e at h))
