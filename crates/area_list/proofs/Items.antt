-- Laws of what a slot has: when it is an area, and that in good tables it is one exactly below the count. Assumes nothing.
use Prim.Native.Nat.{ℕ, ◌≤◌, ◌<◌}
use mathlib.Core.Path.{◌≡◌, refl, sym, ◌∙◌}
use mathlib.Core.Bool.{Bool, true, false, cond}
use mathlib.Core.List.{List}
use native.Mathlib.Omega.{arith}
use lib.ListN.{length, get_or}
use borrow.Author.Tests.{lt-ltb, ltb-true, le-leb, leb-true}
use Rattle.lists.specs.Every.{every}
use Rattle.lists.proofs.Every.{every_at, refuted}
use Rattle.area.specs.Area.{nothing}
use Rattle.area.specs.declared.Area.{Area}
use Rattle.page_table.specs.Limits.{max_flags}
use Rattle.area_list.specs.Layout.{capacity_of, LegalRow, Reads, row_at, rows}
use Rattle.area_list.specs.Item.{slot_tests, item_at}
use Rattle.area_list.specs.declared.Row.{Row}
use Rattle.std.specs.Prelude.{Some, None, Ok, Err, Result}
use Rattle.std.specs.Result.{result_ok}
use Rattle.area_list.specs.declared.NoArea.{NoArea}
use Rattle.area_list.proofs.Goodness.{GoodTables}
use Rattle.area_list.proofs.Rows.{rows_at}

chosen : (b : Bool) (x a : Area) → cond b (Some x) None ≡ Some a → b ≡ true
chosen true x a e = refl
chosen false x a e = cc

pub record HasArea (ws : List ℕ) (count slot : ℕ) : Type 0 where
  pub below : slot < count
  pub room : slot < capacity_of (length ws)
  pub legal : LegalRow (row_at ws slot)

module _ (ws : List ℕ) (count slot : ℕ) where
  pub item_some : HasArea ws count slot → item_at ws count slot ≡ Some (get_or (rows ws count) slot nothing)
  unfolding item_at every
  item_some h =
      rw (lt-ltb slot count h.below, lt-ltb slot (capacity_of (length ws)) h.room, le-leb (row_at ws slot).flags max_flags h.legal.flags_fit, h.legal.word_legal)

  has_area : every (slot_tests ws count slot) ≡ true → HasArea ws count slot
  has_area e =
      record {
        below = ltb-true slot count (every_at (slot_tests ws count slot) 0 e);
        room = ltb-true slot (capacity_of (length ws)) (every_at (slot_tests ws count slot) 1 e);
        legal = record {
          flags_fit = leb-true (row_at ws slot).flags max_flags (every_at (slot_tests ws count slot) 2 e);
          word_legal = every_at (slot_tests ws count slot) 3 e;
        };
      }

  -- where an item is an area, there is one
  pub some_has : (a : Area) → item_at ws count slot ≡ Some a → HasArea ws count slot
  unfolding item_at
  some_has a e = has_area (chosen (every (slot_tests ws count slot)) (get_or (rows ws count) slot nothing) a e)

  pub some_below : (a : Area) → item_at ws count slot ≡ Some a → slot < count
  some_below a e = (some_has a e).below

  pub item_none : (HasArea ws count slot → ⊥) → item_at ws count slot ≡ None
  unfolding item_at
  item_none h = rw (refuted (every (slot_tests ws count slot)) (λ e. h (has_area e)))

  pub past_count : count ≤ slot → item_at ws count slot ≡ None
  past_count h = item_none (λ a. omega (arith, a.below))

  pub good_item : {p : ℕ} → GoodTables ws count p → slot < count → item_at ws count slot ≡ Some (get_or (rows ws count) slot nothing)
  good_item g h = item_some (record { below = h; room = omega (arith, g.count_few); legal = g.legal slot h })

-- from the words that were read: what reading them gives
module _ (ws : List ℕ) (count slot : ℕ) (r : Row) (at : r ≡ row_at ws slot) (below : slot < count) (room : slot < capacity_of (length ws)) where
  pub item_reads : (o : Result Area NoArea) → Reads r o → result_ok o ≡ item_at ws count slot
  item_reads (Ok a) h =
      sym (item_some ws count slot (record { below = below; room = room; legal = rw (← at) h.0 }) ∙ rw (rows_at ws count slot below, ← at, h.1))
  item_reads (Err e) h = sym (item_none ws count slot (λ a. h (rw at a.legal)))
