-- Positions in the list of areas, and what a list has to be for binary search. Laws: `proofs/Positions.antt`. Assumes nothing.
use Rattle.std.specs.Prelude.{ℕ, suc, ◌*◌, ◌≤◌, ◌<◌, Bool, ◌&&◌, cond, List, [], ◌∷◌, leb, ltb, length}
use Rattle.area.specs.declared.Area.{Area}
use Rattle.area_list.specs.Layout.{words_per_area, LegalRow, row_at}

-- the position of the first area that passes a test, or the list's length
unfoldable pub first_where : (Area → Bool) → List Area → ℕ
first_where p [] = 0
first_where p (a ∷ rest) = cond (p a) 0 (suc (first_where p rest))

unfoldable pub ends_past : ℕ → Area → Bool
ends_past address a = ltb address a.end

unfoldable pub starts_from : ℕ → Area → Bool
starts_from address a = leb address a.start

-- the address lies in the area
unfoldable pub contains : ℕ → Area → Bool
contains address a = leb a.start address && ltb address a.end

-- what good tables say of their slots: legal words, no empty area, starts and ends in order
pub record SortedRows (ws : List ℕ) (count : ℕ) : Type 0 where
  pub room : words_per_area * count ≤ length ws
  pub legal : (i : ℕ) → i < count → LegalRow (row_at ws i)
  pub nonempty : (i : ℕ) → i < count → (row_at ws i).start < (row_at ws i).end
  pub starts : (i j : ℕ) → i ≤ j → j < count → (row_at ws i).start ≤ (row_at ws j).start
  pub ends : (i j : ℕ) → i ≤ j → j < count → (row_at ws i).end ≤ (row_at ws j).end
