-- What a range cuts out of the list of areas: the slots that give way, and what stays of their first and last area.
-- Laws: `proofs/Gaps.antt`. Assumes nothing.
use Rattle.std.specs.Prelude.{ℕ, ◌+◌, ◌≤◌, ◌≡◌, cond, List, [], ◌∷◌, ◌++◌, length, drop, Option, Some, None, ltb}
use Rattle.std.specs.Option.{is_some}
use Rattle.area.specs.declared.Area.{Area}
use Rattle.slots.specs.Splice.{parts_of}
use Rattle.area_list.specs.Position.{first_where, ends_past}
use Rattle.effects.proofs.Cutting.{left_of, trimmed}
use Rattle.changes.specs.declared.Gap.{Gap}

-- the first area of a list, if there is one and it starts before an address
abbrev pub first_before : ℕ → List Area → Option Area
first_before address [] = None
first_before address (a ∷ rest) = cond (ltb a.start address) (Some a) None

-- what stays of an area, if something does, as a list
abbrev pub piece_of : Option Area → List Area
piece_of p = parts_of (p ∷ [])

-- how many slots a piece takes the place of
abbrev pub taken : Option Area → ℕ
taken p = cond (is_some p) 1 0

-- the piece and the slots after it are what is left of the list from a slot on, without what its first area has before an address
pub record RightOf (list : List Area) (slot address : ℕ) (p : Option Area) : Type 0 where
  pub trims : piece_of p ++ drop (slot + taken p) list ≡ trimmed address (drop slot list)
  pub inside : slot ≤ length list → slot + taken p ≤ length list

pub record Cuts (list : List Area) (low high : ℕ) (g : Gap) : Type 0 where
  pub low_is : g.low ≡ first_where (ends_past low) list
  pub left_is : piece_of g.left ≡ left_of low (drop g.low list)
  pub right_is : piece_of g.right ++ drop g.high list ≡ trimmed high (drop (first_where (ends_past high) list) list)
  pub ordered : g.low ≤ g.high
  pub inside : g.high ≤ length list
