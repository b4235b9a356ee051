-- The walk (01, "The calls"): "every area in order, as a walk that reads the caller's area table where it lies. A refused walk
-- yields no area; its number is the one len gives." Laws: `proofs/Yields.antt`. Assumes nothing.
use Rattle.std.specs.Prelude.{◌≡◌, ℕ, zero, suc, ◌+◌, List, [], ◌∷◌, Option, Some, None}
use Rattle.std.specs.Borrow.{Bor}
use Rattle.area.specs.Answer.{Reply, reply}
use Rattle.area.specs.declared.Area.{Area}
use Rattle.area_list.specs.Item.{item_at}
use Rattle.questions.specs.Question.{len_outcome, len_rule}
use Rattle.walk.specs.declared.Walk.{Walk}

-- ---- a walk is made

-- where a walk is: on the caller's own words, through so many areas, at a slot
pub record Place : Type 0 where
  pub areas : Bor (List ℕ)
  pub count : ℕ
  pub slot : ℕ

abbrev pub place : Bor (List ℕ) → ℕ → ℕ → Place
place areas count slot = record { areas = areas; count = count; slot = slot }

-- how many areas it goes through: as many as len says, and 0 where len refused
abbrev pub count_of : Walk → ℕ
count_of w = (len_outcome w.len).value

abbrev pub walk_outcome : Walk → Reply Place
walk_outcome w = reply (len_outcome w.len).answer (place w.areas (count_of w) w.slot)

-- len's number, and as many areas as len says: 0 in a refusal
unfoldable pub walk_rule : Bor (List ℕ) → List ℕ → ℕ → Reply Place
walk_rule areas pages count =
    reply (len_rule areas.now pages count).answer (place areas (len_rule areas.now pages count).value 0)

-- ---- it is stepped

-- one slot further after an area; where there is none it stays, so a walk ends once and for all
abbrev pub after : Option Area → ℕ → ℕ
after (Some area) slot = slot + 1
after None slot = slot

abbrev pub yielded : Walk → Option Area
yielded w = item_at w.areas.now (count_of w) w.slot

abbrev pub moved : Walk → Walk
moved w = record { areas = w.areas; len = w.len; slot = after (yielded w) w.slot }

-- one step: what it yields, and the walk afterwards
abbrev pub Steps : Walk → Option Area → Walk → Type 0
Steps w item w' = (item ≡ yielded w) × (w' ≡ moved w)

-- ---- all that it yields in so many steps, up to the first that yields none

abbrev pub followed_by : Option Area → List Area → List Area
followed_by (Some area) rest = area ∷ rest
followed_by None rest = []

unfoldable pub yields : ℕ → Walk → List Area
yields zero w = []
yields (suc k) w = followed_by (yielded w) (yields k (moved w))
