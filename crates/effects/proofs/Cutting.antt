-- Laws of cutting and inserting: what becomes of each area, the whole list by positions, and that a good list stays good.
-- Assumes nothing.
use Prim.Native.Nat.{ℕ, ◌%◌, ◌≤◌, ◌<◌}
use mathlib.Core.Path.{◌≡◌, refl, sym, ap, ◌∙◌}
use mathlib.Core.Bool.{Bool, true, false, ◌||◌, cond, true≢false}
use mathlib.Core.List.{List, [], ◌∷◌, ◌++◌, flat_map, append_assoc}
use native.Mathlib.Omega.{arith}
use native.Mathlib.Decide.{dec_lt, dec_le}
use lib.Dec.{ltb}
use lib.ListN.{take, drop}
use borrow.Author.Tests.{lt-ltb, le-ltb, le-leb, lt-leb}
use Rattle.page_table.specs.Limits.{page_size}
use Rattle.area.specs.Area.{part}
use Rattle.area.specs.declared.Area.{Area}
use Rattle.area.proofs.Areas.{Good, part_good}
use Rattle.area_list.specs.Position.{first_where, ends_past}
use Rattle.area_list.specs.Meet.{shares, shares_any}
use Rattle.area_list.proofs.Ordered.{Ordered, none_left, one_more, weaken}
use Rattle.area_list.proofs.Positions.{first_yes, first_no}
use Rattle.area_list.proofs.Meets.{shares_yes, shares_before, shares_after, shares_nothing}
use Rattle.effects.specs.Lists.{left_piece, right_piece, outside, cut, insert}

-- ---- one area

pub whole_before : (low high : ℕ) (a : Area) → a.end ≤ low → outside low high a ≡ a ∷ []
unfolding outside
whole_before low high a h = rw (shares_before low high a h)

pub whole_after : (low high : ℕ) (a : Area) → high ≤ a.start → outside low high a ≡ a ∷ []
unfolding outside
whole_after low high a h = rw (shares_after low high a h)

pub whole_empty : (low high : ℕ) (a : Area) → high ≤ low → outside low high a ≡ a ∷ []
unfolding outside
whole_empty low high a h = rw (shares_nothing low high a h)

pub pieces : (low high : ℕ) (a : Area) → low < high → a.start < a.end → low < a.end → a.start < high
    → outside low high a ≡ left_piece low a ++ right_piece high a
unfolding outside
pieces low high a n e l s = rw (shares_yes low high a n e l s)

pub left_no : (low : ℕ) (a : Area) → low ≤ a.start → left_piece low a ≡ []
left_no low a h = rw (le-ltb a.start low h)

pub left_yes : (low : ℕ) (a : Area) → a.start < low → left_piece low a ≡ part a a.start low ∷ []
left_yes low a h = rw (lt-ltb a.start low h)

pub right_no : (high : ℕ) (a : Area) → a.end ≤ high → right_piece high a ≡ []
right_no high a h = rw (le-ltb high a.end h)

pub right_yes : (high : ℕ) (a : Area) → high < a.end → right_piece high a ≡ part a high a.end ∷ []
right_yes high a h = rw (lt-ltb high a.end h)

-- ---- a list whose areas all start at or past the range's end stays, and so does any list where the range is empty

pub cut_cons : (low high : ℕ) (a : Area) (xs : List Area) → cut low high (a ∷ xs) ≡ outside low high a ++ cut low high xs
unfolding cut flat_map
cut_cons low high a xs = refl

pub cut_after : {space before : ℕ} (low high : ℕ) (xs : List Area) → Ordered space before xs → high ≤ before → cut low high xs ≡ xs
unfolding cut flat_map
cut_after low high [] o h = refl
cut_after low high (a ∷ xs) (one_more g b o) h =
    rw (whole_after low high a (omega arith), cut_after low high xs o (omega (arith, g.nonempty)))

pub cut_empty : (low high : ℕ) (xs : List Area) → high ≤ low → cut low high xs ≡ xs
unfolding cut flat_map
cut_empty low high [] h = refl
cut_empty low high (a ∷ xs) h = rw (whole_empty low high a h, cut_empty low high xs h)

-- ---- the whole list by positions

-- what of a list's first area lies before low
abbrev pub left_of : ℕ → List Area → List Area
left_of low [] = []
left_of low (a ∷ rest) = left_piece low a

-- the list without what its first area has before high
abbrev pub trimmed : ℕ → List Area → List Area
trimmed high [] = []
trimmed high (a ∷ rest) = cond (ltb a.start high) (part a high a.end ∷ rest) (a ∷ rest)

-- the areas that end at or before low, what the next one has before low, and what is left from high on
abbrev pub by_positions : ℕ → ℕ → List Area → List Area
by_positions low high xs =
    take (first_where (ends_past low) xs) xs
    ++ (left_of low (drop (first_where (ends_past low) xs) xs) ++ trimmed high (drop (first_where (ends_past high) xs) xs))

past : (address : ℕ) (a : Area) → address < a.end → ends_past address a ≡ true
unfolding ends_past
past address a h = lt-ltb address a.end h

not_past : (address : ℕ) (a : Area) → a.end ≤ address → ends_past address a ≡ false
unfolding ends_past
not_past address a h = le-ltb address a.end h

abbrev from_past : ℕ → List Area → List Area
from_past address xs = drop (first_where (ends_past address) xs) xs

from_here : (address : ℕ) (a : Area) (xs : List Area) → address < a.end → from_past address (a ∷ xs) ≡ a ∷ xs
from_here address a xs h = rw (first_yes (ends_past address) a xs (past address a h))

from_next : (address : ℕ) (a : Area) (xs : List Area) → a.end ≤ address → from_past address (a ∷ xs) ≡ from_past address xs
from_next address a xs h = rw (first_no (ends_past address) a xs (not_past address a h))

pub trimmed_here : (high : ℕ) (a : Area) (xs : List Area) → a.start < high → trimmed high (a ∷ xs) ≡ part a high a.end ∷ xs
trimmed_here high a xs h = rw (lt-ltb a.start high h)

pub trimmed_none : (high : ℕ) (a : Area) (xs : List Area) → high ≤ a.start → trimmed high (a ∷ xs) ≡ a ∷ xs
trimmed_none high a xs h = rw (le-ltb a.start high h)

cut_skips : (low high : ℕ) → low < high → (a : Area) (xs : List Area) → a.end ≤ low → cut low high xs ≡ by_positions low high xs
    → cut low high (a ∷ xs) ≡ by_positions low high (a ∷ xs)
cut_skips low high n a xs h rest =
    cut_cons low high a xs
    ∙ rw (whole_before low high a h, rest, first_no (ends_past low) a xs (not_past low a h), first_no (ends_past high) a xs (not_past high a (omega arith)))

module _ {space : ℕ} (low high : ℕ) (n : low < high) where
  -- an area that starts past low has nothing before it
  left_none : {before : ℕ} (xs : List Area) → Ordered space before xs → low ≤ before → left_of low xs ≡ []
  left_none [] o h = refl
  left_none (a ∷ xs) (one_more g b o) h = left_no low a (omega arith)

  module _ (a : Area) (xs : List Area) (g : Good space a) (o : Ordered space a.end xs) (l : low < a.end) where
    -- [ range ]
    --           [ area ]
    here_after : high ≤ a.start → cut low high (a ∷ xs) ≡ left_piece low a ++ trimmed high (from_past high (a ∷ xs))
    here_after h =
        let e : high < a.end = omega (arith, g.nonempty) in
        cut_cons low high a xs
        ∙ rw (whole_after low high a h, cut_after low high xs o (omega arith), left_no low a (omega arith), from_here high a xs e, trimmed_none high a xs h)

    -- [ range ]
    --    [ area ]
    here_across : a.start < high → high < a.end → cut low high (a ∷ xs) ≡ left_piece low a ++ trimmed high (from_past high (a ∷ xs))
    here_across s e =
        cut_cons low high a xs
        ∙ rw (pieces low high a n g.nonempty l s, cut_after low high xs o (omega arith), right_yes high a e, from_here high a xs e, trimmed_here high a xs s)
        (append_assoc (left_piece low a) (part a high a.end ∷ []) xs)

    -- [   range   ]
    --    [ area ]
    here_inside : a.start < high → a.end ≤ high → cut low high xs ≡ left_of low xs ++ trimmed high (from_past high xs)
        → cut low high (a ∷ xs) ≡ left_piece low a ++ trimmed high (from_past high (a ∷ xs))
    here_inside s e rest =
        cut_cons low high a xs
        ∙ rw (pieces low high a n g.nonempty l s, rest, left_none xs o (omega arith), right_no high a e, from_next high a xs e)
        (append_assoc (left_piece low a) [] (trimmed high (from_past high xs)))

    here : cut low high xs ≡ left_of low xs ++ trimmed high (from_past high xs)
        → cut low high (a ∷ xs) ≡ left_piece low a ++ trimmed high (from_past high (a ∷ xs))
    here rest =
        elim (dec_le high a.start) [
          | yes h ↦ here_after h
          | no h ↦ elim (dec_lt high a.end) [ yes e ↦ here_across (omega arith) e | no e ↦ here_inside (omega arith) (omega arith) rest ]
        ]

  -- where all areas start at or past low
  cut_past : {before : ℕ} (xs : List Area) → Ordered space before xs → low ≤ before
      → cut low high xs ≡ left_of low xs ++ trimmed high (from_past high xs)
  unfolding cut flat_map first_where
  cut_past [] o h = refl
  cut_past (a ∷ xs) (one_more g b o) h =
      let l : low < a.end = omega (arith, g.nonempty) in
      here a xs g o l (cut_past xs o (omega arith))

  cut_starts : (a : Area) (xs : List Area) → Good space a → Ordered space a.end xs → low < a.end → cut low high (a ∷ xs) ≡ by_positions low high (a ∷ xs)
  cut_starts a xs g o l = here a xs g o l (cut_past xs o (omega arith)) ∙ rw (first_yes (ends_past low) a xs (past low a l))

  pub cut_is : {before : ℕ} (xs : List Area) → Ordered space before xs → cut low high xs ≡ by_positions low high xs
  unfolding cut flat_map first_where
  cut_is [] o = refl
  cut_is (a ∷ xs) (one_more g b o) =
      elim (dec_le a.end low) [ yes h ↦ cut_skips low high n a xs h (cut_is xs o) | no h ↦ cut_starts a xs g o (omega arith) ]

-- ---- inserting an area where the list was cut

insert_before : (a b : Area) (xs : List Area) → a.start ≤ b.start → insert a (b ∷ xs) ≡ a ∷ b ∷ xs
unfolding insert
insert_before a b xs h = rw (le-leb a.start b.start h)

insert_later : (a b : Area) (xs : List Area) → b.start < a.start → insert a (b ∷ xs) ≡ b ∷ insert a xs
unfolding insert
insert_later a b xs h = rw (lt-leb a.start b.start h)

insert_left : (a b : Area) (low : ℕ) (xs : List Area) → a.start ≡ low → insert a (left_piece low b ++ xs) ≡ left_piece low b ++ insert a xs
insert_left a b low xs e =
    elim (dec_lt b.start low)
    [ yes h ↦ rw (left_yes low b h) (insert_later a (part b b.start low) xs (omega arith)) | no h ↦ rw (left_no low b (omega arith)) ]

insert_trimmed : (a : Area) (high : ℕ) (xs : List Area) → a.start ≤ high → insert a (trimmed high xs) ≡ a ∷ trimmed high xs
unfolding insert
insert_trimmed a high [] h = refl
insert_trimmed a high (b ∷ xs) h =
    elim (dec_lt b.start high) [
      | yes s ↦ rw (trimmed_here high b xs s) (insert_before a (part b high b.end) xs h)
      | no s ↦ rw (trimmed_none high b xs (omega arith)) (insert_before a b xs (omega arith))
    ]

-- the list by positions, with the area between what lies before it and after it
abbrev pub with_between : ℕ → ℕ → Area → List Area → List Area
with_between low high a xs =
    take (first_where (ends_past low) xs) xs
    ++ (left_of low (drop (first_where (ends_past low) xs) xs) ++ (a ∷ trimmed high (drop (first_where (ends_past high) xs) xs)))

module _ (low high : ℕ) (n : low < high) (a : Area) (e : a.start ≡ low) where
  insert_skips : {space : ℕ} (b : Area) (xs : List Area) → Good space b → b.end ≤ low → insert a (by_positions low high xs) ≡ with_between low high a xs
      → insert a (by_positions low high (b ∷ xs)) ≡ with_between low high a (b ∷ xs)
  insert_skips b xs g h rest =
      rw (first_no (ends_past low) b xs (not_past low b h), first_no (ends_past high) b xs (not_past high b (omega arith)))
      (insert_later a b (by_positions low high xs) (omega (arith, g.nonempty)) ∙ ap (λ (ys : List Area). b ∷ ys) rest)

  insert_starts : (b : Area) (xs : List Area) → low < b.end → insert a (by_positions low high (b ∷ xs)) ≡ with_between low high a (b ∷ xs)
  insert_starts b xs l =
      rw (first_yes (ends_past low) b xs (past low b l))
      (insert_left a b low (trimmed high (from_past high (b ∷ xs))) e ∙ ap (λ (ys : List Area). left_piece low b ++ ys) (insert_trimmed a high (from_past high (b ∷ xs)) (omega arith)))

  insert_at : {space before : ℕ} (xs : List Area) → Ordered space before xs → insert a (by_positions low high xs) ≡ with_between low high a xs
  unfolding insert first_where
  insert_at [] o = refl
  insert_at (b ∷ xs) (one_more g c o) =
      elim (dec_le b.end low) [ yes h ↦ insert_skips b xs g h (insert_at xs o) | no h ↦ insert_starts b xs (omega arith) ]

  pub insert_is : {space before : ℕ} (xs : List Area) → Ordered space before xs → insert a (cut low high xs) ≡ with_between low high a xs
  insert_is xs o = ap (insert a) (cut_is low high n xs o) ∙ insert_at xs o

-- ---- a good list stays good

module _ {space : ℕ} (low high : ℕ) (p : low % page_size ≡ 0) (q : high % page_size ≡ 0) where
  -- what is left of an area, before a list that follows it
  right_ordered : {before : ℕ} (a : Area) (xs : List Area) → Good space a → before ≤ high → before ≤ a.end → a.start < high → Ordered space a.end xs
      → Ordered space before (right_piece high a ++ xs)
  right_ordered a xs g b c s o =
      elim (dec_lt high a.end) [
        | yes h ↦ rw (right_yes high a h) (one_more (part_good space a high a.end g (omega arith) h (omega arith) q g.end_aligned) b o)
        | no h ↦ rw (right_no high a (omega arith)) (weaken o c)
      ]

  pieces_ordered : {before : ℕ} (a : Area) (xs : List Area) → Good space a → before ≤ a.start → low < high → low < a.end → a.start < high → Ordered space a.end xs
      → Ordered space before (left_piece low a ++ (right_piece high a ++ xs))
  pieces_ordered a xs g b n l s o =
      elim (dec_lt a.start low) [
        | yes h ↦ rw (left_yes low a h)
            (one_more (part_good space a a.start low g (omega arith) h (omega arith) g.start_aligned p) b
            (right_ordered a xs g (omega arith) (omega arith) s o))
        | no h ↦ rw (left_no low a (omega arith)) (right_ordered a xs g (omega arith) (omega arith) s o)
      ]

  outside_ordered : {before : ℕ} (a : Area) (xs : List Area) → Good space a → before ≤ a.start → Ordered space a.end xs
      → Ordered space before (outside low high a ++ xs)
  outside_ordered a xs g b o =
      elim (dec_lt low high) [
        | no h ↦ rw (whole_empty low high a (omega arith)) (one_more g b o)
        | yes n ↦ elim (dec_lt low a.end) [
          | no h ↦ rw (whole_before low high a (omega arith)) (one_more g b o)
          | yes l ↦ elim (dec_lt a.start high) [
            | no h ↦ rw (whole_after low high a (omega arith)) (one_more g b o)
            | yes s ↦ rw (pieces low high a n g.nonempty l s, append_assoc (left_piece low a) (right_piece high a) xs) (pieces_ordered a xs g b n l s o)
          ]
        ]
      ]

  pub cut_ordered : {before : ℕ} (xs : List Area) → Ordered space before xs → Ordered space before (cut low high xs)
  unfolding cut flat_map
  cut_ordered [] o = none_left
  cut_ordered (a ∷ xs) (one_more g b o) = outside_ordered a (cut low high xs) g b (cut_ordered xs o)

or_left : (a b : Bool) → (a || b) ≡ false → a ≡ false
or_left true b e = e
or_left false b e = refl

or_right : (a b : Bool) → (a || b) ≡ false → b ≡ false
or_right true true e = e
or_right true false e = refl
or_right false b e = e

-- two ranges with no address in common lie one after the other
apart_after : (low high : ℕ) (a : Area) → low < high → a.start < a.end → shares low high a ≡ false → low < a.end → high ≤ a.start
apart_after low high a n e c l =
    elim (dec_le high a.start) [ yes h ↦ h | no h ↦ absurd (true≢false (sym (shares_yes low high a n e l (omega arith)) ∙ c)) ]

apart_before : (low high : ℕ) (a : Area) → low < high → a.start < a.end → shares low high a ≡ false → a.start < high → a.end ≤ low
apart_before low high a n e c s =
    elim (dec_le a.end low) [ yes h ↦ h | no h ↦ absurd (true≢false (sym (shares_yes low high a n e (omega arith) s) ∙ c)) ]

-- an area that no area of the list meets goes in between
pub insert_ordered : {space before : ℕ} (a : Area) (xs : List Area) → Ordered space before xs → Good space a → before ≤ a.start
    → shares_any a.start a.end xs ≡ false → Ordered space before (insert a xs)
unfolding insert shares_any
insert_ordered a [] o g h c = one_more g h none_left
insert_ordered a (b ∷ xs) (one_more k d o) g h c =
    elim (dec_le a.start b.start) [
      | yes l ↦ rw (le-leb a.start b.start l) (one_more g h (one_more k (clear_after l) o))
      | no l ↦ rw (lt-leb a.start b.start (omega arith)) (one_more k d (insert_ordered a xs o g (clear_before (omega arith)) (or_right (shares a.start a.end b) (shares_any a.start a.end xs) c)))
    ]
  where
    alone : shares a.start a.end b ≡ false
    alone = or_left (shares a.start a.end b) (shares_any a.start a.end xs) c

    clear_after : a.start ≤ b.start → a.end ≤ b.start
    clear_after l = apart_after a.start a.end b g.nonempty k.nonempty alone (omega (arith, k.nonempty))

    clear_before : b.start < a.start → b.end ≤ a.start
    clear_before l = apart_before a.start a.end b g.nonempty k.nonempty alone (omega (arith, g.nonempty))

-- ---- what is left meets the range no more, and a list that does not meet it stays

any_append : (low high : ℕ) (xs ys : List Area) → shares_any low high xs ≡ false → shares_any low high ys ≡ false → shares_any low high (xs ++ ys) ≡ false
unfolding shares_any
any_append low high [] ys e f = f
any_append low high (a ∷ xs) ys e f =
    rw (or_left (shares low high a) (shares_any low high xs) e) (any_append low high xs ys (or_right (shares low high a) (shares_any low high xs) e) f)

any_one : (low high : ℕ) (a : Area) → shares low high a ≡ false → shares_any low high (a ∷ []) ≡ false
unfolding shares_any
any_one low high a e = rw e

left_clear : (low high : ℕ) (a : Area) → shares_any low high (left_piece low a) ≡ false
unfolding shares_any
left_clear low high a =
    elim (dec_lt a.start low) [
      | yes h ↦ rw (left_yes low a h) (any_one low high (part a a.start low) (shares_before low high (part a a.start low) (omega arith)))
      | no h ↦ rw (left_no low a (omega arith))
    ]

right_clear : (low high : ℕ) (a : Area) → shares_any low high (right_piece high a) ≡ false
unfolding shares_any
right_clear low high a =
    elim (dec_lt high a.end) [
      | yes h ↦ rw (right_yes high a h) (any_one low high (part a high a.end) (shares_after low high (part a high a.end) (omega arith)))
      | no h ↦ rw (right_no high a (omega arith))
    ]

outside_clear : (low high : ℕ) (a : Area) (b : Bool) → shares low high a ≡ b → shares_any low high (outside low high a) ≡ false
unfolding outside
outside_clear low high a true e = rw e (any_append low high (left_piece low a) (right_piece high a) (left_clear low high a) (right_clear low high a))
outside_clear low high a false e = rw e (any_one low high a e)

pub cut_clear : (low high : ℕ) (xs : List Area) → shares_any low high (cut low high xs) ≡ false
unfolding cut flat_map shares_any
cut_clear low high [] = refl
cut_clear low high (a ∷ xs) = any_append low high (outside low high a) (cut low high xs) (outside_clear low high a (shares low high a) refl) (cut_clear low high xs)

pub cut_same : (low high : ℕ) (xs : List Area) → shares_any low high xs ≡ false → cut low high xs ≡ xs
unfolding cut flat_map shares_any outside
cut_same low high [] e = refl
cut_same low high (a ∷ xs) e =
    rw (or_left (shares low high a) (shares_any low high xs) e, cut_same low high xs (or_right (shares low high a) (shares_any low high xs) e))
