-- How many areas a change leaves, and that they can be stored where the old ones could: a cut adds at most one area, an insertion
-- one, a protect at most two. Assumes nothing.
use Prim.Native.Nat.{ℕ, suc, ◌+◌, ◌≤◌}
use mathlib.Core.Path.{◌≡◌, refl, ap}
use mathlib.Core.List.{List, [], ◌∷◌, ◌++◌, flat_map, append_assoc}
use native.Mathlib.Omega.{arith}
use native.Mathlib.Decide.{dec_lt, dec_le}
use lib.ListN.{length, length-append}
use borrow.Author.Tests.{le-leb, lt-leb}
use Rattle.lists.proofs.Every.{by_test}
use Rattle.area.specs.Area.{part}
use Rattle.area.specs.declared.Area.{Area}
use Rattle.area_list.specs.Meet.{shares}
use Rattle.area_list.specs.Position.{first_where}
use Rattle.area_list.specs.Store.{Storable}
use Rattle.area_list.proofs.Ordered.{Ordered, one_more}
use Rattle.area_list.proofs.Stores.{part_storable}
use Rattle.effects.specs.Lists.{left_piece, right_piece, outside, cut, insert, protect}
use Rattle.effects.proofs.Cutting.{left_no, left_yes, right_no, right_yes, cut_after}
use Rattle.effects.proofs.Protecting.{cuts_at, split_at, length_protect, protect_empty, AllStorable, storable_more, storable_rest}
use Rattle.protection.proofs.Splits.{length_none, length_one}

-- ---- a cut

left_one : (low : ℕ) (a : Area) → length (left_piece low a) ≤ 1
left_one low a =
    elim (dec_lt a.start low) [ yes h ↦ rw (left_yes low a h) (omega arith) | no h ↦ rw (left_no low a (omega arith)) (omega arith) ]

right_one : (high : ℕ) (a : Area) → length (right_piece high a) ≤ 1
right_one high a =
    elim (dec_lt high a.end) [ yes h ↦ rw (right_yes high a h) (omega arith) | no h ↦ rw (right_no high a (omega arith)) (omega arith) ]

outside_two : (low high : ℕ) (a : Area) → length (outside low high a) ≤ 2
unfolding outside
outside_two low high a =
    by_test (shares low high a)
    (λ e. rw (e, length-append (left_piece low a) (right_piece high a)) (omega (arith, left_one low a, right_one high a)))
    (λ e. rw e (omega arith))

-- only an area that goes on past the range becomes two
outside_one : (low high : ℕ) (a : Area) → a.end ≤ high → length (outside low high a) ≤ 1
unfolding outside
outside_one low high a h =
    by_test (shares low high a)
    (λ e. rw (e, length-append (left_piece low a) (right_piece high a), right_no high a h) (omega (arith, left_one low a)))
    (λ e. rw e (omega arith))

pub length_cut : {space before : ℕ} (low high : ℕ) (xs : List Area) → Ordered space before xs → length (cut low high xs) ≤ suc (length xs)
unfolding cut flat_map
length_cut low high [] o = omega arith
length_cut low high (a ∷ xs) (one_more g b o) =
    rw (length-append (outside low high a) (cut low high xs))
    (elim (dec_le a.end high) [
      | yes h ↦ omega (arith, outside_one low high a h, length_cut low high xs o)
      | no h ↦ rw (cut_after low high xs o (omega arith)) (omega (arith, outside_two low high a))
    ])

-- ---- an insertion

pub length_insert : (a : Area) (xs : List Area) → length (insert a xs) ≡ suc (length xs)
unfolding insert
length_insert a [] = refl
length_insert a (b ∷ xs) =
    elim (dec_le a.start b.start) [
      | yes l ↦ rw (le-leb a.start b.start l)
      | no l ↦ rw (lt-leb a.start b.start (omega arith)) (ap suc (length_insert a xs))
    ]

-- ---- a protect

length_split : {space before : ℕ} (set clear at : ℕ) (xs : List Area) → Ordered space before xs → length (split_at set clear at xs) ≤ length xs + 1
length_split set clear at xs o =
    elim (dec_lt (first_where (cuts_at set clear at) xs) (length xs)) [
      | yes h ↦ omega (arith, length_one set clear at xs o (first_where (cuts_at set clear at) xs) refl h)
      | no h ↦ omega (arith, length_none set clear at xs (first_where (cuts_at set clear at) xs) refl (omega arith))
    ]

pub length_protected : {space before : ℕ} (low high set clear : ℕ) (xs : List Area) → Ordered space before xs
    → length (protect low high set clear xs) ≤ length xs + 2
length_protected low high set clear xs o =
    elim (dec_lt low high) [
      | yes n ↦ omega (arith, length_protect low high set clear n xs o, length_split set clear low xs o, length_split set clear high xs o)
      | no n ↦ rw (protect_empty low high set clear xs (omega arith)) (omega arith)
    ]

-- ---- storable

left_storable : (low : ℕ) (a : Area) (xs : List Area) → Storable a → AllStorable xs → AllStorable (left_piece low a ++ xs)
left_storable low a xs s all =
    elim (dec_lt a.start low) [
      | yes h ↦ rw (left_yes low a h) (storable_more (part a a.start low) xs (part_storable a.start low s) all)
      | no h ↦ rw (left_no low a (omega arith)) all
    ]

right_storable : (high : ℕ) (a : Area) (xs : List Area) → Storable a → AllStorable xs → AllStorable (right_piece high a ++ xs)
right_storable high a xs s all =
    elim (dec_lt high a.end) [
      | yes h ↦ rw (right_yes high a h) (storable_more (part a high a.end) xs (part_storable high a.end s) all)
      | no h ↦ rw (right_no high a (omega arith)) all
    ]

outside_storable : (low high : ℕ) (a : Area) (xs : List Area) → Storable a → AllStorable xs → AllStorable (outside low high a ++ xs)
unfolding outside
outside_storable low high a xs s all =
    by_test (shares low high a)
    (λ e. rw (e, append_assoc (left_piece low a) (right_piece high a) xs) (left_storable low a (right_piece high a ++ xs) s (right_storable high a xs s all)))
    (λ e. rw e (storable_more a xs s all))

pub cut_storable : (low high : ℕ) (xs : List Area) → AllStorable xs → AllStorable (cut low high xs)
unfolding cut flat_map
cut_storable low high [] all = all
cut_storable low high (a ∷ xs) all =
    outside_storable low high a (cut low high xs) (all 0 (omega arith)) (cut_storable low high xs (storable_rest a xs all))

pub insert_storable : (a : Area) (xs : List Area) → Storable a → AllStorable xs → AllStorable (insert a xs)
unfolding insert
insert_storable a [] s all = storable_more a [] s all
insert_storable a (b ∷ xs) s all =
    elim (dec_le a.start b.start) [
      | yes l ↦ rw (le-leb a.start b.start l) (storable_more a (b ∷ xs) s all)
      | no l ↦ rw (lt-leb a.start b.start (omega arith))
          (storable_more b (insert a xs) (all 0 (omega arith)) (insert_storable a xs s (storable_rest b xs all)))
    ]
