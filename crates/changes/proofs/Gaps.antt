-- Laws of gaps: what a range leaves of the areas at its ends, and the whole list around a gap. Assumes nothing.
use Prim.Native.Nat.{ℕ, ◌+◌, ◌≤◌, ◌<◌}
use mathlib.Core.Path.{◌≡◌, refl, sym}
use mathlib.Core.Bool.{true, false}
use mathlib.Core.List.{List, [], ◌∷◌, ◌++◌, append_assoc}
use native.Mathlib.Omega.{arith}
use native.Mathlib.Decide.{dec_le, dec_lt}
use native.Mathlib.Nat.{add-zero}
use lib.ListN.{length, get_or, drop, drop_of_length-le}
use borrow.Author.Tests.{lt-ltb, le-ltb}
use Rattle.std.specs.Prelude.{Option, Some, None}
use Rattle.std.specs.Option.{is_some, option_map}
use Rattle.area.specs.Area.{part, nothing}
use Rattle.area.specs.declared.Area.{Area}
use Rattle.area_list.specs.Store.{spliced}
use Rattle.slots.specs.Splice.{parts_of}
use Rattle.area_list.specs.Position.{first_where, ends_past}
use Rattle.area_list.proofs.Ordered.{Ordered}
use Rattle.area_list.proofs.Positions.{first, ended, not_ended}
use Rattle.effects.specs.Lists.{cut, insert}
use Rattle.effects.proofs.Cutting.{left_of, trimmed_here, trimmed_none, cut_is, insert_is}
use Rattle.changes.specs.Gap.{first_before, piece_of, taken, RightOf, Cuts}
use Rattle.changes.specs.declared.Gap.{Gap}
use Rattle.effects.proofs.Sweeping.{from_slot}

-- ---- the areas at the ends of the range

-- the area at a slot, if it starts before an address
pub none_before : (xs : List Area) (slot address : ℕ) → length xs ≤ slot → None ≡ first_before address (drop slot xs)
none_before xs slot address h = rw (drop_of_length-le xs h)

module _ (xs : List Area) (slot address : ℕ) (l : slot < length xs) (a : Area) (at : a ≡ get_or xs slot nothing) where
  pub starts_before : a.start < address → Some a ≡ first_before address (drop slot xs)
  starts_before h = rw (from_slot xs slot l, ← at, lt-ltb a.start address h)

-- what it has before the address
before_address : (xs : List Area) (address : ℕ)
    → piece_of (option_map (λ a. part a a.start address) (first_before address xs)) ≡ left_of address xs
before_address [] address = refl
before_address (a ∷ xs) address =
    elim (dec_lt a.start address) [ yes h ↦ rw (lt-ltb a.start address h) | no h ↦ rw (le-ltb a.start address (omega arith)) ]

-- and from there on
from_address : (xs : List Area) (slot address : ℕ)
    → RightOf xs slot address (option_map (λ a. part a address a.end) (first_before address (drop slot xs)))
from_address xs slot address =
    elim (dec_lt slot (length xs)) [
      | no h ↦ rw (drop_of_length-le xs {i = slot} (omega arith))
          (record { trims = rw (add-zero slot, drop_of_length-le xs {i = slot} (omega arith)); inside = λ m. rw (add-zero slot) m })
      | yes l ↦ rw (from_slot xs slot l) (here (get_or xs slot nothing) (from_slot xs slot l) l)
    ]
  where
    here : (a : Area) → drop slot xs ≡ a ∷ drop (slot + 1) xs → slot < length xs
        → RightOf xs slot address (option_map (λ b. part b address b.end) (first_before address (a ∷ drop (slot + 1) xs)))
    here a at l =
        elim (dec_lt a.start address) [
          | yes h ↦ rw (lt-ltb a.start address h)
              (record { trims = rw at (sym (trimmed_here address a (drop (slot + 1) xs) h)); inside = λ m. omega arith })
          | no h ↦ rw (le-ltb a.start address (omega arith))
              (record {
                trims = rw (add-zero slot, at) (sym (trimmed_none address a (drop (slot + 1) xs) (omega arith)));
                inside = λ m. rw (add-zero slot) m;
              })
        ]

-- ---- the gap

-- an area that ends past the range's end comes no earlier than the first that ends past its start
pub gap_ordered : (xs : List Area) (low high : ℕ) → low < high → first_where (ends_past low) xs ≤ first_where (ends_past high) xs
gap_ordered xs low high n =
    elim (dec_le i k) [
      | yes h ↦ h
      | no h ↦ absurd (let f = ended xs low i refl k (omega arith) in
          let p = not_ended xs high k refl (omega (arith, (first (ends_past low) xs).in_list)) in
          omega arith)
    ]
  where
    i : ℕ
    i = first_where (ends_past low) xs

    k : ℕ
    k = first_where (ends_past high) xs

pub one_taken : (p : Option Area) → is_some p ≡ true → taken p ≡ 1
one_taken p e = rw e

pub none_taken : (p : Option Area) → is_some p ≡ false → taken p ≡ 0
none_taken p e = rw e

module _ (xs : List Area) (high upto : ℕ) (k : upto ≡ first_where (ends_past high) xs) (right : Option Area)
    (r : right ≡ option_map (λ a. part a high a.end) (first_before high (drop upto xs))) where
  right_of : RightOf xs upto high right
  right_of = rw r (from_address xs upto high)

  pub past_inside : upto + taken right ≤ length xs
  past_inside = right_of.inside (rw k (first (ends_past high) xs).in_list)

pub gap_is : (xs : List Area) (low high from upto : ℕ) → low < high
    → from ≡ first_where (ends_past low) xs → upto ≡ first_where (ends_past high) xs
    → (left right : Option Area) → left ≡ option_map (λ a. part a a.start low) (first_before low (drop from xs))
    → right ≡ option_map (λ a. part a high a.end) (first_before high (drop upto xs))
    → (past : ℕ) → past ≡ upto + taken right → Cuts xs low high (record { low = from; high = past; left = left; right = right })
gap_is xs low high from upto n i k left right l r past e =
    record {
      low_is = i;
      left_is = rw l (before_address (drop from xs) low);
      right_is = rw (e, ← k) (right_of xs high upto k right r).trims;
      ordered = omega (arith, gap_ordered xs low high n);
      inside = rw e (past_inside xs high upto k right r);
    }

-- ---- the list around a gap

-- a part that goes in before others
first_part : (p : Option Area) (ps : List (Option Area)) → parts_of (p ∷ ps) ≡ piece_of p ++ parts_of ps
first_part None ps = refl
first_part (Some a) ps = refl

pub both_sides : (left right : Option Area) → parts_of (left ∷ right ∷ []) ≡ piece_of left ++ piece_of right
both_sides left right = first_part left (right ∷ [])

pub sides_around : (a : Area) (left right : Option Area) → parts_of (left ∷ Some a ∷ right ∷ []) ≡ piece_of left ++ (a ∷ piece_of right)
sides_around a left right = first_part left (Some a ∷ right ∷ [])

module _ {space before : ℕ} (xs : List Area) (low high : ℕ) (o : Ordered space before xs) (n : low < high)
    (g : Gap) (c : Cuts xs low high g) (parts : List (Option Area)) where
  -- without what the range cuts out
  pub gap_cut : parts_of parts ≡ piece_of g.left ++ piece_of g.right → spliced xs g.low g.high (parts_of parts) ≡ cut low high xs
  gap_cut e =
      rw (e, append_assoc (piece_of g.left) (piece_of g.right) (drop g.high xs), c.right_is, c.left_is, c.low_is)
      (sym (cut_is low high n xs o))

  -- with an area in its place
  pub gap_insert : (a : Area) → a.start ≡ low → parts_of parts ≡ piece_of g.left ++ (a ∷ piece_of g.right)
      → spliced xs g.low g.high (parts_of parts) ≡ insert a (cut low high xs)
  gap_insert a s e =
      rw (e, append_assoc (piece_of g.left) (a ∷ piece_of g.right) (drop g.high xs), c.right_is, c.left_is, c.low_is)
      (sym (insert_is low high n a s xs o))
