-- Laws of the areas that meet a range: how a walk over the slots comes by them, and that they are all that an effect on the range needs.
-- Assumes nothing.
use Prim.Native.Nat.{ℕ, ◌+◌, ◌≤◌, ◌<◌}
use mathlib.Core.Path.{◌≡◌, refl, sym, ◌∙◌}
use mathlib.Core.List.{List, [], ◌∷◌}
use native.Mathlib.Omega.{arith}
use native.Mathlib.Nat.{le_refl}
use native.Mathlib.Decide.{dec_lt}
use lib.ListN.{length, get_or, drop, drop_of_length-le}
use borrow.Author.Tests.{lt-ltb, le-ltb}
use Rattle.std.specs.Prelude.{Option, Some, None}
use Rattle.std.specs.Iterator.{Yields, YieldsFirst}
use Rattle.std.proofs.lemmas.Iterator.Consumers.{YieldsList-from_first, YieldsList-turn, YieldsList-end}
use Rattle.std.proofs.lemmas.List.{get_or_default}
use Rattle.area.specs.Area.{nothing}
use Rattle.area.specs.declared.Area.{Area}
use Rattle.area_list.specs.Position.{first_where, ends_past}
use Rattle.area_list.proofs.Ordered.{Ordered, none_left, one_more, weaken, ordered_from}
use Rattle.effects.specs.Pages.{in_areas}
use Rattle.effects.proofs.Paging.{none_in, one_in, from_in}
use Rattle.effects.proofs.Sweeping.{from_slot}
use Rattle.wipes.specs.Meeting.{until, meeting}

-- ---- one step of a walk

module _ (high : ℕ) (xs : List Area) (slot : ℕ) where
  pub until_ends : length xs ≤ slot → until high (drop slot xs) ≡ []
  unfolding until
  until_ends h = rw (drop_of_length-le xs h)

  module _ (a : Area) (e : a ≡ get_or xs slot nothing) (l : slot < length xs) where
    pub until_stops : high ≤ a.start → until high (drop slot xs) ≡ []
    unfolding until
    until_stops h = rw (from_slot xs slot l, ← e, le-ltb a.start high h)

    pub until_more : a.start < high → until high (drop slot xs) ≡ a ∷ until high (drop (slot + 1) xs)
    unfolding until
    until_more h = rw (from_slot xs slot l, ← e, lt-ltb a.start high h)

-- ---- an effect on the range

drop_ordered : {space : ℕ} (xs : List Area) → Ordered space 0 xs → (i : ℕ) → Ordered space 0 (drop i xs)
drop_ordered xs o i =
    elim (dec_lt i (length xs)) [
      | yes h ↦ weaken (ordered_from o i h) (omega arith)
      | no h ↦ let l : length xs ≤ i = omega arith in rw (drop_of_length-le xs l) none_left
    ]

module _ {space : ℕ} (high : ℕ) where
  pub until_ordered : {before : ℕ} (xs : List Area) → Ordered space before xs → Ordered space before (until high xs)
  unfolding until
  until_ordered [] o = none_left
  until_ordered (a ∷ xs) (one_more g b o) =
      elim (dec_lt a.start high) [
        | yes h ↦ rw (lt-ltb a.start high h) (one_more g b (until_ordered xs o))
        | no h ↦ let l : high ≤ a.start = omega arith in rw (le-ltb a.start high l) none_left
      ]

  -- areas that start at or past its end may be left out
  in_until : (f : Area → ℕ → ℕ → ℕ) (low : ℕ) {before : ℕ} (xs : List Area) → Ordered space before xs → (pages : List ℕ)
      → in_areas f (until high xs) low high pages ≡ in_areas f xs low high pages
  unfolding until
  in_until f low [] o pages = refl
  in_until f low {before = before} (a ∷ xs) (one_more g b o) pages =
      elim (dec_lt a.start high) [
        | yes h ↦ rw (lt-ltb a.start high h)
            (one_in f a (until high xs) low high pages (until_ordered xs o) ∙ in_until f low {before = a.end} xs o _
            ∙ sym (one_in f a xs low high pages o))
        | no h ↦ let l : high ≤ a.start = omega arith in
            rw (le-ltb a.start high l) (none_in f {space = space} {before = high} [] low high pages none_left (le_refl high)
            ∙ sym (none_in f (a ∷ xs) low high pages (one_more g (le_refl a.start) o) l))
      ]

module _ {space : ℕ} (low high : ℕ) (xs : List Area) (o : Ordered space 0 xs) where
  pub meeting_ordered : Ordered space 0 (meeting low high xs)
  meeting_ordered = until_ordered high (drop (first_where (ends_past low) xs) xs) (drop_ordered xs o (first_where (ends_past low) xs))

  -- an effect on the pages of the range needs no other area
  pub in_meeting : (f : Area → ℕ → ℕ → ℕ) (pages : List ℕ) → in_areas f (meeting low high xs) low high pages ≡ in_areas f xs low high pages
  in_meeting f pages =
      in_until high f low (drop (first_where (ends_past low) xs) xs) (drop_ordered xs o (first_where (ends_past low) xs)) pages
      ∙ sym (from_in f xs low high pages)

-- ---- a loop over the areas that meet a range

-- the area of a turn is the next one
module _ (left all xs left' : List Area) (e : left ≡ all) (y : Yields (YieldsFirst (λ (rest : List Area). rest)) left xs left') where
  pub turn : (r : Option Area) (u : List Area) (a : Area) → r ≡ Some a → YieldsFirst (λ (rest : List Area). rest) left' r u
      → (length xs < length all) × (a ≡ get_or all (length xs) nothing)
  turn r u a is p =
      let t = YieldsList-turn (YieldsList-from_first (λ (x : Area). x) (λ (rest : List Area). rest) all e) xs left' y r u a is p in
      (t.0, t.1 ∙ get_or_default all (length xs) a nothing t.0)

  -- where there is none, it was the last
  pub last_turn : (r : Option Area) (u : List Area) → r ≡ None → YieldsFirst (λ (rest : List Area). rest) left' r u → length all ≤ length xs
  last_turn r u is p =
      let t = YieldsList-end (YieldsList-from_first (λ (x : Area). x) (λ (rest : List Area). rest) all e) xs left' y r u is p in
      omega (arith, t.1)
