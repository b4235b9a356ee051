-- Laws of protect: what becomes of each area, the three steps that make it (two splits and the new flags), how many areas the list
-- gets, and that a good list stays good. Assumes nothing.
use Prim.Native.Nat.{ℕ, zero, suc, ◌+◌, ◌-◌, ◌^◌, ◌%◌, ◌≤◌, ◌<◌, min, max}
use mathlib.Core.Path.{◌≡◌, refl, sym, ap, ◌∙◌}
use mathlib.Core.Bool.{Bool, true, false, ◌&&◌, cond, and-false, true≢false}
use mathlib.Core.List.{List, [], ◌∷◌, ◌++◌, map, flat_map, map-append, append_assoc, append-nil}
use native.Mathlib.Omega.{arith}
use native.Mathlib.Decide.{dec_lt, dec_le}
use native.Mathlib.Nat.{le_refl}
use lib.Dec.{leb, ltb, eqb}
use lib.Bits.{bit_and, bit_or, and_le_r, or_lt}
use lib.ListN.{length, get_or, length-append, length-map}
use borrow.Author.Tests.{lt-ltb, le-ltb, le-leb, lt-leb, eqb-true, not-false}
use Rattle.lists.proofs.Every.{by_test}
use Rattle.page_table.specs.Limits.{page_size, max_flags}
use Rattle.area.specs.Area.{part, nothing}
use Rattle.area.specs.declared.Area.{Area}
use Rattle.area.proofs.Areas.{Good, part_good}
use Rattle.area_list.specs.Meet.{shares}
use Rattle.area_list.specs.Store.{Storable}
use Rattle.area_list.proofs.Ordered.{Ordered, none_left, one_more}
use Rattle.area_list.proofs.Stores.{part_storable}
use Rattle.area_list.proofs.Meets.{shares_yes, shares_before, shares_after, shares_nothing}
use Rattle.effects.specs.Lists.{left_piece, right_piece, new_flags, changes, with_flags, protected, protect}
use Rattle.effects.proofs.Cutting.{left_no, left_yes, right_no, right_yes}

-- ---- flags

pub flags_few : (set clear old : ℕ) → set ≤ max_flags → new_flags set clear old ≤ max_flags
unfolding new_flags
flags_few set clear old s =
    let kept : bit_and old (max_flags - clear) ≤ max_flags - clear = and_le_r old (max_flags - clear) in
    let few : bit_or (bit_and old (max_flags - clear)) set < 2 ^ 4 = or_lt 4 (bit_and old (max_flags - clear)) set (omega arith) (omega arith) in
    omega arith

-- an area that does not change has its new flags
pub same_flags : (set clear : ℕ) (a : Area) → changes set clear a ≡ false → new_flags set clear a.flags ≡ a.flags
unfolding changes
same_flags set clear a e = eqb-true (new_flags set clear a.flags) a.flags (not-false (eqb (new_flags set clear a.flags) a.flags) e)

-- ---- one area

module _ (low high set clear : ℕ) (a : Area) where
  -- an area that the range does not meet, or that does not change, is the area alone
  pub kept_apart : shares low high a ≡ false → protected low high set clear a ≡ a ∷ []
  unfolding protected
  kept_apart e = rw e

  pub kept_same : changes set clear a ≡ false → protected low high set clear a ≡ a ∷ []
  unfolding protected
  kept_same e = rw (e, and-false (shares low high a))

  -- its pieces otherwise
  pub protect_pieces : low < high → a.start < a.end → low < a.end → a.start < high → changes set clear a ≡ true
      → protected low high set clear a
      ≡ left_piece low a ++ (with_flags (new_flags set clear a.flags) (part a (max low a.start) (min high a.end)) ∷ right_piece high a)
  unfolding protected
  protect_pieces n e l s c = rw (shares_yes low high a n e l s, c)

pub protect_empty : (low high set clear : ℕ) (xs : List Area) → high ≤ low → protect low high set clear xs ≡ xs
unfolding protect flat_map
protect_empty low high set clear [] h = refl
protect_empty low high set clear (a ∷ xs) h =
    rw (kept_apart low high set clear a (shares_nothing low high a h), protect_empty low high set clear xs h)

-- ---- the steps: an area that changes and has an address strictly inside is split there

unfoldable pub cuts_at : ℕ → ℕ → ℕ → Area → Bool
cuts_at set clear at a = (ltb a.start at && ltb at a.end) && changes set clear a

abbrev pub halves : ℕ → Area → List Area
halves at a = part a a.start at ∷ part a at a.end ∷ []

unfoldable pub halved : ℕ → ℕ → ℕ → Area → List Area
halved set clear at a = cond (cuts_at set clear at a) (halves at a) (a ∷ [])

unfoldable pub split_at : ℕ → ℕ → ℕ → List Area → List Area
split_at set clear at xs = flat_map (halved set clear at) xs

-- and one that lies in the range gets its new flags
unfoldable pub flagged : ℕ → ℕ → ℕ → ℕ → Area → Area
flagged low high set clear a = cond (leb low a.start && leb a.end high) (with_flags (new_flags set clear a.flags) a) a

module _ (set clear at : ℕ) (a : Area) where
  pub cuts_yes : a.start < at → at < a.end → changes set clear a ≡ true → cuts_at set clear at a ≡ true
  unfolding cuts_at
  cuts_yes s e c = rw (lt-ltb a.start at s, lt-ltb at a.end e, c)

  pub cuts_after : at ≤ a.start → cuts_at set clear at a ≡ false
  unfolding cuts_at
  cuts_after h = rw (le-ltb a.start at h)

  pub cuts_before : a.end ≤ at → cuts_at set clear at a ≡ false
  unfolding cuts_at
  cuts_before h = rw (le-ltb at a.end h, and-false (ltb a.start at))

  pub cuts_same : changes set clear a ≡ false → cuts_at set clear at a ≡ false
  unfolding cuts_at
  cuts_same e = rw (e, and-false (ltb a.start at && ltb at a.end))

  pub cuts_end : cuts_at set clear at a ≡ true → at < a.end
  cuts_end c = elim (dec_lt at a.end) [ yes e ↦ e | no e ↦ absurd (true≢false (sym c ∙ cuts_before (omega arith))) ]

  pub halved_no : cuts_at set clear at a ≡ false → halved set clear at a ≡ a ∷ []
  unfolding halved
  halved_no e = rw e

  pub halved_yes : cuts_at set clear at a ≡ true → halved set clear at a ≡ halves at a
  unfolding halved
  halved_yes e = rw e

module _ (low high set clear : ℕ) (a : Area) where
  pub flagged_in : low ≤ a.start → a.end ≤ high → flagged low high set clear a ≡ with_flags (new_flags set clear a.flags) a
  unfolding flagged
  flagged_in s e = rw (le-leb low a.start s, le-leb a.end high e)

  pub flagged_left : a.start < low → flagged low high set clear a ≡ a
  unfolding flagged
  flagged_left h = rw (lt-leb low a.start h)

  pub flagged_right : high < a.end → flagged low high set clear a ≡ a
  unfolding flagged
  flagged_right h = rw (lt-leb a.end high h, and-false (leb low a.start))

  flagged_same : changes set clear a ≡ false → flagged low high set clear a ≡ a
  flagged_same c =
      elim (dec_lt a.start low) [
        | yes h ↦ flagged_left h
        | no h ↦ elim (dec_lt high a.end) [
          | yes e ↦ flagged_right e
          | no e ↦ flagged_in (omega arith) (omega arith) ∙ ap (λ (flags : ℕ). with_flags flags a) (same_flags set clear a c)
        ]
      ]

  -- it starts and ends where it did
  pub flagged_start : (flagged low high set clear a).start ≡ a.start
  unfolding flagged
  flagged_start = by_test (leb low a.start && leb a.end high) (λ e. rw e) (λ e. rw e)

  pub flagged_end : (flagged low high set clear a).end ≡ a.end
  unfolding flagged
  flagged_end = by_test (leb low a.start && leb a.end high) (λ e. rw e) (λ e. rw e)

split_nil : (set clear at : ℕ) → split_at set clear at [] ≡ []
unfolding split_at flat_map
split_nil set clear at = refl

pub split_cons : (set clear at : ℕ) (a : Area) (xs : List Area) → split_at set clear at (a ∷ xs) ≡ halved set clear at a ++ split_at set clear at xs
unfolding split_at flat_map
split_cons set clear at a xs = refl

split_append : (set clear at : ℕ) (xs ys : List Area) → split_at set clear at (xs ++ ys) ≡ split_at set clear at xs ++ split_at set clear at ys
unfolding split_at flat_map
split_append set clear at [] ys = refl
split_append set clear at (a ∷ xs) ys =
    rw (split_append set clear at xs ys, append_assoc (halved set clear at a) (split_at set clear at xs) (split_at set clear at ys))

-- what the steps make of a list that has been split at high
abbrev from_high : ℕ → ℕ → ℕ → ℕ → List Area → List Area
from_high low high set clear xs = map (flagged low high set clear) (split_at set clear low xs)

module _ (low high set clear : ℕ) (n : low < high) (a : Area) where
  -- split nowhere
  whole : cuts_at set clear low a ≡ false → cuts_at set clear high a ≡ false → split_at set clear low (halved set clear high a) ≡ a ∷ []
  unfolding split_at flat_map
  whole p q = rw (halved_no set clear high a q, halved_no set clear low a p)

  module _ (c : changes set clear a ≡ true) (e : a.start < a.end) where
    -- [   range   ]
    --    [ area ]
    steps_inside : low ≤ a.start → a.end ≤ high → protected low high set clear a ≡ from_high low high set clear (halved set clear high a)
    steps_inside s t =
        let first : max low a.start ≡ a.start = omega arith in
        let last : min high a.end ≡ a.end = omega arith in
        protect_pieces low high set clear a n e (omega arith) (omega arith) c
        ∙ rw (
          whole (cuts_after set clear low a s) (cuts_before set clear high a t),
          flagged_in low high set clear a s t,
          left_no low a s,
          right_no high a t,
          first,
          last,
        )

    --    [ range ]
    -- [ left | in ]
    steps_left : a.start < low → low < a.end → a.end ≤ high
        → protected low high set clear a ≡ from_high low high set clear (halved set clear high a)
    unfolding split_at flat_map changes
    steps_left s l t =
        let first : max low a.start ≡ low = omega arith in
        let last : min high a.end ≡ a.end = omega arith in
        protect_pieces low high set clear a n e l (omega arith) c
        ∙ rw (
          halved_no set clear high a (cuts_before set clear high a t),
          halved_yes set clear low a (cuts_yes set clear low a s l c),
          flagged_left low high set clear (part a a.start low) s,
          flagged_in low high set clear (part a low a.end) (omega arith) t,
          left_yes low a s,
          right_no high a t,
          first,
          last,
        )

    -- [ range ]
    --    [ in | right ]
    steps_right : low ≤ a.start → a.start < high → high < a.end
        → protected low high set clear a ≡ from_high low high set clear (halved set clear high a)
    unfolding split_at flat_map changes
    steps_right s r t =
        let first : max low a.start ≡ a.start = omega arith in
        let last : min high a.end ≡ high = omega arith in
        protect_pieces low high set clear a n e (omega arith) r c
        ∙ rw (
          halved_yes set clear high a (cuts_yes set clear high a r t c),
          halved_no set clear low (part a a.start high) (cuts_after set clear low (part a a.start high) s),
          halved_no set clear low (part a high a.end) (cuts_after set clear low (part a high a.end) (omega arith)),
          flagged_in low high set clear (part a a.start high) s (omega arith),
          flagged_right low high set clear (part a high a.end) t,
          left_no low a s,
          right_yes high a t,
          first,
          last,
        )

    --        [ range ]
    -- [ left |  in   | right ]
    steps_around : a.start < low → high < a.end
        → protected low high set clear a ≡ from_high low high set clear (halved set clear high a)
    unfolding split_at flat_map changes
    steps_around s t =
        let first : max low a.start ≡ low = omega arith in
        let last : min high a.end ≡ high = omega arith in
        protect_pieces low high set clear a n e (omega arith) (omega arith) c
        ∙ rw (
          halved_yes set clear high a (cuts_yes set clear high a (omega arith) t c),
          halved_yes set clear low (part a a.start high) (cuts_yes set clear low (part a a.start high) s n c),
          halved_no set clear low (part a high a.end) (cuts_after set clear low (part a high a.end) (omega arith)),
          flagged_left low high set clear (part a a.start low) s,
          flagged_in low high set clear (part a low high) (omega arith) (omega arith),
          flagged_right low high set clear (part a high a.end) t,
          left_yes low a s,
          right_yes high a t,
          first,
          last,
        )

  steps_changed : changes set clear a ≡ true → a.start < a.end
      → protected low high set clear a ≡ from_high low high set clear (halved set clear high a)
  steps_changed c e =
      elim (dec_le a.end low) [
        | yes h ↦ kept_apart low high set clear a (shares_before low high a h)
            ∙ rw (whole (cuts_before set clear low a h) (cuts_before set clear high a (omega arith)), flagged_left low high set clear a (omega arith))
        | no l ↦ elim (dec_le high a.start) [
          | yes h ↦ kept_apart low high set clear a (shares_after low high a h)
              ∙ rw (whole (cuts_after set clear low a (omega arith)) (cuts_after set clear high a h), flagged_right low high set clear a (omega arith))
          | no r ↦ elim (dec_lt a.start low) [
            | yes s ↦ elim (dec_lt high a.end) [ yes t ↦ steps_around c e s t | no t ↦ steps_left c e s (omega arith) (omega arith) ]
            | no s ↦ elim (dec_lt high a.end) [ yes t ↦ steps_right c e (omega arith) (omega arith) t | no t ↦ steps_inside c e (omega arith) (omega arith) ]
          ]
        ]
      ]

  steps_same : changes set clear a ≡ false
      → protected low high set clear a ≡ from_high low high set clear (halved set clear high a)
  steps_same c =
      kept_same low high set clear a c
      ∙ rw (whole (cuts_same set clear low a c) (cuts_same set clear high a c), flagged_same low high set clear a c)

  steps_one : a.start < a.end → protected low high set clear a ≡ from_high low high set clear (halved set clear high a)
  steps_one e = by_test (changes set clear a) (λ c. steps_changed c e) steps_same

-- the list in steps
pub protect_steps : {space before : ℕ} (low high set clear : ℕ) → low < high → (xs : List Area) → Ordered space before xs
    → protect low high set clear xs ≡ map (flagged low high set clear) (split_at set clear low (split_at set clear high xs))
unfolding protect split_at flat_map
protect_steps low high set clear n [] o = refl
protect_steps low high set clear n (a ∷ xs) (one_more g b o) =
    rw (
      steps_one low high set clear n a g.nonempty,
      protect_steps low high set clear n xs o,
      split_append set clear low (halved set clear high a) (split_at set clear high xs),
      map-append (flagged low high set clear) (split_at set clear low (halved set clear high a)) (split_at set clear low (split_at set clear high xs)),
    )

-- ---- how many areas the list gets: one more for each end of the range that splits an area

length_halved : (set clear at : ℕ) (a : Area) → length (halved set clear at a) ≡ cond (cuts_at set clear at a) 2 1
unfolding halved
length_halved set clear at a =
    by_test (cuts_at set clear at a) (λ e. rw e) (λ e. rw e)

pub length_grows : (set clear at : ℕ) (xs : List Area) → length xs ≤ length (split_at set clear at xs)
unfolding split_at flat_map halved
length_grows set clear at [] = omega arith
length_grows set clear at (a ∷ xs) =
    let rest : length xs ≤ length (split_at set clear at xs) = length_grows set clear at xs in
    by_test (cuts_at set clear at a) (λ e. rw e (omega arith)) (λ e. rw e (omega arith))

module _ (low high set clear : ℕ) (n : low < high) (a : Area) where
  -- the left half of an area that is split at high is split at low where the area is
  cuts_left : high < a.end → cuts_at set clear low (part a a.start high) ≡ cuts_at set clear low a
  unfolding cuts_at changes
  cuts_left t =
      let l : low < a.end = omega arith in
      rw (lt-ltb low high n, lt-ltb low a.end l)

  length_split : cuts_at set clear high a ≡ true
      → length (split_at set clear low (halves high a)) + 1 ≡ length (halved set clear low a) + 2
  length_split c =
      let t : high < a.end = cuts_end set clear high a c in
      let right : Area = part a high a.end in
      rw (
        split_cons set clear low (part a a.start high) (right ∷ []),
        split_cons set clear low right [],
        halved_no set clear low right (cuts_after set clear low right (omega arith)),
        length-append (halved set clear low (part a a.start high)) (right ∷ split_at set clear low []),
        length_halved set clear low (part a a.start high),
        cuts_left t,
        length_halved set clear low a,
        split_nil set clear low,
      )
      (omega arith)

  length_steps : length (split_at set clear low (halved set clear high a)) + 1 ≡ length (halved set clear low a) + length (halved set clear high a)
  length_steps =
      by_test (cuts_at set clear high a)
      (λ c. rw (halved_yes set clear high a c) (length_split c))
      (λ c. rw (halved_no set clear high a c, split_cons set clear low a [], split_nil set clear low, append-nil (halved set clear low a)))

pub length_protect : {space before : ℕ} (low high set clear : ℕ) → low < high → (xs : List Area) → Ordered space before xs
    → length (protect low high set clear xs) + length xs ≡ length (split_at set clear low xs) + length (split_at set clear high xs)
unfolding protect split_at flat_map
length_protect low high set clear n [] o = refl
length_protect low high set clear n (a ∷ xs) (one_more g b o) =
    let here : length (split_at set clear low (halved set clear high a)) + 1 ≡ length (halved set clear low a) + length (halved set clear high a) = length_steps low high set clear n a in
    let rest : length (protect low high set clear xs) + length xs ≡ length (split_at set clear low xs) + length (split_at set clear high xs) = length_protect low high set clear n xs o in
    let area : length (protected low high set clear a) ≡ length (split_at set clear low (halved set clear high a)) =
    ap length (steps_one low high set clear n a g.nonempty) ∙ length-map (split_at set clear low (halved set clear high a)) (flagged low high set clear) in
    rw (
      length-append (protected low high set clear a) (protect low high set clear xs),
      length-append (halved set clear low a) (split_at set clear low xs),
      length-append (halved set clear high a) (split_at set clear high xs),
    )
    (omega arith)

-- ---- a good list stays good

module _ {space : ℕ} (set clear at : ℕ) (p : at % page_size ≡ 0) where
  halved_ordered : {before : ℕ} (a : Area) (xs : List Area) → Good space a → before ≤ a.start → Ordered space a.end xs
      → Ordered space before (halved set clear at a ++ xs)
  halved_ordered a xs g b o =
      elim (dec_lt a.start at) [
        | no s ↦ rw (halved_no set clear at a (cuts_after set clear at a (omega arith))) (one_more g b o)
        | yes s ↦ elim (dec_lt at a.end) [
          | no e ↦ rw (halved_no set clear at a (cuts_before set clear at a (omega arith))) (one_more g b o)
          | yes e ↦ by_test (changes set clear a)
              (λ c. rw (halved_yes set clear at a (cuts_yes set clear at a s e c))
              (one_more (part_good space a a.start at g (omega arith) s (omega arith) g.start_aligned p) b
              (one_more (part_good space a at a.end g (omega arith) e (omega arith) p g.end_aligned) (le_refl at) o)))
              (λ c. rw (halved_no set clear at a (cuts_same set clear at a c)) (one_more g b o))
        ]
      ]

  pub split_ordered : {before : ℕ} (xs : List Area) → Ordered space before xs → Ordered space before (split_at set clear at xs)
  unfolding split_at flat_map
  split_ordered [] o = none_left
  split_ordered (a ∷ xs) (one_more g b o) = halved_ordered a (split_at set clear at xs) g b (split_ordered xs o)

module _ {space : ℕ} (low high set clear : ℕ) (s : set ≤ max_flags) where
  with_flags_good : (a : Area) → Good space a → Good space (with_flags (new_flags set clear a.flags) a)
  with_flags_good a g =
      record {
        nonempty = g.nonempty;
        inside = g.inside;
        start_aligned = g.start_aligned;
        end_aligned = g.end_aligned;
        flags_legal = flags_few set clear a.flags s;
        frames_legal = g.frames_legal;
      }

  pub flagged_good : (a : Area) → Good space a → Good space (flagged low high set clear a)
  unfolding flagged
  flagged_good a g = by_test (leb low a.start && leb a.end high) (λ e. rw e (with_flags_good a g)) (λ e. rw e g)

  pub flagged_ordered : {before : ℕ} (xs : List Area) → Ordered space before xs → Ordered space before (map (flagged low high set clear) xs)
  flagged_ordered [] o = none_left
  flagged_ordered {before} (a ∷ xs) (one_more g b o) =
      one_more {before = before} {xs = map (flagged low high set clear) xs} (flagged_good a g) (rw (flagged_start low high set clear a) b) (rw (flagged_end low high set clear a) (flagged_ordered xs o))

pub protect_ordered : {space before : ℕ} (low high set clear : ℕ) (xs : List Area) → Ordered space before xs
    → low % page_size ≡ 0 → high % page_size ≡ 0 → set ≤ max_flags → Ordered space before (protect low high set clear xs)
protect_ordered low high set clear xs o p q s =
    elim (dec_lt low high) [
      | yes n ↦ rw (protect_steps low high set clear n xs o)
          (flagged_ordered low high set clear s (split_at set clear low (split_at set clear high xs))
          (split_ordered set clear low p (split_at set clear high xs) (split_ordered set clear high q xs o)))
      | no n ↦ rw (protect_empty low high set clear xs (omega arith)) o
    ]

-- ---- a list that can be stored stays one

abbrev pub AllStorable : List Area → Type 0
AllStorable xs = (i : ℕ) → i < length xs → Storable (get_or xs i nothing)

pub storable_more : (a : Area) (xs : List Area) → Storable a → AllStorable xs → AllStorable (a ∷ xs)
storable_more a xs s all zero h = s
storable_more a xs s all (suc i) h = all i (omega arith)

pub storable_rest : (a : Area) (xs : List Area) → AllStorable (a ∷ xs) → AllStorable xs
storable_rest a xs all i h = all (suc i) (omega arith)

halved_storable : (set clear at : ℕ) (a : Area) (xs : List Area) → Storable a → AllStorable xs → AllStorable (halved set clear at a ++ xs)
unfolding halved
halved_storable set clear at a xs s all =
    by_test (cuts_at set clear at a)
    (λ e. rw e (storable_more (part a a.start at) (part a at a.end ∷ xs) (part_storable a.start at s) (storable_more (part a at a.end) xs (part_storable at a.end s) all)))
    (λ e. rw e (storable_more a xs s all))

pub split_storable : (set clear at : ℕ) (xs : List Area) → AllStorable xs → AllStorable (split_at set clear at xs)
unfolding split_at flat_map
split_storable set clear at [] all = all
split_storable set clear at (a ∷ xs) all =
    halved_storable set clear at a (split_at set clear at xs) (all 0 (omega arith)) (split_storable set clear at xs (storable_rest a xs all))

pub flagged_storable : (low high set clear : ℕ) (a : Area) → Storable a → Storable (flagged low high set clear a)
unfolding flagged
flagged_storable low high set clear a s =
    by_test (leb low a.start && leb a.end high) (λ e. rw e (record { word_legal = s.word_legal })) (λ e. rw e s)

all_flagged_storable : (low high set clear : ℕ) (xs : List Area) → AllStorable xs → AllStorable (map (flagged low high set clear) xs)
all_flagged_storable low high set clear [] all = all
all_flagged_storable low high set clear (a ∷ xs) all =
    storable_more (flagged low high set clear a) (map (flagged low high set clear) xs) (flagged_storable low high set clear a (all 0 (omega arith)))
    (all_flagged_storable low high set clear xs (storable_rest a xs all))

pub protect_storable : {space before : ℕ} (low high set clear : ℕ) (xs : List Area) → Ordered space before xs → AllStorable xs
    → AllStorable (protect low high set clear xs)
protect_storable low high set clear xs o all =
    elim (dec_lt low high) [
      | yes n ↦ rw (protect_steps low high set clear n xs o)
          (all_flagged_storable low high set clear (split_at set clear low (split_at set clear high xs))
          (split_storable set clear low (split_at set clear high xs) (split_storable set clear high xs all)))
      | no n ↦ rw (protect_empty low high set clear xs (omega arith)) all
    ]
