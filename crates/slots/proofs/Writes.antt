-- Laws of a splice's writes: a part of the words written anew, the areas one after the other, and the tail, the areas and the zeros
-- that make the stored list. Assumes nothing.
use Prim.Native.Nat.{ℕ, suc, ◌+◌, ◌-◌, ◌*◌, ◌≤◌, ◌<◌, max}
use mathlib.Core.Path.{◌≡◌, refl, sym, ap, ◌∙◌}
use mathlib.Core.List.{List, [], ◌∷◌, ◌++◌, append_assoc, append-nil}
use native.Mathlib.Omega.{arith}
use native.Mathlib.Numerals.{add-one}
use lib.ListN.{length, get_or, take, drop, set, replicate, length-append, length-drop, length-replicate, take-append-drop}
use lib.Seq.{paste, length-take-le, take-suc, take_all, drop-drop}
use borrow.Rule.Slice.PartMut.{put_mid}
use Rattle.std.specs.Prelude.{Option, Some, None, filter, count_by}
use Rattle.std.specs.Int.{from_bool}
use Rattle.std.specs.Option.{is_some}
use Rattle.std.proofs.lemmas.List.Elements.{filter_map-append}
use Rattle.std.proofs.lemmas.List.Sums.{length-filter}
use Rattle.lists.specs.Over.{over}
use Rattle.lists.proofs.Over.{over_nothing, over_one, over_next, over_right, over_three}
use Rattle.area.specs.declared.Area.{Area}
use Rattle.area_list.specs.Layout.{words_per_area, word_of, words_of, rows}
use Rattle.area_list.specs.Position.{SortedRows}
use Rattle.area_list.specs.Store.{flat, store, spliced}
use Rattle.area_list.proofs.Rows.{length_rows}
use Rattle.area_list.proofs.Stores.{length_flat, flat_append, flat_rows_before, flat_rows_from, length_spliced}
use Rattle.slots.specs.Splice.{parts_of}

-- ---- one write

-- words that were written anew, from a place on
pub over_part : (ws : List ℕ) (p n : ℕ) (xs ys : List ℕ) → ys ≡ xs → n ≡ length xs → put_mid p n ws ys ≡ over ws p xs
unfolding over
over_part ws p n xs ys e l = rw (e, drop-drop n p ws, l) refl

-- words that were copied there
pub over_copy : (ws : List ℕ) (p : ℕ) (xs : List ℕ) (m n : ℕ) → m ≡ n → n ≤ length xs → paste ws p xs m ≡ over ws p (take n xs)
unfolding over
over_copy ws p xs m n e h = rw (e, length-take-le n xs h) (append_assoc (take p ws) (take n xs) (drop (p + n) ws))

-- the four words of an area
pub put_words : (ws : List ℕ) (p : ℕ) (a : Area) (w : ℕ) → p + 4 ≤ length ws → w ≡ word_of a.backend
    → set (set (set (set ws p a.start) (p + 1) a.end) (p + 2) a.flags) (p + 3) w ≡ over ws p (words_of a)
unfolding words_of
put_words ws p a w room e =
    rw (
      over_one ws p a.start (omega arith),
      over_next ws p (a.start ∷ []) (p + 1) a.end (omega arith) refl,
      over_next ws p (a.start ∷ a.end ∷ []) (p + 2) a.flags (omega arith) refl,
      over_next ws p (a.start ∷ a.end ∷ a.flags ∷ []) (p + 3) w (omega arith) refl,
      e,
    )

-- one area more after those that are there
put_next : (ws : List ℕ) (slot : ℕ) (xs : List Area) (a : Area) (at : ℕ) {ws₁ ws₂ : List ℕ}
    → words_per_area * slot ≤ length ws → at ≡ slot + length xs
    → ws₁ ≡ over ws (words_per_area * slot) (flat xs) → ws₂ ≡ over ws₁ (words_per_area * at) (words_of a)
    → ws₂ ≡ over ws (words_per_area * slot) (flat (xs ++ (a ∷ [])))
unfolding flat
put_next ws slot xs a at room e p q =
    let place : 4 * at ≡ 4 * slot + length (flat xs) = omega (arith, length_flat xs) in
    q ∙ rw (p, place, over_right ws (4 * slot) (flat xs) (words_of a) room, flat_append xs (a ∷ []), append-nil (words_of a))

-- ---- the areas that go in

-- how many they are at most
pub few_parts : (parts : List (Option Area)) → length (parts_of parts) ≤ length parts
few_parts [] = omega arith
few_parts (None ∷ parts) = omega (arith, few_parts parts)
few_parts (Some a ∷ parts) = omega (arith, few_parts parts)

-- the first k of the options have gone in
pub record Laid (ws₀ : List ℕ) (slot : ℕ) (parts : List (Option Area)) (k next : ℕ) (ws : List ℕ) : Type 0 where
  pub place : next ≡ slot + length (parts_of (take k parts))
  pub done : ws ≡ over ws₀ (words_per_area * slot) (flat (parts_of (take k parts)))

pub laid_begins : (ws : List ℕ) (slot : ℕ) (parts : List (Option Area)) → Laid ws slot parts 0 slot ws
unfolding flat
laid_begins ws slot parts = record { place = omega arith; done = sym (over_nothing ws (words_per_area * slot)) }

-- the areas of the options up to one, and of one more
more_parts : (parts : List (Option Area)) (k : ℕ) (d : Option Area) → k < length parts
    → parts_of (take (k + 1) parts) ≡ parts_of (take k parts) ++ parts_of (get_or parts k d ∷ [])
more_parts parts k d h =
    rw (add-one k, take-suc parts k d h) (filter_map-append (λ part. part) (take k parts) (get_or parts k d ∷ []))

-- how many the options up to one and the next are: one more where that one is there
one_or_none : (part : Option Area) → length (parts_of (part ∷ [])) ≡ from_bool (is_some part)
one_or_none None = refl
one_or_none (Some a) = refl

pub counted : (parts : List (Option Area)) (k : ℕ) → k < length parts
    → length (parts_of (take (k + 1) parts)) ≡ length (parts_of (take k parts)) + from_bool (is_some (get_or parts k None))
counted parts k h =
    let part = get_or parts k None in
    ap length (more_parts parts k None h) ∙ length-append (parts_of (take k parts)) (parts_of (part ∷ [])) ∙ rw (one_or_none part)

-- no more than all
upto_parts : (parts : List (Option Area)) (k : ℕ) → length (parts_of (take k parts)) ≤ length (parts_of parts)
upto_parts parts k =
    let first = parts_of (take k parts) in
    let rest = parts_of (drop k parts) in
    let both : length (parts_of (take k parts ++ drop k parts)) ≡ length first + length rest =
    ap length (filter_map-append (λ part. part) (take k parts) (drop k parts)) ∙ length-append first rest in
    omega (arith, rw (take-append-drop k parts) at both)

-- how many they are
as_many : (parts : List (Option Area)) → length (parts_of parts) ≡ length (filter is_some parts)
as_many [] = refl
as_many (None ∷ parts) = as_many parts
as_many (Some a ∷ parts) = ap suc (as_many parts)

pub length_parts : (parts : List (Option Area)) → length (parts_of parts) ≡ count_by is_some parts
length_parts parts = as_many parts ∙ length-filter is_some parts

module _ {ws₀ ws : List ℕ} {slot k next : ℕ} {parts : List (Option Area)} (l : Laid ws₀ slot parts k next ws) where
  module _ (h : k < length parts) where
    pub laid_none : get_or parts k None ≡ None → Laid ws₀ slot parts (k + 1) next ws
    laid_none e =
        let same : parts_of (take (k + 1) parts) ≡ parts_of (take k parts) =
        more_parts parts k None h ∙ rw (e, append-nil (parts_of (take k parts))) in
        record { place = rw same l.place; done = rw same l.done }

    module _ (a : Area) (e : get_or parts k None ≡ Some a) where
      one_more : parts_of (take (k + 1) parts) ≡ parts_of (take k parts) ++ (a ∷ [])
      one_more = more_parts parts k None h ∙ rw e

      one_longer : length (parts_of (take (k + 1) parts)) ≡ length (parts_of (take k parts)) + 1
      one_longer = ap length one_more ∙ length-append (parts_of (take k parts)) (a ∷ [])

      pub laid_room : next + 1 ≤ slot + length (parts_of parts)
      laid_room = omega (arith, l.place, upto_parts parts (k + 1), one_longer)

      pub laid_some : {ws' : List ℕ} → words_per_area * slot ≤ length ws₀ → ws' ≡ over ws (words_per_area * next) (words_of a)
          → Laid ws₀ slot parts (k + 1) (next + 1) ws'
      laid_some room w =
          record {
            place = omega (arith, l.place, one_longer);
            done = rw one_more (put_next ws₀ slot (parts_of (take k parts)) a next room l.place l.done w);
          }

  pub laid_ends : length parts ≤ k → ws ≡ over ws₀ (words_per_area * slot) (flat (parts_of parts))
  laid_ends h = l.done ∙ rw (take_all k parts h)

-- the three writes of a splice: the tail, the parts and the zeros
module _ {ws : List ℕ} {count : ℕ} (s : SortedRows ws count) (low high : ℕ) (parts : List Area) (ordered : low ≤ high) (inside : high ≤ count) where
  flat_spliced : flat (spliced (rows ws count) low high parts)
      ≡ take (words_per_area * low) ws ++ (flat parts ++ take (words_per_area * (count - high)) (drop (words_per_area * high) ws))
  flat_spliced =
      rw (
        flat_append (take low (rows ws count)) (parts ++ drop high (rows ws count)),
        flat_append parts (drop high (rows ws count)),
        flat_rows_before s low (omega arith),
        flat_rows_from s high inside,
      )

  module _ (next after : ℕ) (n : next ≡ low + length parts) (m : after ≡ next + (count - high)) (room : words_per_area * after ≤ length ws) where
    abbrev tail : List ℕ
    tail = take (words_per_area * (count - high)) (drop (words_per_area * high) ws)

    abbrev zeros : List ℕ
    zeros = replicate (words_per_area * count - words_per_area * after) 0

    length_tail : length tail ≡ 4 * (count - high)
    length_tail = length-take-le (4 * (count - high)) (drop (4 * high) ws) (omega (arith, s.room, length-drop (4 * high) ws))

    count_after : length (spliced (rows ws count) low high parts) ≡ after
    count_after =
        length_spliced (rows ws count) low high parts ordered (omega (arith, length_rows ws count)) ∙ rw (length_rows ws count) (omega arith)

    kept_after : 4 * low + length ((flat parts ++ tail) ++ zeros) ≡ 4 * max count after
    kept_after = simp (length-append, length_flat, length_tail, length-replicate) (omega arith)

    is_store : over ws (4 * low) ((flat parts ++ tail) ++ zeros) ≡ store (spliced (rows ws count) low high parts) ws count
    unfolding over store
    is_store =
        let freed : 4 * count - 4 * after ≡ 4 * (count - after) = omega arith in
        rw (kept_after, freed, count_after, flat_spliced) (simp append_assoc)

    pub splice_writes : {ws₁ ws₂ ws₃ : List ℕ} → ws₁ ≡ over ws (words_per_area * next) tail → ws₂ ≡ over ws₁ (words_per_area * low) (flat parts)
        → ws₃ ≡ over ws₂ (words_per_area * after) zeros → ws₃ ≡ store (spliced (rows ws count) low high parts) ws count
    splice_writes p q r =
        r ∙ rw (q, p) (over_three ws (4 * low) (4 * next) (4 * after) (flat parts) tail zeros (omega (arith, length_flat parts)) (omega (arith, length_tail)) room ∙ is_store)
