-- Laws of `each` and `within`: the length, an element inside the range and one outside, the same effect said differently,
-- one element more, a range in two parts, and two ranges that do not meet.
-- Assumes nothing.
use Prim.Native.Nat.{ℕ, zero, suc, ◌+◌, ◌≤◌, ◌<◌}
use mathlib.Core.Path.{◌≡◌, refl, sym, ap, ◌∙◌}
use mathlib.Core.Bool.{true, false, ◌&&◌, ◌||◌, and-false}
use mathlib.Core.List.{List, [], ◌∷◌}
use native.Mathlib.Omega.{arith}
use native.Mathlib.Decide.{dec_lt, dec_le, ℕ_discrete}
use lib.Dec.{leb}
use lib.ListN.{length, get_or, set, length-set}
use lib.Seq.{ext_get_or, get_or-set_same, get_or-set_other}
use borrow.Author.Tests.{lt-ltb, le-ltb, le-leb, lt-leb}
use Rattle.lists.specs.Each.{each, in_range, only, within}

-- ---- every element

pub length_each : (g : ℕ → ℕ → ℕ) (xs : List ℕ) → length (each g xs) ≡ length xs
unfolding each
length_each g [] = refl
length_each g (x ∷ xs) = ap suc (length_each (λ k. g (suc k)) xs)

pub get_d_each : (g : ℕ → ℕ → ℕ) (xs : List ℕ) (k d : ℕ) → k < length xs → get_or (each g xs) k d ≡ g k (get_or xs k d)
unfolding each
get_d_each g [] k d h = absurd (omega arith)
get_d_each g (x ∷ xs) zero d h = refl
get_d_each g (x ∷ xs) (suc k) d h = get_d_each (λ j. g (suc j)) xs k d (omega arith)

-- a table that has at each number what the effect gives is the table after the effect
pub each_is : (g : ℕ → ℕ → ℕ) (xs ys : List ℕ) → length ys ≡ length xs → ((k : ℕ) → k < length xs → get_or ys k 0 ≡ g k (get_or xs k 0)) → ys ≡ each g xs
each_is g xs ys l h =
    ext_get_or 0 ys (each g xs) (l ∙ sym (length_each g xs))
    (λ k b. let b' : k < length xs = omega (arith, l) in h k b' ∙ sym (get_d_each g xs k 0 b'))

-- two effects that agree on every element of the table
pub each_agree : (f g : ℕ → ℕ → ℕ) (xs : List ℕ) → ((k : ℕ) → k < length xs → f k (get_or xs k 0) ≡ g k (get_or xs k 0)) → each f xs ≡ each g xs
each_agree f g xs h = each_is g xs (each f xs) (length_each f xs) (λ k b. get_d_each f xs k 0 b ∙ h k b)

-- two effects in a row are one
pub each_each : (f g : ℕ → ℕ → ℕ) (xs : List ℕ) → each f (each g xs) ≡ each (λ k x. f k (g k x)) xs
unfolding each
each_each f g [] = refl
each_each f g (x ∷ xs) = ap (λ (ys : List ℕ). f 0 (g 0 x) ∷ ys) (each_each (λ k. f (suc k)) (λ k. g (suc k)) xs)

-- ---- the range

pub in_range_lem : (first end k : ℕ) → first ≤ k → k < end → in_range first end k ≡ true
unfolding in_range
in_range_lem first end k a b = rw (le-leb first k a, lt-ltb k end b)

pub before_range : (first end k : ℕ) → k < first → in_range first end k ≡ false
unfolding in_range
before_range first end k a = rw (lt-leb first k a)

pub after_range : (first end k : ℕ) → end ≤ k → in_range first end k ≡ false
unfolding in_range
after_range first end k a = rw (le-ltb k end a) (and-false (leb first k))

-- the three places that a number can have
pub place {ℓ} : {X : Type ℓ} (first end k : ℕ) → (k < first → X) → (first ≤ k → k < end → X) → (end ≤ k → X) → X
place first end k before inside after =
    elim (dec_le first k) [ yes a ↦ elim (dec_lt k end) [ yes b ↦ inside a b | no b ↦ after (omega arith) ] | no a ↦ before (omega arith) ]

-- a range cut in two: each of its numbers is in exactly one part
pub range_parts : (first mid end k : ℕ) → first ≤ mid → mid ≤ end → in_range first end k ≡ (in_range first mid k || in_range mid end k)
range_parts first mid end k a b =
    place first end k
    (λ c. rw (before_range first end k c, before_range first mid k c, before_range mid end k (omega arith)))
    (λ c d. elim (dec_lt k mid) [
      | yes m ↦ rw (in_range_lem first end k c d, in_range_lem first mid k c m)
      | no m ↦ rw (in_range_lem first end k c d, after_range first mid k (omega arith), in_range_lem mid end k (omega arith) d)
    ])
    (λ d. rw (after_range first end k d, after_range first mid k (omega arith), after_range mid end k d))

pub range_apart : (first mid end k : ℕ) → (in_range first mid k && in_range mid end k) ≡ false
range_apart first mid end k =
    elim (dec_lt k mid)
    [ yes m ↦ rw (before_range mid end k m) (and-false (in_range first mid k)) | no m ↦ rw (after_range first mid k (omega arith)) ]

-- ---- an effect on a range

pub length_within : (f : ℕ → ℕ → ℕ) (first end : ℕ) (xs : List ℕ) → length (within f first end xs) ≡ length xs
unfolding within
length_within f first end xs = length_each (only f first end) xs

-- what an element becomes
pub get_d_within : (f : ℕ → ℕ → ℕ) (first end : ℕ) (xs : List ℕ) (k : ℕ) → k < length xs
    → get_or (within f first end xs) k 0 ≡ only f first end k (get_or xs k 0)
unfolding within
get_d_within f first end xs k h = get_d_each (only f first end) xs k 0 h

only_in : (f : ℕ → ℕ → ℕ) (first end k x : ℕ) → first ≤ k → k < end → only f first end k x ≡ f k x
unfolding only
only_in f first end k x a b = rw (in_range_lem first end k a b)

only_before : (f : ℕ → ℕ → ℕ) (first end k x : ℕ) → k < first → only f first end k x ≡ x
unfolding only
only_before f first end k x a = rw (before_range first end k a)

only_after : (f : ℕ → ℕ → ℕ) (first end k x : ℕ) → end ≤ k → only f first end k x ≡ x
unfolding only
only_after f first end k x a = rw (after_range first end k a)

-- an element inside, one before the range and one after it
module _ (f : ℕ → ℕ → ℕ) (first end : ℕ) (xs : List ℕ) (k : ℕ) (h : k < length xs) where
  pub within_in : first ≤ k → k < end → get_or (within f first end xs) k 0 ≡ f k (get_or xs k 0)
  within_in a b = get_d_within f first end xs k h ∙ only_in f first end k (get_or xs k 0) a b

  pub within_before : k < first → get_or (within f first end xs) k 0 ≡ get_or xs k 0
  within_before a = get_d_within f first end xs k h ∙ only_before f first end k (get_or xs k 0) a

  pub within_after : end ≤ k → get_or (within f first end xs) k 0 ≡ get_or xs k 0
  within_after a = get_d_within f first end xs k h ∙ only_after f first end k (get_or xs k 0) a

-- a table that has the effect inside and the old elements outside is the table after the effect
pub within_is : (f : ℕ → ℕ → ℕ) (first end : ℕ) (xs ys : List ℕ) → length ys ≡ length xs
    → ((k : ℕ) → k < length xs → k < first → get_or ys k 0 ≡ get_or xs k 0)
    → ((k : ℕ) → k < length xs → first ≤ k → k < end → get_or ys k 0 ≡ f k (get_or xs k 0))
    → ((k : ℕ) → k < length xs → end ≤ k → get_or ys k 0 ≡ get_or xs k 0)
    → ys ≡ within f first end xs
unfolding within
within_is f first end xs ys l before inside after =
    each_is (only f first end) xs ys l
    (λ k h. place first end k
    (λ a. before k h a ∙ sym (only_before f first end k (get_or xs k 0) a))
    (λ a b. inside k h a b ∙ sym (only_in f first end k (get_or xs k 0) a b))
    (λ a. after k h a ∙ sym (only_after f first end k (get_or xs k 0) a)))

-- an empty range
pub within_none : (f : ℕ → ℕ → ℕ) (first end : ℕ) (xs : List ℕ) → end ≤ first → within f first end xs ≡ xs
within_none f first end xs h =
    sym (within_is f first end xs xs refl (λ k l a. refl) (λ k l a b. absurd (omega arith)) (λ k l a. refl))

-- one element more: what a loop that stores at k does to the effect so far
pub within_more : (f : ℕ → ℕ → ℕ) (first k : ℕ) (xs : List ℕ) (v : ℕ) → first ≤ k → k < length xs → v ≡ f k (get_or xs k 0)
    → set (within f first k xs) k v ≡ within f first (k + 1) xs
within_more f first k xs v a h e =
    within_is f first (k + 1) xs (set old k v) (length-set old k v ∙ length_within f first k xs)
    (λ j l b. get_or-set_other old k j v 0 (omega arith) ∙ within_before f first k xs j l b)
    (λ j l b c. elim (ℕ_discrete j k) [
      | yes p ↦ rw p (get_or-set_same old k v 0 (omega (arith, length_within f first k xs)) ∙ e)
      | no p ↦ get_or-set_other old k j v 0 p ∙ within_in f first k xs j l b (omega arith)
    ])
    (λ j l c. get_or-set_other old k j v 0 (omega arith) ∙ within_after f first k xs j l (omega arith))
  where
    old : List ℕ
    old = within f first k xs

-- two ends with the same elements of the table before them
pub within_cut : (f : ℕ → ℕ → ℕ) (first end end' : ℕ) (xs : List ℕ)
    → ((k : ℕ) → k < length xs → first ≤ k → (k < end → k < end') × (k < end' → k < end))
    → within f first end xs ≡ within f first end' xs
within_cut f first end end' xs same =
    within_is f first end' xs (within f first end xs) (length_within f first end xs)
    (λ k l a. within_before f first end xs k l a)
    (λ k l a b. within_in f first end xs k l a ((same k l a).1 b))
    (λ k l b. place first end k
    (λ a. within_before f first end xs k l a)
    (λ a c. absurd (let c' : k < end' = (same k l a).0 c in omega arith))
    (λ c. within_after f first end xs k l c))

-- a range in two parts
pub within_parts : (f : ℕ → ℕ → ℕ) (first mid end : ℕ) (xs : List ℕ) → first ≤ mid → mid ≤ end
    → within f first mid (within f mid end xs) ≡ within f first end xs
within_parts f first mid end xs a b =
    within_is f first end xs (within f first mid right)
    (length_within f first mid right ∙ length_within f mid end xs)
    (λ k l c. within_before f first mid right k (long k l) c ∙ within_before f mid end xs k l (omega arith))
    (λ k l c d. elim (dec_lt k mid) [
      | yes p ↦ within_in f first mid right k (long k l) c p ∙ ap (f k) (within_before f mid end xs k l p)
      | no p ↦ within_after f first mid right k (long k l) (omega arith) ∙ within_in f mid end xs k l (omega arith) d
    ])
    (λ k l c. within_after f first mid right k (long k l) (omega arith) ∙ within_after f mid end xs k l c)
  where
    right : List ℕ
    right = within f mid end xs

    long : (k : ℕ) → k < length xs → k < length (within f mid end xs)
    long k l = omega (arith, length_within f mid end xs)

-- effects on two ranges that do not meet, in either order
pub within_apart : (f g : ℕ → ℕ → ℕ) (first end first' end' : ℕ) (xs : List ℕ) → end ≤ first'
    → within f first end (within g first' end' xs) ≡ within g first' end' (within f first end xs)
unfolding within
within_apart f g first end first' end' xs a =
    each_each (only f first end) (only g first' end') xs
    ∙ each_agree (λ k x. only f first end k (only g first' end' k x)) (λ k x. only g first' end' k (only f first end k x)) xs
    (λ k l. elim (dec_lt k first') [
      | yes p ↦ ap (only f first end k) (only_before g first' end' k (get_or xs k 0) p)
          ∙ sym (only_before g first' end' k (only f first end k (get_or xs k 0)) p)
      | no p ↦ only_after f first end k (only g first' end' k (get_or xs k 0)) (omega arith)
          ∙ ap (only g first' end' k) (sym (only_after f first end k (get_or xs k 0) (omega arith)))
    ])
    ∙ sym (each_each (only g first' end') (only f first end) xs)
