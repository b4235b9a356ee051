-- Laws of `over`: its length, the elements that it leaves, one element, two writes side by side, and what a loop that lays a
-- list down word by word has done so far, from the front or from the back. Assumes nothing.
use Prim.Native.Nat.{ℕ, suc, ◌+◌, ◌-◌, ◌≤◌, ◌<◌}
use mathlib.Core.Path.{◌≡◌, refl, sym, ap, ◌∙◌}
use mathlib.Core.List.{List, [], ◌∷◌, ◌++◌, append_assoc}
use native.Mathlib.Omega.{arith}
use native.Mathlib.Numerals.{add-one}
use native.Mathlib.Nat.{add-zero}
use lib.ListN.{length, get_or, take, drop, set, length-append, length-take, length-drop, length-set, take-append-drop, get_or-append}
use lib.Seq.{length-take-le, drop-cons, drop-length, take-append-le, drop-append-add, get_or-append-add, set_split, get_or-take, get_or-drop, take-take, drop-drop, take_at, drop_at}
use Rattle.lists.specs.Over.{over}

-- ---- one write

pub length_over : (ws : List ℕ) (p : ℕ) (xs : List ℕ) → p + length xs ≤ length ws → length (over ws p xs) ≡ length ws
unfolding over
length_over ws p xs h = simp (length-append, length-take, length-drop) (omega arith)

-- the words before the list and after it stay
module _ (ws : List ℕ) (p : ℕ) (xs : List ℕ) (h : p ≤ length ws) (k : ℕ) where
  front : length (take p ws) ≡ p
  front = length-take-le p ws h

  pub over_before : k < p → get_or (over ws p xs) k 0 ≡ get_or ws k 0
  unfolding over
  over_before l = get_or-append (take p ws) (xs ++ drop (p + length xs) ws) 0 k (omega (arith, front)) ∙ get_or-take p ws k 0 l

  pub over_after : p + length xs ≤ k → get_or (over ws p xs) k 0 ≡ get_or ws k 0
  unfolding over
  over_after l =
      let n : ℕ = k - (p + length xs) in
      let e : k ≡ length (take p ws) + (length xs + n) = omega (arith, front) in
      let f : p + length xs + n ≡ k = omega arith in
      ap (λ (i : ℕ). get_or (take p ws ++ (xs ++ drop (p + length xs) ws)) i 0) e
      ∙ get_or-append-add (take p ws) (xs ++ drop (p + length xs) ws) (length xs + n) 0
      ∙ get_or-append-add xs (drop (p + length xs) ws) n 0
      ∙ get_or-drop (p + length xs) ws n 0
      ∙ ap (λ (i : ℕ). get_or ws i 0) f

-- nothing laid, one word laid, and the words that were there
pub over_nothing : (ws : List ℕ) (p : ℕ) → over ws p [] ≡ ws
unfolding over
over_nothing ws p = rw (add-zero p) (take-append-drop p ws)

pub over_one : (ws : List ℕ) (p v : ℕ) → p < length ws → set ws p v ≡ over ws p (v ∷ [])
unfolding over
over_one ws p v h = rw (add-one p) (set_split ws p v h)

pub over_same : (ws : List ℕ) (from to n : ℕ) → from ≡ to → to + n ≤ length ws → ws ≡ over ws to (take n (drop from ws))
unfolding over
over_same ws from to n e h =
    let l : length (take n (drop to ws)) ≡ n = length-take-le n (drop to ws) (omega (arith, length-drop to ws)) in
    sym (rw (e, l, ← drop-drop n to ws, take-append-drop n (drop to ws)) (take-append-drop to ws))

-- ---- two writes side by side are one

module _ (ws : List ℕ) (p : ℕ) (xs ys : List ℕ) where
  both_long : p + length (xs ++ ys) ≡ p + length xs + length ys
  both_long = simp length-append (omega arith)

  front_long : p ≤ length ws → length (take p ws ++ xs) ≡ p + length xs
  front_long h = simp (length-append, length-take) (omega arith)

  rest_kept : p ≤ length ws → drop (p + length xs + length ys) ((take p ws ++ xs) ++ drop (p + length xs) ws) ≡ drop (p + length xs + length ys) ws
  rest_kept h =
      rw (← front_long h) (drop-append-add (take p ws ++ xs) (drop (length (take p ws ++ xs)) ws) (length ys))
      ∙ drop-drop (length ys) (p + length xs) ws

  -- the later one right of the earlier
  pub over_right : p ≤ length ws → over (over ws p xs) (p + length xs) ys ≡ over ws p (xs ++ ys)
  unfolding over
  over_right h =
      let rest : List ℕ = drop (p + length xs) ws in
      rw (← append_assoc (take p ws) xs rest, take_at (take p ws ++ xs) rest (p + length xs) (front_long h), rest_kept h, both_long) (simp append_assoc)

  -- the later one left of the earlier
  pub over_left : p + length xs ≤ length ws → over (over ws (p + length xs) ys) p xs ≡ over ws p (xs ++ ys)
  unfolding over
  over_left h =
      let rest : List ℕ = ys ++ drop (p + length xs + length ys) ws in
      let n : length (take (p + length xs) ws) ≡ p + length xs = length-take-le (p + length xs) ws h in
      rw (
        take-append-le p (take (p + length xs) ws) rest (omega arith),
        take-take p (p + length xs) ws (omega arith),
        drop_at (take (p + length xs) ws) rest (p + length xs) n,
        both_long,
        append_assoc xs ys (drop (p + length xs + length ys) ws),
      )

-- three writes side by side: the middle one, the left one and the right one
pub over_three : (ws : List ℕ) (p q r : ℕ) (xs ys zs : List ℕ) → q ≡ p + length xs → r ≡ q + length ys → r ≤ length ws
    → over (over (over ws q ys) p xs) r zs ≡ over ws p ((xs ++ ys) ++ zs)
over_three ws p q r xs ys zs e f h =
    let end : r ≡ p + length (xs ++ ys) = omega (arith, length-append xs ys) in
    rw (e, over_left ws p xs ys (omega arith), end, over_right ws p (xs ++ ys) zs (omega arith))

-- one word more, right of the list
pub over_next : (ws : List ℕ) (p : ℕ) (xs : List ℕ) (at v : ℕ) → p + length xs < length ws → at ≡ p + length xs
    → set (over ws p xs) at v ≡ over ws p (xs ++ (v ∷ []))
over_next ws p xs at v room e =
    over_one (over ws p xs) at v (omega (arith, length_over ws p xs (omega arith))) ∙ rw (e, over_right ws p xs (v ∷ []) (omega arith))

-- ---- a list laid down word by word

-- from the back: its words from the kth on lie there
pub record Falls (p : ℕ) (xs : List ℕ) (k : ℕ) (ws₀ ws : List ℕ) : Type 0 where
  pub upto : k ≤ length xs
  pub long : length ws ≡ length ws₀
  pub done : ws ≡ over ws₀ (p + k) (drop k xs)

pub fall_begins : (p : ℕ) (xs ws : List ℕ) (k : ℕ) → k ≡ length xs → Falls p xs k ws ws
fall_begins p xs ws k e = record { upto = omega arith; long = refl; done = rw (e, drop-length xs) (sym (over_nothing ws (p + length xs))) }

module _ {p : ℕ} {xs : List ℕ} {k : ℕ} {ws₀ ws : List ℕ} (s : Falls p xs k ws₀ ws) where
  pub fall_goes_on : p + length xs ≤ length ws₀ → (j v : ℕ) → k ≡ suc j → v ≡ get_or xs j 0 → Falls p xs j ws₀ (set ws (p + j) v)
  fall_goes_on room j v e value =
      let place : p + k ≡ p + j + 1 = omega arith in
      let next : (v ∷ []) ++ drop k xs ≡ drop j xs = rw (value, e) (sym (drop-cons xs j 0 (omega (arith, s.upto)))) in
      record {
        upto = omega (arith, s.upto);
        long = length-set ws (p + j) v ∙ s.long;
        done = over_one ws (p + j) v (omega (arith, s.long, s.upto))
            ∙ rw (s.done, place, over_left ws₀ (p + j) (v ∷ []) (drop k xs) (omega (arith, s.upto))) (ap (over ws₀ (p + j)) next);
      }

  pub fall_ends : k ≡ 0 → ws ≡ over ws₀ p xs
  fall_ends e = s.done ∙ rw (e, add-zero p)
