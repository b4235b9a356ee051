-- Laws of the cuts: each answer from its test, and what an accepted cut tells. Assumes nothing.
use Prim.Native.Nat.{ℕ, ◌+◌, ◌-◌, ◌%◌, ◌≤◌, ◌<◌}
use mathlib.Core.Path.{◌≡◌, refl, sym, ap, ◌∙◌}
use mathlib.Core.Bool.{Bool, true, false, and-false}
use native.Mathlib.Omega.{arith}
use native.Mathlib.Decide.{dec_lt, ℕ_discrete}
use lib.Dec.{ltb}
use borrow.Author.Tests.{lt-ltb, le-ltb, eq-eqb, ne_eqb}
use Rattle.page_table.specs.Limits.{page_size}
use Rattle.area.specs.Answer.{answer, reply, Reply, number}
use Rattle.area.specs.Area.{aligned, good_area, largest_space, part, nothing}
use Rattle.cuts.specs.Cut.{cut_tests, cut_answer, Pair, pair, split_outcome, split_rule, shrunk_outcome, size_answer, shrink_left_rule, shrink_right_rule}
use Rattle.area.specs.declared.Area.{Area}
use Rattle.std.specs.Prelude.{Result, Ok, Err}
use Rattle.area.specs.declared.Refusal.{Refusal}
use Rattle.cuts.specs.declared.Uncut.{Uncut}
use Rattle.area.proofs.Answers.{reply_accepted, reply_refused, reply_answer, refusal_some, one_outcome}
use Rattle.area.proofs.Areas.{Good, Halves, good_is, part_good, halves}

-- the tests in their order: each section adds that one more did not apply
module _ (a : Area) (cut low high : ℕ) where
  pub cut_bad : good_area largest_space a ≡ false → cut_answer a cut low high ≡ 1
  unfolding cut_answer cut_tests answer
  cut_bad g = rw g

  module _ (g : good_area largest_space a ≡ true) where
    pub cut_unaligned : (cut % page_size ≡ 0 → ⊥) → cut_answer a cut low high ≡ 2
    unfolding cut_answer cut_tests answer aligned
    cut_unaligned u = rw (g, ne_eqb (cut % page_size) 0 u)

    module _ (e : cut % page_size ≡ 0) where
      pub cut_low : cut ≤ low → cut_answer a cut low high ≡ 3
      unfolding cut_answer cut_tests answer aligned
      cut_low h = rw (g, eq-eqb (cut % page_size) 0 e, le-ltb low cut h)

      pub cut_high : high ≤ cut → cut_answer a cut low high ≡ 3
      unfolding cut_answer cut_tests answer aligned
      cut_high h = rw (g, eq-eqb (cut % page_size) 0 e, le-ltb cut high h, and-false (ltb low cut))

      pub cut_inside : low < cut → cut < high → cut_answer a cut low high ≡ 0
      unfolding cut_answer cut_tests answer aligned
      cut_inside l h = rw (g, eq-eqb (cut % page_size) 0 e, lt-ltb low cut l, lt-ltb cut high h)

-- what an accepted cut tells
pub record Inside (a : Area) (cut low high : ℕ) : Type 0 where
  pub good : Good largest_space a
  pub cut_aligned : cut % page_size ≡ 0
  pub above : low < cut
  pub below : cut < high

pub accepted_cut : (a : Area) (cut low high : ℕ) → cut_answer a cut low high ≡ 0 → Inside a cut low high
accepted_cut a cut low high z = first (good_area largest_space a) refl
  where
    first : (b : Bool) → good_area largest_space a ≡ b → Inside a cut low high
    first false g = absurd (let e : cut_answer a cut low high ≡ 1 = cut_bad a cut low high g in omega arith)
    first true g =
        elim (ℕ_discrete (cut % page_size) 0) [
          | no u ↦ absurd (let e : cut_answer a cut low high ≡ 2 = cut_unaligned a cut low high g u in omega arith)
          | yes u ↦ elim (dec_lt low cut) [
            | no l ↦ absurd (let e : cut_answer a cut low high ≡ 3 = cut_low a cut low high g u (omega arith) in omega arith)
            | yes l ↦ elim (dec_lt cut high) [
              | no h ↦ absurd (let e : cut_answer a cut low high ≡ 3 = cut_high a cut low high g u (omega arith) in omega arith)
              | yes h ↦ record { good = good_is largest_space a g; cut_aligned = u; above = l; below = h }
            ]
          ]
        ]

-- ---- the rules at each answer

module _ (a : Area) (at n : ℕ) (e : n ≡ cut_answer a at a.start a.end) where
  pub split_accepted : n ≡ 0 → reply n (pair (part a a.start at) (part a at a.end)) ≡ split_rule a at
  unfolding split_rule
  split_accepted z = rw (← e) (reply_accepted (pair a nothing) n (pair (part a a.start at) (part a at a.end)) z)

  pub split_refused : (n ≡ 0 → ⊥) → reply n (pair a nothing) ≡ split_rule a at
  unfolding split_rule
  split_refused z = rw (← e) (reply_refused (pair a nothing) n (pair (part a a.start at) (part a at a.end)) z)

module _ (a : Area) (size n old : ℕ) (o : old ≡ a.end - a.start) (e : n ≡ cut_answer a size 0 old) where
  sized : n ≡ size_answer a size
  sized = e ∙ ap (λ (k : ℕ). cut_answer a size 0 k) o

  -- the new size leaves room before the area's end
  pub shorter : n ≡ 0 → a.start + size < a.end
  shorter z = let i = accepted_cut a size 0 old (sym e ∙ z) in omega arith

  pub left_accepted : n ≡ 0 → reply n (part a (a.end - size) a.end) ≡ shrink_left_rule a size
  unfolding shrink_left_rule
  left_accepted z = rw (← sized) (reply_accepted a n (part a (a.end - size) a.end) z)

  pub left_refused : (n ≡ 0 → ⊥) → reply n a ≡ shrink_left_rule a size
  unfolding shrink_left_rule
  left_refused z = rw (← sized) (reply_refused a n (part a (a.end - size) a.end) z)

  pub right_accepted : n ≡ 0 → reply n (part a a.start (a.start + size)) ≡ shrink_right_rule a size
  unfolding shrink_right_rule
  right_accepted z = rw (← sized) (reply_accepted a n (part a a.start (a.start + size)) z)

  pub right_refused : (n ≡ 0 → ⊥) → reply n a ≡ shrink_right_rule a size
  unfolding shrink_right_rule
  right_refused z = rw (← sized) (reply_refused a n (part a a.start (a.start + size)) z)

-- the same at a refusal that gives the area back
module _ (a : Area) (u : Uncut) where
  pub split_stops : (at : ℕ) → shrunk_outcome (Err u) ≡ reply (cut_answer a at a.start a.end) a → split_outcome (Err u) ≡ split_rule a at
  split_stops at e = rw (ap (λ (r : Reply Area). r.value) e) (split_refused a at _ (ap (λ (r : Reply Area). r.answer) e) (refusal_some u.refusal))

  module _ (size old : ℕ) (o : old ≡ a.end - a.start) (e : shrunk_outcome (Err u) ≡ reply (cut_answer a size 0 old) a) where
    pub left_stops : shrunk_outcome (Err u) ≡ shrink_left_rule a size
    left_stops = rw (ap (λ (r : Reply Area). r.value) e) (left_refused a size _ old o (ap (λ (r : Reply Area). r.answer) e) (refusal_some u.refusal))

    pub right_stops : shrunk_outcome (Err u) ≡ shrink_right_rule a size
    right_stops = rw (ap (λ (r : Reply Area). r.value) e) (right_refused a size _ old o (ap (λ (r : Reply Area). r.answer) e) (refusal_some u.refusal))

-- and where the area can be cut
module _ (a whole : Area) (cut low high : ℕ) (e : shrunk_outcome (Ok whole) ≡ reply (cut_answer a cut low high) a) where
  pub whole_is : whole ≡ a
  whole_is = ap (λ (r : Reply Area). r.value) e

  pub cut_passes : 0 ≡ cut_answer a cut low high
  cut_passes = ap (λ (r : Reply Area). r.answer) e

-- ---- what an accepted split gives: two good areas, which together give each page the entry that the whole gave it

pub record SplitParts (a : Area) (s : Pair) : Type 0 where
  pub left_good : Good largest_space s.left
  pub right_good : Good largest_space s.right
  pub pages : Halves a s.left s.right

pub split_parts : (a : Area) (at : ℕ) → (split_rule a at).answer ≡ 0 → SplitParts a (split_rule a at).value
unfolding split_rule
split_parts a at z =
    rw (← split_accepted a at 0 (sym answered) refl)
    (record {
      left_good = part_good largest_space a a.start at inside.good (omega arith) inside.above (omega (arith, inside)) inside.good.start_aligned inside.cut_aligned;
      right_good = part_good largest_space a at a.end inside.good (omega (arith, inside)) inside.below (omega arith) inside.cut_aligned inside.good.end_aligned;
      pages = halves a at (omega (arith, inside)) (omega (arith, inside));
    })
  where
    answered : cut_answer a at a.start a.end ≡ 0
    answered = sym (reply_answer (pair a nothing) (cut_answer a at a.start a.end) (pair (part a a.start at) (part a at a.end))) ∙ z

    inside : Inside a at a.start a.end
    inside = accepted_cut a at a.start a.end answered

-- ---- no second outcome: the answer's number and the areas fix the result

-- a refusal alone is an answer with nothing beside it, so the law of all calls says which it is
abbrev why : Refusal → Result (Unit {0}) Refusal → Refusal
why other (Ok value) = other
why other (Err refusal) = refusal

same_refusal : (r s : Refusal) → number r ≡ number s → r ≡ s
same_refusal r s e = ap (why r) (one_outcome tt (Err r) (Err s) (λ i. reply (e i) tt))

same_uncut : {B : Type 0} (f : Area → B) (back : B → Area) → ((a : Area) → back (f a) ≡ a) → (u v : Uncut)
    → reply (number u.refusal) (f u.area) ≡ reply (number v.refusal) (f v.area) → u ≡ v
same_uncut f back undo u v e i =
    record {
      refusal = same_refusal u.refusal v.refusal (ap (λ (r : Reply _). r.answer) e) i;
      area = (sym (undo u.area) ∙ ap (λ (r : Reply _). back r.value) e ∙ undo v.area) i;
    }

pub split_unique : (r s : Result (Area × Area) Uncut) → split_outcome r ≡ split_outcome s → r ≡ s
split_unique (Ok p) (Ok q) e = λ i. Ok ((e i).value.left, (e i).value.right)
split_unique (Ok p) (Err v) e = absurd (refusal_some v.refusal (sym (ap (λ (r : Reply _). r.answer) e)))
split_unique (Err u) (Ok q) e = absurd (refusal_some u.refusal (ap (λ (r : Reply _). r.answer) e))
split_unique (Err u) (Err v) e = ap Err (same_uncut (λ a. pair a nothing) (λ (p : Pair). p.left) (λ a. refl) u v e)

pub shrunk_unique : (r s : Result Area Uncut) → shrunk_outcome r ≡ shrunk_outcome s → r ≡ s
shrunk_unique (Ok a) (Ok b) e = λ i. Ok (e i).value
shrunk_unique (Ok a) (Err v) e = absurd (refusal_some v.refusal (sym (ap (λ (r : Reply _). r.answer) e)))
shrunk_unique (Err u) (Ok b) e = absurd (refusal_some u.refusal (ap (λ (r : Reply _). r.answer) e))
shrunk_unique (Err u) (Err v) e = ap Err (same_uncut (λ a. a) (λ a. a) (λ a. refl) u v e)
