-- What the search's rule gives, over all addresses: the lowest address that fits, or 7 where none fits; and no other outcome does.
-- An address fits when it is a multiple of align, at least hint and limit start, ends within limit end and the space, and has no
-- address in common with an area. Assumes nothing.
use Prim.Native.Nat.{ℕ, ◌+◌, ◌*◌, ◌/◌, ◌%◌, ◌≤◌, ◌<◌, max}
use mathlib.Core.Path.{◌≡◌, sym, ap, ◌∙◌}
use mathlib.Core.Bool.{Bool, true, false, true≢false}
use mathlib.Core.List.{List}
use native.Mathlib.Omega.{arith}
use native.Mathlib.Nat.{lt_of_mul-lt-mul_left}
use lib.ListN.{length, get_or}
use borrow.Author.Tests.{le-leb, eq-eqb, leb-true, eqb-true, not-true}
use Rattle.lists.specs.Every.{every, lowest_of}
use Rattle.lists.proofs.Every.{every_at, refuted, by_test, lowest_fails, lowest_passes}
use Rattle.area.specs.Area.{nothing}
use Rattle.area.specs.declared.Area.{Area}
use Rattle.area_list.specs.Meet.{shares, shares_any}
use Rattle.area_list.proofs.Meets.{Common, shares_common, common_shares, any_no, no_shares}
use Rattle.search.specs.Free.{Ask, free_tests, is_free, lowest_free, FreeOutcome, free_gives, free_rule}
use Rattle.search.proofs.Multiples.{as_product, steps_rise}

-- an address that fits, as facts
pub record Fits (xs : List Area) (q : Ask) (at : ℕ) : Type 0 where
  pub multiple : at % q.align ≡ 0
  pub from_hint : q.hint ≤ at
  pub from_low : q.low ≤ at
  pub below_high : at + q.size ≤ q.high
  pub inside : at + q.size ≤ q.space
  pub meets_none : (i address : ℕ) → i < length xs → Common at (at + q.size) (get_or xs i nothing) address → ⊥

-- ---- the test of one address

module _ (xs : List Area) (q : Ask) (at : ℕ) where
  free_fits : is_free xs q at ≡ true → Fits xs q at
  unfolding is_free
  free_fits e =
      let apart : shares_any at (at + q.size) xs ≡ false = not-true (shares_any at (at + q.size) xs) (every_at (free_tests xs q at) 5 e) in
      record {
        multiple = eqb-true (at % q.align) 0 (every_at (free_tests xs q at) 0 e);
        from_hint = leb-true q.hint at (every_at (free_tests xs q at) 1 e);
        from_low = leb-true q.low at (every_at (free_tests xs q at) 2 e);
        below_high = leb-true (at + q.size) q.high (every_at (free_tests xs q at) 3 e);
        inside = leb-true (at + q.size) q.space (every_at (free_tests xs q at) 4 e);
        meets_none = λ i address h c.
            true≢false (sym (common_shares at (at + q.size) (get_or xs i nothing) address c) ∙ no_shares at (at + q.size) xs apart i h);
      }

  fits_apart : Fits xs q at → shares_any at (at + q.size) xs ≡ false
  fits_apart f =
      any_no at (at + q.size) xs
      (λ i h. refuted (shares at (at + q.size) (get_or xs i nothing))
      (λ e. f.meets_none i (max at (get_or xs i nothing).start) h (shares_common at (at + q.size) (get_or xs i nothing) e)))

  fits_free : Fits xs q at → is_free xs q at ≡ true
  unfolding is_free every
  fits_free f =
      rw (
        eq-eqb (at % q.align) 0 f.multiple,
        le-leb q.hint at f.from_hint,
        le-leb q.low at f.from_low,
        le-leb (at + q.size) q.high f.below_high,
        le-leb (at + q.size) q.space f.inside,
        fits_apart f,
      )

-- ---- the lowest

-- two numbers of which neither is below the other
neither_below : (a b : ℕ) → (a < b → ⊥) → (b < a → ⊥) → a ≡ b
neither_below a b p q = omega arith

module _ (xs : List Area) (q : Ask) where
  abbrev test : ℕ → Bool
  test k = is_free xs q (q.align * k)

  -- an address that fits is a multiple that the rule looks at
  test_fits : (b : ℕ) → Fits xs q b → test (b / q.align) ≡ true
  test_fits b f = rw (← as_product q.align b f.multiple) (fits_free xs q b f)

  -- below the lowest nothing fits
  below_none : (b : ℕ) → b < lowest_free xs q → Fits xs q b → ⊥
  unfolding lowest_free
  below_none b h f =
      let n = q.space / q.align + 1 in
      let k : q.align * (b / q.align) < q.align * lowest_of test 0 n = omega (arith, as_product q.align b f.multiple) in
      true≢false (sym (test_fits b f) ∙ lowest_fails test n 0 (b / q.align) (omega arith) (lt_of_mul-lt-mul_left q.align k))

  -- where something fits, the lowest does
  some_lowest : (b : ℕ) → Fits xs q b → is_free xs q (lowest_free xs q) ≡ true
  unfolding lowest_free
  some_lowest b f =
      let few : b / q.align ≤ q.space / q.align = steps_rise q.align b q.space (omega arith) in
      lowest_passes test (q.space / q.align + 1) 0
      (record { which = b / q.align; from = omega arith; upto = omega arith; passes = test_fits b f })

  found : is_free xs q (lowest_free xs q) ≡ true → free_rule xs q ≡ free_gives 0 (lowest_free xs q)
  unfolding free_rule
  found e = rw e

  missed : is_free xs q (lowest_free xs q) ≡ false → free_rule xs q ≡ free_gives 7 0
  unfolding free_rule
  missed e = rw e

  -- ---- the outcome

  -- where nothing fits, the rule gives 7; and an address that fits, with none below it that does, is the rule's
  pub none_is : ((b : ℕ) → Fits xs q b → ⊥) → free_rule xs q ≡ free_gives 7 0
  none_is none = missed (refuted (is_free xs q (lowest_free xs q)) (λ e. none (lowest_free xs q) (free_fits xs q (lowest_free xs q) e)))

  pub lowest_is : (at : ℕ) → Fits xs q at → ((b : ℕ) → b < at → Fits xs q b → ⊥) → free_rule xs q ≡ free_gives 0 at
  lowest_is at f none = found e ∙ ap (free_gives 0) same
    where
      e : is_free xs q (lowest_free xs q) ≡ true
      e = some_lowest at f

      same : lowest_free xs q ≡ at
      same =
          neither_below (lowest_free xs q) at
          (λ h. none (lowest_free xs q) h (free_fits xs q (lowest_free xs q) e))
          (λ h. below_none at h f)

  -- the rule gives 0 only with the lowest address that fits, and 7 only where none does
  pub search_lowest : (free_rule xs q).answer ≡ 0 → Fits xs q (free_rule xs q).at × ((b : ℕ) → b < (free_rule xs q).at → Fits xs q b → ⊥)
  search_lowest z =
      by_test (is_free xs q (lowest_free xs q))
      (λ e. rw (found e) (free_fits xs q (lowest_free xs q) e, below_none))
      (λ e. absurd (let w : ◌≡◌ {A = ℕ} 7 0 = rw (missed e) at z in omega arith))

  pub search_none : (free_rule xs q).answer ≡ 7 → (b : ℕ) → Fits xs q b → ⊥
  search_none s b f = let w : ◌≡◌ {A = ℕ} 0 7 = rw (found (some_lowest b f)) at s in omega arith

-- ---- one outcome only

-- what an outcome has to be: the lowest address that fits, or 7 and address 0 where none does
pub data Meant (xs : List Area) (q : Ask) : FreeOutcome → Type 0 where
  lowest : (at : ℕ) → Fits xs q at → ((b : ℕ) → b < at → Fits xs q b → ⊥) → Meant xs q (free_gives 0 at)
  nowhere : ((b : ℕ) → Fits xs q b → ⊥) → Meant xs q (free_gives 7 0)

module _ {xs : List Area} {q : Ask} where
  -- it is what the rule gives, and so there is one only
  pub meant_is : {o : FreeOutcome} → Meant xs q o → o ≡ free_rule xs q
  meant_is (lowest at f none) = sym (lowest_is xs q at f none)
  meant_is (nowhere none) = sym (none_is xs q none)

  pub search_unique : {o p : FreeOutcome} → Meant xs q o → Meant xs q p → o ≡ p
  search_unique m n = meant_is m ∙ sym (meant_is n)

-- the rule's is one
pub search_meant : (xs : List Area) (q : Ask) → Meant xs q (free_rule xs q)
search_meant xs q =
    by_test (is_free xs q (lowest_free xs q))
    (λ e. rw (found xs q e) (lowest (lowest_free xs q) (free_fits xs q (lowest_free xs q) e) (below_none xs q)))
    (λ e. rw (missed xs q e) (nowhere (search_none xs q (ap (λ (o : FreeOutcome). o.answer) (missed xs q e)))))
