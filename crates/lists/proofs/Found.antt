-- Laws of `found_below`: when it is a place and when none, both ways. Assumes nothing.
use Rattle.std.proofs.Common.{◌≡◌, ℕ, ◌≤◌, ◌<◌, Some, None, sym, ◌∙◌}
use mathlib.Core.Path.{ap}
use borrow.Author.Tests.{lt-ltb, le-ltb, eq-eqb, ne_eqb}
use lib.Dec.{eqb}
use native.Mathlib.Decide.{dec_lt}
use native.Mathlib.Omega.{arith}
use Rattle.std.specs.Prelude.{is_none}
use Rattle.lists.specs.Found.{found_below}

module _ (n k : ℕ) where
  pub found_some : k < n → found_below n k ≡ Some k
  unfolding found_below
  found_some h = rw (lt-ltb k n h)

  pub found_none : n ≤ k → found_below n k ≡ None
  unfolding found_below
  found_none h = rw (le-ltb k n h)

  -- what is answered where the search stops at a place, and at the end
  pub found_at : (j : ℕ) → k ≡ j → j < n → Some j ≡ found_below n k
  found_at j e h = sym (found_some (omega (arith, e, h)) ∙ ap Some e)

  pub found_end : k ≡ n → None ≡ found_below n k
  found_end e = sym (found_none (omega (arith, e)))

  -- what an answer tells
  pub some_slot : (j : ℕ) → Some j ≡ found_below n k → (j ≡ k) × (j < n)
  some_slot j e =
      elim (dec_lt k n) [
        | yes h ↦ let both = e ∙ found_some h in let same : j ≡ k = cc in (same, omega (arith, same))
        | no h ↦ let both = e ∙ found_none (omega arith) in cc
      ]

  pub none_slot : None ≡ found_below n k → n ≤ k
  none_slot e =
      elim (dec_lt k n) [
        | yes h ↦ let both = e ∙ found_some h in cc
        | no h ↦ omega arith
      ]

  -- a search that ends at n at the latest finds none exactly there
  pub found_by : k ≤ n → is_none (found_below n k) ≡ eqb k n
  found_by w =
      elim (dec_lt k n) [
        | yes h ↦ let e : k ≡ n → ⊥ = omega arith in rw (found_some h, ne_eqb k n e)
        | no h ↦ let e : k ≡ n = omega arith in rw (found_none (omega arith), eq-eqb k n e)
      ]
