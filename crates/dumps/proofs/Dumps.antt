-- Laws of numbers in bytes: those that lie further on, how long they are, and that what was written is read back. Assumes nothing.
use Prim.Native.Nat.{ℕ, zero, suc, ◌+◌, ◌*◌, ◌^◌, ◌<◌}
use mathlib.Core.Path.{◌≡◌, refl, sym, ap, ◌∙◌}
use mathlib.Core.List.{List, [], ◌∷◌, ◌++◌, append_assoc}
use native.Mathlib.Omega.{arith}
use native.Mathlib.Nat.{add_assoc, mul-suc, mul-zero}
use lib.ListN.{length, get_or, length-append}
use Rattle.little_endian.specs.Number.{bytes_of}
use Rattle.little_endian.proofs.Numbers.{number_past, length_bytes, number_back}
use Rattle.dumps.specs.Dump.{numbers_at, all_bytes}

-- ---- places further on

pub numbers_past : (xs ys : List ℕ) (size n at : ℕ) → numbers_at (xs ++ ys) (length xs + at) size n ≡ numbers_at ys at size n
unfolding numbers_at
numbers_past xs ys size zero at = refl
numbers_past xs ys size (suc n) at =
    rw (number_past xs ys size at, add_assoc (length xs) at size, numbers_past xs ys size n (at + size))

-- ---- writing, and reading it back

pub length_all : (size : ℕ) (ns : List ℕ) → length (all_bytes size ns) ≡ size * length ns
unfolding all_bytes
length_all size [] = sym (mul-zero size)
length_all size (n ∷ ns) =
    length-append (bytes_of size n) (all_bytes size ns) ∙ omega (arith, length_bytes size n, length_all size ns, mul-suc size (length ns))

-- numbers that all fit
abbrev pub Fitting : ℕ → List ℕ → Type 0
Fitting size ns = (k : ℕ) → k < length ns → get_or ns k 0 < 256 ^ size

pub numbers_back : (size : ℕ) (ns rest : List ℕ) → Fitting size ns → numbers_at (all_bytes size ns ++ rest) 0 size (length ns) ≡ ns
unfolding numbers_at all_bytes
numbers_back size [] rest f = refl
numbers_back size (n ∷ ns) rest f =
    let at : 0 + size ≡ length (bytes_of size n) + 0 = omega (arith, length_bytes size n) in
    ap (λ (l : List ℕ). numbers_at l 0 size (suc (length ns))) (append_assoc (bytes_of size n) (all_bytes size ns) rest)
    ∙ rw (number_back size n (all_bytes size ns ++ rest) (f 0 (omega arith)), at)
    (ap (λ (l : List ℕ). n ∷ l)
    (numbers_past (bytes_of size n) (all_bytes size ns ++ rest) size (length ns) 0
    ∙ numbers_back size ns rest (λ k h. f (suc k) (omega arith))))
