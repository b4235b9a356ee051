-- Laws of numbers in bytes: of four bytes, and of eight from twice four; of a part of the bytes, and of bytes further on; and that what
-- was put is read back. Assumes nothing.
use Rattle.std.proofs.Common.{◌≡◌, ℕ, zero, suc, ◌+◌, ◌*◌, ◌/◌, ◌%◌, ◌^◌, ◌≤◌, ◌<◌, List, [], ◌∷◌, ◌++◌, length, get_or, take, drop, refl, ap, ◌∙◌, add_assoc, arith}
use Rattle.std.proofs.Math.Nat.{div-div-eq-div-mul, pow-succ'}
use Rattle.std.proofs.lemmas.List.{get_or-take, get_or-drop}
use Rattle.std.specs.Int.{byte_at, bytes_low_first}
use lib.Seq.{get_or-append-add}
use native.Mathlib.Omega.{pow_step}
use Rattle.little_endian.specs.Number.{number_at, bytes_of}

-- ---- four bytes, and eight

pub number_four : (bytes : List ℕ) (at : ℕ)
    → number_at bytes at 4 ≡ get_or bytes at 0 + 256 * get_or bytes (at + 1) 0 + 65536 * (get_or bytes (at + 2) 0 + 256 * get_or bytes (at + 3) 0)
unfolding number_at
number_four bytes at = rw (add_assoc at 1 1, add_assoc at 2 1) (omega arith)

pub number_eight : (bytes : List ℕ) (at : ℕ) → number_at bytes at 8 ≡ number_at bytes at 4 + 2 ^ 32 * number_at bytes (at + 4) 4
unfolding number_at
number_eight bytes at = rw (add_assoc at 1 1, add_assoc at 2 1, add_assoc at 3 1) (omega arith)

-- ---- a part of the bytes, and bytes further on

pub number_part : (bytes : List ℕ) (at long i size : ℕ) → i + size ≤ long
    → number_at (take long (drop at bytes)) i size ≡ number_at bytes (at + i) size
unfolding number_at
number_part bytes at long i zero h = refl
number_part bytes at long i (suc size) h =
    rw (get_or-take long (drop at bytes) i 0 (omega arith), get_or-drop at bytes i 0, number_part bytes at long (i + 1) size (omega arith), add_assoc at i 1)

pub number_past : (xs ys : List ℕ) (size at : ℕ) → number_at (xs ++ ys) (length xs + at) size ≡ number_at ys at size
unfolding number_at
number_past xs ys zero at = refl
number_past xs ys (suc size) at =
    rw (get_or-append-add xs ys at 0, add_assoc (length xs) at 1, number_past xs ys size (at + 1))

-- ---- the bytes of a number, as the library has them

byte_after : (i n : ℕ) → byte_at (suc i) n ≡ byte_at i (n / 256)
byte_after zero n = refl
byte_after (suc i) n = rw (pow-succ' 256 (suc i), ← div-div-eq-div-mul n 256 (256 ^ suc i))

bytes_after : (i size n : ℕ) → bytes_low_first (suc i) size n ≡ bytes_low_first i size (n / 256)
bytes_after i zero n = refl
bytes_after i (suc size) n = rw (byte_after i n, bytes_after (suc i) size n)

pub bytes_low : (size n : ℕ) → bytes_low_first 0 size n ≡ bytes_of size n
unfolding bytes_of
bytes_low zero n = refl
bytes_low (suc size) n = ap (λ (l : List ℕ). n % 256 ∷ l) (bytes_after 0 size n ∙ bytes_low size (n / 256))

-- ---- writing, and reading it back

pub length_bytes : (size n : ℕ) → length (bytes_of size n) ≡ size
unfolding bytes_of
length_bytes zero n = refl
length_bytes (suc size) n = ap suc (length_bytes size (n / 256))

-- one number that fits
pub number_back : (size n : ℕ) (rest : List ℕ) → n < 256 ^ size → number_at (bytes_of size n ++ rest) 0 size ≡ n
unfolding number_at bytes_of
number_back zero n rest h = omega arith
number_back (suc size) n rest h =
    let few : n / 256 < 256 ^ size = omega (arith, pow_step 256 size) in
    let next : number_at (n % 256 ∷ (bytes_of size (n / 256) ++ rest)) 1 size ≡ n / 256 =
    number_past (n % 256 ∷ []) (bytes_of size (n / 256) ++ rest) size 0 ∙ number_back size (n / 256) rest few in
    rw next (omega arith)
