-- Laws of what a record asks for: several fields tested for 0 at once, the request of an op.
-- Assumes nothing.
use Prim.Native.Nat.{ℕ, ◌^◌, ◌≤◌, ◌<◌}
use mathlib.Core.Path.{◌≡◌, refl, sym, ap}
use mathlib.Core.Bool.{Bool, ◌&&◌, cond}
use mathlib.Core.List.{List, [], ◌∷◌, ◌++◌}
use native.Mathlib.Omega.{arith}
use lib.Bits.{bit_or, or_add_and, and_le_l, and_le_r}
use lib.Dec.{eqb}
use borrow.Author.Tests.{eq-eqb, ne_eqb, eqb-true, eqb-false, le-leb, lt-leb}
use Rattle.lists.proofs.Every.{by_test}
use Rattle.std.specs.Prelude.{Option, Some, None}
use Rattle.page_table.specs.declared.Backend.{Backend}
use Rattle.requests.specs.Request.{all_zero, Blank, unless, map_with, backend_by, map_by, search_by, choices, chosen, request_by}
use Rattle.requests.specs.declared.Fields.{Fields}
use Rattle.requests.specs.declared.Request.{Request}
use Rattle.requests.specs.declared.Request.TheVariants.{Search, Bad}

-- ---- fields tested for 0 together

or_zero : (a b : ℕ) → eqb (bit_or a b) 0 ≡ (eqb a 0 && eqb b 0)
or_zero a b =
    by_test (eqb a 0)
    (λ p. by_test (eqb b 0)
    (λ q. rw (p, q) (eq-eqb (bit_or a b) 0 (omega (arith, or_add_and a b, eqb-true a 0 p, eqb-true b 0 q))))
    (λ q. rw (p, q) (ne_eqb (bit_or a b) 0 (λ z. eqb-false b 0 q (omega (arith, or_add_and a b, and_le_l a b, z))))))
    (λ p. rw p (ne_eqb (bit_or a b) 0 (λ z. eqb-false a 0 p (omega (arith, or_add_and a b, and_le_r a b, z)))))

all_zero_append : (xs ys : List ℕ) → all_zero (xs ++ ys) ≡ (all_zero xs && all_zero ys)
unfolding all_zero
all_zero_append [] ys = refl
all_zero_append (x ∷ xs) ys =
    by_test (eqb x 0) (λ p. rw p (all_zero_append xs ys)) (λ p. rw p)

pub one : {x : ℕ} → Blank x (x ∷ [])
unfolding all_zero
one {x} = record { same = by_test (eqb x 0) (λ p. rw p) (λ p. rw p) }

pub both : {m n : ℕ} {xs ys : List ℕ} → Blank m xs → Blank n ys → Blank (bit_or m n) (xs ++ ys)
both {m} {n} {xs} {ys} p q = record { same = rw (or_zero m n, p.same, q.same) (sym (all_zero_append xs ys)) }

-- a widening hands the bits on
pub handed : {m n : ℕ} {xs : List ℕ} → m ≡ n → Blank n xs → Blank m xs
handed e p = record { same = rw e p.same }

pub unless_is : {n : ℕ} {xs : List ℕ} (request : Request) → Blank n xs → cond (eqb n 0) request Bad ≡ unless xs request
unfolding unless
unless_is request b = rw b.same

pub unless_unless : (xs ys : List ℕ) (request : Request) → unless (xs ++ ys) request ≡ unless xs (unless ys request)
unfolding unless
unless_unless xs ys request = rw (all_zero_append xs ys) (by_test (all_zero xs) (λ p. rw p) (λ p. rw p))

-- ---- the request of an op

pub by_op : (f : Fields) (op : ℕ) → f.op ≡ op → request_by f ≡ chosen op (choices f)
unfolding request_by
by_op f op e = ap (λ (n : ℕ). chosen n (choices f)) e

module _ (f : Fields) where
  pub search_too_far : 63 < f.clear → Bad ≡ search_by f
  unfolding search_by unless
  search_too_far h =
      rw (lt-leb f.clear 63 h) (by_test (all_zero (f.flags ∷ f.backend ∷ f.delta ∷ [])) (λ p. rw p) (λ p. rw p))

  pub search_fits : (align : ℕ) → align ≡ 2 ^ f.clear → f.clear ≤ 63
      → unless (f.flags ∷ f.backend ∷ f.delta ∷ []) (Search f.start f.size f.limit align) ≡ search_by f
  unfolding search_by
  search_fits align e h = rw (e, le-leb f.clear 63 h)

  -- a map with the backend that is asked for, and none without
  map_of : Bool → Option Backend → Request
  map_of replace (Some backend) = unless (f.clear ∷ f.limit ∷ []) (map_with f backend replace)
  map_of replace None = Bad

  map_is : (replace : Bool) → map_of replace (backend_by f) ≡ map_by f replace
  unfolding map_of backend_by map_by unless
  map_is replace =
      by_test (eqb f.backend 1)
      (λ p. rw p)
      (λ p. by_test (all_zero (f.backend ∷ f.delta ∷ []))
      (λ q. rw (p, q))
      (λ q. rw (p, q) (by_test (all_zero (f.clear ∷ f.limit ∷ [])) (λ r. rw r) (λ r. rw r))))

  pub map_some : (backend : Backend) → backend_by f ≡ Some backend → (replace : Bool)
      → unless (f.clear ∷ f.limit ∷ []) (map_with f backend replace) ≡ map_by f replace
  unfolding map_of
  map_some backend e replace = rw e at (map_is replace)

  pub map_none : backend_by f ≡ None → (replace : Bool) → Bad ≡ map_by f replace
  unfolding map_of
  map_none e replace = rw e at (map_is replace)

-- an op that asks for nothing
pub no_op : (f : Fields)
    → (f.op ≡ 1 → ⊥) → (f.op ≡ 2 → ⊥) → (f.op ≡ 3 → ⊥) → (f.op ≡ 4 → ⊥)
    → (f.op ≡ 5 → ⊥) → (f.op ≡ 6 → ⊥) → (f.op ≡ 7 → ⊥) → (f.op ≡ 8 → ⊥)
    → Bad ≡ request_by f
unfolding request_by chosen
no_op f a b c d e g h i =
    rw (
      ne_eqb f.op 1 a,
      ne_eqb f.op 2 b,
      ne_eqb f.op 3 c,
      ne_eqb f.op 4 d,
      ne_eqb f.op 5 e,
      ne_eqb f.op 6 g,
      ne_eqb f.op 7 h,
      ne_eqb f.op 8 i,
    )
