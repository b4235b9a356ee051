-- Laws of the answers' order and of their numbers. Assumes nothing.
use Prim.Native.Nat.{ℕ, zero, suc}
use mathlib.Core.Path.{◌≡◌, refl, sym, ap, ◌∙◌}
use mathlib.Core.Bool.{Bool, true, false}
use mathlib.Core.List.{List, ◌∷◌}
use Rattle.std.specs.Prelude.{Result, Ok, Err, IsErrAnd, ⊤}
use Rattle.std.proofs.lemmas.Result.{err_from_is_err_and}
use native.Mathlib.Omega.{arith}
use Prim.Native.Nat.{◌<◌}
use Rattle.area.specs.Answer.{number, number_of, outcome, Test, refuse, answer, Reply, reply, reply_by}
use Rattle.area.specs.declared.Refusal.{Refusal}
use Rattle.area.specs.declared.Refusal.TheVariants.{BadTables, NotAligned, InvalidParam, AlreadyExists, BadState, NoRoom, NotFound}

-- a test that applies gives the answer, and one that does not leaves it to the rest
pub applies : (k : ℕ) (b : Bool) (ts : List Test) → b ≡ true → answer (refuse k b ∷ ts) ≡ k
unfolding answer
applies k b ts e = rw e

pub passes : (k : ℕ) (b : Bool) (ts : List Test) → b ≡ false → answer (refuse k b ∷ ts) ≡ answer ts
unfolding answer
passes k b ts e = rw e

reply_other : {A : Type 0} (refused : A) (n : ℕ) (value : A) → (n ≡ 0 → ⊥) → reply n refused ≡ reply_by refused n value
unfolding reply_by
reply_other refused zero value h = absurd (h refl)
reply_other refused (suc n) value h = refl

reply_number : {A : Type 0} (refused : A) (n : ℕ) (value : A) → (reply_by refused n value).answer ≡ n
unfolding reply_by
reply_number refused zero value = refl
reply_number refused (suc n) value = refl

-- an answer with a value, accepted and refused
module _ {A : Type 0} (refused : A) (n : ℕ) (value : A) where
  pub reply_accepted : n ≡ 0 → reply n value ≡ reply_by refused n value
  unfolding reply_by
  reply_accepted z = rw z

  pub reply_refused : (n ≡ 0 → ⊥) → reply n refused ≡ reply_by refused n value
  reply_refused h = reply_other refused n value h

  pub reply_zero : n ≡ 0 → reply 0 value ≡ reply_by refused n value
  unfolding reply_by
  reply_zero z = rw z

  pub reply_suc : (k : ℕ) → n ≡ suc k → reply (suc k) refused ≡ reply_by refused n value
  unfolding reply_by
  reply_suc k e = rw e

  pub reply_answer : (reply_by refused n value).answer ≡ n
  reply_answer = reply_number refused n value

-- two answers with one name
abbrev pub SameAnswer : {A : Type 0} → Result A Refusal → Result A Refusal → Type 0
SameAnswer (Ok v) (Ok w) = ⊤
SameAnswer (Ok v) (Err s) = ⊥
SameAnswer (Err r) (Ok w) = ⊥
SameAnswer (Err r) (Err s) = r ≡ s

-- no two refusals have one number
refusal_of : ℕ → Refusal
refusal_of zero = BadTables
refusal_of (suc zero) = BadTables
refusal_of (suc (suc zero)) = NotAligned
refusal_of (suc (suc (suc zero))) = InvalidParam
refusal_of (suc (suc (suc (suc zero)))) = AlreadyExists
refusal_of (suc (suc (suc (suc (suc zero))))) = BadState
refusal_of (suc (suc (suc (suc (suc (suc zero)))))) = NoRoom
refusal_of (suc (suc (suc (suc (suc (suc (suc n))))))) = NotFound

named : (r : Refusal) → refusal_of (number r) ≡ r
unfolding refusal_of
named BadTables = refl
named NotAligned = refl
named InvalidParam = refl
named AlreadyExists = refl
named BadState = refl
named NoRoom = refl
named NotFound = refl

pub refusal_inj : (a b : Refusal) → number a ≡ number b → a ≡ b
refusal_inj a b e = sym (named a) ∙ ap refusal_of e ∙ named b

-- 0 is no refusal's number
refusal_known : (r : Refusal) → 0 < number r
refusal_known BadTables = omega arith
refusal_known NotAligned = omega arith
refusal_known InvalidParam = omega arith
refusal_known AlreadyExists = omega arith
refusal_known BadState = omega arith
refusal_known NoRoom = omega arith
refusal_known NotFound = omega arith

pub refusal_some : (r : Refusal) → number r ≡ 0 → ⊥
refusal_some r z = omega (arith, z, refusal_known r)

-- no two answers have one number, but that all that are accepted have 0
pub number_inj : {A : Type 0} (a b : Result A Refusal) → number_of a ≡ number_of b → SameAnswer a b
number_inj (Ok v) (Ok w) e = tt
number_inj (Ok v) (Err s) e = refusal_some s (sym e)
number_inj (Err r) (Ok w) e = refusal_some r e
number_inj (Err r) (Err s) e = refusal_inj r s e

-- ---- an answer that equates with a rule

-- what is accepted where no test applies, and what is refused with the number of one that does
pub accepts : {A : Type 0} (refused value : A) (n : ℕ) → n ≡ 0 → outcome refused (Ok value) ≡ reply_by refused n value
accepts refused value n z = reply_zero refused n value z

pub refuses : {A : Type 0} (refused value : A) (n : ℕ) (r : Refusal) → number r ≡ n → outcome refused (Err r) ≡ reply_by refused n value
refuses refused value n r e = rw e (reply_refused refused n value (λ z. refusal_some r (e ∙ z)))

-- the exit of a `?`, whose error goes on as it is
pub stops : {A : Type 0} (refused value : A) (n : ℕ) (e : Refusal) (r : Result A Refusal) → IsErrAnd r (λ x. x ≡ e) → number e ≡ n
    → outcome refused r ≡ reply_by refused n value
stops refused value n e r same known = let p = err_from_is_err_and r same in rw (p.1, p.2) (refuses refused value n e known)

-- no second outcome: a promise that equates an answer with a rule fixes the answer, its value or its refusal's name
pub one_outcome : {A : Type 0} (refused : A) (a b : Result A Refusal) → outcome refused a ≡ outcome refused b → a ≡ b
one_outcome refused (Ok v) (Ok w) e = λ i. Ok (e i).value
one_outcome refused (Ok v) (Err s) e = absurd (refusal_some s (sym (ap (λ (r : Reply _). r.answer) e)))
one_outcome refused (Err r) (Ok w) e = absurd (refusal_some r (ap (λ (r : Reply _). r.answer) e))
one_outcome refused (Err r) (Err s) e = ap Err (refusal_inj r s (ap (λ (r : Reply _). r.answer) e))
