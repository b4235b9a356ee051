-- Laws of lines: texts put one after another, hex digits from the last to the first, how long a line is. Assumes nothing.
use Prim.Native.Nat.{ℕ, zero, suc, ◌+◌, ◌-◌, ◌/◌, ◌%◌, ◌≤◌, ◌<◌}
use mathlib.Core.Path.{◌≡◌, refl, sym, ap, ◌∙◌}
use mathlib.Core.List.{List, [], ◌∷◌, ◌++◌, append_assoc}
use native.Mathlib.Omega.{arith}
use lib.ListN.{length, get_or, take, set, length-append}
use lib.Seq.{take_at, get_or_at, get_or-take, take-take, take_all}
use borrow.Rule.Slice.PartMut.{put_mid, Post-is}
use Rattle.lists.specs.Over.{over}
use Rattle.lists.proofs.Over.{over_right, over_nothing, over_one, length_over, Falls, fall_begins, fall_goes_on, fall_ends}
use Rattle.std.specs.Prelude.{Result, Ok as Fine, Err}
use Rattle.area.specs.Answer.{number_of}
use Rattle.area.specs.declared.Refusal.{Refusal}
use Rattle.area.specs.declared.Refusal.TheVariants.{BadTables, NotAligned, InvalidParam, AlreadyExists, BadState, NoRoom, NotFound}
use Rattle.lines.specs.Line.{digit, hex, address, range_length, range_bytes, longest_line, line_bytes, Put, Writes}
use Rattle.lines.specs.declared.Line.{Line}
use Rattle.lines.specs.declared.Out.{Out}
use Rattle.lines.specs.declared.Line.TheVariants.{Ok, No, In, At, Over, Free, Bad, Cut, Area}

-- ---- putting

-- a list laid over the buffer, and the place after it
pub puts : (before : List ℕ) (at : ℕ) (text after : List ℕ) (next : ℕ)
    → at + length text ≤ length before → after ≡ over before at text → next ≡ at + length text → Put before at text after next
puts before at text after next room e n =
    record { room = room; long = ap length e ∙ length_over before at text room; written = e; past = n }

-- a part of the buffer that was given the text
pub put_part : (before : List ℕ) (at : ℕ) (text part : List ℕ) → at + length text ≤ length before → part ≡ text
    → Put before at text (put_mid at (at + length text - at) before part) (at + length text)
unfolding over
put_part before at text part room e =
    puts before at text _ _ room (rw (e, Post-is at (at + length text) before (omega arith))) (omega arith)

-- one text after another
pub put_then : {a b c xs ys : List ℕ} {p q r : ℕ} → Put a p xs b q → Put b q ys c r → Put a p (xs ++ ys) c r
put_then {a} {b} {c} {xs} {ys} {p} {q} {r} s t =
    puts a p (xs ++ ys) c r (omega (arith, length-append xs ys, s.past, s.long, t.room))
    (t.written ∙ rw (s.written, s.past) (over_right a p xs ys (omega (arith, s.room))))
    (omega (arith, length-append xs ys, s.past, t.past))

pub writes_then : {a b c : Out} {xs ys : List ℕ} → Writes a xs b → Writes b ys c → Writes a (xs ++ ys) c
writes_then s t = record { same = t.same ∙ s.same; put = put_then s.put t.put }

-- no second outcome: the same text at the same place leaves the same bytes and the same place after it
pub record SamePut (after after' : List ℕ) (next next' : ℕ) : Type 0 where
  pub bytes : after ≡ after'
  pub places : next ≡ next'

pub put_unique : {a b c text : List ℕ} {p q r : ℕ} → Put a p text b q → Put a p text c r → SamePut b c q r
put_unique s t = record { bytes = s.written ∙ sym t.written; places = s.past ∙ sym t.past }

pub put_nothing : (before : List ℕ) (at : ℕ) → at ≤ length before → Put before at [] before at
put_nothing before at h = puts before at [] before at (omega arith) (sym (over_nothing before at)) (omega arith)

pub put_one : (before : List ℕ) (at byte : ℕ) → at < length before → Put before at (byte ∷ []) (set before at byte) (at + 1)
put_one before at byte h = puts before at (byte ∷ []) (set before at byte) (at + 1) (omega arith) (over_one before at byte h) (omega arith)

-- ---- hex digits

pub length_hex : (n v : ℕ) → length (hex n v) ≡ n
unfolding hex
length_hex zero v = refl
length_hex (suc n) v = length-append (hex n (v / 16)) (digit (v % 16) ∷ []) ∙ omega (arith, length_hex n (v / 16))

-- the loop over digits: k of them are left, those of rest
pub record Spells (out₀ : List ℕ) (at digits value : ℕ) (out : List ℕ) (k rest : ℕ) : Type 0 where
  pub falls : Falls at (hex digits value) k out₀ out
  pub left : take k (hex digits value) ≡ hex k rest

pub spells_begins : (out : List ℕ) (at digits value : ℕ) → Spells out at digits value out digits value
spells_begins out at digits value =
    record {
      falls = fall_begins at (hex digits value) out digits (sym (length_hex digits value));
      left = take_all digits (hex digits value) (omega (arith, length_hex digits value));
    }

module _ {out₀ : List ℕ} {at digits value : ℕ} {out : List ℕ} {k rest : ℕ} (s : Spells out₀ at digits value out k rest) where
  module _ (j : ℕ) (e : k ≡ suc j) where
    step : take (suc j) (hex digits value) ≡ hex j (rest / 16) ++ (digit (rest % 16) ∷ [])
    unfolding hex
    step = rw e at s.left

    last : digit (rest % 16) ≡ get_or (hex digits value) j 0
    last =
        sym (get_or_at (hex j (rest / 16)) (digit (rest % 16)) [] 0 j (length_hex j (rest / 16)))
        ∙ rw (← step) (get_or-take (suc j) (hex digits value) j 0 (omega arith))

    before_last : take j (hex digits value) ≡ hex j (rest / 16)
    before_last =
        sym (take-take j (suc j) (hex digits value) (omega arith))
        ∙ rw step (take_at (hex j (rest / 16)) (digit (rest % 16) ∷ []) j (length_hex j (rest / 16)))

    pub spells_on : at + digits < length out₀ → (byte : ℕ) → byte ≡ digit (rest % 16) → Spells out₀ at digits value (set out (at + j) byte) j (rest / 16)
    spells_on room byte b =
        record {
          falls = fall_goes_on s.falls (omega (arith, length_hex digits value)) j byte e (b ∙ last);
          left = before_last;
        }

  pub spells_ends : at + digits < length out₀ → k ≡ 0 → (after : ℕ)
      → Put out₀ at (hex digits value ++ (after ∷ [])) (set out (at + digits) after) (at + digits + 1)
  spells_ends room e after =
      put_then
      (puts out₀ at (hex digits value) out (at + digits) (omega (arith, length_hex digits value)) (fall_ends s.falls e)
      (omega (arith, length_hex digits value)))
      (put_one out (at + digits) after (omega (arith, s.falls.long)))

-- ---- lengths

pub length_range : (start end : ℕ) → length (range_bytes start end) ≡ range_length
unfolding range_bytes
length_range start end = simp (length-append, length_hex)

pub number_small : {A : Type 0} (a : Result A Refusal) → number_of a < 10
number_small (Fine value) = omega arith
number_small (Err BadTables) = omega arith
number_small (Err NotAligned) = omega arith
number_small (Err InvalidParam) = omega arith
number_small (Err AlreadyExists) = omega arith
number_small (Err BadState) = omega arith
number_small (Err NoRoom) = omega arith
number_small (Err NotFound) = omega arith

pub line_short : (line : Line) → length (line_bytes line) ≤ longest_line
unfolding line_bytes
line_short Ok = omega arith
line_short (No a) = omega arith
line_short (In start end) = simp (length-append, length_range) (omega arith)
line_short (At a) = simp (length-append, length_hex) (omega arith)
line_short Over = omega arith
line_short Free = omega arith
line_short Bad = omega arith
line_short Cut = omega arith
line_short (Area start end flags) = simp (length-append, length_range, length_hex) (omega arith)

-- ---- the texts of a line, one after another

-- each number is put with the byte after it
pub writes_spaced : {a b c : Out} (start end after : ℕ)
    → Writes a (address start ++ (32 ∷ [])) b → Writes b (address end ++ (after ∷ [])) c → Writes a (range_bytes start end ++ (after ∷ [])) c
unfolding range_bytes
writes_spaced start end after s t = simp append_assoc (simp append_assoc at (writes_then s t))

-- the line of an answer, by its number's digit
pub no_line_lem : (answer : Result (Unit {0}) Refusal) (n k : ℕ) → n ≡ number_of answer → k ≡ digit n
    → line_bytes (No answer) ≡ 110 ∷ 111 ∷ 32 ∷ k ∷ 10 ∷ []
unfolding line_bytes
no_line_lem answer n k e f = rw (f, e)

-- an answer's number is one digit
pub number_digit : {A : Type 0} (a : Result A Refusal) → digit (number_of a) ≡ digit (number_of a % 16)
number_digit a = let e : number_of a ≡ number_of a % 16 = omega (arith, number_small a) in ap digit e
