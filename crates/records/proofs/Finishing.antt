-- Laws of the end of the input: `cut`, the listing, area by area, and its answers. Assumes nothing.
use Prim.Native.Nat.{ℕ, zero, suc, ◌+◌, ◌*◌, ◌≤◌, ◌<◌}
use mathlib.Core.Path.{◌≡◌, refl, sym, ap, ◌∙◌}
use mathlib.Core.Bool.{true, false}
use mathlib.Core.List.{List, [], ◌∷◌, ◌++◌, append_assoc, append-nil}
use native.Mathlib.Numerals.{add-one}
use native.Mathlib.Omega.{arith}
use lib.ListN.{length, take, get_or}
use lib.Seq.{take-suc, take_all}
use borrow.Author.Tests.{lt-ltb, le-ltb}
use Rattle.area.specs.Answer.{answer, Reply, reply}
use Rattle.area.specs.Area.{nothing}
use Rattle.area.specs.declared.Area.{Area}
use Rattle.area.proofs.Answers.{reply_zero, reply_refused}
use Rattle.area_list.specs.Good.{good_tables}
use Rattle.area_list.specs.Layout.{rows}
use Rattle.lines.specs.Line.{longest_line, line_bytes, Put}
use Rattle.records.specs.Feed.{cut_line, area_line, listing, room_to_finish, finish_answer, finish_rule}
use Rattle.lines.specs.declared.Line.TheVariants as line
use Rattle.lists.proofs.Every.{by_test}
use Rattle.questions.specs.Tests.{tables_answer}
use Rattle.questions.proofs.Answering.{tables_bad, tables_good}
use Rattle.records.proofs.Feeding.{put_nothing}
use Rattle.lines.proofs.Lines.{put_then, line_short}

-- ---- cut

pub no_cut : (out : List ℕ) (filled : ℕ) → filled ≡ 0 → Put out 0 (cut_line filled) out 0
unfolding cut_line
no_cut out filled e = rw e (put_nothing out 0 (omega arith))

pub a_cut : {out out' : List ℕ} {at : ℕ} (filled : ℕ) → (filled ≡ 0 → ⊥) → Put out 0 (line_bytes line.Cut) out' at → Put out 0 (cut_line filled) out' at
unfolding cut_line
a_cut zero h p = absurd (h refl)
a_cut (suc n) h p = p

pub cut_short : (filled : ℕ) → length (cut_line filled) ≤ longest_line
unfolding cut_line
cut_short zero = omega arith
cut_short (suc n) = line_short line.Cut

-- ---- the listing

listing_append : (xs ys : List Area) → listing (xs ++ ys) ≡ listing xs ++ listing ys
unfolding listing
listing_append [] ys = refl
listing_append (x ∷ xs) ys = rw (listing_append xs ys) (sym (append_assoc (area_line x) (listing xs) (listing ys)))

listing_more : (list : List Area) (k : ℕ) → k < length list → listing (take (k + 1) list) ≡ listing (take k list) ++ area_line (get_or list k nothing)
unfolding listing
listing_more list k h =
    rw (add-one k, take-suc list k nothing h, listing_append (take k list) (get_or list k nothing ∷ []), append-nil (area_line (get_or list k nothing)))

-- the loop over slots: the lines of the first areas are put, from a place on
pub record Lists (list : List Area) (out₀ : List ℕ) (at₀ : ℕ) (out : List ℕ) (at slot : ℕ) : Type 0 where
  pub upto : slot ≤ length list
  pub put : Put out₀ at₀ (listing (take slot list)) out at
  pub short : at ≤ at₀ + longest_line * slot

pub lists_begin : (list : List Area) (out : List ℕ) (at : ℕ) → at ≤ length out → Lists list out at out at 0
unfolding listing
lists_begin list out at h = record { upto = omega arith; put = put_nothing out at h; short = omega arith }

module _ {list : List Area} {out₀ : List ℕ} {at₀ : ℕ} {out : List ℕ} {at slot : ℕ} (l : Lists list out₀ at₀ out at slot) where
  pub lists_on : slot < length list → (area : Area) → area ≡ get_or list slot nothing → {out' : List ℕ} {at' : ℕ}
      → Put out at (area_line area) out' at' → Lists list out₀ at₀ out' at' (slot + 1)
  lists_on h area e p =
      record {
        upto = omega arith;
        put = rw (listing_more list slot h, ← e) (put_then l.put p);
        short = omega (arith, l.short, p.past, line_short (line.Area area.start area.end area.flags));
      }

  pub lists_end : length list ≤ slot → Put out₀ at₀ (listing list) out at
  lists_end h = rw (take_all slot list h) at l.put

-- ---- the answers

module _ (areas pages : List ℕ) (count filled : ℕ) (out : List ℕ) where
  finish_refused : (n : ℕ) → (n ≡ 0 → ⊥) → finish_answer areas pages count (length out) ≡ n
      → (n ≡ (finish_rule areas pages count filled (length out)).answer) × Put out 0 (finish_rule areas pages count filled (length out)).value out 0
  unfolding finish_rule
  finish_refused n h e =
      let rule : reply n [] ≡ finish_rule areas pages count filled (length out) =
      rw e (reply_refused [] n (cut_line filled ++ listing (rows areas count)) h) in
      (ap (λ (r : Reply (List ℕ)). r.answer) rule, rw (← rule) (put_nothing out 0 (omega arith)))

  pub finish_bad : good_tables areas count (length pages) ≡ false
      → (1 ≡ (finish_rule areas pages count filled (length out)).answer) × Put out 0 (finish_rule areas pages count filled (length out)).value out 0
  unfolding finish_answer answer
  finish_bad g = finish_refused 1 (λ z. omega arith) (rw g)

  pub finish_stops : (n : ℕ) → n ≡ tables_answer areas pages count → (n ≡ 0 → ⊥)
      → (n ≡ (finish_rule areas pages count filled (length out)).answer) × Put out 0 (finish_rule areas pages count filled (length out)).value out 0
  finish_stops n e h =
      by_test (good_tables areas count (length pages))
      (λ g. absurd (h (e ∙ tables_good areas pages count g)))
      (λ g. rw (e ∙ tables_bad areas pages count g) (finish_bad g))

  module _ (g : good_tables areas count (length pages) ≡ true) where
    pub finish_no_room : length out < room_to_finish count
        → (6 ≡ (finish_rule areas pages count filled (length out)).answer) × Put out 0 (finish_rule areas pages count filled (length out)).value out 0
    unfolding finish_answer answer
    finish_no_room h = finish_refused 6 (λ z. omega arith) (rw (g, lt-ltb (length out) (room_to_finish count) h))

    finish_passes : room_to_finish count ≤ length out → finish_answer areas pages count (length out) ≡ 0
    unfolding finish_answer answer
    finish_passes h = rw (g, le-ltb (length out) (room_to_finish count) h)

    pub finish_done : room_to_finish count ≤ length out → {out' : List ℕ} {at : ℕ} → Put out 0 (cut_line filled ++ listing (rows areas count)) out' at
        → (0 ≡ (finish_rule areas pages count filled (length out)).answer) × Put out 0 (finish_rule areas pages count filled (length out)).value out' at
    unfolding finish_rule
    finish_done h p =
        let rule : reply 0 (cut_line filled ++ listing (rows areas count)) ≡ finish_rule areas pages count filled (length out) =
        reply_zero [] _ (cut_line filled ++ listing (rows areas count)) (finish_passes h) in
        (ap (λ (r : Reply (List ℕ)). r.answer) rule, rw (← rule) p)
