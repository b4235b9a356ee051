-- Laws of writing a dump: a number byte by byte, numbers one after the other, and the tests. Assumes nothing.
use Prim.Native.Nat.{ℕ, suc, ◌+◌, ◌*◌, ◌≤◌, ◌<◌}
use mathlib.Core.Path.{◌≡◌, refl, sym, ap, ◌∙◌}
use mathlib.Core.Bool.{Bool, true, false, not}
use mathlib.Core.List.{List, [], ◌∷◌, ◌++◌, append_assoc, append-nil, map, map-id}
use native.Mathlib.Omega.{arith}
use native.Mathlib.Nat.{mul-zero, mul-suc}
use native.Mathlib.Numerals.{add-one}
use lib.Dec.{ltb}
use lib.ListN.{length, get_or, take}
use lib.Seq.{length-take-le, drop-drop, take-suc, take_all}
use borrow.Rule.Slice.PartMut.{put_mid}
use borrow.Author.Tests.{lt-ltb, le-ltb, ltb-true, ltb-false}
use Rattle.lists.proofs.Every.{by_test}
use Rattle.lists.specs.Over.{over}
use Rattle.lists.proofs.Over.{over_nothing}
use Rattle.std.specs.Prelude.{Result}
use Rattle.area.specs.Answer.{number_of, refuse, answer, Reply, reply}
use Rattle.area.specs.declared.Refusal.{Refusal}
use Rattle.area.proofs.Answers.{applies, passes, reply_zero, reply_suc, SameAnswer, number_inj}
use Rattle.area_list.specs.Layout.{words_per_area}
use Rattle.area_list.specs.Good.{good_tables}
use Rattle.rules.specs.Change.{Tables}
use Rattle.lines.specs.Line.{Put, Writes}
use Rattle.lines.specs.declared.Out.{Out}
use Rattle.lines.proofs.Lines.{puts, writes_then}
use Rattle.little_endian.specs.Number.{bytes_of}
use Rattle.little_endian.proofs.Numbers.{length_bytes}
use Rattle.dumps.specs.Dump.{most_areas, most_pages, word_size, entry_size, header_size, entries_at, dump_length, all_bytes, dump_of}
use Rattle.dumps.specs.Write.{write_answer, write_rule}
use Rattle.dumps.proofs.Dumps.{length_all}

-- ---- one number, in a part of the buffer

pub put_in_part : (before : List ℕ) (at k next : ℕ) (text part : List ℕ) → part ≡ text → k ≡ length text → next ≡ at + k → next ≤ length before
    → Put before at text (put_mid at k before part) next
unfolding over
put_in_part before at k next text part e long past room =
    puts before at text (put_mid at k before part) next (omega arith)
    (rw (e, ← long, drop-drop k at before)) (omega arith)

-- ---- one number after the other

all_append : (size : ℕ) (xs ys : List ℕ) → all_bytes size (xs ++ ys) ≡ all_bytes size xs ++ all_bytes size ys
unfolding all_bytes
all_append size [] ys = refl
all_append size (x ∷ xs) ys = rw (all_append size xs ys) (sym (append_assoc (bytes_of size x) (all_bytes size xs) (all_bytes size ys)))

-- the first k numbers are written, and the place is the one after them
pub record Lists (out₀ : Out) (size : ℕ) (ns : List ℕ) (out : Out) (k : ℕ) : Type 0 where
  pub upto : k ≤ length ns
  pub done : Writes out₀ (all_bytes size (take k ns)) out
  pub at_next : out.at ≡ out₀.at + size * k

pub lists_begins : (out : Out) (size : ℕ) (ns : List ℕ) → out.at ≤ length out.bytes.now → Lists out size ns out 0
unfolding all_bytes
lists_begins out size ns room =
    record {
      upto = omega arith;
      done = record {
        same = refl;
        put = puts out.bytes.now out.at [] out.bytes.now out.at (omega arith) (sym (over_nothing out.bytes.now out.at)) (omega arith);
      };
      at_next = omega (arith, mul-zero size);
    }

module _ {out₀ : Out} {size : ℕ} {ns : List ℕ} {out : Out} {k : ℕ} (l : Lists out₀ size ns out k) where
  pub lists_on : (out' : Out) (n : ℕ) → k < length ns → n ≡ get_or ns k 0 → Writes out (bytes_of size n) out'
      → Lists out₀ size ns out' (k + 1)
  unfolding all_bytes
  lists_on out' n more e w =
      let one : bytes_of size n ++ [] ≡ bytes_of size n = append-nil (bytes_of size n) in
      let all : all_bytes size (take (k + 1) ns) ≡ all_bytes size (take k ns) ++ bytes_of size n =
      rw (add-one k, take-suc ns k 0 more, all_append size (take k ns) (get_or ns k 0 ∷ []), ← e, one) in
      record {
        upto = omega arith;
        done = rw all (writes_then l.done w);
        at_next = omega (arith, w.put.past, l.at_next, length_bytes size n, add-one k, mul-suc size k);
      }

  pub lists_ends : length ns ≤ k → Writes out₀ (all_bytes size ns) out
  lists_ends h = rw (take_all k ns h) at l.done

-- words and entries are the numbers that they are
pub put_plain : {a b : Out} (size : ℕ) (ns : List ℕ) → Writes a (all_bytes size (map (λ (n : ℕ). n) ns)) b
    → Writes a (all_bytes size ns) b
put_plain size ns w = rw map-id at w

-- ---- the tests, one after the other

module _ (t : Tables) (out : List ℕ) where
  abbrev good_now : Bool
  good_now = good_tables t.areas t.count (length t.pages)

  pub dump_bad : good_now ≡ false → reply 1 out ≡ write_rule t out
  unfolding write_rule write_answer
  dump_bad g = reply_suc _ _ _ 0 (applies 1 (not good_now) _ (rw g))

  module _ (g : good_now ≡ true) where
    pub dump_areas : most_areas < t.count → reply 1 out ≡ write_rule t out
    unfolding write_rule write_answer
    dump_areas a = reply_suc _ _ _ 0 (passes 1 (not good_now) _ (rw g) ∙ applies 1 (ltb most_areas t.count) _ (lt-ltb most_areas t.count a))

    module _ (a : t.count ≤ most_areas) where
      two_pass : write_answer t out ≡ answer (refuse 1 (ltb most_pages (length t.pages)) ∷ refuse 6 (ltb (length out) (dump_length t.count (length t.pages))) ∷ [])
      unfolding write_answer
      two_pass = passes 1 (not good_now) _ (rw g) ∙ passes 1 (ltb most_areas t.count) _ (le-ltb most_areas t.count a)

      pub dump_pages : most_pages < length t.pages → reply 1 out ≡ write_rule t out
      unfolding write_rule
      dump_pages p = reply_suc _ _ _ 0 (two_pass ∙ applies 1 (ltb most_pages (length t.pages)) _ (lt-ltb most_pages (length t.pages) p))

      module _ (p : length t.pages ≤ most_pages) where
        room_decides : write_answer t out ≡ answer (refuse 6 (ltb (length out) (dump_length t.count (length t.pages))) ∷ [])
        room_decides = two_pass ∙ passes 1 (ltb most_pages (length t.pages)) _ (le-ltb most_pages (length t.pages) p)

        pub dump_short : length out < dump_length t.count (length t.pages) → reply 6 out ≡ write_rule t out
        unfolding write_rule
        dump_short h =
            reply_suc _ _ _ 5
            (room_decides ∙ applies 6 (ltb (length out) (dump_length t.count (length t.pages))) [] (lt-ltb (length out) (dump_length t.count (length t.pages)) h))

        pub dump_done : dump_length t.count (length t.pages) ≤ length out → {out' : List ℕ} → out' ≡ over out 0 (dump_of t) → reply 0 out' ≡ write_rule t out
        unfolding write_rule answer
        dump_done h e =
            ap (reply 0) e
            ∙ reply_zero _ _ _
            (room_decides ∙ passes 6 (ltb (length out) (dump_length t.count (length t.pages))) [] (le-ltb (length out) (dump_length t.count (length t.pages)) h))

-- no second outcome
pub record OneOutcome (a b : Result ℕ Refusal) (v w : List ℕ) : Type 0 where
  pub answers : SameAnswer a b
  pub values : v ≡ w

pub dump_unique : (t : Tables) (out : List ℕ) (a b : Result ℕ Refusal) (v w : List ℕ)
    → reply (number_of a) v ≡ write_rule t out → reply (number_of b) w ≡ write_rule t out → OneOutcome a b v w
dump_unique t out a b v w p q =
    let e : reply (number_of a) v ≡ reply (number_of b) w = p ∙ sym q in
    record { answers = number_inj a b (λ i. (e i).answer); values = λ i. (e i).value }

-- ---- what the four parts make together

module _ (t : Tables) {a b : Out} (x : Writes a (bytes_of word_size t.count) b) where
  pub first_past : (b.at ≡ a.at + word_size) × (length b.bytes.now ≡ length a.bytes.now)
  first_past = (x.put.past ∙ omega (arith, length_bytes word_size t.count), x.put.long)

  module _ {c : Out} (y : Writes b (bytes_of word_size (length t.pages)) c) where
    pub header_past : (c.at ≡ a.at + header_size) × (length c.bytes.now ≡ length a.bytes.now)
    header_past = (y.put.past ∙ omega (arith, first_past, length_bytes word_size (length t.pages)), y.put.long ∙ x.put.long)

    module _ (room : words_per_area * t.count ≤ length t.areas) {d : Out}
        (z : Writes c (all_bytes word_size (take (words_per_area * t.count) t.areas)) d) where
      pub words_past : (d.at ≡ a.at + entries_at t.count) × (length d.bytes.now ≡ length a.bytes.now)
      words_past = (
        z.put.past
            ∙ omega (arith, header_past, length_all word_size (take (words_per_area * t.count) t.areas), length-take-le (words_per_area * t.count) t.areas room),
        z.put.long ∙ y.put.long ∙ x.put.long,
      )

      pub all_written : {e : Out} → Writes d (all_bytes entry_size t.pages) e → Writes a (dump_of t) e
      unfolding dump_of all_bytes
      all_written w =
          rw (append_assoc (bytes_of word_size t.count) (bytes_of word_size (length t.pages)) (all_bytes word_size (take (words_per_area * t.count) t.areas)))
          at (writes_then (writes_then (writes_then x y) z) w)

-- ---- what is known of a dump that was written

module _ (t : Tables) (out : List ℕ) (n : ℕ) (after : List ℕ) (r : reply n after ≡ write_rule t out) (z : n ≡ 0) where
  not_refused : (k : ℕ) → reply (suc k) out ≡ write_rule t out → ⊥
  not_refused k e = omega (arith, z, ap (λ (x : Reply (List ℕ)). x.answer) (r ∙ sym e))

  written_good : good_tables t.areas t.count (length t.pages) ≡ true
  written_good =
      by_test (good_tables t.areas t.count (length t.pages)) (λ g. g) (λ g. absurd (not_refused 0 (dump_bad t out g)))

  pub written_areas : t.count ≤ most_areas
  written_areas =
      by_test (ltb most_areas t.count)
      (λ p. absurd (not_refused 0 (dump_areas t out written_good (ltb-true most_areas t.count p))))
      (λ p. ltb-false most_areas t.count p)

  pub written_pages : length t.pages ≤ most_pages
  written_pages =
      by_test (ltb most_pages (length t.pages))
      (λ p. absurd (not_refused 0 (dump_pages t out written_good written_areas (ltb-true most_pages (length t.pages) p))))
      (λ p. ltb-false most_pages (length t.pages) p)

  pub written_room : dump_length t.count (length t.pages) ≤ length out
  written_room =
      by_test (ltb (length out) (dump_length t.count (length t.pages)))
      (λ p. absurd
      (not_refused 5 (dump_short t out written_good written_areas written_pages (ltb-true (length out) (dump_length t.count (length t.pages)) p))))
      (λ p. ltb-false (length out) (dump_length t.count (length t.pages)) p)
