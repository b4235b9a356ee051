-- Laws of a step: the line of an answer, a request's outcome from its change and its line, that no line is too long, and that there
-- is no second outcome. Assumes nothing.
use Prim.Native.Nat.{ℕ, zero, suc, ◌≤◌}
use mathlib.Core.Path.{◌≡◌, refl, ap, ◌∙◌}
use mathlib.Core.Bool.{cond}
use mathlib.Core.List.{List}
use native.Mathlib.Omega.{arith}
use lib.ListN.{length}
use mathlib.Core.Bool.{Bool}
use Rattle.page_table.specs.declared.Backend.{Backend}
use Rattle.std.specs.Prelude.{Result, Ok, Err, IsErrAnd, MatchResult}
use Rattle.area.specs.Answer.{number, Reply, reply}
use Rattle.area.specs.declared.Refusal.{Refusal}
use Rattle.area.proofs.Answers.{refusal_some}
use Rattle.rules.specs.Change.{Tables}
use Rattle.questions.specs.Question.{overlaps_rule}
use Rattle.lines.specs.Line.{no_line, longest_line, line_bytes}
use Rattle.lines.proofs.Lines.{line_short}
use Rattle.runs.specs.Step.{ran, step_outcome, result_line, answer_line, changed_ran, run_rule, step_rule, change_rule, asked_line}
use Rattle.runs.specs.declared.Stepped.{Stepped}
use Rattle.lines.specs.declared.Line.{Line}
use Rattle.lines.specs.declared.Line.TheVariants as line
use Rattle.requests.specs.Request.{request_of}
use Rattle.requests.specs.declared.Request.{Request}
use Rattle.requests.specs.declared.Request.TheVariants as request

no_line_lem : (n : ℕ) (line : List ℕ) → (n ≡ 0 → ⊥) → no_line n ≡ answer_line n line
unfolding answer_line
no_line_lem zero line z = absurd (z refl)
no_line_lem (suc n) line z = refl

pub accepted_line : {said line : List ℕ} → said ≡ line → said ≡ answer_line 0 line
unfolding answer_line
accepted_line e = e

pub refused_line : (refusal : Refusal) (line : List ℕ) → no_line (number refusal) ≡ answer_line (number refusal) line
refused_line refusal line = no_line_lem (number refusal) line (refusal_some refusal)

-- what is said of an answer
pub result_spoken : (answer : Result Line Refusal) (said : Line)
    → MatchResult answer (λ l. said ≡ l) (λ r. said ≡ line.No (Err r)) → line_bytes said ≡ result_line answer
unfolding line_bytes
result_spoken (Ok l) said e = ap line_bytes e
result_spoken (Err r) said e = rw e

-- the exit of a `?`
pub asked_refused : (answer : Result Line Refusal) (refusal : Refusal) (line : List ℕ) {rule : List ℕ} → IsErrAnd answer (λ r. r ≡ refusal)
    → answer_line (number refusal) line ≡ rule → result_line answer ≡ rule
asked_refused (Ok l) refusal line h e = absurd h
asked_refused (Err r) refusal line h e = rw h (refused_line refusal line ∙ e)

-- ---- the change

-- find, overlaps, search and a bad request change nothing
pub no_change : (t : Tables) (r : Request) → ((start size flags : ℕ) (backend : Backend) (replace : Bool) → r ≡ request.Map start size flags backend replace → ⊥)
    → ((start size : ℕ) → r ≡ request.Unmap start size → ⊥) → ((start size set clear : ℕ) → r ≡ request.Protect start size set clear → ⊥)
    → (r ≡ request.Clear → ⊥) → reply 0 t ≡ change_rule t r
unfolding change_rule
no_change t (request.Map start size flags backend replace) m u p c = absurd (m start size flags backend replace refl)
no_change t (request.Unmap start size) m u p c = absurd (u start size refl)
no_change t (request.Protect start size set clear) m u p c = absurd (p start size set clear refl)
no_change t (request.Find address) m u p c = refl
no_change t (request.Overlaps start size) m u p c = refl
no_change t (request.Search hint size limit align) m u p c = refl
no_change t request.Clear m u p c = absurd (c refl)
no_change t request.Bad m u p c = refl

-- ---- the line where the change is accepted

-- map, unmap, protect and clear
pub change_ok : (t : Tables) (r : Request) → ((address : ℕ) → r ≡ request.Find address → ⊥) → ((start size : ℕ) → r ≡ request.Overlaps start size → ⊥)
    → ((hint size limit align : ℕ) → r ≡ request.Search hint size limit align → ⊥) → (r ≡ request.Bad → ⊥) → line_bytes line.Ok ≡ asked_line t r
unfolding asked_line
change_ok t (request.Map start size flags backend replace) f o s b = refl
change_ok t (request.Unmap start size) f o s b = refl
change_ok t (request.Protect start size set clear) f o s b = refl
change_ok t (request.Find address) f o s b = absurd (f address refl)
change_ok t (request.Overlaps start size) f o s b = absurd (o start size refl)
change_ok t (request.Search hint size limit align) f o s b = absurd (s hint size limit align refl)
change_ok t request.Clear f o s b = refl
change_ok t request.Bad f o s b = absurd (b refl)

-- ---- both together

module _ (t after : Tables) (n : ℕ) (said : List ℕ) where
  changed : (rule : Reply Tables) → reply n after ≡ rule → said ≡ answer_line n (line_bytes line.Ok) → ran after said ≡ changed_ran rule
  changed rule c e = rw (e, ← c)

  asked : (r : Request) → reply n after ≡ reply 0 t → said ≡ answer_line n (asked_line after r) → ran after said ≡ ran t (asked_line t r)
  unfolding answer_line
  asked r c e =
      let accepted : n ≡ 0 = ap (λ (x : Reply Tables). x.answer) c in
      let left : after ≡ t = ap (λ (x : Reply Tables). x.value) c in
      rw (e, accepted, left)

  pub two_steps : (r : Request) → reply n after ≡ change_rule t r → said ≡ answer_line n (asked_line after r) → ran after said ≡ run_rule t r
  unfolding change_rule asked_line run_rule
  two_steps (request.Map start size flags backend replace) c e = changed _ c e
  two_steps (request.Unmap start size) c e = changed _ c e
  two_steps (request.Protect start size set clear) c e = changed _ c e
  two_steps (request.Find address) c e = asked (request.Find address) c e
  two_steps (request.Overlaps start size) c e = asked (request.Overlaps start size) c e
  two_steps (request.Search hint size limit align) c e = asked (request.Search hint size limit align) c e
  two_steps request.Clear c e = changed _ c e
  two_steps request.Bad c e = asked request.Bad c e

-- ---- no line is longer than the longest

answer_short : (n : ℕ) (line : Line) → length (answer_line n (line_bytes line)) ≤ longest_line
unfolding answer_line
answer_short zero line = line_short line
answer_short (suc n) line = omega arith

run_short : (t : Tables) (r : Request) → length (run_rule t r).line ≤ longest_line
unfolding run_rule
run_short t (request.Map start size flags backend replace) = answer_short _ line.Ok
run_short t (request.Unmap start size) = answer_short _ line.Ok
run_short t (request.Protect start size set clear) = answer_short _ line.Ok
run_short t (request.Find address) = answer_short _ (line.In _ _)
run_short t (request.Overlaps start size) = answer_short _ (cond (overlaps_rule t.areas t.pages t.count start size).value line.Over line.Free)
run_short t (request.Search hint size limit align) = answer_short _ (line.At _)
run_short t request.Clear = answer_short _ line.Ok
run_short t request.Bad = line_short line.Bad

pub step_short : (t : Tables) (bytes : List ℕ) → length (step_rule t bytes).line ≤ longest_line
unfolding step_rule
step_short t bytes = run_short t (request_of bytes)

-- ---- no second outcome

-- the counts, every word of both tables and the bytes of the lines
pub record SameStep (r s : Stepped) (areas areas' pages pages' : List ℕ) : Type 0 where
  pub counts : r.count ≡ s.count
  pub area_words : areas ≡ areas'
  pub page_entries : pages ≡ pages'
  pub lines : line_bytes r.line ≡ line_bytes s.line

pub step_unique : (r s : Stepped) (areas areas' pages pages' : List ℕ) → step_outcome r areas pages ≡ step_outcome s areas' pages'
    → SameStep r s areas areas' pages pages'
step_unique r s areas areas' pages pages' e =
    record {
      counts = λ i. (e i).tables.count;
      area_words = λ i. (e i).tables.areas;
      page_entries = λ i. (e i).tables.pages;
      lines = λ i. (e i).line;
    }
