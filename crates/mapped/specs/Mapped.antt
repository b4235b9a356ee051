-- The number of pages under areas, found by going through a walk. 01 has no such call: it stands for all that a caller does with a
-- walk. Laws: `proofs/Sum.antt`. Assumes nothing.
use Rattle.std.specs.Prelude.{ℕ, ◌+◌, ◌-◌, List, [], ◌∷◌, Result}
use Rattle.area.specs.Answer.{Reply, reply_by, outcome}
use Rattle.area.specs.declared.Refusal.{Refusal}
use Rattle.area.specs.Area.{first_page, end_page}
use Rattle.area.specs.declared.Area.{Area}
use Rattle.area_list.specs.Layout.{rows}
use Rattle.questions.specs.Tests.{tables_answer}

-- the pages from an area's first up to its last
abbrev pub pages_of : Area → ℕ
pages_of a = end_page a - first_page a

unfoldable pub pages_under : List Area → ℕ
pages_under [] = 0
pages_under (a ∷ rest) = pages_of a + pages_under rest

-- ---- an answer as every other: 0 in a refusal

abbrev pub mapped_outcome : Result ℕ Refusal → Reply ℕ
mapped_outcome = outcome 0

unfoldable pub mapped_rule : List ℕ → List ℕ → ℕ → Reply ℕ
mapped_rule areas pages count = reply_by 0 (tables_answer areas pages count) (pages_under (rows areas count))
