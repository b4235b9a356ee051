-- The line of a verdict (02, W1): "The program prints one line: `table` ..; else `area N` ..; else `page N` ..; else `good`."
-- The byte that ends the line is the program's. Assumes nothing.
use Rattle.std.specs.Prelude.{ℕ, List, ◌++◌, codes, decimal}
use Rattle.audits.specs.declared.Verdict.{Verdict}
use Rattle.audits.specs.declared.Verdict.TheVariants.{Table, Area, Page, Good}

-- N is decimal
abbrev pub verdict_line : Verdict → List ℕ
verdict_line Table = codes "table"
verdict_line (Area n) = codes "area " ++ decimal n
verdict_line (Page n) = codes "page " ++ decimal n
verdict_line Good = codes "good"
