-- The limits of document 01 on pages and frames, named once for everything above. Assumes nothing.
use Rattle.std.specs.Prelude.{ℕ, ◌^◌}

-- 01: "Pages have 4,096 bytes"
abbrev pub page_size : ℕ
page_size = 4096

-- 01: "P from 0 to 65,536"
abbrev pub max_pages : ℕ
max_pages = 65536

-- 01: a linear frame "must be below 2^24"
abbrev pub frame_limit : ℕ
frame_limit = 2 ^ 24

-- 01: "flags at most 15"
abbrev pub max_flags : ℕ
max_flags = 15
