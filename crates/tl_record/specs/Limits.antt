-- The limits of a record text: this project's own.
use Rattle.std.specs.Prelude.{ℕ}

-- how many lines a text may have
abbrev pub most_lines : ℕ
most_lines = 67108864

-- how many bytes a line may have before its line feed, a carriage return counted
abbrev pub most_line_bytes : ℕ
most_line_bytes = 1024

-- how far from 0 a longitude may be, in millionths of a degree
abbrev pub greatest_longitude : ℕ
greatest_longitude = 180000000

-- how far from 0 a latitude may be, in millionths of a degree
abbrev pub greatest_latitude : ℕ
greatest_latitude = 90000000
