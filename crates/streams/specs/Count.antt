-- How many bytes reads gave.
use Rattle.std.specs.Prelude.{ℕ, Result, Ok, Err}
use Rattle.streams.specs.declared.ReadFailed.{ReadFailed}

-- up to the buffer's or the input's end, or to the read that failed
abbrev pub count_of : Result ℕ ReadFailed → ℕ
count_of (Ok n) = n
count_of (Err e) = e.count
