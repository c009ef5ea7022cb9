-- The exit status of a program that ends with a fault of a class.
use Rattle.std.specs.Prelude.{ℕ, ◌==◌, ◌||◌, if◌then◌else◌}

-- 0: help was asked for; 2: a bad command line; 3: memory, a file or a device; 1: refused
abbrev pub status_of : ℕ → ℕ
status_of n = if n == 5 then 0 else (if n == 4 then 2 else (if (n == 1) || ((n == 3) || (n == 72)) then 3 else 1))
