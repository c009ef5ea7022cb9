-- When an answer is the one that its row wants.
use Rattle.std.specs.Prelude.{ℕ, ◌-◌, Bool, not, List, length, take, filter, nat_eq, bytes_eq, codes, if◌then◌else◌}
use Rattle.std.specs.Char.{is_ascii_whitespace}
use Rattle.std.specs.List.{starts_with, ends_with}

-- the octets of a text without white space
abbrev pub dense : List ℕ → List ℕ
dense = filter (λ b. not (is_ascii_whitespace b))

-- Whether an answer is the wanted text. If `..` ends that, the answer begins with what is before the `..`. White space
-- doesn't count.
abbrev pub is_as_wanted : List ℕ → List ℕ → Bool
is_as_wanted wanted answer =
    let w = dense wanted in
    if ends_with nat_eq w (codes "..") then starts_with nat_eq (dense answer) (take (length w - 2) w)
    else bytes_eq (dense answer) w
