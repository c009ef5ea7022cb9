-- How the line begins that a user gets.
use Rattle.std.specs.Prelude.{◌≡◌, ◌++◌, ℕ, List, codes, decimal}
use Rattle.messages.specs.declared.fault.Fault.{Fault}
use Rattle.messages.specs.Classes.{number_of, name_of}

-- `error N NAME`
abbrev pub heading_of : Fault → List ℕ
heading_of f = codes "error " ++ decimal (number_of f) ++ codes " " ++ name_of f

-- the text begins with this front
pub record Begins (front text : List ℕ) : Type 0 where
  pub rest : List ℕ
  pub is : text ≡ front ++ rest
