use Rattle.std.proofs.Common.{◌≡◌, ◌≤◌, take}
use Rattle.std.specs.Str.Parse.{digits_value}
use Rattle.text.specs.Text.{max_number}
use Rattle.text.proofs.words.number_of_digits.Given as goal

abbrev pub invariant-loop-octet : goal.invariant-loop-octet
invariant-loop-octet l = record { value : l.value ≡ digits_value 10 (take l.octet-index l.digits); within : l.value ≤ max_number }
