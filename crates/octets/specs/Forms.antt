-- The form of an encoding (X.690, 8.1.2.5).
use Rattle.std.specs.Prelude.{Bool, true, false}
use Rattle.octets.specs.declared.form.Form.{Form}
use Rattle.octets.specs.declared.form.Form.TheVariants.{Primitive, Constructed}

-- whether the bit for constructed is set
abbrev pub is_constructed : Form → Bool
is_constructed Primitive = false
is_constructed Constructed = true
