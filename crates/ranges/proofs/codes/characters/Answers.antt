use Rattle.std.proofs.Common.{refl}
use Rattle.asn_base.specs.declared.strings.StringKind.TheVariants.{Numeric, Printable, Ia5, Visible}
use Rattle.ranges.proofs.Tables.{listed_as}
use Rattle.ranges.proofs.codes.characters.Goals as goal

pub returns-in-Numeric : goal.returns-in-Numeric
returns-in-Numeric c = listed_as 287948905469968384 _ Numeric c.in-Numeric.is refl

pub returns-in-Printable : goal.returns-in-Printable
returns-in-Printable c = listed_as 10633823810298882008484724552398536704 _ Printable c.in-Printable.is refl

pub returns-in-Ia5 : goal.returns-in-Ia5
returns-in-Ia5 c = listed_as 340282366920938463463374607431768211455 _ Ia5 c.in-Ia5.is refl

pub returns-in-Visible : goal.returns-in-Visible
returns-in-Visible c = listed_as 170141183460469231731687303711589138432 _ Visible c.in-Visible.is refl
