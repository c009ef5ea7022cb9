use Rattle.std.proofs.Common.{map, subst}
use Rattle.std.specs.Prelude.{IfErr, OnOk}
use Rattle.trees.specs.Types.{numbered_name, bit_of, an_integer, a_bit_string}
use Rattle.type_table.specs.Lists.{IsSoundPlain}
use Rattle.type_table.specs.Table.{simple}
use Rattle.type_table.specs.proving.Checks.{IsKindFault}
use Rattle.type_table.proofs.lists.simple_list.Goals as goal

pub returns-in-Integer-clause-good : goal.returns-in-Integer-clause-good
returns-in-Integer-clause-good c = rw c.in-Integer.is (subst (λ l. OnOk c.named_numbers.result (IsSoundPlain (an_integer (map numbered_name l)))) c.deref.ensures.value c.named_numbers.ensures.good)

pub returns-in-BitString-clause-good : goal.returns-in-BitString-clause-good
returns-in-BitString-clause-good c = rw c.in-BitString.is (subst (λ l. OnOk c.named_bits.result (IsSoundPlain (a_bit_string (map bit_of l)))) c.deref-in-BitString.ensures.value c.named_bits.ensures.good)

pub returns-in-Integer-clause-fault : goal.returns-in-Integer-clause-fault
returns-in-Integer-clause-fault c =
    rw c.in-Integer.is (subst (λ l. IfErr c.named_numbers.result (IsKindFault c.args.within.now c.args.assigns.now (simple (an_integer (map numbered_name l))))) c.deref.ensures.value (c.named_numbers.ensures.fault c.args.assigns.now))
