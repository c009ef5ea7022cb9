use Rattle.std.proofs.Common.{ap}
use Rattle.segmented_strings.specs.Joining.{kind_of}
use Rattle.segmented_strings.proofs.ByKind.{other_kind}
use Rattle.segmented_strings.proofs.read.read_kind.Goals as goal

pub returns-in-Boolean-clause-err : goal.returns-in-Boolean-clause-err
returns-in-Boolean-clause-err c = other_kind c.args.kind c.args.room c.args.contents.now (ap kind_of c.in-Boolean.is)

pub returns-in-Integer-clause-err : goal.returns-in-Integer-clause-err
returns-in-Integer-clause-err c = other_kind c.args.kind c.args.room c.args.contents.now (ap kind_of c.in-Integer.is)

pub returns-in-Enumerated-clause-err : goal.returns-in-Enumerated-clause-err
returns-in-Enumerated-clause-err c = other_kind c.args.kind c.args.room c.args.contents.now (ap kind_of c.in-Enumerated.is)

pub returns-in-Null-clause-err : goal.returns-in-Null-clause-err
returns-in-Null-clause-err c = other_kind c.args.kind c.args.room c.args.contents.now (ap kind_of c.in-Null.is)

pub returns-in-ObjectIdentifier-clause-err : goal.returns-in-ObjectIdentifier-clause-err
returns-in-ObjectIdentifier-clause-err c = other_kind c.args.kind c.args.room c.args.contents.now (ap kind_of c.in-ObjectIdentifier.is)

pub returns-in-RelativeOid-clause-err : goal.returns-in-RelativeOid-clause-err
returns-in-RelativeOid-clause-err c = other_kind c.args.kind c.args.room c.args.contents.now (ap kind_of c.in-RelativeOid.is)
