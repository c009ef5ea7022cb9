use Rattle.std.proofs.Common.{map, subst}
use Rattle.trees.specs.Values.{member_of}
use Rattle.value_notations.specs.Notations.{field_names}
use Rattle.values.specs.Arranged.{IsNamesFault}
use Rattle.typed_values.proofs.fault.names_cause.Goals as goal

pub returns-in-Unknown : goal.returns-in-Unknown
returns-in-Unknown c = λ w levels left i os ps M n k e cs fs a no h b f. record {
  list = k;
  marked = e;
  parts = cs;
  is = a;
  no_choice = no;
  opened = ps;
  last = h;
  fields = fs;
  in_braces = b;
  such = subst (λ x. IsNamesFault k cs (field_names (map member_of fs)) x) c.in-Unknown.is f;
}

pub returns-in-Repeated : goal.returns-in-Repeated
returns-in-Repeated c = λ w levels left i os ps M n k e cs fs a no h b f. record {
  list = k;
  marked = e;
  parts = cs;
  is = a;
  no_choice = no;
  opened = ps;
  last = h;
  fields = fs;
  in_braces = b;
  such = subst (λ x. IsNamesFault k cs (field_names (map member_of fs)) x) c.in-Repeated.is f;
}

pub returns-in-Missing : goal.returns-in-Missing
returns-in-Missing c = λ w levels left i os ps M n k e cs fs a no h b f. record {
  list = k;
  marked = e;
  parts = cs;
  is = a;
  no_choice = no;
  opened = ps;
  last = h;
  fields = fs;
  in_braces = b;
  such = subst (λ x. IsNamesFault k cs (field_names (map member_of fs)) x) c.in-Missing.is f;
}

pub returns-in-OutOfOrder : goal.returns-in-OutOfOrder
returns-in-OutOfOrder c = λ w levels left i os ps M n k e cs fs a no h b f. record {
  list = k;
  marked = e;
  parts = cs;
  is = a;
  no_choice = no;
  opened = ps;
  last = h;
  fields = fs;
  in_braces = b;
  such = subst (λ x. IsNamesFault k cs (field_names (map member_of fs)) x) c.in-OutOfOrder.is f;
}
