use Rattle.tagging.proofs.Clashes.{PutsTo}
use Rattle.tagging.proofs.lists.put_all.Given as goal

abbrev pub invariant-loop-tag : goal.invariant-loop-tag
invariant-loop-tag l = PutsTo l.tags l.tag-index l.fn.seen.keys l.seen.keys
