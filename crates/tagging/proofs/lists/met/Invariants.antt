use Rattle.tagging.proofs.Clashes.{NoneTo}
use Rattle.tagging.proofs.lists.met.Given as goal

abbrev pub invariant-loop-tag : goal.invariant-loop-tag
invariant-loop-tag l = NoneTo l.tags l.tag-index l.seen.keys
