use Rattle.std.proofs.Common.{◌↔◌, ◌++◌, List, length}
use Rattle.text.specs.declared.token.TokenKind.{TokenKind}
use Rattle.expected_tokens.specs.declared.rules.Term.{Term}
use Rattle.expected_tokens.specs.Leading.{Derives, kinds_of, start_symbol}
use Rattle.expected_tokens.specs.proving.Next.{DerivesAny, parts_of}
use Rattle.expected_tokens.proofs.stacks.stacks_after.Given as goal

abbrev pub invariant-loop-kind : goal.invariant-loop-kind
invariant-loop-kind l = (ts : List TokenKind) (js : List Term)
    → Derives start_symbol (kinds_of l.fn.tokens ++ ts) js ↔ DerivesAny (parts_of l.stacks) (kinds_of l.left ++ ts) js

abbrev pub decreases-loop-kind : goal.decreases-loop-kind
decreases-loop-kind l = length l.left
