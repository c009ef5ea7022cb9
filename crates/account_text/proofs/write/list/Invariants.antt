use Rattle.std.proofs.Common.{◌≡◌, ◌∷◌, ◌++◌, [], take}
use Rattle.json.specs.Token.{begin_array}
use Rattle.account_text.specs.proving.Tokens.{each_first}
use Rattle.account_text.proofs.write.list.Given as goal

abbrev pub invariant-loop-place : goal.invariant-loop-place
invariant-loop-place l = record {
  before : l.out.before ≡ l.fn.out.before;
  done : l.out.tokens ≡ l.fn.out.tokens ++ begin_array ∷ each_first (take l.place-index l.places) [];
}
