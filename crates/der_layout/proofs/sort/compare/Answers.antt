use Rattle.std.proofs.Common.{rules, ◌≡◌, ◌+◌, ◌<◌, length, sym, ◌∙◌, arith}
use Rattle.der_layout.specs.proving.Words.{word}
use Rattle.der_layout.proofs.Words.{word_less, word_more, word_same, shorter, none_left, zero_from}
use Rattle.der_layout.proofs.sort.compare.Goals as goal

pub returns-then-p-q : goal.returns-then-p-q
returns-then-p-q c =
    let x = c.loop-x.x.now in
    let y = c.loop-x.y.now in
    let h : word x < word y = (let t = c.if-p-q.true in search rules) in
    sym (word_less x y c.first_word-p.ensures.below c.first_word-q.ensures.below h) ∙ c.loop-x.invariant

pub returns-then-q-p : goal.returns-then-q-p
returns-then-q-p c =
    let x = c.loop-x.x.now in
    let y = c.loop-x.y.now in
    let h : word y < word x = (let t = c.if-q-p.true in search rules) in
    sym (word_more x y c.first_word-p.ensures.below c.first_word-q.ensures.below h) ∙ c.loop-x.invariant

pub loop-x-smaller : goal.loop-x-smaller
loop-x-smaller c =
    let x = c.loop-x.x.now in
    let y = c.loop-x.y.now in
    let some : 0 < length x + length y = c.has_more.ensures.0 c.loop-x-test.true in
    shorter x y c.rest_of-x.result.now c.rest_of-y.result.now c.rest_of-x.ensures c.rest_of-y.ensures some

pub loop-x-preserved : goal.loop-x-preserved
loop-x-preserved c =
    let x = c.loop-x.x.now in
    let y = c.loop-x.y.now in
    let e : word x ≡ word y = (let t = c.if-p-q.false in let u = c.if-q-p.false in let f = c.first_word-p.ensures.is in let g = c.first_word-q.ensures.is in omega (arith, t, u, f, g)) in
    (let a = c.rest_of-x.ensures in let b = c.rest_of-y.ensures in let z = word_same x y c.first_word-p.ensures.below c.first_word-q.ensures.below e in let w = c.loop-x.invariant in cc)

pub returns : goal.returns
returns c =
    let x = c.loop-x.x.now in
    let y = c.loop-x.y.now in
    let none : length x + length y ≡ 0 = zero_from (length x + length y) (λ h. let e = c.has_more.ensures.1 h in let f = c.loop-x-test.false in cc) in
    sym (none_left x y none) ∙ c.loop-x.invariant
