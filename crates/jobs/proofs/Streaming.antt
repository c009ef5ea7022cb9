-- How far a stream is: the lines that were taken, their answers, and what the sink has of them.
use Rattle.std.proofs.Common.{◌≡◌, ◌⊎◌, ℕ, ◌+◌, ◌<◌, Bool, true, false, ◌&&◌, List, [], ◌∷◌, ◌++◌, length, take, Option, Some, None, IfSome, flat_map, suc, refl, sym, ap, subst, ◌∙◌, append_assoc, append-nil, arith}
use Rattle.std.specs.Prelude.{⊤}
use Rattle.std.specs.List.{list_all}
use Rattle.std.specs.Io.KnownBytes.{Appends}
use Rattle.std.proofs.KnownBytes.{Appends-nil, Appends-trans}
use Rattle.input_lines.specs.Lines.{HasNoLine, TakesLine, lines_of}
use Rattle.sinks.specs.Sent.{SinkState, SentAll, SentFront}
use Rattle.asnc.specs.messages.declared.fault.Fault.{Fault}
use Rattle.jobs.specs.Answers.{IsLineAnswer}
use Rattle.jobs.specs.Streams.{AreAnswers, AreFirst, AreReplies, EndsStream, IsStopped, IsStreamed, IsStreamedInPart}
use Rattle.jobs.specs.Streams.{Reply, Stream}

-- ---- lines

-- these are the first lines of known octets, and those of the others are left
abbrev pub TakesLines : (a b : Option (List ℕ)) → List (List ℕ) → Type 0
TakesLines None b ls = ⊤
TakesLines (Some xs) None ls = ⊥
TakesLines (Some xs) (Some ys) ls = lines_of xs ≡ ls ++ lines_of ys

takes_none : (a : Option (List ℕ)) → TakesLines a a []
takes_none None = tt
takes_none (Some xs) = refl

takes_more : (a b c : Option (List ℕ)) (ls : List (List ℕ)) (l : List ℕ) → TakesLines a b ls → TakesLine b c l
    → TakesLines a c (ls ++ l ∷ [])
takes_more None b c ls l t u = tt
takes_more (Some xs) None c ls l t u = absurd t
takes_more (Some xs) (Some ys) None ls l t u = absurd u
takes_more (Some xs) (Some ys) (Some zs) ls l t u =
    t ∙ ap (λ q. ls ++ q) u ∙ sym (append_assoc ls (l ∷ []) (lines_of zs))

takes_first : (a b : Option (List ℕ)) (ls : List (List ℕ)) → TakesLines a b ls → AreFirst a ls
takes_first None b ls t = tt
takes_first (Some xs) None ls t = absurd t
takes_first (Some xs) (Some ys) ls t = (lines_of ys, t)

takes_all : (a b : Option (List ℕ)) (ls : List (List ℕ)) → TakesLines a b ls → HasNoLine b
    → IfSome a (λ xs. ls ≡ lines_of xs)
takes_all None b ls t n = tt
takes_all (Some xs) None ls t n = absurd t
takes_all (Some xs) (Some ys) ls t n = sym (t ∙ ap (λ q. ls ++ q) n ∙ append-nil ls)

-- ---- answers

replies_more : (m : Stream) (ls : List (List ℕ)) (rs : List Reply) (l : List ℕ) (r : Reply) → AreReplies m ls rs
    → IsLineAnswer m.command m.program m.types m.ty l r.yes r.output
    → AreReplies m (ls ++ l ∷ []) (rs ++ r ∷ [])
replies_more m [] [] l r e h = (h, tt)
replies_more m (x ∷ ls) (y ∷ rs) l r e h = (e.0, replies_more m ls rs l r e.1 h)
replies_more m [] (y ∷ rs) l r e h = absurd e
replies_more m (x ∷ ls) [] l r e h = absurd e

joined_more : (rs : List Reply) (r : Reply)
    → flat_map (λ q. q.output) (rs ++ r ∷ []) ≡ flat_map (λ q. q.output) rs ++ r.output
joined_more [] r = append-nil r.output
joined_more (x ∷ rs) r =
    ap (λ q. x.output ++ q) (joined_more rs r) ∙ sym (append_assoc x.output (flat_map (λ q. q.output) rs) r.output)

and_more : (b c d e : Bool) → d ≡ (c && e) → (b && d) ≡ ((b && c) && e)
and_more true c d e h = h
and_more false c d e h = refl

and_true : (b : Bool) → (b && true) ≡ b
and_true true = refl
and_true false = refl

all_more : (rs : List Reply) (r : Reply)
    → list_all (λ q. q.yes) (rs ++ r ∷ []) ≡ (list_all (λ q. q.yes) rs && r.yes)
all_more [] r = and_true r.yes
all_more (x ∷ rs) r =
    and_more x.yes (list_all (λ q. q.yes) rs) (list_all (λ q. q.yes) (rs ++ r ∷ [])) r.yes (all_more rs r)

answers_more : (m : Stream) (ls : List (List ℕ)) (good : Bool) (out : List ℕ) (l : List ℕ) (y : Bool) (o : List ℕ)
    → AreAnswers m ls good out
    → IsLineAnswer m.command m.program m.types m.ty l y o
    → AreAnswers m (ls ++ l ∷ []) (good && y) (out ++ o)
answers_more m ls good out l y o a h =
    let r : Reply = record { yes = y; output = o } in
    record {
      replies = a.replies ++ r ∷ [];
      each = replies_more m ls a.replies l r a.each h;
      joined = ap (λ q. q ++ o) a.joined ∙ sym (joined_more a.replies r);
      all = ap (λ b. b && y) a.all ∙ sym (all_more a.replies r);
    }

-- ---- octets that went out

take_after : (xs ys : List ℕ) (n : ℕ) → take (length xs + n) (xs ++ ys) ≡ xs ++ take n ys
take_after [] ys n = ap (λ k. take k ys) (let e : 0 + n ≡ n = omega arith in e)
take_after (x ∷ xs) ys n =
    ap (λ k. take k (x ∷ (xs ++ ys))) (let e : suc (length xs) + n ≡ suc (length xs + n) = omega arith in e)
    ∙ ap (λ q. x ∷ q) (take_after xs ys n)

length_joined : (xs ys : List ℕ) → length (xs ++ ys) ≡ length xs + length ys
length_joined [] ys = let e : length ys ≡ 0 + length ys = omega arith in e
length_joined (x ∷ xs) ys = let h = length_joined xs ys in omega (arith, h)

sent_more : (a b c : SinkState) (out o : List ℕ) → SentAll a b out → SentAll b c o → SentAll a c (out ++ o)
sent_more a b c out o s t = record {
  taken = Appends-trans a.taken b.taken c.taken out o s.taken t.taken;
  none_failed = t.none_failed ∙ s.none_failed;
}

front_more : (a b c : SinkState) (out o : List ℕ) (n : ℕ) → SentAll a b out → SentFront b c o n
    → SentFront a c (out ++ o) (length out + n)
front_more a b c out o n s t = record {
  fewer = (let h = length_joined out o in let f = t.fewer in omega (arith, h, f));
  taken = subst (Appends a.taken c.taken) (sym (take_after out o n))
      (Appends-trans a.taken b.taken c.taken out (take n o) s.taken t.taken);
  one_failed = t.one_failed ∙ ap (λ k. k + 1) s.none_failed;
}

-- ---- how far a stream is

-- the input went from i to j, the sink from a to b, and n octets of answers went out
pub record IsSoFar (m : Stream) (i j : Option (List ℕ)) (n : ℕ) (good : Bool) (a b : SinkState) : Type 0 where
  pub lines : List (List ℕ)
  pub taken : TakesLines i j lines
  pub output : List ℕ
  pub answers : AreAnswers m lines good output
  pub sent : SentAll a b output
  pub count : n ≡ length output

pub begun : (m : Stream) (i : Option (List ℕ)) (a : SinkState) → IsSoFar m i i 0 true a a
begun m i a = record {
  lines = [];
  taken = takes_none i;
  output = [];
  answers = record { replies = []; each = tt; joined = refl; all = refl };
  sent = record { taken = Appends-nil a.taken; none_failed = refl };
  count = refl;
}

pub further : (m : Stream) (i j k : Option (List ℕ)) (n p : ℕ) (good y : Bool) (a b c : SinkState) (l o : List ℕ)
    → IsSoFar m i j n good a b
    → TakesLine j k l
    → IsLineAnswer m.command m.program m.types m.ty l y o
    → SentAll b c o
    → p ≡ n + length o
    → IsSoFar m i k p (good && y) a c
further m i j k n p good y a b c l o s t h e q = record {
  lines = s.lines ++ l ∷ [];
  taken = takes_more i j k s.lines l s.taken t;
  output = s.output ++ o;
  answers = answers_more m s.lines good s.output l y o s.answers h;
  sent = sent_more a b c s.output o s.sent e;
  count = (let f = length_joined s.output o in let g = s.count in omega (arith, f, g, q));
}

pub in_part : (m : Stream) (i j k : Option (List ℕ)) (n p q : ℕ) (good y : Bool) (a b c : SinkState) (l o : List ℕ)
    → IsSoFar m i j n good a b
    → TakesLine j k l
    → IsLineAnswer m.command m.program m.types m.ty l y o
    → p ≡ n + q
    → SentFront b c o q
    → IsStreamedInPart m i p a c
in_part m i j k n p q good y a b c l o s t h e f = record {
  lines = s.lines ++ l ∷ [];
  first = takes_first i k (s.lines ++ l ∷ []) (takes_more i j k s.lines l s.taken t);
  yes = good && y;
  output = s.output ++ o;
  answers = answers_more m s.lines good s.output l y o s.answers h;
  sent = subst (λ r. SentFront a c (s.output ++ o) r) (let g = s.count in let w : length s.output + q ≡ p = omega (arith, g, e) in w)
      (front_more a b c s.output o q s.sent f);
}

pub ended : (m : Stream) (i j : Option (List ℕ)) (n : ℕ) (good : Bool) (a b : SinkState) → IsSoFar m i j n good a b
    → HasNoLine j
    → IsStreamed m i good a b
ended m i j n good a b s h = record {
  lines = s.lines;
  whole = takes_all i j s.lines s.taken h;
  output = s.output;
  answers = s.answers;
  sent = s.sent;
}

pub stopped : (m : Stream) (i j : Option (List ℕ)) (n : ℕ) (good : Bool) (a b : SinkState) (e : Fault)
    → IsSoFar m i j n good a b
    → EndsStream e
    → IsStopped m i a b e
stopped m i j n good a b e s h = record {
  lines = s.lines;
  first = takes_first i j s.lines s.taken;
  yes = good;
  output = s.output;
  answers = s.answers;
  sent = s.sent;
  ends = h;
}
