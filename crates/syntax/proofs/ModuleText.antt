-- What is read as a module is one; the reader refuses no front of a module, and reads each whole one.
use Rattle.std.proofs.Common.{◌≡◌, ℕ, suc, ◌≤◌, ◌+◌, inl, inr, Bool, true, false, List, [], ◌∷◌, ◌++◌, length, Ok, refl, sym, ap, subst, ◌∙◌ as ◌⋆◌, arith}
use Rattle.text.specs.declared.reserved.Word.TheVariants.{Exports, Imports, End}
use Rattle.grammar.specs.Lexeme.{Lexeme, Word}
use Rattle.grammar.specs.Grammar.{Grammar, word, ◌∙◌, ◌⇒◌, many}
use Rattle.grammar.specs.Grows.{Grows, same_grows, seq_grows, made_grows, many_grows}
use Rattle.grammar.specs.Numbers.{Past}
use Rattle.grammar.specs.Reading.{Limit, Nesting, Integer, TagNumber, Read, Reader, many_at}
use Rattle.grammar.specs.Laws.{nowhere, deeper, wider, higher, past, seq_sound, Sound, Follows, ReadsAs, Finds}
use Rattle.grammar.specs.Lists.{IsSolid, no_lexeme}
use Rattle.grammar.specs.Manies.{many_sound, many_finds}
use Rattle.grammar.specs.Places.{Limits, any, small, tag_small, bounded, Within, raised, free}
use Rattle.grammar.specs.Answers.{joined, joined_first, joined_second, Reads}
use Rattle.grammar.specs.Parts.{SoundReader, token_sound, token_finds, token_solid, seq_finds, open_finds, open_solid}
use Rattle.grammar.specs.Rules.{Rules, either, no_left, no_right, bor_left, bor_right}
use Rattle.type_syntax.specs.TypeLaws.{Allows}
use Rattle.type_syntax.specs.PlainReading.{tag_fits}
use Rattle.trees.specs.Modules.{AssignmentTree, ModuleTree}
use Rattle.module_head.specs.Heading.{HeadTree, head}
use Rattle.syntax.specs.Syntax.{assignment, module_tree, module_text}
use Rattle.grammar.specs.Single.{end_at}
use Rattle.syntax.specs.Reading.{begins_assignment, assignment_at, assignments_at}
use Rattle.module_head.specs.HeadReading.{head_at}
use Rattle.syntax.specs.ModuleReading.{module_at}
use Rattle.grammar.specs.Single.{is_end, end_is, is_typeref}
use Rattle.module_head.specs.HeadLaws.{head_ends, HeadLaws}
use Rattle.syntax.proofs.Assigning.{assignment_ends}
use Rattle.syntax.proofs.Assigned.{begins_apart, end_apart, ModuleLaws}

-- ---- the productions, of a given assignment

abbrev body : Grammar AssignmentTree → Grammar (List AssignmentTree)
body a = (many a ∙ word End) ⇒ (λ p. p.0)

abbrev made_of : HeadTree × List AssignmentTree → ModuleTree
made_of p = module_tree p.0 p.1

abbrev module_with : (ℕ → Bool) → Grammar AssignmentTree → Grammar ModuleTree
module_with fits a = (head fits ∙ body a) ⇒ made_of

abbrev many_read : (ℕ → Bool) → ℕ → Reader (List AssignmentTree)
many_read fits n ts = many_at begins_assignment (assignment_at fits n) (length ts) ts

-- ---- which lexemes may follow which

-- a lexeme that may come after assignments, and isn't an end
abbrev more : Lexeme → Bool
more = either begins_assignment assignment_ends

abbrev body_starts : Lexeme → Bool
body_starts = either begins_assignment is_end

end_no_more : (t : Lexeme) → is_end t ≡ true → more t ≡ false
end_no_more (Word End) e = end_apart (Word End) refl
end_no_more t e = absurd cc

body_no_head : (t : Lexeme) → body_starts t ≡ true → head_ends t ≡ false
body_no_head (Word Exports) e = absurd cc
body_no_head (Word Imports) e = absurd cc
body_no_head t e = refl

-- ---- what is owed

body_solid : (a : Grammar AssignmentTree) → IsSolid (body a)
body_solid a = open_solid (many a) (word End) (λ p. p.0) (token_solid (λ (x : Unit {0}). Word End))

-- fits is the reader's test on numbers, fits' the grammar's
module _ (over : Limit → ℕ) (within : Limit → Type 0) (fits fits' : ℕ → Bool)
    (headed : Rules over within (head fits') is_typeref head_ends (head_at fits)) (n : ℕ) (a : Grammar AssignmentTree)
  where
    body_sound : SoundReader over a (assignment_at fits n) → SoundReader over (body a) (assignments_at fits n)
    unfolding assignments_at
    body_sound s ts = seq_sound over (many a) (word End) (λ p. p.0) ts (many_read fits n ts) end_at (many_sound over a begins_assignment (assignment_at fits n) s (length ts) ts) (token_sound (λ (x : Unit {0}). Word End) is_end end_at end_is over)

    module_sound : SoundReader over a (assignment_at fits n) → SoundReader over (module_with fits' a) (module_at fits n)
    unfolding module_at
    module_sound s ts = seq_sound over (head fits') (body a) made_of ts (head_at fits ts) (assignments_at fits n) (headed.sound tt ts) (body_sound s)

    body_finds : Finds within a begins_assignment assignment_ends (assignment_at fits n)
        → IsSolid a
        → Finds within (body a) body_starts no_lexeme (assignments_at fits n)
    unfolding assignments_at
    body_finds f s =
        open_finds within (many a) (word End) (λ p. p.0) body_starts begins_assignment more is_end no_lexeme (many_read fits n) end_at
        (many_finds within a begins_assignment assignment_ends more (assignment_at fits n) f s begins_apart (λ t. no_left (begins_assignment t) (assignment_ends t)) (λ t. no_right (begins_assignment t) (assignment_ends t)))
        (token_finds (λ (x : Unit {0}). Word End) is_end end_at end_is within) (token_solid (λ (x : Unit {0}). Word End)) end_no_more (λ t. bor_left (begins_assignment t) (is_end t)) (λ t. bor_right (begins_assignment t) (is_end t))

    module_finds : Finds within a begins_assignment assignment_ends (assignment_at fits n)
        → IsSolid a
        → Finds within (module_with fits' a) is_typeref no_lexeme (module_at fits n)
    unfolding module_at
    module_finds f s = seq_finds within (head fits') (body a) made_of is_typeref head_ends body_starts no_lexeme (head_at fits) (assignments_at fits n) (headed.finds tt) (body_finds f s) headed.solid (body_solid a) body_no_head

module_grows : HeadLaws
    → (fits fits' : ℕ → Bool)
    → ((n : ℕ) → fits n ≡ true → fits' n ≡ true)
    → (a a' : Grammar AssignmentTree)
    → Grows a a'
    → Grows (module_with fits a) (module_with fits' a')
module_grows heads fits fits' grows a a' g =
    made_grows (head fits ∙ body a) (head fits' ∙ body a') made_of
    (seq_grows (head fits) (head fits') (body a) (body a') (heads.grows fits fits' grows)
    (made_grows (many a ∙ word End) (many a' ∙ word End) (λ p. p.0) (seq_grows (many a) (many a') (word End) (word End) (many_grows a a' g) (same_grows (word End)))))

-- ---- under each limit

module _ (laws : ModuleLaws) where
  -- a are the reader's limits, b the grammar's
  finds : (a b : Limits)
      → Allows a b
      → Finds (λ l. Within l b a) (module_text b) is_typeref no_lexeme (module_at a.number a.nesting)
  finds a b allows =
      module_finds nowhere (λ l. Within l b a) a.number b.number (laws.heads.read nowhere a b allows.number tt) a.nesting (assignment b.number b.tag b.nesting)
      (laws.finds a b allows) (laws.solid b.number b.tag b.nesting)

  sound_at : (over : Limit → ℕ) (n : ℕ) (b : Limits)
      → ((n : ℕ) → small n ≡ true → b.number n ≡ true)
      → Past (over Integer) ((n : ℕ) → b.number n ≡ true)
      → SoundReader over (assignment b.number b.tag b.nesting) (assignment_at small n)
      → SoundReader over (module_text b) (module_at small n)
  sound_at over n b grows past s = module_sound over (λ l. Within l b (bounded n)) small b.number (laws.heads.read over (bounded n) b grows past) n (assignment b.number b.tag b.nesting) s

  no_end : (us : List Lexeme) → Follows no_lexeme us
  no_end [] = tt
  no_end (t ∷ us) = refl

  -- the reader's limits are within those that are joined with them
  allows : (n : ℕ) (b : Limits) → Allows (bounded n) (joined (bounded n) b)
  allows n b = record {
    number = joined_first small b.number;
    tag = λ k e. joined_first tag_small b.tag k (laws.small_tags k e);
    own = laws.tags_small;
  }

  itself : (n : ℕ) → Allows (bounded n) (bounded n)
  itself n = record { number = λ k e. e; tag = laws.small_tags; own = laws.tags_small }

  -- if a limit is passed, the lexemes can go on once only that limit is raised
  passed : (n : ℕ) (l : Limit)
      →
      (b : Limits) × ((ts : List Lexeme) → Sound (past l) (module_text (raised l (bounded n) b)) ts (module_at small n ts))
  passed n Nesting = (bounded (suc n), sound_at deeper n (bounded (suc n)) (λ k e. e) tt (laws.sound_deeper n))
  passed n Integer = (record { nesting = n; number = any; tag = any }, sound_at wider n (record { nesting = n; number = any; tag = tag_small }) (λ k e. refl) (λ k. refl) (laws.sound_any n))
  passed n TagNumber = (record { nesting = n; number = any; tag = any }, sound_at higher n (record { nesting = n; number = small; tag = any }) (λ k e. e) tt (laws.sound_higher n))

  grown : (a b : Limits)
      → ((n : ℕ) → a.number n ≡ true → b.number n ≡ true)
      → ((n : ℕ) → a.tag n ≡ true → b.tag n ≡ true)
      → a.nesting ≡ b.nesting
      → Grows (module_text a) (module_text b)
  grown a b grows grows_tags e = module_grows laws.heads a.number b.number grows (assignment a.number a.tag a.nesting) (assignment b.number b.tag b.nesting)
      (subst (λ (n : ℕ). Grows (assignment a.number a.tag a.nesting) (assignment b.number b.tag n)) e (laws.grows a b grows grows_tags a.nesting))

  pub module_reads : (n : ℕ) → Reads module_text (bounded n) (module_at small n)
  module_reads n = record {
    grows = λ b. grown b (joined (bounded n) b) (joined_second small b.number) (joined_second tag_small b.tag) refl;
    front = λ b u us h. (finds (bounded n) (joined (bounded n) b) (allows n b)).front u us h;
    whole = λ b x u h. (finds (bounded n) (joined (bounded n) b) (allows n b)).whole x u [] h tt;
    part = (finds (bounded n) (bounded n) (itself n)).part;
    sound = sound_at nowhere n (bounded n) (λ k e. e) tt (laws.sound n);
    passed = passed n;
    closed = λ x u us h c. (finds (bounded n) (bounded n) (itself n)).whole x u us h (no_end us);
  }

  -- A list of lexemes is one module at most.
  abbrev unlimited : ℕ → Limits
  unlimited n = record { nesting = n; number = any; tag = any }

  read_whole : (n : ℕ) (u : List Lexeme) (a : Limits) (v : ModuleTree)
      → a.nesting ≤ n
      → (module_text a).Is v u
      → module_at any n (u ++ []) ≡ Ok (v, [])
  read_whole n u a v le h = go (f.whole v u [] ((grown a (unlimited a.nesting) (λ k e. refl) (λ k e. refl) refl).is v u h) tt)
    where
      never_tag : (k : ℕ) → any k ≡ true → tag_fits any k ≡ true
      never_tag k e = bor_right _ true refl

      f :
          Finds (λ l. Within l (unlimited a.nesting) (unlimited n)) (module_text (unlimited a.nesting)) is_typeref no_lexeme (module_at any n)
      f = finds (unlimited n) (unlimited a.nesting) (record { number = λ k e. e; tag = λ k e. refl; own = never_tag })

      all : (l : Limit) → Within l (unlimited a.nesting) (unlimited n)
      all Nesting = le
      all Integer = λ k e. refl
      all TagNumber = λ k e. refl

      go : ReadsAs (λ l. Within l (unlimited a.nesting) (unlimited n)) (module_at any n (u ++ [])) v []
          → module_at any n (u ++ []) ≡ Ok (v, [])
      go (inl e) = e
      go (inr (p, k, e)) = absurd (k (all p.0))

  pub one_tree : (u : List Lexeme) (v w : ModuleTree) → (free module_text).Is v u → (free module_text).Is w u → v ≡ w
  one_tree u v w (a, h) (b, k) =
      let n = a.nesting + b.nesting in
      ap (λ (x : ModuleTree × List Lexeme). x.0) (one_result (v, []) (w, []) (module_at any n (u ++ [])) (read_whole n u a v (omega arith) h) (read_whole n u b w (omega arith) k))
    where
      one_result : (x y : ModuleTree × List Lexeme) (r : Read ModuleTree) → r ≡ Ok x → r ≡ Ok y → x ≡ y
      one_result x y r p q = let e = sym p ⋆ q in cc
