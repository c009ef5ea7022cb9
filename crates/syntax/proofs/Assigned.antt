-- What the readers of heads and of assignments keep, for the modules that have them.
use Rattle.std.proofs.Common.{◌≡◌, ℕ, suc, Bool, true, false, refl}
use Rattle.text.specs.declared.reserved.Word.TheVariants.{End}
use Rattle.grammar.specs.Lexeme.{Lexeme, TypeRef, Ident, Word}
use Rattle.grammar.specs.Grows.{Grows}
use Rattle.grammar.specs.Laws.{nowhere, deeper, wider, higher, Finds}
use Rattle.grammar.specs.Lists.{IsSolid}
use Rattle.grammar.specs.Parts.{SoundReader}
use Rattle.grammar.specs.Places.{Limits, any, small, tag_small, Within}
use Rattle.notation.specs.Laws.{starts}
use Rattle.notation.specs.Value.{value}
use Rattle.module_head.specs.HeadLaws.{HeadLaws}
use Rattle.type_syntax.specs.TypeLaws.{Allows, TypeLaws}
use Rattle.type_syntax.specs.PlainReading.{tag_fits}
use Rattle.type_syntax.specs.TypeGrammar.{type}
use Rattle.syntax.specs.Syntax.{assignment}
use Rattle.syntax.specs.Reading.{begins_assignment, assignment_at}
use Rattle.grammar.specs.Single.{is_end}
use Rattle.syntax.proofs.Assigning.{assignment_ends, assigns_solid, assignment_sound, assignment_finds, assigns_grow}

pub begins_apart : (t : Lexeme) → begins_assignment t ≡ true → assignment_ends t ≡ false
begins_apart (TypeRef x) e = refl
begins_apart (Ident x) e = refl
begins_apart t e = absurd cc

pub end_apart : (t : Lexeme) → is_end t ≡ true → assignment_ends t ≡ false
end_apart (Word End) e = refl
end_apart t e = absurd cc

pub record ModuleLaws : Type 0 where
  pub heads : HeadLaws
  pub sound : (n : ℕ) → SoundReader nowhere (assignment small tag_small n) (assignment_at small n)
  pub sound_any : (n : ℕ) → SoundReader wider (assignment any tag_small n) (assignment_at small n)
  pub sound_higher : (n : ℕ) → SoundReader higher (assignment small any n) (assignment_at small n)
  pub sound_deeper : (n : ℕ) → SoundReader deeper (assignment small tag_small (suc n)) (assignment_at small n)
  pub finds : (a b : Limits)
      → Allows a b
      →
      Finds (λ l. Within l b a) (assignment b.number b.tag b.nesting) begins_assignment assignment_ends (assignment_at a.number a.nesting)
  pub grows : (a b : Limits)
      → ((n : ℕ) → a.number n ≡ true → b.number n ≡ true)
      → ((n : ℕ) → a.tag n ≡ true → b.tag n ≡ true)
      → (n : ℕ) → Grows (assignment a.number a.tag n) (assignment b.number b.tag n)
  pub solid : (fits tags : ℕ → Bool) (n : ℕ) → IsSolid (assignment fits tags n)
  pub tags_small : (n : ℕ) → tag_small n ≡ true → tag_fits small n ≡ true
  pub small_tags : (n : ℕ) → tag_fits small n ≡ true → tag_small n ≡ true

pub module_laws : HeadLaws → TypeLaws → ModuleLaws
module_laws heads types =
    let values = types.values in
    record {
      heads = heads;
      sound = λ n. assignment_sound nowhere small n (type small tag_small n) (value small n) (types.sound n) (values.sound n);
      sound_any = λ n. assignment_sound wider small n (type any tag_small n) (value any n) (types.sound_any n) (values.sound_any n);
      sound_higher = λ n. assignment_sound higher small n (type small any n) (value small n) (types.sound_higher n) (values.sound_higher n);
      sound_deeper = λ n. assignment_sound deeper small n (type small tag_small (suc n)) (value small (suc n)) (types.sound_deeper n) (values.sound_deeper n);
      finds = λ a b allows.
          let t = types.owed a b allows in
          assignment_finds (λ l. Within l b a) a.number a.nesting (type b.number b.tag b.nesting) (value b.number b.nesting) types.starts (starts b.number) (t.finds tt) (values.finds a b) t.solid (values.solid b.number b.nesting);
      grows = λ a b grows grows_tags n. assigns_grow (type a.number a.tag n) (type b.number b.tag n) (value a.number n) (value b.number n) (types.grows a b grows grows_tags n) (values.grows a.number b.number grows n);
      solid = λ fits tags n. assigns_solid (type fits tags n) (value fits n);
      tags_small = types.tags_small;
      small_tags = types.small_tags;
    }
