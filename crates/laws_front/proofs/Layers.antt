-- What the calls of the layers return for accepted texts.
use Rattle.std.proofs.Common.{◌≡◌, ℕ, zero, suc, List, [], ◌∷◌, Some, subst, sym}
use Rattle.std.specs.Prelude.{slice_get}
use Rattle.std.specs.List.{AllZip}
use Rattle.text.specs.declared.token.Token.{Token}
use Rattle.text.specs.Text.{IsText}
use Rattle.grammar.specs.Lexeme.{lexemes}
use Rattle.grammar.specs.Places.{bounded}
use Rattle.parser_combinators.specs.Given.{IsLexed}
use Rattle.syntax.specs.Syntax.{module_text}
use Rattle.trees.specs.Modules.{ModuleTree}
use Rattle.names.specs.Modules.{AreNamed}
use Rattle.resolve.specs.Links.{FaultsExclude, IsProgramOf, IsLinkFault, Links}
use Rattle.resolve.specs.First.{trees_of}
use Rattle.resolve.specs.Program.{Program, WrittenProgram}
use Rattle.tagging.specs.Faults as tagging
use Rattle.tagging.specs.Tagged.{IsTagged}
use Rattle.tagging.specs.declared.fault.TagFault.{TagFault}
use Rattle.tagging.specs.declared.fault.TagFault.TheVariants as tags
use Rattle.constraints.specs.Bounded.{AreBounded}
use Rattle.constraints.specs.Faults as bounding
use Rattle.constraints.specs.declared.fault.BoundFault.{BoundFault}
use Rattle.constraints.specs.declared.fault.BoundFault.TheVariants as bounds
use Rattle.extensions.specs.Faults as settling
use Rattle.extensions.specs.SchemaOfModules.{IsLinkedProgram, IsWellTyped}
use Rattle.extensions.specs.declared.fault.ExtFault.{ExtFault}
use Rattle.extensions.specs.declared.fault.ExtFault.TheVariants as settled
use Rattle.asn_base.specs.Types.{Resolved}
use Rattle.named_values.specs.front_end.Accepted.{Accepted, AreAccepted, IsModule}
use Rattle.laws_front.specs.Headline.{EachAccepts, ReturnsModule, NoneRefuses}

-- ---- lists beside lists

zip_weaker : {X Y : Type 0} (R S : X → Y → Type 0) (xs : List X) (ys : List Y)
    → ((x : X) (y : Y) → R x y → S x y)
    → AllZip R xs ys
    → AllZip S xs ys
zip_weaker R S [] [] f z = tt
zip_weaker R S [] (y ∷ ys) f z = absurd z
zip_weaker R S (x ∷ xs) [] f z = absurd z
zip_weaker R S (x ∷ xs) (y ∷ ys) f z = (f x y z.0, zip_weaker R S xs ys f z.1)

-- the element beside an element
zip_at : {X Y : Type 0} (R : X → Y → Type 0) (xs : List X) (ys : List Y) (k : ℕ) (x : X)
    → AllZip R xs ys
    → slice_get xs k ≡ Some x
    → (y : Y) × R x y
zip_at R [] ys k x z e = absurd cc
zip_at R (a ∷ xs) [] k x z e = absurd z
zip_at R (a ∷ xs) (b ∷ ys) zero x z e = let q : a ≡ x = cc in (b, subst (λ w. R w b) q z.0)
zip_at R (a ∷ xs) (b ∷ ys) (suc k) x z e = zip_at R xs ys k x z.1 e

-- ---- each call succeeds

read_module : (text : List ℕ) (m : ModuleTree) → ReturnsModule text m → IsModule text m
read_module text m r = record {
  tokens = r.tokens;
  lexed = record { text = r.lexed.found.0; limits = r.lexed.found.1 };
  tree = r.parsed.found;
}

pub all_accept : (texts : List (List ℕ)) (w : WrittenProgram) (s : List Resolved)
    → EachAccepts texts w s
    → Accepted texts w.program s
all_accept texts w s a = record {
  accepted = record {
    modules = trees_of a.modules;
    are = zip_weaker ReturnsModule IsModule texts (trees_of a.modules) read_module a.read;
    links = a.linked.linked;
    tagged = a.tagged.found.1;
    bounded = a.bounded.found.1;
    asked = a.settled.asked;
  };
  types = a.settled;
}

-- ---- no call is refused

-- the laws of the layers
pub record Laws : Type 0 where
  pub tokens : (x : List ℕ) (ts us : List Token) → IsText x ts → IsText x us → ts ≡ us
  pub list : (xs : List (List ℕ)) (ms ns : List ModuleTree) → AllZip IsModule xs ms → AllZip IsModule xs ns → ms ≡ ns
  pub program : (ms : List ModuleTree) (p q : Program) → AreNamed ms → IsProgramOf ms p → IsProgramOf ms q → p ≡ q
  pub links : FaultsExclude
  pub tags : (p : Program) (e : TagFault) → (e ≡ tags.Memory → ⊥) → tagging.IsRightTagFault p e → IsTagged p.types → ⊥
  pub bounds : (p : Program) (e : BoundFault) → (e ≡ bounds.Memory → ⊥) → bounding.IsRightFault p e → AreBounded p → ⊥
  pub schema_of_modules : (w : WrittenProgram) (e : ExtFault)
      → IsLinkedProgram w.program
      → (e ≡ settled.Memory → ⊥)
      → settling.IsRightExtensionFault w e
      → IsWellTyped w.program
      → ⊥

module _ (laws : Laws) (texts : List (List ℕ)) (p : Program) (a : AreAccepted texts p) (read : IsLinkedProgram p) where
  -- the text's tokens are those of its module
  of_tokens : (k : ℕ) (text : List ℕ) (ts : List Token)
      → slice_get texts k ≡ Some text
      → IsLexed text ts
      → (m : ModuleTree) × (module_text (bounded 128)).Is m (lexemes text ts)
  of_tokens k text ts e l =
      let m = zip_at IsModule texts a.modules k text a.are e in
      let same = laws.tokens text m.1.tokens ts m.1.lexed.text l.text in
      (m.0, subst (λ (us : List Token). (module_text (bounded 128)).Is m.0 (lexemes text us)) same m.1.tree)

  same_modules : (ms : List ModuleTree) → AllZip IsModule texts ms → ms ≡ a.modules
  same_modules ms z = laws.list texts ms a.modules z a.are

  pub none_refuses : NoneRefuses texts p
  none_refuses = record {
    lexed = λ k text e u at r. (let m = zip_at IsModule texts a.modules k text a.are at in
        u (r.only m.1.tokens m.1.lexed.text m.1.lexed.limits));
    parsed = λ k text ts e u at l r. (let m = of_tokens k text ts at l in u (r.only m.0 m.1));
    linked = λ ws e u z r.
        laws.links a.modules p e u (subst (λ ns. IsLinkFault ns e) (same_modules (trees_of ws) z) r.fault) a.links;
    one_link = λ ws w z r. (let l = subst (λ ns. Links ns w.program) (same_modules (trees_of ws) z) r.linked in
        laws.program a.modules w.program p a.links.named l.program a.links.program);
    tagged = λ w e q u r.
        laws.tags w.program e u r.found (subst (λ (z : Program). IsTagged z.types) (sym q) a.tagged);
    bounded = λ w e q u r. laws.bounds w.program e u r.found (subst AreBounded (sym q) a.bounded);
    settled = λ w e q u r.
        laws.schema_of_modules w e (subst IsLinkedProgram (sym q) read) u r (subst IsWellTyped (sym q) a.asked);
  }
