-- Two true faults of the same texts are of the same layer, and of the same text.
use Rattle.std.proofs.Common.{◌≡◌, ℕ, ◌<◌, ◌≤◌, ◌⊎◌, inl, inr, List, refl, sym, ap, ◌∙◌, subst, arith}
use Rattle.std.proofs.lemmas.Bool.{cases_lt}
use Rattle.std.specs.Prelude.{slice_get}
use Rattle.std.specs.List.{AllZip}
use Rattle.text.specs.declared.lex_fault.LexFault.{LexFault}
use Rattle.text.specs.declared.lex_fault.LexFault.TheVariants as lexing
use Rattle.text.specs.declared.token.Token.{Token}
use Rattle.text.specs.Text as texts
use Rattle.grammar.specs.Lexeme.{Lexeme, lexemes}
use Rattle.grammar.specs.Places.{bounded}
use Rattle.notation.specs.Answer as answers
use Rattle.notation.specs.declared.syntax_fault.SyntaxFault.{SyntaxFault}
use Rattle.notation.specs.declared.syntax_fault.SyntaxFault.TheVariants as parsing
use Rattle.syntax.specs.Syntax.{module_text}
use Rattle.trees.specs.Modules.{ModuleTree}
use Rattle.resolve.specs.Links.{Links, IsLinkFault}
use Rattle.resolve.specs.First.{trees_of}
use Rattle.resolve.specs.Program.{Program, WrittenProgram}
use Rattle.tagging.specs.Tagged.{IsTagged}
use Rattle.constraints.specs.Bounded.{AreBounded}
use Rattle.extensions.specs.additions.declared.fault.ExtFault.{ExtFault as AdditionFault}
use Rattle.value_diagnostics.specs.typed_values.declared.fault.ValueFault.{ValueFault}
use Rattle.extensions.specs.Faults as settling
use Rattle.extensions.specs.SchemaOfModules.{IsLinkedProgram}
use Rattle.extensions.specs.declared.fault.ExtFault.TheVariants as settled
use Rattle.front_end.specs.Accepted.{IsModule}
use Rattle.front_end.specs.Faults.{HasNoTokens, IsFirstRefused, IsNoModule, IsRightCompileError}
use Rattle.front_end.specs.Layers.{layer_of_fault}
use Rattle.front_end.specs.declared.fault.CompileError.{CompileError}
use Rattle.front_end.specs.declared.fault.CompileError.TheVariants as faults
use Rattle.front_end.proofs.Excluding.{Laws, NoTokens}
use Rattle.front_end.proofs.Lists.{zip_at}
use Rattle.front_end.proofs.Texts.{OneTokens, no_module}

-- ---- layers

-- the texts are modules that are linked as this program
record IsProgram (xs : List (List ℕ)) (p : Program) : Type 0 where
  modules : List ModuleTree
  are : AllZip IsModule xs modules
  links : Links modules p

-- the fault is that of a value assignment
abbrev IsOfAssigned : WrittenProgram → ValueFault → Type 0
IsOfAssigned w f = settling.IsRightExtensionFault w (settled.Assigned f)

-- the fault is that of a DEFAULT or of a value assignment
abbrev IsOfValues : WrittenProgram → ValueFault → Type 0
IsOfValues w f = settling.IsRightExtensionFault w (settled.Default f) ⊎ IsOfAssigned w f

-- program p has a fault for which P holds, in one way of writing the program
record HasFault (p : Program) (P : WrittenProgram → ValueFault → Type 0) : Type 0 where
  text : WrittenProgram
  of : text.program ≡ p
  fault : ValueFault
  is_so : P text fault

-- the texts keep what the layers before layer n ask
record Kept (xs : List (List ℕ)) (n : ℕ) : Type 0 where
  last : n ≤ 7
  texts : 1 < n → (ms : List ModuleTree) × AllZip IsModule xs ms
  linked : 2 < n → (p : Program) × IsProgram xs p
  tagged : 3 < n → (p : Program) → IsProgram xs p → IsTagged p.types
  bounded : 4 < n → (p : Program) → IsProgram xs p → AreBounded p
  marked : 5 < n → (p : Program) → IsProgram xs p → HasFault p IsOfValues
  typed : 6 < n → (p : Program) → IsProgram xs p → HasFault p IsOfAssigned

same_program : Laws → (xs : List (List ℕ)) (p q : Program) → IsProgram xs p → IsProgram xs q → p ≡ q
same_program l xs p q a b =
    let links = subst (λ ms. Links ms q) (l.list xs b.modules a.modules b.are a.are) b.links in
    l.program a.modules p q a.links.named a.links.program links.program

-- the program of modules that link
program_of : {xs : List (List ℕ)} {p : Program} (ms : List ModuleTree) → AllZip IsModule xs ms → Links ms p → IsProgram xs p
program_of ms z l = record { modules = ms; are = z; links = l }

kept_first : (xs : List (List ℕ)) → Kept xs 1
kept_first xs = record {
  last = omega arith;
  texts = λ l. absurd (omega (arith, l));
  linked = λ l. absurd (omega (arith, l));
  tagged = λ l. absurd (omega (arith, l));
  bounded = λ l. absurd (omega (arith, l));
  marked = λ l. absurd (omega (arith, l));
  typed = λ l. absurd (omega (arith, l));
}

kept : Laws → (xs : List (List ℕ)) (e : CompileError) → (e ≡ faults.Memory → ⊥) → IsRightCompileError xs e →
    Kept xs (layer_of_fault e)
kept l xs faults.Memory u h = absurd (u refl)
kept l xs (faults.Text k f) u h = kept_first xs
kept l xs (faults.Tree k f) u h = kept_first xs
kept l xs (faults.Name f) u h = record {
  last = omega arith;
  texts = λ m. (trees_of h.modules, h.are);
  linked = λ m. absurd (omega (arith, m));
  tagged = λ m. absurd (omega (arith, m));
  bounded = λ m. absurd (omega (arith, m));
  marked = λ m. absurd (omega (arith, m));
  typed = λ m. absurd (omega (arith, m));
}
kept l xs (faults.Tag f) u h = record {
  last = omega arith;
  texts = λ m. (trees_of h.modules, h.are);
  linked = λ m. (h.is_so.program.program, program_of (trees_of h.modules) h.are h.is_so.links);
  tagged = λ m. absurd (omega (arith, m));
  bounded = λ m. absurd (omega (arith, m));
  marked = λ m. absurd (omega (arith, m));
  typed = λ m. absurd (omega (arith, m));
}
kept l xs (faults.Bound f) u h =
    let q = program_of (trees_of h.modules) h.are h.is_so.links in
    record {
      last = omega arith;
      texts = λ m. (trees_of h.modules, h.are);
      linked = λ m. (h.is_so.program.program, q);
      tagged = λ m p i. subst (λ r. IsTagged r.types) (same_program l xs h.is_so.program.program p q i) h.is_so.such.0;
      bounded = λ m. absurd (omega (arith, m));
      marked = λ m. absurd (omega (arith, m));
      typed = λ m. absurd (omega (arith, m));
    }
kept l xs (faults.Additions f) u h =
    let q = program_of (trees_of h.modules) h.are h.is_so.links in
    record {
      last = omega arith;
      texts = λ m. (trees_of h.modules, h.are);
      linked = λ m. (h.is_so.program.program, q);
      tagged = λ m p i. subst (λ r. IsTagged r.types) (same_program l xs h.is_so.program.program p q i) h.is_so.such.0;
      bounded = λ m p i. subst AreBounded (same_program l xs h.is_so.program.program p q i) h.is_so.such.1;
      marked = λ m. absurd (omega (arith, m));
      typed = λ m. absurd (omega (arith, m));
    }
kept l xs (faults.Default t) u h =
    let q = program_of (trees_of h.modules) h.are h.is_so.links in
    let s = h.is_so.such.2 in
    record {
      last = omega arith;
      texts = λ m. (trees_of h.modules, h.are);
      linked = λ m. (h.is_so.program.program, q);
      tagged = λ m p i. subst (λ r. IsTagged r.types) (same_program l xs h.is_so.program.program p q i) h.is_so.such.0;
      bounded = λ m p i. subst AreBounded (same_program l xs h.is_so.program.program p q i) h.is_so.such.1;
      marked = λ m p i. record {
        text = h.is_so.program;
        of = same_program l xs h.is_so.program.program p q i;
        fault = s.fault;
        is_so = inl s.is_so;
      };
      typed = λ m. absurd (omega (arith, m));
    }
kept l xs (faults.Assigned t) u h =
    let q = program_of (trees_of h.modules) h.are h.is_so.links in
    let s = h.is_so.such.2 in
    record {
      last = omega arith;
      texts = λ m. (trees_of h.modules, h.are);
      linked = λ m. (h.is_so.program.program, q);
      tagged = λ m p i. subst (λ r. IsTagged r.types) (same_program l xs h.is_so.program.program p q i) h.is_so.such.0;
      bounded = λ m p i. subst AreBounded (same_program l xs h.is_so.program.program p q i) h.is_so.such.1;
      marked = λ m p i. record {
        text = h.is_so.program;
        of = same_program l xs h.is_so.program.program p q i;
        fault = s.fault;
        is_so = inr s.is_so;
      };
      typed = λ m p i. record {
        text = h.is_so.program;
        of = same_program l xs h.is_so.program.program p q i;
        fault = s.fault;
        is_so = s.is_so;
      };
    }

-- what the laws of `extensions` say of the three last layers
pub record Apart : Type 0 where
  pub default_after_markers : (v w : WrittenProgram) (e : AdditionFault) (f : ValueFault) →
      v.program ≡ w.program →
      settling.IsRightExtensionFault w (settled.Additions e) → settling.IsRightExtensionFault v (settled.Default f) → ⊥
  pub assigned_after_markers : (v w : WrittenProgram) (e : AdditionFault) (f : ValueFault) →
      v.program ≡ w.program →
      settling.IsRightExtensionFault w (settled.Additions e) → settling.IsRightExtensionFault v (settled.Assigned f) → ⊥
  pub assigned_after_defaults : (v w : WrittenProgram) (e f : ValueFault) →
      v.program ≡ w.program →
      IsLinkedProgram w.program → settling.IsRightExtensionFault w (settled.Default e) →
      settling.IsRightExtensionFault v (settled.Assigned f) → ⊥

not_both : Apart → (v w : WrittenProgram) (e : AdditionFault) (f : ValueFault) → v.program ≡ w.program →
    settling.IsRightExtensionFault w (settled.Additions e) → IsOfValues v f → ⊥
not_both a v w e f q s (inl d) = a.default_after_markers v w e f q s d
not_both a v w e f q s (inr d) = a.assigned_after_markers v w e f q s d

-- a fault of a layer excludes that this layer's conditions are kept
broken : Laws → Apart → (xs : List (List ℕ)) (e : CompileError) (n : ℕ) → (e ≡ faults.Memory → ⊥) →
    IsRightCompileError xs e →
    Kept xs n → layer_of_fault e < n → ⊥
broken l a xs faults.Memory n u h k m = u refl
broken l a xs (faults.Text j f) n u h k m =
    let ms = k.texts m in
    let i = (zip_at IsModule xs ms.0 j h.text ms.1 h.there).1 in
    h.is_so.no_memory (l.texts h.text i.tokens f i.lexed.text i.lexed.limits h.is_so.is_so)
broken l a xs (faults.Tree j f) n u h k m =
    let ms = k.texts m in
    let i = zip_at IsModule xs ms.0 j h.text ms.1 h.there in
    no_module l.tokens h.text f i.0 h.is_so i.1
broken l a xs (faults.Name f) n u h k m =
    let q = k.linked m in
    let e = l.list xs (trees_of h.modules) q.1.modules h.are q.1.are in
    l.links q.1.modules q.0 f h.is_so.0 (subst (λ ms. IsLinkFault ms f) e h.is_so.1) q.1.links
broken l a xs (faults.Tag f) n u h k m =
    let p = h.is_so.program.program in
    l.tags p f h.is_so.such.0 h.is_so.such.1 (k.tagged m p (program_of (trees_of h.modules) h.are h.is_so.links))
broken l a xs (faults.Bound f) n u h k m =
    let p = h.is_so.program.program in
    l.bounds p f h.is_so.such.1 h.is_so.such.2 (k.bounded m p (program_of (trees_of h.modules) h.are h.is_so.links))
broken l a xs (faults.Additions f) n u h k m =
    let w = h.is_so.program in
    let g = k.marked m w.program (program_of (trees_of h.modules) h.are h.is_so.links) in
    not_both a g.text w f g.fault g.of h.is_so.such.2 g.is_so
broken l a xs (faults.Default t) n u h k m =
    let w = h.is_so.program in
    let s = h.is_so.such.2 in
    let g = k.typed m w.program (program_of (trees_of h.modules) h.are h.is_so.links) in
    a.assigned_after_defaults g.text w s.fault g.fault g.of
    (l.read xs (trees_of h.modules) w.program h.are h.is_so.links) s.is_so g.is_so
broken l a xs (faults.Assigned t) n u h k m = let z = k.last in absurd (omega (arith, m, z))

same_layer : Laws → Apart → (xs : List (List ℕ)) (e f : CompileError) → (e ≡ faults.Memory → ⊥) →
    (f ≡ faults.Memory → ⊥) → IsRightCompileError xs e → IsRightCompileError xs f →
    (layer_of_fault e < layer_of_fault f) ⊎ (layer_of_fault f ≤ layer_of_fault e) →
    (layer_of_fault f < layer_of_fault e) ⊎ (layer_of_fault e ≤ layer_of_fault f) → layer_of_fault e ≡ layer_of_fault f
same_layer l a xs e f u w h k (inl m) o = absurd (broken l a xs e (layer_of_fault f) u h (kept l xs f w k) m)
same_layer l a xs e f u w h k (inr m) (inl o) = absurd (broken l a xs f (layer_of_fault e) w k (kept l xs e u h) o)
same_layer l a xs e f u w h k (inr m) (inr o) = omega (arith, m, o)

pub one_layer : Laws → Apart → (xs : List (List ℕ)) (e f : CompileError) → (e ≡ faults.Memory → ⊥) →
    (f ≡ faults.Memory → ⊥) → IsRightCompileError xs e → IsRightCompileError xs f → layer_of_fault e ≡ layer_of_fault f
one_layer l a xs e f u w h k =
    same_layer l a xs e f u w h k (cases_lt (layer_of_fault e) (layer_of_fault f)) (cases_lt (layer_of_fault f)
    (layer_of_fault e))

-- ---- texts

-- a text that is refused is the first one, and the same
same_text : (xs : List (List ℕ)) (k j : ℕ) (P Q : List ℕ → Type 0) →
    ((x : List ℕ) (m : ModuleTree) → P x → IsModule x m → ⊥) → ((x : List ℕ) (m : ModuleTree) → Q x → IsModule x m → ⊥) →
    (a : IsFirstRefused xs k P) (b : IsFirstRefused xs j Q) → (k < j) ⊎ (j ≤ k) → (j < k) ⊎ (k ≤ j) →
    (k ≡ j) × (a.text ≡ b.text)
same_text xs k j P Q p q a b (inl m) o = let i = b.before k a.text m a.there in absurd (p a.text i.0 a.is_so i.1)
same_text xs k j P Q p q a b (inr m) (inl o) = let i = a.before j b.text o b.there in absurd (q b.text i.0 b.is_so i.1)
same_text xs k j P Q p q a b (inr m) (inr o) =
    let e : k ≡ j = omega (arith, m, o) in
    let s = sym a.there ∙ ap (slice_get xs) e ∙ b.there in
    (e, let t : a.text ≡ b.text = cc in t)

-- text k is refused, so it is the same as text j
one_text : (xs : List (List ℕ)) (k j : ℕ) (P Q : List ℕ → Type 0) →
    ((x : List ℕ) (m : ModuleTree) → P x → IsModule x m → ⊥) → ((x : List ℕ) (m : ModuleTree) → Q x → IsModule x m → ⊥) →
    (a : IsFirstRefused xs k P) (b : IsFirstRefused xs j Q) → (k ≡ j) × (a.text ≡ b.text)
one_text xs k j P Q p q a b = same_text xs k j P Q p q a b (cases_lt k j) (cases_lt j k)

no_tokens : NoTokens → (f : LexFault) (x : List ℕ) (m : ModuleTree) → HasNoTokens x f → IsModule x m → ⊥
no_tokens texts f x m h i = h.no_memory (texts x i.tokens f i.lexed.text i.lexed.limits h.is_so)

no_tree : OneTokens → (f : SyntaxFault) (x : List ℕ) (m : ModuleTree) → IsNoModule x f → IsModule x m → ⊥
no_tree one f x m = no_module one x f m

-- what the laws of `text` and `syntax` say of faults
abbrev pub OneLexFault : Type 0
OneLexFault = (x : List ℕ) (e f : LexFault) → (e ≡ lexing.Memory → ⊥) → (f ≡ lexing.Memory → ⊥) → texts.IsRightTextFault x e →
    texts.IsRightTextFault x f → e ≡ f

abbrev pub OneSyntaxFault : Type 0
OneSyntaxFault = (ts : List Lexeme) (f g : SyntaxFault) → (f ≡ parsing.Memory → ⊥) → (g ≡ parsing.Memory → ⊥) →
    answers.IsRightNotationFault module_text ts 0 (bounded 128) f → answers.IsRightNotationFault module_text ts 0 (bounded 128) g → f ≡ g

pub one_of_octets : NoTokens → OneLexFault → (xs : List (List ℕ)) (k j : ℕ) (e f : LexFault) →
    IsRightCompileError xs (faults.Text k e) → IsRightCompileError xs (faults.Text j f) → (k ≡ j) × (e ≡ f)
one_of_octets none one xs k j e f a b =
    let s = one_text xs k j (λ x. HasNoTokens x e) (λ x. HasNoTokens x f) (no_tokens none e) (no_tokens none f) a b in
    (s.0, one b.text e f a.is_so.no_memory b.is_so.no_memory (subst (λ x. texts.IsRightTextFault x e) s.1 a.is_so.is_so) b.is_so.is_so)

-- the tokens are any of the text
on_tokens : OneTokens → (x : List ℕ) (ts : List Token) (f : SyntaxFault) (n : IsNoModule x f) → texts.IsText x ts →
    answers.IsRightNotationFault module_text (lexemes x ts) 0 (bounded 128) f
on_tokens one x ts f n t =
    subst (λ (us : List Token). answers.IsRightNotationFault module_text (lexemes x us) 0 (bounded 128) f) (one x n.tokens ts n.lexed.text t) n.is_so

pub one_of_tokens : OneTokens → OneSyntaxFault → (xs : List (List ℕ)) (k j : ℕ) (e f : SyntaxFault) →
    IsRightCompileError xs (faults.Tree k e) → IsRightCompileError xs (faults.Tree j f) → (k ≡ j) × (e ≡ f)
one_of_tokens tokens one xs k j e f a b =
    let s = one_text xs k j (λ x. IsNoModule x e) (λ x. IsNoModule x f) (no_tree tokens e) (no_tree tokens f) a b in
    let n = subst (λ x. IsNoModule x e) s.1 a.is_so in
    let ts = b.is_so.tokens in
    (s.0, one (lexemes b.text ts) e f n.no_memory b.is_so.no_memory (on_tokens tokens b.text ts e n b.is_so.lexed.text) b.is_so.is_so)

pub not_of_both : OneTokens → NoTokens → (xs : List (List ℕ)) (k j : ℕ) (e : LexFault) (f : SyntaxFault) →
    IsRightCompileError xs (faults.Text k e) → IsRightCompileError xs (faults.Tree j f) → ⊥
not_of_both tokens none xs k j e f a b =
    let s = one_text xs k j (λ x. HasNoTokens x e) (λ x. IsNoModule x f) (no_tokens none e) (no_tree tokens f) a b in
    let i = b.is_so.lexed in
    a.is_so.no_memory (none b.text b.is_so.tokens e i.text i.limits (subst (λ x. texts.IsRightTextFault x e) s.1 a.is_so.is_so))
