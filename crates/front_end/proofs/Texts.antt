-- Texts and the modules that they are.
use Rattle.std.proofs.Common.{◌≡◌, ℕ, ◌-◌, ◌<◌, ◌≤◌, ◌⊎◌, inl, inr, List, length, map, take, Some, refl, sym, ap, subst, ◌∙◌, get_or, arith}
use Rattle.std.proofs.lemmas.Bool.{cases_lt}
use Rattle.std.specs.Prelude.{slice_get, Vec}
use Rattle.std.specs.Global.{Global}
use Rattle.std.specs.List.{AllZip}
use Rattle.std.proofs.lemmas.List.{take_all}
use Rattle.text.specs.declared.token.Token.{Token}
use Rattle.text.specs.Text.{IsText}
use Rattle.grammar.specs.Lexeme.{Lexeme, lexemes}
use Rattle.grammar.specs.Places.{Limits, Ends, bounded, free, between}
use Rattle.notation.specs.Answer as answers
use Rattle.notation.specs.declared.syntax_fault.SyntaxFault.{SyntaxFault}
use Rattle.notation.specs.declared.syntax_fault.SyntaxFault.TheVariants as parsing
use Rattle.syntax.specs.Syntax.{module_text}
use Rattle.trees.specs.Modules.{ModuleTree}
use Rattle.front_end.specs.Accepted.{IsModule, octets_of}
use Rattle.front_end.specs.Faults.{IsNoModule, IsRightCompileError}
use Rattle.front_end.specs.declared.fault.CompileError.{CompileError}
use Rattle.front_end.specs.declared.fault.CompileError.TheVariants as faults
use Rattle.front_end.specs.proving.Steps.{IsRefusedAt}
use Rattle.front_end.proofs.Lists.{zip_front}
use Rattle.names.specs.proving.Distinct.{item_at}

-- the text with a fault after texts that are modules is the first one
pub first_refused : (xs : List (Vec ℕ Global)) (k : ℕ) (x : Vec ℕ Global) (t : List ℕ) (ms : List ModuleTree)
    (e : CompileError) → k < length xs → x ≡ get_or xs k x → t ≡ octets_of x →
    AllZip IsModule (map octets_of (take k xs)) ms → IsRefusedAt k t e → IsRightCompileError (map octets_of xs) e
first_refused xs k x t ms faults.Memory l e q z h = tt
first_refused xs k x t ms (faults.Text i f) l e q z h = record {
  text = t;
  there = subst (λ j. slice_get (map octets_of xs) j ≡ Some t) (sym h.0) (subst (λ o. slice_get (map octets_of xs) k ≡ Some o) (sym q) (item_at octets_of xs k x l e));
  is_so = h.1;
  before = λ j y m g. zip_front IsModule octets_of xs k ms j y z (subst (λ n. j < n) h.0 m) g;
}
first_refused xs k x t ms (faults.Tree i f) l e q z h = record {
  text = t;
  there = subst (λ j. slice_get (map octets_of xs) j ≡ Some t) (sym h.0) (subst (λ o. slice_get (map octets_of xs) k ≡ Some o) (sym q) (item_at octets_of xs k x l e));
  is_so = h.1;
  before = λ j y m g. zip_front IsModule octets_of xs k ms j y z (subst (λ n. j < n) h.0 m) g;
}
first_refused xs k x t ms (faults.Name f) l e q z h = absurd h
first_refused xs k x t ms (faults.Tag f) l e q z h = absurd h
first_refused xs k x t ms (faults.Bound f) l e q z h = absurd h
first_refused xs k x t ms (faults.Additions f) l e q z h = absurd h
first_refused xs k x t ms (faults.Default u) l e q z h = absurd h
first_refused xs k x t ms (faults.Assigned u) l e q z h = absurd h

-- ---- one module

abbrev pub OneTokens : Type 0
OneTokens = (x : List ℕ) (ts us : List Token) → IsText x ts → IsText x us → ts ≡ us

abbrev pub OneModule : Type 0
OneModule = (ts : List Lexeme) (m n : ModuleTree) → (free module_text).Is m ts → (free module_text).Is n ts → m ≡ n

-- the module stands on any tokens of the text
tree_of_tokens : OneTokens → (x : List ℕ) (ts : List Token) (m : ModuleTree) (i : IsModule x m) → IsText x ts →
    (module_text (bounded 128)).Is m (lexemes x ts)
tree_of_tokens one x ts m i t =
    subst (λ (us : List Token). (module_text (bounded 128)).Is m (lexemes x us)) (one x i.tokens ts i.lexed.text t) i.tree

pub one_tree : OneTokens → OneModule → (x : List ℕ) (m n : ModuleTree) → IsModule x m → IsModule x n → m ≡ n
one_tree one tree x m n a b =
    tree (lexemes x a.tokens) m n (bounded 128, a.tree) (bounded 128, tree_of_tokens one x a.tokens n b a.lexed.text)

-- ---- a module, or a fault

-- a whole module is a front of one
whole_goes_on : (a : Limits) (m : ModuleTree) (ts : List Lexeme) → (module_text a).Is m ts → (module_text a).IsPrefix ts
whole_goes_on a m ts (p, e, (u, v, s, h, (q, f, (w, x, r, g, l)))) = inr (p.0, u, v, s, h, inr (q.0, w, x, r, g, inr (q.1, l)))

all_between : (ts : List Lexeme) → between ts 0 (length ts) ≡ ts
all_between ts = let e : length ts - 0 ≡ length ts = omega arith in ap (λ n. take n ts) e ∙ take_all (length ts) ts (omega arith)

-- the longest front ends at no place before the end
not_inside : (a : Limits) (ts : List Lexeme) (m : ModuleTree) (i : ℕ) → (module_text a).Is m ts → i < length ts →
    ((j : ℕ) → i < j → j ≤ length ts → (module_text a).IsPrefix (between ts 0 j) → ⊥) → ⊥
not_inside a ts m i h l none =
    none (length ts) l (omega arith) (subst (module_text a).IsPrefix (sym (all_between ts)) (whole_goes_on a m ts h))

-- the text doesn't end too soon if the whole is a module
no_end : (ts : List Lexeme) (m : ModuleTree) (i : ℕ) → (module_text (bounded 128)).Is m ts →
    Ends module_text (bounded 128) ts 0 i → (i < length ts) ⊎ (length ts ≤ i) → ⊥
no_end ts m i h e (inl l) = not_inside (bounded 128) ts m i h l (e.always (bounded 128))
no_end ts m i h e (inr g) =
    let t = e.stops.to in
    let q : i ≡ length ts = omega (arith, t, g) in
    let w = sym (all_between ts) ∙ ap (between ts 0) (sym q) in
    e.none q m (bounded 128, subst ((module_text (bounded 128)).Is m) w h)

no_fault : (ts : List Lexeme) (m : ModuleTree) (f : SyntaxFault) → (f ≡ parsing.Memory → ⊥) →
    answers.IsRightNotationFault module_text ts 0 (bounded 128) f → (module_text (bounded 128)).Is m ts → ⊥
no_fault ts m parsing.Memory u s h = u refl
no_fault ts m (parsing.Unexpected i) u s h = no_end ts m i h s.0 (cases_lt i (length ts))
no_fault ts m (parsing.OutOfProfile i) u s h = no_end ts m i h s.0 (cases_lt i (length ts))
no_fault ts m (parsing.Limit l i) u s h =
    let a = s.longer in
    let b = s.to in
    not_inside (bounded 128) ts m i h (omega (arith, a, b)) s.stops.longest

-- a text isn't a module if its tokens aren't one
pub no_module : OneTokens → (x : List ℕ) (f : SyntaxFault) (m : ModuleTree) → IsNoModule x f → IsModule x m → ⊥
no_module one x f m n i =
    no_fault (lexemes x n.tokens) m f n.no_memory n.is_so (tree_of_tokens one x n.tokens m i n.lexed.text)
