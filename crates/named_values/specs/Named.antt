-- What a text of the form Module.Name names in a program (X.680, clause 14.1), and the notation of a value that is
-- given.
use Rattle.std.specs.Prelude.{◌≡◌, ℕ, ◌<◌, List, ◌++◌, ◌∷◌, length, get_or}
use Rattle.trees.specs.Values.{Name, Tree}
use Rattle.names.specs.declared.scope.Assigned.{Assigned}
use Rattle.names.specs.declared.scope.Assigned.TheVariants as assigned
use Rattle.names.specs.Names.{Meaning}
use Rattle.range_ends.specs.Ends.{IsValueAt}
use Rattle.resolve.specs.Program.{Program}
use Rattle.written_values.specs.Written.{IsNotation}
use Rattle.named_values.specs.Given.{Given, named, written}

-- the text is the name M of a module, which contains no dot, then a dot, and a name x
pub record IsQualified (text : List ℕ) (M x : Name) : Type 0 where
  pub spelled : text ≡ M ++ (46 ∷ x)
  -- no octet of the module's name is a dot
  pub plain : (i : ℕ) → i < length M → get_or M i 0 ≡ 46 → ⊥

-- The text is a module's name, a dot, and a name that means `a` in that module (X.680, clause 14.1), whether it is
-- assigned there or imported (own rule).
pub record IsQualifiedName (p : Program) (text : List ℕ) (a : Assigned) : Type 0 where
  pub within : Name
  pub name : Name
  pub is : IsQualified text within name
  pub means : Meaning p.modules within name a

-- the text names type t of program p, as Module.Type
abbrev pub TypeNamed : Program → List ℕ → ℕ → Type 0
TypeNamed p text t = IsQualifiedName p text (assigned.Type t)

-- the text names value i of program p, as Module.value
abbrev pub ValueNamed : Program → List ℕ → ℕ → Type 0
ValueNamed p text i = IsQualifiedName p text (assigned.Value i)

-- the text names a value, whose assignment in module M has the notation n
pub record HasNotation (p : Program) (text : List ℕ) (M : Name) (n : Tree) : Type 0 where
  -- the number of the value in the program
  pub number : ℕ
  pub valued : ValueNamed p text number
  pub at : IsValueAt p number M n

-- the text is the name M of a module, a dot, and any name
pub record IsInModule (text : List ℕ) (M : Name) : Type 0 where
  pub name : Name
  pub is : IsQualified text M name

-- the text x is the notation n; module M is the one that the name of the type begins with
pub record IsNotationIn (first x : List ℕ) (M : Name) (n : Tree) : Type 0 where
  pub within : IsInModule first M
  pub is : IsNotation x n

-- The value that is given has the notation n, which is read in module M. The notation of a named value is that of its
-- assignment, and is read in the module of the assignment (X.680, clause 16.2). A text is a notation itself. It is read
-- in the module that the name of the type begins with (own rule).
abbrev pub IsGivenAs : Program → (first : List ℕ) → Given → Name → Tree → Type 0
IsGivenAs p first (named text) M n = HasNotation p text M n
IsGivenAs p first (written x) M n = IsNotationIn first x M n

-- The first text names type t of program p, and the value that is given has the notation n, which is read in module M.
pub record AreGiven (p : Program) (first : List ℕ) (second : Given) (t : ℕ) (M : Name) (n : Tree) : Type 0 where
  pub typed : TypeNamed p first t
  pub given : IsGivenAs p first second M n

-- the text names type t, and no other one
pub record Names (p : Program) (name : List ℕ) (t : ℕ) : Type 0 where
  pub is : TypeNamed p name t
  pub only : (u : ℕ) → TypeNamed p name u → u ≡ t
