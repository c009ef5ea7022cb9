-- A whole header at the front, or a fault, from its parts.
use Rattle.std.proofs.Common.{arith, ◌≡◌, ℕ, ◌-◌, ◌<◌, ◌≤◌, Bool, List, [], ◌∷◌, ◌++◌, length, refl, sym, ap, ◌∙◌, append_assoc, length-append}
use Rattle.asn_base.specs.declared.tag.Tag.{Tag}
use Rattle.encodings.specs.Header.{identifier, short, Header}
use Rattle.octets.specs.declared.header_fault.HeaderFault.{HeaderFault}
use Rattle.octets.specs.declared.header_fault.HeaderFault.TheVariants.{Truncated, Indefinite, BadLength, BadTag}
use Rattle.octets.specs.Fronts.{HeaderAt, in_header, in_contents, reserved, too_great, IsRightFault}
use Rattle.octets.specs.Scans.{IdentifierAt, NoIdentifier, cut_identifier, bad_identifier, SizeAt, NoSize, cut_size, indefinite, reserved_size, great_size}

header_of : (t : Tag) (c : Bool) (n : ℕ) (rest b o : List ℕ) → IdentifierAt t c b o → (s : SizeAt n rest b) → Header t c n (identifier t.class t.number c ++ s.size)
header_of t c n rest b o i s = record { size = s.size; is_size = s.is_size; whole = refl }

whole_of : (t : Tag) (c : Bool) (n : ℕ) (rest b o : List ℕ) → IdentifierAt t c b o → (s : SizeAt n rest b) → o ≡ (identifier t.class t.number c ++ s.size) ++ rest
whole_of t c n rest b o i s = i.whole ∙ ap (λ q. identifier t.class t.number c ++ q) s.whole ∙ sym (append_assoc (identifier t.class t.number c) s.size rest)

pub header_holds : (t : Tag) (c : Bool) (n : ℕ) (rest b o : List ℕ) → IdentifierAt t c b o → SizeAt n rest b → n ≤ length rest → HeaderAt t c n (length o - length rest) o
header_holds t c n rest b o i s l =
    let h = identifier t.class t.number c ++ s.size in
    let w = whole_of t c n rest b o i s in
    let k : length o ≡ length (h ++ rest) = ap length w in
    record { header = h; rest = rest; is_header = header_of t c n rest b o i s; few = s.few; long = omega (arith, k, length-append h rest); whole = w; follow = l }

pub contents_cut : (t : Tag) (c : Bool) (n : ℕ) (rest b o : List ℕ) → IdentifierAt t c b o → SizeAt n rest b → length rest < n → IsRightFault Truncated o
contents_cut t c n rest b o i s l = in_contents {t = t} {c = c} rest (header_of t c n rest b o i s) s.few (whole_of t c n rest b o i s) l

pub identifier_holds : (e : HeaderFault) (o : List ℕ) → NoIdentifier o e → IsRightFault e o
identifier_holds Truncated o (cut_identifier t c missing e l) =
    in_header {t = t} {c = c} {n = 0} (missing ++ 0 ∷ []) (record { size = 0 ∷ []; is_size = short (omega arith); whole = refl })
    (ap (λ q. q ++ 0 ∷ []) e ∙ append_assoc o missing (0 ∷ []))
    (omega (arith, length-append missing (0 ∷ [])))
identifier_holds Indefinite o n = elim n [ ]
identifier_holds BadLength o n = elim n [ ]
identifier_holds BadTag o (bad_identifier b) = b

pub size_holds : (e : HeaderFault) (t : Tag) (c : Bool) (b o : List ℕ) → IdentifierAt t c b o → NoSize b e → IsRightFault e o
size_holds Truncated t c b o i (cut_size {size = size} missing l e m) =
    let id = identifier t.class t.number c in
    in_header {t = t} {c = c} missing (record { size = size; is_size = l; whole = refl })
    (ap (λ q. id ++ q) e ∙ sym (append_assoc id b missing) ∙ ap (λ q. q ++ missing) (sym i.whole)) m
size_holds Indefinite t c b o i (indefinite rest e) = record { tag = t; constructed = c; rest = rest; whole = i.whole ∙ ap (λ q. identifier t.class t.number c ++ q) e }
size_holds BadLength t c b o i (reserved_size rest e) = reserved t c rest (i.whole ∙ ap (λ q. identifier t.class t.number c ++ q) e)
size_holds BadLength t c b o i (great_size rest l g e) = too_great t c rest l g (i.whole ∙ ap (λ q. identifier t.class t.number c ++ q) e)
size_holds BadTag t c b o i n = elim n [ ]

pub no_longer : (t : Tag) (c : Bool) (n : ℕ) (rest b o : List ℕ) → IdentifierAt t c b o → SizeAt n rest b → length rest ≤ length o
no_longer t c n rest b o i s =
    let h = identifier t.class t.number c ++ s.size in
    let k : length o ≡ length (h ++ rest) = ap length (whole_of t c n rest b o i s) in
    omega (arith, k, length-append h rest)
