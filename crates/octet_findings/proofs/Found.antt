-- Findings by what they say.
use Rattle.std.proofs.Common.{arith, ◌≡◌, ◌∙◌, refl, sym, ap, subst, ℕ, ◌+◌, ◌-◌, ◌<◌, if◌then◌else◌, List, [], ◌++◌, Bool, true, false, not, Option, None, Some, codes, drop, get_or, length, append-nil}
use Rattle.std.proofs.lemmas.Option.{slice_get-get_or, slice_get_past}
use Rattle.std.proofs.lemmas.Str.{utf8_valid_len-IsUtf8}
use Rattle.std.specs.Prelude.{IsUtf8, decimal, slice_get}
use Rattle.std.specs.List.{position_from}
use Rattle.std.specs.Str.Lossy.{utf8_valid_len}
use Rattle.asn_base.specs.Schemas.{is_character}
use Rattle.asn_base.specs.Types.{Item, Kind}
use Rattle.asn_base.specs.declared.strings.StringKind.{StringKind}
use Rattle.asn_base.specs.declared.tag.Tag.{Tag}
use Rattle.messages.specs.declared.fault.Finding.{Finding}
use Rattle.octets.specs.Fronts.{HeaderAt}
use Rattle.octet_findings.specs.Contents.{FindsContents, Says, Words, arcs_words, characters_of, characters_words, contents_words, needless_from, octet_words, place_words, septets_words, there, utf8_words}
use Rattle.octet_findings.specs.Findings.{Finds, FindsRest, counted}
use Rattle.octet_findings.specs.Items.{listed_after}
use Rattle.octet_findings.specs.Places.{IsLeafAt}
use Rattle.octet_findings.specs.Tags.{Expects, FindsTag, found_tag}

pub rest_found : (octets : List ℕ) (at : ℕ) (rest words expected : List ℕ) (o : Option Finding)
    → rest ≡ counted (length octets - at) (codes "octet")
    → words ≡ rest ++ codes " after the whole value"
    → expected ≡ codes "the end of the message"
    → Finds words expected o
    → FindsRest octets at o
rest_found octets at rest words expected None r w e f = f
rest_found octets at rest words expected (Some g) r w e f =
    (f.0 ∙ (w ∙ ap (λ x. x ++ codes " after the whole value") r), f.1 ∙ e)

pub tag_found : (octets : List ℕ) (at : ℕ) (t : Tag) (c : Bool) (n k : ℕ) (words expected : List ℕ) (o : Option Finding)
    → HeaderAt t c n k (drop at octets)
    → words ≡ found_tag t c
    → Finds words expected o
    → FindsTag octets at o
tag_found octets at t c n k words expected None h w f = absurd f
tag_found octets at t c n k words expected (Some g) h w f = record {
  tag = t;
  constructed = c;
  contents = n;
  long = k;
  is_there = h;
  found = f.0 ∙ w;
}

pub tag_expected : (words expected wanted : List ℕ) (o : Option Finding)
    → expected ≡ wanted
    → Finds words expected o
    → Expects wanted o
tag_expected words expected wanted None e f = absurd f
tag_expected words expected wanted (Some g) e f = f.1 ∙ e

pub found_so : (w : Words) (words expected : List ℕ) (o : Option Finding)
    → words ≡ w.found
    → expected ≡ w.expected
    → Finds words expected o
    → Says (Some w) o
found_so w words expected None e g f = f
found_so w words expected (Some h) e g f = (f.0 ∙ e, f.1 ∙ g)

pub contents_found : (k : Kind) (octets : List ℕ) (at there_at : ℕ) (t : Tag) (x : List ℕ) (o : Option Finding)
    → IsLeafAt octets at t x
    → there_at ≡ at
    → Says (contents_words k there_at x) o
    → FindsContents k octets at o
contents_found k octets at there_at t x o l e w = there l (subst (λ y. Says (contents_words k y x) o) e w)

pub said_so : (a b words expected : List ℕ) (o : Option Finding)
    → words ≡ a
    → expected ≡ b
    → Finds words expected o
    → Finds a b o
said_so a b words expected None e g f = f
said_so a b words expected (Some h) e g f = (f.0 ∙ e, f.1 ∙ g)

pub arcs_found : (at i : ℕ) (x words expected : List ℕ) (o : Option Finding)
    → Some i ≡ needless_from true 0 x
    → words ≡ codes "a number that begins with the needless octet 80 at offset " ++ decimal (at + i)
    → expected ≡ codes "its shortest form"
    → Finds words expected o
    → Says (arcs_words at x) o
arcs_found at i x words expected o e w v f =
    subst (λ y. Says (septets_words at x y) o) e
    (said_so (codes "a number that begins with the needless octet 80 at offset " ++ decimal (at + i))
    (codes "its shortest form")
    words expected o w v f)

-- the octet at a place of contents octets
octet_said : (at i : ℕ) (x expected : List ℕ) (o : Option Finding)
    → i < length x
    → Says (octet_words (Some (get_or x i 0)) (at + i) expected) o
    → Says (octet_words (slice_get x i) (at + i) expected) o
octet_said at i x expected o l f =
    subst (λ y. Says (octet_words y (at + i) expected) o) (sym (slice_get-get_or x i 0 l)) f

pub characters_found : (k : StringKind) (at : ℕ) (x : List ℕ) (i : ℕ) (expected : List ℕ) (o : Option Finding)
    → Some i ≡ position_from (λ c. not (is_character k c)) 0 x
    → i < length x
    → expected ≡ characters_of k
    → Says (octet_words (Some (get_or x i 0)) (at + i) expected) o
    → Says (characters_words k at x) o
characters_found k at x i expected o e l w f =
    subst (λ y. Says (place_words k at x y) o) e
    (subst (λ y. Says (octet_words (slice_get x i) (at + i) y) o) w (octet_said at i x expected o l f))

pub utf8_found : (at : ℕ) (x : List ℕ) (i : ℕ) (o : Option Finding)
    → i ≡ utf8_valid_len x
    → i < length x
    → Says (octet_words (Some (get_or x i 0)) (at + i) (codes "the next character in UTF-8")) o
    → Says (utf8_words at x) o
utf8_found at x i o e l f =
    subst (λ y. Says (octet_words (slice_get x y) (at + y) (codes "the next character in UTF-8")) o) e
    (octet_said at i x (codes "the next character in UTF-8") o l f)

pub utf8_none : (at : ℕ) (x : List ℕ) → IsUtf8 x → Says (utf8_words at x) None
utf8_none at x u =
    let n = utf8_valid_len-IsUtf8 x u in
    let e = slice_get_past x (utf8_valid_len x) (omega (arith, n)) in
    subst (λ y. Says (octet_words y (at + utf8_valid_len x) (codes "the next character in UTF-8")) None) (sym e) refl

if_same : (b : Bool) (x : List ℕ) → (if b then x else x) ≡ x
if_same true x = refl
if_same false x = refl

-- items with no room for all of the first ones
pub listed_cut : (old mid : List ℕ) (r s a : List Item) (b : Bool)
    → old ≡ []
    → s ≡ r
    → b ≡ false
    → listed_after old (s ++ a) ≡ (if b then listed_after mid a else mid)
    → mid ≡ listed_after [] (r ++ a)
listed_cut old mid r s a b e f g h =
    sym (subst (λ y. (if y then listed_after mid a else mid) ≡ mid) (sym g) refl)
    ∙ sym h
    ∙ ap (λ y. listed_after y (s ++ a)) e
    ∙ ap (λ y. listed_after [] (y ++ a)) f

-- items of which the first ones are all listed
pub listed_both : (old mid new : List ℕ) (r s a t : List Item) (b d : Bool)
    → old ≡ []
    → s ≡ r
    → t ≡ a
    → b ≡ true
    → listed_after old (s ++ a) ≡ (if b then listed_after mid a else mid)
    → listed_after mid (t ++ []) ≡ (if d then new else new)
    → new ≡ listed_after [] (r ++ a)
listed_both old mid new r s a t b d e f k g h m =
    sym (if_same d new)
    ∙ sym m
    ∙ ap (λ y. listed_after mid y) (append-nil t ∙ k)
    ∙ sym (subst (λ y. (if y then listed_after mid a else mid) ≡ listed_after mid a) (sym g) refl)
    ∙ sym h
    ∙ ap (λ y. listed_after y (s ++ a)) e
    ∙ ap (λ y. listed_after [] (y ++ a)) f
