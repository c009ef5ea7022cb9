use Rattle.asn_base.proofs.Abstracts.{abstract-bool, abstract-int, abstract-enum, abstract-bits, abstract-octets, abstract-text, abstract-null, abstract-oid, abstract-relative_oid, abstract-fields, abstract-list, abstract-alternative}
use Rattle.asn_base.proofs.law.lemma_abstract_values.Goals as goal

pub returns : goal.returns
returns c = record { bool = abstract-bool; int = abstract-int; enum_ = abstract-enum; bits_ = abstract-bits; octets_ = abstract-octets; text_ = abstract-text; null_ = abstract-null; oid_ = abstract-oid; relative_oid_ = abstract-relative_oid; fields_ = abstract-fields; list_ = abstract-list; alt = abstract-alternative }
