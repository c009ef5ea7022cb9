-- Accounts by kind.
use Rattle.std.proofs.Common.{◌≡◌, ℕ, Bool, List, [], ◌∷◌, ◌++◌, refl, sym, ap, subst, ◌∙◌}
use Rattle.std.specs.Prelude.{Option, Some, None, slice_get}
use Rattle.asn_base.specs.declared.tag.Tag.{Tag}
use Rattle.asn_base.specs.declared.schema.Core.{Core}
use Rattle.asn_base.specs.declared.schema.Core.TheVariants as cores
use Rattle.asn_base.specs.declared.schema.Alternatives.{Alternatives}
use Rattle.asn_base.specs.declared.schema.Component.{Component as Component'}
use Rattle.asn_base.specs.declared.schema.TypeId.{TypeId}
use Rattle.asn_base.specs.declared.constraint.Constraint.{Constraint as Constraint'}
use Rattle.std.specs.Prelude.{Vec}
use Rattle.std.specs.declared.alloc.Global.{Global}
use Rattle.asn_base.specs.Seen.{kind_of}
use Rattle.asn_base.specs.Abstract.{AbstractValue, Row, fields, list, alternative}
use Rattle.asn_base.specs.Same.{IsLeaf}
use Rattle.asn_base.specs.Types.{Constraint, Alternative, Kind, a_sequence, a_sequence_of, a_choice, Component, Resolved}
use Rattle.asn_base.specs.Typed.{ValueOf, of_leaf, of_sequence, of_sequence_of, of_choice, AreComponents, AreElements}
use Rattle.asn_base.specs.Decided.{IsChosen}
use Rattle.encodings.specs.Account.{Numbers, Account, header, Inside, leaf_row, wrap_row, seq_row, seqof_row, set_row, setof_row, Rows, no_row}
use Rattle.account_checker.specs.declared.checks.Checks.{Checks}
use Rattle.account_checker.specs.Follows.{Checked, total_octets, is_built, HasContents, AreContents, HeaderFollows, Follows, follows, Under, bare, innermost, InsideFollows, leaf_follows, choice_follows, sequence_follows, sequence_of_follows, set_follows, set_of_follows}
use Rattle.account_checker.specs.declared.order.Order.TheVariants.{InOrder}
use Rattle.account_checker.specs.Parts.{ChoiceFollows, FieldsFollow, ListFollows}
use Rattle.account_checker.proofs.Headers.{Only}
use Rattle.account_checker.proofs.Steps.{header_one}

-- ---- types

some_or : Resolved → Option Resolved → Resolved
some_or d None = d
some_or d (Some r) = r

same_type : {r p : Resolved} → Some r ≡ Some p → r ≡ p
unfolding some_or
same_type {r} e = ap (some_or r) e

pub type_made : {s : List Resolved} {q : Checks} {t : ℕ} {ts : List Tag} {v : AbstractValue} {o : List ℕ} {a : Account} (r : Resolved) → slice_get s t ≡ Some r → ts ≡ r.tags → Under s q ts r.kind v o a → Follows s q t v o a
type_made {s} {q} {t} {ts} {v} {o} {a} r e f d = follows {tags = r.tags} {k = r.kind} (record { found = e }) (subst (λ w. Under s q w r.kind v o a) f d)

pub type_opened : {s : List Resolved} {q : Checks} {t : ℕ} {ts : List Tag} {v : AbstractValue} {o : List ℕ} {a : Account} (r : Resolved) → slice_get s t ≡ Some r → ts ≡ r.tags → Follows s q t v o a → Under s q ts r.kind v o a
type_opened {s} {q} {t} {ts} {v} {o} {a} r e f (follows {tags = tags} {k = k} i d) =
    let is = same_type (sym i.found ∙ e) in
    subst (λ w. Under s q w r.kind v o a) (sym f) (subst (λ w. Under s q w.tags w.kind v o a) is d)

-- ---- a CHOICE

pub choice_value : {s : List Resolved} {n : ℕ} {k : Kind} {w : AbstractValue} {e : Bool} {root more : List Alternative} → k ≡ a_choice root e more → ValueOf s n k w → (i : ℕ) (v : AbstractValue) → w ≡ alternative i v → IsChosen s n (root ++ more) i v
choice_value {s} {n} {k} {w} {e} {root} {more} f d i v g = by (subst (λ q. ValueOf s n (a_choice root e more) q) g (subst (λ q. ValueOf s n q w) f d))
  where
    by : ValueOf s n (a_choice root e more) (alternative i v) → IsChosen s n (root ++ more) i v
    by (of_leaf f) = elim f [ ]
    by (of_choice {a = a} g h) = (a, g, h)

pub bare_made : {s : List Resolved} {q : Checks} {k : Kind} {v : AbstractValue} {o : List ℕ} {a : Account} {e : Bool} {root more : List Alternative} → k ≡ a_choice root e more → ChoiceFollows s q (root ++ more) v o a → Under s q [] k v o a
bare_made {s} {q} {k} {v} {o} {a} {e} {root} {more} f d = subst (λ w. Under s q [] w v o a) (sym f) (subst (λ w. Under s q [] (a_choice root e more) w o a) (sym d.2) (bare d.3.1 d.3.2))

pub bare_opened : {s : List Resolved} {q : Checks} {k : Kind} {v : AbstractValue} {o : List ℕ} {a : Account} {e : Bool} {root more : List Alternative} → k ≡ a_choice root e more → Under s q [] k v o a → ChoiceFollows s q (root ++ more) v o a
bare_opened {s} {q} {k} {v} {o} {a} {e} {root} {more} f d = by (subst (λ w. Under s q [] w v o a) f d)
  where
    by : {v : AbstractValue} → Under s q [] (a_choice root e more) v o a → ChoiceFollows s q (root ++ more) v o a
    by (bare {i = i} {b = b} {v = v} g d) = (i, v, refl, (b, g, d))

pub bare_choice : {s : List Resolved} {q : Checks} {k : Kind} {v : AbstractValue} {o : List ℕ} {a : Account} → Under s q [] k v o a → (root : List Alternative) × (e : Bool) × (more : List Alternative) × (k ≡ a_choice root e more)
bare_choice (bare {e = e} {root = root} {more = more} g d) = (root, e, more, refl)

pub core_choice : (c : Core) (root : List Alternative) (e : Bool) (more : List Alternative) → kind_of c ≡ a_choice root e more → (as' : Alternatives) × (c ≡ cores.Choice as')
core_choice (cores.Choice as') root e more f = (as', refl)
core_choice q root e more f = absurd (cc)

-- ---- one tag

pub tag_made : {s : List Resolved} {q : Checks} {t : Tag} {k : Kind} {c : Bool} {v : AbstractValue} {o x : List ℕ} {a : Account} {z : Numbers} {i : Inside} → c ≡ is_built k → a ≡ header z i → HeaderFollows q t c z o x → InsideFollows s q k v z.contents x i → Under s q (t ∷ []) k v o a
tag_made {s} {q} {t} {k} {c} {v} {o} {x} {a} {z} {i} e f h d = subst (λ w. Under s q (t ∷ []) k v o w) (sym f) (innermost (subst (λ w. HeaderFollows q t w z o x) e h) d)

pub record Tagged (s : List Resolved) (q : Checks) (t : Tag) (c : Bool) (k : Kind) (v : AbstractValue) (o : List ℕ) (z : Numbers) (i : Inside) : Type 0 where
  pub x : List ℕ
  pub is_at : HeaderFollows q t c z o x
  pub within : InsideFollows s q k v z.contents x i

pub tag_opened : {s : List Resolved} {q : Checks} {t : Tag} {k : Kind} {c : Bool} {v : AbstractValue} {o : List ℕ} {a : Account} {z : Numbers} {i : Inside} → c ≡ is_built k → a ≡ header z i → Under s q (t ∷ []) k v o a → Tagged s q t c k v o z i
tag_opened {s} {q} {t} {k} {c} {v} {o} {a} {z} {i} e f d = by (subst (λ w. Under s q (t ∷ []) k v o w) f d)
  where
    by : Under s q (t ∷ []) k v o (header z i) → Tagged s q t c k v o z i
    by (innermost {x = x} h d) = record { x = x; is_at = subst (λ w. HeaderFollows q t w z o x) (sym e) h; within = d }

pub tag_within : Only → {s : List Resolved} {q : Checks} {t : Tag} {c : Bool} {k : Kind} {v : AbstractValue} {o x : List ℕ} {z : Numbers} {i : Inside} → HeaderFollows q t c z o x → Tagged s q t c k v o z i → InsideFollows s q k v z.contents x i
tag_within only {s} {q} {t} {c} {k} {v} {o} {x} {z} {i} h w = subst (λ r. InsideFollows s q k v z.contents r i) (header_one only h w.is_at) w.within

-- ---- within a header, kind by kind

-- what is in the rows of a header of this kind
pub choice_within : {s : List Resolved} {q : Checks} {k : Kind} {v : AbstractValue} {n : ℕ} {x : List ℕ} {b : Account} {e : Bool} {root more : List Alternative} → k ≡ a_choice root e more → Checked q.numbers (n ≡ total_octets b) → ChoiceFollows s q (root ++ more) v x b → InsideFollows s q k v n x (wrap_row b)
choice_within {s} {q} {k} {v} {n} {x} {b} {e} {root} {more} f h d = subst (λ w. InsideFollows s q w v n x (wrap_row b)) (sym f) (subst (λ w. InsideFollows s q (a_choice root e more) w n x (wrap_row b)) (sym d.2) (choice_follows d.3.1 h d.3.2))

pub choice_parts : {s : List Resolved} {q : Checks} {k : Kind} {v : AbstractValue} {n : ℕ} {x : List ℕ} {i : Inside} {e : Bool} {root more : List Alternative} → k ≡ a_choice root e more → InsideFollows s q k v n x i → (b : Account) × (i ≡ wrap_row b) × Checked q.numbers (n ≡ total_octets b) × ChoiceFollows s q (root ++ more) v x b
choice_parts {s} {q} {k} {v} {n} {x} {i} {e} {root} {more} f d = by (subst (λ w. InsideFollows s q w v n x i) f d)
  where
    by : {v : AbstractValue} {i : Inside} → InsideFollows s q (a_choice root e more) v n x i → (b : Account) × (i ≡ wrap_row b) × Checked q.numbers (n ≡ total_octets b) × ChoiceFollows s q (root ++ more) v x b
    by (leaf_follows l a b) = absurd l
    by (choice_follows {i = i} {b = b} {v = v} {a = a} g h d) = (a, refl, h, (i, v, refl, (b, g, d)))

pub sequence_within : {s : List Resolved} {q : Checks} {k : Kind} {v : AbstractValue} {n : ℕ} {x : List ℕ} {rs : Rows} {e : Bool} {cs : List Component} → k ≡ a_sequence e cs → FieldsFollow s q InOrder cs v n x rs → InsideFollows s q k v n x (seq_row rs)
sequence_within {s} {q} {k} {v} {n} {x} {rs} {e} {cs} f d = subst (λ w. InsideFollows s q w v n x (seq_row rs)) (sym f) (subst (λ w. InsideFollows s q (a_sequence e cs) w n x (seq_row rs)) (sym d.1) (sequence_follows d.2 d.4))

pub sequence_parts : {s : List Resolved} {q : Checks} {k : Kind} {v : AbstractValue} {n : ℕ} {x : List ℕ} {i : Inside} {e : Bool} {cs : List Component} → k ≡ a_sequence e cs → InsideFollows s q k v n x i → (rs : Rows) × (i ≡ seq_row rs) × FieldsFollow s q InOrder cs v n x rs
sequence_parts {s} {q} {k} {v} {n} {x} {i} {e} {cs} f d = by (subst (λ w. InsideFollows s q w v n x i) f d)
  where
    by : {v : AbstractValue} {i : Inside} → InsideFollows s q (a_sequence e cs) v n x i → (rs : Rows) × (i ≡ seq_row rs) × FieldsFollow s q InOrder cs v n x rs
    by (leaf_follows l a b) = absurd l
    by (sequence_follows {vs = vs} {rs = rs} h d) = (rs, refl, (vs, refl, h, tt, d))

pub list_within : {s : List Resolved} {q : Checks} {k : Kind} {v : AbstractValue} {n : ℕ} {x : List ℕ} {rs : Rows} {c : Constraint} {u : ℕ} → k ≡ a_sequence_of c u → ListFollows s q InOrder u v n x rs → InsideFollows s q k v n x (seqof_row rs)
list_within {s} {q} {k} {v} {n} {x} {rs} {c} {u} f d = subst (λ w. InsideFollows s q w v n x (seqof_row rs)) (sym f) (subst (λ w. InsideFollows s q (a_sequence_of c u) w n x (seqof_row rs)) (sym d.1) (sequence_of_follows d.2 d.4))

pub list_parts : {s : List Resolved} {q : Checks} {k : Kind} {v : AbstractValue} {n : ℕ} {x : List ℕ} {i : Inside} {c : Constraint} {u : ℕ} → k ≡ a_sequence_of c u → InsideFollows s q k v n x i → (rs : Rows) × (i ≡ seqof_row rs) × ListFollows s q InOrder u v n x rs
list_parts {s} {q} {k} {v} {n} {x} {i} {c} {u} f d = by (subst (λ w. InsideFollows s q w v n x i) f d)
  where
    by : {v : AbstractValue} {i : Inside} → InsideFollows s q (a_sequence_of c u) v n x i → (rs : Rows) × (i ≡ seqof_row rs) × ListFollows s q InOrder u v n x rs
    by (leaf_follows l a b) = absurd l
    by (sequence_of_follows {vs = vs} {rs = rs} h d) = (rs, refl, (vs, refl, h, tt, d))

pub leaf_parts : {s : List Resolved} {q : Checks} {k : Kind} {v : AbstractValue} {n : ℕ} {x : List ℕ} {i : Inside} → IsLeaf k → InsideFollows s q k v n x i → (i ≡ leaf_row) × Checked q.numbers (HasContents s k v n) × Checked q.contents (AreContents s k v x)
leaf_parts l (leaf_follows m a b) = (refl, a, b)
leaf_parts l q = absurd l

-- values of a kind

pub sequence_value : {s : List Resolved} {n : ℕ} {k : Kind} {w : AbstractValue} {e : Bool} {cs : List Component} → k ≡ a_sequence e cs → ValueOf s n k w → (vs : Row) → w ≡ fields vs → AreComponents s n cs vs
sequence_value {s} {n} {k} {w} {e} {cs} f d vs g = by (subst (λ q. ValueOf s n (a_sequence e cs) q) g (subst (λ q. ValueOf s n q w) f d))
  where
    by : ValueOf s n (a_sequence e cs) (fields vs) → AreComponents s n cs vs
    by (of_leaf f) = elim f [ ]
    by (of_sequence a h) = a

pub list_value : {s : List Resolved} {n : ℕ} {k : Kind} {w : AbstractValue} {c : Constraint} {u : ℕ} → k ≡ a_sequence_of c u → ValueOf s n k w → (vs : Row) → w ≡ list vs → AreElements s n u vs
list_value {s} {n} {k} {w} {c} {u} f d vs g = by (subst (λ q. ValueOf s n (a_sequence_of c u) q) g (subst (λ q. ValueOf s n q w) f d))
  where
    by : ValueOf s n (a_sequence_of c u) (list vs) → AreElements s n u vs
    by (of_leaf f) = elim f [ ]
    by (of_sequence_of a h) = a

-- the same if the row is known

inside_rows : Inside → Rows
inside_rows (seq_row rs) = rs
inside_rows (seqof_row rs) = rs
inside_rows (set_row rs p i) = rs
inside_rows (setof_row rs p i) = rs
inside_rows leaf_row = no_row
inside_rows (wrap_row a) = no_row

inside_account : Account → Inside → Account
inside_account d (wrap_row a) = a
inside_account d q = d

pub sequence_same : {s : List Resolved} {q : Checks} {k : Kind} {v : AbstractValue} {n : ℕ} {x : List ℕ} {rs : Rows} {e : Bool} {cs : List Component} → k ≡ a_sequence e cs → InsideFollows s q k v n x (seq_row rs) → FieldsFollow s q InOrder cs v n x rs
unfolding inside_rows
sequence_same {s} {q} {k} {v} {n} {x} {rs} {e} {cs} f d = let p = sequence_parts f d in subst (λ w. FieldsFollow s q InOrder cs v n x w) (sym (ap inside_rows p.1)) p.2

pub list_same : {s : List Resolved} {q : Checks} {k : Kind} {v : AbstractValue} {n : ℕ} {x : List ℕ} {rs : Rows} {c : Constraint} {u : ℕ} → k ≡ a_sequence_of c u → InsideFollows s q k v n x (seqof_row rs) → ListFollows s q InOrder u v n x rs
unfolding inside_rows
list_same {s} {q} {k} {v} {n} {x} {rs} {c} {u} f d = let p = list_parts f d in subst (λ w. ListFollows s q InOrder u v n x w) (sym (ap inside_rows p.1)) p.2

pub choice_same : {s : List Resolved} {q : Checks} {k : Kind} {v : AbstractValue} {n : ℕ} {x : List ℕ} {b : Account} {e : Bool} {root more : List Alternative} → k ≡ a_choice root e more → InsideFollows s q k v n x (wrap_row b) → Checked q.numbers (n ≡ total_octets b) × ChoiceFollows s q (root ++ more) v x b
unfolding inside_account
choice_same {s} {q} {k} {v} {n} {x} {b} {e} {root} {more} f d = let p = choice_parts f d in subst (λ w. Checked q.numbers (n ≡ total_octets w) × ChoiceFollows s q (root ++ more) v x w) (sym (ap (inside_account b) p.1)) (p.2, p.3)

pub core_leaf : (c : Core) → ((e : Bool) (cs : Vec Component' Global) → c ≡ cores.Sequence e cs → ⊥) → ((e : Bool) (cs : Vec Component' Global) → c ≡ cores.Set e cs → ⊥) → ((z : Constraint') (u : TypeId) → c ≡ cores.SequenceOf z u → ⊥) → ((z : Constraint') (u : TypeId) → c ≡ cores.SetOf z u → ⊥) → ((as' : Alternatives) → c ≡ cores.Choice as' → ⊥) → IsLeaf (kind_of c)
core_leaf (cores.Sequence x cs) a b d e f = absurd (a x cs refl)
core_leaf (cores.Set x cs) a b d e f = absurd (b x cs refl)
core_leaf (cores.SequenceOf c u) a b d e f = absurd (d c u refl)
core_leaf (cores.SetOf c u) a b d e f = absurd (e c u refl)
core_leaf (cores.Choice as') a b d e f = absurd (f as' refl)
core_leaf q a b d e f = tt
