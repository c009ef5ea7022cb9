-- A program has at most one first fault of tags. Two tables of written types that definitions see alike have first
-- faults of one rule and one type; if they are the same table, at one place.
use Rattle.std.proofs.Common.{◌≡◌, ◌⊎◌, inl, inr, ℕ, zero, suc, ◌<◌, Bool, true, false, List, [], ◌∷◌, map, Some, refl, sym, ap, ◌∙◌, arith, subst}
use Rattle.std.specs.Prelude.{slice_get, Vec}
use Rattle.std.specs.Global.{Global}
use Rattle.std.proofs.lemmas.Bool.{cases_order}
use Rattle.asn_base.specs.declared.tag.Tag.{Tag}
use Rattle.trees.specs.declared.location.SourceLocation.{SourceLocation}
use Rattle.trees.specs.declared.types.Keyword.{Keyword}
use Rattle.trees.specs.declared.types.Keyword.TheVariants.{Implicit}
use Rattle.trees.specs.declared.module.TagDefault.{TagDefault}
use Rattle.trees.specs.declared.module.TagDefault.TheVariants.{Automatic}
use Rattle.trees.specs.declared.types.ListKind.{ListKind}
use Rattle.trees.specs.declared.types.ListKind.TheVariants.{Sequence, Set, Choice}
use Rattle.names.specs.Faults.{fault_module, fault_name}
use Rattle.names.specs.Sources.{place_of}
use Rattle.type_table.specs.declared.table.ListMember.{ListMember}
use Rattle.type_table.specs.declared.table.Shape.{Shape}
use Rattle.type_table.specs.declared.table.Shape.TheVariants as shapes
use Rattle.type_table.specs.declared.table.TypeNode.{TypeNode}
use Rattle.type_table.specs.FirstInList.{IsSameLocation}
use Rattle.type_table.specs.Seen.{kind_of, part_of, type_of, types_of}
use Rattle.type_table.specs.Table.{Part, Type', tagged, members, IsUnderlying}
use Rattle.resolve.specs.Program.{Program}
use Rattle.tagging.specs.declared.check.Fault.TheVariants.{At}
use Rattle.tagging.specs.declared.check.Rule.{Rule}
use Rattle.tagging.specs.declared.check.Rule.TheVariants as rules
use Rattle.tagging.specs.declared.fault.TagFault.{TagFault}
use Rattle.tagging.specs.declared.fault.TagFault.TheVariants as faults
use Rattle.tagging.specs.declared.fault.Limit.TheVariants as limits
use Rattle.tagging.specs.Tags.{Tags}
use Rattle.tagging.specs.Tagged.{Bears, BearTags, Clash, IsImplicit, IsOverfull, IsTooGreat}
use Rattle.tagging.specs.Faults.{IsWrittenIn}
use Rattle.tagging.specs.FirstFault.{IsBearingAt, IsBareAt, IsBareInside, IsBareWithin, IsClashingAt, IsUntaggedAt, own, inner, NoneInside, written_members, IsListFault, IsShapeFault, IsTypeBreach, IsFaultless, IsFirstBreach, IsFirstTagFaultAt, IsFirstTagFault, ReportOneRule}
use Rattle.tagging.specs.proving.Checks.{HasFew, IsGood, IsNumbered, SuitsAutomatic, SuitsList}
use Rattle.tagging.specs.proving.Heads.{members_of}
use Rattle.tagging.proofs.Fronts.{core_unique}
use Rattle.tagging.proofs.Firsts.{part_there, seen_at, seen_members}
use Rattle.tagging.proofs.Tables.{is_kind}

one_number : (m n : ℕ) → (m < n → ⊥) → (n < m → ⊥) → m ≡ n
one_number m n f g = elim (cases_order m n) [
  | inl e ↦ e
  | inr s ↦ elim s [ inl l ↦ absurd (f l) | inr l ↦ absurd (g l) ]
]

same : {X : Type 0} {a b : X} → Some a ≡ Some b → a ≡ b
same h = cc

-- what a list has at a place where its image has something
record Preimage {A B : Type 0} (f : A → B) (xs : List A) (k : ℕ) (y : B) : Type 0 where
  item : A
  there : slice_get xs k ≡ Some item
  seen : f item ≡ y

preimage : {A B : Type 0} (f : A → B) (xs : List A) (k : ℕ) (y : B) → slice_get (map f xs) k ≡ Some y → Preimage f xs k y
preimage f [] k y e = absurd cc
preimage f (x ∷ xs) zero y e = record { item = x; there = refl; seen = same e }
preimage f (x ∷ xs) (suc k) y e = let h = preimage f xs k y e in record { item = h.item; there = h.there; seen = h.seen }

-- ---- members that definitions see alike

same_parts : (ms ns : List ListMember) (k l : ℕ) (m n : ListMember) → map part_of ms ≡ map part_of ns → k ≡ l →
    slice_get ms k ≡ Some m → slice_get ns l ≡ Some n → part_of m ≡ part_of n
same_parts ms ns k l m n q s e f =
    same (sym (part_there ms k m e) ∙ ap (slice_get (map part_of ms)) s ∙ ap (λ z. slice_get z l) q ∙ part_there ns l n f)

-- one place, if the lists are one
same_place : (ms ns : List ListMember) (k l : ℕ) (m n : ListMember) (at az : ℕ) → k ≡ l → slice_get ms k ≡ Some m →
    slice_get ns l ≡ Some n → at ≡ m.name.at → az ≡ n.name.at → ms ≡ ns → at ≡ az
same_place ms ns k l m n at az s e f a b q =
    let h : m ≡ n = same (sym e ∙ ap (slice_get ms) s ∙ ap (λ z. slice_get z l) q ∙ f) in
    a ∙ ap (λ (x : ListMember). x.name.at) h ∙ sym b

moved_there : (ms ns : List ListMember) (k : ℕ) (m : ListMember) → map part_of ms ≡ map part_of ns →
    slice_get ms k ≡ Some m → slice_get (map part_of ns) k ≡ Some (part_of m)
moved_there ms ns k m q e = ap (λ z. slice_get z k) (sym q) ∙ part_there ms k m e

module _ (ts : List Type') where
  bare_before : (ms ns : List ListMember) (i j at az : ℕ) → map part_of ms ≡ map part_of ns →
      (a : IsBareAt ts ms i at) (b : IsBareAt ts ns j az) → a.number < b.number → ⊥
  bare_before ms ns i j at az q a b l =
      b.before a.number (part_of a.member) l (moved_there ms ns a.number a.member q a.there)
      (subst (λ z. Tags ts z []) (sym a.is) a.untagged)

  bare_one : (ms ns : List ListMember) (i j at az : ℕ) → map part_of ms ≡ map part_of ns →
      IsBareAt ts ms i at → IsBareAt ts ns j az → (i ≡ j) × (ms ≡ ns → at ≡ az)
  bare_one ms ns i j at az q a b =
      let s = one_number a.number b.number (bare_before ms ns i j at az q a b) (bare_before ns ms j i az at (sym q) b a) in
      let h = same_parts ms ns a.number b.number a.member b.member q s a.there b.there in (
        sym a.is ∙ ap (λ (c : Part). c.ty) h ∙ b.is,
        same_place ms ns a.number b.number a.member b.member at az s a.there b.there a.reported b.reported,
      )

  bearing_before : (ms ns : List ListMember) (at az : ℕ) → map part_of ms ≡ map part_of ns →
      (a : IsBearingAt ts ms at) (b : IsBearingAt ts ns az) → a.number < b.number → ⊥
  bearing_before ms ns at az q a b l =
      b.before a.number (part_of a.member) l (moved_there ms ns a.number a.member q a.there) a.bears

  bearing_one : (ms ns : List ListMember) (at az : ℕ) → map part_of ms ≡ map part_of ns →
      IsBearingAt ts ms at → IsBearingAt ts ns az → ms ≡ ns → at ≡ az
  bearing_one ms ns at az q a b =
      let s = one_number a.number b.number (bearing_before ms ns at az q a b) (bearing_before ns ms az at (sym q) b a) in
      same_place ms ns a.number b.number a.member b.member at az s a.there b.there a.reported b.reported

  clashing_before : (k l : ListKind) (ms ns : List ListMember) (at az : ℕ) → k ≡ l → map part_of ms ≡ map part_of ns →
      (a : IsClashingAt ts k ms at) (b : IsClashingAt ts l ns az) → a.number < b.number → ⊥
  clashing_before k l ms ns at az s q a b h =
      b.before a.earlier a.number h
      (subst (λ z. Clash ts z (map part_of ns) a.earlier a.number) s
      (subst (λ z. Clash ts k z a.earlier a.number) q a.clash))

  clashing_one : (k l : ListKind) (ms ns : List ListMember) (at az : ℕ) → k ≡ l → map part_of ms ≡ map part_of ns →
      IsClashingAt ts k ms at → IsClashingAt ts l ns az → ms ≡ ns → at ≡ az
  clashing_one k l ms ns at az r q a b =
      let s = one_number a.number b.number (clashing_before k l ms ns at az r q a b)
      (clashing_before l k ns ms az at (sym r) (sym q) b a) in
      same_place ms ns a.number b.number a.member b.member at az s a.there b.there a.reported b.reported

  bare_moved : (ms ns : List ListMember) (i at : ℕ) → map part_of ms ≡ map part_of ns → IsBareAt ts ms i at →
      (az : ℕ) × IsBareAt ts ns i az
  bare_moved ms ns i at q a =
      let h = preimage part_of ns a.number (part_of a.member) (moved_there ms ns a.number a.member q a.there) in (
        h.item.name.at,
        record {
          number = a.number;
          member = h.item;
          there = h.there;
          reported = refl;
          is = ap (λ (c : Part). c.ty) h.seen ∙ a.is;
          untagged = a.untagged;
          before = λ n c l e. a.before n c l (ap (λ z. slice_get z n) q ∙ e);
        },
      )

  -- ---- types that definitions see alike

  same_types : (ws vs : List TypeNode) (i j : ℕ) (w v : TypeNode) → types_of ws ≡ ts → types_of vs ≡ ts → i ≡ j →
      slice_get ws i ≡ Some w → slice_get vs j ≡ Some v → type_of w ≡ type_of v
  same_types ws vs i j w v d e s f g =
      same (sym (seen_at ts ws i w d f) ∙ ap (slice_get ts) s ∙ seen_at ts vs j v e g)

  alike_members : (w v : TypeNode) → type_of w ≡ type_of v →
      map part_of (written_members w.shape) ≡ map part_of (written_members v.shape)
  alike_members w v e = seen_members w.shape ∙ ap (λ (t : Type'). members_of t.kind) e ∙ sym (seen_members v.shape)

  one_written : (ws vs : List TypeNode) (i j : ℕ) (w v : TypeNode) → i ≡ j → slice_get ws i ≡ Some w →
      slice_get vs j ≡ Some v → ws ≡ vs → w ≡ v
  one_written ws vs i j w v s e f q = same (sym e ∙ ap (slice_get ws) s ∙ ap (λ z. slice_get z j) q ∙ f)

  within_one : (ws vs : List TypeNode) (x y i j at az : ℕ) → types_of ws ≡ ts → types_of vs ≡ ts → x ≡ y →
      IsBareWithin ts ws x i at → IsBareWithin ts vs y j az → (i ≡ j) × (ws ≡ vs → at ≡ az)
  within_one ws vs x y i j at az d e s a b =
      let c = core_unique ts y a.choice b.choice (subst (λ z. IsUnderlying ts z a.choice) s a.leads) b.leads in
      let t = same_types ws vs a.choice b.choice a.written b.written d e c a.there b.there in
      let h = bare_one (written_members a.written.shape) (written_members b.written.shape) i j at az
      (alike_members a.written b.written t) a.bare b.bare in (
        h.0,
        λ q. h.1 (ap (λ (z : TypeNode). written_members z.shape)
            (one_written ws vs a.choice b.choice a.written b.written c a.there b.there q)),
      )

  node_moved : (ws vs : List TypeNode) (i : ℕ) (w : TypeNode) → types_of ws ≡ ts → types_of vs ≡ ts →
      slice_get ws i ≡ Some w → Preimage type_of vs i (type_of w)
  node_moved ws vs i w d e f = preimage type_of vs i (type_of w) (ap (λ z. slice_get z i) e ∙ seen_at ts ws i w d f)

  within_moved : (ws vs : List TypeNode) (x i at : ℕ) → types_of ws ≡ ts → types_of vs ≡ ts →
      IsBareWithin ts ws x i at → (az : ℕ) × IsBareWithin ts vs x i az
  within_moved ws vs x i at d e a =
      let h = node_moved ws vs a.choice a.written d e a.there in
      let b = bare_moved (written_members a.written.shape) (written_members h.item.shape) i at
      (alike_members a.written h.item (sym h.seen)) a.bare in (
        b.0,
        record { untagged = a.untagged; choice = a.choice; leads = a.leads; written = h.item; there = h.there; bare = b.1 },
      )

  -- ---- members with alternatives

  inside_before : (ws vs : List TypeNode) (ms ns : List ListMember) (i j at az : ℕ) → types_of ws ≡ ts →
      types_of vs ≡ ts → map part_of ms ≡ map part_of ns →
      (a : IsBareInside ts ws ms i at) (b : IsBareInside ts vs ns j az) → a.number < b.number → ⊥
  inside_before ws vs ms ns i j at az d e q a b l =
      let h = within_moved ws vs a.member.ty i at d e a.within in
      b.before a.number (part_of a.member) i h.0 l (moved_there ms ns a.number a.member q a.there) h.1

  inside_one : (ws vs : List TypeNode) (ms ns : List ListMember) (i j at az : ℕ) → types_of ws ≡ ts →
      types_of vs ≡ ts → map part_of ms ≡ map part_of ns →
      IsBareInside ts ws ms i at → IsBareInside ts vs ns j az → (i ≡ j) × (ws ≡ vs → at ≡ az)
  inside_one ws vs ms ns i j at az d e q a b =
      let s = one_number a.number b.number (inside_before ws vs ms ns i j at az d e q a b)
      (inside_before vs ws ns ms j i az at e d (sym q) b a) in
      let h = same_parts ms ns a.number b.number a.member b.member q s a.there b.there in
      within_one ws vs a.member.ty b.member.ty i j at az d e (ap (λ (c : Part). c.ty) h) a.within b.within

  none_inside : (ws vs : List TypeNode) (ms ns : List ListMember) (i at : ℕ) → types_of ws ≡ ts →
      types_of vs ≡ ts → map part_of ms ≡ map part_of ns → IsBareInside ts ws ms i at → NoneInside ts vs ns → ⊥
  none_inside ws vs ms ns i at d e q a f =
      let h = within_moved ws vs a.member.ty i at d e a.within in
      f a.number (part_of a.member) (moved_there ms ns a.number a.member q a.there) i h.0 h.1

  bears_none : (k : ListKind) (ms ns : List ListMember) (i at : ℕ) → (k ≡ Choice) ⊎ (k ≡ Set) →
      map part_of ms ≡ map part_of ns → IsBareAt ts ms i at → BearTags ts k (map part_of ns) → ⊥
  bears_none Sequence ms ns i at (inl s) q a f = absurd cc
  bears_none Sequence ms ns i at (inr s) q a f = absurd cc
  bears_none Set ms ns i at w q a f = f a.number (part_of a.member) (moved_there ms ns a.number a.member q a.there)
      (subst (λ z. Tags ts z []) (sym a.is) a.untagged)
  bears_none Choice ms ns i at w q a f = f a.number (part_of a.member) (moved_there ms ns a.number a.member q a.there)
      (subst (λ z. Tags ts z []) (sym a.is) a.untagged)

  untagged_none : (ws vs : List TypeNode) (k l : ListKind) (ms ns : List ListMember) (i at : ℕ) → types_of ws ≡ ts →
      types_of vs ≡ ts → k ≡ l → map part_of ms ≡ map part_of ns → IsUntaggedAt ts ws k ms i at →
      BearTags ts l (map part_of ns) → NoneInside ts vs ns → ⊥
  untagged_none ws vs k l ms ns i at d e s q (own w a) f g =
      bears_none k ms ns i at w q a (subst (λ z. BearTags ts z (map part_of ns)) (sym s) f)
  untagged_none ws vs k l ms ns i at d e s q (inner b a) f g = none_inside ws vs ms ns i at d e q a g

  untagged_one : (ws vs : List TypeNode) (k l : ListKind) (ms ns : List ListMember) (i j at az : ℕ) →
      types_of ws ≡ ts → types_of vs ≡ ts → k ≡ l → map part_of ms ≡ map part_of ns →
      IsUntaggedAt ts ws k ms i at → IsUntaggedAt ts vs l ns j az →
      (i ≡ j) × (ws ≡ vs → ms ≡ ns → at ≡ az)
  untagged_one ws vs k l ms ns i j at az d e s q (own w a) (own x b) =
      let h = bare_one ms ns i j at az q a b in (h.0, λ u v. h.1 v)
  untagged_one ws vs k l ms ns i j at az d e s q (own w a) (inner f b) =
      absurd (bears_none k ms ns i at w q a (subst (λ z. BearTags ts z (map part_of ns)) (sym s) f))
  untagged_one ws vs k l ms ns i j at az d e s q (inner f a) (own x b) =
      absurd (bears_none l ns ms j az x (sym q) b (subst (λ z. BearTags ts z (map part_of ms)) s f))
  untagged_one ws vs k l ms ns i j at az d e s q (inner f a) (inner g b) =
      let h = inside_one ws vs ms ns i j at az d e q a b in (h.0, λ u v. h.1 u)

  -- ---- lists

  -- a list's fault by its rule
  data ListReason (ws : List TypeNode) (x : ℕ) (k : ListKind) (d : TagDefault) (ms : List ListMember) (r : Rule)
      (i at : ℕ) : Type 0 where
    mixed : r ≡ rules.MixedAutomatic → d ≡ Automatic → (Bears ts (map part_of ms) false → ⊥) → i ≡ x →
        IsBearingAt ts ms at → ListReason ws x k d ms r i at
    bare : r ≡ rules.UntaggedChoice → SuitsAutomatic ts (map part_of ms) d → IsUntaggedAt ts ws k ms i at →
        ListReason ws x k d ms r i at
    clashing : r ≡ rules.TagClash → SuitsAutomatic ts (map part_of ms) d → BearTags ts k (map part_of ms) →
        NoneInside ts ws ms → i ≡ x → IsClashingAt ts k ms at → ListReason ws x k d ms r i at

  list_reason : (ws : List TypeNode) (x : ℕ) (k : ListKind) (d : TagDefault) (ms : List ListMember) (r : Rule)
      (i at : ℕ) → IsListFault ts ws x k d ms (At r i at) → ListReason ws x k d ms r i at
  list_reason ws x k d ms rules.Tags i at f = absurd f
  list_reason ws x k d ms rules.TagNumber i at f = absurd f
  list_reason ws x k d ms rules.TagClash i at f = clashing refl f.0 f.1 f.2 f.3 f.4
  list_reason ws x k d ms rules.ImplicitChoice i at f = absurd f
  list_reason ws x k d ms rules.UntaggedChoice i at f = bare refl f.0 f.1
  list_reason ws x k d ms rules.MixedAutomatic i at f = mixed refl f.0 f.1 f.2 f.3

  bears_any : (ms : List ListMember) (at : ℕ) → IsBearingAt ts ms at → Bears ts (map part_of ms) true
  bears_any ms at a = record {
    number = a.number;
    member = part_of a.member;
    there = part_there ms a.number a.member a.there;
    is_so = a.bears.is_so;
    bears = a.bears.bears;
  }

  mixed_none : (d e : TagDefault) (ms ns : List ListMember) (at : ℕ) → d ≡ e → map part_of ms ≡ map part_of ns →
      d ≡ Automatic → (Bears ts (map part_of ms) false → ⊥) → IsBearingAt ts ms at →
      SuitsAutomatic ts (map part_of ns) e → ⊥
  mixed_none d e ms ns at s q u f a g =
      let h : Bears ts (map part_of ns) true → Bears ts (map part_of ns) false =
      subst (SuitsAutomatic ts (map part_of ns)) (sym s ∙ u) g in
      f (subst (λ z. Bears ts z false) (sym q) (h (subst (λ z. Bears ts z true) q (bears_any ms at a))))

  list_one : (ws vs : List TypeNode) (x : ℕ) (k l : ListKind) (c d : TagDefault) (ms ns : List ListMember) (r q : Rule)
      (i j at az : ℕ) → types_of ws ≡ ts → types_of vs ≡ ts → k ≡ l → c ≡ d → map part_of ms ≡ map part_of ns →
      ListReason ws x k c ms r i at → ListReason vs x l d ns q j az →
      (r ≡ q) × (i ≡ j) × (ws ≡ vs → ms ≡ ns → at ≡ az)
  list_one ws vs x k l c d ms ns r q i j at az e f s u z (mixed rr v g xx a) (mixed rq w h yy b) =
      (rr ∙ sym rq, xx ∙ sym yy, λ _ y. bearing_one ms ns at az z a b y)
  list_one ws vs x k l c d ms ns r q i j at az e f s u z (mixed rr v g xx a) (bare rq h b) =
      absurd (mixed_none c d ms ns at u z v g a h)
  list_one ws vs x k l c d ms ns r q i j at az e f s u z (mixed rr v g xx a) (clashing rq h bb nn yy b) =
      absurd (mixed_none c d ms ns at u z v g a h)
  list_one ws vs x k l c d ms ns r q i j at az e f s u z (bare rr g a) (mixed rq w h yy b) =
      absurd (mixed_none d c ns ms az (sym u) (sym z) w h b g)
  list_one ws vs x k l c d ms ns r q i j at az e f s u z (bare rr g a) (bare rq h b) =
      let o = untagged_one ws vs k l ms ns i j at az e f s z a b in (rr ∙ sym rq, o.0, o.1)
  list_one ws vs x k l c d ms ns r q i j at az e f s u z (bare rr g a) (clashing rq h bb nn yy b) =
      absurd (untagged_none ws vs k l ms ns i at e f s z a bb nn)
  list_one ws vs x k l c d ms ns r q i j at az e f s u z (clashing rr g aa mm xx a) (mixed rq w h yy b) =
      absurd (mixed_none d c ns ms az (sym u) (sym z) w h b g)
  list_one ws vs x k l c d ms ns r q i j at az e f s u z (clashing rr g aa mm xx a) (bare rq h b) =
      absurd (untagged_none vs ws l k ns ms j az f e (sym s) (sym z) b aa mm)
  list_one ws vs x k l c d ms ns r q i j at az e f s u z (clashing rr g aa mm xx a) (clashing rq h bb nn yy b) =
      (rr ∙ sym rq, xx ∙ sym yy, λ _ y. clashing_one k l ms ns at az s z a b y)

  -- ---- types

  -- the fault of a shape by its kind
  data ShapeReason (ws : List TypeNode) (x place : ℕ) (d : TagDefault) (s : Shape) (r : Rule) (i at : ℕ) : Type 0 where
    worded : (t : Tag) (w : Keyword) (j : ℕ) → s ≡ shapes.Tagged t w j → r ≡ rules.ImplicitChoice → i ≡ x →
        at ≡ place → IsImplicit ts x → ShapeReason ws x place d s r i at
    listed : (k : ListKind) (m : Bool) (ms : Vec ListMember Global) → s ≡ shapes.Members k m ms →
        ListReason ws x k d ms.items r i at → ShapeReason ws x place d s r i at

  shape_reason : (ws : List TypeNode) (x place : ℕ) (d : TagDefault) (s : Shape) (r : Rule) (i at : ℕ) →
      IsShapeFault ts ws x place d s (At r i at) → ShapeReason ws x place d s r i at
  shape_reason ws x place d (shapes.Simple y) r i at f = absurd f
  shape_reason ws x place d (shapes.Reference j) r i at f = absurd f
  shape_reason ws x place d (shapes.Elements k j) r i at f = absurd f
  shape_reason ws x place d (shapes.Members k m ms) r i at f =
      listed k m ms refl (list_reason ws x k d ms.items r i at f)
  shape_reason ws x place d (shapes.Tagged t w j) rules.Tags i at f = absurd f
  shape_reason ws x place d (shapes.Tagged t w j) rules.TagNumber i at f = absurd f
  shape_reason ws x place d (shapes.Tagged t w j) rules.TagClash i at f = absurd f
  shape_reason ws x place d (shapes.Tagged t w j) rules.ImplicitChoice i at f = worded t w j refl refl f.0 f.1 f.2
  shape_reason ws x place d (shapes.Tagged t w j) rules.UntaggedChoice i at f = absurd f
  shape_reason ws x place d (shapes.Tagged t w j) rules.MixedAutomatic i at f = absurd f

  other_kind : (s z : Shape) (t : Tag) (w : Keyword) (j : ℕ) (k : ListKind) (m : Bool) (ms : Vec ListMember Global) →
      kind_of s ≡ kind_of z → s ≡ shapes.Tagged t w j → z ≡ shapes.Members k m ms → ⊥
  other_kind s z t w j k m ms e f g =
      let h : tagged t w j ≡ members k m (map part_of ms.items) = sym (ap kind_of f) ∙ e ∙ ap kind_of g in absurd cc

  same_list : (k l : ListKind) (m n : Bool) (cs ds : List Part) → members k m cs ≡ members l n ds → (k ≡ l) × (cs ≡ ds)
  same_list k l m n cs ds e = (cc, cc)

  same_items : (k l : ListKind) (m n : Bool) (ms ns : Vec ListMember Global) →
      shapes.Members k m ms ≡ shapes.Members l n ns → ms.items ≡ ns.items
  same_items k l m n ms ns e = let h : ms ≡ ns = cc in ap (λ (v : Vec ListMember Global). v.items) h

  shape_one : (ws vs : List TypeNode) (x : ℕ) (w v : TypeNode) (r q : Rule) (i j at az : ℕ) → types_of ws ≡ ts →
      types_of vs ≡ ts → type_of w ≡ type_of v →
      ShapeReason ws x w.at w.default w.shape r i at → ShapeReason vs x v.at v.default v.shape q j az →
      (r ≡ q) × (i ≡ j) × (ws ≡ vs → w ≡ v → at ≡ az)
  shape_one ws vs x w v r q i j at az d e t (worded g u c f rr xx aa a) (worded h o y k rq yy bb b) =
      (rr ∙ sym rq, xx ∙ sym yy, λ _ p. aa ∙ ap (λ (z : TypeNode). z.at) p ∙ sym bb)
  shape_one ws vs x w v r q i j at az d e t (worded g u c f rr xx aa a) (listed l n ns h b) =
      absurd (other_kind w.shape v.shape g u c l n ns (ap (λ (z : Type'). z.kind) t) f h)
  shape_one ws vs x w v r q i j at az d e t (listed k m ms g a) (worded h o y f rq yy bb b) =
      absurd (other_kind v.shape w.shape h o y k m ms (ap (λ (z : Type'). z.kind) (sym t)) f g)
  shape_one ws vs x w v r q i j at az d e t (listed k m ms g a) (listed l n ns h b) =
      let z = same_list k l m n (map part_of ms.items) (map part_of ns.items)
      (sym (ap kind_of g) ∙ ap (λ (z : Type'). z.kind) t ∙ ap kind_of h) in
      let o = list_one ws vs x k l w.default v.default ms.items ns.items r q i j at az d e z.0
      (ap (λ (z : Type'). z.default) t) z.1 a b in (
        o.0,
        o.1,
        λ u p. o.2 u (same_items k l m n ms ns (sym g ∙ ap (λ (z : TypeNode). z.shape) p ∙ h)),
      )

  -- a type's fault by its rule
  data TypeReason (ws : List TypeNode) (x : ℕ) (w : TypeNode) (r : Rule) (i at : ℕ) : Type 0 where
    overfull : r ≡ rules.Tags → i ≡ x → at ≡ w.at → IsOverfull ts x → TypeReason ws x w r i at
    great : r ≡ rules.TagNumber → i ≡ x → at ≡ w.at → HasFew ts x → IsTooGreat ts x → TypeReason ws x w r i at
    shaped : HasFew ts x → IsNumbered ts x → ShapeReason ws x w.at w.default w.shape r i at →
        TypeReason ws x w r i at

  type_reason : (ws : List TypeNode) (x : ℕ) (w : TypeNode) (r : Rule) (i at : ℕ) →
      IsTypeBreach ts ws x w (At r i at) → TypeReason ws x w r i at
  type_reason ws x w rules.Tags i at f = overfull refl f.0 f.1 f.2
  type_reason ws x w rules.TagNumber i at f = great refl f.0 f.1 f.2 f.3
  type_reason ws x w rules.TagClash i at f =
      shaped f.0 f.1 (shape_reason ws x w.at w.default w.shape rules.TagClash i at f.2)
  type_reason ws x w rules.ImplicitChoice i at f =
      shaped f.0 f.1 (shape_reason ws x w.at w.default w.shape rules.ImplicitChoice i at f.2)
  type_reason ws x w rules.UntaggedChoice i at f =
      shaped f.0 f.1 (shape_reason ws x w.at w.default w.shape rules.UntaggedChoice i at f.2)
  type_reason ws x w rules.MixedAutomatic i at f =
      shaped f.0 f.1 (shape_reason ws x w.at w.default w.shape rules.MixedAutomatic i at f.2)

  not_few : (x : ℕ) → IsOverfull ts x → HasFew ts x → ⊥
  not_few x o h = let f = h o.count o.counts in absurd (omega (arith, f, o.many))

  not_numbered : (x : ℕ) → IsTooGreat ts x → IsNumbered ts x → ⊥
  not_numbered x o h = let f = h o.number o.is in absurd (omega (arith, f, o.great))

  type_one : (ws vs : List TypeNode) (x : ℕ) (w v : TypeNode) (r q : Rule) (i j at az : ℕ) → types_of ws ≡ ts →
      types_of vs ≡ ts → slice_get ws x ≡ Some w → slice_get vs x ≡ Some v →
      TypeReason ws x w r i at → TypeReason vs x v q j az →
      (r ≡ q) × (i ≡ j) × (ws ≡ vs → at ≡ az)
  type_one ws vs x w v r q i j at az d e g h (overfull rr xx aa a) (overfull rq yy bb b) = (
    rr ∙ sym rq,
    xx ∙ sym yy,
    λ u. aa ∙ ap (λ (z : TypeNode). z.at) (one_written ws vs x x w v refl g h u) ∙ sym bb,
  )
  type_one ws vs x w v r q i j at az d e g h (overfull rr xx aa a) (great rq yy bb f b) = absurd (not_few x a f)
  type_one ws vs x w v r q i j at az d e g h (overfull rr xx aa a) (shaped f n b) = absurd (not_few x a f)
  type_one ws vs x w v r q i j at az d e g h (great rr xx aa f a) (overfull rq yy bb b) = absurd (not_few x b f)
  type_one ws vs x w v r q i j at az d e g h (great rr xx aa f a) (great rq yy bb k b) = (
    rr ∙ sym rq,
    xx ∙ sym yy,
    λ u. aa ∙ ap (λ (z : TypeNode). z.at) (one_written ws vs x x w v refl g h u) ∙ sym bb,
  )
  type_one ws vs x w v r q i j at az d e g h (great rr xx aa f a) (shaped k n b) = absurd (not_numbered x a n)
  type_one ws vs x w v r q i j at az d e g h (shaped f n a) (overfull rq yy bb b) = absurd (not_few x b f)
  type_one ws vs x w v r q i j at az d e g h (shaped f n a) (great rq yy bb k b) = absurd (not_numbered x b n)
  type_one ws vs x w v r q i j at az d e g h (shaped f n a) (shaped k m b) =
      let o = shape_one ws vs x w v r q i j at az d e (same_types ws vs x x w v d e refl g h) a b in
      (o.0, o.1, λ u. o.2 u (one_written ws vs x x w v refl g h u))

  -- ---- types without faults

  list_none : (ws vs : List TypeNode) (x : ℕ) (k : ListKind) (c : TagDefault) (ms ns : List ListMember) (r : Rule)
      (i at : ℕ) → types_of ws ≡ ts → types_of vs ≡ ts → map part_of ms ≡ map part_of ns →
      SuitsList ts k (map part_of ms) c → NoneInside ts vs ns → ListReason ws x k c ms r i at → ⊥
  list_none ws vs x k c ms ns r i at d e q f g (mixed rr u h xx a) = mixed_none c c ms ms at refl refl u h a f.unmixed
  list_none ws vs x k c ms ns r i at d e q f g (bare rr h a) =
      untagged_none ws vs k k ms ns i at d e refl q a (subst (BearTags ts k) q f.bear) g
  list_none ws vs x k c ms ns r i at d e q f g (clashing rr h bb nn xx a) =
      let y = a.clash in
      f.distinct a.earlier a.number y.first y.second y.before y.at_first y.at_second y.together y.tag y.in_first y.in_second

  shape_none : (ws vs : List TypeNode) (x : ℕ) (w v : TypeNode) (r : Rule) (i at : ℕ) → types_of ws ≡ ts →
      types_of vs ≡ ts → slice_get ws x ≡ Some w → type_of w ≡ type_of v → IsGood ts x →
      NoneInside ts vs (written_members v.shape) → ShapeReason ws x w.at w.default w.shape r i at → ⊥
  shape_none ws vs x w v r i at d e g t f h (worded c u j k rr xx aa a) =
      f.suits (tagged a.tag Implicit a.inner) a.default a.place a.is a.untagged
  shape_none ws vs x w v r i at d e g t f h (listed k m ms s a) =
      let z = is_kind ts x w (members k m (map part_of ms.items)) (seen_at ts ws x w d g) (ap kind_of s) in
      list_none ws vs x k w.default ms.items (written_members v.shape) r i at d e
      (ap (λ y. map part_of (written_members y)) (sym s) ∙ alike_members w v t)
      (f.suits (members k m (map part_of ms.items)) w.default (place_of w.place) z) h a

  type_none : (ws vs : List TypeNode) (x : ℕ) (w : TypeNode) (r : Rule) (i at : ℕ) → types_of ws ≡ ts →
      types_of vs ≡ ts → slice_get ws x ≡ Some w → IsFaultless ts vs x → TypeReason ws x w r i at → ⊥
  type_none ws vs x w r i at d e g f (overfull rr xx aa a) = not_few x a f.good.few
  type_none ws vs x w r i at d e g f (great rr xx aa h a) = not_numbered x a f.good.number
  type_none ws vs x w r i at d e g f (shaped h n a) =
      let v = node_moved ws vs x w d e g in
      shape_none ws vs x w v.item r i at d e g (sym v.seen) f.good (f.inside v.item v.there) a

  first_before : (ws vs : List TypeNode) (r q : Rule) (i j m n : ℕ) → types_of ws ≡ ts → types_of vs ≡ ts →
      (a : IsFirstBreach ts ws r i m) (b : IsFirstBreach ts vs q j n) → a.number < b.number → ⊥
  first_before ws vs r q i j m n d e a b l =
      type_none ws vs a.number a.written r i m d e a.there (b.before a.number l)
      (type_reason ws a.number a.written r i m a.fault)

  pub one_fault : (ws vs : List TypeNode) → types_of ws ≡ ts → types_of vs ≡ ts → (r q : Rule) (i j m n : ℕ) →
      IsFirstBreach ts ws r i m → IsFirstBreach ts vs q j n → (r ≡ q) × (i ≡ j) × (ws ≡ vs → m ≡ n)
  one_fault ws vs d e r q i j m n a b =
      let s = one_number a.number b.number (first_before ws vs r q i j m n d e a b) (first_before vs ws q r j i n m e d b a) in
      type_one ws vs a.number a.written b.written r q i j m n d e a.there (ap (slice_get vs) s ∙ b.there)
      (type_reason ws a.number a.written r i m a.fault)
      (type_reason vs a.number b.written q j n (subst (λ z. IsTypeBreach ts vs z b.written (At q j n)) (sym s) b.fault))

-- ---- faults by name

-- two spots have one module and one name
abbrev IsSameAssignment : SourceLocation → SourceLocation → Type 0
IsSameAssignment s t = (fault_module s ≡ fault_module t) × (fault_name s ≡ fault_name t)

one_home : (p : Program) (i j : ℕ) (s t : SourceLocation) → i ≡ j →
    IsWrittenIn p i (fault_module s) (fault_name s) → IsWrittenIn p j (fault_module t) (fault_name t) →
    IsSameAssignment s t
one_home p i j s t e a b =
    let y = same (sym a.found ∙ ap (slice_get p.types) e ∙ b.found) in
    let z = same
    (sym a.assigned.assigned ∙ ap (λ (z : Type'). slice_get p.assignments z.assignment) y ∙ b.assigned.assigned) in
    let h = same (sym a.assigned.header ∙ ap (λ z. slice_get p.headers z.0) z ∙ b.assigned.header) in
    (ap (λ z. z.0) h, ap (λ z. z.1) z)

-- two faults of one rule, in one assignment, and at one place if the tables are one
record AreAlike (ws vs : List TypeNode) (r q : Rule) (s t : SourceLocation) : Type 0 where
  rule : r ≡ q
  home : IsSameAssignment s t
  place : ws ≡ vs → s.at ≡ t.at

alike_at : (p : Program) (ws vs : List TypeNode) (r q : Rule) (s t : SourceLocation) → types_of ws ≡ p.types →
    types_of vs ≡ p.types → IsFirstTagFaultAt p ws r s → IsFirstTagFaultAt p vs q t → AreAlike ws vs r q s t
alike_at p ws vs r q s t d e a b =
    let h = one_fault p.types ws vs d e r q a.ty b.ty s.at t.at a.first b.first in
    record { rule = h.0; home = one_home p a.ty b.ty s t h.1 a.is_so b.is_so; place = h.2 }

-- the fault of this rule at this spot
abbrev fault_with : Rule → SourceLocation → TagFault
fault_with rules.Tags s = faults.Limit limits.Tags s
fault_with rules.TagNumber s = faults.Limit limits.TagNumber s
fault_with rules.TagClash s = faults.TagClash s
fault_with rules.ImplicitChoice s = faults.ImplicitChoice s
fault_with rules.UntaggedChoice s = faults.UntaggedChoice s
fault_with rules.MixedAutomatic s = faults.MixedAutomatic s

data Reported (p : Program) (ws : List TypeNode) (e : TagFault) : Type 0 where
  nothing : e ≡ faults.Memory → Reported p ws e
  ruled : (r : Rule) (s : SourceLocation) → e ≡ fault_with r s → IsFirstTagFaultAt p ws r s → Reported p ws e

reported : (p : Program) (ws : List TypeNode) (e : TagFault) → IsFirstTagFault p ws e → Reported p ws e
reported p ws faults.Memory f = nothing refl
reported p ws (faults.Limit limits.Tags s) f = ruled rules.Tags s refl f
reported p ws (faults.Limit limits.TagNumber s) f = ruled rules.TagNumber s refl f
reported p ws (faults.TagClash s) f = ruled rules.TagClash s refl f
reported p ws (faults.ImplicitChoice s) f = ruled rules.ImplicitChoice s refl f
reported p ws (faults.UntaggedChoice s) f = ruled rules.UntaggedChoice s refl f
reported p ws (faults.MixedAutomatic s) f = ruled rules.MixedAutomatic s refl f

module _ (P : SourceLocation → SourceLocation → Type 0) where
  by_rule : (r : Rule) (s t : SourceLocation) → P s t → ReportOneRule P (fault_with r s) (fault_with r t)
  by_rule rules.Tags s t h = (refl, h)
  by_rule rules.TagNumber s t h = (refl, h)
  by_rule rules.TagClash s t h = h
  by_rule rules.ImplicitChoice s t h = h
  by_rule rules.UntaggedChoice s t h = h
  by_rule rules.MixedAutomatic s t h = h

  memory_after : (e : TagFault) → ReportOneRule P e faults.Memory
  memory_after faults.Memory = tt
  memory_after (faults.Limit l s) = tt
  memory_after (faults.TagClash s) = tt
  memory_after (faults.ImplicitChoice s) = tt
  memory_after (faults.UntaggedChoice s) = tt
  memory_after (faults.MixedAutomatic s) = tt

  both_reported : (p : Program) (ws vs : List TypeNode) (e f : TagFault) → types_of ws ≡ p.types →
      types_of vs ≡ p.types → ((r q : Rule) (s t : SourceLocation) → AreAlike ws vs r q s t → P s t) →
      Reported p ws e → Reported p vs f → ReportOneRule P e f
  both_reported p ws vs e f d g h (nothing u) b = subst (λ z. ReportOneRule P z f) (sym u) tt
  both_reported p ws vs e f d g h (ruled r s u a) (nothing v) = subst (ReportOneRule P e) (sym v) (memory_after e)
  both_reported p ws vs e f d g h (ruled r s u a) (ruled q t v b) =
      let o = alike_at p ws vs r q s t d g a b in
      subst (λ z. ReportOneRule P z f) (sym u)
      (subst (ReportOneRule P (fault_with r s)) (ap (λ z. fault_with z t) o.rule ∙ sym v)
      (by_rule r s t (h r q s t o)))

pub one_spot : (p : Program) (ws : List TypeNode) (e f : TagFault) → types_of ws ≡ p.types → IsFirstTagFault p ws e →
    IsFirstTagFault p ws f → ReportOneRule IsSameLocation e f
one_spot p ws e f d a b =
    both_reported IsSameLocation p ws ws e f d d (λ r q s t o. (o.home.0, o.home.1, o.place refl))
    (reported p ws e a) (reported p ws f b)
