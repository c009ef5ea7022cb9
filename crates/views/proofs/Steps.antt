-- What a builder does, one step after the other.
use Rattle.std.proofs.Common.{arith, ◌≡◌, ℕ, suc, ◌+◌, ◌-◌, ◌<◌, List, [], ◌∷◌, ◌++◌, length, get_or, refl, sym, ap, subst, ◌∙◌, length-append, append_assoc}
use Rattle.std.specs.Prelude.{slice_set, None}
use Rattle.std.specs.List.{slice_range}
use Rattle.std.proofs.Math.Seq.{set-append_seam}
use Rattle.std.proofs.lemmas.List.{append-nil, map-append, map-set, get_or-map}
use Rattle.views.specs.declared.node.NodeContent.{NodeContent as NodeContent'}
use Rattle.views.specs.declared.node.NodeContent.TheVariants as content
use Rattle.views.specs.declared.node.Node.{Node as Node'}
use Rattle.views.specs.Tree.{bits, octets, text, oid, relative_oid, ViewTree, ViewMembers, no_member, member, joined}
use Rattle.views.specs.Nodes.{a_leaf, node, nodes, member_nodes, with_extent}
use Rattle.views.specs.Building.{Building, Header, open_alternative, Waiting, Closes, closes_fields, closes_list, closes_alternative, IsClosed, open_content, with_tree, opened, waiting_nodes, built_nodes, places}
use Rattle.views.specs.Seen.{SideLists, content_of, node_of, nodes_of, IsWithin, IsContentWithin, AreWithin, AreBuilt}
use Rattle.views.proofs.Ranges.{range_kept, range_added, get_kept, get_seam, all_joined, all_set, all_at, same_last, same_front}

-- more is beside the nodes
pub record Grown (a b : SideLists) : Type 0 where
  pub octets : (more : List ℕ) × (b.octets ≡ a.octets ++ more)
  pub texts : (more : List (List ℕ)) × (b.texts ≡ a.texts ++ more)
  pub arcs : (more : List ℕ) × (b.arcs ≡ a.arcs ++ more)

range_steady : (xs ys : List ℕ) (i j : ℕ) → (more : List ℕ) × (ys ≡ xs ++ more) → IsWithin i j (length xs) → slice_range ys i j ≡ slice_range xs i j
range_steady xs ys i j g w = ap (λ q. slice_range q i j) g.1 ∙ range_kept xs g.0 i j w.ordered w.within

within_steady : (xs ys : List ℕ) (i j : ℕ) → (more : List ℕ) × (ys ≡ xs ++ more) → IsWithin i j (length xs) → IsWithin i j (length ys)
within_steady xs ys i j g w =
    let e = ap length g.1 in
    let f = length-append xs g.0 in
    let l = w.within in
    record { ordered = w.ordered; within = omega arith }

pub content_steady : (a b : SideLists) → Grown a b → (w : NodeContent') → IsContentWithin a w → content_of b w ≡ content_of a w
content_steady a b g (content.Bool t) h = refl
content_steady a b g (content.Int z) h = refl
content_steady a b g (content.Enum z) h = refl
content_steady a b g (content.Bits unused at os) h = refl
content_steady a b g (content.JoinedBits unused from to) h = ap (λ q. a_leaf (bits unused q None)) (range_steady a.octets b.octets from to g.octets h.0)
content_steady a b g (content.Octets at os) h = refl
content_steady a b g (content.JoinedOctets from to) h = ap (λ q. a_leaf (octets q None)) (range_steady a.octets b.octets from to g.octets h)
content_steady a b g (content.Text at s) h = refl
content_steady a b g (content.JoinedText i) h =
    ap (λ q. a_leaf (text q None)) (ap (λ q. get_or q i []) g.texts.1 ∙ get_kept a.texts g.texts.0 i [] h)
content_steady a b g content.Null h = refl
content_steady a b g (content.Oid from to) h = ap (λ q. a_leaf (oid q)) (range_steady a.arcs b.arcs from to g.arcs h)
content_steady a b g (content.RelativeOid from to) h = ap (λ q. a_leaf (relative_oid q)) (range_steady a.arcs b.arcs from to g.arcs h)
content_steady a b g (content.Fields size extent) h = refl
content_steady a b g (content.List extent) h = refl
content_steady a b g (content.Alternative index extent) h = refl

pub stays_within : (a b : SideLists) → Grown a b → (w : NodeContent') → IsContentWithin a w → IsContentWithin b w
stays_within a b g (content.Bool t) h = tt
stays_within a b g (content.Int z) h = tt
stays_within a b g (content.Enum z) h = tt
stays_within a b g (content.Bits unused at os) h = h
stays_within a b g (content.JoinedBits unused from to) h = (within_steady a.octets b.octets from to g.octets h.0, h.1, h.2)
stays_within a b g (content.Octets at os) h = tt
stays_within a b g (content.JoinedOctets from to) h = within_steady a.octets b.octets from to g.octets h
stays_within a b g (content.Text at s) h = tt
stays_within a b g (content.JoinedText i) h =
    let e = ap length g.texts.1 in
    let f = length-append a.texts g.texts.0 in
    omega arith
stays_within a b g content.Null h = tt
stays_within a b g (content.Oid from to) h = within_steady a.arcs b.arcs from to g.arcs h
stays_within a b g (content.RelativeOid from to) h = within_steady a.arcs b.arcs from to g.arcs h
stays_within a b g (content.Fields size extent) h = tt
stays_within a b g (content.List extent) h = tt
stays_within a b g (content.Alternative index extent) h = tt

nodes_steady : (a b : SideLists) → Grown a b → (ns : List Node') → AreWithin a ns → nodes_of b ns ≡ nodes_of a ns
nodes_steady a b g [] h = refl
nodes_steady a b g (n ∷ ns) h =
    ap (λ q. node n.number q ∷ nodes_of b ns) (content_steady a b g n.content h.0)
    ∙ ap (λ q. node_of a n ∷ q) (nodes_steady a b g ns h.1)

all_within : (a b : SideLists) → Grown a b → (ns : List Node') → AreWithin a ns → AreWithin b ns
all_within a b g [] h = tt
all_within a b g (n ∷ ns) h = (stays_within a b g n.content h.0, all_within a b g ns h.1)

-- what is built stays if more is put beside the nodes
pub built_steady : (a b : SideLists) (ns : List Node') (hs : List ℕ) (c : Building) → Grown a b → AreBuilt a ns hs c → AreBuilt b ns hs c
built_steady a b ns hs c g h = record { nodes = nodes_steady a b g ns h.within ∙ h.nodes; within = all_within a b g ns h.within; places = h.places }

-- ---- members at the end

pub nodes_joined : (ms : ViewMembers) (k : ℕ) (t : ViewTree) → member_nodes (joined ms (member k t no_member)) ≡ member_nodes ms ++ nodes k t
nodes_joined no_member k t = append-nil (nodes k t)
nodes_joined (member j u ms) k t =
    ap (λ q. nodes j u ++ q) (nodes_joined ms k t) ∙ sym (append_assoc (nodes j u) (member_nodes ms) (nodes k t))

one_within : (s : SideLists) (n : Node') → IsContentWithin s n.content → AreWithin s (n ∷ [])
one_within s n h = (h, tt)

pub added : (s : SideLists) (ns : List Node') (hs : List ℕ) (b : Building) (k : ℕ) (t : ViewTree) (n : Node')
    → AreBuilt s ns hs b
    → IsContentWithin s n.content
    → nodes k t ≡ node_of s n ∷ []
    → AreBuilt s (ns ++ n ∷ []) hs (with_tree k t b)
added s ns hs b k t n h w e = record {
  nodes =
      map-append (node_of s) ns (n ∷ [])
      ∙ ap (λ q. q ++ node_of s n ∷ []) h.nodes
      ∙ ap (λ q. (waiting_nodes b.waits ++ member_nodes b.here) ++ q) (sym e)
      ∙ append_assoc (waiting_nodes b.waits) (member_nodes b.here) (nodes k t)
      ∙ ap (λ q. waiting_nodes b.waits ++ q) (sym (nodes_joined b.here k t));
  within = all_joined (λ m. IsContentWithin s m.content) ns (n ∷ []) h.within (one_within s n w);
  places = h.places;
}

length_of : (s : SideLists) (ns : List Node') → length (nodes_of s ns) ≡ length ns
length_of s [] = refl
length_of s (n ∷ ns) = ap suc (length_of s ns)

pub opens : (s : SideLists) (ns : List Node') (hs : List ℕ) (b : Building) (k : ℕ) (h : Header) (n : Node') (place : ℕ)
    → AreBuilt s ns hs b
    → IsContentWithin s n.content
    → node_of s n ≡ node k (open_content h)
    → place ≡ length ns
    → AreBuilt s (ns ++ n ∷ []) (hs ++ place ∷ []) (opened k h b)
opens s ns hs b k h n place a w e l = record {
  nodes =
      map-append (node_of s) ns (n ∷ [])
      ∙ ap (λ q. q ++ node_of s n ∷ []) a.nodes
      ∙ ap (λ q. (waiting_nodes b.waits ++ member_nodes b.here) ++ q ∷ []) e
      ∙ sym (append-nil ((waiting_nodes b.waits ++ member_nodes b.here) ++ node k (open_content h) ∷ []));
  within = all_joined (λ m. IsContentWithin s m.content) ns (n ∷ []) a.within (one_within s n w);
  places =
      ap (λ q. q ++ place ∷ []) a.places
      ∙ ap (λ q. places b.waits ++ q ∷ []) (l ∙ sym (length_of s ns) ∙ ap length a.nodes);
}

-- ---- closing

-- the node of a tree, with its members after it
closed_nodes : (h : Header) (ms : ViewMembers) (t : ViewTree) (k e : ℕ)
    → Closes h ms t
    → e ≡ length (member_nodes ms) + 1
    → node k (with_extent (open_content h) e) ∷ member_nodes ms ≡ nodes k t
closed_nodes h ms t k e (closes_fields {n = n}) l = ap (λ q. node k (with_extent (open_content h) q) ∷ member_nodes ms) l
closed_nodes h ms t k e closes_list l = ap (λ q. node k (with_extent (open_content h) q) ∷ member_nodes ms) l
closed_nodes h ms t k e (closes_alternative {i = i} {t = u}) l =
    ap (λ q. node k (with_extent (open_content (open_alternative i)) q) ∷ member_nodes ms) l
    ∙ ap (λ q. node k (with_extent (open_content (open_alternative i)) (length q + 1)) ∷ q) (append-nil (nodes 0 u))

-- the nodes if one is open
split_nodes : (s : SideLists) (ns : List Node') (b : Building) (w : Waiting) (ws : List Waiting)
    → nodes_of s ns ≡ built_nodes b
    → b.waits ≡ w ∷ ws
    → nodes_of s ns ≡ (waiting_nodes ws ++ member_nodes w.before) ++ node w.number (open_content w.header) ∷ member_nodes b.here
split_nodes s ns b w ws e f =
    e
    ∙ ap (λ q. waiting_nodes q ++ member_nodes b.here) f
    ∙ append_assoc (waiting_nodes ws ++ member_nodes w.before) (node w.number (open_content w.header) ∷ []) (member_nodes b.here)

-- the place of the innermost open node
pub place_is : (hs front : List ℕ) (place : ℕ) (b : Building) (w : Waiting) (ws : List Waiting)
    → hs ≡ places b.waits
    → hs ≡ front ++ place ∷ []
    → b.waits ≡ w ∷ ws
    → (front ≡ places ws) × (place ≡ length (waiting_nodes ws ++ member_nodes w.before))
place_is hs front place b w ws e f g =
    let same : front ++ place ∷ [] ≡ places ws ++ length (waiting_nodes ws ++ member_nodes w.before) ∷ [] = sym f ∙ e ∙ ap places g in
    (same_front front (places ws) place _ same, same_last front (places ws) place _ same)

pub place_within : (s : SideLists) (ns : List Node') (hs front : List ℕ) (place : ℕ) (b : Building)
    → AreBuilt s ns hs b
    → hs ≡ front ++ place ∷ []
    → place < length ns
place_within s ns hs front place b a f = by_waits b.waits refl
  where
    none_left : (front : List ℕ) (place : ℕ) → [] ≡ front ++ place ∷ [] → ⊥
    none_left [] place e = cc
    none_left (x ∷ xs) place e = cc

    by_waits : (zs : List Waiting) → b.waits ≡ zs → place < length ns
    by_waits [] e = absurd (none_left front place (sym (ap places e) ∙ sym a.places ∙ f))
    by_waits (w ∷ ws) e =
        let p = place_is hs front place b w ws a.places f e in
        let l = sym (length_of s ns) ∙ ap length (split_nodes s ns b w ws a.nodes e) in
        let m = length-append (waiting_nodes ws ++ member_nodes w.before) (node w.number (open_content w.header) ∷ member_nodes b.here) in
        let o = p.1 in
        omega arith

pub closes : (s : SideLists) (ns : List Node') (hs front : List ℕ) (place : ℕ) (m n : Node') (b c : Building) (w : Waiting) (ws : List Waiting) (t : ViewTree)
    → AreBuilt s ns hs b
    → hs ≡ front ++ place ∷ []
    → n ≡ get_or ns place n
    → node_of s m ≡ node n.number (with_extent (content_of s n.content) (length ns - place))
    → (IsContentWithin s n.content → IsContentWithin s m.content)
    → IsClosed b w ws t c
    → AreBuilt s (slice_set ns place m) front c
closes s ns hs front place m n b c w ws t a f is same stays d =
    let split = split_nodes s ns b w ws a.nodes d.is_open in
    let p = place_is hs front place b w ws a.places f d.is_open in
    let inside = place_within s ns hs front place b a f in
    let pre = waiting_nodes ws ++ member_nodes w.before in
    let opener = node w.number (open_content w.header) in
    let here = member_nodes b.here in
    let long = sym (length_of s ns) ∙ ap length split ∙ length-append pre (opener ∷ here) in
    let o = p.1 in
    let extent : length ns - place ≡ length here + 1 = omega arith in
    let found : node_of s n ≡ opener =
    ap (node_of s) is
    ∙ sym (get_or-map (node_of s) ns place n opener inside)
    ∙ ap (λ q. get_or q place opener) split
    ∙ ap (λ q. get_or (pre ++ opener ∷ here) q opener) o
    ∙ get_seam pre opener here opener in
    let closed_node : node_of s m ≡ node w.number (with_extent (open_content w.header) (length ns - place)) =
    same ∙ ap (λ q. node q.number (with_extent q.content (length ns - place))) found in
    record {
      nodes =
          map-set (node_of s) ns place m
          ∙ ap (λ q. slice_set q place (node_of s m)) split
          ∙ ap (λ q. slice_set (pre ++ opener ∷ here) q (node_of s m)) o
          ∙ set-append_seam pre opener here (node_of s m)
          ∙ ap (λ q. pre ++ q ∷ here) closed_node
          ∙ ap (λ q. pre ++ q) (closed_nodes w.header b.here t w.number (length ns - place) d.tree extent)
          ∙ append_assoc (waiting_nodes ws) (member_nodes w.before) (nodes w.number t)
          ∙ ap (λ q. waiting_nodes ws ++ q) (sym (nodes_joined w.before w.number t))
          ∙ ap built_nodes (sym d.closed);
      within = all_set (λ q. IsContentWithin s q.content) ns place m a.within (stays (subst (λ q. IsContentWithin s q.content) (sym is) (all_at (λ q. IsContentWithin s q.content) ns place n a.within inside)));
      places = p.0 ∙ ap (λ q. places q.waits) (sym d.closed);
    }

pub none_open : (hs : List ℕ) (b : Building) (w : Waiting) (ws : List Waiting) → hs ≡ places b.waits → length hs ≡ 0 → b.waits ≡ w ∷ ws → ⊥
none_open hs b w ws e f g =
    let l = sym (ap length (e ∙ ap places g)) ∙ f in
    let m = length-append (places ws) (length (waiting_nodes ws ++ member_nodes w.before) ∷ []) in
    omega arith

-- ---- what is joined or copied

pub octets_added : (a b : SideLists) (more : List ℕ) → b.octets ≡ a.octets ++ more → b.texts ≡ a.texts → b.arcs ≡ a.arcs → Grown a b
octets_added a b more e f g = record { octets = (more, e); texts = ([], f ∙ sym (append-nil a.texts)); arcs = ([], g ∙ sym (append-nil a.arcs)) }

pub texts_added : (a b : SideLists) (more : List (List ℕ)) → b.octets ≡ a.octets → b.texts ≡ a.texts ++ more → b.arcs ≡ a.arcs → Grown a b
texts_added a b more e f g = record { octets = ([], e ∙ sym (append-nil a.octets)); texts = (more, f); arcs = ([], g ∙ sym (append-nil a.arcs)) }

pub arcs_added : (a b : SideLists) (more : List ℕ) → b.octets ≡ a.octets → b.texts ≡ a.texts → b.arcs ≡ a.arcs ++ more → Grown a b
arcs_added a b more e f g = record { octets = ([], e ∙ sym (append-nil a.octets)); texts = ([], f ∙ sym (append-nil a.texts)); arcs = (more, g) }

-- octets, or numbers, that were added are a range
pub range_within : (xs ys zs : List ℕ) (i j : ℕ) → zs ≡ xs ++ ys → i ≡ length xs → j ≡ length zs → IsWithin i j (length zs)
range_within xs ys zs i j e f g = let l = ap length e ∙ length-append xs ys in record { ordered = omega arith; within = omega arith }

pub range_is : (xs ys zs : List ℕ) (i j : ℕ) → zs ≡ xs ++ ys → i ≡ length xs → j ≡ length zs → slice_range zs i j ≡ ys
range_is xs ys zs i j e f g = ap (λ q. slice_range q i j) e ∙ range_added xs ys i j f (g ∙ ap length e)

-- an empty range has no octets
pub no_more : (xs ys zs : List ℕ) (i j : ℕ) → zs ≡ xs ++ ys → i ≡ length xs → j ≡ length zs → i ≡ j → length ys ≡ 0
no_more xs ys zs i j e f g h = let l = ap length e ∙ length-append xs ys in omega arith
