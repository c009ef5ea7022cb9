-- Words in memory: one is taken out of a block and put back, or is put after the others.
use Rattle.bits.specs.Ownership.{memory_owns, heap}
use Rattle.std.proofs.Common.{◌≡◌, ℕ, ◌+◌, ◌-◌, ◌*◌, ◌<◌, ◌≤◌, List, [], ◌∷◌, ◌++◌, length, get_or, set, refl, sym, arith, w64, length-set, length-append}
use Rattle.std.proofs.ptr.Rows.{El, apart, whole, snoc, spare, empty, glued}
use Rattle.std.specs.Allocator.{array_of}
use Rattle.std.specs.contracts.impls.GlobalAllocator.TheImpl.{ghosts}
use base.Fml.{Fml, fsep, fat, froom}
use base.Fraction.{full_share}
use base.Logic.{ent, never, fst∗}
use denote.Array.{Array}
use denote.Builtin.{u64}
use denote.Index.{row, others, takes, puts, place, place_is}
use denote.Memory.{part_at, shares}
use denote.Param.Laws.{Laws, of_field}
use denote.Param.Shared.{copy_shared}
use denote.Plain.{uint_in, uint_out}
use denote.RawPtr.{block_ptr, null_ptr, room_for}
use denote.Struct.Field.{u64-field}
use denote.Struct.Laws.{u64-laws, u64-copy}
use mir.Syntax.{ty_int, ty_array}
use mir.Val.{vint}
use seplogic.Ra.Ura.{Ura}
use types.Kit.{‵, ◌⊛◌, given, use0, ◌$◌, ◌∵◌, !, qed, by, move, use1, use2, split, learn, rewrite, fsplit, fsplit3, fjoin, fjoin3, done}
use types.Logic.{Logic, sem}

pub word_laws : Laws u64
word_laws = of_field u64-field u64-laws refl (copy_shared u64-field u64-copy)

abbrev pub words : El
words = record { row = u64; laws = word_laws }

module _ (ws : List ℕ) (n b o : ℕ) where
  -- the words of a block, the room after them, and the right to free it
  abbrev row_at : Fml
  row_at = part_at (Array u64 (length ws)) full_share ws b o

  abbrev room_from : ℕ → Fml
  room_from k = froom (array_of u64 (n - k)) b (o + k * 8)

  abbrev freed : Fml
  freed = ghosts.dealloc_token heap (array_of u64 n) (block_ptr b o)

  abbrev pub word_at : ℕ → ℕ → Fml
  word_at i x = fat full_share (ty_int w64) b (i * 8 + o) (vint w64 x)

  -- all of a block but the word at a place
  abbrev pub besides : ℕ → Fml
  besides i = fsep (others (shares u64) full_share ws i b o) (fsep (room_from (length ws)) freed)

  -- all of a block but the first place that holds nothing
  abbrev pub before : Fml
  before = fsep row_at (fsep (room_from (length ws + 1)) freed)

  abbrev pub place_after : Fml
  place_after = froom (ty_int w64) b (length ws * 8 + o)

module _ {M : Type 1} {𝓤 : Ura M} (𝓛 : Logic 𝓤) (ws : List ℕ) (n b o : ℕ) where
  abbrev ◌⊢◌ : Fml → Fml → Type 1
  F ⊢ G = ent 𝓤 (sem 𝓛 F) (sem 𝓛 G)

  infix 26 ◌⊢◌
  abbrev Block : List ℕ → Fml
  Block xs = memory_owns (block_ptr b o) xs n

  pub word_out : (i : ℕ) → i < length ws → Block ws ⊢ fsep (word_at ws n b o i (get_or ws i 0)) (besides ws n b o i)
  word_out i inside = qed 𝓛 (‵ (Block ws) ∷ []) ∵ fsplit3 ! $
      use1 𝓛 (given (length ws ≡ length ws) (‵ (row u64 full_share ws b o))) (apart words 𝓛 full_share (length ws) ws b o) $ learn ! (λ _.
      use1 𝓛 (‵ (part_at u64 full_share (get_or ws i 0) b (place 8 o i)) ⊛ ‵ (others (shares u64) full_share ws i b o)) (takes (shares u64) full_share 𝓛 ws i 0 b o inside) $ split ! $
      rewrite ! 0 (λ k. ‵ (part_at u64 full_share (get_or ws i 0) b k)) (place_is 8 o i) refl $
      use1 𝓛 (‵ (word_at ws n b o i (get_or ws i 0))) (uint_out 𝓛 full_share w64 (get_or ws i 0) b (i * 8 + o)) $
      move ! (1 ∷ 2 ∷ 3 ∷ []) $ fjoin3 ! $ move ! (1 ∷ 0 ∷ []) $ fjoin ! $ done !)

  pub word_in : (i x : ℕ) → i < length ws → fsep (word_at ws n b o i x) (besides ws n b o i) ⊢ Block (set ws i x)
  word_in i x inside =
      let long : length ws ≡ length (set ws i x) = sym (length-set ws i x) in
      qed 𝓛 (‵ (fsep (word_at ws n b o i x) (besides ws n b o i)) ∷ []) ∵ fsplit ! $ move ! (1 ∷ []) $ fsplit3 ! $ move ! (3 ∷ []) $
      use1 𝓛 (‵ (part_at u64 full_share x b (i * 8 + o))) (uint_in 𝓛 full_share w64 x b (i * 8 + o)) $
      rewrite ! 0 (λ k. ‵ (part_at u64 full_share x b k)) (sym (place_is 8 o i)) refl $
      use2 𝓛 (‵ (row u64 full_share (set ws i x) b o)) (puts (shares u64) full_share 𝓛 ws i x b o inside) $
      use1 𝓛 (‵ (part_at (Array u64 (length (set ws i x))) full_share (set ws i x) b o)) (whole words 𝓛 full_share (length (set ws i x)) (set ws i x) b o refl) $
      rewrite ! 1 (λ k. ‵ (froom (array_of u64 (n - k)) b (o + k * 8))) long refl $ fjoin3 ! $ done !

  pub place_out : length ws < n → Block ws ⊢ fsep (place_after ws n b o) (before ws n b o)
  place_out less = qed 𝓛 (‵ (Block ws) ∷ []) ∵ fsplit3 ! $ move ! (1 ∷ []) $
      use1 𝓛 (‵ (place_after ws n b o) ⊛ ‵ (room_from ws n b o (length ws + 1))) (spare words 𝓛 b o (length ws) n less) $ split ! $
      move ! (2 ∷ 1 ∷ 3 ∷ []) $ fjoin3 ! $ move ! (1 ∷ 0 ∷ []) $ fjoin ! $ done !

  pub place_in : (x : ℕ) → length ws < n → fsep (word_at ws n b o (length ws) x) (before ws n b o) ⊢ Block (ws ++ x ∷ [])
  place_in x less =
      let long : length ws + 1 ≡ length (ws ++ x ∷ []) = sym (length-append ws (x ∷ [])) in
      qed 𝓛 (‵ (fsep (word_at ws n b o (length ws) x) (before ws n b o)) ∷ []) ∵ fsplit ! $ move ! (1 ∷ []) $ fsplit3 ! $ move ! (3 ∷ []) $
      use1 𝓛 (‵ (part_at u64 full_share x b (length ws * 8 + o))) (uint_in 𝓛 full_share w64 x b (length ws * 8 + o)) $ move ! (1 ∷ 0 ∷ []) $
      use2 𝓛 (‵ (part_at (Array u64 (length ws + 1)) full_share (ws ++ x ∷ []) b o)) (snoc words 𝓛 b o (length ws) ws x) $
      rewrite ! 0 (λ k. ‵ (part_at (Array u64 k) full_share (ws ++ x ∷ []) b o)) long refl $
      rewrite ! 1 (λ k. ‵ (froom (array_of u64 (n - k)) b (o + k * 8))) long refl $ fjoin3 ! $ done !

pub nowhere : {M : Type 1} {𝓤 : Ura M} (𝓛 : Logic 𝓤) (ws : List ℕ) (n : ℕ) → ent 𝓤 (sem 𝓛 (memory_owns null_ptr ws n)) (never 𝓤)
nowhere {𝓤 = 𝓤} 𝓛 ws n = fst∗ 𝓤 (never 𝓤) (sem 𝓛 (fsep (room_for (array_of u64 (n - length ws)) null_ptr) (ghosts.dealloc_token heap (array_of u64 n) null_ptr)))

module _ {M : Type 1} {𝓤 : Ura M} (𝓛 : Logic 𝓤) (b : ℕ) where
  open 𝓛 use {H}

  -- room for a word is one place and the room after it
  row_room : (ws : List ℕ) (o : ℕ) → ent 𝓤 (sem 𝓛 (row u64 full_share ws b o)) (H.room (ty_array (ty_int w64) (length ws)) b o)
  row_room [] o = 𝓛.laws.room_nil (ty_int w64) b o
  row_room (x ∷ ws) o = qed 𝓛 (‵ (row u64 full_share (x ∷ ws) b o) ∷ []) ∵ fsplit ! $
      use1 𝓛 (‵ (fat full_share (ty_int w64) b o (vint w64 x))) (uint_out 𝓛 full_share w64 x b o) $
      use1 𝓛 (‵ (froom (ty_int w64) b o)) (𝓛.laws.at_room (ty_int w64) b o (vint w64 x)) $ move ! (1 ∷ []) $
      use1 𝓛 (‵ (froom (ty_array (ty_int w64) (length ws)) b (o + 8))) (row_room ws (o + 8)) $ move ! (1 ∷ 0 ∷ []) $
      by ! (𝓛.laws.room_cons (ty_int w64) (length ws) b o)

  module _ (n o : ℕ) where
    -- what the heap hands out, and takes back
    abbrev pub bare : Fml
    bare = fsep (froom (array_of u64 n) b o) (ghosts.dealloc_token heap (array_of u64 n) (block_ptr b o))

    -- a block that was got has no words
    pub none_yet : ent 𝓤 (sem 𝓛 bare) (sem 𝓛 (memory_owns (block_ptr b o) [] n))
    none_yet = qed 𝓛 (‵ bare ∷ []) ∵ fsplit ! $
        use0 𝓛 (‵ (part_at (Array u64 0) full_share [] b o)) (empty words 𝓛 [] b o refl) $
        rewrite ! 1 (λ k. ‵ (froom (array_of u64 k) b o)) (let e : n ≡ n - 0 = omega arith in e) refl $
        rewrite ! 1 (λ k. ‵ (froom (array_of u64 (n - 0)) b k)) (let e : o ≡ o + 0 * 8 = omega arith in e) refl $ fjoin3 ! $ done !

    -- the words of a block that is given back are let go
    pub all_room : (ws : List ℕ) → length ws ≤ n → ent 𝓤 (sem 𝓛 (memory_owns (block_ptr b o) ws n)) (sem 𝓛 bare)
    all_room ws inside = qed 𝓛 (‵ (memory_owns (block_ptr b o) ws n) ∷ []) ∵ fsplit3 ! $
        use1 𝓛 (given (length ws ≡ length ws) (‵ (row u64 full_share ws b o))) (apart words 𝓛 full_share (length ws) ws b o) $ learn ! (λ _.
        use1 𝓛 (‵ (froom (ty_array (ty_int w64) (length ws)) b o)) (row_room ws o) $
        use2 𝓛 (‵ (froom (array_of u64 n) b o)) (glued words 𝓛 (length ws) (n - length ws) n b o (omega (arith, inside))) $ fjoin ! $ done !)
