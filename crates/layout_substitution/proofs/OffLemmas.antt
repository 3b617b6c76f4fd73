-- What lookups of kinds 1 to 4 leave of the glyphs for which they are off.
use Prim.Native.Nat.{zero}
use Rattle.std.proofs.Common.{◌≡◌, ℕ, suc, ◌+◌, ◌≤◌, ◌&&◌, not, Bool, true, false, List, [], ◌∷◌, map, length, nat_lt, nat_le, nat_eq, refl, ap, sym, ◌∙◌, arith, if◌then◌else◌, slice_set, slice_index_or, get_or}
use Rattle.std.proofs.lemmas.Bool.Decides.{nat_tests}
use Rattle.std.proofs.lemmas.Nat.{and_assoc, and_comm, and_or_apart}
use Rattle.std.proofs.Math.ListN.{get_or-map}
use Rattle.std.proofs.Math.Seq.{map-set_same}
use Rattle.std.specs.Int.Bits.{and_zero_r}
use Rattle.std.specs.Int.RustNames.{bit_and}
use Rattle.std.specs.List.{remove, insert}
use Rattle.shape_common.specs.Positions.{zero_position}
use Rattle.shape_items.specs.Buffer.{Buffer}
use Rattle.shape_items.specs.BufferClusters.{merge_clusters, unsafe_to_break, unsafe_to_concat, with_glyph_flags}
use Rattle.shape_items.specs.Clusters.{map_range, mark_concat}
use Rattle.shape_items.specs.Delete.{hand_over}
use Rattle.shape_items.specs.Items.{Item, new_item, feature_bits}
use Rattle.shape_items.proofs.Merging.KeyLemmas.{IsKey, keys-map_range, keys-merge_clusters, keys-unsafe_to_break}
use Rattle.layout_matching.specs.Skipping.{shares}
use Rattle.layout_matching.specs.Loops.{times}
use Rattle.layout_matching.specs.declared.lookup.Lookup.{Lookup}
use Rattle.layout_matching.specs.declared.tried.Reach.{Reach}
use Rattle.layout_substitution.specs.Edits.{item_at, is_inside, put_at, put_after, taken_out, merged, broken, asks_for_concat, concat_marked}
use Rattle.layout_substitution.specs.Off.{off_glyphs, HasNoFlag}

-- ---- glyphs and features of items, whatever else changes

abbrev pub bare : Item → Item
bare item = record (new_item 0 0) { glyph_id = item.glyph_id; mask = feature_bits item.mask }

abbrev of_mask : ℕ → ℕ → Item
of_mask glyph mask = record (new_item 0 0) { glyph_id = glyph; mask = mask }

IsKey-bare : IsKey bare
IsKey-bare = record {
  by_cluster = λ item cluster. ap (of_mask item.glyph_id) (and_assoc 4294967288 item.mask 4294967288);
  by_break = λ item. ap (of_mask item.glyph_id) (and_or_apart 4294967288 item.mask 3 refl);
}

bare-concat : (item : Item) → bare (mark_concat item) ≡ bare item
bare-concat item = ap (of_mask item.glyph_id) (and_or_apart 4294967288 item.mask 2 refl)

pub bare-handed : (picked item : Item) → bare (hand_over picked item) ≡ bare item
bare-handed picked item =
    let apart : bit_and (bit_and picked.mask 7) 4294967288 ≡ 0 = and_assoc 4294967288 picked.mask 7 ∙ and_zero_r picked.mask in
    ap (of_mask item.glyph_id) (and_or_apart 4294967288 (feature_bits item.mask) (bit_and picked.mask 7) apart
    ∙ and_assoc 4294967288 item.mask 4294967288)

abbrev pub Same : Buffer → Buffer → Type 0
Same b c = map bare c.items ≡ map bare b.items

pub Same-then : (a b c : Buffer) → Same a b → Same b c → Same a c
Same-then a b c first later = later ∙ first

pub same-if : (t : Bool) (a b c : Buffer) → Same a b → Same a c → Same a (if t then b else c)
same-if true a b c x y = x
same-if false a b c x y = y

pub same-times : {S : Type 0} (view : S → Buffer) (f : S → S) → ((s : S) → Same (view s) (view (f s)))
    → (n : ℕ) (s : S) → Same (view s) (view (times f n s))
same-times view f each zero s = refl
same-times view f each (suc n) s = Same-then (view s) (view (times f n s)) (view (f (times f n s)))
    (same-times view f each n s) (each (times f n s))

pub same-merged : (start end : ℕ) (b : Buffer) → Same b (merged start end b)
same-merged start end b =
    same-if (nat_le start end && nat_le end (length b.items)) b (merge_clusters start end b) b
    (keys-merge_clusters bare IsKey-bare start end b) refl

pub same-broken : (start end : ℕ) (b : Buffer) → Same b (broken start end b)
same-broken start end b =
    same-if (nat_le start end && nat_le end (length b.items)) b (unsafe_to_break start end b) b
    (keys-unsafe_to_break bare IsKey-bare.by_break start end b) refl

same-concat : (start end : ℕ) (b : Buffer) → start ≤ end → Same b (unsafe_to_concat start end b)
same-concat start end b ordered =
    same-if (asks_for_concat b) b (record (with_glyph_flags b) { items = map_range mark_concat start end b.items }) b
    (keys-map_range bare mark_concat bare-concat start end b.items ordered) refl

pub same-concat_marked : (r : Reach) (b : Buffer) → Same b (concat_marked r b)
same-concat_marked r b =
    let P : Bool → Type 0 = λ t. (nat_lt r.from r.to && nat_le r.to (length b.items)) ≡ t
    → Same b (if t then unsafe_to_concat r.from r.to b else b) in
    let cases : P (nat_lt r.from r.to && nat_le r.to (length b.items)) = elim (nat_lt r.from r.to && nat_le r.to (length b.items)) as P [
      | true ↦ λ t. same-concat r.from r.to b (grind (arith, nat_tests, t))
      | false ↦ λ t. refl
    ] in
    cases refl

pub same-put : (i : ℕ) (item : Item) (b : Buffer) → bare item ≡ bare (item_at b i) → Same b (put_at i item b)
same-put i item b like =
    same-if (is_inside i b) b (record b { items = slice_set b.items i item }) b (map-set_same bare b.items i item (new_item 0 0) like) refl

-- ---- whether the lookup is on

abbrev pub on_at : Lookup → Buffer → ℕ → Bool
on_at l b i = shares (item_at b i).mask l.mask

on_bare : (l : Lookup) (x : Item) → HasNoFlag l → shares (bare x).mask l.mask ≡ shares x.mask l.mask
on_bare l x pure = ap (λ m. not (nat_eq m 0))
    (and_assoc l.mask x.mask 4294967288 ∙ ap (bit_and x.mask) (and_comm 4294967288 l.mask ∙ pure))

off_bare : (l : Lookup) (xs : List Item) → HasNoFlag l → off_glyphs l (map bare xs) ≡ off_glyphs l xs
off_bare l [] pure = refl
off_bare l (x ∷ xs) pure =
    ap (λ t. if t then off_glyphs l (map bare xs) else x.glyph_id ∷ off_glyphs l (map bare xs)) (on_bare l x pure)
    ∙ ap (λ gs. if shares x.mask l.mask then gs else x.glyph_id ∷ gs) (off_bare l xs pure)

pub same-off : (l : Lookup) (b c : Buffer) → HasNoFlag l → Same b c → off_glyphs l c.items ≡ off_glyphs l b.items
same-off l b c pure same = sym (off_bare l c.items pure) ∙ ap (off_glyphs l) same ∙ off_bare l b.items pure

bare_at : (b : Buffer) (i : ℕ) → get_or (map bare b.items) i (bare (new_item 0 0)) ≡ bare (item_at b i)
bare_at b i = get_or-map bare b.items i (new_item 0 0)

pub same-on : (l : Lookup) (b c : Buffer) (i : ℕ) → HasNoFlag l → Same b c → on_at l b i ≡ true → on_at l c i ≡ true
same-on l b c i pure same on =
    let items : bare (item_at c i) ≡ bare (item_at b i) =
    sym (bare_at c i) ∙ ap (λ (xs : List Item). get_or xs i (bare (new_item 0 0))) same ∙ bare_at b i in
    sym (on_bare l (item_at c i) pure) ∙ ap (λ (x : Item). shares x.mask l.mask) items ∙ on_bare l (item_at b i) pure ∙ on

-- ---- edits at a glyph for which it is on

set-off : (l : Lookup) (xs : List Item) (i : ℕ) (y : Item) → y.mask ≡ (slice_index_or xs i (new_item 0 0)).mask
    → shares (slice_index_or xs i (new_item 0 0)).mask l.mask ≡ true → off_glyphs l (slice_set xs i y) ≡ off_glyphs l xs
set-off l [] i y like on = refl
set-off l (x ∷ xs) zero y like on =
    let here : shares y.mask l.mask ≡ true = ap (λ m. shares m l.mask) like ∙ on in
    rw here (rw on refl)
set-off l (x ∷ xs) (suc i) y like on = ap (λ gs. if shares x.mask l.mask then gs else x.glyph_id ∷ gs) (set-off l xs i y like on)

insert-off : (l : Lookup) (xs : List Item) (i : ℕ) (y : Item) → shares y.mask l.mask ≡ true → off_glyphs l (insert xs i y) ≡ off_glyphs l xs
insert-off l xs zero y on = rw on refl
insert-off l [] (suc i) y on = rw on refl
insert-off l (x ∷ xs) (suc i) y on = ap (λ gs. if shares x.mask l.mask then gs else x.glyph_id ∷ gs) (insert-off l xs i y on)

remove-off : (l : Lookup) (xs : List Item) (i : ℕ) → shares (slice_index_or xs i (new_item 0 0)).mask l.mask ≡ true
    → off_glyphs l (remove xs i) ≡ off_glyphs l xs
remove-off l [] zero on = refl
remove-off l [] (suc i) on = refl
remove-off l (x ∷ xs) zero on = rw on refl
remove-off l (x ∷ xs) (suc i) on = ap (λ gs. if shares x.mask l.mask then gs else x.glyph_id ∷ gs) (remove-off l xs i on)

pub off-if : (l : Lookup) (t : Bool) (b c d : Buffer) → off_glyphs l c.items ≡ off_glyphs l b.items
    → off_glyphs l d.items ≡ off_glyphs l b.items
    → off_glyphs l (if t then c else d).items ≡ off_glyphs l b.items
off-if l true b c d x y = x
off-if l false b c d x y = y

pub put-off : (l : Lookup) (i : ℕ) (item : Item) (b : Buffer) → item.mask ≡ (item_at b i).mask → on_at l b i ≡ true
    → off_glyphs l (put_at i item b).items ≡ off_glyphs l b.items
put-off l i item b like on = off-if l (is_inside i b) b (record b { items = slice_set b.items i item }) b
    (set-off l b.items i item like on) refl

pub put_after-off : (l : Lookup) (i : ℕ) (item : Item) (b : Buffer) → shares item.mask l.mask ≡ true
    → off_glyphs l (put_after i item b).items ≡ off_glyphs l b.items
put_after-off l i item b on =
    elim (is_inside i b) as (λ t. off_glyphs l (if t then record b {
      items = insert b.items (i + 1) item;
      positions =
          insert b.positions (i + 1) zero_position;
    } else b).items ≡ off_glyphs l b.items) [
      | true ↦ insert-off l b.items (i + 1) item on
      | false ↦ refl
    ]

pub taken_out-off : (l : Lookup) (i : ℕ) (b : Buffer) → on_at l b i ≡ true → off_glyphs l (taken_out i b).items ≡ off_glyphs l b.items
taken_out-off l i b on =
    off-if l (is_inside i b) b (record b { items = remove b.items i; positions = remove b.positions i }) b (remove-off l b.items i on) refl

-- another item with the mask of the one that it replaces: on where that was
pub put-on : (l : Lookup) (i j : ℕ) (item : Item) (b : Buffer) → item.mask ≡ (item_at b i).mask → on_at l b j ≡ true
    → on_at l (put_at i item b) j ≡ true
put-on l i j item b like on =
    let mask : Item → ℕ = λ x. x.mask in
    let put = put_at i item b in
    let masks : map mask put.items ≡ map mask b.items =
    elim (is_inside i b) as (λ t. map mask (if t then record b { items = slice_set b.items i item } else b).items ≡ map mask b.items) [
      | true ↦ map-set_same mask b.items i item (new_item 0 0) like
      | false ↦ refl
    ] in
    let same : (item_at put j).mask ≡ (item_at b j).mask =
    sym (get_or-map mask put.items j (new_item 0 0)) ∙ ap (λ (ms : List ℕ). get_or ms j 0) masks
    ∙ get_or-map mask b.items j (new_item 0 0) in
    ap (λ m. shares m l.mask) same ∙ on
