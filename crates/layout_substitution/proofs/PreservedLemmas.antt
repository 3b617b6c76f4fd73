-- What edits of a buffer preserve: clusters are drawn from those there were, in order, flags are seen, and settings stay.
use Prim.Native.Nat.{zero}
use Rattle.std.proofs.Common.{◌≡◌, ℕ, suc, ◌+◌, ◌-◌, ◌<◌, ◌≤◌, ◌||◌, ◌&&◌, Bool, true, false, List, [], ◌∷◌, map, length, nat_lt, nat_le, refl, ap, sym, ◌∙◌, inl, inr, subst, arith, if◌then◌else◌, slice_set, slice_index_or}
use Rattle.std.proofs.lemmas.Bool.Decides.{nat_tests}
use Rattle.std.proofs.lemmas.Nat.{and_assoc, and_or_apart, or_comm}
use Rattle.std.proofs.Math.Seq.{map-set_same}
use Rattle.std.specs.Int.RustNames.{bit_and}
use Rattle.std.specs.List.{list_any, remove, insert}
use Rattle.shape_items.specs.Buffer.{Buffer}
use Rattle.shape_items.specs.BufferClusters.{merge_clusters, unsafe_to_break, unsafe_to_concat, with_glyph_flags}
use Rattle.shape_items.specs.Clusters.{clusters, map_range, mark_concat}
use Rattle.shape_items.specs.Items.{Item, new_item, feature_bits}
use Rattle.shape_items.specs.PreservesFlags.{PreservesFlags, IsDefinedFlag, has_flag, some_has}
use Rattle.shape_items.specs.Delete.{hand_over}
use Rattle.shape_items.proofs.Deletion.DeletePreserves.{Draws, merge_clusters_draws, unsafe_to_break_draws}
use Rattle.shape_items.proofs.Flags.FlagLemmas.{glyph_flags_set, PreservesFlags-same, PreservesFlags-then, merge_clusters_preserves, unsafe_to_break_preserves, no_flag, defined_flag}
use Rattle.shape_items.proofs.Merging.KeyLemmas.{keys-map_range, without_items-merge_clusters, without_items-unsafe_to_break}
use Rattle.shape_items.proofs.Order.DrawsInOrder.{DrawsInOrder, DrawsInOrder-same, DrawsInOrder-then, DrawsInOrder-after, DrawsInOrder-again}
use Rattle.shape_common.specs.Positions.{zero_position}
use Rattle.layout_substitution.specs.Edits.{item_at, is_inside, put_at, put_after, taken_out, merged, broken, asks_for_concat, concat_marked}
use Rattle.layout_matching.specs.declared.tried.Reach.{Reach}
use Rattle.layout_matching.specs.Loops.{times}

pub record Preserves (b c : Buffer) : Type 0 where
  pub draws : DrawsInOrder (clusters b.items) (clusters c.items)
  pub flags : PreservesFlags b c
  pub direction : c.direction ≡ b.direction
  pub level : c.cluster_level ≡ b.cluster_level
  pub limit : c.length_limit ≡ b.length_limit

pub Preserves-same : (b : Buffer) → Preserves b b
Preserves-same b = record {
  draws = DrawsInOrder-same (clusters b.items);
  flags = PreservesFlags-same b;
  direction =
      refl;
  level = refl;
  limit = refl;
}

pub Preserves-then : (a b c : Buffer) → Preserves a b → Preserves b c → Preserves a c
Preserves-then a b c first later = record {
  draws = DrawsInOrder-then (clusters a.items) (clusters b.items) (clusters c.items) first.draws later.draws;
  flags = PreservesFlags-then a b c first.flags later.flags;
  direction = later.direction ∙ first.direction;
  level = later.level ∙ first.level;
  limit = later.limit ∙ first.limit;
}

-- a step of a loop keeps what it is of, so does the loop
pub Preserves-times : {S : Type 0} (view : S → Buffer) (f : S → S) → ((s : S) → Preserves (view s) (view (f s)))
    → (n : ℕ) (s : S) → Preserves (view s) (view (times f n s))
Preserves-times view f each zero s = Preserves-same (view s)
Preserves-times view f each (suc n) s =
    Preserves-then (view s) (view (times f n s)) (view (f (times f n s))) (Preserves-times view f each n s) (each (times f n s))

pub Preserves-if : (t : Bool) (a b c : Buffer) → Preserves a b → Preserves a c → Preserves a (if t then b else c)
Preserves-if true a b c x y = x
Preserves-if false a b c x y = y

-- ---- an item in the cluster, and with the mask, of the one whose place it takes

pub record IsLike (x y : Item) : Type 0 where
  pub cluster : y.cluster ≡ x.cluster
  pub mask : y.mask ≡ x.mask

pub IsLike-same : (x : Item) → IsLike x x
IsLike-same x = record { cluster = refl; mask = refl }

pub IsLike-then : (x y z : Item) → IsLike x y → IsLike y z → IsLike x z
IsLike-then x y z first later = record { cluster = later.cluster ∙ first.cluster; mask = later.mask ∙ first.mask }

by_masks : (flag : ℕ) (zs : List Item) → list_any (λ m. nat_lt 0 (bit_and m flag)) (map (λ (x : Item). x.mask) zs) ≡ some_has flag zs
by_masks flag [] = refl
by_masks flag (z ∷ zs) = ap (λ (b : Bool). nat_lt 0 (bit_and z.mask flag) || b) (by_masks flag zs)

some_has-masks : (flag : ℕ) (xs ys : List Item) → map (λ (x : Item). x.mask) ys ≡ map (λ (x : Item). x.mask) xs → some_has flag ys ≡ true
    → some_has flag xs ≡ true
some_has-masks flag xs ys same some =
    sym (by_masks flag xs) ∙ ap (λ (ms : List ℕ). list_any (λ m. nat_lt 0 (bit_and m flag)) ms) (sym same) ∙ by_masks flag ys ∙ some

draws_equal : (xs ys : List Item) → clusters ys ≡ clusters xs → DrawsInOrder (clusters xs) (clusters ys)
draws_equal xs ys e = rw e (DrawsInOrder-same (clusters xs))

put-preserves : (i : ℕ) (item : Item) (b : Buffer) → IsLike (item_at b i) item → Preserves b (record b { items = slice_set b.items i item })
put-preserves i item b like =
    let cs : clusters (slice_set b.items i item) ≡ clusters b.items =
    map-set_same (λ (x : Item). x.cluster) b.items i item (new_item 0 0) like.cluster in
    let ms = map-set_same (λ (x : Item). x.mask) b.items i item (new_item 0 0) like.mask in
    record {
      draws = draws_equal b.items (slice_set b.items i item) cs;
      flags = record {
        flags = refl;
        stays_set = λ e. e;
        none_new = λ flag is some. inl (some_has-masks flag b.items (slice_set b.items i item) ms some);
      };
      direction = refl;
      level = refl;
      limit = refl;
    }

pub Preserves-put : (i : ℕ) (item : Item) (b : Buffer) → IsLike (item_at b i) item → Preserves b (put_at i item b)
Preserves-put i item b like =
    Preserves-if (is_inside i b) b (record b { items = slice_set b.items i item }) b (put-preserves i item b like) (Preserves-same b)

or_left : (a b c : Bool) → (b ≡ true → c ≡ true) → (a || b) ≡ true → (a || c) ≡ true
or_left true b c more some = refl
or_left false b c more some = more some

or_right : (a b : Bool) → b ≡ true → (a || b) ≡ true
or_right true b some = refl
or_right false b some = some

or_twice : (a b c : Bool) → b ≡ a → (a || (b || c)) ≡ true → (a || c) ≡ true
or_twice true b c same some = refl
or_twice false b c same some = sym (ap (λ (t : Bool). t || c) same) ∙ some

or_same : (a b c : Bool) → a ≡ b → (a || c) ≡ true → (b || c) ≡ true
or_same a b c same some = subst (λ t. (t || c) ≡ true) same some

-- ---- an item that takes cluster and flags of the one after it

before-draws : (xs : List Item) (i : ℕ) (y : Item) → suc i < length xs → y.cluster ≡ (slice_index_or xs (suc i) (new_item 0 0)).cluster
    → DrawsInOrder (clusters xs) (clusters (slice_set xs i y))
before-draws [] i y inside same = absurd (omega (arith, inside))
before-draws (x ∷ []) zero y inside same = absurd (omega (arith, inside))
before-draws (x ∷ z ∷ xs) zero y inside same =
    subst (λ c. DrawsInOrder (x.cluster ∷ z.cluster ∷ clusters xs) (c ∷ z.cluster ∷ clusters xs)) (sym same)
    (DrawsInOrder-after x.cluster (z.cluster ∷ clusters xs) (z.cluster ∷ z.cluster ∷ clusters xs)
    (DrawsInOrder-again z.cluster (clusters xs) (z.cluster ∷ clusters xs) (DrawsInOrder-same (z.cluster ∷ clusters xs))))
before-draws (x ∷ xs) (suc i) y inside same =
    DrawsInOrder-again x.cluster (clusters xs) (clusters (slice_set xs i y))
    (DrawsInOrder-after x.cluster (clusters xs) (clusters (slice_set xs i y)) (before-draws xs i y (omega (arith, inside)) same))

before-some : (flag : ℕ) (xs : List Item) (i : ℕ) (y : Item) → suc i < length xs
    → has_flag flag y ≡ has_flag flag (slice_index_or xs (suc i) (new_item 0 0))
    → some_has flag (slice_set xs i y) ≡ true → some_has flag xs ≡ true
before-some flag [] i y inside same some = absurd (omega (arith, inside))
before-some flag (x ∷ []) zero y inside same some = absurd (omega (arith, inside))
before-some flag (x ∷ z ∷ xs) zero y inside same some =
    or_right (has_flag flag x) (has_flag flag z || some_has flag xs)
    (or_same (has_flag flag y) (has_flag flag z) (some_has flag xs) same
    (or_twice (has_flag flag y) (has_flag flag z) (some_has flag xs) (sym same) some))
before-some flag (x ∷ xs) (suc i) y inside same some =
    or_left (has_flag flag x) (some_has flag (slice_set xs i y)) (some_has flag xs)
    (before-some flag xs i y (omega (arith, inside)) same) some

-- a flag of an item that took the cluster of another one is a flag of that one
hand_over-flag : (picked x : Item) (flag : ℕ) → IsDefinedFlag flag → bit_and (hand_over picked x).mask flag ≡ bit_and picked.mask flag
hand_over-flag picked x flag d =
    ap (λ m. bit_and m flag) (or_comm (feature_bits x.mask) (bit_and picked.mask 7))
    ∙ and_or_apart flag (bit_and picked.mask 7) (feature_bits x.mask) (no_flag x.mask flag d)
    ∙ and_assoc flag picked.mask 7 ∙ ap (bit_and picked.mask) (defined_flag flag d)

before-preserves : (i : ℕ) (b : Buffer) → suc i < length b.items
    → Preserves b (record b { items = slice_set b.items i (hand_over (item_at b (suc i)) (item_at b i)) })
before-preserves i b inside =
    let next = item_at b (suc i) in
    let y = hand_over next (item_at b i) in
    record {
      draws = before-draws b.items i y inside refl;
      flags = record {
        flags = refl;
        stays_set = λ e. e;
        none_new = λ flag is some. inl (before-some flag b.items i y inside
            (ap (λ m. nat_lt 0 m) (hand_over-flag next (item_at b i) flag is)) some);
      };
      direction = refl;
      level = refl;
      limit = refl;
    }

pub Preserves-handed : (i : ℕ) (b : Buffer) → 0 < i → i < length b.items
    → Preserves b (put_at (i - 1) (hand_over (item_at b i) (item_at b (i - 1))) b)
Preserves-handed i b some inside =
    let e : suc (i - 1) ≡ i = omega (arith, some) in
    let one = before-preserves (i - 1) b (omega (arith, some, inside)) in
    Preserves-if (is_inside (i - 1) b) b (record b { items = slice_set b.items (i - 1) (hand_over (item_at b i) (item_at b (i - 1))) }) b
    (subst (λ k. Preserves b (record b { items = slice_set b.items (i - 1) (hand_over (item_at b k) (item_at b (i - 1))) })) e one)
    (Preserves-same b)

-- ---- an item taken out

out-draws : (xs : List Item) (i : ℕ) → DrawsInOrder (clusters xs) (clusters (remove xs i))
out-draws [] zero = DrawsInOrder-same []
out-draws [] (suc i) = DrawsInOrder-same []
out-draws (x ∷ xs) zero = DrawsInOrder-after x.cluster (clusters xs) (clusters xs) (DrawsInOrder-same (clusters xs))
out-draws (x ∷ xs) (suc i) =
    DrawsInOrder-again x.cluster (clusters xs) (clusters (remove xs i))
    (DrawsInOrder-after x.cluster (clusters xs) (clusters (remove xs i)) (out-draws xs i))

out-some : (flag : ℕ) (xs : List Item) (i : ℕ) → some_has flag (remove xs i) ≡ true → some_has flag xs ≡ true
out-some flag [] zero some = some
out-some flag [] (suc i) some = some
out-some flag (x ∷ xs) zero some = or_right (has_flag flag x) (some_has flag xs) some
out-some flag (x ∷ xs) (suc i) some =
    or_left (has_flag flag x) (some_has flag (remove xs i)) (some_has flag xs) (out-some flag xs i) some

pub Preserves-taken_out : (i : ℕ) (b : Buffer) → Preserves b (taken_out i b)
Preserves-taken_out i b =
    Preserves-if (is_inside i b) b (record b { items = remove b.items i; positions = remove b.positions i }) b
    (record {
      draws = out-draws b.items i;
      flags = record { flags = refl; stays_set = λ e. e; none_new = λ flag is some. inl (out-some flag b.items i some) };
      direction = refl;
      level = refl;
      limit = refl;
    })
    (Preserves-same b)

-- ---- one more item, like the one before it

copy-draws : (xs : List Item) (i : ℕ) (y : Item) → i < length xs → y.cluster ≡ (slice_index_or xs i (new_item 0 0)).cluster
    → DrawsInOrder (clusters xs) (clusters (insert xs (suc i) y))
copy-draws [] i y inside same = absurd (omega (arith, inside))
copy-draws (x ∷ xs) zero y inside same =
    subst (λ c. DrawsInOrder (x.cluster ∷ clusters xs) (x.cluster ∷ c ∷ clusters xs)) (sym same)
    (DrawsInOrder-again x.cluster (clusters xs) (x.cluster ∷ clusters xs) (DrawsInOrder-same (x.cluster ∷ clusters xs)))
copy-draws (x ∷ xs) (suc i) y inside same =
    DrawsInOrder-again x.cluster (clusters xs) (clusters (insert xs (suc i) y))
    (DrawsInOrder-after x.cluster (clusters xs) (clusters (insert xs (suc i) y)) (copy-draws xs i y (omega (arith, inside)) same))

copy-some : (flag : ℕ) (xs : List Item) (i : ℕ) (y : Item) → i < length xs → y.mask ≡ (slice_index_or xs i (new_item 0 0)).mask
    → some_has flag (insert xs (suc i) y) ≡ true → some_has flag xs ≡ true
copy-some flag [] i y inside same some = absurd (omega (arith, inside))
copy-some flag (x ∷ xs) zero y inside same some =
    or_twice (has_flag flag x) (has_flag flag y) (some_has flag xs) (ap (λ m. nat_lt 0 (bit_and m flag)) same) some
copy-some flag (x ∷ xs) (suc i) y inside same some =
    or_left (has_flag flag x) (some_has flag (insert xs (suc i) y)) (some_has flag xs)
    (copy-some flag xs i y (omega (arith, inside)) same) some

copy-preserves : (i : ℕ) (item : Item) (b : Buffer) → is_inside i b ≡ true → IsLike (item_at b i) item
    → Preserves b (record b { items = insert b.items (suc i) item; positions = insert b.positions (suc i) zero_position })
copy-preserves i item b test like =
    let inside : i < length b.items = grind (arith, nat_tests, test) in
    record {
      draws = copy-draws b.items i item inside like.cluster;
      flags = record {
        flags = refl;
        stays_set = λ e. e;
        none_new = λ flag is some. inl (copy-some flag b.items i item inside like.mask some);
      };
      direction = refl;
      level = refl;
      limit = refl;
    }

pub Preserves-put_after : (i : ℕ) (item : Item) (b : Buffer) → IsLike (item_at b i) item → Preserves b (put_after i item b)
Preserves-put_after i item b like =
    let e : suc i ≡ i + 1 = omega arith in
    let P : Bool → Type 0 = λ t. is_inside i b ≡ t
    → Preserves b (if t then record b {
      items = insert b.items (i + 1) item;
      positions = insert b.positions
          (i + 1) zero_position;
    } else b) in
    let cases : P (is_inside i b) = elim (is_inside i b) as P [
      | true ↦ λ t. subst (λ k. Preserves b (record b { items = insert b.items k item; positions = insert b.positions k zero_position })) e
          (copy-preserves i item b t like)
      | false ↦ λ t. Preserves-same b
    ] in
    cases refl

-- ---- clusters merged

merge-preserves : (start end : ℕ) (b : Buffer) → end ≤ length b.items → Preserves b (merge_clusters start end b)
unfolding Draws
merge-preserves start end b within =
    let rest = without_items-merge_clusters start end b in
    record {
      draws = merge_clusters_draws start end b within;
      flags = merge_clusters_preserves start end b;
      direction = ap (λ (c : Buffer). c.direction) rest;
      level = ap (λ (c : Buffer). c.cluster_level) rest;
      limit = ap (λ (c : Buffer). c.length_limit) rest;
    }

pub Preserves-merged : (start end : ℕ) (b : Buffer) → Preserves b (merged start end b)
Preserves-merged start end b =
    let P : Bool → Type 0 = λ t. (nat_le start end && nat_le end (length b.items)) ≡ t
    → Preserves b (if t then merge_clusters start end b else b) in
    let cases : P (nat_le start end && nat_le end (length b.items)) = elim (nat_le start end && nat_le end (length b.items)) as P [
      | true ↦ λ t. merge-preserves start end b (grind (arith, nat_tests, t))
      | false ↦ λ t. Preserves-same b
    ] in
    cases refl

-- ---- a span marked unsafe to break

break-preserves : (start end : ℕ) (b : Buffer) → Preserves b (unsafe_to_break start end b)
unfolding Draws
break-preserves start end b =
    let rest = without_items-unsafe_to_break start end b in
    record {
      draws = unsafe_to_break_draws start end b;
      flags = unsafe_to_break_preserves start end b;
      direction = ap (λ (c : Buffer). c.direction) rest;
      level = ap (λ (c : Buffer). c.cluster_level) rest;
      limit = ap (λ (c : Buffer). c.length_limit) rest;
    }

pub Preserves-broken : (start end : ℕ) (b : Buffer) → Preserves b (broken start end b)
Preserves-broken start end b =
    Preserves-if (nat_le start end && nat_le end (length b.items)) b (unsafe_to_break start end b) b
    (break-preserves start end b) (Preserves-same b)

-- ---- what was looked at in vain marked unsafe to concat

concat-preserves : (start end : ℕ) (b : Buffer) → start ≤ end → Preserves b (unsafe_to_concat start end b)
concat-preserves start end b ordered =
    let marked = map_range mark_concat start end b.items in
    let same : clusters marked ≡ clusters b.items =
    keys-map_range (λ (x : Item). x.cluster) mark_concat (λ x. refl) start end b.items ordered in
    Preserves-if (asks_for_concat b) b (record (with_glyph_flags b) { items = marked }) b
    (record {
      draws = draws_equal b.items marked same;
      flags = record { flags = refl; stays_set = λ e. glyph_flags_set b; none_new = λ flag d some. inr (glyph_flags_set b) };
      direction = refl;
      level = refl;
      limit = refl;
    })
    (Preserves-same b)

pub Preserves-concat_marked : (r : Reach) (b : Buffer) → Preserves b (concat_marked r b)
Preserves-concat_marked r b =
    let P : Bool → Type 0 = λ t. (nat_lt r.from r.to && nat_le r.to (length b.items)) ≡ t
    → Preserves b (if t then unsafe_to_concat r.from r.to b else b) in
    let cases : P (nat_lt r.from r.to && nat_le r.to (length b.items)) = elim (nat_lt r.from r.to && nat_le r.to (length b.items)) as P [
      | true ↦ λ t. concat-preserves r.from r.to b (grind (arith, nat_tests, t))
      | false ↦ λ t. Preserves-same b
    ] in
    cases refl
