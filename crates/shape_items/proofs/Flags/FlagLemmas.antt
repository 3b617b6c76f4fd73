-- Merging, marking and deletion preserve the flags of glyphs.
use Rattle.std.proofs.Common.{◌≡◌, ℕ, ◌-◌, Bool, true, false, List, [], ◌∷◌, ◌++◌, take, drop, map, refl, ap, sym, ◌∙◌, arith, slice_range, inl, inr, ◌⊎◌, bit_and}
use Rattle.std.proofs.lemmas.Bool.{or_cases, or_right}
use Rattle.std.proofs.lemmas.Bool.Decides.{nat_tests}
use Rattle.std.proofs.lemmas.Nat.{and_assoc, and_or_self}
use Rattle.std.specs.Int.Bits.{and_zero_r}
use Rattle.std.proofs.lemmas.List.{take-append-drop}
use Rattle.std.proofs.lemmas.List.Folds.{list_any-append}
use Rattle.std.specs.List.{list_any}
use Rattle.shape_items.specs.Items.{Item, put_in, feature_bits}
use Rattle.shape_items.specs.Clusters.{map_range, merge, least_cluster}
use Rattle.shape_items.specs.Buffer.{Buffer}
use Rattle.shape_items.specs.BufferClusters.{with_glyph_flags, merge_at, unsafe_to_break, safe_to_insert_tatweel, merge_clusters, merge_out_clusters}
use Rattle.shape_items.specs.PreservesFlags.{IsDefinedFlag, has_flag, some_has, has_glyph_flags, PreservesFlags}
use Rattle.shape_items.proofs.Merging.ClusterLemmas.{grown_start, grown_end, merge-cases, unsafe_to_break-cases, tatweel-cases, merge_clusters-cases, merge_out-cases}

-- HAS_GLYPH_FLAGS is set
pub glyph_flags_set : (b : Buffer) → has_glyph_flags (with_glyph_flags b) ≡ true
glyph_flags_set b = rw (and_or_self 32 b.scratch_flags.0) refl

-- features have no defined flag
pub no_flag : (m flag : ℕ) → IsDefinedFlag flag → bit_and (feature_bits m) flag ≡ 0
no_flag m flag (inl e) = rw (e, and_assoc 1 m 4294967288) (and_zero_r m)
no_flag m flag (inr (inl e)) = rw (e, and_assoc 2 m 4294967288) (and_zero_r m)
no_flag m flag (inr (inr e)) = rw (e, and_assoc 4 m 4294967288) (and_zero_r m)

-- and a defined flag is one of the three bits
pub defined_flag : (flag : ℕ) → IsDefinedFlag flag → bit_and 7 flag ≡ flag
defined_flag flag (inl e) = rw e refl
defined_flag flag (inr (inl e)) = rw e refl
defined_flag flag (inr (inr e)) = rw e refl

-- a flag that an item has once it is put into a cluster, it had before
put_in-flag : (c flag : ℕ) → IsDefinedFlag flag → (x : Item) → has_flag flag (put_in c x) ≡ true → has_flag flag x ≡ true
put_in-flag c flag d x h =
    let e = no_flag x.mask flag d in
    grind (arith, nat_tests)

pub append-cases : (p : Item → Bool) (xs ys : List Item) → list_any p (xs ++ ys) ≡ true → (list_any p xs ≡ true) ⊎ (list_any p ys ≡ true)
append-cases p xs ys some = or_cases _ _ (sym (list_any-append p xs ys) ∙ some)

append-left : (p : Item → Bool) (xs ys : List Item) → list_any p xs ≡ true → list_any p (xs ++ ys) ≡ true
append-left p xs ys some = rw (list_any-append p xs ys, some) refl

append-right : (p : Item → Bool) (xs ys : List Item) → list_any p ys ≡ true → list_any p (xs ++ ys) ≡ true
append-right p xs ys some = list_any-append p xs ys ∙ or_right (list_any p xs) _ some

pub take_in : (p : Item → Bool) (a : ℕ) (xs : List Item) → list_any p (take a xs) ≡ true → list_any p xs ≡ true
take_in p a xs some = ap (list_any p) (sym (take-append-drop a xs)) ∙ append-left p (take a xs) (drop a xs) some

pub drop_in : (p : Item → Bool) (a : ℕ) (xs : List Item) → list_any p (drop a xs) ≡ true → list_any p xs ≡ true
drop_in p a xs some = ap (list_any p) (sym (take-append-drop a xs)) ∙ append-right p (take a xs) (drop a xs) some

-- if f makes a test hold of an item only if q holds, so it is with a list
map_brings : (f : Item → Item) (p : Item → Bool) (q : Bool) → ((x : Item) → p (f x) ≡ true → (p x ≡ true) ⊎ (q ≡ true))
    → (xs : List Item) → list_any p (map f xs) ≡ true → (list_any p xs ≡ true) ⊎ (q ≡ true)
map_brings f p q h [] some = inl some
map_brings f p q h (x ∷ xs) some =
    elim (or_cases (p (f x)) (list_any p (map f xs)) some) [
      | inl here ↦ elim (h x here) [
        | inl there ↦ inl (rw there refl)
        | inr brought ↦ inr brought
      ]
      | inr later ↦ elim (map_brings f p q h xs later) [
        | inl there ↦ inl (or_right (p x) _ there)
        | inr brought ↦ inr brought
      ]
    ]

pub range_brings : (f : Item → Item) (p : Item → Bool) (q : Bool) → ((x : Item) → p (f x) ≡ true → (p x ≡ true) ⊎ (q ≡ true))
    → (a b : ℕ) (xs : List Item)
    → list_any p (map_range f a b xs) ≡ true → (list_any p xs ≡ true) ⊎ (q ≡ true)
range_brings f p q h a b xs some =
    elim (append-cases p (take a xs) _ some) [
      | inl before ↦ inl (take_in p a xs before)
      | inr rest ↦ elim (append-cases p (map f (slice_range xs a b)) (drop b xs) rest) [
        | inl within ↦ elim (map_brings f p q h (slice_range xs a b) within) [
          | inl there ↦ inl (drop_in p a xs (take_in p (b - a) (drop a xs) there))
          | inr brought ↦ inr brought
        ]
        | inr after ↦ inl (drop_in p b xs after)
      ]
    ]

-- the second of two cases is impossible
pub the_first : (test : Bool) → (test ≡ true) ⊎ (false ≡ true) → test ≡ true
the_first test (inl there) = there
the_first test (inr brought) = cc

merge_brings_none : (start end flag : ℕ) → IsDefinedFlag flag → (xs : List Item) → some_has flag (merge start end xs) ≡ true
    → some_has flag xs ≡ true
merge_brings_none start end flag d xs =
    let least = least_cluster (slice_range xs start end) in
    let brings = range_brings (put_in least) (has_flag flag) false (λ x h. inl (put_in-flag least flag d x h)) in
    merge-cases (λ ys. some_has flag ys ≡ true → some_has flag xs ≡ true) start end xs
    (λ long some. the_first _ (brings (grown_start start end xs) (grown_end start end xs) xs some)) (λ some. some)

-- a buffer that only has other items, and no new flag on them
pub PreservesFlags-items : (b : Buffer) (ys : List Item)
    → ((flag : ℕ) → IsDefinedFlag flag → some_has flag ys ≡ true → some_has flag b.items ≡ true)
    → PreservesFlags b (record b { items = ys })
PreservesFlags-items b ys h = record { flags = refl; stays_set = λ e. e; none_new = λ flag d some. inl (h flag d some) }

-- one with HAS_GLYPH_FLAGS may have any flag
PreservesFlags-set : (b : Buffer) (ys : List Item) → PreservesFlags b (record (with_glyph_flags b) { items = ys })
PreservesFlags-set b ys = record { flags = refl; stays_set = λ e. glyph_flags_set b; none_new = λ flag d some. inr (glyph_flags_set b) }

pub PreservesFlags-same : (b : Buffer) → PreservesFlags b b
PreservesFlags-same b = record { flags = refl; stays_set = λ e. e; none_new = λ flag d some. inl some }

pub PreservesFlags-then : (a b c : Buffer) → PreservesFlags a b → PreservesFlags b c → PreservesFlags a c
PreservesFlags-then a b c f g = record {
  flags = g.flags ∙ f.flags;
  stays_set = λ e. g.stays_set (f.stays_set e);
  none_new = λ flag d some. elim (g.none_new flag d some) [
    | inl there ↦ elim (f.none_new flag d there) [
      | inl before ↦ inl before
      | inr set ↦ inr (g.stays_set set)
    ]
    | inr set ↦ inr set
  ];
}

merge_at_preserves : (start end : ℕ) (b : Buffer) → PreservesFlags b (merge_at start end b)
merge_at_preserves start end b = PreservesFlags-items b _ (λ flag d some. merge_brings_none start end flag d b.items some)

pub unsafe_to_break_preserves : (start end : ℕ) (b : Buffer) → PreservesFlags b (unsafe_to_break start end b)
unsafe_to_break_preserves start end b =
    unsafe_to_break-cases (PreservesFlags b) start end b (λ long. PreservesFlags-set b _) (PreservesFlags-same b)

pub safe_to_insert_tatweel_preserves : (start end : ℕ) (b : Buffer) → PreservesFlags b (safe_to_insert_tatweel start end b)
safe_to_insert_tatweel_preserves start end b =
    tatweel-cases (PreservesFlags b) start end b (λ long. PreservesFlags-set b _) (PreservesFlags-same b) (unsafe_to_break_preserves start end b)

pub merge_clusters_preserves : (start end : ℕ) (b : Buffer) → PreservesFlags b (merge_clusters start end b)
merge_clusters_preserves start end b =
    merge_clusters-cases (PreservesFlags b) start end b (λ monotone. merge_at_preserves start end b) (λ is. unsafe_to_break_preserves start end b)

pub merge_out_clusters_preserves : (start end : ℕ) (b : Buffer) → PreservesFlags b (merge_out_clusters start end b)
merge_out_clusters_preserves start end b = merge_out-cases (PreservesFlags b) start end b (merge_at_preserves start end b) (PreservesFlags-same b)
