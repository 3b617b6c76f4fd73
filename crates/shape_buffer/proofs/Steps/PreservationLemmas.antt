-- What preserves the order of clusters and the flags of glyphs, step by step.
use Rattle.std.proofs.Common.{◌≡◌, ◌==◌, ◌||◌, ℕ, Bool, true, nat_lt, List, [], ◌∷◌, ◌++◌, map, refl, ap, sym, ◌∙◌, inl, inr, bit_and}
use Rattle.std.proofs.lemmas.Bool.{cases_Bool, or_cases, or_right}
use Rattle.std.specs.List.{list_any}
use Rattle.shape_items.specs.Buffer.{Buffer}
use Rattle.shape_items.specs.BufferClusters.{unsafe_to_break, unsafe_to_concat, safe_to_insert_tatweel}
use Rattle.shape_items.specs.Clusters.{clusters}
use Rattle.shape_items.specs.Items.{Item}
use Rattle.shape_items.specs.PreservesFlags.{IsDefinedFlag, has_flag, some_has, PreservesFlags}
use Rattle.shape_items.proofs.Flags.FlagLemmas.{glyph_flags_set, PreservesFlags-items, PreservesFlags-same}
use Rattle.shape_buffer.specs.NoLookups.{no_lookups}
use Rattle.shape_buffer.specs.Preservation.{PreservesOrder, IsClusterPreserving, IsFlagPreserving, EachLookup, EachStep}
use Rattle.shape_buffer.specs.Outcome.{Step}
use Rattle.shape_buffer.specs.Walks.{items_mapped}
pub use Rattle.shape_items.proofs.Order.PreservesClusterLemmas.{PreservesClusters-same, PreservesClusters-equal, PreservesClusters-then, clusters-map}
use Rattle.shape_items.proofs.Merging.KeyLemmas.{keys-unsafe_to_break, without_items-unsafe_to_break, keys-safe_to_insert_tatweel, without_items-safe_to_insert_tatweel}

-- ---- buffers

pub PreservesOrder-same : (b : Buffer) → PreservesOrder b b
PreservesOrder-same b = record { clusters = PreservesClusters-same (clusters b.items); direction = refl; flags = refl; level = refl }

pub PreservesOrder-then : (a b c : Buffer) → PreservesOrder a b → PreservesOrder b c → PreservesOrder a c
PreservesOrder-then a b c first later = record {
  clusters = PreservesClusters-then (clusters a.items) (clusters b.items) (clusters c.items) first.clusters later.clusters;
  direction = later.direction ∙ first.direction;
  flags = later.flags ∙ first.flags;
  level = later.level ∙ first.level;
}

pub order-items_mapped : (f : Item → Item) → ((x : Item) → (f x).cluster ≡ x.cluster) → IsClusterPreserving (items_mapped f)
unfolding items_mapped
order-items_mapped f same b monotone = record {
  clusters = PreservesClusters-equal _ _ (clusters-map f same b.items);
  direction = refl;
  flags = refl;
  level = refl;
}

pub order-unsafe_to_break : (start end : ℕ) (b : Buffer) → PreservesOrder b (unsafe_to_break start end b)
order-unsafe_to_break start end b =
    let rest = without_items-unsafe_to_break start end b in
    record {
      clusters = PreservesClusters-equal (clusters b.items) _ (keys-unsafe_to_break (λ item. item.cluster) (λ item. refl) start end b);
      direction = ap (λ c. c.direction) rest;
      flags = ap (λ c. c.flags) rest;
      level = ap (λ c. c.cluster_level) rest;
    }

pub order-safe_to_insert_tatweel : (start end : ℕ) (b : Buffer) → PreservesOrder b (safe_to_insert_tatweel start end b)
order-safe_to_insert_tatweel start end b =
    let rest = without_items-safe_to_insert_tatweel start end b in
    let same = keys-safe_to_insert_tatweel (λ item. item.cluster) (λ item. refl) (λ item. refl) start end b in
    record {
      clusters = PreservesClusters-equal (clusters b.items) _ same;
      direction = ap (λ c. c.direction) rest;
      flags = ap (λ c. c.flags) rest;
      level = ap (λ c. c.cluster_level) rest;
    }

-- ---- flags

-- if no item gets a flag that it lacks, no list does
some_has-map : (f : Item → Item) (flag : ℕ) → ((x : Item) → has_flag flag (f x) ≡ true → has_flag flag x ≡ true) → (xs : List Item)
    → some_has flag (map f xs) ≡ true → some_has flag xs ≡ true
some_has-map f flag brings [] some = some
some_has-map f flag brings (x ∷ xs) some = elim (or_cases (has_flag flag (f x)) (some_has flag (map f xs)) some) [
  | inl here ↦ rw (brings x here) refl
  | inr later ↦ or_right (has_flag flag x) _ (some_has-map f flag brings xs later)
]

pub flags-none_brought : (f : Item → Item)
    → ((flag : ℕ) → IsDefinedFlag flag → (x : Item) → has_flag flag (f x) ≡ true → has_flag flag x ≡ true) → IsFlagPreserving (items_mapped f)
unfolding items_mapped
flags-none_brought f brings b =
    PreservesFlags-items b (map f b.items) (λ flag defined some. some_has-map f flag (brings flag defined) b.items some)

pub flags-items_mapped : (f : Item → Item) → ((x : Item) → (f x).mask ≡ x.mask) → IsFlagPreserving (items_mapped f)
flags-items_mapped f same =
    flags-none_brought f (λ flag defined x has. ap (λ (m : ℕ). nat_lt 0 (bit_and m flag)) (sym (same x)) ∙ has)

-- other items with the same masks, in order
some_has-masks : (flag : ℕ) (xs ys : List Item) → map (λ (x : Item). x.mask) ys ≡ map (λ (x : Item). x.mask) xs → some_has flag ys ≡ true
    → some_has flag xs ≡ true
some_has-masks flag xs ys same some =
    sym (by_masks xs) ∙ ap (λ (ms : List ℕ). list_any (λ m. nat_lt 0 (bit_and m flag)) ms) (sym same) ∙ by_masks ys ∙ some
  where
    by_masks : (zs : List Item) → list_any (λ m. nat_lt 0 (bit_and m flag)) (map (λ (x : Item). x.mask) zs) ≡ some_has flag zs
    by_masks [] = refl
    by_masks (z ∷ zs) = ap (λ (b : Bool). nat_lt 0 (bit_and z.mask flag) || b) (by_masks zs)

pub flags-same_masks : (b : Buffer) (ys : List Item) → map (λ (x : Item). x.mask) ys ≡ map (λ (x : Item). x.mask) b.items
    → PreservesFlags b (record b { items = ys })
flags-same_masks b ys same = PreservesFlags-items b ys (λ flag defined some. some_has-masks flag b.items ys same some)

pub flags-unsafe_to_concat : (start end : ℕ) → IsFlagPreserving (unsafe_to_concat start end)
flags-unsafe_to_concat start end b = elim (cases_Bool (bit_and b.flags.0 64 == 64)) [
  | inl asked ↦ rw asked (record {
    flags = refl;
    stays_set = λ set. glyph_flags_set b;
    none_new = λ flag defined some. inr
        (glyph_flags_set b);
  })
  | inr unasked ↦ rw unasked (PreservesFlags-same b)
]

-- ---- an engine of one stage, or of several that do alike

pub EachLookup-one_stage : (Preserves : (Buffer → Buffer) → Type 0) (stage : ℕ → Buffer → Buffer) → Preserves (λ b. b)
    → ((i : ℕ) → Preserves (stage i)) → EachLookup Preserves (record no_lookups { stage = stage })
EachLookup-one_stage Preserves stage left preserves = record {
  substitute_start = left;
  stage = preserves;
  aat_substitute = λ features. left;
  aat_remove_deleted = left;
  aat_zero_width_deleted = left;
  position_start = left;
  position = left;
  position_finish_advances = left;
  position_finish_offsets = left;
  aat_position = λ mask. left;
  kern = λ mask. left;
  aat_track = λ mask. left;
}

-- ---- lists of steps

-- a property of each step of two lists is one of each step of both
pub EachStep-append : (Preserves : (Buffer → Buffer) → Type 0) (steps more : List Step)
    → EachStep Preserves steps → EachStep Preserves more → EachStep Preserves (steps ++ more)
EachStep-append Preserves [] more first second = second
EachStep-append Preserves (step ∷ steps) more first second = (first.0, EachStep-append Preserves steps more first.1 second)

pub EachStep-front : (Preserves : (Buffer → Buffer) → Type 0) (steps more : List Step)
    → EachStep Preserves (steps ++ more) → EachStep Preserves steps
EachStep-front Preserves [] more each = tt
EachStep-front Preserves (step ∷ steps) more each = (each.0, EachStep-front Preserves steps more each.1)
