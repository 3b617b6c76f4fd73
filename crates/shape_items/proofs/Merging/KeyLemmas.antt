-- What depends on neither clusters nor the defined flags: merging keeps it, and ordering depends on it. Merging keeps
-- the settings too.
use Rattle.std.proofs.Common.{◌≡◌, ℕ, ◌≤◌, Bool, true, false, if◌then◌else◌, ◌==◌, ◌&&◌, bit_or, nat_lt, List, [], ◌∷◌, ◌++◌, map, length, take, drop, slice_range, refl, sym, ap, ap₂, ◌∙◌, arith}
use Rattle.std.proofs.lemmas.Nat.{and_assoc, and_or_apart}
use Rattle.std.proofs.lemmas.List.{length-map, map-append, take-append-drop}
use Rattle.std.proofs.lemmas.List.Folds.{drop_split}
use Rattle.shape_items.proofs.Merging.ClusterLemmas.{grown_start, grown_end, merge-cases, unsafe_to_break-cases, tatweel-cases, merge_clusters-cases, merge_out-cases}
use Rattle.shape_items.specs.Buffer.{Buffer}
use Rattle.shape_items.specs.BufferClusters.{merge_clusters, merge_out_clusters, unsafe_to_break, safe_to_insert_tatweel}
use Rattle.shape_items.specs.Clusters.{map_range, merge, mark_break, mark_tatweel, least_cluster}
use Rattle.shape_items.specs.Items.{Item, ccc_of_item, put_in, feature_bits}
use Rattle.canonical_form.specs.Order.{falls, sink, in_order}

module _ {A B : Type 0} (ccc : A → ℕ) (ccc' : B → ℕ) (f : A → B) (same : (x : A) → ccc' (f x) ≡ ccc x) where
  map-if : (t : Bool) (xs ys : List A) → map f (if t then xs else ys) ≡ (if t then map f xs else map f ys)
  map-if true xs ys = refl
  map-if false xs ys = refl

  sink-map : (x : A) (ys : List A) → map f (sink ccc x ys) ≡ sink ccc' (f x) (map f ys)
  sink-map x [] = refl
  sink-map x (y ∷ ys) =
      map-if (falls ccc x y) (y ∷ sink ccc x ys) (x ∷ y ∷ ys)
      ∙ ap₂ (λ a b. if (nat_lt 0 b && nat_lt b a) then f y ∷ map f (sink ccc x ys) else f x ∷ f y ∷ map f ys) (sym (same x)) (sym (same y))
      ∙ ap (λ l. if falls ccc' (f x) (f y) then f y ∷ l else f x ∷ f y ∷ map f ys) (sink-map x ys)

  -- the order depends on the ccc alone
  pub in_order-map : (xs : List A) → map f (in_order ccc xs) ≡ in_order ccc' (map f xs)
  in_order-map [] = refl
  in_order-map (x ∷ xs) = sink-map x (in_order ccc xs) ∙ ap (sink ccc' (f x)) (in_order-map xs)

-- ---- a part of each item

module _ {B : Type 0} (key : Item → B) where
  -- what f leaves of each item is left of the list
  pub keys-map : (f : Item → Item) → ((item : Item) → key (f item) ≡ key item) → (xs : List Item) → map key (map f xs) ≡ map key xs
  keys-map f same [] = refl
  keys-map f same (x ∷ xs) = ap₂ ◌∷◌ (same x) (keys-map f same xs)

  pub keys-map_range : (f : Item → Item) → ((item : Item) → key (f item) ≡ key item) → (from to : ℕ) (xs : List Item) → from ≤ to
      → map key (map_range f from to xs) ≡ map key xs
  keys-map_range f same from to xs le =
      let middle = slice_range xs from to in
      let whole : middle ++ drop to xs ≡ drop from xs = sym (drop_split xs from to le) in
      map-append key (take from xs) (map f middle ++ drop to xs)
      ∙ ap (λ l. map key (take from xs) ++ l) (
      map-append key (map f middle) (drop to xs) ∙ ap (λ l. l ++ map key (drop to xs)) (keys-map f same middle)
      ∙ sym (map-append key middle (drop to xs)) ∙ ap (map key) whole
      )
      ∙ sym (map-append key (take from xs) (drop from xs)) ∙ ap (map key) (take-append-drop from xs)

  module _ (by_break : (item : Item) → key (record item { mask = bit_or item.mask 3 }) ≡ key item) where
    key-mark_break : (least : ℕ) (item : Item) → key (mark_break least item) ≡ key item
    key-mark_break least item =
        elim (item.cluster == least) as (λ t. key (if t then item else record item { mask = bit_or item.mask 3 }) ≡ key item) [
          | true ↦ refl
          | false ↦ by_break item
        ]

    -- marking keeps what depends on no flag
    pub keys-unsafe_to_break : (start end : ℕ) (b : Buffer) → map key (unsafe_to_break start end b).items ≡ map key b.items
    keys-unsafe_to_break start end b =
        let least = least_cluster (slice_range b.items start end) in
        unsafe_to_break-cases (λ c. map key c.items ≡ map key b.items) start end b
        (λ long. keys-map_range (mark_break least) (key-mark_break least) start end b.items (omega arith)) refl

    module _ (by_tatweel : (item : Item) → key (record item { mask = bit_or item.mask 4 }) ≡ key item) where
      key-mark_tatweel : (least : ℕ) (item : Item) → key (mark_tatweel least item) ≡ key item
      key-mark_tatweel least item =
          elim (item.cluster == least) as (λ t. key (if t then item else record item { mask = bit_or item.mask 4 }) ≡ key item) [
            | true ↦ refl
            | false ↦ by_tatweel item
          ]

      pub keys-safe_to_insert_tatweel : (start end : ℕ) (b : Buffer)
          → map key (safe_to_insert_tatweel start end b).items ≡ map key b.items
      keys-safe_to_insert_tatweel start end b =
          let least = least_cluster (slice_range b.items start end) in
          tatweel-cases (λ c. map key c.items ≡ map key b.items) start end b
          (λ long. keys-map_range (mark_tatweel least) (key-mark_tatweel least) start end b.items (omega arith)) refl
          (keys-unsafe_to_break start end b)

-- a part of items that depends on neither their clusters nor the defined flags of their masks
pub record IsKey {B : Type 0} (key : Item → B) : Type 0 where
  pub by_cluster : (item : Item) (cluster : ℕ) → key (record item { cluster = cluster; mask = feature_bits item.mask }) ≡ key item
  pub by_break : (item : Item) → key (record item { mask = bit_or item.mask 3 }) ≡ key item

module _ {B : Type 0} (key : Item → B) (is_key : IsKey key) where
  key-put_in : (cluster : ℕ) (item : Item) → key (put_in cluster item) ≡ key item
  key-put_in cluster item =
      elim (item.cluster == cluster) as (λ t. key (if t then item else record item { cluster = cluster; mask = feature_bits item.mask })
      ≡ key item) [
        | true ↦ refl
        | false ↦ is_key.by_cluster item cluster
      ]

  pub keys-merge : (start end : ℕ) (xs : List Item) → map key (merge start end xs) ≡ map key xs
  keys-merge start end xs =
      let least = least_cluster (slice_range xs start end) in
      merge-cases (λ ys. map key ys ≡ map key xs) start end xs
      (λ long. keys-map_range key (put_in least) (key-put_in least) (grown_start start end xs) (grown_end start end xs) xs (omega arith))
      refl

  -- merging keeps it, at any level
  pub keys-merge_clusters : (start end : ℕ) (b : Buffer) → map key (merge_clusters start end b).items ≡ map key b.items
  keys-merge_clusters start end b =
      merge_clusters-cases (λ c. map key c.items ≡ map key b.items) start end b
      (λ monotone. keys-merge start end b.items) (λ is. keys-unsafe_to_break key is_key.by_break start end b)

  pub keys-merge_out : (start end : ℕ) (b : Buffer) → map key (merge_out_clusters start end b).items ≡ map key b.items
  keys-merge_out start end b = merge_out-cases (λ c. map key c.items ≡ map key b.items) start end b (keys-merge start end b.items) refl

pub IsKey-ccc : IsKey ccc_of_item
IsKey-ccc = record { by_cluster = λ item cluster. refl; by_break = λ item. refl }

-- ---- as many items as before

abbrev nothing : Item → Unit {0}
nothing item = tt

IsKey-nothing : IsKey nothing
IsKey-nothing = record { by_cluster = λ item cluster. refl; by_break = λ item. refl }

same_length : (xs ys : List Item) → map nothing xs ≡ map nothing ys → length xs ≡ length ys
same_length xs ys same = sym (length-map xs nothing) ∙ ap length same ∙ length-map ys nothing

pub length-map_range : (f : Item → Item) (from to : ℕ) (xs : List Item) → from ≤ to → length (map_range f from to xs) ≡ length xs
length-map_range f from to xs le = same_length _ xs (keys-map_range nothing f (λ item. refl) from to xs le)

pub length-merge : (start end : ℕ) (xs : List Item) → length (merge start end xs) ≡ length xs
length-merge start end xs = same_length _ xs (keys-merge nothing IsKey-nothing start end xs)

pub length-unsafe_to_break : (start end : ℕ) (b : Buffer) → length (unsafe_to_break start end b).items ≡ length b.items
length-unsafe_to_break start end b = same_length _ b.items (keys-unsafe_to_break nothing (λ item. refl) start end b)

pub length-safe_to_insert_tatweel : (start end : ℕ) (b : Buffer) → length (safe_to_insert_tatweel start end b).items ≡ length b.items
length-safe_to_insert_tatweel start end b =
    same_length _ b.items (keys-safe_to_insert_tatweel nothing (λ item. refl) (λ item. refl) start end b)

pub length-merge_clusters : (start end : ℕ) (b : Buffer) → length (merge_clusters start end b).items ≡ length b.items
length-merge_clusters start end b = same_length _ b.items (keys-merge_clusters nothing IsKey-nothing start end b)

pub length-merge_out : (start end : ℕ) (b : Buffer) → length (merge_out_clusters start end b).items ≡ length b.items
length-merge_out start end b = same_length _ b.items (keys-merge_out nothing IsKey-nothing start end b)

-- an item without its cluster and its defined flags
abbrev pub unflagged : Item → Item
unflagged item = record item { cluster = 0; mask = feature_bits item.mask }

pub IsKey-unflagged : IsKey unflagged
IsKey-unflagged = record {
  by_cluster = λ item cluster. ap (λ mask. record item { cluster = 0; mask = mask }) (and_assoc 4294967288 item.mask 4294967288);
  by_break = λ item. ap (λ mask. record item { cluster = 0; mask = mask }) (and_or_apart 4294967288 item.mask 3 refl);
}

-- ---- the settings

-- a buffer except for its items and its scratch flags
abbrev pub without_items : Buffer → Buffer
without_items b = record b { items = []; scratch_flags = record { 0 = 0 } }

pub without_items-unsafe_to_break : (start end : ℕ) (b : Buffer) → without_items (unsafe_to_break start end b) ≡ without_items b
without_items-unsafe_to_break start end b = unsafe_to_break-cases (λ c. without_items c ≡ without_items b) start end b (λ long. refl) refl

pub without_items-safe_to_insert_tatweel : (start end : ℕ) (b : Buffer)
    → without_items (safe_to_insert_tatweel start end b) ≡ without_items b
without_items-safe_to_insert_tatweel start end b =
    tatweel-cases (λ c. without_items c ≡ without_items b) start end b (λ long. refl) refl (without_items-unsafe_to_break start end b)

-- merging changes items and scratch flags alone
pub without_items-merge_clusters : (start end : ℕ) (b : Buffer) → without_items (merge_clusters start end b) ≡ without_items b
without_items-merge_clusters start end b =
    merge_clusters-cases (λ c. without_items c ≡ without_items b) start end b (λ monotone. refl)
    (λ is. without_items-unsafe_to_break start end b)
