-- kerning preserves clusters and flags
use Prim.Native.Nat.{zero}
use Rattle.std.proofs.Common.{◌≡◌, ◌||◌, ℕ, suc, ◌+◌, ◌==◌, Bool, true, false, if◌then◌else◌, Option, List, [], ◌∷◌, ◌++◌, length, reverse, nat_lt, nat_eq}
use Rattle.std.proofs.Common.{refl, sym, ap, ◌∙◌, inl, inr}
use Rattle.std.proofs.lemmas.List.{reverse-append, reverse-reverse, map-append}
use Rattle.std.specs.Int.RustNames.{bit_and}
use Rattle.shape_items.specs.Buffer.{Buffer}
use Rattle.shape_items.specs.BufferClusters.{unsafe_to_concat, with_glyph_flags}
use Rattle.shape_items.specs.Clusters.{clusters, map_range, mark_concat}
use Rattle.shape_common.specs.Direction.{is_horizontal, is_backward}
use Rattle.shape_common.specs.FlagNames.{PRODUCE_UNSAFE_TO_CONCAT}
use Rattle.shape_items.specs.Items.{Item}
use Rattle.shape_buffer.specs.Preservation.{EachLookup, PreservesOrder, IsClusterPreserving, IsFlagPreserving, LookupsPreserveClusters, LookupsPreserveFlags}
use Rattle.shape_items.specs.PreservesFlags.{PreservesFlags, has_flag, some_has}
use Rattle.shape_items.proofs.Flags.FlagLemmas.{glyph_flags_set, PreservesFlags-same, PreservesFlags-then, unsafe_to_break_preserves}
use Rattle.shape_items.proofs.Merging.KeyLemmas.{keys-unsafe_to_break, without_items-unsafe_to_break}
use Rattle.shape_buffer.proofs.Steps.PreservationLemmas.{PreservesClusters-equal, PreservesOrder-same, PreservesOrder-then}
use Rattle.font_sizes.specs.declared.scales.Scale.{Scale}
use Rattle.kern_table.specs.Headers.{first_start, length_of, ends_table}
use Rattle.shape_font.specs.declared.face.FontFace.{FontFace}
use Rattle.kern_table.specs.Walk.{kerned}
use Rattle.kern_table.specs.StepLaws.{step-kerned}
use Rattle.kern_table.specs.CountLaws.{clusters-concat}
use Rattle.kern_table.specs.Tables.{subtable_count_of, is_read, reversed, subtable_kerned, subtable_work, charged, kerned_from, table_kerned}
use Rattle.kern_table.specs.Engine.{kern_lookups}

-- ---- one subtable, in the order of the buffer

pub clusters-kerned : (scale : Option Scale) (t : List ℕ) (start mask : ℕ) (b : Buffer) → clusters (kerned scale t start mask b).items ≡ clusters b.items
clusters-kerned = step-kerned (λ b c. clusters c.items ≡ clusters b.items) (λ b. refl) (λ a b c first later. later ∙ first)
    (λ start end b. keys-unsafe_to_break (λ item. item.cluster) (λ item. refl) start end b) clusters-concat (λ i p b. refl)

-- direction, flags and level stay
record PreservesSettings (b c : Buffer) : Type 0 where
  direction : c.direction ≡ b.direction
  flags : c.flags ≡ b.flags
  level : c.cluster_level ≡ b.cluster_level

settings-same : (b : Buffer) → PreservesSettings b b
settings-same b = record { direction = refl; flags = refl; level = refl }

settings-concat : (end : ℕ) (b : Buffer) → PreservesSettings b (unsafe_to_concat 0 end b)
settings-concat end b =
    elim (bit_and b.flags.0 PRODUCE_UNSAFE_TO_CONCAT == PRODUCE_UNSAFE_TO_CONCAT) as (λ t.
    PreservesSettings b (if t then record (with_glyph_flags b) { items = map_range mark_concat 0 end b.items } else b)) [
      | true ↦ record { direction = refl; flags = refl; level = refl }
      | false ↦ settings-same b
    ]

settings-kerned : (scale : Option Scale) (t : List ℕ) (start mask : ℕ) (b : Buffer) → PreservesSettings b (kerned scale t start mask b)
settings-kerned = step-kerned PreservesSettings settings-same
    (λ a b c first later. record {
      direction = later.direction ∙ first.direction;
      flags = later.flags ∙ first.flags;
      level = later.level ∙ first.level;
    })
    (λ start end b.
    let rest = without_items-unsafe_to_break start end b in
    record {
      direction = ap (λ (c : Buffer). c.direction) rest;
      flags = ap (λ (c : Buffer). c.flags) rest;
      level = ap (λ (c : Buffer). c.cluster_level) rest;
    })
    settings-concat (λ i p b. record { direction = refl; flags = refl; level = refl })

flags-concat : (end : ℕ) (b : Buffer) → PreservesFlags b (unsafe_to_concat 0 end b)
flags-concat end b =
    elim (bit_and b.flags.0 PRODUCE_UNSAFE_TO_CONCAT == PRODUCE_UNSAFE_TO_CONCAT) as (λ t.
    PreservesFlags b (if t then record (with_glyph_flags b) { items = map_range mark_concat 0 end b.items } else b)) [
      | true ↦ record { flags = refl; stays_set = λ e. glyph_flags_set b; none_new = λ flag d some. inr (glyph_flags_set b) }
      | false ↦ PreservesFlags-same b
    ]

flags-kerned : (scale : Option Scale) (t : List ℕ) (start mask : ℕ) (b : Buffer) → PreservesFlags b (kerned scale t start mask b)
flags-kerned = step-kerned PreservesFlags PreservesFlags-same PreservesFlags-then unsafe_to_break_preserves flags-concat
    (λ i p b. record { flags = refl; stays_set = λ e. e; none_new = λ flag d some. inl some })

-- ---- the order reversed, and reversed back

clusters-reverse : (xs : List Item) → clusters (reverse xs) ≡ reverse (clusters xs)
clusters-reverse [] = refl
clusters-reverse (x ∷ xs) =
    ap clusters (reverse-append (x ∷ []) xs)
    ∙ map-append (λ (item : Item). item.cluster) (reverse xs) (x ∷ [])
    ∙ ap (λ (ys : List ℕ). ys ++ (x.cluster ∷ [])) (clusters-reverse xs)
    ∙ sym (reverse-append (x.cluster ∷ []) (clusters xs))

some_has-append : (flag : ℕ) (xs ys : List Item) → some_has flag (xs ++ ys) ≡ (some_has flag xs || some_has flag ys)
some_has-append flag [] ys = refl
some_has-append flag (x ∷ xs) ys =
    ap (λ t. has_flag flag x || t) (some_has-append flag xs ys) ∙ or_assoc (has_flag flag x) (some_has flag xs) (some_has flag ys)
  where
    or_assoc : (a b c : Bool) → (a || (b || c)) ≡ ((a || b) || c)
    or_assoc true b c = refl
    or_assoc false b c = refl

some_has-reverse : (flag : ℕ) (xs : List Item) → some_has flag (reverse xs) ≡ some_has flag xs
some_has-reverse flag [] = refl
some_has-reverse flag (x ∷ xs) =
    ap (some_has flag) (reverse-append (x ∷ []) xs) ∙ some_has-append flag (reverse xs) (x ∷ [])
    ∙ ap (λ t. t || (has_flag flag x || false)) (some_has-reverse flag xs) ∙ or_comm (some_has flag xs) (has_flag flag x)
  where
    or_comm : (a b : Bool) → (a || (b || false)) ≡ (b || a)
    or_comm true true = refl
    or_comm true false = refl
    or_comm false true = refl
    or_comm false false = refl

flags-reversed : IsFlagPreserving reversed
flags-reversed b = record { flags = refl; stays_set = λ e. e; none_new = λ flag d some. inl (sym (some_has-reverse flag b.items) ∙ some) }

clusters-reversed : (scale : Option Scale) (t : List ℕ) (start mask : ℕ) (b : Buffer)
    → clusters (reversed (kerned scale t start mask (reversed b))).items ≡ clusters b.items
clusters-reversed scale t start mask b =
    clusters-reverse (kerned scale t start mask (reversed b)).items ∙ ap reverse (clusters-kerned scale t start mask (reversed b))
    ∙ ap reverse (clusters-reverse b.items) ∙ reverse-reverse (clusters b.items)

-- ---- a subtable

order-subtable_kerned : (scale : Option Scale) (t : List ℕ) (start mask : ℕ) (b : Buffer) → PreservesOrder b (subtable_kerned scale t start mask b)
order-subtable_kerned scale t start mask b =
    elim (is_read t start (is_horizontal b.direction)) as (λ r.
    PreservesOrder b (if r then (if is_backward b.direction then reversed (kerned scale t start mask (reversed b)) else kerned scale t start mask b) else b)) [
      | true ↦ elim (is_backward b.direction) as (λ r.
          PreservesOrder b (if r then reversed (kerned scale t start mask (reversed b)) else kerned scale t start mask b)) [
            | true ↦
                let settings = settings-kerned scale t start mask (reversed b) in
                record {
                  clusters = PreservesClusters-equal _ _ (clusters-reversed scale t start mask b);
                  direction = settings.direction;
                  flags = settings.flags;
                  level = settings.level;
                }
            | false ↦
                let settings = settings-kerned scale t start mask b in
                record {
                  clusters = PreservesClusters-equal _ _ (clusters-kerned scale t start mask b);
                  direction = settings.direction;
                  flags = settings.flags;
                  level = settings.level;
                }
          ]
      | false ↦ PreservesOrder-same b
    ]

flags-subtable_kerned : (scale : Option Scale) (t : List ℕ) (start mask : ℕ) (b : Buffer) → PreservesFlags b (subtable_kerned scale t start mask b)
flags-subtable_kerned scale t start mask b =
    elim (is_read t start (is_horizontal b.direction)) as (λ r.
    PreservesFlags b (if r then (if is_backward b.direction then reversed (kerned scale t start mask (reversed b)) else kerned scale t start mask b) else b)) [
      | true ↦ elim (is_backward b.direction) as (λ r.
          PreservesFlags b (if r then reversed (kerned scale t start mask (reversed b)) else kerned scale t start mask b)) [
            | true ↦
                let there = kerned scale t start mask (reversed b) in
                PreservesFlags-then b (reversed b) (reversed there) (flags-reversed b)
                (PreservesFlags-then (reversed b) there (reversed there) (flags-kerned scale t start mask (reversed b)) (flags-reversed there))
            | false ↦ flags-kerned scale t start mask b
          ]
      | false ↦ PreservesFlags-same b
    ]

-- ---- the table

order-charged : (b : Buffer) → PreservesOrder b (charged b)
order-charged b = record { clusters = PreservesClusters-equal _ _ refl; direction = refl; flags = refl; level = refl }

flags-charged : (b : Buffer) → PreservesFlags b (charged b)
flags-charged b = record { flags = refl; stays_set = λ e. e; none_new = λ flag d some. inl some }

order-from : (scale : Option Scale) (t : List ℕ) (mask n start : ℕ) (b : Buffer) → PreservesOrder b (kerned_from scale t mask n start b)
order-from scale t mask zero start b = PreservesOrder-same b
order-from scale t mask (suc n) start b =
    let paid = charged b in
    let next = subtable_kerned scale t start mask paid in
    let behind = kerned_from scale t mask n (start + length_of t start) next in
    let spent = nat_lt b.max_ops (subtable_work (length b.items)) in
    elim (ends_table t start) as (λ s. PreservesOrder b (if s then b else (if spent then paid else behind))) [
      | true ↦ PreservesOrder-same b
      | false ↦ elim spent as (λ s. PreservesOrder b (if s then paid else behind)) [
        | true ↦ order-charged b
        | false ↦ PreservesOrder-then b paid behind (order-charged b)
            (PreservesOrder-then paid next behind (order-subtable_kerned scale t start mask paid)
            (order-from scale t mask n (start + length_of t start) next))
      ]
    ]

flags-from : (scale : Option Scale) (t : List ℕ) (mask n start : ℕ) (b : Buffer) → PreservesFlags b (kerned_from scale t mask n start b)
flags-from scale t mask zero start b = PreservesFlags-same b
flags-from scale t mask (suc n) start b =
    let paid = charged b in
    let next = subtable_kerned scale t start mask paid in
    let behind = kerned_from scale t mask n (start + length_of t start) next in
    let spent = nat_lt b.max_ops (subtable_work (length b.items)) in
    elim (ends_table t start) as (λ s. PreservesFlags b (if s then b else (if spent then paid else behind))) [
      | true ↦ PreservesFlags-same b
      | false ↦ elim spent as (λ s. PreservesFlags b (if s then paid else behind)) [
        | true ↦ flags-charged b
        | false ↦ PreservesFlags-then b paid behind (flags-charged b)
            (PreservesFlags-then paid next behind (flags-subtable_kerned scale t start mask paid)
            (flags-from scale t mask n (start + length_of t start) next))
      ]
    ]

order-table_kerned : (scale : Option Scale) (t : List ℕ) (mask : ℕ) → IsClusterPreserving (table_kerned scale t mask)
order-table_kerned scale t mask b monotone =
    elim (nat_eq mask 0) as (λ s. PreservesOrder b (if s then b else kerned_from scale t mask (subtable_count_of t) (first_start t) b)) [
      | true ↦ PreservesOrder-same b
      | false ↦ order-from scale t mask (subtable_count_of t) (first_start t) b
    ]

flags-table_kerned : (scale : Option Scale) (t : List ℕ) (mask : ℕ) → IsFlagPreserving (table_kerned scale t mask)
flags-table_kerned scale t mask b =
    elim (nat_eq mask 0) as (λ s. PreservesFlags b (if s then b else kerned_from scale t mask (subtable_count_of t) (first_start t) b)) [
      | true ↦ PreservesFlags-same b
      | false ↦ flags-from scale t mask (subtable_count_of t) (first_start t) b
    ]

-- ---- the engine

EachLookup-kern : (Preserves : (Buffer → Buffer) → Type 0) (face : FontFace) → Preserves (λ b. b)
    → ((mask : ℕ) → Preserves (table_kerned face.scale face.kern.now mask)) → EachLookup Preserves (kern_lookups face)
EachLookup-kern Preserves face left kern = record {
  substitute_start = left;
  stage = λ i. left;
  aat_substitute = λ features. left;
  aat_remove_deleted = left;
  aat_zero_width_deleted = left;
  position_start = left;
  position = left;
  position_finish_advances = left;
  position_finish_offsets = left;
  aat_position = λ mask. left;
  kern = kern;
  aat_track = λ mask. left;
}

pub clusters-kern : (face : FontFace) → LookupsPreserveClusters (kern_lookups face)
clusters-kern face = EachLookup-kern IsClusterPreserving face (λ b monotone. PreservesOrder-same b) (order-table_kerned face.scale face.kern.now)

pub flags-kern : (face : FontFace) → LookupsPreserveFlags (kern_lookups face)
flags-kern face = EachLookup-kern IsFlagPreserving face (λ b. PreservesFlags-same b) (flags-table_kerned face.scale face.kern.now)
