-- Steps that change masks and scratch flags alone: each is made, and preserves the order of clusters.
use Rattle.std.proofs.Common.{◌≡◌, ℕ, ◌≤◌, ◌==◌, length, map, refl, ap, sym, ◌∙◌, arith, inl, inr, bit_and, bit_or, ◌⊎◌}
use Rattle.std.proofs.lemmas.Bool.{cases_Bool}
use Rattle.std.proofs.lemmas.List.{length-map}
use Rattle.std.proofs.lemmas.Nat.{and_or_self}
use Rattle.std.specs.Int.Bits.{or_add_and}
use Rattle.shape_common.specs.FlagNames.{HAS_GLYPH_FLAGS}
use Rattle.shape_items.specs.Buffer.{Buffer, limit_of}
use Rattle.shape_items.specs.BufferClusters.{unsafe_to_break, unsafe_to_concat}
use Rattle.shape_items.specs.Clusters.{clusters, mark_concat}
use Rattle.shape_items.specs.Items.{Item}
use Rattle.shape_items.proofs.Merging.ClusterLemmas.{unsafe_to_break-cases}
use Rattle.shape_items.proofs.Merging.KeyLemmas.{keys-map, keys-map_range, keys-unsafe_to_break}
use Rattle.shape_buffer.specs.Outcome.{Made}
use Rattle.shape_buffer.specs.Preservation.{PreservesOrder, IsClusterPreserving}
use Rattle.shape_buffer.specs.Walks.{items_mapped}
use Rattle.shape_buffer.proofs.Steps.PreservationLemmas.{PreservesClusters-equal, clusters-map}
use Rattle.shape_plan.specs.Shaper.{ChangesMasksAlone, without_mask}

-- as `ChangesMasksAlone`, whatever comes of the scratch flags
pub record MasksAlone (before after : Buffer) : Type 0 where
  pub items : map without_mask after.items ≡ map without_mask before.items
  pub rest : record after { items = before.items; scratch_flags = before.scratch_flags } ≡ before

pub MasksAlone-same : (b : Buffer) → MasksAlone b b
MasksAlone-same b = record { items = refl; rest = refl }

pub MasksAlone-then : {a b c : Buffer} → MasksAlone a b → MasksAlone b c → MasksAlone a c
MasksAlone-then {a} {b} {c} first second = record {
  items = second.items ∙ first.items;
  rest = ap (λ (x : Buffer). record x { items = a.items; scratch_flags = a.scratch_flags }) second.rest ∙ first.rest;
}

pub length-masks : {old new : Buffer} → MasksAlone old new → length new.items ≡ length old.items
length-masks {old} {new} alone = sym (length-map new.items without_mask) ∙ ap length alone.items ∙ length-map old.items without_mask

-- such a step is made
pub Made-masks : (f : Buffer → Buffer) {old new : Buffer} → new ≡ f old → MasksAlone old (f old) → Made f old new
Made-masks f {old} {new} made alone = record {
  made = made;
  no_longer = let same = ap (λ (b : Buffer). length b.items) made ∙ length-masks alone in omega (arith, same);
  same_limit = ap limit_of made ∙ ap limit_of alone.rest;
}

-- ---- steps that do

pub alone-items_mapped : (f : Item → Item) → ((item : Item) → without_mask (f item) ≡ without_mask item) → (b : Buffer)
    → MasksAlone b (items_mapped f b)
unfolding items_mapped
alone-items_mapped f alone b = record { items = keys-map without_mask f alone b.items; rest = refl }

pub alone-unsafe_to_break : (start end : ℕ) (b : Buffer) → MasksAlone b (unsafe_to_break start end b)
alone-unsafe_to_break start end b = record {
  items = keys-unsafe_to_break without_mask (λ item. refl) start end b;
  rest = unsafe_to_break-cases (λ c. record c { items = b.items; scratch_flags = b.scratch_flags } ≡ b) start end b (λ long. refl) refl;
}

pub alone-unsafe_to_concat : (start end : ℕ) (b : Buffer) → start ≤ end → MasksAlone b (unsafe_to_concat start end b)
alone-unsafe_to_concat start end b le = elim (cases_Bool (bit_and b.flags.0 64 == 64)) [
  | inl asked ↦ rw asked (record { items = keys-map_range without_mask mark_concat (λ item. refl) start end b.items le; rest = refl })
  | inr unasked ↦ rw unasked (MasksAlone-same b)
]

-- ---- what setting masks may change

-- a hook `setup_masks` must provide this
pub changing_masks : (b c : Buffer) → MasksAlone b c
    → (c.scratch_flags.0 ≡ b.scratch_flags.0) ⊎ (c.scratch_flags.0 ≡ bit_or b.scratch_flags.0 HAS_GLYPH_FLAGS)
    → ChangesMasksAlone b c
changing_masks b c alone scratch = record { items = alone.items; scratch = scratch; rest = alone.rest }

pub masks_changed : (b c : Buffer) → ChangesMasksAlone b c → MasksAlone b c
masks_changed b c alone = record { items = alone.items; rest = alone.rest }

pub ChangesMasksAlone-same : (b : Buffer) → ChangesMasksAlone b b
ChangesMasksAlone-same b = record { items = refl; scratch = inl refl; rest = refl }

or_twice : (s : ℕ) → bit_or (bit_or s HAS_GLYPH_FLAGS) HAS_GLYPH_FLAGS ≡ bit_or s HAS_GLYPH_FLAGS
or_twice s =
    let sum = or_add_and (bit_or s 32) 32 in
    let has = and_or_self 32 s in
    omega (arith, sum, has)

-- the scratch flag that is set twice is set
set_again : (a b c : ℕ) → (b ≡ a) ⊎ (b ≡ bit_or a HAS_GLYPH_FLAGS) → (c ≡ b) ⊎ (c ≡ bit_or b HAS_GLYPH_FLAGS)
    → (c ≡ a) ⊎ (c ≡ bit_or a HAS_GLYPH_FLAGS)
set_again a b c (inl same) (inl again) = inl (again ∙ same)
set_again a b c (inl same) (inr now) = inr (now ∙ ap (λ (n : ℕ). bit_or n HAS_GLYPH_FLAGS) same)
set_again a b c (inr set) (inl again) = inr (again ∙ set)
set_again a b c (inr set) (inr now) =
    inr (now ∙ ap (λ (n : ℕ). bit_or n HAS_GLYPH_FLAGS) set ∙ or_twice a)

pub ChangesMasksAlone-then : (a b c : Buffer) → ChangesMasksAlone a b → ChangesMasksAlone b c → ChangesMasksAlone a c
ChangesMasksAlone-then a b c first later = changing_masks a c (MasksAlone-then (masks_changed a b first) (masks_changed b c later))
    (set_again a.scratch_flags.0 b.scratch_flags.0 c.scratch_flags.0 first.scratch later.scratch)

-- ---- clusters: masks don't matter

pub order-masks_alone : (b c : Buffer) → MasksAlone b c → PreservesOrder b c
order-masks_alone b c alone = record {
  clusters = PreservesClusters-equal _ _ (sym (clusters-map without_mask (λ x. refl) c.items) ∙ ap clusters alone.items
      ∙ clusters-map without_mask (λ x. refl) b.items);
  direction = ap (λ (x : Buffer). x.direction) alone.rest;
  flags = ap (λ (x : Buffer). x.flags) alone.rest;
  level = ap (λ (x : Buffer). x.cluster_level) alone.rest;
}

pub order-masks : (f : Buffer → Buffer) → ((b : Buffer) → MasksAlone b (f b)) → IsClusterPreserving f
order-masks f alone b monotone = order-masks_alone b (f b) (alone b)

-- so a hook `setup_masks` preserves clusters, by the law that its trait asks for
pub preserving-masks_alone : (masked : Buffer → Buffer) → ((b : Buffer) → ChangesMasksAlone b (masked b)) → IsClusterPreserving masked
preserving-masks_alone masked alone = order-masks masked (λ b. masks_changed b (masked b) (alone b))
