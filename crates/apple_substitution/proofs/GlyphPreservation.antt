-- Noncontextual, contextual and ligature subtables preserve clusters and flags: glyphs alone change, and the clusters of a ligature
-- merge.
use Prim.Native.Nat.{zero}
use Rattle.std.proofs.Common.{ℕ, suc, ◌+◌, ◌-◌, ◌%◌, Bool, true, false, List, Option, Some, None, map, min, length, nat_eq, nat_lt, refl, if◌then◌else◌}
use Rattle.std.specs.Option.{option_map_or}
use Rattle.shape_common.specs.declared.text_types.BufferClusterLevel.{BufferClusterLevel}
use Rattle.shape_common.specs.declared.text_types.BufferClusterLevel.TheVariants.{MonotoneGraphemes, MonotoneCharacters, Characters}
use Rattle.shape_items.specs.Buffer.{Buffer}
use Rattle.shape_items.specs.Items.{Item}
use Rattle.shape_buffer.specs.Walks.{items_mapped}
use Rattle.shape_items.proofs.Order.PreservesClusterLemmas.{clusters-map}
use Rattle.shape_items.proofs.Merging.KeyLemmas.{keys-map}
use Rattle.layout_tables.specs.Gdef.{has_glyph_classes, glyph_props}
use Rattle.apple_tables.specs.declared.states.Entry.{Entry}
use Rattle.apple_substitution.specs.Contextual as contextual_rules
use Rattle.apple_substitution.specs.Contextual.{Source, current_index, current_replaced, glyph_in, glyph_put, is_idle, mark_index, mark_put, mark_replaced}
use Rattle.apple_substitution.specs.Driver.{Spot}
use Rattle.apple_substitution.specs.Edits.{broken, charged, item_at, merged}
use Rattle.apple_substitution.specs.Glyphs.{glyph_by, replaced, with_class}
use Rattle.apple_substitution.specs.Ligature as ligature_rules
use Rattle.apple_substitution.specs.Ligature.{Popped, acted, added, component_of, deleted, deleted_at, deleted_from, end_of, first_of, first_pop}
use Rattle.apple_substitution.specs.Ligature.{ligated, ligature_at, ligature_of, long_in, out_merged, over, performed, performs, place_in, popped}
use Rattle.apple_substitution.specs.Ligature.{popped_one, stack_after, stored, STORES}
use Rattle.apple_substitution.specs.Noncontextual.{all_substituted_by, substituted_by}
use Rattle.apple_substitution.specs.Ranges.{STEP_WORK, is_on, shares, walk_work}
use Rattle.apple_substitution.specs.declared.contextual.Mark.{Mark}
use Rattle.apple_substitution.specs.declared.ligature.Popping.{Popping}
use Rattle.apple_substitution.specs.declared.ligature.Stack.{Stack}
use Rattle.apple_substitution.specs.declared.ranges.FlagRange.{FlagRange}
use Rattle.apple_substitution.proofs.PreservedLemmas.{IsLike, Preserves, Preserves-alike, Preserves-broken, Preserves-charged, Preserves-merged}
use Rattle.apple_substitution.proofs.PreservedLemmas.{Preserves-paid, Preserves-put, Preserves-same, Preserves-then}

-- ---- a glyph in place of another

like-replaced : (gdef : List ℕ) (glyph : ℕ) (item : Item) → IsLike item (replaced gdef glyph item)
like-replaced gdef glyph item =
    let other : Item = record item { glyph_id = glyph } in
    elim (has_glyph_classes gdef) as (λ t. IsLike item (if t then with_class (glyph_props gdef glyph) other else other)) [
      | true ↦ record { cluster = refl; mask = refl }
      | false ↦ record { cluster = refl; mask = refl }
    ]

option-like : (gdef : List ℕ) (item : Item) (o : Option ℕ) → IsLike item (option_map_or (λ glyph. replaced gdef glyph item) o item)
option-like gdef item None = record { cluster = refl; mask = refl }
option-like gdef item (Some glyph) = like-replaced gdef glyph item

option-preserves : (b : Buffer) (f : ℕ → Buffer) (o : Option ℕ) → ((n : ℕ) → Preserves b (f n)) → Preserves b (option_map_or f o b)
option-preserves b f None each = Preserves-same b
option-preserves b f (Some n) each = each n

-- ---- noncontextual subtables

like-substituted : (s : Source) (ranges : List FlagRange) (wanted : ℕ) (item : Item) → IsLike item (substituted_by s ranges wanted item)
unfolding substituted_by
like-substituted s ranges wanted item =
    let there : Item = option_map_or (λ glyph. replaced s.gdef glyph item) (glyph_by s.morx s.start s.glyphs item.glyph_id) item in
    elim (is_on ranges wanted item.cluster) as (λ t. IsLike item (if t then there else item)) [
      | true ↦ option-like s.gdef item (glyph_by s.morx s.start s.glyphs item.glyph_id)
      | false ↦ record { cluster = refl; mask = refl }
    ]

mapped-preserves : (f : Item → Item) → ((x : Item) → IsLike x (f x)) → (b : Buffer) → Preserves b (items_mapped f b)
unfolding items_mapped
mapped-preserves f like b =
    Preserves-alike b (map f b.items) b.positions (clusters-map f (λ x. (like x).cluster) b.items)
    (keys-map (λ (x : Item). x.mask) f (λ x. (like x).mask) b.items)

pub substituted-preserves : (s : Source) (ranges : List FlagRange) (wanted : ℕ) (b : Buffer)
    → Preserves b (all_substituted_by s ranges wanted b)
unfolding all_substituted_by
substituted-preserves s ranges wanted b =
    let work : ℕ = walk_work (length ranges) b in
    Preserves-paid (nat_lt b.max_ops work) work b (items_mapped (substituted_by s ranges wanted) (charged work b))
    (mapped-preserves (substituted_by s ranges wanted) (like-substituted s ranges wanted) (charged work b))

-- ---- contextual subtables

put-preserves : (c : Source) (at glyph : ℕ) (b : Buffer) → Preserves b (glyph_put c at glyph b)
put-preserves c at glyph b =
    Preserves-put at (replaced c.gdef glyph (item_at b at)) b (like-replaced c.gdef glyph (item_at b at))

mark_put-preserves : (c : Source) (mark next glyph : ℕ) (b : Buffer) → Preserves b (mark_put c mark next glyph b)
mark_put-preserves c mark next glyph b =
    let work : ℕ = next - mark in
    let there : Buffer = broken mark next (charged work b) in
    Preserves-paid (nat_lt b.max_ops work) work b (glyph_put c mark glyph there)
    (Preserves-then (charged work b) there (glyph_put c mark glyph there) (Preserves-broken mark next (charged work b))
    (put-preserves c mark glyph there))

marked-preserves : (c : Source) (e : Entry) (mark next : ℕ) (b : Buffer) → Preserves b (mark_replaced c e mark next b)
marked-preserves c e mark next b =
    option-preserves b (λ glyph. mark_put c mark next glyph b) (glyph_in c (mark_index c.morx e) (item_at b mark).glyph_id)
    (λ glyph. mark_put-preserves c mark next glyph b)

current-preserves : (c : Source) (e : Entry) (at : ℕ) (b : Buffer) → Preserves b (current_replaced c e at b)
current-preserves c e at b =
    option-preserves b (λ glyph. glyph_put c at glyph b) (glyph_in c (current_index c.morx e) (item_at b at).glyph_id)
    (λ glyph. put-preserves c at glyph b)

context-acted : (c : Source) (e : Entry) (s : Spot Mark) → Preserves s.buffer (contextual_rules.acted c e s).buffer
context-acted c e s =
    let count : ℕ = length s.buffer.items in
    let there : Buffer = mark_replaced c e s.memory.place (min (s.at + 1) count) s.buffer in
    Preserves-then s.buffer there (current_replaced c e (min s.at (count - 1)) there)
    (marked-preserves c e s.memory.place (min (s.at + 1) count) s.buffer) (current-preserves c e (min s.at (count - 1)) there)

pub context-preserves : (c : Source) (e : Entry) (s : Spot Mark) → Preserves s.buffer ((contextual_rules.actions c).transition e s).buffer
context-preserves c e s =
    elim (is_idle (nat_eq s.at (length s.buffer.items)) s.memory) as
    (λ t. Preserves s.buffer (if t then s else contextual_rules.acted c e s).buffer) [
      | true ↦ Preserves-same s.buffer
      | false ↦ context-acted c e s
    ]

-- ---- ligatures

deleted-preserves : (at : ℕ) (b : Buffer) → Preserves b (deleted_at at b)
deleted-preserves at b = Preserves-put at (deleted (item_at b at)) b (record { cluster = refl; mask = refl })

deleted_all-preserves : (places : List ℕ) (k n : ℕ) (b : Buffer) → Preserves b (deleted_from places k n b)
deleted_all-preserves places k zero b = Preserves-same b
deleted_all-preserves places k (suc n) b =
    let there : Buffer = deleted_at (place_in places k) b in
    Preserves-then b there (deleted_from places (k + 1) n there) (deleted-preserves (place_in places k) b)
    (deleted_all-preserves places (k + 1) n there)

out_merged-preserves : (start end : ℕ) (b : Buffer) → Preserves b (out_merged start end b)
out_merged-preserves start end b = at_level b.cluster_level
  where
    at_level : (level : BufferClusterLevel) → Preserves b (elim level as (λ v. Buffer) [
      | MonotoneGraphemes ↦ merged start end b
      | MonotoneCharacters ↦ merged start end b
      | Characters ↦ b
    ])
    at_level MonotoneGraphemes = Preserves-merged start end b
    at_level MonotoneCharacters = Preserves-merged start end b
    at_level Characters = Preserves-same b

ligature-put : (at glyph : ℕ) (b : Buffer) → Preserves b (ligature_at at glyph b)
ligature-put at glyph b = Preserves-put at (record (item_at b at) { glyph_id = glyph }) b (record { cluster = refl; mask = refl })

ligated-preserves : (places : List ℕ) (glyph : ℕ) (p : Popping) (b : Buffer) → Preserves b (ligated places glyph p b)
unfolding ligated
ligated-preserves places glyph p b =
    let put : Buffer = ligature_at (first_of places p) glyph b in
    let lost : Buffer = deleted_from places p.cursor (p.count - p.cursor) put in
    Preserves-then b lost (out_merged (first_of places p) (end_of places p b) lost)
    (Preserves-then b put lost (ligature-put (first_of places p) glyph b)
    (deleted_all-preserves places p.cursor (p.count - p.cursor) put))
    (out_merged-preserves (first_of places p) (end_of places p b) lost)

popped-if : (t : Bool) (b : Buffer) (x y : Popped) → Preserves b x.buffer → Preserves b y.buffer → Preserves b (if t then x else y).buffer
popped-if true b x y k m = k
popped-if false b x y k m = m

popped-option : (b : Buffer) (p : Popping) (f : ℕ → Popped) (o : Option ℕ) → ((n : ℕ) → Preserves b (f n).buffer)
    → Preserves b (option_map_or f o (over p b)).buffer
popped-option b p f None each = Preserves-same b
popped-option b p f (Some n) each = each n

stored-preserves : (places : List ℕ) (action glyph : ℕ) (p : Popping) (b : Buffer) → Preserves b (stored places action glyph p b).buffer
stored-preserves places action glyph p b =
    let work : ℕ = end_of places p b - first_of places p in
    let paid : Buffer = charged work b in
    popped-if (nat_lt b.max_ops work) b (over p paid) _ (Preserves-charged work b)
    (Preserves-then b paid (ligated places glyph p paid) (Preserves-charged work b) (ligated-preserves places glyph p paid))

added-preserves : (t : List ℕ) (start : ℕ) (places : List ℕ) (action number : ℕ) (p : Popping) (b : Buffer)
    → Preserves b (added t start places action number p b).buffer
unfolding added
added-preserves t start places action number p b =
    let q : Popping = record p { sum = (p.sum + number) % 0x100000000 } in
    popped-if (shares action STORES) b (option_map_or (λ glyph. stored places action glyph q b) (ligature_of t start q.sum) (over q b)) _
    (popped-option b q (λ glyph. stored places action glyph q b) (ligature_of t start q.sum)
    (λ glyph. stored-preserves places action glyph q b))
    (Preserves-same b)

popped_one-preserves : (t : List ℕ) (start : ℕ) (places : List ℕ) (s : Popped) → Preserves s.buffer (popped_one t start places s).buffer
unfolding popped_one
popped_one-preserves t start places s =
    let b : Buffer = charged STEP_WORK s.buffer in
    let there : ℕ → Popped = λ action. acted t start places action s.popping b in
    popped-if (nat_lt s.buffer.max_ops STEP_WORK) s.buffer (over s.popping b)
    (option_map_or there (long_in t s.popping.action) (over s.popping b)) (Preserves-charged STEP_WORK s.buffer)
    (Preserves-then s.buffer b _ (Preserves-charged STEP_WORK s.buffer)
    (popped-option b s.popping there (long_in t s.popping.action) (λ action.
    popped-option b s.popping (λ number. added t start places action number s.popping b)
    (component_of t start action (item_at b (first_of places s.popping)).glyph_id)
    (λ number. added-preserves t start places action number s.popping b))))

popped-preserves : (t : List ℕ) (start : ℕ) (places : List ℕ) (n : ℕ) (s : Popped) → Preserves s.buffer (popped t start places n s).buffer
popped-preserves t start places zero s = Preserves-same s.buffer
popped-preserves t start places (suc n) s =
    let next : Popped = if s.popping.has_ended then s else popped_one t start places s in
    Preserves-then s.buffer next.buffer (popped t start places n next).buffer
    (popped-if s.popping.has_ended s.buffer s (popped_one t start places s) (Preserves-same s.buffer)
    (popped_one-preserves t start places s))
    (popped-preserves t start places n next)

pub ligature-preserves : (t : List ℕ) (start : ℕ) (e : Entry) (s : Spot Stack)
    → Preserves s.buffer ((ligature_rules.actions t start).transition e s).buffer
ligature-preserves t start e s =
    let stack : Stack = stack_after e s.at s.memory in
    let left : Spot Stack = record { buffer = s.buffer; at = s.at; memory = stack } in
    elim (performs e s.at s.buffer) as
    (λ u. Preserves s.buffer (if u then ligature_rules.spot_after s.at stack (performed t start e stack s.buffer) else left).buffer) [
      | true ↦ popped-preserves t start stack.places stack.count (record { buffer = s.buffer; popping = first_pop t start e stack })
      | false ↦ Preserves-same s.buffer
    ]
