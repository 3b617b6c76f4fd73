-- calls of the engine pay for what they try, and so do calls one after the other
use Prim.Native.Nat.{zero}
use Rattle.std.proofs.Common.{◌≡◌, ℕ, suc, List, [], ◌∷◌, ◌++◌, Bool, true, false, Option, Some, None, slice_set, ◌+◌, ◌*◌, ◌≤◌, ◌==◌, if◌then◌else◌, fold, length, min, nat_eq, nat_lt, nat_le, refl, ap, ◌∙◌, arith}
use Rattle.std.specs.Prelude.{All}
use Rattle.std.proofs.lemmas.List.Elements.{All-nil, All-cons, All-append}
use Rattle.std.specs.Int.RustNames.{bit_and}
use Rattle.std.specs.Option.{option_map, option_map_or}
use Rattle.shape_common.specs.Direction.{is_horizontal, is_backward}
use Rattle.shape_common.specs.FlagNames.{PRODUCE_UNSAFE_TO_CONCAT}
use Rattle.shape_common.specs.declared.positions.GlyphPosition.{GlyphPosition}
use Rattle.shape_items.proofs.Merging.KeyLemmas.{without_items-unsafe_to_break}
use Rattle.shape_items.specs.Buffer.{Buffer, run_ops}
use Rattle.shape_items.specs.BufferClusters.{unsafe_to_break, unsafe_to_concat, with_glyph_flags}
use Rattle.shape_items.specs.Clusters.{map_range, mark_concat}
use Rattle.shape_buffer.specs.Preservation.{EachLookup}
use Rattle.shape_buffer.specs.Walks.{items_mapped}
use Rattle.shape_buffer.specs.PositionWalks.{positions_mapped}
use Rattle.shape_common.specs.declared.text_types.Feature.{Feature}
use Rattle.apple_positioning.proofs.KernPreservation.{kern-preserves}
use Rattle.apple_positioning.proofs.KerxPreservation.{kerx-preserves}
use Rattle.apple_positioning.proofs.TrakPreservation.{trak-preserves}
use Rattle.apple_substitution.proofs.DeletedLemmas.{without_deleted-left}
use Rattle.apple_substitution.proofs.MorxPreservation.{morx-preserves}
use Rattle.apple_substitution.specs.Chains.{deleted_narrowed}
use Rattle.apple_substitution.specs.Substitution.{Font, language_of, source_for, substituted}
use Rattle.layout_context.proofs.TriesLemmas as context
use Rattle.layout_context.specs.Tries.{Substitutes}
use Rattle.layout_map.specs.Map.{OtMap}
use Rattle.layout_map.specs.Stages as stages
use Rattle.layout_map.specs.declared.lookups.LookupMap.{LookupMap}
use Rattle.layout_matching.specs.declared.lookup.Lookup.{Lookup}
use Rattle.layout_positions.proofs.StepLemmas.{step-finished}
use Rattle.layout_positions.proofs.TriesLemmas as positions
use Rattle.layout_positions.specs.Attachment.{offsets_finished}
use Rattle.layout_positions.specs.Edits.{broken, concat_marked, position_put}
use Rattle.layout_positions.specs.Walk.{started}
use Rattle.layout_tables.specs.Lookups as tables
use Rattle.opentype_layout.specs.Apple.{morx_of, kerx_of, kern_of}
use Rattle.opentype_layout.specs.Classes.{glyphs_begun}
use Rattle.opentype_layout.specs.Engine.{gsub_tables, gpos_tables, positioned_by, opentype_lookups}
use Rattle.opentype_layout.specs.Lookups.{lookup_at, with_lookup, lookups_of}
use Rattle.opentype_layout.specs.Tries.{Call, stage_call, position_call, made_by, tries_by, Pays, EachPays, NeverRaises}
use Rattle.opentype_layout.specs.declared.face.OpenTypeFace.{OpenTypeFace}
use Rattle.opentype_layout.specs.declared.lookups.LookupTables.{LookupTables}

-- ---- stages and positioning

-- the lookups of a stage are lookups of `GSUB`
substitutes : (t : LookupTables) → t.positioning ≡ false → (maps : List LookupMap) (acc : List Lookup) → All Substitutes acc
    → All Substitutes (fold (with_lookup t) acc maps)
substitutes t kind [] acc all = all
substitutes t kind (m ∷ maps) acc all = substitutes t kind maps (with_lookup t acc m) (one (tables.lookup_of t.table.now m.index))
  where
    one : (o : Option ℕ) → All Substitutes (option_map_or (λ l. acc ++ l ∷ []) (option_map (lookup_at t m) o) acc)
    one None = all
    one (Some place) =
        All-append Substitutes acc (lookup_at t m place ∷ []) all
        (All-cons Substitutes (lookup_at t m place) [] kind (All-nil Substitutes))

pub stage-pays : (m : OtMap) (f : OpenTypeFace) (i : ℕ) → Pays (stage_call m f i)
stage-pays m f i =
    context.tries-paid (lookups_of (gsub_tables f) (stages.lookups_of m.gsub i))
    (substitutes (gsub_tables f) refl (stages.lookups_of m.gsub i) [] (All-nil Substitutes))

pub position-pays : (m : OtMap) (f : OpenTypeFace) → Pays (position_call m f)
unfolding positioned_by
position-pays m f = positions.tries-paid (lookups_of (gpos_tables f) m.gpos)

-- ---- what is left stays

abbrev SameWork : Buffer → Buffer → Type 0
SameWork b c = c.max_ops ≡ b.max_ops

same-if : (t : Bool) (b c d : Buffer) → SameWork b c → SameWork b d → SameWork b (if t then c else d)
same-if true b c d x y = x
same-if false b c d x y = y

same-break : (start end : ℕ) (b : Buffer) → SameWork b (unsafe_to_break start end b)
same-break start end b = ap (λ (c : Buffer). c.max_ops) (without_items-unsafe_to_break start end b)

same-concat : (start end : ℕ) (b : Buffer) → SameWork b (unsafe_to_concat start end b)
same-concat start end b =
    same-if (bit_and b.flags.0 PRODUCE_UNSAFE_TO_CONCAT == PRODUCE_UNSAFE_TO_CONCAT) b
    (record (with_glyph_flags b) { items = map_range mark_concat start end b.items }) b refl refl

same-broken : (start end : ℕ) (b : Buffer) → SameWork b (broken start end b)
same-broken start end b =
    let last = min end (length b.items) in
    same-if (nat_le start last) b (unsafe_to_break start last b) b (same-break start last b) refl

same-concat_marked : (start end : ℕ) (b : Buffer) → SameWork b (concat_marked start end b)
same-concat_marked start end b =
    let last = min end (length b.items) in
    same-if (nat_le start last) b (unsafe_to_concat start last b) b (same-concat start last b) refl

same-put : (i : ℕ) (p : GlyphPosition) (b : Buffer) → SameWork b (position_put i p b)
same-put i p b = same-if (nat_lt i (length b.items)) b (record b { positions = slice_set b.positions i p }) b refl refl

same-finished : (b : Buffer) → SameWork b (offsets_finished b)
same-finished = step-finished SameWork (λ b. refl) (λ a b c first later. later ∙ first) same-broken same-concat_marked same-put

-- ---- no call raises what is left

stays : (b c : Buffer) → SameWork b c → c.max_ops ≤ b.max_ops
stays b c same = omega (arith, same)

paid-less : (n : ℕ) (b c : Buffer) → n + c.max_ops ≤ b.max_ops → c.max_ops ≤ b.max_ops
paid-less n b c paid = omega (arith, paid)

same-begun : (gdef : List ℕ) (b : Buffer) → SameWork b (glyphs_begun gdef b)
unfolding glyphs_begun items_mapped
same-begun gdef b = refl

same-started : (b : Buffer) → SameWork b (started b)
unfolding positions_mapped
same-started b = refl

less-substituted : (s : Font) (features : List Feature) → NeverRaises (substituted s features)
unfolding substituted
less-substituted s features b = (morx-preserves (source_for s features (language_of b)) b).left

same-narrowed : (b : Buffer) → SameWork b (deleted_narrowed b)
unfolding positions_mapped
same-narrowed b = refl

pub never-raises : (m : OtMap) (f : OpenTypeFace) → EachLookup NeverRaises (opentype_lookups m f)
never-raises m f = record {
  substitute_start = λ b. stays b (glyphs_begun f.gdef.now b) (same-begun f.gdef.now b);
  stage = λ i b. paid-less ((stage_call m f i).tries b) b ((stage_call m f i).makes b) (stage-pays m f i b);
  aat_substitute = λ features. less-substituted (morx_of f) features;
  aat_remove_deleted = without_deleted-left;
  aat_zero_width_deleted = λ b. stays b (deleted_narrowed b) (same-narrowed b);
  position_start = λ b. stays b (started b) (same-started b);
  position = λ b. paid-less ((position_call m f).tries b) b ((position_call m f).makes b) (position-pays m f b);
  position_finish_advances = λ b. omega arith;
  position_finish_offsets = λ b. stays b (offsets_finished b) (same-finished b);
  aat_position = λ mask b. (kerx-preserves (kerx_of f mask) b).left;
  kern = λ mask b. (kern-preserves (kern_of f mask) b).left;
  aat_track = λ mask b. (trak-preserves f.font.apple.trak.now f.scale f.font.points mask b).left;
}

-- ---- one call after the other

pub in-turn : (calls : List Call) → EachPays calls → (b : Buffer) → tries_by calls b + (made_by calls b).max_ops ≤ b.max_ops
in-turn [] each b = omega arith
in-turn (call ∷ calls) each b =
    let first = each.0 b in
    let later = in-turn calls each.1 (call.makes b) in
    omega (arith, first, later)

pub work-of : (n : ℕ) → 64 ≤ n → run_ops n ≤ n * 40960
work-of n many = omega (arith, many)
