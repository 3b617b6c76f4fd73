-- Chains of the table morx (TrueType Reference Manual, "The 'morx' table"): the flags of a chain by the features that are asked for
-- and by the language of the text, and how a subtable of it runs.
use Prim.Native.Nat.{zero}
use Rattle.std.specs.Prelude.{ℕ, pos, suc, List, Bool, ◌+◌, ◌&&◌, ◌||◌, not, nat_eq, if◌then◌else◌}
use Rattle.std.specs.Int.RustNames.{bit_and, bit_or}
use Rattle.std.specs.List.{list_any}
use Rattle.shape_common.specs.Direction.{is_backward, is_vertical}
use Rattle.shape_buffer.specs.PositionWalks.{positions_mapped}
use Rattle.shape_common.specs.declared.positions.GlyphPosition.{GlyphPosition}
use Rattle.shape_common.specs.declared.text_types.Direction.{Direction}
use Rattle.shape_font.specs.Bytes.{u16_of, u32_of, fitting}
use Rattle.shape_items.specs.Buffer.{Buffer}
use Rattle.shape_items.specs.Delete.{deleted}
use Rattle.shape_items.specs.Items.{Item}
use Rattle.apple_tables.specs.declared.states.TheConstants.{DELETED_GLYPH}
use Rattle.apple_substitution.specs.Languages.{Spoken, is_spoken}
use Rattle.apple_substitution.specs.Ranges.{shares}
use Rattle.apple_substitution.specs.declared.chains.Feature.{Feature}

-- ---- the flags of a chain

abbrev pub is_feature : ℕ → ℕ → Feature → Bool
is_feature kind setting feature = nat_eq feature.kind kind && nat_eq feature.setting setting

abbrev pub is_requested : List Feature → ℕ → ℕ → Bool
is_requested features kind setting = list_any (is_feature kind setting) features

-- small capitals were setting 3 of type 3 ("letter case"), and are setting 1 of type 37 ("lower case")
abbrev pub are_capitals : ℕ → ℕ → Bool
are_capitals kind setting = nat_eq kind 3 && nat_eq setting 3

-- and the settings of type 39 are languages, of which those of the text are on
abbrev pub LANGUAGE : ℕ
LANGUAGE = 39

abbrev pub is_on : Spoken → List Feature → ℕ → ℕ → Bool
is_on l features kind setting = is_requested features kind setting
    || (are_capitals kind setting && is_requested features 37 1)
    || (nat_eq kind LANGUAGE && is_spoken l setting)

-- an entry has a type, a setting, the flags that it sets, and those that it leaves
abbrev pub flags_after : List ℕ → Spoken → List Feature → ℕ → ℕ → ℕ
flags_after t l features at flags = if is_on l features (u16_of t at) (u16_of t (at + 2))
    then bit_or (bit_and flags (u32_of t (at + 8))) (u32_of t (at + 4))
    else flags

-- n entries from a place on
abbrev pub flags_from : List ℕ → Spoken → List Feature → ℕ → ℕ → ℕ → ℕ
flags_from t l features at zero flags = flags
flags_from t l features at (suc n) flags = flags_from t l features (at + 12) n (flags_after t l features at flags)

-- a chain begins with its flags as they are by themselves, its length, and how many entries of features follow, and subtables
abbrev pub entry_count : List ℕ → ℕ → ℕ
entry_count t chain = fitting t (u32_of t (chain + 8)) (chain + 16) 12

unfoldable pub chain_flags : List ℕ → Spoken → List Feature → ℕ → ℕ
chain_flags t l features chain = flags_from t l features (chain + 16) (entry_count t chain) (u32_of t chain)

-- ---- how a subtable runs

-- bits of its coverage: it runs over text of any direction (0x20000000), else over vertical text alone (0x80000000), or over
-- horizontal text alone
abbrev pub covers : ℕ → Direction → Bool
covers coverage direction = shares coverage 0x20000000
    || (if is_vertical direction then shares coverage 0x80000000 else not (shares coverage 0x80000000))

-- its glyphs come in the order of the text (0x10000000), else in that of the line; backwards (0x40000000) they come in the other
-- order. The glyphs of a list are in the order of the text
abbrev pub is_reversed : ℕ → Direction → Bool
is_reversed coverage direction = let is_backwards = shares coverage 0x40000000 in
    (if shares coverage 0x10000000 || not (is_backward direction) then is_backwards else not is_backwards)

-- ---- deleted glyphs

abbrev pub is_deleted : Item → Bool
is_deleted item = nat_eq item.glyph_id DELETED_GLYPH

abbrev pub without_deleted : Buffer → Buffer
without_deleted = deleted is_deleted

-- one that stays to the end has no advances and no offsets; what it is attached to stays
abbrev pub narrowed : Item → GlyphPosition → GlyphPosition
narrowed item p = if is_deleted item then record p { x_advance = pos 0; y_advance = pos 0; x_offset = pos 0; y_offset = pos 0 } else p

abbrev pub deleted_narrowed : Buffer → Buffer
deleted_narrowed = positions_mapped narrowed
