-- The forms of Thai at private characters, which fonts without GSUB have.
use Rattle.std.specs.Prelude.{ℕ, zero, suc, ◌==◌, ◌&&◌, ◌||◌, nat_le, Bool, true, false, if◌then◌else◌, Option, None, Some, is_some, is_none, not}
use Rattle.std.specs.Prelude.{List, length, min, drop, set, slice_get, slice_index_or}
use Rattle.std.specs.List.{find}
use Rattle.std.specs.Option.{option_map}
use Rattle.shape_common.specs.Face.{FaceMeaning}
use Rattle.shape_items.specs.Buffer.{Buffer}
use Rattle.shape_items.specs.BufferClusters.{unsafe_to_break}
use Rattle.shape_items.specs.Items.{Item, new_item}
use Rattle.shape_common.specs.declared.text_types.Script.{Script}
use Rattle.shape_common.specs.declared.text_types.hb_tag_t.{hb_tag_t}
use Rattle.script_shapers.specs.Thai.{sara_am_parted}
use Rattle.script_shapers.specs.declared.thai.forms.Mark.{Mark}
use Rattle.script_shapers.specs.declared.thai.forms.Mark.TheVariants as mark
use Rattle.script_shapers.specs.declared.thai.forms.Above.{Above}
use Rattle.script_shapers.specs.declared.thai.forms.Above.TheVariants as above
use Rattle.script_shapers.specs.declared.thai.forms.Below.{Below}
use Rattle.script_shapers.specs.declared.thai.forms.Below.TheVariants as below
use Rattle.script_shapers.specs.declared.thai.forms.Action.{Action}
use Rattle.script_shapers.specs.declared.thai.forms.Action.TheVariants as action
use Rattle.script_shapers.specs.declared.thai.forms.Walk.{Walk}
use Rattle.script_shapers.specs.declared.thai.forms.TheConstants.{DOWN, DOWN_LEFT, LEFT, NO_DESCENDER}

-- vowels above, vowels below, tone marks
abbrev pub mark_of : ℕ → Option Mark
mark_of c =
    if (c == 0xE31) || (nat_le 0xE34 c && nat_le c 0xE37) || (c == 0xE47) || (nat_le 0xE4D c && nat_le c 0xE4E)
    then Some mark.Above
    else (if nat_le 0xE38 c && nat_le c 0xE3A then Some mark.Below
    else (if nat_le 0xE48 c && nat_le c 0xE4C then Some mark.Tone else None))

abbrev pub is_letter : ℕ → Bool
is_letter c = nat_le 0xE01 c && nat_le c 0xE2E

-- letters with an ascender
abbrev pub above_start : ℕ → Above
above_start c =
    if (c == 0xE1B) || (c == 0xE1D) || (c == 0xE1F) then above.Ascender else (if is_letter c then above.Nothing else above.Full)

-- letters whose descender can be left out, and those whose can't
abbrev pub below_start : ℕ → Below
below_start c =
    if (c == 0xE0D) || (c == 0xE10) then below.Removable
    else (if (c == 0xE0E) || (c == 0xE0F) then below.Full else (if is_letter c then below.Nothing else below.Full))

abbrev pub above_action : Above → Mark → Action
above_action above.Nothing mark.Tone = action.Down
above_action above.Ascender mark.Above = action.Left
above_action above.Ascender mark.Tone = action.DownLeft
above_action above.Beside mark.Tone = action.Left
above_action _ _ = action.Nothing

abbrev pub on_top : Above → Above
on_top above.Ascender = above.Beside
on_top _ = above.Full

abbrev pub above_after : Above → Mark → Above
above_after a mark.Below = a
above_after a _ = on_top a

abbrev pub below_action : Below → Mark → Action
below_action below.Removable mark.Below = action.Descender
below_action below.Full mark.Below = action.Down
below_action _ _ = action.Nothing

abbrev pub below_after : Below → Mark → Below
below_after b mark.Below = below.Full
below_after b _ = b

abbrev pub action_or : Action → Action → Action
action_or action.Nothing other = other
action_or a other = a

abbrev pub action_of : Walk → Mark → Action
action_of walk m = action_or (above_action walk.above m) (below_action walk.below m)

-- ---- forms

abbrev pub Forms : Type 0
Forms = ℕ × ℕ × ℕ

abbrev pub same : Forms → Forms
same entry = entry

abbrev pub listed : List Forms → ℕ → Option Forms
listed forms c = option_map same (find (λ (entry : Forms). entry.0 == c) forms)

abbrev pub forms_of : Action → ℕ → Option Forms
forms_of action.Nothing c = None
forms_of action.Down c = listed DOWN c
forms_of action.Left c = listed LEFT c
forms_of action.DownLeft c = listed DOWN_LEFT c
forms_of action.Descender c = listed NO_DESCENDER c

-- that of Windows, that of Macintosh, or the character itself
abbrev pub first_of : FaceMeaning → Forms → ℕ
first_of face forms =
    if is_some (face.nominal_glyph forms.1) then forms.1
    else (if is_some (face.nominal_glyph forms.2) then forms.2 else forms.0)

abbrev pub form_or : FaceMeaning → ℕ → Option Forms → ℕ
form_or face c None = c
form_or face c (Some forms) = first_of face forms

abbrev pub form_of : FaceMeaning → Action → ℕ → ℕ
form_of face a c = form_or face c (forms_of a c)

-- ---- a text

-- the letter loses its descender; every other action is one on the mark
abbrev pub place_of : Action → ℕ → ℕ → ℕ
place_of action.Descender base i = min base i
place_of _ base i = i

abbrev pub walk_from : ℕ → ℕ → Walk
walk_from c i = record { above = above_start c; below = below_start c; base = i }

abbrev pub walk_over : Walk → Mark → Walk
walk_over walk m = record { above = above_after walk.above m; below = below_after walk.below m; base = walk.base }

abbrev pub is_no_mark : Option Item → Bool
is_no_mark None = true
is_no_mark (Some item) = is_none (mark_of item.codepoint)

-- no mark comes after the first item
abbrev pub ends_marks : List Item → Bool
ends_marks rest = is_no_mark (slice_get rest 1)

-- a letter and its marks, up to the last one, are unsafe to break
abbrev pub marks_spanned : ℕ → ℕ → Buffer → Buffer
marks_spanned base i b = if ends_marks (drop i b.items) then unsafe_to_break (min base i) i b else b

abbrev pub item_at : List Item → ℕ → Item
item_at items i = slice_index_or items i (new_item 0 0)

abbrev pub item_formed : FaceMeaning → Action → Item → Item
item_formed face a item = record item { codepoint = form_of face a item.codepoint }

abbrev pub char_formed : FaceMeaning → Action → ℕ → Buffer → Buffer
char_formed face a place b = record b { items = set b.items place (item_formed face a (item_at b.items place)) }

-- a mark, or its letter, in its form
abbrev pub mark_formed : FaceMeaning → Walk → Mark → ℕ → Buffer → Buffer
mark_formed face walk m i b = char_formed face (action_of walk m) (place_of (action_of walk m) walk.base i) (marks_spanned walk.base i b)

abbrev pub formed_by : FaceMeaning → Walk → Option Mark → ℕ → Buffer → Buffer
formed_by face walk None i b = b
formed_by face walk (Some m) i b = mark_formed face walk m i b

abbrev pub walk_by : Walk → Option Mark → ℕ → ℕ → Walk
walk_by walk None c i = walk_from c i
walk_by walk (Some m) c i = walk_over walk m

-- the item at a place, and where a walk stands after it
abbrev pub formed_at : FaceMeaning → Walk → ℕ → Buffer → Buffer
formed_at face walk i b = formed_by face walk (mark_of (item_at b.items i).codepoint) i b

abbrev pub walk_at : Walk → ℕ → Buffer → Walk
walk_at walk i b = walk_by walk (mark_of (item_at b.items i).codepoint) (item_at b.items i).codepoint i

-- before the first letter marks stay as they are above, and move down below
abbrev pub begun_walk : Walk
begun_walk = record { above = above.Full; below = below.Full; base = 0 }

abbrev pub formed_next : FaceMeaning → ℕ → Buffer × Walk → Buffer × Walk
formed_next face i (b, walk) = (formed_at face walk i b, walk_at walk i b)

abbrev pub formed_to : FaceMeaning → ℕ → Buffer → Buffer × Walk
formed_to face zero b = (b, begun_walk)
formed_to face (suc i) b = formed_next face i (formed_to face i b)

abbrev pub forms_put : FaceMeaning → Buffer → Buffer
forms_put face b = (formed_to face (length b.items) b).0

-- ---- when they are due

-- a script of GSUB stands for Thai if it is none of those that stand for any (DFLT, dflt, latn)
abbrev pub is_own : Option hb_tag_t → Bool
is_own None = false
is_own (Some tag) = not ((tag.0 == 0x44464C54) || (tag.0 == 0x64666C74) || (tag.0 == 0x6C61746E))

abbrev pub is_thai : Option Script → Bool
is_thai None = false
is_thai (Some script) = script.0.0 == 0x54686169

-- in Thai, if the font has no GSUB for it
abbrev pub forms_due : Option Script → Option hb_tag_t → Bool
forms_due script chosen = is_thai script && not (is_own chosen)

-- the text with each SARA AM in its parts, and with its forms if they are due
abbrev pub thai_text : Bool → FaceMeaning → Buffer → Buffer
thai_text due face b = if due then forms_put face (sara_am_parted b) else sara_am_parted b
