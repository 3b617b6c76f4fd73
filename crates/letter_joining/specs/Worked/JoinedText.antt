-- Texts whose letters join: the forms of their letters, and the flags of their glyphs, worked out by hand.
use Rattle.std.specs.Prelude.{◌≡◌, ℕ, suc, Bool, true, false, None, Some, List, [], ◌∷◌, map, refl}
use Rattle.ucd_bidi.specs.JoiningType.{joining_type}
use Rattle.ucd_bidi.specs.JoiningGroup.{joining_group}
use Rattle.ucd_bidi.specs.JoiningTypeRows.{joining_type_rows}
use Rattle.ucd_bidi.specs.JoiningGroupRows.{joining_group_rows}
use Rattle.ucd_table.specs.Rows.{value_in}
use Rattle.shape_common.specs.declared.flags.BufferFlags.{BufferFlags}
use Rattle.shape_items.specs.Buffer.{Buffer, new_buffer}
use Rattle.shape_items.specs.Items.{Item, new_item}
use Rattle.letter_joining.specs.Features.{is_mongolian}
use Rattle.letter_joining.specs.Joining.{is_selector}
use Rattle.letter_joining.specs.declared.joining.Kind.TheVariants as kind
use Rattle.letter_joining.specs.declared.joining.State.TheVariants as state
use Rattle.letter_joining.specs.Forms.{formed, mask_list, masks_by}
use Rattle.letter_joining.specs.Flags.{joins_back, marked, may_change as may_change_after}
use Rattle.letter_joining.specs.declared.forms.FormMasks.{FormMasks}

-- a mask of its own for each form
abbrev pub isol : ℕ
isol = 8

abbrev pub fina : ℕ
fina = 16

abbrev pub fin2 : ℕ
fin2 = 32

abbrev pub fin3 : ℕ
fin3 = 64

abbrev pub medi : ℕ
medi = 128

abbrev pub med2 : ℕ
med2 = 256

abbrev pub init : ℕ
init = 512

abbrev pub masks : FormMasks
masks = record { isol = isol; fina = fina; fin2 = fin2; fin3 = fin3; medi = medi; med2 = med2; init = init }

-- a text, each character in a cluster of its own
abbrev pub items_from : ℕ → List ℕ → List Item
items_from cluster [] = []
items_from cluster (c ∷ cs) = new_item c cluster ∷ items_from (suc cluster) cs

abbrev pub text : List ℕ → Buffer
text cs = record new_buffer { items = items_from 0 cs }

-- between two contexts, in the order of the text
abbrev pub between : List ℕ → List ℕ → List ℕ → Buffer
between before cs after = record (text cs) { pre_context = before; post_context = after }

abbrev pub masks_of : Buffer → List ℕ
masks_of b = map (λ (x : Item). x.mask) b.items

abbrev pub forms : Bool → Buffer → List ℕ
forms mongolian b = masks_of (formed masks mongolian b)

-- flags of glyphs: 1 unsafe to break, 2 unsafe to concat, 4 safe to insert tatweel; and what asks for the last two
abbrev pub flags : ℕ → Buffer → List ℕ
flags asked b = masks_of (marked (record b { flags = record { 0 = asked } }))

abbrev pub concat : ℕ
concat = 64

abbrev pub tatweel : ℕ
tatweel = 128

pub record WorkedForms : Type 0 where
  -- beh joins to both sides
  pub alone : forms false (text (0x628 ∷ [])) ≡ isol ∷ []
  pub three : forms false (text (0x628 ∷ 0x628 ∷ 0x628 ∷ [])) ≡ init ∷ medi ∷ fina ∷ []
  -- alef joins to the letter before it alone: lam and alef, alef and beh, and hamza to none
  pub lam_alef : forms false (text (0x644 ∷ 0x627 ∷ [])) ≡ init ∷ fina ∷ []
  pub alef_beh : forms false (text (0x627 ∷ 0x628 ∷ [])) ≡ isol ∷ isol ∷ []
  pub hamza : forms false (text (0x628 ∷ 0x621 ∷ 0x628 ∷ [])) ≡ isol ∷ 0 ∷ isol ∷ []
  -- a fathatan between two letters is transparent
  pub mark_between : forms false (text (0x628 ∷ 0x64B ∷ 0x628 ∷ [])) ≡ init ∷ 0 ∷ fina ∷ []
  pub mark_first : forms false (text (0x64B ∷ 0x628 ∷ [])) ≡ 0 ∷ isol ∷ []
  -- what stands before the text, after it, and on both sides; a mark of it is transparent, too
  pub before : forms false (between (0x628 ∷ []) (0x628 ∷ []) []) ≡ fina ∷ []
  pub after : forms false (between [] (0x628 ∷ []) (0x628 ∷ [])) ≡ init ∷ []
  pub both_sides : forms false (between (0x627 ∷ 0x628 ∷ []) (0x628 ∷ []) (0x628 ∷ 0x20 ∷ [])) ≡ medi ∷ []
  pub marks_beside : forms false (between (0x628 ∷ 0x64B ∷ []) (0x628 ∷ []) (0x64B ∷ 0x628 ∷ [])) ≡ medi ∷ []
  pub nearest : forms false (between (0x628 ∷ 0x20 ∷ []) (0x628 ∷ []) (0x20 ∷ 0x628 ∷ [])) ≡ isol ∷ []
  pub empty : forms false (between (0x628 ∷ []) [] (0x628 ∷ [])) ≡ []
  -- ZWJ joins, ZWNJ doesn't
  pub joiner_before : forms false (text (0x200D ∷ 0x628 ∷ [])) ≡ init ∷ fina ∷ []
  pub joiner_after : forms false (text (0x628 ∷ 0x200D ∷ [])) ≡ init ∷ fina ∷ []
  pub non_joiner : forms false (text (0x628 ∷ 0x200C ∷ 0x628 ∷ [])) ≡ isol ∷ 0 ∷ isol ∷ []
  -- alaph of Syriac by itself, after beth, between beths, after waw, after dalath and after another
  pub alaph : forms false (text (0x710 ∷ [])) ≡ isol ∷ []
  pub beth_alaph : forms false (text (0x712 ∷ 0x710 ∷ [])) ≡ init ∷ fina ∷ []
  pub in_the_middle : forms false (text (0x712 ∷ 0x710 ∷ 0x712 ∷ [])) ≡ init ∷ med2 ∷ isol ∷ []
  pub waw_alaph : forms false (text (0x718 ∷ 0x710 ∷ [])) ≡ isol ∷ fin2 ∷ []
  pub dalath_alaph : forms false (text (0x715 ∷ 0x710 ∷ [])) ≡ isol ∷ fin3 ∷ []
  pub two_alaphs : forms false (text (0x710 ∷ 0x710 ∷ 0x712 ∷ [])) ≡ isol ∷ isol ∷ isol ∷ []
  -- a variation selector of Mongolian has the form of its letter, in that script alone
  pub selector : forms true (text (0x1828 ∷ 0x180B ∷ 0x1828 ∷ [])) ≡ init ∷ init ∷ fina ∷ []
  pub no_selector : forms false (text (0x1828 ∷ 0x180B ∷ 0x1828 ∷ [])) ≡ init ∷ 0 ∷ fina ∷ []
  -- selectors of Mongolian are U+180B to U+180D and U+180F; U+180E is none
  pub selectors : map is_selector (0x180A ∷ 0x180B ∷ 0x180D ∷ 0x180E ∷ 0x180F ∷ 0x1810 ∷ [])
      ≡ false ∷ true ∷ true ∷ false ∷ true ∷ false ∷ []
  pub mongolian_script : is_mongolian (Some (record { 0 = record { 0 = 0x4D6F6E67 } })) ≡ true
  pub arabic_script : is_mongolian (Some (record { 0 = record { 0 = 0x41726162 } })) ≡ false
  pub no_script : is_mongolian None ≡ false
  -- the masks of a map by the tags isol, fina, fin2, fin3, medi, med2, init
  pub by_tags : masks_by (λ tag. tag.0) ≡ record {
    isol = 0x69736F6C;
    fina = 0x66696E61;
    fin2 = 0x66696E32;
    fin3 = 0x66696E33;
    medi = 0x6D656469;
    med2 = 0x6D656432;
    init = 0x696E6974;
  }
  pub mask_places : mask_list masks ≡ 0 ∷ isol ∷ fina ∷ fin2 ∷ fin3 ∷ medi ∷ med2 ∷ init ∷ []

pub worked_forms : WorkedForms
unfolding joining_type joining_group value_in joining_type_rows joining_group_rows
worked_forms = record {
  alone = refl;
  three = refl;
  lam_alef = refl;
  alef_beh = refl;
  hamza = refl;
  mark_between = refl;
  mark_first = refl;
  before = refl;
  after = refl;
  both_sides = refl;
  marks_beside = refl;
  nearest = refl;
  empty = refl;
  joiner_before = refl;
  joiner_after = refl;
  non_joiner = refl;
  alaph = refl;
  beth_alaph = refl;
  in_the_middle = refl;
  waw_alaph = refl;
  dalath_alaph = refl;
  two_alaphs = refl;
  selector = refl;
  no_selector = refl;
  selectors = refl;
  mongolian_script = refl;
  arabic_script = refl;
  no_script = refl;
  by_tags = refl;
  mask_places = refl;
}

pub record WorkedJoiningFlags : Type 0 where
  -- where letters join, a cut would change both; the first glyph of the two has the least cluster
  pub joined : flags 0 (text (0x628 ∷ 0x628 ∷ [])) ≡ 0 ∷ 3 ∷ []
  pub over_a_mark : flags 0 (text (0x628 ∷ 0x64B ∷ 0x628 ∷ [])) ≡ 0 ∷ 3 ∷ 3 ∷ []
  pub apart : flags 0 (text (0x627 ∷ 0x628 ∷ [])) ≡ 0 ∷ 0 ∷ []
  -- tatweel may stand there, if that is asked for
  pub lengthened : flags tatweel (text (0x628 ∷ 0x628 ∷ [])) ≡ 0 ∷ 4 ∷ []
  pub not_lengthened : flags tatweel (text (0x627 ∷ 0x628 ∷ [])) ≡ 0 ∷ 0 ∷ []
  -- a first letter that would join to another text, a letter after one that doesn't join on, one that would join on
  pub first : flags concat (text (0x628 ∷ [])) ≡ 2 ∷ []
  pub first_after_a_mark : flags concat (text (0x64B ∷ 0x628 ∷ [])) ≡ 2 ∷ 2 ∷ []
  pub after_alef : flags concat (text (0x627 ∷ 0x628 ∷ [])) ≡ 2 ∷ 2 ∷ []
  pub before_hamza : flags concat (text (0x628 ∷ 0x621 ∷ [])) ≡ 2 ∷ 2 ∷ []
  pub none_joins : flags concat (text (0x621 ∷ 0x621 ∷ [])) ≡ 0 ∷ 0 ∷ []
  -- the last letter and what stands after the text
  pub with_context : flags 0 (between [] (0x628 ∷ 0x64B ∷ []) (0x628 ∷ [])) ≡ 0 ∷ 3 ∷ []
  pub context_apart : flags concat (between [] (0x621 ∷ 0x628 ∷ 0x64B ∷ []) (0x621 ∷ [])) ≡ 2 ∷ 2 ∷ 2 ∷ []
  pub no_letter : flags concat (between [] (0x64B ∷ []) (0x628 ∷ [])) ≡ 0 ∷ []
  -- tatweel may follow a letter only up to the next one
  pub up_to_next : flags tatweel (text (0x628 ∷ 0x628 ∷ 0x621 ∷ [])) ≡ 0 ∷ 4 ∷ 0 ∷ []
  pub joined_up_to_next : flags 0 (text (0x628 ∷ 0x628 ∷ 0x627 ∷ 0x621 ∷ [])) ≡ 0 ∷ 3 ∷ 3 ∷ 0 ∷ []
  -- which letters may join back, and after which states the one before may change: HarfBuzz's conditions for "unsafe to concat"
  pub join_back : map joins_back (kind.Apart ∷ kind.Left ∷ kind.Right ∷ kind.Dual ∷ kind.Alaph ∷ kind.DalathRish ∷ [])
      ≡ false ∷ false ∷ true ∷ true ∷ true ∷ true ∷ []
  pub may_change : map may_change_after
      (state.Free ∷ state.Ended ∷ state.Begun ∷ state.Going ∷ state.JoinedAlaph ∷ state.FinalAlaph ∷ state.AfterDalath ∷ [])
      ≡ false ∷ false ∷ true ∷ true ∷ true ∷ true ∷ false ∷ []
  -- a text without a letter that joins on has nothing to mark before what follows it
  pub none_before_context : flags concat (between [] (0x621 ∷ []) (0x628 ∷ [])) ≡ 0 ∷ []
  pub alef_before_context : flags concat (between [] (0x627 ∷ 0x621 ∷ []) (0x628 ∷ [])) ≡ 2 ∷ 0 ∷ []
  -- only the last letter would join to what follows
  pub last_before_context : flags 0 (between [] (0x627 ∷ 0x628 ∷ []) (0x628 ∷ [])) ≡ 0 ∷ 0 ∷ []
  -- an alaph that joins to a beth before the text has another form before a beth; one that joins to nothing hasn't
  pub after_context : flags 0 (between (0x712 ∷ []) (0x710 ∷ 0x712 ∷ []) []) ≡ 0 ∷ 3 ∷ []
  pub after_no_context : flags 0 (text (0x710 ∷ 0x712 ∷ [])) ≡ 0 ∷ 0 ∷ []

pub worked_flags : WorkedJoiningFlags
unfolding joining_type joining_group value_in joining_type_rows joining_group_rows
worked_flags = record {
  joined = refl;
  over_a_mark = refl;
  apart = refl;
  lengthened = refl;
  not_lengthened = refl;
  first = refl;
  first_after_a_mark = refl;
  after_alef = refl;
  before_hamza = refl;
  none_joins = refl;
  with_context = refl;
  context_apart = refl;
  no_letter = refl;
  up_to_next = refl;
  joined_up_to_next = refl;
  join_back = refl;
  may_change = refl;
  none_before_context = refl;
  alef_before_context = refl;
  last_before_context = refl;
  after_context = refl;
  after_no_context = refl;
}
