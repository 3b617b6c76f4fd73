-- Where syllables begin and end, and dotted circles in broken ones.
use Rattle.std.specs.Prelude.{◌==◌, ◌&&◌, Bool, Some}
use Rattle.shape_items.specs.Buffer.{Buffer}
use Rattle.shape_items.specs.Items.{Item}
use Rattle.shape_common.specs.declared.general_category.hb_unicode_general_category_t.TheVariants.{Control}
use Rattle.syllables.specs.Grammar.{first_syllable}
use Rattle.syllables.specs.IndicGrammar.{indic_grammar}
use Rattle.syllabic.specs.Scanning.{syllables_numbered}
use Rattle.syllabic.specs.Walking.{each_syllable, marked}
use Rattle.syllabic.specs.declared.circles.Circled.{Circled}
use Rattle.indic_shaper.specs.Categories.{categorized}
use Rattle.indic_shaper.specs.Glyphs.{category, position}
use Rattle.indic_shaper.specs.declared.categories.TheConstants.{CAT_DOTTEDCIRCLE, CAT_REPHA, POS_START, POS_END}
use Rattle.indic_shaper.specs.declared.cutting.TheConstants.{BROKEN, OTHER}

-- each character has its category, each syllable its number, and none may be broken
abbrev pub syllables_found : Buffer → Buffer
syllables_found b = each_syllable marked (syllables_numbered (first_syllable indic_grammar OTHER) 0 (categorized b))

-- a broken syllable gets a circle, after a reph that it begins with
abbrev pub circled : Circled
circled = record { kind = BROKEN; category = CAT_DOTTEDCIRCLE; repha = Some CAT_REPHA }

-- a circle that has no position yet: a circle of the text has one by its character
abbrev pub is_new_circle : Item → Bool
is_new_circle item = (category item == CAT_DOTTEDCIRCLE) && (position item == POS_START)

-- it stands at the end until its place is known, and is no letter
abbrev pub as_circle : Item → Item
as_circle item = record item { properties = record item.properties { shaper_auxiliary = POS_END; general_category = Control } }
