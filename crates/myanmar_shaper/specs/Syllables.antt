-- The syllables of a text: the first one of the text, the first one of the rest, and so on.
use Rattle.shape_items.specs.Buffer.{Buffer}
use Rattle.syllabic.specs.Categories.{categorized}
use Rattle.syllabic.specs.Scanning.{syllables_numbered}
use Rattle.syllabic.specs.Walking.{each_syllable, marked}
use Rattle.syllables.specs.Grammar.{first_syllable}
use Rattle.syllables.specs.MyanmarGrammar.{myanmar_grammar}

abbrev pub numbered : Buffer → Buffer
numbered b = syllables_numbered (first_syllable myanmar_grammar 2) 0 b

abbrev pub found : Buffer → Buffer
found b = each_syllable marked (numbered (categorized b))
