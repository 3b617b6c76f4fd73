-- What a font of letters says of itself.
use Rattle.test_lines.specs.declared.letters.LetterFont.{LetterFont}
use Rattle.text_lines.specs.Reach.{FontReach}

abbrev pub reach_of_letters : LetterFont → FontReach
reach_of_letters font = record { units = font.units; above = font.above; below = font.below }
