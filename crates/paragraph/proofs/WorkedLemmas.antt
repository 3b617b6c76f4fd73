-- rows that speak of any face
use Rattle.std.proofs.Common.{refl}
use Rattle.shape_font.specs.Bytes.{i16_of}
use Rattle.shape_font.specs.LinesAt.{ascent_of, descent_of}
use Rattle.paragraph.specs.Worked.{WorkedFaces}

pub worked_faces : WorkedFaces
unfolding i16_of ascent_of descent_of
worked_faces = record {
  plain = λ face none sizeless units os2 hhea. rw (none, sizeless, units, os2, hhea) refl;
  designed = λ face none sizeless units os2. rw (none, sizeless, units, os2) refl;
}
