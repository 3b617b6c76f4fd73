use Rattle.std.proofs.Common.{◌≡◌, ◌-◌}
use Rattle.shape_font.specs.BoxesAt as boxes
use Rattle.shape_font.proofs.face.FontFace.gathered.Given as goal

abbrev pub invariant-loop-part : goal.invariant-loop-part
invariant-loop-part l = boxes.parts_from l.self (l.most - l.part) l.part (boxes.gathered l.gathering)
    ≡ boxes.parts_from l.self l.most 0 (boxes.gathered l.initial.gathering)
