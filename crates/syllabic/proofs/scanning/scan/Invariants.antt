use Rattle.std.proofs.Common.{◌≡◌, false, drop}
use Rattle.syllables.specs.Reading.{read_all, scan_at}
use Rattle.syllabic.specs.Scanning.{categories_of}
use Rattle.syllabic.proofs.scanning.scan.Given as goal

-- the rest of the text makes of the scan what the whole text does
abbrev pub invariant-loop-i : goal.invariant-loop-i
invariant-loop-i l = record {
  left : read_all l.machine l.vain l.scan l.i (categories_of (drop l.i l.infos)) ≡ scan_at l.machine l.vain l.place (categories_of l.infos);
  over : l.scan.over ≡ false;
}
