use Rattle.std.proofs.Common.{◌+◌, drop, ap, sym, ◌∙◌}
use Rattle.syllables.specs.Reading.{read_one, read_all, begun}
use Rattle.syllables.specs.declared.reading.Scan.{Scan}
use Rattle.syllabic.specs.Scanning.{categories_of}
use Rattle.syllabic.proofs.ScanningLemmas.{categories-drop, scan-ends}
use Rattle.syllabic.proofs.scanning.scan.Goals as goal

pub loop-i-init : goal.loop-i-init
loop-i-init c =
    let m = c.args.machine in
    let infos = c.args.infos.now in
    record {
      left = ap (λ (s : Scan). read_all m c.args.vain s c.args.place (categories_of (drop c.args.place infos))) c.begin-scan.ensures
          ∙ ap (read_all m c.args.vain (begun m c.args.place) c.args.place) (sym (categories-drop c.args.place infos));
      over = ap (λ (s : Scan). s.over) c.begin-scan.ensures;
    }

pub returns-then-scan : goal.returns-then-scan
returns-then-scan c =
    scan-ends c.args.machine c.args.vain c.loop-i.scan c.loop-i.i c.args.infos.now c.index-infos-i.result c.read-scan.result
    c.loop-i-test.true c.index-infos-i.is c.loop-i.invariant.over
    (c.read-scan.ensures
    ∙ ap (λ category. read_one c.args.machine c.args.vain c.loop-i.scan category (c.loop-i.i + 1)) c._hb_glyph_info_get_shaper_category-category.ensures) c.if-scan.true
    ∙ c.loop-i.invariant.left
