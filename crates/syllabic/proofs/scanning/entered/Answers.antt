use Rattle.std.proofs.Common.{◌≡◌, ◌==◌, true, drop, ap, sym, subst, ◌∙◌, arith}
use Rattle.std.proofs.lemmas.Bool.Decides.{nat_tests}
use Rattle.syllables.specs.Machines.{by_table}
use Rattle.syllables.specs.Reading.{IsVain, remembered}
use Rattle.syllables.specs.declared.reading.Scan.{Scan}
use Rattle.syllables.proofs.ReadingLemmas.{scan-finds, scan-remembers}
use Rattle.syllabic.specs.Scanning.{categories_of}
use Rattle.syllabic.proofs.ScanningLemmas.{categories-drop, entered-begun}
use Rattle.syllabic.proofs.scanning.entered.Goals as goal

pub returns-clause-numbering : goal.returns-clause-numbering
returns-clause-numbering c =
    let m = c.args.machine in
    let infos = c.args.infos.now in
    let none : (c.args.walk.numbering.left == 0) ≡ true = grind (arith, nat_tests) in
    c.begun.ensures
    ∙ entered-begun (by_table m) c.args.walk.numbering (drop c.args.i infos) c.scan-scan.result.found none
    (ap (λ (s : Scan). s.found) c.scan-scan.ensures
    ∙ scan-finds m (categories_of infos) c.args.walk.vain c.args.i c.requires.vain
    ∙ ap (by_table m) (categories-drop c.args.i infos))

pub returns-clause-vain : goal.returns-clause-vain
returns-clause-vain c =
    let m = c.args.machine in
    let xs = categories_of c.args.infos.now in
    subst (λ v. IsVain m xs v) (sym (c.remembered.ensures ∙ ap (λ s. remembered s c.args.walk.vain) c.scan-scan.ensures))
    (scan-remembers m xs c.args.walk.vain c.args.i c.requires.vain)
