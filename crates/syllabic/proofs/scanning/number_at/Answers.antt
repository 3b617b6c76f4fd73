use Rattle.std.proofs.Common.{ap, sym, subst, ◌∙◌}
use Rattle.shape_items.specs.Buffer.{Buffer}
use Rattle.syllables.specs.Reading.{IsVain}
use Rattle.syllabic.specs.Scanning.{categories_of}
use Rattle.syllabic.proofs.ScanningLemmas.{categories-put}
use Rattle.syllabic.proofs.scanning.number_at.Goals as goal

pub returns-clause-vain : goal.returns-clause-vain
returns-clause-vain c =
    subst (λ xs. IsVain c.args.machine xs c.entered-here.result.vain)
    (ap categories_of c.infos.ensures
    ∙ sym (categories-put c.entered-here.result.numbering.byte c.args.i c.args.buffer.now)
    ∙ ap (λ (b : Buffer). categories_of b.items) (sym c.put_in_syllable.ensures.made))
    c.entered-here.ensures.vain
