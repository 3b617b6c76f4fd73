use Rattle.std.proofs.Common.{◌∙◌, ◌-◌, length, drop, ap, arith}
use Rattle.std.proofs.lemmas.List.{length-drop, take_all}
use Rattle.utf16_text.specs.Utf16.{utf16_before}
use Rattle.utf16_text.proofs.BesideLemmas.{before_by_ten}
use Rattle.utf16_text.proofs.last_units.Goals as goal

pub returns : goal.returns
returns c =
    let text = c.args.text.now in
    let n = c.saturating_sub.result in
    ap utf16_before (take_all (length text - n) (drop n text) (omega (arith, length-drop n text)))
    ∙ before_by_ten text n c.saturating_sub.ensures
