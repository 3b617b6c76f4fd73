use Rattle.std.proofs.Common.{◌≡◌, ap, ◌∙◌, arith}
use Rattle.letter_joining.specs.Flags.{marked}
use Rattle.letter_joining.proofs.texts.join_all.Goals as goal

pub returns : goal.returns
returns c =
    let first = c.form_all.ensures in
    let second = c.mark_all.ensures in
    record {
      made = second.made ∙ ap marked first.made;
      no_longer = omega (arith, first.no_longer, second.no_longer);
      same_limit = second.same_limit ∙ first.same_limit;
    }
