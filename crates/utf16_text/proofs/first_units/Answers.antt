use Rattle.std.proofs.Common.{arith}
use Rattle.utf16_text.proofs.BesideLemmas.{after_by_ten}
use Rattle.utf16_text.proofs.first_units.Goals as goal

pub returns : goal.returns
returns c = after_by_ten c.args.text.now c.min.result (omega arith) (λ few. omega arith)
