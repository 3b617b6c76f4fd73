use Rattle.std.proofs.Common.{rules}
use Rattle.arabic_fallback.specs.Forms.{formed}
use Rattle.arabic_fallback.proofs.forms.put_listed.Goals as goal

pub returns : goal.returns
returns c = c.update_items.ensures (formed c.args.rule c.args.rows.now) (λ x y said. search rules)
