use Rattle.std.proofs.Common.{sym, ◌∙◌}
use Rattle.text_items.proofs.SettledLemmas.{settled_same}
use Rattle.text_items.proofs.scripts.settled.Goals as goal

pub returns-then-is_same_script : goal.returns-then-is_same_script
returns-then-is_same_script c =
    settled_same c.args.cluster.now c.args.current (sym c.is_explicit.ensures ∙ c.if-is_explicit.true) (sym c.is_same_script.ensures ∙ c.if-is_same_script.true)
