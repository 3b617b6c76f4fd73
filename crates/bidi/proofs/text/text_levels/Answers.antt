use Rattle.std.proofs.Common.{◌≡◌, ◌≤◌, length, subst, sym}
use Rattle.std.specs.List.{All}
use Rattle.bidi.proofs.LevelLemmas.{length_text, text_within}
use Rattle.bidi.proofs.text.text_levels.Goals as goal

pub returns-clause-count : goal.returns-clause-count
returns-clause-count c =
    subst (λ l. length l ≡ length c.args.text.now) (sym c.in_ok-made.ensures.levels) (length_text c.args.base c.args.text.now)

pub returns-clause-within : goal.returns-clause-within
returns-clause-within c = subst (All (λ level. level ≤ 126)) (sym c.in_ok-made.ensures.levels) (text_within c.args.base c.args.text.now)
