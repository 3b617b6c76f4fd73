use Rattle.std.proofs.Common.{sym, ap, ◌&&◌, not}
use Rattle.shape_unicode.proofs.RangeLemmas.{basic_selectors, early_selectors, no_selector_between}
use Rattle.shape_unicode.specs.Hidden.{is_mongolian}
use Rattle.shape_unicode.proofs.hidden.is_selector.Goals as goal

pub returns-then-c-lt65024 : goal.returns-then-c-lt65024
returns-then-c-lt65024 c = sym (early_selectors c.args.c c.if-c-lt65024.true)

pub returns-then-is_between_selectors : goal.returns-then-is_between_selectors
returns-then-is_between_selectors c =
    sym (ap (λ selector. selector && not (is_mongolian c.args.c)) (no_selector_between c.args.c (sym c.if-is_between_selectors.ensures)))

pub returns-then-is_basic_selector : goal.returns-then-is_basic_selector
returns-then-is_basic_selector c = sym (basic_selectors c.args.c (sym c.if-is_basic_selector.ensures))
