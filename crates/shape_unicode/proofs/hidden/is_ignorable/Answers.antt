use Rattle.std.proofs.Common.{sym, ap, ◌∙◌, ◌&&◌, not}
use Rattle.shape_unicode.specs.Hidden.{is_seen_though_ignorable}
use Rattle.shape_unicode.proofs.RangeLemmas.{seen_early, seen_next, seen_between, seen_middle, seen_late, unseen_early, unseen_selectors}
use Rattle.shape_unicode.proofs.hidden.is_ignorable.Goals as goal

pub returns-then-is_seen_early : goal.returns-then-is_seen_early
returns-then-is_seen_early c =
    sym (ap (λ ignorable. ignorable && not (is_seen_though_ignorable c.args.c)) (seen_early c.args.c (sym c.if-is_seen_early.ensures)))

pub returns-then-is_seen_next : goal.returns-then-is_seen_next
returns-then-is_seen_next c = sym (seen_next c.args.c (sym c.if-is_seen_next.ensures))

pub returns-then-is_seen_between : goal.returns-then-is_seen_between
returns-then-is_seen_between c =
    sym (ap (λ ignorable. ignorable && not (is_seen_though_ignorable c.args.c)) (seen_between c.args.c (sym c.if-is_seen_between.ensures)))

pub returns-then-is_unseen_early : goal.returns-then-is_unseen_early
returns-then-is_unseen_early c = sym (unseen_early c.args.c (sym c.if-is_unseen_early.ensures))

pub returns-then-is_seen_late : goal.returns-then-is_seen_late
returns-then-is_seen_late c =
    sym (ap (λ ignorable. ignorable && not (is_seen_though_ignorable c.args.c)) (seen_late c.args.c (sym c.if-is_seen_late.ensures)))

pub returns-then-is_seen_middle : goal.returns-then-is_seen_middle
returns-then-is_seen_middle c = sym (seen_middle c.args.c (sym c.if-is_seen_middle.ensures))

pub returns-then-is_basic_selector : goal.returns-then-is_basic_selector
returns-then-is_basic_selector c = sym (unseen_selectors c.args.c (sym c.if-is_basic_selector.ensures))
