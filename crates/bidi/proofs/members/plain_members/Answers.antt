use Rattle.std.proofs.Common.{◌≡◌, ◌+◌, [], ◌++◌, ◌∙◌, get_or, drop, ap, sym, arith}
use Rattle.std.proofs.lemmas.List.{append-nil, drop_all}
use Rattle.bidi.proofs.PlainLemmas.{members_are, plain_from, plain_left, plain_removed}
use Rattle.bidi.proofs.members.plain_members.Goals as goal

pub loop-i-preserved-then-is_removed : goal.loop-i-preserved-then-is_removed
loop-i-preserved-then-is_removed c =
    plain_removed c.args.base c.loop-i.i c.args.text.now c.args.classes.now c.loop-i.members.items
    (omega arith) (omega arith) (sym c.is_removed.ensures ∙ c.if-is_removed.true) ∙ c.loop-i.invariant

pub loop-i-preserved : goal.loop-i-preserved
loop-i-preserved c =
    let n = c.loop-i.i in
    let text = c.args.text.now in
    let cs = c.args.classes.now in
    let x = c.index-text-i.result in
    let item : x ≡ get_or text n x = cc in
    ap (λ l. l ++ plain_from c.args.base (n + 1) (drop (n + 1) text) (drop (n + 1) cs)) c.in_ok-push.ensures.items
    ∙ plain_left c.args.base n text cs c.loop-i.members.items (omega arith) (omega arith) x (sym item)
    (sym c.is_removed.ensures ∙ c.if-is_removed.false) ∙ c.loop-i.invariant

pub returns : goal.returns
returns c =
    let text = c.args.text.now in
    let done : drop c.loop-i.i text ≡ [] = drop_all c.loop-i.i text (omega arith) in
    sym (append-nil c.loop-i.members.items)
    ∙ ap (λ l. c.loop-i.members.items ++ plain_from c.args.base c.loop-i.i l (drop c.loop-i.i c.args.classes.now)) (sym done)
    ∙ c.loop-i.invariant ∙ sym (members_are c.args.base text c.args.classes.now c.requires.plain)
