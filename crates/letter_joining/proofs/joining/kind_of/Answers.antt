use Rattle.std.proofs.Common.{◌≡◌, ◌+◌, ◌-◌, ◌<◌, ◌≤◌, ap, sym, ◌∙◌, arith}
use Rattle.std.proofs.lemmas.Bool.Decides.{nat_tests}
use Rattle.letter_joining.specs.Joining.{kind_of}
use Rattle.letter_joining.proofs.KindLemmas.{early, listed}
use Rattle.letter_joining.proofs.joining.kind_of.Goals as goal

pub returns-then-is_in_table : goal.returns-then-is_in_table
returns-then-is_in_table c =
    let inside = c.if-is_in_table.ensures in
    let from : 0x600 ≤ c.args.c = grind (arith, nat_tests, inside) in
    let to : c.args.c < 0x780 = grind (arith, nat_tests, inside) in
    let back : 0x600 + (c.args.c - 0x600) ≡ c.args.c = omega (arith, from) in
    listed (c.args.c - 0x600) (omega (arith, from, to)) ∙ ap kind_of back

pub returns-then-is_early : goal.returns-then-is_early
returns-then-is_early c =
    let before = c.if-is_early.ensures in
    let below : c.args.c < 0xAD = grind (arith, nat_tests, before) in
    sym (early c.args.c below)
