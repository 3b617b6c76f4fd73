use Rattle.std.proofs.Common.{◌≡◌, ◌<◌, ◌+◌, false, nat_eq, arith}
use Rattle.std.proofs.lemmas.Bool.Decides.{nat_tests}
use Rattle.shape_font.specs.Bytes.{u16_of}
use Rattle.layout_matching.proofs.NearestLemmas.{not_true}
use Rattle.layout_matching.proofs.ScanLemmas.{told_second}
use Rattle.layout_matching.proofs.scanning.plain_is_refused_by.Goals as goal

pub returns-then-word-gt1 : goal.returns-then-word-gt1
returns-then-word-gt1 c = λ unlike g tells.
    let t = c.args.table.now in
    let v = c.args.values.now.input in
    let two : 1 < u16_of t c.args.place = grind (arith, nat_tests, c.if-word-gt1.true, c.word.ensures) in
    let differs : nat_eq c.from.result v ≡ false = not_true (nat_eq c.from.result v) unlike in
    let other : nat_eq v (u16_of t (c.args.place + 4)) ≡ false =
    grind (arith, nat_tests, differs, c.from.ensures, c.word-then-word-gt1.ensures) in
    told_second t v c.args.place g tells.input c.requires.near two other
