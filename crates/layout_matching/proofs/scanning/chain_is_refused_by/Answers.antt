use Rattle.std.proofs.Common.{◌≡◌, ◌<◌, ◌≤◌, ◌+◌, false, nat_eq, refl, arith}
use Rattle.std.proofs.lemmas.Bool.Decides.{nat_tests}
use Rattle.shape_font.specs.Bytes.{u16_of}
use Rattle.layout_matching.proofs.NearestLemmas.{not_true}
use Rattle.layout_matching.proofs.ScanLemmas.{told_before, told_input, told_after}
use Rattle.layout_matching.proofs.scanning.chain_is_refused_by.Goals as goal

pub returns-then-word-gt0 : goal.returns-then-word-gt0
returns-then-word-gt0 c = λ unlike g tells.
    let t = c.args.table.now in
    let v = c.args.values.now.before in
    let some : 0 < u16_of t c.args.place = grind (arith, nat_tests, c.if-word-gt0.true, c.word.ensures) in
    let differs : nat_eq c.from.result v ≡ false = not_true (nat_eq c.from.result v) unlike in
    let other : nat_eq v (u16_of t (c.args.place + 2)) ≡ false =
    grind (arith, nat_tests, differs, c.from.ensures, c.word-then-word-gt0.ensures) in
    told_before t v c.args.place g (tells.before refl) c.requires.near some other

pub returns-then-word-gt1 : goal.returns-then-word-gt1
returns-then-word-gt1 c = λ unlike g tells.
    let t = c.args.table.now in
    let v = c.args.values.now.input in
    let none : u16_of t c.args.place ≡ 0 = grind (arith, nat_tests, c.if-word-gt0.false, c.word.ensures) in
    let two : 1 < u16_of t (c.args.place + 2) = grind (arith, nat_tests, c.if-word-gt1.true, c.word-2.ensures) in
    let differs : nat_eq c.from-then-word-gt1.result v ≡ false = not_true (nat_eq c.from-then-word-gt1.result v) unlike in
    let other : nat_eq v (u16_of t (c.args.place + 4)) ≡ false =
    grind (arith, nat_tests, differs, c.from-then-word-gt1.ensures, c.word-then-word-gt1.ensures) in
    told_input t v c.args.place g tells.input c.requires.near none two other

pub returns-then-word-gt0-2 : goal.returns-then-word-gt0-2
returns-then-word-gt0-2 c = λ unlike g tells.
    let t = c.args.table.now in
    let v = c.args.values.now.after in
    let none : u16_of t c.args.place ≡ 0 = grind (arith, nat_tests, c.if-word-gt0.false, c.word.ensures) in
    let one : u16_of t (c.args.place + 2) ≤ 1 = grind (arith, nat_tests, c.if-word-gt1.false, c.word-2.ensures) in
    let some : 0 < u16_of t (c.args.place + 4) = grind (arith, nat_tests, c.if-word-gt0-2.true, c.word-3.ensures) in
    let differs : nat_eq c.from-then-word-gt0-2.result v ≡ false = not_true (nat_eq c.from-then-word-gt0-2.result v) unlike in
    let other : nat_eq v (u16_of t (c.args.place + 6)) ≡ false =
    grind (arith, nat_tests, differs, c.from-then-word-gt0-2.ensures, c.word-then-word-gt0-2.ensures) in
    told_after t v c.args.place g (tells.after refl) c.requires.near none one some other
