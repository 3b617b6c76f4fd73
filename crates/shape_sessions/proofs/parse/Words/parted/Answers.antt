use Rattle.std.proofs.Common.{◌≡◌, true, lit<, arith}
use Rattle.std.proofs.lemmas.Bool.Decides.{nat_tests}
use Rattle.shape_sessions.proofs.WordLemmas.{EndsClear, BeginsClear, lacks_slash, lacks_lone_slash, has_lone_slash}
use Rattle.shape_sessions.proofs.parse.Words.parted.Goals.{then-is_empty, else-is_empty, then-is_empty-2, else-is_empty-2, else-ends-via-then-ends+else-begins, else-ends-via-else-ends}
use Rattle.shape_sessions.proofs.parse.Words.parted.Goals as goal

pub returns-in_err-first : goal.returns-in_err-first
returns-in_err-first c = rw c.from_residual.ensures (lacks_slash c.args.self.rest.now c.in_err-first.ensures.cases)

pub returns-then-begins : goal.returns-then-begins
returns-then-begins c =
    let ends : EndsClear c.in_ok-first.first.now = elim c.if-is_empty.branch [
      | then-is_empty w ↦ λ some. grind (arith, nat_tests)
      | else-is_empty w ↦ λ some. let test = w.ends_with-ends.ensures.byte (lit< tt) (lit< tt) (λ text cut h. h) in grind (arith, nat_tests)
    ] in
    let begins : BeginsClear c.in_ok-first.second.now = elim c.if-is_empty-2.branch [
      | then-is_empty-2 w ↦ λ some. grind (arith, nat_tests)
      | else-is_empty-2 w ↦ λ some. let test = w.starts_with-begins.ensures.byte (lit< tt) (lit< tt) (λ text cut h. h) in grind
          (arith, nat_tests)
    ] in
    let parted = has_lone_slash c.args.self.rest.now (c.in_ok-first.first, c.in_ok-first.second) c.in_ok-first.ensures.cases ends begins in
    rw (c.new.ensures, c.new-then-begins.ensures) parted

pub returns-else-ends : goal.returns-else-ends
returns-else-ends c =
    lacks_lone_slash c.args.self.rest.now (c.in_ok-first.first, c.in_ok-first.second) c.in_ok-first.ensures.cases (λ ends begins.
    let ends_true : c.if-is_empty.ends ≡ true = elim c.if-is_empty.branch [
      | then-is_empty w ↦ grind (arith, nat_tests)
      | else-is_empty w ↦ let test = w.ends_with-ends.ensures.byte (lit< tt) (lit< tt) (λ text cut h. h) in grind (arith, nat_tests)
    ] in
    let begins_true : c.if-is_empty-2.begins ≡ true = elim c.if-is_empty-2.branch [
      | then-is_empty-2 w ↦ grind (arith, nat_tests)
      | else-is_empty-2 w ↦ let test = w.starts_with-begins.ensures.byte (lit< tt) (lit< tt) (λ text cut h. h) in grind (arith, nat_tests)
    ] in
    elim c.else-ends.branch [
      | else-ends-via-then-ends+else-begins w ↦ grind arith
      | else-ends-via-else-ends w ↦ grind arith
    ])
