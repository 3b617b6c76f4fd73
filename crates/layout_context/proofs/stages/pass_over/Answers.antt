use Rattle.std.proofs.Common.{◌≡◌, ℕ, ◌+◌, ◌<◌, ◌≤◌, true, false, length, ap, ◌∙◌, subst, arith}
use Rattle.std.proofs.lemmas.Bool.Decides.{nat_tests}
use Rattle.shape_items.specs.Items.{Item}
use Rattle.layout_matching.specs.Skipping.{nth}
use Rattle.layout_substitution.specs.Edits.{is_past}
use Rattle.layout_context.specs.Digested.{meets}
use Rattle.layout_context.specs.Stages.{Walk}
use Rattle.layout_context.proofs.DigestLemmas.{met_on, steps_over, steps_outside, steps_passed}
use Rattle.layout_context.proofs.stages.pass_over.Goals as goal
use Rattle.layout_context.proofs.stages.pass_over.Goals.{then-length_limit-len-via-then-length_limit-len, then-length_limit-len-via-else-length_limit-len+then-len-spot}

pub returns-then-length_limit-len-clause-passed : goal.returns-then-length_limit-len-clause-passed
returns-then-length_limit-len-clause-passed c = λ levels.
    let d = c.args.named.now in
    let s : Walk = record { buffer = c.args.buffer.now; spot = c.args.spot } in
    let same : length c.items-items.result ≡ length s.buffer.items = ap length c.items-items.ensures in
    elim c.then-length_limit-len.branch [
      | then-length_limit-len-via-then-length_limit-len w ↦ steps_over levels d.lookup s c.args.most
          (grind (arith, nat_tests, same, w.if-length_limit-len.true, c.length_limit.ensures, c.len.ensures))
      | then-length_limit-len-via-else-length_limit-len+then-len-spot w ↦ steps_outside levels d.lookup s c.args.most
          (grind (arith, nat_tests, same, w.len-else-length_limit-len.ensures, w.if-len-spot.true))
    ]

pub returns-clause-passed : goal.returns-clause-passed
returns-clause-passed c =
    let d = c.args.named.now in
    let b = c.args.buffer.now in
    let at = c.args.spot.at in
    let n = c.unmet-steps.result in
    let piece = c.piece-piece.result.now in
    let same : length c.items-items.result ≡ length b.items = ap length c.items-items.ensures in
    let within : is_past b ≡ false = grind (arith, nat_tests, same, c.if-length_limit-len.false, c.length_limit.ensures, c.len.ensures) in
    let least : n ≤ length piece = omega (arith, c.unmet-steps.ensures.few, c.min-count.ensures) in
    let inside : at + n ≤ length b.items = omega (arith, same, least, c.piece-piece.ensures.few) in
    let free : (j : ℕ) → j < n → meets d (nth b.items (at + j)) ≡ false = λ j below.
    let read : nth piece j ≡ nth b.items (at + j) = c.piece-piece.ensures.items j (omega (arith, below, least))
    ∙ ap (λ xs. nth xs (at + j)) c.items-items.ensures in
    subst (λ (y : Item). meets d y ≡ false) read (c.unmet-steps.ensures.free j below) in
    λ levels. steps_passed d b c.args.spot n levels c.requires.said within inside free

pub returns-clause-on : goal.returns-clause-on
returns-clause-on c = λ more.
    let d = c.args.named.now in
    let b = c.args.buffer.now in
    let at = c.args.spot.at in
    let n = c.unmet-steps.result in
    let piece = c.piece-piece.result.now in
    let less : n < c.min-count.result = grind (arith, nat_tests, more) in
    let read : nth piece n ≡ nth b.items (at + n) = c.piece-piece.ensures.items n (omega (arith, less, c.min-count.ensures))
    ∙ ap (λ xs. nth xs (at + n)) c.items-items.ensures in
    met_on d (nth b.items (at + n)) (subst (λ (y : Item). meets d y ≡ true) read (c.unmet-steps.ensures.met less))
