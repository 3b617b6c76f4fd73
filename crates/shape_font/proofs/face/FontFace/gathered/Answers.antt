use Rattle.std.proofs.Common.{◌≡◌, ◌∙◌, Some, false, nat_le, length, sym, ap, arith}
use Rattle.std.proofs.lemmas.Bool.Decides.{nat_tests}
use Rattle.std.specs.Option.{option_map}
use Rattle.shape_font.specs.BoxesAt.{part_step, gathered}
use Rattle.shape_font.proofs.BoxLemmas.{parts_next}
use Rattle.shape_font.proofs.face.FontFace.gathered.Goals as goal

pub loop-part-preserved : goal.loop-part-preserved
loop-part-preserved c =
    let f = c.args.self.now in
    let i = c.loop-part.part in
    let here = gathered c.loop-part.gathering in
    let there = gathered c.add_part.new.gathering in
    let more : nat_le (length c.loop-part.gathering.parts.items) i ≡ false = grind (arith, nat_tests, c.len.ensures.value, c.if-len-part.false) in
    let is : part_step f i here ≡ Some there = sym c.add_part.ensures ∙ ap (option_map (λ _. there)) c.in_ok-add_part.was in
    sym (parts_next f c.args.most i here there c.loop-part-test.true more is) ∙ c.loop-part.invariant
