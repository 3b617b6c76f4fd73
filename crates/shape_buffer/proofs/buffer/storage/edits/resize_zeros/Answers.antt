use Rattle.std.proofs.Common.{◌≡◌, ◌-◌, ◌++◌, ◌∙◌, length, take, replicate, refl, inl, inr, arith}
use Rattle.std.specs.Result.{is_ok}
use Rattle.std.specs.Vec.{vec_len}
use Rattle.std.proofs.lemmas.Grind.{common_steps}
use Rattle.std.specs.Bool.{if◌then◌else◌}
use Rattle.std.proofs.lemmas.Bool.{cases_Bool}
use Rattle.shape_common.specs.Positions.{zero_position}
use Rattle.shape_buffer.proofs.FillLemmas.{resized_filled}
use Rattle.shape_buffer.proofs.buffer.storage.edits.resize_zeros.Goals as goal

pub returns-clause-zeros : goal.returns-clause-zeros
returns-clause-zeros c = λ one.
    let old = c.args.positions.now.items in
    let new = c.resize.new.self.items in
    let count = c.args.count in
    let longer = take count old ++ replicate (count - length old) zero_position in
    let len : vec_len c.args.positions.now ≡ length old = grind (arith, common_steps) in
    let zero = c.zero.ensures in
    let items = c.resize.ensures.items in
    let made : new ≡ (if is_ok c.resize.result then longer else old) = cc in
    elim (cases_Bool (is_ok c.resize.result)) [
      | inl done ↦ resized_filled old new count zero_position one (made ∙ rw done refl)
      | inr refused ↦ let same : new ≡ old = made ∙ rw refused refl in rw same one
    ]
